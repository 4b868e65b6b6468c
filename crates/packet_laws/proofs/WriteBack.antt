-- An accepted packet, read and written again, is the same but for padding and the Reserved octet.
-- Assumes nothing.
use Prim.Native.Nat.{ℕ, ◌+◌, ◌*◌, ◌/◌, ◌%◌, ◌≤◌, ◌<◌}
use mathlib.Core.Path.{◌≡◌, refl, sym, ap, ◌∙◌}
use mathlib.Core.List.{List, [], ◌∷◌, ◌++◌}
use mathlib.Core.Bool.{Bool, true, false, cond}
use native.Mathlib.Omega.{arith}
use borrow.Author.Tests.{ne_eqb, eqb-true, eqb-false}
use lib.ListN.{length, get_or, take, drop, set}
use lib.Seq.{length-take-le, take-append-add, get_or-drop, get_or-take, set-get_or}
use Rattle.lists.proofs.Choices.{by_bool}
use Rattle.lists.proofs.Fronts.{front_ind}
use Rattle.lists.proofs.Tables.{tests}
use Rattle.std.proofs.lemmas.Grind.{common_steps}
use Rattle.packet.specs.Octets.{be16, Octets}
use Rattle.packet.specs.Layout.{version_in, command_in, identifier_in, length_in, data_in, is_add, is_response, address_length_in, status_in, station_in, sequence_in, context_length_in}
use Rattle.reader.specs.Read.{read_of, context_of}
use Rattle.reader.proofs.Steps.{PacketOk, packet_ok, packet_taken}
use Rattle.writer.specs.Write.{size_for, octets_of, write_to}
use Rattle.writer.proofs.Writing.{add_fields, move_fields}
use Rattle.packet_laws.specs.RoundTrip.{fields_of_octets, restored}
use Rattle.packet_laws.proofs.Written.{Accepts, written}

-- two octets, made one number and taken apart again
high : (a b : ℕ) → b < 256 → (a * 256 + b) / 256 ≡ a
high a b h = omega arith

low : (a b : ℕ) → b < 256 → (a * 256 + b) % 256 ≡ b
low a b h = omega arith

add_back : (s : List ℕ) → 16 ≤ length s → Octets s → version_in s ≡ 0 → command_in s ≡ 0 → length_in s ≡ 16 → address_length_in (data_in s) ≡ 6
    → octets_of (add_fields (identifier_in s) (station_in (data_in s)) (sequence_in (data_in s))) ≡ set (take 16 s) 7 0
unfolding octets_of be16
add_back s h =
    front_ind 16
    (λ (s : List ℕ). Octets s → version_in s ≡ 0 → command_in s ≡ 0 → length_in s ≡ 16 → address_length_in (data_in s) ≡ 6
    → octets_of (add_fields (identifier_in s) (station_in (data_in s)) (sequence_in (data_in s))) ≡ set (take 16 s) 7 0)
    (λ b0 b1 b2 b3 b4 b5 b6 b7 b8 b9 b10 b11 b12 b13 b14 b15 l g v c n a.
    let n4 : 0 ≡ b4 = omega (arith, g 5) in
    let n5 : 16 ≡ b5 = omega (arith, g 5) in
    λ k.
    sym v k ∷ sym c k ∷ high b2 b3 (g 3) k ∷ low b2 b3 (g 3) k ∷ n4 k ∷ n5 k ∷ sym a k ∷ 0
    ∷ b8 ∷ b9 ∷ b10 ∷ b11 ∷ b12 ∷ b13 ∷ high b14 b15 (g 15) k ∷ low b14 b15 (g 15) k ∷ [])
    s h

move_back : (c t : ℕ) (s : List ℕ) → 18 ≤ length s → Octets s → (c ≡ 0 → ⊥) → version_in s ≡ 0 → command_in s ≡ c → address_length_in (data_in s) ≡ 6
    → length_in s ≤ length s → length_in s ≡ 18 + context_length_in (data_in s)
    → octets_of (move_fields c t (identifier_in s) (station_in (data_in s)) (sequence_in (data_in s)) (take (context_length_in (data_in s)) (drop 18 s))) ≡ set (take (length_in s) s) 7 t
unfolding octets_of be16
move_back c t s h =
    front_ind 18
    (λ (s : List ℕ). Octets s → (c ≡ 0 → ⊥) → version_in s ≡ 0 → command_in s ≡ c → address_length_in (data_in s) ≡ 6 → length_in s ≤ length s → length_in s ≡ 18 + context_length_in (data_in s)
    → octets_of (move_fields c t (identifier_in s) (station_in (data_in s)) (sequence_in (data_in s)) (take (context_length_in (data_in s)) (drop 18 s))) ≡ set (take (length_in s) s) 7 t)
    (λ b0 b1 b2 b3 b4 b5 b6 b7 b8 b9 b10 b11 b12 b13 b14 b15 b16 b17 l g hc v e a r n.
    let m : length (take (b16 * 256 + b17) l) ≡ b16 * 256 + b17 = length-take-le (b16 * 256 + b17) l (omega arith) in
    let f : List ℕ = b0 ∷ b1 ∷ b2 ∷ b3 ∷ b4 ∷ b5 ∷ b6 ∷ b7 ∷ b8 ∷ b9 ∷ b10 ∷ b11 ∷ b12 ∷ b13 ∷ b14 ∷ b15 ∷ b16 ∷ b17 ∷ [] in
    rw (ne_eqb c 0 hc, m, ← n)
    ((λ k.
    sym v k ∷ sym e k ∷ high b2 b3 (g 3) k ∷ low b2 b3 (g 3) k ∷ high b4 b5 (g 5) k ∷ low b4 b5 (g 5) k ∷ sym a k ∷ t
    ∷ b8 ∷ b9 ∷ b10 ∷ b11 ∷ b12 ∷ b13 ∷ high b14 b15 (g 15) k ∷ low b14 b15 (g 15) k ∷ high b16 b17 (g 17) k ∷ low b16 b17 (g 17) k ∷ take (b16 * 256 + b17) l)
    ∙ ap (λ (l : List ℕ). set l 7 t) (sym (ap (λ (j : ℕ). take j (f ++ l)) n ∙ take-append-add f l (b16 * 256 + b17)))))
    s h

-- octet 7 of a MOVE, set to its status t: as it was in a MOVE-response, 0 in a MOVE-notify
status_set : (c n : ℕ) (s : List ℕ) → 18 ≤ n
    → set (take n s) 7 (status_in c (data_in s)) ≡ cond (is_response c) (take n s) (set (take n s) 7 0)
status_set c n s h =
    let t : get_or (data_in s) 1 0 ≡ get_or (take n s) 7 0 = get_or-drop 6 s 1 0 ∙ sym (get_or-take n s 7 0 (omega arith)) in
    by_bool (λ b. set (take n s) 7 (cond b (get_or (data_in s) 1 0) 0) ≡ cond b (take n s) (set (take n s) 7 0)) (is_response c)
    (λ e. rw t (set-get_or (take n s) 7 0)) (λ e. refl)

-- the octets of the fields read
octets_back : (s : List ℕ) → Octets s → PacketOk s → octets_of (fields_of_octets s) ≡ restored s
unfolding context_of
octets_back s g h = go (is_add (command_in s)) refl
  where
    go : (b : Bool) → is_add (command_in s) ≡ b → octets_of (fields_of_octets s) ≡ restored s
    go true e =
        let c : command_in s ≡ 0 = eqb-true (command_in s) 0 e in
        let n : length_in s ≡ 16 = h.header.add c in
        rw (packet_taken s h, c, n) (add_back s (omega (arith, h.header.whole)) g h.header.version c n h.body.address)
    go false e =
        let c = eqb-false (command_in s) 0 e in
        rw (packet_taken s h, e)
        (move_back (command_in s) (status_in (command_in s) (data_in s)) s (omega (arith, h.header.move c, h.header.whole)) g c h.header.version refl h.body.address h.header.whole (h.body.size c)
        ∙ status_set (command_in s) (length_in s) s (h.header.move c))

-- their size is the packet's Length
size_back : (s : List ℕ) → PacketOk s → size_for (fields_of_octets s) ≡ length_in s
unfolding context_of
size_back s h = rw (packet_taken s h) (grind (arith, tests, common_steps))

-- the writer accepts them where there is room
fields_accepted : (s : List ℕ) (n : ℕ) → PacketOk s → length_in s ≤ n → Accepts (fields_of_octets s) n
unfolding context_of
fields_accepted s n h r =
    record {
      sequence = rw (packet_taken s h) h.body.sequence;
      status = rw (packet_taken s h) h.body.status;
      context = rw (packet_taken s h) (grind (arith, tests, common_steps));
      room = rw (size_back s h) r;
    }

-- "each accepted packet is written back the same but for padding and the reserved octet": the first Length octets, and
-- octet 7 zero but in a MOVE-response; what lay in the buffer after them stays
pub write_back : (s b : List ℕ) → Octets s → (read_of s).answer ≡ 0 → length_in s ≤ length b
    → write_to (fields_of_octets s) b ≡ record { answer = 0; len = length_in s; buffer = restored s ++ drop (length_in s) b }
write_back s b g e r =
    let h = packet_ok s e in
    written (fields_of_octets s) b (fields_accepted s (length b) h r) ∙ rw (size_back s h, octets_back s g h)
