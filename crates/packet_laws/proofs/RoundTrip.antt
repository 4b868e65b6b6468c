-- What was written is read back, whatever padding follows it.
-- Assumes nothing.
use Prim.Native.Nat.{ℕ, ◌+◌, ◌*◌, ◌/◌, ◌%◌, ◌≤◌}
use mathlib.Core.Path.{◌≡◌, refl, sym, ap, subst, ◌∙◌}
use mathlib.Core.List.{List, [], ◌∷◌, ◌++◌}
use mathlib.Core.Bool.{Bool, true, false, cond}
use native.Mathlib.Omega.{arith}
use borrow.Author.Tests.{ne_eqb, eqb-true, eqb-false}
use lib.ListN.{length, take, drop, length-append}
use lib.Seq.{take-append_seam}
use Rattle.lists.proofs.Fronts.{exact_ind}
use Rattle.lists.proofs.Tables.{tests}
use Rattle.packet.specs.Octets.{be16}
use Rattle.packet.specs.Layout.{is_add, is_response, data_in, context_length_in}
use Rattle.packet.specs.Fields.{Fields}
use Rattle.reader.specs.Read.{read_of, context_of}
use Rattle.reader.proofs.Steps.{packet_taken}
use Rattle.writer.specs.Write.{front_of, octets_of}
use Rattle.writer.proofs.Writing.{add_fields, move_fields, move_octets}
use Rattle.packet_laws.specs.RoundTrip.{Writable, reading_as}

-- two octets and back
pub two_back : (n : ℕ) → n / 256 * 256 + n % 256 ≡ n
two_back n = omega arith

-- an ADD-notify reads back
add_back : (i : ℕ) (s : List ℕ) (q : ℕ) (z : List ℕ) → length s ≡ 6 → q ≤ 4095 → read_of (octets_of (add_fields i s q) ++ z) ≡ reading_as (add_fields i s q)
unfolding octets_of be16
add_back i s q z h hq =
    exact_ind 6 (λ (s : List ℕ). read_of (octets_of (add_fields i s q) ++ z) ≡ reading_as (add_fields i s q))
    (λ a b c d e f.
    let s : List ℕ = a ∷ b ∷ c ∷ d ∷ e ∷ f ∷ [] in
    let l : List ℕ = octets_of (add_fields i s q) ++ z in
    packet_taken l
    (record {
      header = record { octets = omega arith; version = refl; command = omega arith; whole = omega arith; add = λ e. refl; move = λ e. absurd (e refl) };
      body = record { address = refl; sequence = omega arith; status = omega arith; context = λ e. absurd (e refl); size = λ e. absurd (e refl) };
    })
    ∙ (λ k. record { answer = 0; command = 0; identifier = two_back i k; status = 0; station = s; sequence = two_back q k; start = 0; len = 0 }))
    s h

-- a MOVE reads back: t is its status, 0 in a MOVE-notify
move_back : (c t i : ℕ) (s : List ℕ) (q : ℕ) (x z : List ℕ) → (c ≡ 0 → ⊥) → c ≤ 2 → cond (is_response c) t 0 ≡ t
    → length s ≡ 6 → q ≤ 4095 → t ≤ 1 → length x ≤ 64
    → read_of ((front_of c t i (18 + length x) s q (length x) ++ x) ++ z) ≡ reading_as (move_fields c t i s q x)
unfolding be16
move_back c t i s q x z hc h2 st h hq ht hx =
    exact_ind 6 (λ (s : List ℕ). read_of ((front_of c t i (18 + length x) s q (length x) ++ x) ++ z) ≡ reading_as (move_fields c t i s q x))
    (λ a b d e f g.
    let s : List ℕ = a ∷ b ∷ d ∷ e ∷ f ∷ g ∷ [] in
    let l : List ℕ = (front_of c t i (18 + length x) s q (length x) ++ x) ++ z in
    let m : context_length_in (data_in l) ≡ length x = two_back (length x) in
    packet_taken l
    (record {
      header =
          record {
            octets = omega arith;
            version = refl;
            command = h2;
            whole = omega (arith, length-append x z);
            add = λ e. absurd (hc e);
            move = λ e. omega arith;
          };
      body = record { address = refl; sequence = omega arith; status = subst (λ (k : ℕ). k ≤ 1) (sym st) ht; context = λ e. omega arith; size = λ e. omega arith };
    })
    ∙ (λ k.
    record {
      answer = 0;
      command = c;
      identifier = two_back i k;
      status = st k;
      station = s;
      sequence = two_back q k;
      start = cond (is_add c) 0 18;
      len = (ap (λ (b : Bool). cond b 0 (context_length_in (data_in l))) (ne_eqb c 0 hc) ∙ m) k;
    }))
    s h

-- the context block of a MOVE
move_context : (c t i n : ℕ) (s : List ℕ) (q y : ℕ) (x z : List ℕ) → length s ≡ 6 → take (length x) (drop 18 ((front_of c t i n s q y ++ x) ++ z)) ≡ x
move_context c t i n s q y x z h =
    exact_ind 6 (λ (s : List ℕ). take (length x) (drop 18 ((front_of c t i n s q y ++ x) ++ z)) ≡ x) (λ a b d e f g. take-append_seam x z) s h

-- a status that only a MOVE-response has
own_status : (c t : ℕ) → ((c ≡ 2 → ⊥) → t ≡ 0) → cond (is_response c) t 0 ≡ t
own_status c t h = grind (arith, tests)

-- Reading what was written gives the same fields ..
pub read_octets : (f : Fields) (z : List ℕ) → Writable f → read_of (octets_of f ++ z) ≡ reading_as f
read_octets f z w = go (is_add f.command) refl
  where
    go : (b : Bool) → is_add f.command ≡ b → read_of (octets_of f ++ z) ≡ reading_as f
    go true e =
        let c : f.command ≡ 0 = eqb-true f.command 0 e in
        let x : f.context ≡ [] = w.add_context c in
        let t : f.status ≡ 0 = w.other_status (λ p. omega arith) in
        let p : f ≡ add_fields f.identifier f.station f.sequence =
        (λ k. record { command = c k; identifier = f.identifier; status = t k; station = f.station; sequence = f.sequence; context = x k }) in
        subst (λ (g : Fields). read_of (octets_of g ++ z) ≡ reading_as g) (sym p) (add_back f.identifier f.station f.sequence z w.station w.sequence)
    go false e =
        let c = eqb-false f.command 0 e in
        ap (λ (o : List ℕ). read_of (o ++ z)) (sym (move_octets f.command f.status f.identifier f.station f.sequence f.context c w.station))
        ∙ move_back f.command f.status f.identifier f.station f.sequence f.context z c w.command
        (own_status f.command f.status w.other_status) w.station w.sequence w.status w.context

-- .. and the same context
pub context_octets_lem : (f : Fields) (z : List ℕ) → Writable f → context_of (octets_of f ++ z) ≡ f.context
unfolding context_of
context_octets_lem f z w = rw (read_octets f z w) (go (is_add f.command) refl)
  where
    go : (b : Bool) → is_add f.command ≡ b → take (length f.context) (drop (cond b 0 18) (octets_of f ++ z)) ≡ f.context
    go true e = rw (w.add_context (eqb-true f.command 0 e))
    go false e =
        rw (← (move_octets f.command f.status f.identifier f.station f.sequence f.context (eqb-false f.command 0 e) w.station))
        (move_context f.command f.status f.identifier (18 + length f.context) f.station f.sequence (length f.context) f.context z w.station)
