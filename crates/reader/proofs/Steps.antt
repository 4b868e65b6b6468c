-- The reader's two steps, the tests of the header and of the data, decide on the whole packet; and the context block lies within it.
-- Assumes nothing.
use Prim.Native.Nat.{ℕ, zero, suc, ◌+◌, ◌-◌, ◌≤◌}
use Rattle.std.proofs.Common.{is_ok, Result, Ok, Err}
use Rattle.std.specs.Result.{result_unwrap_or}
use mathlib.Core.Path.{◌≡◌, refl, sym, ap, ◌∙◌}
use mathlib.Core.List.{List, [], ◌∷◌}
use mathlib.Core.Bool.{true, cond, not, ◌&&◌}
use native.Mathlib.Omega.{arith}
use native.Mathlib.Nat.{add-sub_cancel_left}
use borrow.Author.Tests.{ne_eqb}
use lib.ListN.{length, take, drop, length-drop}
use lib.Dec.{ltb}
use lib.Seq.{length-take-le}
use Rattle.lists.specs.Table.{first_of, accepts}
use Rattle.lists.proofs.Fronts.{rest_from}
use Rattle.lists.proofs.Tables.{in_parts, tests}
use Rattle.answers.specs.declared.Refusal.{Refusal}
use Rattle.answers.proofs.Numbers.{refusal_above, ok_is_zero}
use Rattle.packet.specs.declared.Command.{Command}
use Rattle.packet.specs.declared.Command.TheVariants.{AddNotify, MoveNotify, MoveResponse}
use Rattle.packet.specs.Fields.{octet_of, Names}
use Rattle.packet.specs.Layout.{is_add, command_in, identifier_in, length_in, data_in, status_in}
use Rattle.reader.specs.Refusals.{head_tests, front_tests, context_off, data_tests, reader_tests}
use Rattle.reader.specs.declared.Received.{Received}
use Rattle.reader.specs.Read.{Reading, read_as, refused_by, command_of, accept, taken, read_data, read_of, context_of}
use Rattle.reader.proofs.Acceptance.{HeaderOk, DataOk, header_ok, header_passes, data_ok, data_passes}

-- the data's tests for the packet s
abbrev data_tests_of : List ℕ → ℕ
data_tests_of s = first_of (data_tests (command_in s) (status_in (command_in s) (data_in s)) (length_in s) (data_in s))

-- the header's tests decide, and where they accept the data's
by_header : (s : List ℕ) → first_of (reader_tests s) ≡ cond (accepts (first_of (head_tests s))) (data_tests_of s) (first_of (head_tests s))
unfolding reader_tests head_tests
by_header s = in_parts (head_tests s) (data_tests (command_in s) (status_in (command_in s) (data_in s)) (length_in s) (data_in s)) tt

-- a header that is refused, by k, is the packet's refusal
pub header_refused : (s : List ℕ) (k : ℕ) → k ≡ first_of (head_tests s) → (k ≡ 0 → ⊥) → k ≡ first_of (reader_tests s)
header_refused s k e z = rw (by_header s, ← e, ne_eqb k 0 z)

-- after an accepted header the tests of the data decide
pub data_decides : (s : List ℕ) → 0 ≡ first_of (head_tests s) → data_tests_of s ≡ first_of (reader_tests s)
data_decides s p = rw (by_header s, ← p)

-- an accepted packet: neither the header's tests pass nor the data's
pub record PacketOk (s : List ℕ) : Type 0 where
  pub header : HeaderOk s
  pub body : DataOk (command_in s) (status_in (command_in s) (data_in s)) (length_in s) (data_in s)

pub tests_ok : (s : List ℕ) → first_of (reader_tests s) ≡ 0 → PacketOk s
tests_ok s e =
    let h : 0 ≡ first_of (head_tests s) = grind (arith, tests, by_header s) in
    record { header = header_ok s h; body = data_ok _ _ _ _ (sym (data_decides s h ∙ e)) }

-- what a reading answers is what the tests do
pub answered : (s : List ℕ) → (read_of s).answer ≡ first_of (reader_tests s)
unfolding read_of
answered s = grind (arith, tests)

-- the reading of a packet that is refused, by k
pub read_refused : (s : List ℕ) (k : ℕ) → k ≡ first_of (reader_tests s) → (k ≡ 0 → ⊥) → refused_by k ≡ read_of s
unfolding read_of
read_refused s k e z = rw (← e, ne_eqb k 0 z)

-- what the reader answers for an accepted packet is its fields
pub read_ok : (r : Result Received Refusal) (s : List ℕ) → read_as r ≡ read_of s → (read_of s).answer ≡ 0 → is_ok r ≡ true
read_ok (Ok x) s e z = refl
read_ok (Err k) s e z = absurd (grind (arith, refusal_above k, ap (λ (x : Reading). x.answer) e))

pub packet_ok : (s : List ℕ) → (read_of s).answer ≡ 0 → PacketOk s
packet_ok s e = tests_ok s (sym (answered s) ∙ e)

-- and the reading of one
pub packet_taken : (s : List ℕ) → PacketOk s → read_of s ≡ taken (command_in s) (status_in (command_in s) (data_in s)) (identifier_in s) (data_in s)
unfolding read_of
packet_taken s h =
    rw (by_header s, header_passes s h.header, data_passes (command_in s) (status_in (command_in s) (data_in s)) (length_in s) (data_in s) h.body)

-- a packet with an accepted header has a command, and as many octets as that has fields
abbrev Room : List ℕ → Type 0
Room s = (16 ≤ length s) × (command_in s ≤ 2) × ((command_in s ≡ 0 → ⊥) → 18 ≤ length s)

header_room : (s : List ℕ) → HeaderOk s → Room s
header_room s h = grind arith

pub accepted_header : (s : List ℕ) → 0 ≡ first_of (head_tests s) → Room s
accepted_header s p = header_room s (header_ok s p)

-- the command of a Command octet that is not refused has that octet
pub octet_back : (n : ℕ) → n ≤ 2 → octet_of (command_of n) ≡ n
unfolding command_of
octet_back zero h = refl
octet_back (suc zero) h = refl
octet_back (suc (suc zero)) h = refl
octet_back (suc (suc (suc n))) h = absurd (omega arith)

-- the command that an octet names is its command, and the last stands for an octet that names none
pub command_named : (n : ℕ) (r : Result Command Refusal) → Names n r → result_unwrap_or r MoveResponse ≡ command_of n
unfolding command_of
command_named n (Ok AddNotify) e = rw (← e)
command_named n (Ok MoveNotify) e = rw (← e)
command_named n (Ok MoveResponse) e = rw (← e)
command_named n (Err x) e = rw (ne_eqb n 0 (λ z. omega (arith, e.1, z)), ne_eqb n 1 (λ z. omega (arith, e.1, z)))

-- the context block lies within the packet, and starts at octet 18 at the latest
pub within : (s : List ℕ) → (read_of s).start + (read_of s).len ≤ length s
unfolding read_of
within s = grind (arith, tests, tests_ok s)

pub start_limit : (s : List ℕ) → (read_of s).start ≤ 18
unfolding read_of
start_limit s = grind (arith, tests)

-- the part of the packet that its reading r names
pub part_is : (s : List ℕ) (r : Reading) → r ≡ read_of s → take (r.start + r.len - r.start) (drop r.start s) ≡ context_of s
unfolding context_of
part_is s r e = simp (add-sub_cancel_left, e)

pub part_length : (s : List ℕ) (r : Reading) → r ≡ read_of s → length (take (r.start + r.len - r.start) (drop r.start s)) ≡ (read_of s).len
part_length s r e =
    simp (add-sub_cancel_left, e)
    (length-take-le (read_of s).len (drop (read_of s).start s) (omega (arith, length-drop (read_of s).start s, within s)))

-- an accepted packet's sequence number and context are within their limits
pub accepted_limits : (s : List ℕ) → (read_of s).answer ≡ 0 → ((read_of s).sequence ≤ 4095) × ((read_of s).len ≤ 64)
accepted_limits s e = let h = packet_ok s e in rw (packet_taken s h) (grind (arith, tests))

-- after an accepted header the reader of the data gives the reading, and a refused header's number is its refusal
pub data_is_read : (s : List ℕ) → 0 ≡ first_of (head_tests s) → read_data (command_in s) (identifier_in s) (length_in s) (data_in s) ≡ read_of s
unfolding read_data read_of
data_is_read s p = rw (← data_decides s p)

-- the tests of a command's data: those of the front decide, and where they accept 8 and 9
abbrev behind_front : ℕ → ℕ → ℕ → List ℕ → ℕ
behind_front c t n d = first_of ((ltb 1 t, 8) ∷ (not (is_add c) && context_off n d, 9) ∷ [])

by_front : (c t n : ℕ) (d : List ℕ) → first_of (data_tests c t n d) ≡ cond (accepts (first_of (front_tests d))) (behind_front c t n d) (first_of (front_tests d))
unfolding data_tests
by_front c t n d = in_parts (front_tests d) ((ltb 1 t, 8) ∷ (not (is_add c) && context_off n d, 9) ∷ []) tt

-- data that the front's tests refuse, by k
pub front_refused : (c i n k : ℕ) (d : List ℕ) → k ≡ first_of (front_tests d) → (k ≡ 0 → ⊥) → refused_by k ≡ read_data c i n d
unfolding read_data
front_refused c i n k d e z = rw (by_front c (status_in c d) n d, ← e, ne_eqb k 0 z, ne_eqb k 0 z)

-- data whose front is accepted: 8 and 9 decide
pub behind_decides : (c i n : ℕ) (d : List ℕ) → 0 ≡ first_of (front_tests d) → accept (behind_front c (status_in c d) n d) (taken c (status_in c d) i d) ≡ read_data c i n d
unfolding read_data
behind_decides c i n d e = rw (by_front c (status_in c d) n d, ← e)

-- of an ADD-notify the header's tests say the size
pub add_is_read : (s : List ℕ) → 0 ≡ first_of (head_tests s) → 0 ≡ command_in s → read_data 0 (identifier_in s) 16 (data_in s) ≡ read_of s
add_is_read s p z = rw (← data_is_read s p, ← z, (header_ok s p).add (sym z))

-- what the reading follows from, and the context block
pub ruleset of_data = (tests, refusal_above, ne_eqb, front_refused, behind_decides)

pub ruleset of_read = (header_refused, read_refused, refusal_above, data_is_read, add_is_read, accepted_header, rest_from)

pub ruleset of_reading = (answered, read_refused, refusal_above, ok_is_zero)

pub ruleset of_context = (within, add-sub_cancel_left, length-take-le)
