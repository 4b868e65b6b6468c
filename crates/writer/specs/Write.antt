-- Document 01, "Packets" and the writer's refusals: the octets of a packet, and what writing them gives.
use Rattle.std.specs.Prelude.{◌≡◌, refl, ℕ, List, [], ◌∷◌, ◌++◌, map, cond, length, drop, replicate, ltb, Result, Ok, Err}
use Rattle.lists.specs.Table.{Test, first_of, accepts}
use Rattle.answers.specs.declared.Refusal.{Refusal}
use Rattle.answers.specs.Numbers.{refusal_number}
use Rattle.packet.specs.Octets.{two}
use Rattle.packet.specs.Layout.{is_add, size_of}
use Rattle.packet.specs.Fields.{Fields}

-- header, Address Length, Reserved or Status, MAC and Sequence. "Reserved is written 00": t is 0 there
abbrev pub start_of : ℕ → ℕ → ℕ → ℕ → List ℕ → ℕ → List ℕ
start_of c t i n s q = (0 ∷ c ∷ []) ++ two i ++ two n ++ (6 ∷ t ∷ []) ++ s ++ two q

-- the same with Context Length x
abbrev pub front_of : ℕ → ℕ → ℕ → ℕ → List ℕ → ℕ → ℕ → List ℕ
front_of c t i n s q x = start_of c t i n s q ++ two x

-- "Length 16", "Length 18 + c"
abbrev pub size_for : Fields → ℕ
size_for f = size_of f.command (length f.context)

-- the octets of a packet: an ADD-notify ends with its Sequence, a MOVE with Context Length and context
unfoldable pub octets_of : Fields → List ℕ
octets_of f =
    start_of f.command f.status f.identifier (size_for f) f.station f.sequence
    ++ cond (is_add f.command) [] (two (length f.context) ++ f.context)

-- "Whoever writes a packet: 7, 8, 9 (context over 64), then 10: lent buffer shorter than the packet", for one of n octets
unfoldable pub writer_tests : Fields → ℕ → List Test
writer_tests f n =
    (ltb 4095 f.sequence, 7)
    ∷ (ltb 1 f.status, 8)
    ∷ (ltb 64 (length f.context), 9)
    ∷ (ltb n (size_for f), 10)
    ∷ []

-- the refusals of a MOVE-response numbered 4095, with Status 01 and c octets of context, into a buffer of n octets, and one step past each
abbrev pub response : ℕ → ℕ → ℕ → Fields
response q t c =
    record { command = 2; identifier = 0; status = t; station = 2 ∷ 0 ∷ 0 ∷ 0 ∷ 0 ∷ 1 ∷ []; sequence = q; context = replicate c 0 }

pub refused_in_order :
    map (λ (x : ℕ × Fields). first_of (writer_tests x.1 x.0))
    ((82, response 4095 1 64) ∷ (82, response 4096 1 64) ∷ (82, response 4095 2 64) ∷ (83, response 4095 1 65) ∷ (81, response 4095 1 64) ∷ [])
    ≡ 0 ∷ 7 ∷ 8 ∷ 9 ∷ 10 ∷ []
unfolding writer_tests
refused_in_order = refl

-- what the writer answers, in numbers, and what the lent buffer then holds
pub record Writing : Type 0 where
  pub answer : ℕ
  pub len : ℕ
  pub buffer : List ℕ

-- how many octets were written, or the refusal
abbrev pub writing_of : Result ℕ Refusal → List ℕ → Writing
writing_of (Ok n) b = record { answer = 0; len = n; buffer = b }
writing_of (Err r) b = record { answer = refusal_number r; len = 0; buffer = b }

-- "The writer fills the front of the lent buffer, leaves the rest, and returns the length"; refused, the buffer is as it came
unfoldable pub write_to : Fields → List ℕ → Writing
write_to f b =
    cond (accepts (first_of (writer_tests f (length b))))
    (record { answer = 0; len = size_for f; buffer = octets_of f ++ drop (size_for f) b })
    (record { answer = first_of (writer_tests f (length b)); len = 0; buffer = b })
