-- What the writer accepts is writable, and the buffer that it leaves reads back: the rest of the buffer is padding.
-- Assumes nothing.
use Prim.Native.Nat.{ℕ, ◌≤◌}
use mathlib.Core.Path.{◌≡◌, refl}
use mathlib.Core.List.{List, ◌++◌}
use native.Mathlib.Omega.{arith}
use lib.ListN.{length, drop}
use Rattle.lists.proofs.Tables.{tests}
use Rattle.packet.specs.Fields.{Fields, fields_of, fields_as}
use Rattle.packet.specs.declared.Command.{Command}
use Rattle.packet.specs.declared.Command.TheVariants.{AddNotify, MoveNotify, MoveResponse}
use Rattle.packet.specs.declared.Packet.{Packet}
use Rattle.reader.specs.Read.{read_of, context_of}
use Rattle.writer.specs.Write.{size_for, octets_of, writer_tests, write_to}
use Rattle.packet_laws.specs.RoundTrip.{Writable, reading_as}
use Rattle.packet_laws.proofs.RoundTrip.{read_octets, context_octets_lem}

-- none of the writer's tests passes, for a buffer of n octets
pub record Accepts (f : Fields) (n : ℕ) : Type 0 where
  pub sequence : f.sequence ≤ 4095
  pub status : f.status ≤ 1
  pub context : length f.context ≤ 64
  pub room : size_for f ≤ n

-- what an accepted write leaves
pub written : (f : Fields) (b : List ℕ) → Accepts f (length b)
    → write_to f b ≡ record { answer = 0; len = size_for f; buffer = octets_of f ++ drop (size_for f) b }
unfolding write_to writer_tests
written f b h = grind (arith, tests)

-- an answer of 0 is an accepted write
pub write_accepted : (f : Fields) (b : List ℕ) → (write_to f b).answer ≡ 0 → Accepts f (length b)
unfolding write_to writer_tests
write_accepted f b e =
    record { sequence = grind (arith, tests); status = grind (arith, tests); context = grind (arith, tests); room = grind (arith, tests) }

-- a packet's fields that the writer accepts are writable
pub fields_writable : (k : Command) (p : Packet) (x : List ℕ) (n : ℕ) → length p.station ≡ 6 → Accepts (fields_as k p x) n → Writable (fields_as k p x)
fields_writable AddNotify p x n h w =
    record { command = omega arith; station = h; sequence = w.sequence; status = w.status; context = w.context; other_status = λ e. refl; add_context = λ e. refl }
fields_writable MoveNotify p x n h w =
    record { command = omega arith; station = h; sequence = w.sequence; status = w.status; context = w.context; other_status = λ e. refl; add_context = λ e. absurd (omega arith) }
fields_writable MoveResponse p x n h w =
    record { command = omega arith; station = h; sequence = w.sequence; status = w.status; context = w.context; other_status = λ e. absurd (e refl); add_context = λ e. absurd (omega arith) }

-- "Reading returns what was written": the buffer after an accepted write has the same fields and the same context
pub read_written : (p : Packet) (x b : List ℕ) → length p.station ≡ 6 → (write_to (fields_of p x) b).answer ≡ 0
    → (read_of (write_to (fields_of p x) b).buffer ≡ reading_as (fields_of p x)) × (context_of (write_to (fields_of p x) b).buffer ≡ (fields_of p x).context)
read_written p x b h e =
    let f : Fields = fields_of p x in
    let a = write_accepted f b e in
    let w = fields_writable p.command p x (length b) h a in
    rw (written f b a) (read_octets f (drop (size_for f) b) w, context_octets_lem f (drop (size_for f) b) w)
