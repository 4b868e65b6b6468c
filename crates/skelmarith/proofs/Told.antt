-- The command of an octet, and what is told of a Result.
-- Assumes nothing.
use Rattle.std.proofs.Common.{◌≡◌, ℕ, ◌<◌, List, ap, lt-ltb}
use Rattle.std.specs.Prelude.{Result, Ok, Err}
use Rattle.answers.specs.declared.Refusal.{Refusal}
use Rattle.packet.specs.declared.Command.{Command}
use Rattle.packet.specs.declared.Command.TheVariants.{AddNotify, MoveNotify, MoveResponse}
use Rattle.packet.specs.Fields.{octet_of, fields_of}
use Rattle.reader.specs.Read.{command_of}
use Rattle.writer.specs.Write.{writing_of, write_to}
use Rattle.skelmarith.specs.declared.packets.Written.{Written}
use Rattle.skelmarith.specs.Packets.{writing_in, Tells, write_as}

pub written_told : (r : Result ℕ Refusal) (w : Written) (b : List ℕ) → Tells r w → writing_in w b ≡ writing_of r b
written_told (Ok n) w b e = ap (λ (w : Written). writing_in w b) e
written_told (Err r) w b e = ap (λ (w : Written). writing_in w b) e

module _ (i t : ℕ) (s : List ℕ) (n : ℕ) (x b : List ℕ) where
  pub known : (c : Command) (o : ℕ) → octet_of c ≡ o
      → write_to (fields_of (record { command = c; identifier = i; status = t; station = s; sequence = n }) x) b ≡ write_as o i t s n x b
  unfolding write_as command_of
  known AddNotify o e = rw (← e)
  known MoveNotify o e = rw (← e)
  known MoveResponse o e = rw (← e)

  pub unknown : (o : ℕ) → 2 < o → record { answer = 3; len = 0; buffer = b } ≡ write_as o i t s n x b
  unfolding write_as
  unknown o h = rw (lt-ltb 2 o h)
