-- `alone::write_all` meets its contract. The loop's invariant: the first packets, `at` octets, stand at the front of the buffer.
-- Assumes nothing.
use mathlib.Core.Path.{◌≡◌}
use lib.ListN.{length, take}
use Rattle.alone.specs.Told.{front_of}
use Rattle.alone.specs.Front.{octets_in_all}
use Rattle.alone.proofs.write_all.Given as goal

abbrev pub invariant-loop-p : goal.invariant-loop-p
invariant-loop-p l = (l.at ≡ length (octets_in_all (take l.p-index l.p-items)))
    × (l.buffer ≡ front_of (octets_in_all (take l.p-index l.p-items)) l.initial.buffer)
