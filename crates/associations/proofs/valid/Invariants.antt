-- `associations::valid` meets its contract. The invariant: the rows passed are within the limits, no two of them are of one
-- station, and how their stations end is noted. Assumes nothing.
use Prim.Native.Nat.{ℕ}
use mathlib.Core.Path.{◌≡◌}
use mathlib.Core.Bool.{Bool, true}
use mathlib.Core.List.{List}
use lib.ListN.{length, take}
use Rattle.std.specs.List.{list_all}
use Rattle.structs.specs.declared.Association.{Association}
use Rattle.machine.specs.Valid.{valid_association}
use Rattle.associations.proofs.Apart.{Apart, Noted}
use Rattle.associations.proofs.valid.Given as goal

-- i rows are passed
pub record Passed (rs : List Association) (seen : List Bool) (i : ℕ) : Type 0 where
  pub marks : length seen ≡ 64
  pub limits : list_all valid_association (take i rs) ≡ true
  pub apart : Apart rs i
  pub noted : Noted rs i seen

abbrev pub invariant-loop-i : goal.invariant-loop-i
invariant-loop-i l = Passed l.rows l.seen l.i
