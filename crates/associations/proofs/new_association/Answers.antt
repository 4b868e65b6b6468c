-- `associations::new_association` meets its contract: the context is copied over the front of 64 zeros.
-- Assumes nothing.
use Prim.Native.Nat.{ℕ}
use mathlib.Core.Path.{◌≡◌, ap, ◌∙◌}
use mathlib.Core.List.{List, ◌++◌}
use lib.ListN.{length, take, drop, replicate}
use lib.Seq.{take-length}
use Rattle.slots.proofs.Over.{drop_rep}
use Rattle.machine.specs.Associations.{padded, given, association}
use Rattle.associations.proofs.new_association.Goals as goal

-- the context c copied over the front of 64 zeros
new_row : (s : List ℕ) (n : ℕ) (c o : List ℕ) → o ≡ take (length c) c ++ drop (length c) (replicate 64 0)
    → record { station = s; sequence = n; context_len = length c; context = o } ≡ association s n (given c)
unfolding association given padded
new_row s n c o e =
    ap (λ (l : List ℕ). record { station = s; sequence = n; context_len = length c; context = l }) (e ∙ rw (take-length c, drop_rep {A = ℕ} (length c) 64 0))

pub returns : goal.returns
returns c = new_row _ _ c.args.context.now _ c.copy.ensures
