-- A whole script: the lines after the set-up, and the buffer.
-- Assumes nothing.
use Prim.Native.Nat.{ℕ, suc, ◌+◌, ◌-◌, ◌≤◌, ◌<◌}
use mathlib.Core.Path.{◌≡◌, refl, sym, ap, ◌∙◌}
use mathlib.Core.Bool.{Bool, true, false, cond}
use mathlib.Core.List.{List, [], ◌∷◌}
use Rattle.std.specs.Prelude.{Option, None, Some, is_some}
use native.Mathlib.Omega.{arith}
use borrow.Author.Tests.{ltb-true, ltb-false, lt-ltb, le-ltb, lt-leb, le-leb}
use lib.Dec.{eqb, ltb, leb}
use lib.ListN.{length, drop}
use lib.Seq.{drop-drop}
use Rattle.lists.specs.Options.{case_option}
use Rattle.lists.proofs.Choices.{not_both, by_bool}
use Rattle.structs.specs.declared.Network.{Network}
use Rattle.network.specs.Lens.{new_network}
use Rattle.network.specs.Events.{valid_network_record}
use Rattle.network.proofs.Reached.{new_valid}
use Rattle.floor_link.specs.Answered.{Started, set_up_done}
use Rattle.script.specs.Put.{front}
use Rattle.script.specs.Text.{on_first, split, lines}
use Rattle.script.specs.SetUpLines.{Values, set_up_in, event_lines}
use Rattle.script.specs.Result.{result_names}
use Rattle.script.specs.Script.{printed}
use Rattle.script.proofs.Runs.{values_valid}
use Rattle.script_reader.specs.Heard.{past_line, three_lines, Opening, opening_in, nothing_opened}
use Rattle.script_runner.specs.declared.Played.{Played}
use Rattle.script_runner.specs.Played.{played_as, measured, written_into}

-- t is what is left of s
pub record Left (s t : List ℕ) : Type 0 where
  pub size : length t ≤ length s
  pub is : drop (length s - length t) s ≡ t

left_twice : (s t u : List ℕ) → Left s t → Left t u → Left s u
left_twice s t u h k =
    let n : (length s - length t) + (length t - length u) ≡ length s - length u = omega (arith, h.size, k.size) in
    record { size = omega (arith, h.size, k.size); is = ap (λ (i : ℕ). drop i s) (sym n) ∙ sym (drop-drop (length t - length u) (length s - length t) s) ∙ ap (drop (length t - length u)) h.is ∙ k.is }

left_more : (x : ℕ) (s t : List ℕ) → Left s t → Left (x ∷ s) t
left_more x s t h =
    let n : length (x ∷ s) - length t ≡ suc (length s - length t) = omega (arith, h.size) in
    record { size = omega (arith, h.size); is = ap (λ (i : ℕ). drop i (x ∷ s)) n ∙ h.is }

left_all : (s : List ℕ) → Left s s
left_all s = let n : length s - length s ≡ 0 = omega arith in record { size = omega arith; is = ap (λ (i : ℕ). drop i s) n }

past_left : (s : List ℕ) → Left s (past_line s)
unfolding past_line
past_left [] = left_all []
past_left (x ∷ xs) = go (eqb x 10) (past_left xs)
  where
    go : (b : Bool) → Left xs (past_line xs) → Left (x ∷ xs) (cond b xs (past_line xs))
    go true h = left_more x xs xs (left_all xs)
    go false h = left_more x xs (past_line xs) h

-- the lines after the first
past_lines : (s : List ℕ) → lines (past_line s) ≡ drop 1 (lines s)
unfolding past_line split
past_lines [] = refl
past_lines (x ∷ xs) = go (eqb x 10) (split 10 [] xs) refl (past_lines xs)
  where
    go : (b : Bool) (r : List (List ℕ)) → split 10 [] xs ≡ r → lines (past_line xs) ≡ drop 1 (split 10 [] xs) → lines (cond b xs (past_line xs)) ≡ drop 1 (cond b ([] ∷ r) (on_first x r))
    go true r e h = e
    go false [] e h = unfold on_first in h ∙ ap (drop 1) e
    go false (p ∷ ps) e h = unfold on_first in h ∙ ap (drop 1) e

three_left : (s : List ℕ) → Left s (past_line (past_line (past_line s)))
three_left s = left_twice s (past_line s) (past_line (past_line (past_line s))) (past_left s) (left_twice (past_line s) (past_line (past_line s)) (past_line (past_line (past_line s))) (past_left (past_line s)) (past_left (past_line (past_line s))))

three_within : (s : List ℕ) → three_lines s ≤ length s
unfolding three_lines
three_within s = omega arith

-- the lines of events are those after the first three lines
pub lines_after : (s : List ℕ) → lines (drop (three_lines s) s) ≡ event_lines (lines s)
unfolding three_lines event_lines
lines_after s =
    ap lines (three_left s).is
    ∙ past_lines (past_line (past_line s))
    ∙ ap (drop 1) (past_lines (past_line s) ∙ ap (drop 1) (past_lines s))
    ∙ ap (drop 1) (drop-drop 1 1 (lines s))
    ∙ drop-drop 1 2 (lines s)

-- what was read of the first three lines

abbrev pub values_of : Opening → Values
values_of r = record { aps = r.aps; timeout = r.timeout; resends = r.resends }

module _ (s : List ℕ) (r : Opening) (is : r ≡ opening_in s) where
  pub opened_bad : r.given ≡ false → set_up_in (lines s) ≡ None
  unfolding opening_in nothing_opened
  opened_bad g = go (set_up_in (lines s)) (ap (λ (x : Opening). x.given) (sym is) ∙ g)
    where
      go : (o : Option Values) → (case_option {B = Opening} o nothing_opened (λ v. record { given = true; aps = v.aps; timeout = v.timeout; resends = v.resends; next = three_lines s })).given ≡ false → o ≡ None
      go None e = refl
      go (Some v) e = not_both refl e

  pub opened : r.given ≡ true → (set_up_in (lines s) ≡ Some (values_of r)) × (r.next ≡ three_lines s)
  unfolding opening_in nothing_opened
  opened g = go (set_up_in (lines s)) is
    where
      go : (o : Option Values) → r ≡ case_option o nothing_opened (λ v. record { given = true; aps = v.aps; timeout = v.timeout; resends = v.resends; next = three_lines s }) → (o ≡ Some (values_of r)) × (r.next ≡ three_lines s)
      go None e = not_both g (ap (λ (x : Opening). x.given) e)
      go (Some v) e = (ap (λ (x : Opening). Some (values_of x)) (sym e), ap (λ (x : Opening). x.next) e)

  -- set up so, it is a new network, to which 14 does not apply
  module _ (g : r.given ≡ true) (x : Started) (u : x ≡ set_up_done r.aps r.timeout r.resends) where
    pub new_network_lem : x.network ≡ new_network r.aps r.timeout r.resends
    unfolding set_up_done
    new_network_lem = ap (λ (y : Started). y.network) u ∙ rw (values_valid s (values_of r) (opened g).0)

    pub accepted : x.answer ≡ 0
    unfolding set_up_done
    accepted = ap (λ (y : Started). y.answer) u ∙ rw (values_valid s (values_of r) (opened g).0)

    pub network_valid : valid_network_record x.network ≡ true
    network_valid = ap valid_network_record new_network_lem ∙ new_valid r.aps r.timeout r.resends (values_valid s (values_of r) (opened g).0)

    pub next_there : r.next ≤ length s
    next_there = omega (arith, (opened g).1, three_within s)

-- the buffer

pub refused_is : (t b o : List ℕ) → o ≡ b → length b < length t → record { answer = 10; len = 0; buffer = o } ≡ written_into t b
unfolding written_into
refused_is t b o eo l = rw (lt-ltb (length b) (length t) l, eo)

pub written_is : (n : ℕ) (t b o : List ℕ) → length t ≤ length b → n ≡ length t → o ≡ front t b → record { answer = 0; len = n; buffer = o } ≡ written_into t b
unfolding written_into
written_is n t b o l en eo = rw (le-ltb (length b) (length t) l, en, eo)

pub names_length : length result_names ≡ 38
unfolding result_names
names_length = refl

-- whether what the lines print fits
pub measured_is : (w : Network) (ls : List (List ℕ)) (n : ℕ) → is_some (measured w ls n) ≡ leb (length (printed w ls)) n
unfolding measured
measured_is w ls n =
    by_bool (λ (t : Bool). ltb n (length (printed w ls)) ≡ t → is_some (cond {A = Option Played} t None (Some (played_as w ls))) ≡ leb (length (printed w ls)) n)
    (ltb n (length (printed w ls)))
    (λ q e. sym (lt-leb (length (printed w ls)) n (ltb-true n (length (printed w ls)) e)))
    (λ q e. sym (le-leb (length (printed w ls)) n (ltb-false n (length (printed w ls)) e)))
    refl
