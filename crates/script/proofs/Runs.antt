-- A script on the record of a network just set up prints what the machine prints, and the claim of demand 3 holds of its events.
-- Assumes nothing.
use Prim.Native.Nat.{ℕ}
use mathlib.Core.Path.{◌≡◌, refl, sym, ap, subst, ◌∙◌}
use mathlib.Core.Bool.{true, ◌&&◌}
use mathlib.Core.List.{List, [], ◌∷◌, ◌++◌}
use Rattle.std.specs.Prelude.{Option, None, Some}
use lib.Dec.{eqb, ltb, leb}
use lib.ListN.{length, get_or}
use Rattle.lists.specs.Options.{case_option}
use Rattle.lists.specs.Places.{All, nil, cons}
use Rattle.lists.proofs.Choices.{by_option}
use Rattle.lists.proofs.Bools.{by_cond}
use Rattle.lists.proofs.Every.{all_append}
use Rattle.machine.specs.Stations.{same}
use Rattle.machine.specs.Events.{Event, Formed, step}
use Rattle.machine.specs.History.{World, after, run, begin}
use Rattle.machine.specs.Valid.{valid_setup}
use Rattle.machine.specs.Claim.{Claim}
use Rattle.structs.specs.declared.Network.{Network}
use Rattle.network.specs.Lens.{new_network}
use Rattle.network.specs.Events.{Line, Reply, line_of, event_of, run_of}
use Rattle.network.proofs.Reached.{demand}
use Rattle.script.specs.Text.{lines, fields}
use Rattle.script.specs.Fields.{number_in}
use Rattle.script.specs.EventLine.{event_in}
use Rattle.script.specs.SetUpLines.{set_up_names, event_names, Values, limited, value_fields, values_in, set_up_in, event_lines}
use Rattle.script.specs.Result.{result_names, bad_set_up, unreadable, result_of}
use Rattle.script.specs.Script.{events_in, printed_by, output_of, ScriptClaim, printed}
use Rattle.script.proofs.Formed.{Of, read_formed, events_formed}

-- one event more

record_more : (w : Network) (es : List Event) (e : Event) → run_of w (es ++ (e ∷ [])) ≡ (event_of (run_of w es) e).network
unfolding run_of
record_more w [] e = refl
record_more w (x ∷ es) e = record_more (event_of w x).network es e

machine_more : (w : World) (es : List Event) (e : Event) → run w (es ++ (e ∷ [])) ≡ after (run w es) e
unfolding run
machine_more w [] e = refl
machine_more w (x ∷ es) e = machine_more (after w x) es e

module _ (n t r : ℕ) (v : valid_setup n t r ≡ true) where
  -- what an event answers after the events es
  line_is : (es : List Event) → All Formed es → (e : Event) → Formed e
      → (event_of (run_of (new_network n t r) es) e).line ≡ line_of (step (run (begin n t r) es).network (length (run (begin n t r) es).log) e)
  line_is es z e f = ap (λ (x : Reply). x.line) ((demand n t r v es z).next e f)

  -- the lines after the events es
  printed_from : (es : List Event) → All Formed es → (ls : List (List ℕ)) → printed (run_of (new_network n t r) es) ls ≡ printed_by (run (begin n t r) es) ls
  unfolding printed printed_by
  printed_from es z [] = refl
  printed_from es z (l ∷ ls) = go (event_in l) (read_formed l) (printed_from es z ls) (λ e f. printed_from (es ++ (e ∷ [])) (all_append z (cons f nil)) ls)
    where
      go : (o : Option Event) → Of Formed o
          → printed (run_of (new_network n t r) es) ls ≡ printed_by (run (begin n t r) es) ls
          → ((e : Event) → Formed e → printed (run_of (new_network n t r) (es ++ (e ∷ []))) ls ≡ printed_by (run (begin n t r) (es ++ (e ∷ []))) ls)
          → case_option o (unreadable ++ printed (run_of (new_network n t r) es) ls) (λ e. result_of e (event_of (run_of (new_network n t r) es) e).line ++ printed (event_of (run_of (new_network n t r) es) e).network ls)
          ≡ case_option o (unreadable ++ printed_by (run (begin n t r) es) ls) (λ e. result_of e (line_of (step (run (begin n t r) es).network (length (run (begin n t r) es).log) e)) ++ printed_by (after (run (begin n t r) es) e) ls)
      go None f h k = ap (λ (x : List ℕ). unreadable ++ x) h
      go (Some e) f h k =
          ap (λ (x : Line). result_of e x ++ printed (event_of (run_of (new_network n t r) es) e).network ls) (line_is es z e f)
          ∙ ap (λ (x : List ℕ). result_of e (line_of (step (run (begin n t r) es).network (length (run (begin n t r) es).log) e)) ++ x)
          (ap (λ (w : Network). printed w ls) (sym (record_more (new_network n t r) es e)) ∙ k e f ∙ ap (λ (w : World). printed_by w ls) (machine_more (begin n t r) es e))

  -- all lines, from a network just set up
  pub printed_is : (ls : List (List ℕ)) → printed (new_network n t r) ls ≡ printed_by (begin n t r) ls
  unfolding run_of run
  printed_is ls = printed_from [] nil ls

  pub claim_holds : (ls : List (List ℕ)) → Claim r (run (begin n t r) (events_in ls))
  claim_holds ls = (demand n t r v (events_in ls) (events_formed ls)).claim

-- A whole script

-- the set-up that a script says is within the limits
abbrev pub Limited : Values → Type 0
Limited v = valid_setup v.aps v.timeout v.resends ≡ true

pub values_limited : (l : List ℕ) → Of Limited (values_in l)
unfolding values_in value_fields limited
values_limited l =
    by_cond (Of Limited) (ltb 255 (length l)) (λ _. tt) (λ _.
    by_cond (Of Limited) (eqb (length (fields l)) 3)
    (λ e. by_option (Of Limited) (number_in (get_or (fields l) 0 [])) (λ _. tt) (λ n _.
    by_option (Of Limited) (number_in (get_or (fields l) 1 [])) (λ _. tt) (λ t _.
    by_option (Of Limited) (number_in (get_or (fields l) 2 [])) (λ _. tt) (λ r _.
    by_cond (Of Limited) (valid_setup n t r) (λ v. v) (λ _. tt)))))
    (λ e. tt))

set_up_limited : (ls : List (List ℕ)) → Of Limited (set_up_in ls)
unfolding set_up_in
set_up_limited ls =
    by_cond (Of Limited) (leb 3 (length ls) && (same (get_or ls 0 []) set_up_names && same (get_or ls 2 []) event_names))
    (λ e. values_limited (get_or ls 1 []))
    (λ e. tt)

module _ (s : List ℕ) (v : Values) (e : set_up_in (lines s) ≡ Some v) where
  pub values_valid : valid_setup v.aps v.timeout v.resends ≡ true
  values_valid = subst (Of Limited) e (set_up_limited (lines s))

  -- on the record of a new network
  pub output_is : output_of s ≡ result_names ++ printed (new_network v.aps v.timeout v.resends) (event_lines (lines s))
  unfolding output_of
  output_is = rw e (ap (λ (x : List ℕ). result_names ++ x) (sym (printed_is v.aps v.timeout v.resends values_valid (event_lines (lines s)))))

pub output_bad : (s : List ℕ) → set_up_in (lines s) ≡ None → output_of s ≡ result_names ++ bad_set_up
unfolding output_of
output_bad s e = rw e

-- demand 3 of what every script with a good set-up prints
pub script_claim : (s : List ℕ) (v : Values) → set_up_in (lines s) ≡ Some v → ScriptClaim s v
script_claim s v e =
    record {
      text = unfold output_of in rw e refl;
      claim = claim_holds v.aps v.timeout v.resends (values_valid s v e) (event_lines (lines s));
    }
