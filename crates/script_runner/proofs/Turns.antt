-- What one line prints, and the record that it leaves to the lines after it.
-- Assumes nothing.
use Prim.Native.Nat.{ℕ}
use mathlib.Core.Path.{◌≡◌, refl, sym, ap, ◌∙◌}
use mathlib.Core.Bool.{true, false}
use mathlib.Core.List.{List, ◌∷◌, ◌++◌}
use Rattle.std.specs.Prelude.{Option, None, Some}
use Rattle.lists.specs.Options.{case_option}
use Rattle.machine.specs.Stations.{Station}
use Rattle.machine.specs.Events.{Event, Formed}
use Rattle.structs.specs.declared.Network.{Network}
use Rattle.network.specs.Events.{Reply, event_of, run_of}
use Rattle.network.proofs.Ready.{Ready, ready_event}
use Rattle.structs.specs.declared.Kind.{Kind}
use Rattle.structs.specs.declared.Kind.TheVariants.{Join, Leave, Deliver, Repeat, Lose, Tick, Who}
use Rattle.events.specs.Event.{event_as}
use Rattle.script.specs.EventLine.{event_in}
use Rattle.script.specs.Result.{unreadable, result_as, kind_of, result_of}
use Rattle.script.specs.Script.{events_in, printed, played}
use Rattle.script.proofs.Formed.{Of, read_formed}
use Rattle.script_reader.specs.Heard.{Heard, heard_in, context_to}
use Rattle.script_reader.proofs.Event.{event_heard, heard_event, heard_none}
use Rattle.script_runner.specs.Played.{text_in, after_line}

kind_of_lem : (k : Kind) (at : ℕ) (s : Station) (n : ℕ) (old : Option ℕ) (c : List ℕ) → kind_of (event_as k at s n old c) ≡ k
kind_of_lem Join at s n old c = refl
kind_of_lem Leave at s n old c = refl
kind_of_lem Deliver at s n old c = refl
kind_of_lem Repeat at s n old c = refl
kind_of_lem Lose at s n old c = refl
kind_of_lem Tick at s n old c = refl
kind_of_lem Who at s n old c = refl

-- the first line, and those after it

pub line_printed : (w : Network) (l : List ℕ) (ls : List (List ℕ)) → printed w (l ∷ ls) ≡ text_in w l ++ printed (after_line w l) ls
unfolding printed
line_printed w l ls = go (event_in l)
  where
    go : (o : Option Event)
        → case_option o (unreadable ++ printed w ls) (λ e. result_of e (event_of w e).line ++ printed (event_of w e).network ls)
        ≡ case_option o unreadable (λ e. result_of e (event_of w e).line) ++ printed (case_option o w (λ e. (event_of w e).network)) ls
    go None = refl
    go (Some e) = refl

pub line_played : (w : Network) (l : List ℕ) (ls : List (List ℕ)) → played w (l ∷ ls) ≡ played (after_line w l) ls
unfolding played events_in run_of
line_played w l ls = go (event_in l)
  where
    go : (o : Option Event) → run_of w (case_option o (events_in ls) (λ e. e ∷ events_in ls)) ≡ run_of (case_option o w (λ e. (event_of w e).network)) (events_in ls)
    go None = refl
    go (Some e) = refl

-- it leaves a record to which 14 does not apply
pub ready_after : (w : Network) (l : List ℕ) → Ready w → Ready (after_line w l)
ready_after w l h = go (event_in l) (read_formed l)
  where
    go : (o : Option Event) → Of Formed o → Ready (case_option o w (λ e. (event_of w e).network))
    go None f = h
    go (Some e) f = ready_event w e h f

-- what the code heard of the line, with what is in the array for contexts, and what it answers

pub unread_turn : (w : Network) (l : List ℕ) → (heard_in l).readable ≡ false → (w ≡ after_line w l) × (unreadable ≡ text_in w l)
unread_turn w l h = rw (heard_none l h).0 (refl, refl)

pub read_turn : (w : Network) (l b d : List ℕ) (h : Heard) (y : Reply) → h ≡ heard_in l → h.readable ≡ true → d ≡ context_to l b → y ≡ event_of w (event_heard h d)
    → (y.network ≡ after_line w l) × (result_as h.kind y.line ≡ text_in w l)
unfolding result_of
read_turn w l b d h y eh r ed ey =
    let e : Event = event_heard (heard_in l) (context_to l b) in
    let q : event_in l ≡ Some e = heard_event l b (ap (λ (x : Heard). x.readable) (sym eh) ∙ r) in
    let z : y ≡ event_of w e = ey ∙ ap (λ (x : Heard). event_of w (event_heard x d)) eh ∙ ap (λ (c : List ℕ). event_of w (event_heard (heard_in l) c)) ed in
    let k : h.kind ≡ kind_of e = ap (λ (x : Heard). x.kind) eh ∙ sym (kind_of_lem (heard_in l).kind _ _ _ _ _) in
    rw q (ap (λ (x : Reply). x.network) z, ap (λ (n : Kind). result_as n y.line) k ∙ ap (λ (x : Reply). result_as (kind_of e) x.line) z)
