-- Demand 3 of the code: of every sequence of calls whose results meet the entry points' contracts, from a network that set-up accepted.
-- Assumes nothing.
use Prim.Native.Nat.{ℕ}
use mathlib.Core.Path.{◌≡◌, refl, sym, ap, subst, ◌∙◌}
use mathlib.Core.Bool.{Bool, true, false, cond}
use mathlib.Core.List.{List, [], ◌∷◌, reverse}
use native.Mathlib.Omega.{arith}
use Rattle.lists.specs.Places.{All}
use Rattle.machine.specs.Events.{Event, Octet, StationIn, Formed}
use Rattle.machine.specs.Valid.{valid_setup}
use Rattle.structs.specs.declared.Network.{Network}
use Rattle.network.specs.Lens.{new_network}
use Rattle.network.specs.Events as floor
use Rattle.network.specs.Events.{event_of, run_of, lines_of}
use Rattle.network.specs.Clean.{Clean}
use Rattle.network.specs.Demand.{Demand, networks_of, answered_of}
use Rattle.network.proofs.Reached.{demand}
use Rattle.network.proofs.Clean.{clean}
use Rattle.structs.specs.declared.Kind.{Kind}
use Rattle.structs.specs.declared.Kind.TheVariants.{Join, Leave, Deliver, Repeat, Lose, Tick, Who}
use Rattle.structs.specs.declared.Event as call
use Rattle.events.specs.Event.{event_as, event_from}
use Rattle.floor_link.specs.declared.Reply.{Reply}
use Rattle.std.specs.Prelude.{Result}
use Rattle.answers.specs.declared.Refusal.{Refusal}
use Rattle.floor_link.specs.Answered.{Started, set_up_of, set_up_done, told_line, network_after}
use Rattle.floor_link.specs.Calls.{Calls, last_of, lines_from, networks_from, answered_from, Delivered}

-- the replies are those of the record's own list of events

last_is : (w : Network) (es : List Event) (rs : List (Result Reply Refusal)) → Calls w es rs → last_of w rs ≡ run_of w es
unfolding last_of run_of
last_is w [] [] h = refl
last_is w [] (r ∷ rs) h = absurd h
last_is w (e ∷ es) [] h = absurd h
last_is w (e ∷ es) (r ∷ rs) h = last_is (network_after w r) es rs h.1 ∙ ap (λ (x : floor.Reply). run_of x.network es) h.0

lines_are : (w : Network) (es : List Event) (rs : List (Result Reply Refusal)) → Calls w es rs → lines_from rs ≡ lines_of w es
unfolding lines_from lines_of
lines_are w [] [] h = refl
lines_are w [] (r ∷ rs) h = absurd h
lines_are w (e ∷ es) [] h = absurd h
lines_are w (e ∷ es) (r ∷ rs) h =
    ap (◌∷◌ (told_line r)) (lines_are (network_after w r) es rs h.1)
    ∙ ap (λ (x : floor.Reply). x.line ∷ lines_of x.network es) h.0

floors_are : (w : Network) (es : List Event) (rs : List (Result Reply Refusal)) → Calls w es rs → networks_from w rs ≡ networks_of w es
unfolding networks_from networks_of
floors_are w [] [] h = refl
floors_are w [] (r ∷ rs) h = absurd h
floors_are w (e ∷ es) [] h = absurd h
floors_are w (e ∷ es) (r ∷ rs) h =
    ap (◌∷◌ (network_after w r)) (floors_are (network_after w r) es rs h.1)
    ∙ ap (λ (x : floor.Reply). x.network ∷ networks_of x.network es) h.0

answers_are : (w : Network) (es : List Event) (rs : List (Result Reply Refusal)) → Calls w es rs → answered_from es rs ≡ answered_of w es
unfolding answered_from answered_of
answers_are w [] [] h = refl
answers_are w [] (r ∷ rs) h = absurd h
answers_are w (e ∷ es) [] h = absurd h
answers_are w (e ∷ es) (r ∷ rs) h =
    ap (◌∷◌ (e, (told_line r).answer)) (answers_are (network_after w r) es rs h.1)
    ∙ ap (λ (x : floor.Reply). (e, x.line.answer) ∷ answered_of x.network es) h.0

-- what set-up accepts is a new network

accepted_setup : (n t r : ℕ) → (set_up_done n t r).answer ≡ 0 → valid_setup n t r ≡ true
unfolding set_up_done
accepted_setup n t r = go (valid_setup n t r)
  where
    go : (b : Bool) → (cond {A = Started} b (record { answer = 0; network = new_network n t r }) (record { answer = 14; network = new_network 0 0 0 })).answer ≡ 0 → b ≡ true
    go true e = refl
    go false e = absurd (omega arith)

new_setup : (n t r : ℕ) → valid_setup n t r ≡ true → (set_up_done n t r).network ≡ new_network n t r
unfolding set_up_done
new_setup n t r v = rw v

-- Demand 3
pub delivered : (n t r : ℕ) (s : Result Network Refusal) → set_up_of s ≡ set_up_done n t r → (set_up_of s).answer ≡ 0
    → (es : List Event) (rs : List (Result Reply Refusal)) → All Formed es → Calls (set_up_of s).network es rs → Delivered n t r es rs
delivered n t r s h a es rs z c =
    let v : valid_setup n t r ≡ true = accepted_setup n t r (sym (ap (λ (x : Started). x.answer) h) ∙ a) in
    let w : (set_up_of s).network ≡ new_network n t r = ap (λ (x : Started). x.network) h ∙ new_setup n t r v in
    let k : Calls (new_network n t r) es rs = subst (λ (f : Network). Calls f es rs) w c in
    let d : Demand n t r es = demand n t r v es z in
    let l : last_of (new_network n t r) rs ≡ run_of (new_network n t r) es = last_is (new_network n t r) es rs k in
    record {
      claim = d.claim;
      lines = ap reverse (lines_are (new_network n t r) es rs k) ∙ d.lines;
      answers = ap reverse (answers_are (new_network n t r) es rs k) ∙ d.answers;
      floors = ap reverse (floors_are (new_network n t r) es rs k) ∙ d.floors;
      network = l ∙ d.network;
      clean = subst Clean (sym l) (clean n t r v es z);
      next = λ e f x q. ap (λ (y : floor.Reply). y.line) (q ∙ ap (λ (g : Network). event_of g e) l ∙ d.next e f);
    }

-- what a call's types grant of its arguments is all that is asked of an event
pub formed : (e : call.Event) (c : List ℕ) → StationIn e.station → All Octet c → Formed (event_from e c)
formed e c s o = go e.kind
  where
    go : (k : Kind) → Formed (event_as k e.at e.station e.sequence e.old c)
    go Join = (s, o)
    go Leave = tt
    go Deliver = tt
    go Repeat = tt
    go Lose = tt
    go Tick = tt
    go Who = tt
