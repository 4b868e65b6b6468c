-- What was heard of a line is the event that it says.
-- Assumes nothing.
use Prim.Native.Nat.{ℕ, ◌≤◌}
use mathlib.Core.Path.{◌≡◌, refl}
use mathlib.Core.Bool.{true, false}
use mathlib.Core.List.{List}
use Rattle.std.specs.Prelude.{Option, None, Some}
use native.Mathlib.Omega.{arith}
use lib.ListN.{length, take, drop, length-append}
use lib.Seq.{take-append_seam}
use Rattle.lists.specs.Options.{case_option}
use Rattle.lists.proofs.Choices.{not_both}
use Rattle.machine.specs.Events.{Event, Formed}
use Rattle.events.specs.Event.{event_as}
use Rattle.script.specs.Put.{front_given}
use Rattle.script.specs.EventLine.{Said, said_of, event_said, event_in}
use Rattle.script.proofs.Formed.{Of, SaidIn, said_in, event_formed}
use Rattle.script_reader.specs.Heard.{Heard, nothing_heard, heard_of, heard_in, context_to}

-- the event of what was heard, with the context in the lent array
abbrev pub event_heard : Heard → List ℕ → Event
event_heard h b = event_as h.kind h.at h.station h.sequence h.old (take h.len b)

pub heard_none : (l : List ℕ) → (heard_in l).readable ≡ false → (event_in l ≡ None) × (heard_in l ≡ nothing_heard)
unfolding heard_in event_in heard_of nothing_heard
heard_none l h = go (said_of l) h
  where
    go : (o : Option Said) → (case_option o nothing_heard heard_of).readable ≡ false
        → (case_option {B = Option Event} o None (λ x. Some (event_said x)) ≡ None) × (case_option o nothing_heard heard_of ≡ nothing_heard)
    go None k = (refl, refl)
    go (Some x) k = not_both refl k

module _ (l b : List ℕ) where
  pub heard_event : (heard_in l).readable ≡ true → event_in l ≡ Some (event_heard (heard_in l) (context_to l b))
  unfolding heard_in context_to event_in event_said heard_of nothing_heard
  heard_event h = go (said_of l) h
    where
      go : (o : Option Said) → (case_option o nothing_heard heard_of).readable ≡ true
          → case_option o None (λ x. Some (event_said x)) ≡ Some (event_heard (case_option o nothing_heard heard_of) (front_given (case_option o None (λ x. Some x.context)) b))
      go None k = not_both k refl
      go (Some x) k = rw (take-append_seam x.context (drop (length x.context) b))

  -- the context is within the array
  pub heard_fits : (heard_in l).len ≤ length (context_to l b)
  unfolding heard_in context_to heard_of nothing_heard
  heard_fits = go (said_of l)
    where
      go : (o : Option Said) → (case_option o nothing_heard heard_of).len ≤ length (front_given (case_option o None (λ x. Some x.context)) b)
      go None = omega arith
      go (Some x) = omega (arith, length-append x.context (drop (length x.context) b))

  pub heard_formed : Formed (event_heard (heard_in l) (context_to l b))
  unfolding heard_in context_to heard_of nothing_heard
  heard_formed = go (said_of l) (said_in l)
    where
      go : (o : Option Said) → Of SaidIn o → Formed (event_heard (case_option o nothing_heard heard_of) (front_given (case_option o None (λ x. Some x.context)) b))
      go None k = tt
      go (Some x) k =
          rw (take-append_seam x.context (drop (length x.context) b)) (event_formed x.kind x.at x.station x.sequence x.old x.context k.station k.context)
