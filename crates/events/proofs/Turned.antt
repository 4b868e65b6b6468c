-- What a loop that holds a network stores and answers is the event on the record, whichever of the seven it is.
-- Assumes nothing.
use Prim.Native.Nat.{ℕ}
use mathlib.Core.Path.{◌≡◌, refl, sym, ap, ◌∙◌}
use mathlib.Core.Bool.{Bool, true, cond}
use mathlib.Core.List.{List, map}
use Rattle.std.specs.Prelude.{Option}
use lib.Count.{ones}
use lib.ListN.{get_or, take}
use Rattle.lists.proofs.Choices.{by_bool}
use Rattle.structs.specs.declared.InFlight.{InFlight}
use Rattle.machine.specs.Stations.{Station, is_group}
use Rattle.machine.specs.Events.{who, held_by, step}
use Rattle.structs.specs.declared.AccessPoint.{AccessPoint}
use Rattle.record.specs.Lens.{get_point}
use Rattle.structs.specs.declared.Network.{Network}
use Rattle.network.specs.Lens.{get}
use Rattle.network.specs.Events.{valid_network_record, Reply, reply_of, refused, event_of}
use Rattle.network.proofs.LensLaws.{NetworkFits}
use Rattle.network.proofs.Lent.{event_valid}
use Rattle.actions.specs.Done.{Done}
use Rattle.structs.specs.declared.Kind.{Kind}
use Rattle.structs.specs.declared.Kind.TheVariants.{Join, Leave, Deliver, Repeat, Lose, Tick, Who}
use Rattle.events.specs.Event.{event_as, is_who}
use Rattle.events.specs.Apart.{packet_for, point_for, taken_for, action_for, stored_by, answered_by}
use Rattle.events.proofs.Stored.{unchanged_is}
use Rattle.events.proofs.Performed.{performed_by}
use Rattle.events.proofs.Asked.{who_refused, who_told}

module _ (w : Network) (z : NetworkFits w) (v : valid_network_record w ≡ true) where
  -- a who changes nothing, and is answered by the mask
  who_is : (s : Station) (a n g h : ℕ) → h ≡ held_by s (map get_point (take w.ap_count w.points))
      → record { line = answered_by Who s a n g h; network = w } ≡ reply_of w (step (get w) 0 (who s))
  unfolding refused
  who_is s a n g h e =
      by_bool (λ (b : Bool). is_group s ≡ b → record { line = cond b (record { answer = 13; sent = 0; given_up = 0; held = 0; tables = 0 }) (record { answer = 0; sent = 0; given_up = 0; held = h; tables = ones h }); network = w } ≡ reply_of w (step (get w) 0 (who s)))
      (is_group s) (λ q k. who_refused w z s k) (λ q k. who_told w z s k h (ones h) e refl) refl

  pub who_keeps : (s : Station) → (event_of w (who s)).network ≡ w
  who_keeps s = ap (λ (r : Reply). r.network) (event_valid w (who s) v ∙ sym (who_is s 0 0 0 (held_by s (map get_point (take w.ap_count w.points))) refl))

  module _ (at : ℕ) (s : Station) (n : ℕ) (old : Option ℕ) (c : List ℕ) (dp : InFlight) (d : AccessPoint) where
    -- the answer and the record then
    abbrev Turn : Kind → ℕ → ℕ → Bool → Done → ℕ → Reply
    Turn k b i taken x h = record { line = answered_by k s x.answer x.sent.count x.given_up h; network = (stored_by w b taken i x).network }

    pub turned : (k : Kind) (b i : ℕ) (taken : Bool) (x : Done) (h : ℕ)
        → (is_who k ≡ true → h ≡ held_by s (map get_point (take w.ap_count w.points)))
        → i ≡ packet_for k at w.in_flight.count
        → b ≡ point_for k at w.ap_count w.in_flight.count (get_or w.in_flight.items i dp).to
        → taken ≡ taken_for k at w.in_flight.count
        → x ≡ action_for k at s n old c w.ap_count w.timeout w.resend_limit w.in_flight.count (get_or w.points b d) (get_or w.in_flight.items i dp)
        → Turn k b i taken x h ≡ event_of w (event_as k at s n old c)
    turned Join b i taken x h q ei eb et ex = performed_by w z v at s n old c dp d Join b i taken x refl ei eb et ex ∙ sym (event_valid w (event_as Join at s n old c) v)
    turned Leave b i taken x h q ei eb et ex = performed_by w z v at s n old c dp d Leave b i taken x refl ei eb et ex ∙ sym (event_valid w (event_as Leave at s n old c) v)
    turned Deliver b i taken x h q ei eb et ex = performed_by w z v at s n old c dp d Deliver b i taken x refl ei eb et ex ∙ sym (event_valid w (event_as Deliver at s n old c) v)
    turned Repeat b i taken x h q ei eb et ex = performed_by w z v at s n old c dp d Repeat b i taken x refl ei eb et ex ∙ sym (event_valid w (event_as Repeat at s n old c) v)
    turned Lose b i taken x h q ei eb et ex = performed_by w z v at s n old c dp d Lose b i taken x refl ei eb et ex ∙ sym (event_valid w (event_as Lose at s n old c) v)
    turned Tick b i taken x h q ei eb et ex = performed_by w z v at s n old c dp d Tick b i taken x refl ei eb et ex ∙ sym (event_valid w (event_as Tick at s n old c) v)
    turned Who b i taken x h q ei eb et ex =
        ap (λ (f : Network). record { line = answered_by Who s x.answer x.sent.count x.given_up h; network = f }) kept
        ∙ who_is s x.answer x.sent.count x.given_up h (q refl)
        ∙ sym (event_valid w (who s) v)
      where
        kept : (stored_by w b taken i x).network ≡ w
        kept = rw (et, ex) (unfold refused in ap (λ (r : Reply). r.network) (unchanged_is w z b i 0 d))
