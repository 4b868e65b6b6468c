-- A who: HELD and TABLES, or 13.
-- Assumes nothing.
use Prim.Native.Nat.{ℕ}
use mathlib.Core.Path.{◌≡◌, refl, sym, ap, ◌∙◌}
use mathlib.Core.Bool.{true, false}
use mathlib.Core.List.{List, map}
use Rattle.std.specs.Prelude.{Option}
use lib.Count.{ones}
use lib.ListN.{length, take}
use Rattle.lists.proofs.Choices.{not_both}
use Rattle.machine.specs.Stations.{Station, is_group}
use Rattle.machine.specs.Moves.{nothing}
use Rattle.machine.specs.Events.{who, group_address, event_tests, refusal, given_up_count, held_by, ones_in, accepted, step}
use Rattle.record.specs.Lens.{get_point}
use Rattle.structs.specs.declared.Network.{Network}
use Rattle.network.specs.Lens.{get}
use Rattle.network.specs.Events.{line_of, reply_of, refused}
use Rattle.network.proofs.LensLaws.{NetworkFits, put_get}
use Rattle.structs.specs.declared.Kind.{Kind}
use Rattle.structs.specs.declared.Kind.TheVariants.{Join, Leave, Deliver, Repeat, Lose, Tick, Who}
use Rattle.events.specs.Event.{is_who, event_as}
use Rattle.events.proofs.Held.{ones_counted}
use Rattle.events.proofs.Stored.{refused_is}

module _ (w : Network) (z : NetworkFits w) (s : Station) where
  pub who_refused : is_group s ≡ true → refused 13 w ≡ reply_of w (step (get w) 0 (who s))
  unfolding step refusal event_tests group_address
  who_refused e = sym (refused_is w z 13) ∙ rw e

  pub who_told : is_group s ≡ false → (h t : ℕ) → h ≡ held_by s (map get_point (take w.ap_count w.points)) → t ≡ ones h
      → record { line = record { answer = 0; sent = 0; given_up = 0; held = h; tables = t }; network = w } ≡ reply_of w (step (get w) 0 (who s))
  unfolding step refusal event_tests group_address accepted reply_of line_of given_up_count nothing
  who_told g h t eh et =
      let k : ℕ = held_by s (map get_point (take w.ap_count w.points)) in
      let e : t ≡ ones_in (length (map get_point (take w.ap_count w.points))) k = et ∙ ap ones eh ∙ ones_counted s (map get_point (take w.ap_count w.points)) in
      rw g
      (ap (λ (n : ℕ). record { line = record { answer = 0; sent = 0; given_up = 0; held = n; tables = t }; network = w }) eh
      ∙ ap (λ (n : ℕ). record { line = record { answer = 0; sent = 0; given_up = 0; held = k; tables = n }; network = w }) e
      ∙ ap (λ (f : Network). record { line = record { answer = 0; sent = 0; given_up = 0; held = k; tables = ones_in (length (map get_point (take w.ap_count w.points))) k }; network = f }) (sym (put_get w z)) ∙ (unfold get in refl))

-- an event that asks is a who
pub asks : (k : Kind) (at : ℕ) (s : Station) (n : ℕ) (old : Option ℕ) (c : List ℕ) → is_who k ≡ true → who s ≡ event_as k at s n old c
asks Join at s n old c e = not_both e refl
asks Leave at s n old c e = not_both e refl
asks Deliver at s n old c e = not_both e refl
asks Repeat at s n old c e = not_both e refl
asks Lose at s n old c e = not_both e refl
asks Tick at s n old c e = not_both e refl
asks Who at s n old c e = refl
