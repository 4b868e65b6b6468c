-- A packet taken out, and packets put in flight over what is left.
-- Assumes nothing.
use Prim.Native.Nat.{ℕ, ◌≤◌}
use mathlib.Core.Path.{◌≡◌, refl, ap, ◌∙◌}
use mathlib.Core.Bool.{Bool, true, false, cond}
use mathlib.Core.List.{List}
use mathlib.Core.Logic.{inl}
use native.Mathlib.Omega.{arith}
use lib.ListN.{length, take, length-take}
use Rattle.lists.specs.Places.{without}
use Rattle.lists.proofs.Every.{without_length}
use Rattle.structs.specs.declared.InFlight.{InFlight}
use Rattle.slots.proofs.Over.{take_over, over_over, length_over}
use Rattle.structs.specs.Lists.{get_in_flight, put_in_flight, get_outbox}
use Rattle.in_flight.specs.Post.{posted}
use Rattle.events.specs.Apart.{settled_by}
use Rattle.structs.specs.declared.Outbox.{Outbox}
use Rattle.structs.specs.declared.InFlights.{InFlights}
use Rattle.structs.specs.Blanks.{no_in_flight}

-- what is left of t where packet i is taken out or not
abbrev pub left : Bool → ℕ → InFlights → InFlights
left taken i t = cond taken (put_in_flight t (without i (get_in_flight t))) t

module _ (t : InFlights) (i : ℕ) where
  few : length (without i (get_in_flight t)) ≤ t.count
  few = omega (arith, without_length i (take t.count t.items), length-take t.count t.items)

  -- the slots are as many as they were, and no more of them are used
  pub left_few : (taken : Bool) → (left taken i t).count ≤ t.count
  left_few true = few
  left_few false = omega arith

  pub left_slots : (taken : Bool) → t.count ≤ length t.items → length (left taken i t).items ≡ length t.items
  left_slots true h = length_over no_in_flight t.count (without i (get_in_flight t)) t.items h (omega (arith, few))
  left_slots false h = refl

  -- and then those of o put in flight
  pub left_posted : (taken : Bool) (o : Outbox)
      → put_in_flight (left taken i t) (posted (get_outbox o) (get_in_flight (left taken i t))) ≡ settled_by taken i o t
  unfolding settled_by
  left_posted true o =
      let ws : List InFlight = without i (get_in_flight t) in
      let ps : List InFlight = get_outbox o in
      ap (λ (xs : List InFlight). put_in_flight (put_in_flight t ws) (posted ps xs)) (take_over no_in_flight t.count ws t.items)
      ∙ ap (λ (xs : List InFlight). record { items = xs; count = length (posted ps ws) }) (over_over no_in_flight t.count ws (posted ps ws) t.items (inl few))
  left_posted false o = refl
