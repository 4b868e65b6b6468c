-- A record as it is lent, with anything in its unused parts: its test of 14 is the machine's, a refusal changes nothing of it, and an
-- event leaves it within the limits.
-- Assumes nothing.
use Prim.Native.Nat.{ℕ}
use mathlib.Core.Bool.{true, false}
use mathlib.Core.Path.{◌≡◌, sym, ap, ◌∙◌}
use native.Mathlib.Omega.{arith}
use borrow.Author.Tests.{leb-true}
use lib.ListN.{length, take, length-map}
use lib.Seq.{length-take-le}
use Rattle.lists.specs.Table.{accepts}
use Rattle.lists.specs.Places.{every}
use Rattle.lists.proofs.Choices.{and_left, and_right}
use Rattle.lists.proofs.Every.{all_take, every_all}
use Rattle.machine.specs.Moves.{nothing}
use Rattle.machine.specs.Events.{Event, Formed, refusal, given_up_count, quiet, step}
use Rattle.machine.specs.Valid.{valid_setup, valid_network}
use Rattle.machine.proofs.Valid.{SetupIn, setup_in, valid_step}
use Rattle.machine.proofs.Refusal14.{NetworkTyped, valid_in, valid_kept}
use Rattle.structs.specs.declared.AccessPoint.{AccessPoint}
use Rattle.record.specs.Lens.{get_point}
use Rattle.record.specs.Valid.{valid_record, Usable}
use Rattle.record.proofs.LensLaws.{Fits}
use Rattle.record.proofs.ValidLaws.{valid_says}
use Rattle.structs.specs.declared.Network.{Network}
use Rattle.network.specs.Sizes.{PointSized, Sized}
use Rattle.network.specs.Lens.{get}
use Rattle.network.specs.Events.{valid_network_record, Reply, reply_of, line_of, refused, event_of}
use Rattle.network.proofs.LensLaws.{NetworkFits, put_get}
use Rattle.network.proofs.Refusal14.{valid_put}

point_fits : (k : ℕ) (a : AccessPoint) → PointSized a → valid_record k a ≡ true → Fits a
point_fits k a z e =
    let u : Usable a = valid_says k a e in
    record { associations = omega (arith, z.associations, u.associations); moves = omega (arith, z.moves, u.moves) }

-- used lengths are within the arrays
pub valid_fits : (w : Network) → Sized w → valid_network_record w ≡ true → NetworkFits w
unfolding valid_network_record valid_setup
valid_fits w z e =
    let s : SetupIn w.ap_count w.timeout w.resend_limit = setup_in w.ap_count w.timeout w.resend_limit (and_left _ _ e) in
    let e₁ = and_right (valid_setup w.ap_count w.timeout w.resend_limit) _ e in
    let e₂ = and_right (every (valid_record w.ap_count) (take w.ap_count w.points)) _ e₁ in
    record {
      count = omega (arith, s.count.1, z.points);
      points = every_all (point_fits w.ap_count) (all_take w.ap_count z.each) (and_left _ _ e₁);
      air = omega (arith, leb-true w.in_flight.count 64 (and_left _ _ e₂), z.air);
    }

-- as many access points as the AP count
pub got_count : (w : Network) → NetworkFits w → length (get w).points ≡ w.ap_count
unfolding get
got_count w z = length-map (take w.ap_count w.points) get_point ∙ length-take-le w.ap_count w.points z.count

-- the test of 14 is the machine's
pub valid_got : (w : Network) → NetworkFits w → valid_network_record w ≡ valid_network (get w)
valid_got w z = ap valid_network_record (sym (put_get w z)) ∙ valid_put w (get w) (omega (arith, got_count w z, z.count))

-- an event on a record to which 14 does not apply
pub event_valid : (w : Network) (e : Event) → valid_network_record w ≡ true → event_of w e ≡ reply_of w (step (get w) 0 e)
unfolding event_of
event_valid w e v = rw v

-- "changes neither record nor buffer"
pub refused_exact : (w : Network) (e : Event) → NetworkFits w → valid_network_record w ≡ true → accepts (refusal (get w) e) ≡ false → event_of w e ≡ refused (refusal (get w) e) w
unfolding step reply_of refused quiet line_of given_up_count nothing
refused_exact w e z v q =
    event_valid w e v ∙ rw q (ap (refused (refusal (get w) e)) (put_get w z))

-- every event keeps a record to which 14 does not apply so
pub event_kept : (w : Network) (e : Event) → NetworkFits w → NetworkTyped (get w) → Formed e → valid_network_record w ≡ true → valid_network_record (event_of w e).network ≡ true
unfolding reply_of
event_kept w e z h f v =
    let g : valid_network (get w) ≡ true = sym (valid_got w z) ∙ v in
    let c : length (step (get w) 0 e).network.points ≡ length (get w).points = (valid_step (valid_in (get w) h g).1 0 e f).count in
    ap (λ (x : Reply). valid_network_record x.network) (event_valid w e v)
    ∙ valid_put w (step (get w) 0 e).network (omega (arith, got_count w z, z.count))
    ∙ (valid_kept (get w) h g 0 e f).1
