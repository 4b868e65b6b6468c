-- `floor_link::valid` meets its contract: set-up, the packets in flight, and the access points.
-- Assumes nothing.
use Prim.Native.Nat.{◌≤◌}
use mathlib.Core.Path.{◌≡◌, refl, sym, ◌∙◌}
use mathlib.Core.Bool.{Bool, true, false, ◌&&◌}
use lib.ListN.{take}
use Rattle.lists.specs.Places.{every}
use Rattle.lists.proofs.Every.{every_list}
use Rattle.lists.proofs.Choices.{and_false}
use Rattle.machine.specs.Valid.{valid_setup}
use Rattle.machine.proofs.Valid.{setup_in}
use Rattle.record.specs.Valid.{valid_record}
use Rattle.structs.specs.declared.Network.{Network}
use Rattle.events.proofs.Within.{in_parts}
use Rattle.floor_link.proofs.valid.Goals as goal

-- as many access points as set-up allows
few : (w : Network) → valid_setup w.ap_count w.timeout w.resend_limit ≡ true → w.ap_count ≤ 8
unfolding valid_setup
few w e = (setup_in _ _ _ e).count.1

left_is : (b : Bool) → b ≡ b && true
left_is true = refl
left_is false = refl

pub returns-then-not-valid_setup : goal.returns-then-not-valid_setup
returns-then-not-valid_setup c = in_parts c.args.network false _ _ (sym c.valid_setup.ensures ∙ c.if-not-valid_setup.true) refl refl

pub shared_ref_as_front-all_valid : goal.shared_ref_as_front-all_valid
shared_ref_as_front-all_valid c = few c.args.network (sym c.valid_setup.ensures ∙ c.if-not-valid_setup.false)

pub returns-then-valid : goal.returns-then-valid
returns-then-valid c =
    let w = c.args.network in
    let e = sym c.valid_setup.ensures ∙ c.if-not-valid_setup.false in
    let points : every (valid_record w.ap_count) (take w.ap_count w.points) ≡ c.all_valid.result =
    sym (every_list (valid_record w.ap_count) (take w.ap_count w.points)) ∙ sym c.all_valid.ensures in
    left_is c.all_valid.result ∙ in_parts w true c.all_valid.result true e points (sym c.valid.ensures ∙ c.if-valid.true)

pub returns-else-valid : goal.returns-else-valid
returns-else-valid c =
    let w = c.args.network in
    let e = sym c.valid_setup.ensures ∙ c.if-not-valid_setup.false in
    c.if-valid.false ∙ sym (and_false (every (valid_record w.ap_count) (take w.ap_count w.points))) ∙ in_parts w true _ false e refl (sym c.valid.ensures ∙ c.if-valid.false)
