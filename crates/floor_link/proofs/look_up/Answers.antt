-- `floor_link::look_up` meets its contract: 13, or HELD and TABLES.
-- Assumes nothing.
use Prim.Native.Nat.{◌≤◌}
use mathlib.Core.Path.{refl, sym, ap, ◌∙◌}
use native.Mathlib.Omega.{arith}
use lib.Count.{ones}
use lib.ListN.{take, length-take}
use Rattle.network.specs.Events.{refused}
use Rattle.network.proofs.LensLaws.{NetworkFits}
use Rattle.network.proofs.Lent.{valid_fits}
use Rattle.events.proofs.Within.{setup_within, all_usable}
use Rattle.events.proofs.Held.{ones_few}
use Rattle.events.proofs.Asked.{who_refused, who_told}
use Rattle.floor_link.proofs.look_up.Goals as goal

pub returns-then-is_group : goal.returns-then-is_group
unfolding refused
returns-then-is_group c =
    let w = c.args.network.now in
    who_refused w (valid_fits w c.requires.0 c.requires.1) c.args.station (sym c.is_group.ensures ∙ c.if-is_group.true)

pub shared_ref_as_front-holders : goal.shared_ref_as_front-holders
shared_ref_as_front-holders c = (setup_within c.args.network.now (valid_fits c.args.network.now c.requires.0 c.requires.1) c.requires.1).count.1

pub holders-held-requires : goal.holders-held-requires
holders-held-requires c =
    let w = c.args.network.now in
    let z : NetworkFits w = valid_fits w c.requires.0 c.requires.1 in
    (omega (arith, (setup_within w z c.requires.1).count.1, length-take w.ap_count w.points), all_usable w z c.requires.1)

pub overflow_cast-result : goal.overflow_cast-result
overflow_cast-result c =
    let w = c.args.network.now in
    let eight : w.ap_count ≤ 8 = (setup_within w (valid_fits w c.requires.0 c.requires.1) c.requires.1).count.1 in
    let e = ap ones c.holders-held.ensures in
    omega (arith, e, ones_few c.args.station (take w.ap_count w.points) (omega (arith, length-take w.ap_count w.points)))

pub returns : goal.returns
returns c =
    let w = c.args.network.now in
    who_told w (valid_fits w c.requires.0 c.requires.1) c.args.station (sym c.is_group.ensures ∙ c.if-is_group.false) c.holders-held.result (ones c.holders-held.result) c.holders-held.ensures refl
