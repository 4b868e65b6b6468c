-- `script_feed::start` meets its contract.
-- Assumes nothing.
use Rattle.std.proofs.Common.{◌≡◌, refl, ap, ◌∙◌, true, arith}
use Rattle.machine.specs.Network.{setup_tests}
use Rattle.machine.specs.Valid.{valid_setup}
use Rattle.network.specs.Events.{valid_network_record}
use Rattle.network.proofs.Reached.{new_valid}
use Rattle.script_feed.proofs.Law as law
use Rattle.script_feed.proofs.start.Goals as goal

small : valid_setup 1 1 0 ≡ true
unfolding valid_setup setup_tests
small = refl

pub returns : goal.returns
returns c =
    record {
      state = record { valid = ap valid_network_record c.new_network.ensures ∙ new_valid 1 1 0 small; short = omega arith };
      cut_anyhow = law.cut_anyhow c.new_network.result;
    }
