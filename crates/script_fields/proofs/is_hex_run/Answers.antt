-- `script_fields::is_hex_run` meets its contract.
-- Assumes nothing.
use Rattle.std.proofs.Common.{rules, tests, sym, ◌∙◌}
use Rattle.std.proofs.lemmas.Iterator.{YieldsList-from_slice}
use Rattle.std.proofs.lemmas.Iterator.Search.{all_from_yields_List}
use Rattle.script.specs.Fields.{is_hex}
use Rattle.script_fields.proofs.Runs.{every_all}
use Rattle.script_fields.proofs.is_hex_run.Goals as goal

pub returns : goal.returns
returns c = all_from_yields_List is_hex _ _ _ c.all.ensures.ran (YieldsList-from_slice c.args.f.now cc) (λ x b q k. search (rules, tests)) ∙ sym (every_all is_hex c.args.f.now)
