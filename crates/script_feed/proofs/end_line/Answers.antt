-- `script_feed::end_line` meets its contract: each stage does with the line what it says.
-- Assumes nothing.
use Rattle.std.proofs.Common.{sym, ap, ◌∙◌, ℕ, List, length}
use Rattle.script.specs.Put.{front}
use Rattle.script.specs.SetUpLines.{set_up_names, event_names}
use Rattle.script.specs.Result.{result_names}
use Rattle.script_feed.proofs.Lines.{names_told, values_told, event_names_told, playing_told, ended_told}
use Rattle.script_feed.proofs.end_line.Goals as goal

pub returns-in-Names : goal.returns-in-Names
unfolding set_up_names
returns-in-Names c =
    let p = names_told c.args.stage c.args.network.now c.args.l.now c.as_slice.result.now c.eq.result c.in-Names.is c.eq.ensures c.as_slice.ensures in
    let e = c.set_up_line.ensures in
    record {
      stage_value = e.stage_value ∙ sym p.stage;
      network_value = sym p.network;
      len_value = e.len_value ∙ ap length (sym p.text);
      out_after = e.out_after ∙ ap (λ (t : List ℕ). front t c.args.out.now) (sym p.text);
    }

pub returns-in-Values : goal.returns-in-Values
returns-in-Values c =
    let p = values_told c.args.stage c.args.network.now c.args.l.now c.in-Values.is in
    let g = c.values_line.ensures.value in
    let e = rw g at c.set_up_line-in-Values.ensures in
    record {
      stage_value = e.stage_value ∙ sym p.stage;
      network_value = c.values_line.ensures.network_value ∙ sym p.network;
      len_value = e.len_value ∙ ap length (sym p.text);
      out_after = e.out_after ∙ ap (λ (t : List ℕ). front t c.args.out.now) (sym p.text);
    }

pub returns-in-EventNames : goal.returns-in-EventNames
unfolding event_names result_names
returns-in-EventNames c =
    let p =
    event_names_told c.args.stage c.args.network.now c.args.l.now c.as_slice-in-EventNames.result.now c.eq-good.result c.in-EventNames.is c.eq-good.ensures
    c.as_slice-in-EventNames.ensures in
    let e = c.set_up_line-in-EventNames.ensures in
    record {
      stage_value = e.stage_value ∙ sym p.stage;
      network_value = sym p.network;
      len_value = e.len_value ∙ ap length (sym p.text);
      out_after = e.out_after ∙ ap (λ (t : List ℕ). front t c.args.out.now) (sym p.text);
    }

pub returns-in-Playing : goal.returns-in-Playing
returns-in-Playing c =
    let p = playing_told c.args.stage c.args.network.now c.args.l.now c.in-Playing.is in
    let e = c.event_line.ensures in
    record {
      stage_value = c.in-Playing.is ∙ sym p.stage;
      network_value = e.network_value ∙ sym p.network;
      len_value = e.value ∙ ap length (sym p.text);
      out_after = e.out_after ∙ ap (λ (t : List ℕ). front t c.args.out.now) (sym p.text);
    }

pub returns-in-Ended : goal.returns-in-Ended
returns-in-Ended c =
    let p = ended_told c.args.stage c.args.network.now c.args.l.now c.in-Ended.is in
    record {
      stage_value = c.in-Ended.is ∙ sym p.stage;
      network_value = sym p.network;
      len_value = ap length (sym p.text);
      out_after = ap (λ (t : List ℕ). front t c.args.out.now) (sym p.text);
    }
