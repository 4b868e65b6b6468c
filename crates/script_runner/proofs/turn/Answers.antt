-- `script_runner::turn` meets its contract: the line's event is done, or it is unreadable.
-- Assumes nothing.
use Prim.Native.Nat.{ℕ, ◌≤◌}
use mathlib.Core.Path.{◌≡◌, refl, sym, ap, ◌∙◌}
use mathlib.Core.List.{List}
use Rattle.std.specs.Prelude.{Some}
use lib.ListN.{length}
use lib.Seq.{length-take-le}
use Rattle.network.specs.Events.{Reply}
use Rattle.network.proofs.Lent.{event_valid}
use Rattle.floor_link.specs.Answered.{reply_at}
use Rattle.script.specs.Put.{front}
use Rattle.script_reader.specs.Heard.{Heard, heard_in, heard_from, context_to, nothing_heard}
use Rattle.script_reader.proofs.Event.{heard_fits}
use Rattle.script_runner.proofs.Turns.{unread_turn, read_turn}
use Rattle.script_runner.proofs.turn.Goals as goal

-- the context is within its array
context_fits : (x : Heard) (l b d : List ℕ) → x ≡ heard_in l → d ≡ context_to l b → x.len ≤ length d
context_fits x l b d e f = rw (e, f) (heard_fits l b)

pub returns-in_default-clause-network_value : goal.returns-in_default-clause-network_value
unfolding nothing_heard
returns-in_default-clause-network_value c =
    (unread_turn c.args.network.now c.args.l.now (ap (λ (h : Heard). h.readable) (sym c.in_default.ensures.result_value))).0

pub returns-in_default-clause-value : goal.returns-in_default-clause-value
unfolding nothing_heard
returns-in_default-clause-value c =
    c.unreadable_line.ensures.value
    ∙ ap length (unread_turn c.args.network.now c.args.l.now (ap (λ (h : Heard). h.readable) (sym c.in_default.ensures.result_value))).1

pub returns-in_default-clause-text_after : goal.returns-in_default-clause-text_after
unfolding nothing_heard
returns-in_default-clause-text_after c =
    c.unreadable_line.ensures.line_after
    ∙ ap (λ (t : List ℕ). front t c.args.text.now) (unread_turn c.args.network.now c.args.l.now (ap (λ (h : Heard). h.readable) (sym c.in_default.ensures.result_value))).1

pub slice_bounds-context-end : goal.slice_bounds-context-end
slice_bounds-context-end c = context_fits (heard_from (Some c.in-Some.x)) c.args.l.now _ c.read_event.new.context c.in-Some.ensures.result_value c.in-Some.ensures.context_after

pub slice_bounds-act-end : goal.slice_bounds-act-end
slice_bounds-act-end c =
    let h : c.in-Some.x.context_len ≤ length c.read_event.new.context =
    context_fits (heard_from (Some c.in-Some.x)) c.args.l.now _ c.read_event.new.context c.in-Some.ensures.result_value c.in-Some.ensures.context_after in
    sym (length-take-le c.in-Some.x.context_len c.read_event.new.context h)

pub returns : goal.returns
returns c =
    let w = c.args.network.now in
    let l = c.args.l.now in
    let y : Reply = reply_at c.act-answer.new.network c.act-answer.result in
    let z =
    read_turn w l _ c.read_event.new.context (heard_from (Some c.in-Some.x)) y c.in-Some.ensures.result_value refl c.in-Some.ensures.context_after
    (c.act-answer.ensures.reply_value ∙ sym (event_valid w _ c.requires.1)) in
    record {
      network_value = z.0;
      value = c.result.ensures.value ∙ ap length z.1;
      text_after = c.result.ensures.line_after ∙ ap (λ (t : List ℕ). front t c.args.text.now) z.1;
    }
