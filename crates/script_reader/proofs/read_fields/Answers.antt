-- `script_reader::read_fields` meets its contract: field by field, unreadable at the first that is.
-- Assumes nothing.
use Rattle.std.proofs.Common.{refl}
use Rattle.script.specs.EventLine.{said_with}
use Rattle.script_reader.proofs.Contexts.{no_context, a_context}
use Rattle.script_reader.proofs.read_fields.Goals as goal

pub returns-in_err-at : goal.returns-in_err-at
unfolding said_with
returns-in_err-at c = rw (c.from_residual.ensures, ← c.has_at.ensures, ← c.in_err-at.ensures) (record { result_value = refl; context_after = refl })

pub returns-in_err-station : goal.returns-in_err-station
unfolding said_with
returns-in_err-station c = rw (c.from_residual-in_err-station.ensures, ← c.has_at.ensures, ← c.in_ok-at.ensures, ← c.has_station.ensures, ← c.in_err-station.ensures) (record { result_value = refl; context_after = refl })

pub returns-in_err-sequence : goal.returns-in_err-sequence
unfolding said_with
returns-in_err-sequence c = rw (c.from_residual-in_err-sequence.ensures, ← c.has_at.ensures, ← c.in_ok-at.ensures, ← c.has_station.ensures, ← c.in_ok-station.ensures, ← c.is_join-join.ensures, ← c.in_err-sequence.ensures) (record { result_value = refl; context_after = refl })

pub returns-in_err-old : goal.returns-in_err-old
unfolding said_with
returns-in_err-old c = rw (c.from_residual-in_err-old.ensures, ← c.has_at.ensures, ← c.in_ok-at.ensures, ← c.has_station.ensures, ← c.in_ok-station.ensures, ← c.is_join-join.ensures, ← c.in_ok-sequence.ensures, ← c.in_err-old.ensures) (record { result_value = refl; context_after = refl })

pub returns-in_err-context_len : goal.returns-in_err-context_len
unfolding said_with
returns-in_err-context_len c =
    let x = no_context _ _ _ c.in_err-context_len.ensures.len_value c.in_err-context_len.ensures.context_after in
    rw (c.from_residual-in_err-context_len.ensures, ← c.has_at.ensures, ← c.in_ok-at.ensures, ← c.has_station.ensures, ← c.in_ok-station.ensures, ← c.is_join-join.ensures, ← c.in_ok-sequence.ensures, ← c.in_ok-old.ensures, x.0) (record { result_value = refl; context_after = x.1 })

pub returns : goal.returns
unfolding said_with
returns c =
    let x = a_context c.args.kind c.in_ok-at.at c.in_ok-station.station c.in_ok-sequence.sequence c.in_ok-old.old _ _ _ _ c.in_ok-context_len.ensures.len_value c.in_ok-context_len.ensures.context_after in
    rw (← c.has_at.ensures, ← c.in_ok-at.ensures, ← c.has_station.ensures, ← c.in_ok-station.ensures, ← c.is_join-join.ensures, ← c.in_ok-sequence.ensures, ← c.in_ok-old.ensures) (record { result_value = x.0; context_after = x.1 })
