-- `events::held_from` meets its contract: the bit is set where the search ends at a row.
-- Assumes nothing.
use Rattle.std.proofs.Common.{◌≡◌, ℕ, ◌+◌, ◌*◌, Bool, true, false, cond, ltb, length, List, ap, sym, ◌∙◌, arith}
use mir.Val.{bool_byte}
use Rattle.structs.specs.declared.Association.{Association}
use Rattle.machine.specs.Events.{holds}
use Rattle.record.specs.Lens.{get_point}
use Rattle.events.proofs.Held.{holds_by}
use Rattle.events.proofs.held_from.Goals as goal

-- the bit is the lowest
lowest : (h : ℕ) (b : Bool) → h * 2 + bool_byte b ≡ cond b 1 0 + 2 * h
lowest h true = omega arith
lowest h false = omega arith

pub returns : goal.returns
returns c =
    let j = c.find.result in
    let found : Bool = ltb j (length c.used.result.now) in
    let e : holds c.args.station (get_point c.args.a.now) ≡ found =
    holds_by c.args.station c.args.a.now j c.find.ensures ∙ sym (ap (λ (l : List Association). ltb j (length l)) c.used.ensures.elements) in
    rw e (ap (λ (n : ℕ). c.args.held * 2 + n) c.from.ensures ∙ lowest c.args.held found)
