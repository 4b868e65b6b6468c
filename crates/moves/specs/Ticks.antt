-- A tick at one open move, by the machine's `fate`: whether the move stays open, whether it is sent again, and the move after the
-- tick.
use Rattle.std.specs.Prelude.{ℕ, ◌-◌, Bool, true, false, cond, ltb}
use Rattle.structs.specs.declared.Move.{Move}

-- the same move with ticks and resends left anew
abbrev pub retimed : Move → ℕ → ℕ → Move
retimed m t r =
    record { station = m.station; sequence = m.sequence; old = m.old; identifier = m.identifier; ticks_left = t; resends_left = r }

-- no tick is left, and a resend is
unfoldable pub is_due : Move → Bool
is_due m = cond (ltb 1 m.ticks_left) false (ltb 0 m.resends_left)

-- it is sent again, or a tick is left
unfoldable pub stays : Move → Bool
stays m = cond (is_due m) true (ltb 1 m.ticks_left)

unfoldable pub after : ℕ → Move → Move
after t m = cond (is_due m) (retimed m t (m.resends_left - 1)) (retimed m (m.ticks_left - 1) m.resends_left)
