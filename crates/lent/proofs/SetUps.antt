-- Set-up over a record that is there already, by what set-up answers.
-- Assumes nothing.
use Prim.Native.Nat.{ℕ}
use mathlib.Core.Path.{◌≡◌, ap}
use mathlib.Core.Bool.{Bool, true, false, cond}
use native.Mathlib.Omega.{arith}
use Rattle.answers.specs.declared.Refusal.{Refusal}
use Rattle.answers.specs.Numbers.{refusal_number}
use Rattle.answers.proofs.Numbers.{refusal_above}
use Rattle.machine.specs.Valid.{valid_setup}
use Rattle.structs.specs.declared.Network.{Network}
use Rattle.network.specs.Lens.{new_network}
use Rattle.network.specs.Events as floor
use Rattle.network.specs.Events.{refused}
use Rattle.floor_link.specs.Answered.{Started, answer_alone, set_up_done}
use Rattle.lent.specs.Told.{set_up_over}

module _ (w : Network) (n t r : ℕ) where
  -- by whether the three numbers are within their limits
  abbrev started : Bool → Started
  started b = cond b (record { answer = 0; network = new_network n t r }) (record { answer = 14; network = new_network 0 0 0 })

  abbrev told : Bool → floor.Reply
  told b = cond b (record { line = answer_alone 0; network = new_network n t r }) (record { line = answer_alone 14; network = w })

  pub accepted : (new : Network) → record { answer = 0; network = new } ≡ set_up_done n t r → record { line = answer_alone 0; network = new } ≡ set_up_over w n t r
  unfolding set_up_done set_up_over
  accepted new = go (valid_setup n t r)
    where
      go : (b : Bool) → record { answer = 0; network = new } ≡ started b → record { line = answer_alone 0; network = new } ≡ told b
      go true e = ap (λ (s : Started). record { line = answer_alone 0; network = s.network }) e
      go false e = absurd (omega (arith, ap (λ (s : Started). s.answer) e))

  pub not_accepted : (x : Refusal) → record { answer = refusal_number x; network = new_network 0 0 0 } ≡ set_up_done n t r → refused (refusal_number x) w ≡ set_up_over w n t r
  unfolding set_up_done set_up_over refused
  not_accepted x = go (valid_setup n t r)
    where
      go : (b : Bool) → record { answer = refusal_number x; network = new_network 0 0 0 } ≡ started b → record { line = answer_alone (refusal_number x); network = w } ≡ told b
      go true e = absurd (omega (arith, ap (λ (s : Started). s.answer) e, refusal_above x))
      go false e = ap (λ (s : Started). record { line = answer_alone s.answer; network = w }) e
