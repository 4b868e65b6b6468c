-- The numbers of refusals.
-- Assumes nothing.
use Rattle.std.proofs.Common.{◌≡◌, ◌<◌, arith, refl, sym, ne_eqb, eqb, is_ok, Result, Ok, Err}
use Rattle.answers.specs.declared.Refusal.{Refusal}
use Rattle.answers.specs.Numbers.{refusal_number, number_of}

-- a refusal's number is not 0, which is what an accepted call answers
pub refusal_above : (r : Refusal) → 0 < refusal_number r
refusal_above r = grind arith

-- whether a call is accepted, and whether its number is 0
pub ok_is_zero : {A : Type 0} (r : Result A Refusal) → is_ok r ≡ eqb (number_of r) 0
ok_is_zero (Ok a) = refl
ok_is_zero (Err e) = sym (ne_eqb (refusal_number e) 0 (λ z. omega (arith, refusal_above e)))
