-- The events that are read are formed: a station is six octets, and a context is octets.
-- Assumes nothing.
use Prim.Native.Nat.{ℕ, ◌+◌, ◌*◌, ◌-◌, ◌%◌, ◌<◌}
use mathlib.Core.Path.{◌≡◌, refl, subst}
use mathlib.Core.Bool.{Bool, true, false, cond, ◌&&◌, ◌||◌}
use mathlib.Core.List.{List, [], ◌∷◌}
use Rattle.std.specs.Prelude.{Option, None, Some}
use native.Mathlib.Omega.{arith}
use borrow.Author.Tests.{leb-true, eqb-true}
use lib.Dec.{eqb, ltb, leb}
use lib.ListN.{length, get_or, replicate}
use Rattle.lists.specs.Places.{every, All, nil, cons}
use Rattle.lists.proofs.Choices.{and_left, and_right, by_option}
use Rattle.lists.proofs.Bools.{by_cond}
use Rattle.lists.proofs.Every.{all_replicate}
use Rattle.machine.specs.Stations.{Station}
use Rattle.machine.specs.Events.{Octet, StationIn, Formed}
use Rattle.structs.specs.declared.Kind.{Kind}
use Rattle.structs.specs.declared.Kind.TheVariants.{Join, Leave, Deliver, Repeat, Lose, Tick, Who}
use Rattle.events.specs.Event.{event_as}
use Rattle.script.specs.Text.{fields}
use Rattle.script.specs.Fields.{is_dash, is_digit, is_hex, hex_of, octets_in, station_in, context_in}
use Rattle.script.specs.EventLine.{Said, kind_in, is_join, has_at, has_station, station_field, context_field, number_field, old_field, said_with, said_fields, said_of, event_said, event_in}
use Rattle.script.specs.Script.{events_in}

-- P of what is there, if it is
abbrev pub Of : {A : Type 0} → (A → Type 0) → Option A → Type 0
Of P None = Unit {0}
Of P (Some x) = P x

-- a digit is below 16
hex_small : (x : ℕ) → is_hex x ≡ true → hex_of x < 16
hex_small x h = go (is_digit x) refl h
  where
    go : (b : Bool) → is_digit x ≡ b → b || (leb 97 x && leb x 102) ≡ true → cond b (x - 48) (x - 87) < 16
    go true e k = omega (arith, leb-true x 57 (and_right (leb 48 x) (leb x 57) e))
    go false e k = omega (arith, leb-true 97 x (and_left _ _ k), leb-true x 102 (and_right (leb 97 x) _ k))

octets_small : (f : List ℕ) → every is_hex f ≡ true → All Octet (octets_in f)
unfolding every octets_in
octets_small [] h = nil
octets_small (x ∷ []) h = nil
octets_small (x ∷ y ∷ f) h =
    let k = and_right (is_hex x) _ h in
    let z : hex_of x * 16 + hex_of y < 256 = omega (arith, hex_small x (and_left _ _ h), hex_small y (and_left _ _ k)) in
    cons z (octets_small f (and_right (is_hex y) _ k))

-- two digits to an octet
octets_length : (f : List ℕ) (k : ℕ) → length f ≡ 2 * k → length (octets_in f) ≡ k
unfolding octets_in
octets_length [] k e = omega (arith, e)
octets_length (x ∷ []) k e = absurd (omega (arith, e))
octets_length (x ∷ y ∷ f) k e =
    let h : length (octets_in f) ≡ k - 1 = octets_length f (k - 1) (omega (arith, e)) in
    omega (arith, e, h)

station_formed : (f : List ℕ) → Of StationIn (station_in f)
unfolding station_in
station_formed f =
    by_cond (Of StationIn) (eqb (length f) 12 && every is_hex f)
    (λ e. record { size = octets_length f 6 (eqb-true (length f) 12 (and_left _ _ e)); octets = octets_small f (and_right (eqb (length f) 12) _ e) })
    (λ e. tt)

zeros : StationIn (replicate 6 0)
zeros = record { size = refl; octets = all_replicate 6 0 (omega arith) }

station_field_lem : (has : Bool) (f : List ℕ) → Of StationIn (station_field has f)
unfolding station_field
station_field_lem true f = station_formed f
station_field_lem false f = by_cond (Of StationIn) (is_dash f) (λ e. zeros) (λ e. tt)

context_field_lem : (has : Bool) (f : List ℕ) → Of (All Octet) (context_field has f)
unfolding context_field context_in
context_field_lem has f =
    by_cond (Of (All Octet)) (is_dash f) (λ e. nil)
    (λ e. by_cond (Of (All Octet)) has
    (λ h. by_cond (Of (All Octet)) (ltb 0 (length f) && (eqb (length f % 2) 0 && every is_hex f))
    (λ k. octets_small f (and_right (eqb (length f % 2) 0) _ (and_right (ltb 0 (length f)) _ k))) (λ k. tt))
    (λ h. tt))

pub record SaidIn (x : Said) : Type 0 where
  pub station : StationIn x.station
  pub context : All Octet x.context

said_formed : (k : Kind) (at s n o c : List ℕ) → Of SaidIn (said_with k at s n o c)
unfolding said_with
said_formed k at s n o c =
    by_option (Of SaidIn) (number_field (has_at k) at) (λ e. tt) (λ a ea.
    by_option (Of SaidIn) (station_field (has_station k) s) (λ e. tt) (λ t et.
    by_option (Of SaidIn) (number_field (is_join k) n) (λ e. tt) (λ m em.
    by_option (Of SaidIn) (old_field (is_join k) o) (λ e. tt) (λ b eb.
    by_option (Of SaidIn) (context_field (is_join k) c) (λ e. tt) (λ x ex.
    record { station = subst (Of StationIn) et (station_field_lem (has_station k) s); context = subst (Of (All Octet)) ex (context_field_lem (is_join k) c) })))))

pub said_in : (l : List ℕ) → Of SaidIn (said_of l)
unfolding said_of said_fields
said_in l =
    by_cond (Of SaidIn) (ltb 255 (length l)) (λ e. tt)
    (λ e. by_cond (Of SaidIn) (eqb (length (fields l)) 6)
    (λ h. by_option (Of SaidIn) (kind_in (get_or (fields l) 0 [])) (λ n. tt) (λ k q. said_formed k _ _ _ _ _)) (λ h. tt))

pub event_formed : (k : Kind) (at : ℕ) (s : Station) (n : ℕ) (old : Option ℕ) (c : List ℕ) → StationIn s → All Octet c → Formed (event_as k at s n old c)
event_formed Join at s n old c h g = (h, g)
event_formed Leave at s n old c h g = tt
event_formed Deliver at s n old c h g = tt
event_formed Repeat at s n old c h g = tt
event_formed Lose at s n old c h g = tt
event_formed Tick at s n old c h g = tt
event_formed Who at s n old c h g = tt

-- a line
pub read_formed : (l : List ℕ) → Of Formed (event_in l)
unfolding event_in event_said
read_formed l =
    by_option (Of Formed) (said_of l) (λ e. tt)
    (λ x e. let h : SaidIn x = subst (Of SaidIn) e (said_in l) in event_formed x.kind x.at x.station x.sequence x.old x.context h.station h.context)

-- a script
pub events_formed : (ls : List (List ℕ)) → All Formed (events_in ls)
unfolding events_in
events_formed [] = nil
events_formed (l ∷ ls) =
    by_option (All Formed) (event_in l) (λ e. events_formed ls) (λ x e. cons (subst (Of Formed) e (read_formed l)) (events_formed ls))
