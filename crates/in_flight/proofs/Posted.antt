-- Packets put in flight one after the other: what the machine's sending is, how many are in flight after, and one packet more.
-- Assumes nothing.
use Prim.Native.Nat.{ℕ, ◌+◌, ◌<◌, ◌≤◌}
use mathlib.Core.Path.{◌≡◌, refl, sym, ap, ◌∙◌}
use mathlib.Core.Bool.{Bool, true, false, cond}
use mathlib.Core.List.{List, [], ◌∷◌, ◌++◌, map}
use native.Mathlib.Omega.{arith}
use native.Mathlib.Nat.{le_refl}
use native.Mathlib.Numerals.{add-one}
use borrow.Author.Tests.{ltb-true, lt-ltb, le-ltb}
use lib.Dec.{ltb}
use lib.ListN.{length, take, get_or, length-append}
use lib.Seq.{take-suc}
use Rattle.lists.proofs.Bools.{by_cond}
use Rattle.structs.specs.declared.InFlight.{InFlight}
use Rattle.machine.specs.Packets.{Outgoing, carried}
use Rattle.machine.specs.Network.{Network, set_in_flight, send, send_all}
use Rattle.structs.specs.declared.InFlights.{InFlights}
use Rattle.slots.proofs.Over.{take_over}
use Rattle.slots.proofs.Laws.{put_more}
use Rattle.structs.specs.Blanks.{no_in_flight}
use Rattle.structs.specs.Lists.{get_in_flight, put_in_flight, no_outbox, get_outbox}
use Rattle.in_flight.specs.Post.{outbox_of, posted}

-- what a read past the end of the array gives, in the logic
abbrev pub past : InFlight
past = record { from = 0; to = 0; len = 0; octets = [] }

-- one packet sent where ws are in flight
abbrev one : InFlight → List InFlight → List InFlight
one p ws = cond (ltb (length ws) 64) (ws ++ (p ∷ [])) ws

-- The machine's sending

send_one : (b : ℕ) (x : Outgoing) (f : Network) → send b x f ≡ set_in_flight (one (carried b x) f.in_flight) f
unfolding send set_in_flight
send_one b x f = go (ltb (length f.in_flight) 64)
  where
    go : (c : Bool) → cond c (set_in_flight (f.in_flight ++ (carried b x ∷ [])) f) f ≡ set_in_flight (cond c (f.in_flight ++ (carried b x ∷ [])) f.in_flight) f
    go true = refl
    go false = refl

pub sends_posted : (b : ℕ) (xs : List Outgoing) (f : Network) → send_all b xs f ≡ set_in_flight (posted (map (carried b) xs) f.in_flight) f
unfolding send_all set_in_flight posted
sends_posted b [] f = refl
sends_posted b (x ∷ xs) f =
    ap (send_all b xs) (send_one b x f)
    ∙ sends_posted b xs (set_in_flight (one (carried b x) f.in_flight) f)

-- How many are in flight

one_few : (p : InFlight) (ws : List InFlight) → length ws ≤ 64 → length (one p ws) ≤ 64
one_few p ws l =
    by_cond (λ (vs : List InFlight). length vs ≤ 64) (ltb (length ws) 64)
    (λ e. omega (arith, ltb-true (length ws) 64 e, length-append ws (p ∷ [])))
    (λ e. l)

one_more : (p : InFlight) (ws : List InFlight) → length ws ≤ length (one p ws)
one_more p ws =
    by_cond (λ (vs : List InFlight). length ws ≤ length vs) (ltb (length ws) 64)
    (λ e. omega (arith, length-append ws (p ∷ [])))
    (λ e. le_refl (length ws))

pub posted_few : (ps ws : List InFlight) → length ws ≤ 64 → length (posted ps ws) ≤ 64
unfolding posted
posted_few [] ws l = l
posted_few (p ∷ ps) ws l = posted_few ps (one p ws) (one_few p ws l)

pub posted_more : (ps ws : List InFlight) → length ws ≤ length (posted ps ws)
unfolding posted
posted_more [] ws = le_refl (length ws)
posted_more (p ∷ ps) ws = omega (arith, one_more p ws, posted_more ps (one p ws))

-- What is to be sent

pub outbox_got : (ps : List InFlight) → get_outbox (outbox_of ps) ≡ ps
unfolding outbox_of
outbox_got ps = take_over no_in_flight 0 ps no_outbox.items

-- One packet more

posted_last : (ps : List InFlight) (p : InFlight) (ws : List InFlight) → posted (ps ++ (p ∷ [])) ws ≡ one p (posted ps ws)
unfolding posted
posted_last [] p ws = refl
posted_last (q ∷ ps) p ws = posted_last ps p (one q ws)

-- A loop that has put the first i of the packets ps in flight, in the place of those of a record

module _ (t o : InFlights) (ps ws : List InFlight) (i : ℕ) (l : i < length ps) (e : o ≡ put_in_flight t (posted (take i ps) ws)) where
  next : posted (take (i + 1) ps) ws ≡ one (get_or ps i past) (posted (take i ps) ws)
  next = rw (add-one i, take-suc ps i past l) (posted_last (take i ps) (get_or ps i past) ws)

  count : o.count ≡ length (posted (take i ps) ws)
  count = ap (λ (w : InFlights). w.count) e

  -- it is put in flight where fewer than 64 are
  pub put_in : o.count < 64
      → put_in_flight o (get_in_flight o ++ (get_or ps i past ∷ [])) ≡ put_in_flight t (posted (take (i + 1) ps) ws)
  put_in a =
      let z : length (posted (take i ps) ws) < 64 = omega (arith, count) in
      ap (λ (w : InFlights). put_in_flight w (get_in_flight w ++ (get_or ps i past ∷ []))) e
      ∙ put_more (λ (xs : List InFlight) (n : ℕ). record { items = xs; count = n }) no_in_flight t.count t.items (posted (take i ps) ws) (get_or ps i past)
      ∙ ap (put_in_flight t) (sym (next ∙ rw (lt-ltb _ _ z)))

  -- and lost else
  pub put_out : 64 ≤ o.count → o ≡ put_in_flight t (posted (take (i + 1) ps) ws)
  put_out a =
      let z : 64 ≤ length (posted (take i ps) ws) = omega (arith, count) in
      e ∙ ap (put_in_flight t) (sym (next ∙ rw (le-ltb _ _ z)))
