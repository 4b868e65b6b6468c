-- Packets in the slots of a record by steps: one taken out by a loop that moves the later ones up, and packets put down one after the other,
-- each in the slot after the used ones. The code takes a packet out by `copy_within` and puts one down by `push`; these laws are of loops
-- that write the slots themselves.
-- Assumes nothing.
use Prim.Native.Nat.{ℕ, ◌+◌, ◌-◌, ◌<◌, ◌≤◌}
use mathlib.Core.Path.{◌≡◌, sym, ap, ◌∙◌}
use mathlib.Core.List.{List, [], ◌∷◌, ◌++◌}
use mathlib.Core.Logic.{inr}
use native.Mathlib.Nat.{le_refl}
use native.Mathlib.Omega.{arith}
use lib.ListN.{length, take, get_or, set, length-append}
use lib.Seq.{length-take-le, take-take}
use Rattle.lists.specs.Places.{without}
use Rattle.lists.specs.Search.{shifted}
use Rattle.lists.proofs.Search.{get_or_used, shift_start, shift_step}
use Rattle.slots.proofs.Over.{take_over, over_over, length_over, shifted_out, pushed}
use Rattle.slots.proofs.Laws.{count_out, count_more}
use Rattle.structs.specs.declared.InFlight.{InFlight}
use Rattle.structs.specs.declared.InFlights.{InFlights}
use Rattle.structs.specs.Blanks.{no_in_flight}
use Rattle.structs.specs.Lists.{get_in_flight, put_in_flight}
use Rattle.in_flight.specs.Post.{posted}
use Rattle.in_flight.proofs.Posted as packets
use Rattle.in_flight.proofs.Posted.{past}

-- Packet k taken out of those of t, by a loop that moves the later ones up

module _ (t : InFlights) (k : ℕ) where
  -- those up to i have moved
  abbrev pub up_to : ℕ → InFlights
  up_to i = record { items = shifted k i t.items; count = t.count }

  pub up_start : t ≡ up_to k
  up_start = ap (λ (l : List InFlight). record { items = l; count = t.count }) (sym (shift_start k t.items))

  pub up_step : (o : InFlights) (i : ℕ) → o ≡ up_to i → k ≤ i → i + 1 < length t.items
      → record { items = set o.items i (get_or o.items (i + 1) past); count = o.count } ≡ up_to (i + 1)
  up_step o i e h l =
      ap (λ (o : InFlights). record { items = set o.items i (get_or o.items (i + 1) past); count = o.count }) e
      ∙ ap (λ (l : List InFlight). record { items = l; count = t.count }) (shift_step k i t.items past h l)

  -- the freed slot is blanked
  pub up_end : (o : InFlights) (i : ℕ) (b : InFlight) → o ≡ up_to i → i ≡ t.count - 1 → b ≡ no_in_flight → k < t.count → t.count ≤ length t.items
      → record { items = set o.items (t.count - 1) b; count = t.count - 1 } ≡ put_in_flight t (without k (get_in_flight t))
  up_end o i b e j q h l =
      ap (λ (o : InFlights). record { items = set o.items (t.count - 1) b; count = t.count - 1 }) e
      ∙ rw (j, q)
      (λ m. record { items = shifted_out no_in_flight k t.count t.items h l m; count = count_out t.count t.items l k h m })

-- with one more
packet_more : (t : InFlights) (x : InFlight) → t.count < length t.items
    → record { items = set t.items t.count x; count = t.count + 1 } ≡ put_in_flight t (get_in_flight t ++ (x ∷ []))
packet_more t x l =
    λ j. record { items = pushed no_in_flight t.count t.items x l j; count = count_more t.count t.items (omega arith) x j }

-- one more put down, in the place of those of t
pub put_more : (t o : InFlights) (xs : List InFlight) (x : InFlight) → o ≡ put_in_flight t xs → t.count ≤ length t.items → length xs < length t.items
    → record { items = set o.items o.count x; count = o.count + 1 } ≡ put_in_flight t (xs ++ (x ∷ []))
put_more t o xs x e h l =
    let w = put_in_flight t xs in
    let k : length xs ≤ length (xs ++ (x ∷ [])) = omega (arith, length-append xs (x ∷ [])) in
    let r : length xs < length w.items = omega (arith, length_over no_in_flight t.count xs t.items h (omega arith)) in
    ap (λ (o : InFlights). record { items = set o.items o.count x; count = o.count + 1 }) e
    ∙ packet_more w x r
    ∙ ap (λ (l : List InFlight). put_in_flight w (l ++ (x ∷ []))) (take_over no_in_flight t.count xs t.items)
    ∙ ap (λ (l : List InFlight). record { items = l; count = length (xs ++ (x ∷ [])) })
    (over_over no_in_flight t.count xs (xs ++ (x ∷ [])) t.items (inr k))

-- A loop that has put the first i of n packets in flight, in the place of those of a record

module _ (t o : InFlights) (n : ℕ) (items ws : List InFlight) (i : ℕ) (l : n ≤ length items) (h : i < n) (e : o ≡ put_in_flight t (posted (take i (take n items)) ws)) where
  there : i < length (take n items)
  there = omega (arith, length-take-le n items l)

  -- it is put in flight where fewer than 64 are
  pub put_in : t.count ≤ length t.items → length t.items ≡ 64 → o.count < 64
      → record { items = set o.items o.count (get_or items i past); count = o.count + 1 } ≡ put_in_flight t (posted (take (i + 1) (take n items)) ws)
  put_in j k a =
      let c : o.count ≡ length (posted (take i (take n items)) ws) = ap (λ (w : InFlights). w.count) e in
      let m : length o.items ≡ length t.items =
      ap (λ (w : InFlights). length w.items) e ∙ length_over no_in_flight t.count (posted (take i (take n items)) ws) t.items j (omega arith) in
      packet_more o (get_or items i past) (omega arith)
      ∙ ap (λ (x : InFlight). put_in_flight o (get_in_flight o ++ (x ∷ []))) (sym (get_or_used n items i past past h l))
      ∙ packets.put_in t o (take n items) ws i there e a

  -- and lost else
  pub put_out : 64 ≤ o.count → o ≡ put_in_flight t (posted (take (i + 1) (take n items)) ws)
  put_out a = packets.put_out t o (take n items) ws i there e a

-- at the end all are put in flight
pub put_all : (t : InFlights) (n : ℕ) (items ws : List InFlight) (i : ℕ) → i ≡ n
    → put_in_flight t (posted (take i (take n items)) ws) ≡ put_in_flight t (posted (take n items) ws)
put_all t n items ws i e = rw (e, take-take n n items (le_refl n))
