-- Packets written one after the other: how many octets they have, what the buffer holds after each, and their receivers.
-- Assumes nothing.
use Prim.Native.Nat.{ℕ, suc, ◌+◌, ◌-◌, ◌*◌, ◌<◌, ◌≤◌}
use mathlib.Core.Path.{◌≡◌, refl, sym, ap, ◌∙◌}
use mathlib.Core.List.{List, [], ◌∷◌, ◌++◌, map, map-append, append_assoc, append-nil}
use native.Mathlib.Omega.{arith}
use native.Mathlib.Numerals.{add-one}
use Rattle.std.specs.List.{sum_by}
use Rattle.std.proofs.lemmas.Grind.{flat_map-append}
use Rattle.std.proofs.lemmas.List.Folds.{length-flat_map-take}
use Rattle.std.proofs.lemmas.List.Sums.{sum_by-cons}
use lib.ListN.{length, take, drop, get_or, set, replicate, length-append, length-map}
use lib.Seq.{take-append_seam, drop-append-add, drop-drop, take-suc, take-length, length-take-le, set_at}
use Rattle.lists.specs.Places.{All, nil, cons}
use Rattle.lists.proofs.Copies.{put_back_lem}
use Rattle.lists.proofs.Fronts.{rest_from}
use Rattle.lists.proofs.Every.{all_at}
use Rattle.structs.specs.declared.InFlight.{InFlight}
use Rattle.machine.specs.Associations.{padded}
use Rattle.machine.specs.Packets.{octets_in}
use Rattle.alone.specs.Told.{front_of}
use Rattle.alone.specs.Front.{octets_in_all, len_of, receiver, Sized}

-- The octets of packets of 82 octets at most

packet_length : (p : InFlight) → Sized p → length (octets_in p) ≡ p.len
unfolding octets_in
packet_length p z = length-take-le p.len p.octets (omega (arith, z.used, z.slots))

pub lengths_sum : (ps : List InFlight) → All Sized ps → sum_by len_of ps ≡ length (octets_in_all ps)
lengths_sum [] nil = refl
lengths_sum (p ∷ ps) (cons z zs) =
    sum_by-cons len_of p ps
    ∙ omega (arith, lengths_sum ps zs, packet_length p z, length-append (octets_in p) (octets_in_all ps))

pub octets_few : (ps : List InFlight) → All Sized ps → length (octets_in_all ps) ≤ 82 * length ps
octets_few [] nil = omega arith
octets_few (p ∷ ps) (cons z zs) =
    omega (arith, octets_few ps zs, packet_length p z, z.used, length-append (octets_in p) (octets_in_all ps))

-- one packet after the first i
module _ (ps : List InFlight) (i : ℕ) (d : InFlight) (l : i < length ps) where
  next : take (i + 1) ps ≡ take i ps ++ (get_or ps i d ∷ [])
  next = rw (add-one i, take-suc ps i d l)

  pub octets_next : octets_in_all (take (i + 1) ps) ≡ octets_in_all (take i ps) ++ octets_in (get_or ps i d)
  octets_next =
      ap octets_in_all next
      ∙ flat_map-append octets_in (take i ps) (get_or ps i d ∷ [])
      ∙ ap (λ (l : List ℕ). octets_in_all (take i ps) ++ l) (append-nil (octets_in (get_or ps i d)))

  module _ (sizes : All Sized ps) where
    pub next_sized : Sized (get_or ps i d)
    next_sized = all_at ps i d sizes l

    pub next_length : length (octets_in_all (take (i + 1) ps)) ≡ length (octets_in_all (take i ps)) + (get_or ps i d).len
    next_length =
        ap length octets_next
        ∙ omega (arith, length-append (octets_in_all (take i ps)) (octets_in (get_or ps i d)), packet_length (get_or ps i d) next_sized)

    pub next_room : length (octets_in_all (take i ps)) + (get_or ps i d).len ≤ length (octets_in_all ps)
    next_room = omega (arith, length-flat_map-take octets_in ps i d l, packet_length (get_or ps i d) next_sized)

  -- the receivers, in eight places
  pub receivers_next : length ps ≤ 8
      → set (padded 8 (map receiver (take i ps))) i (get_or ps i d).to ≡ padded 8 (map receiver (take (i + 1) ps))
  unfolding padded
  receivers_next few =
      let p : List ℕ = map receiver (take i ps) in
      let a : ℕ = (get_or ps i d).to in
      let c : length p ≡ i = length-map (take i ps) receiver ∙ length-take-le i ps (omega arith) in
      let e : map receiver (take (i + 1) ps) ≡ p ++ (a ∷ []) = ap (map receiver) next ∙ map-append receiver (take i ps) (get_or ps i d ∷ []) in
      let n : length (p ++ (a ∷ [])) ≡ i + 1 = omega (arith, length-append p (a ∷ []), c) in
      rw (c, places i (omega arith), e, n, set_at p 0 (replicate (8 - (i + 1)) 0) a i c, append_assoc p (a ∷ []) (replicate (8 - (i + 1)) 0))
    where
      places : (i : ℕ) → i < 8 → replicate {A = ℕ} (8 - i) 0 ≡ 0 ∷ replicate (8 - (i + 1)) 0
      places i l = let e : 8 - i ≡ suc (8 - (i + 1)) = omega arith in rw e

-- The buffer c has the text t at the front of b; lent from the end of t on, it comes back as m, with w copied to its front
pub front_next : (t w b c m : List ℕ) (k : ℕ) → k ≡ length t → c ≡ front_of t b
    → m ≡ take (length w) w ++ drop (length w) (take (length c - k) (drop k c))
    → take k c ++ (m ++ drop (length c - k) (drop k c)) ≡ front_of (t ++ w) b
front_next t w b c m k q e f =
    let g : m ≡ w ++ drop (k + length w) c = f ∙ rw (rest_from c k, take-length w, drop-drop (length w) k c) in
    put_back_lem k c m
    ∙ rw (g, e, q, take-append_seam t (drop (length t) b), drop-append-add t (drop (length t) b) (length w), drop-drop (length w) (length t) b, length-append t w)
    (sym (append_assoc t w (drop (length t + length w) b)))
