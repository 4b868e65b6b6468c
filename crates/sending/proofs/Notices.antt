-- What a loop has sent: the packets of an announcement to the first APs, and the notices of the first moves.
-- Assumes nothing.
use Prim.Native.Nat.{ℕ, zero, suc, ◌+◌, ◌<◌, ◌≤◌}
use mathlib.Core.Path.{◌≡◌, refl, sym, ap, ◌∙◌}
use mathlib.Core.Bool.{Bool, true, false, cond}
use mathlib.Core.List.{List, [], ◌∷◌, ◌++◌, map, append-nil, map-append}
use native.Mathlib.Omega.{arith}
use native.Mathlib.Nat.{zero-add, add-zero}
use native.Mathlib.Numerals.{add-one}
use borrow.Author.Tests.{eq-eqb, ne_eqb}
use lib.Dec.{eqb}
use lib.ListN.{length, take, get_or, length-map, length-take}
use lib.Seq.{take-suc}
use Rattle.structs.specs.declared.InFlight.{InFlight}
use Rattle.structs.specs.declared.Move.{Move}
use Rattle.machine.specs.Packets.{Packet, Outgoing, carried}
use Rattle.machine.specs.Moves.{notice_of, notices_of}
use Rattle.machine.specs.AccessPoint.{add_notifies}
use Rattle.record.specs.Lens.{named}
use Rattle.in_flight.specs.Post.{outbox_of}
use Rattle.structs.specs.Lists.{get_outbox, put_outbox}
use Rattle.sending.proofs.Outboxes.{outbox_count, outbox_more}
use Rattle.structs.specs.declared.Outbox.{Outbox}

-- the packets of an announcement

-- the packet p to the AP i, where that is not b
abbrev pub notify_other : ℕ → Packet → ℕ → List Outgoing
notify_other b p i = cond (eqb i b) [] (record { to = i; packet = p } ∷ [])

module _ (b : ℕ) (p : Packet) where
  next_from_lem : (i k : ℕ) → add_notifies b p i (suc k) ≡ add_notifies b p i k ++ notify_other b p (i + k)
  unfolding add_notifies
  next_from_lem i zero = rw (add-zero i)
  next_from_lem i (suc k) =
      let e : suc i + k ≡ i + suc k = omega arith in
      ap (λ (l : List Outgoing). cond (eqb i b) l (record { to = i; packet = p } ∷ l)) (next_from_lem (suc i) k ∙ ap (λ (n : ℕ). add_notifies b p (suc i) k ++ notify_other b p n) e)
      ∙ go (eqb i b)
    where
      go : (t : Bool)
          → cond t (add_notifies b p (suc i) k ++ notify_other b p (i + suc k)) (record { to = i; packet = p } ∷ (add_notifies b p (suc i) k ++ notify_other b p (i + suc k)))
          ≡ cond t (add_notifies b p (suc i) k) (record { to = i; packet = p } ∷ add_notifies b p (suc i) k) ++ notify_other b p (i + suc k)
      go true = refl
      go false = refl

  -- those to the first i + 1 APs
  pub notifies_next : (i : ℕ) → add_notifies b p 0 (i + 1) ≡ add_notifies b p 0 i ++ notify_other b p i
  notifies_next i = rw (add-one i) (next_from_lem 0 i ∙ ap (λ (n : ℕ). add_notifies b p 0 i ++ notify_other b p n) (zero-add i))

  pub notifies_own : (i : ℕ) → i ≡ b → add_notifies b p 0 (i + 1) ≡ add_notifies b p 0 i
  notifies_own i e = notifies_next i ∙ rw (eq-eqb i b e, append-nil)

  pub notifies_other : (i : ℕ) → (i ≡ b → ⊥) → add_notifies b p 0 (i + 1) ≡ add_notifies b p 0 i ++ (record { to = i; packet = p } ∷ [])
  notifies_other i n = notifies_next i ∙ rw (ne_eqb i b n)

  -- no more than one to each
  pub notifies_few : (i k : ℕ) → length (add_notifies b p i k) ≤ k
  unfolding add_notifies
  notifies_few i zero = omega arith
  notifies_few i (suc k) = go (eqb i b) (notifies_few (suc i) k)
    where
      go : (t : Bool) → length (add_notifies b p (suc i) k) ≤ k
          → length (cond t (add_notifies b p (suc i) k) (record { to = i; packet = p } ∷ add_notifies b p (suc i) k)) ≤ suc k
      go true h = omega arith
      go false h = omega arith

-- the same packet to the AP t
abbrev pub sent_to : ℕ → InFlight → InFlight
sent_to t p = record { from = p.from; to = t; len = p.len; octets = p.octets }

-- what AP b announces with p to the first i APs, as it is carried
abbrev pub announced : ℕ → Packet → ℕ → List InFlight
announced b p i = map (carried b) (add_notifies b p 0 i)

module _ (b : ℕ) (p : Packet) (o : Outbox) (i : ℕ) (h : o ≡ outbox_of (announced b p i)) where
  pub announced_few : o.count ≤ i
  announced_few = omega (arith, outbox_count o (announced b p i) h, length-map (add_notifies b p 0 i) (carried b), notifies_few b p 0 i)

  -- the AP itself is left out
  pub announced_own : i ≡ b → o ≡ outbox_of (announced b p (i + 1))
  announced_own e = h ∙ ap (λ (l : List Outgoing). outbox_of (map (carried b) l)) (sym (notifies_own b p i e))

  -- every other gets a copy
  pub announced_other : (i ≡ b → ⊥) → (w : InFlight) → w ≡ carried b (record { to = 0; packet = p })
      → put_outbox o (get_outbox o ++ (sent_to i w ∷ [])) ≡ outbox_of (announced b p (i + 1))
  unfolding carried
  announced_other n w f =
      outbox_more o (announced b p i) (sent_to i w) h
      ∙ ap (λ (z : InFlight). outbox_of (announced b p i ++ (sent_to i z ∷ []))) f
      ∙ ap outbox_of (sym (map-append (carried b) (add_notifies b p 0 i) (record { to = i; packet = p } ∷ [])))
      ∙ ap (λ (l : List Outgoing). outbox_of (map (carried b) l)) (sym (notifies_other b p i n))

-- the notices of moves

-- the notices of the moves ms from AP b, as they are carried
abbrev pub notices_from : ℕ → List Move → List InFlight
notices_from b ms = map (carried b) (notices_of (map named ms))

pub notices_count : (b : ℕ) (ms : List Move) → length (notices_from b ms) ≡ length ms
unfolding notices_of
notices_count b [] = refl
notices_count b (m ∷ ms) = ap suc (notices_count b ms)

notices_last : (b : ℕ) (ms : List Move) (m : Move) → notices_from b (ms ++ (m ∷ [])) ≡ notices_from b ms ++ (carried b (notice_of (named m)) ∷ [])
unfolding notices_of
notices_last b [] m = refl
notices_last b (x ∷ ms) m = ap (◌∷◌ (carried b (notice_of (named x)))) (notices_last b ms m)

-- those of the first i + 1 moves
pub notices_next : (b : ℕ) (ms : List Move) (i : ℕ) (d : Move) → i < length ms
    → notices_from b (take (i + 1) ms) ≡ notices_from b (take i ms) ++ (carried b (notice_of (named (get_or ms i d))) ∷ [])
notices_next b ms i d l = rw (add-one i, take-suc ms i d l) (notices_last b (take i ms) (get_or ms i d))

pub resent_few : (b : ℕ) (ms : List Move) (i : ℕ) (o : Outbox) → o ≡ outbox_of (notices_from b (take i ms)) → o.count ≤ i
resent_few b ms i o e = omega (arith, outbox_count o (notices_from b (take i ms)) e, notices_count b (take i ms), length-take i ms)

-- a loop over the moves ms has put the notices of the first i into the outbox o, and puts down the next
pub resent_more : (b : ℕ) (ms : List Move) (i : ℕ) (o : Outbox) (x : InFlight) (m d : Move) → i < length ms
    → o ≡ outbox_of (notices_from b (take i ms)) → get_or ms i d ≡ m → x ≡ carried b (notice_of (named m))
    → put_outbox o (get_outbox o ++ (x ∷ [])) ≡ outbox_of (notices_from b (take (i + 1) ms))
resent_more b ms i o x m d l e f g =
    let sent : List InFlight = notices_from b (take i ms) in
    outbox_more o sent x e
    ∙ ap (λ (z : InFlight). outbox_of (sent ++ (z ∷ []))) (g ∙ ap (λ (m : Move). carried b (notice_of (named m))) (sym f))
    ∙ ap outbox_of (sym (notices_next b ms i d l))
