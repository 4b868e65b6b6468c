-- The rules of one access point keep its record within the limits.
-- Assumes nothing.
use Prim.Native.Nat.{ℕ, zero, suc, ◌<◌, ◌≤◌, ◌+◌, ◌-◌, ◌%◌, ◌^◌}
use mathlib.Core.Bool.{Bool, cond, ◌&&◌}
use mathlib.Core.Path.{◌≡◌, refl, sym, ap, ◌∙◌}
use mathlib.Core.List.{List, [], ◌∷◌, ◌++◌}
use Rattle.std.specs.Prelude.{None, Some}
use lib.Dec.{eqb}
use lib.ListN.{length, length-append}
use native.Mathlib.Omega.{arith}
use Rattle.lists.proofs.Bools.{by_cond}
use Rattle.lists.proofs.Choices.{by_bool, by_option, not_both, not_some}
use Rattle.lists.specs.Places.{All, nil, cons}
use Rattle.lists.proofs.Every.{all_append}
use Rattle.sequence.specs.Distance.{newer_of}
use Rattle.structs.specs.declared.Association.{Association}
use Rattle.machine.specs.Stations.{Station, same}
use Rattle.machine.specs.Associations.{Context, given, association, sequence_of, held_context, associate, dissociate, dissociate_older, dissociate_exactly, fill}
use Rattle.machine.specs.Packets.{Message, add_notify, move_notify, successful, stale_move, Packet}
use Rattle.machine.specs.Moves.{Open, counted, counts_after, new_move, opening, notice_of, notices_of, agrees, earliest, close, answering, timed, Fate, kept_from, kept, resent_by, resends, lapsed_by, lapsed, ticking}
use Rattle.machine.specs.AccessPoint.{AccessPoint, with_associations, with_moves, use_identifier, quietly, another, this, nowhere, joined, add_notifies, join_from, leave_by, tick_by, answer_to, answering_with, receive_add, receive_notify, receive_response, receive_by, receive}
use Rattle.machine.specs.Events.{StationIn}
use Rattle.machine.proofs.Stations.{same_true, same_of_eq}
use Rattle.machine.proofs.Associations.{sequence_associate_other, sequence_dissociate, sequence_dissociate_other, sequence_fill, by_older, by_exactly}
use Rattle.machine.proofs.Parts.{by_fate}
use Rattle.machine.proofs.Wire.{context_in}
use Rattle.machine.proofs.Limits.{ArrayIn, AssociationIn, MoveIn, ContextIn, PacketIn, OutgoingIn, Distinct, Balanced, PointIn, ActionIn, nil_context, given_in, held_in, context_in_lem}

-- associations

associate_all : {P : Association → Type 0} (x : Association) (rs : List Association) → P x → All P rs → All P (associate x rs)
unfolding associate
associate_all x [] h nil = cons h nil
associate_all {P} x (r ∷ rs) h (cons k ks) = by_cond (All P) (same x.station r.station) (λ q. cons h ks) (λ q. cons k (associate_all x rs h ks))

dissociate_all : {P : Association → Type 0} (s : Station) (rs : List Association) → All P rs → All P (dissociate s rs)
unfolding dissociate
dissociate_all s [] nil = nil
dissociate_all {P} s (r ∷ rs) (cons k ks) = by_cond (All P) (same s r.station) (λ q. dissociate_all s rs ks) (λ q. cons k (dissociate_all s rs ks))

fill_all : {C : Type 0} (s : Station) (n : ℕ) (c : List ℕ) (rs : List Association) → ContextIn c → All (AssociationIn C) rs → All (AssociationIn C) (fill s n c rs)
unfolding fill association
fill_all s n c [] h nil = nil
fill_all {C} s n c (r ∷ rs) h (cons k ks) =
    cons (by_cond (AssociationIn C) (same s r.station && eqb n r.sequence) (λ q. record { station = k.station; sequence = k.sequence; context = given_in c h }) (λ q. k)) (fill_all s n c rs h ks)

dissociate_none : (s t : Station) (rs : List Association) → sequence_of s rs ≡ None → sequence_of s (dissociate t rs) ≡ None
dissociate_none s t rs e =
    by_bool (λ (b : Bool). same s t ≡ b → sequence_of s (dissociate t rs) ≡ None) (same s t) (λ q z. rw (← same_true s t q) (sequence_dissociate s rs))
    (λ q z. sequence_dissociate_other s t rs (λ x. not_both (same_of_eq s t x) q) ∙ e) refl

dissociate_distinct : (s : Station) (rs : List Association) → Distinct rs → Distinct (dissociate s rs)
unfolding dissociate
dissociate_distinct s [] h = tt
dissociate_distinct s (r ∷ rs) h = by_cond Distinct (same s r.station) (λ q. dissociate_distinct s rs h.1) (λ q. (dissociate_none r.station s rs h.0, dissociate_distinct s rs h.1))

associate_distinct : (x : Association) (rs : List Association) → Distinct rs → Distinct (associate x rs)
unfolding associate
associate_distinct x [] h = ((unfold sequence_of in refl), tt)
associate_distinct x (r ∷ rs) h =
    by_cond Distinct (same x.station r.station) (λ q. (rw (same_true x.station r.station q) h.0, h.1))
    (λ q. (sequence_associate_other r.station x rs (λ e. not_both (same_of_eq x.station r.station (sym e)) q) ∙ h.0, associate_distinct x rs h.1))

fill_distinct : (s : Station) (n : ℕ) (c : List ℕ) (rs : List Association) → Distinct rs → Distinct (fill s n c rs)
unfolding fill association
fill_distinct s n c [] h = tt
fill_distinct s n c (r ∷ rs) h =
    let k : (sequence_of r.station (fill s n c rs) ≡ None) × Distinct (fill s n c rs) = (sequence_fill r.station s n c rs ∙ h.0, fill_distinct s n c rs h.1) in
    by_cond (λ (y : Association). Distinct (y ∷ fill s n c rs)) (same s r.station && eqb n r.sequence) (λ q. k) (λ q. k)

dissociate_length : (s : Station) (rs : List Association) → length (dissociate s rs) ≤ length rs
unfolding dissociate
dissociate_length s [] = omega arith
dissociate_length s (r ∷ rs) = by_cond (λ (l : List Association). length l ≤ length (r ∷ rs)) (same s r.station) (λ q. omega (arith, dissociate_length s rs)) (λ q. omega (arith, dissociate_length s rs))

fill_length : (s : Station) (n : ℕ) (c : List ℕ) (rs : List Association) → length (fill s n c rs) ≡ length rs
unfolding fill
fill_length s n c [] = refl
fill_length s n c (r ∷ rs) = ap suc (fill_length s n c rs)

-- a row in place of one, or one more
associate_length : (x : Association) (rs : List Association) (k : ℕ) → (sequence_of x.station rs ≡ None → length rs < k) → length rs ≤ k → length (associate x rs) ≤ k
unfolding associate sequence_of
associate_length x [] k h l = omega (arith, h refl)
associate_length x (r ∷ rs) zero h l = absurd (omega arith)
associate_length x (r ∷ rs) (suc k) h l =
    by_bool
    (λ (b : Bool). (cond b (Some r.sequence) (sequence_of x.station rs) ≡ None → suc (length rs) < suc k) → length (cond b (x ∷ rs) (r ∷ associate x rs)) ≤ suc k)
    (same x.station r.station) (λ q z. omega arith) (λ q z. omega (arith, associate_length x rs k (λ e. omega (arith, z e)) (omega arith))) h

-- moves

pub close_all : {P : Open → Type 0} (from : ℕ) (p : Packet) (ms : List Open) → All P ms → All P (close from p ms)
unfolding close
close_all from p [] nil = nil
close_all {P} from p (m ∷ ms) (cons h hs) = by_cond (All P) (agrees from p m.move) (λ q. hs) (λ q. cons h (close_all from p ms hs))

pub close_length : (from : ℕ) (p : Packet) (ms : List Open) (m : Open) → earliest from p ms ≡ Some m → suc (length (close from p ms)) ≡ length ms
unfolding close earliest
close_length from p [] m e = not_some refl e
close_length from p (x ∷ ms) m e =
    by_bool (λ (b : Bool). cond b (Some x) (earliest from p ms) ≡ Some m → suc (length (cond b ms (x ∷ close from p ms))) ≡ suc (length ms)) (agrees from p x.move) (λ q z. refl) (λ q z. ap suc (close_length from p ms m z)) e

module _ {n : ℕ} (t : ℕ) (pos : 1 ≤ t) (max : t ≤ 65535) where
  waits_in : (m : Open) → MoveIn n m → 1 < m.move.ticks_left → MoveIn n (timed m (m.move.ticks_left - 1) m.move.resends_left)
  unfolding timed
  waits_in m h q =
      record { station = h.station; sequence = h.sequence; old = h.old; identifier = h.identifier; ticks = omega arith; long = omega (arith, h.long); resends = h.resends }

  again_in : (m : Open) → MoveIn n m → MoveIn n (timed m t (m.move.resends_left - 1))
  unfolding timed
  again_in m h =
      record { station = h.station; sequence = h.sequence; old = h.old; identifier = h.identifier; ticks = pos; long = max; resends = omega (arith, h.resends) }

  kept_in : (ms : List Open) → All (MoveIn n) ms → All (MoveIn n) (kept t ms)
  unfolding kept kept_from
  kept_in [] nil = nil
  kept_in (m ∷ ms) (cons h hs) =
      let r = kept_in ms hs in
      by_fate (λ (x : Fate). All (MoveIn n) (kept_from x (kept t ms))) t m (λ q. cons (waits_in m h q) r) (λ q. cons (again_in m h) r) r

  resends_in : (ms : List Open) → All (MoveIn n) ms → All (MoveIn n) (resends t ms)
  unfolding resends resent_by
  resends_in [] nil = nil
  resends_in (m ∷ ms) (cons h hs) =
      let r = resends_in ms hs in
      by_fate (λ (x : Fate). All (MoveIn n) (resent_by x (resends t ms))) t m (λ q. r) (λ q. cons (again_in m h) r) r

pub tick_length : (t : ℕ) (ms : List Open) → length (kept t ms) + length (lapsed t ms) ≡ length ms
unfolding kept lapsed kept_from lapsed_by
tick_length t [] = refl
tick_length t (m ∷ ms) =
    let r : length (kept t ms) + length (lapsed t ms) ≡ length ms = tick_length t ms in
    by_fate (λ (x : Fate). length (kept_from x (kept t ms)) + length (lapsed_by x m (lapsed t ms)) ≡ suc (length ms)) t m (λ q. omega arith) (λ q. omega arith) (omega arith)

-- a count is the number before and one for each, modulo 4294967296
pub counted_sum : (c : ℕ) (ms : List Open) → counted c ms % 4294967296 ≡ (c + length ms) % 4294967296
unfolding counted
counted_sum c [] = omega arith
counted_sum c (m ∷ ms) = omega (arith, counted_sum ((c + 1) % 2 ^ 32) ms)

-- an access point's record

module _ {C : Type 0} {n : ℕ} {a : AccessPoint} (v : PointIn C n a) where
  -- other associations
  in_associations : (rs : List Association) → All (AssociationIn C) rs → Distinct rs → length rs ≤ 16 → PointIn C n (with_associations rs a)
  unfolding with_associations
  in_associations rs x y z = record { associations = x; distinct = y; table = z; moves = v.moves; few = v.few; next = v.next; balance = v.balance }

  in_dissociate : (s : Station) → PointIn C n (with_associations (dissociate s a.associations) a)
  in_dissociate s =
      let l : length a.associations ≤ 16 = v.table in
      in_associations (dissociate s a.associations) (dissociate_all s a.associations v.associations) (dissociate_distinct s a.associations v.distinct) (omega (arith, dissociate_length s a.associations))

  in_same : PointIn C n (with_associations a.associations a)
  in_same = in_associations a.associations v.associations v.distinct v.table

  in_older : (s : Station) (q : ℕ) → PointIn C n (with_associations (dissociate_older s q a.associations) a)
  in_older s q = by_older (λ rs. PointIn C n (with_associations rs a)) s q a.associations in_same (λ m e x. in_dissociate s)

  in_exactly : (s : Station) (q : ℕ) → PointIn C n (with_associations (dissociate_exactly s q a.associations) a)
  in_exactly s q = by_exactly (λ rs. PointIn C n (with_associations rs a)) s q a.associations in_same (λ m e x. in_dissociate s)

  in_fill : (s : Station) (k : ℕ) (c : List ℕ) → ContextIn c → PointIn C n (with_associations (fill s k c a.associations) a)
  in_fill s k c h =
      let l : length a.associations ≤ 16 = v.table in
      in_associations (fill s k c a.associations) (fill_all s k c a.associations h v.associations) (fill_distinct s k c a.associations v.distinct) (omega (arith, fill_length s k c a.associations))

  in_joined : (s : Station) (k : ℕ) (c : Context) → StationIn s → k ≤ 4095 → ArrayIn C 64 c.len c.octets → (sequence_of s a.associations ≡ None → length a.associations < 16) → PointIn C n (joined s k c a)
  unfolding joined association
  in_joined s k c z h l space =
      in_associations _ (associate_all _ a.associations (record { station = z; sequence = h; context = l }) v.associations) (associate_distinct _ a.associations v.distinct)
      (associate_length _ a.associations 16 space v.table)

  in_use : PointIn C n (use_identifier a)
  unfolding use_identifier
  in_use = record { associations = v.associations; distinct = v.distinct; table = v.table; moves = v.moves; few = v.few; next = omega arith; balance = v.balance }

  in_open : (m : Open) → MoveIn n m → length a.moves < 8 → PointIn C n (with_moves (a.moves ++ (m ∷ [])) (opening m) a)
  unfolding with_moves opening counts_after counted
  in_open m h l =
      record {
        associations = v.associations;
        distinct = v.distinct;
        table = v.table;
        moves = all_append v.moves (cons h nil);
        few = omega (arith, length-append a.moves (m ∷ []));
        next = v.next;
        balance = λ x. let bal : Balanced a = v.balance x in omega (arith, length-append a.moves (m ∷ []));
      }

  in_close : (from : ℕ) (p : Packet) (m : Open) → earliest from p a.moves ≡ Some m → PointIn C n (with_moves (close from p a.moves) (answering m) a)
  unfolding with_moves answering counts_after counted
  in_close from p m e =
      let few : length a.moves ≤ 8 = v.few in
      let l = close_length from p a.moves m e in
      record {
        associations = v.associations;
        distinct = v.distinct;
        table = v.table;
        moves = close_all from p a.moves v.moves;
        few = omega arith;
        next = v.next;
        balance = λ x. let bal : Balanced a = v.balance x in omega arith;
      }

  in_ticked : (t : ℕ) → 1 ≤ t → t ≤ 65535 → PointIn C n (with_moves (kept t a.moves) (ticking t a.moves) a)
  unfolding with_moves ticking counts_after
  in_ticked t x y =
      let few : length a.moves ≤ 8 = v.few in
      record {
        associations = v.associations;
        distinct = v.distinct;
        table = v.table;
        moves = kept_in t x y a.moves v.moves;
        few = omega (arith, tick_length t a.moves);
        next = v.next;
        balance = λ x. let bal : Balanced a = v.balance x in unfold counted in omega (arith, tick_length t a.moves, counted_sum a.counts.given_up (lapsed t a.moves));
      }

-- packets

notice_in : {n : ℕ} (m : Open) → MoveIn n m → OutgoingIn n (notice_of m)
unfolding notice_of
notice_in m h = record { to = h.old; packet = record { identifier = h.identifier; station = h.station; sequence = h.sequence; context = nil_context } }

notices_in : {n : ℕ} (ms : List Open) → All (MoveIn n) ms → All (OutgoingIn n) (notices_of ms)
unfolding notices_of
notices_in [] nil = nil
notices_in (m ∷ ms) (cons h hs) = cons (notice_in m h) (notices_in ms hs)

adds_in : {n : ℕ} (b : ℕ) (p : Packet) (i k : ℕ) → PacketIn p → i + k ≤ n → All (OutgoingIn n) (add_notifies b p i k)
unfolding add_notifies
adds_in b p i zero h l = nil
adds_in {n} b p i (suc k) h l =
    by_cond (All (OutgoingIn n)) (eqb i b) (λ e. adds_in b p (suc i) k h (omega arith))
    (λ e. cons (record { to = omega arith; packet = h }) (adds_in b p (suc i) k h (omega arith)))

-- the rules

module _ {C : Type 0} {n : ℕ} {a : AccessPoint} (v : PointIn C n a) where
  quietly_in : {b : AccessPoint} → PointIn C n b → ActionIn C n (quietly b)
  unfolding quietly
  quietly_in h = record { point = h; sends = nil }

  pub leave_in : (s : Station) → ActionIn C n (leave_by s a)
  unfolding leave_by
  leave_in s = quietly_in (in_dissociate v s)

  pub tick_in : (t : ℕ) → 1 ≤ t → t ≤ 65535 → ActionIn C n (tick_by t a)
  unfolding tick_by
  tick_in t x y = record { point = in_ticked v t x y; sends = notices_in (resends t a.moves) (resends_in t x y a.moves v.moves) }

  module _ (from : ℕ) (p : Packet) (l : from < n) (h : PacketIn p) where
    answering_in : {b : AccessPoint} (x : Message) → ContextIn (context_in x) → PointIn C n b → ActionIn C n (answering_with from p x b)
    unfolding answering_with answer_to
    answering_in x c k =
        record { point = k; sends = cons (record { to = l; packet = record { identifier = h.identifier; station = h.station; sequence = h.sequence; context = c } }) nil }

    response_in : (rs : List Association) → PointIn C n (with_associations rs a) → ActionIn C n (receive_response from p rs a)
    unfolding receive_response with_associations
    response_in rs k =
        by_option (ActionIn C n) (earliest from p a.moves) (λ e. quietly_in v) (λ m e. record { point = in_close k from p m e; sends = nil })

    message_in : (x : Message) → ContextIn (context_in x) → ActionIn C n (receive_by x from p a)
    unfolding receive_by receive_add receive_notify
    message_in add_notify c = quietly_in (in_older v p.station p.sequence)
    message_in move_notify c =
        by_option (ActionIn C n) (sequence_of p.station a.associations) (λ e. answering_in (successful []) nil_context v)
        (λ m e. by_cond (ActionIn C n) (newer_of p.sequence m)
        (λ q. answering_in (successful _) (context_in_lem p.station a.associations v.associations) (in_dissociate v p.station))
        (λ q. answering_in stale_move nil_context v))
    message_in (successful x) c = response_in _ (in_fill v p.station p.sequence x c)
    message_in stale_move c = response_in _ (in_exactly v p.station p.sequence)

    pub receive_in : ActionIn C n (receive from p a)
    unfolding receive
    receive_in = message_in p.message h.context

  module _
      (t r name b : ℕ)
      (s : Station)
      (q : ℕ)
      (c : List ℕ)
      (ticks : (1 ≤ t) × (t ≤ 65535))
      (resends : r ≤ 7)
      (station : StationIn s)
      (seq : q ≤ 4095)
      (size : ContextIn c)
      (space : sequence_of s a.associations ≡ None → length a.associations < 16)
    where
      kept_context : PointIn C n (joined s q (held_context s a.associations) a)
      kept_context = in_joined v s q _ station seq (held_in s a.associations v.associations) space

      move_in : (o : ℕ) → o < n → MoveIn n (new_move name s q o a.next_identifier t r)
      unfolding new_move
      move_in o l = record { station = station; sequence = seq; old = l; identifier = v.next; ticks = ticks.0; long = ticks.1; resends = resends }

      pub another_in : (o : ℕ) → o < n → length a.moves < 8 → ActionIn C n (join_from (another o) n t r name b s q c a)
      unfolding join_from use_identifier joined with_associations
      another_in o l few = record { point = in_open (in_use kept_context) _ (move_in o l) few; sends = cons (notice_in _ (move_in o l)) nil }

      pub this_in : ActionIn C n (join_from this n t r name b s q c a)
      unfolding join_from
      this_in = quietly_in kept_context

      pub nowhere_in : ActionIn C n (join_from nowhere n t r name b s q c a)
      unfolding join_from
      nowhere_in =
          record {
            point = in_use (in_joined v s q (given c) station seq (given_in c size) space);
            sends = adds_in b _ 0 n (record { identifier = v.next; station = station; sequence = seq; context = nil_context }) (omega arith);
          }
