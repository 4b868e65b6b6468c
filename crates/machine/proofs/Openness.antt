-- The machine's open moves are those that the history says are open: each was opened by an event of the list, and has not closed.
-- Assumes nothing.
use Prim.Native.Nat.{ℕ, zero, suc, ◌<◌, ◌≤◌, ◌+◌}
use mathlib.Core.Bool.{Bool, true, false, cond, ◌&&◌, ◌||◌}
use mathlib.Core.Path.{◌≡◌, refl, sym, ap, subst}
use mathlib.Core.List.{List, [], ◌∷◌}
use mathlib.Core.Logic.{inl, inr}
use Rattle.std.specs.Prelude.{Some}
use lib.Dec.{eqb}
use lib.ListN.{length, get_or, set}
use native.Mathlib.Omega.{arith}
use borrow.Author.Tests.{eqb-true, eq-eqb}
use Rattle.lists.specs.Table.{accepts}
use Rattle.lists.specs.Places.{nth, without, All, nil, cons}
use Rattle.lists.proofs.Bools.{by_cond}
use Rattle.lists.proofs.Choices.{by_bool, by_option, and_left, and_right, and_true, or_mono, or_true_right, not_some, some_inj}
use Rattle.lists.proofs.Every.{all_map, all_append, all_nth}
use Rattle.structs.specs.declared.Association.{Association}
use Rattle.machine.specs.Stations.{Station, same}
use Rattle.machine.specs.Packets.{Message, Packet, packet_in, octets_in}
use Rattle.machine.specs.Moves.{Open, Happened, nothing, new_move, opening, agrees, earliest, close, answering, timed, Fate, kept_from, kept, lapsed_by, lapsed, ticking}
use Rattle.machine.specs.AccessPoint.{AccessPoint, new_point, Action, with_associations, with_moves, use_identifier, quietly, Origin, another, this, nowhere, joined, join_from, leave_by, tick_by, answering_with, receive_by, receive}
use Rattle.machine.specs.Network.{Network, new_network, access_point_at, set_point, set_in_flight}
use Rattle.machine.specs.Events.{Event, join, leave, deliver, repeat, lose, tick, who, Formed, refusal, Outcome, quiet, act, receive_frame, receive_at, accepted, step}
use Rattle.machine.specs.History.{Entry, World, after, run, begin, times_in, closes_of, open_among, open_since, is_open}
use Rattle.machine.specs.Stronger.{is_move, move_among, move_opened, move_is_open}
use Rattle.machine.proofs.Stations.{same_refl}
use Rattle.machine.proofs.Parts.{point_set, by_fate, send_all_keeps, by_receipt}
use Rattle.structs.specs.declared.InFlight.{InFlight}
use Rattle.machine.proofs.Limits.{InFlightIn, Valid}
use Rattle.machine.proofs.PointLimits.{close_all}
use Rattle.machine.proofs.Valid.{SetupIn, join_passed, tick_passed, leave_passed, new_point_lem, valid_begin, valid_after}
use Rattle.machine.proofs.Invariant.{Holds}
use Rattle.machine.proofs.Sends.{total, total_points, named, total_append, new_total}

-- names in a list of moves
times_total : (p : ℕ) (ms : List Open) → times_in p ms ≡ total (named p) ms
unfolding times_in total named
times_total p [] = refl
times_total p (m ∷ ms) =
    by_bool (λ (b : Bool). cond b (1 + times_in p ms) (times_in p ms) ≡ cond b 1 0 + total (named p) ms) (eqb p m.name) (λ q. omega (arith, times_total p ms)) (λ q. omega (arith, times_total p ms))

total_set_same : (g : Open → ℕ) (points : List AccessPoint) (b : ℕ) (a : AccessPoint) → b < length points
    → total_points g (set points b a) + total g (get_or points b new_point).moves ≡ total_points g points + total g a.moves
unfolding total_points
total_set_same g [] b a l = absurd (omega arith)
total_set_same g (x ∷ xs) zero a l = omega arith
total_set_same g (x ∷ xs) (suc b) a l = omega (arith, total_set_same g xs b a (omega arith))

total_closed : (g : Open → ℕ) (from : ℕ) (p : Packet) (ms : List Open) (m : Open) → earliest from p ms ≡ Some m → total g (close from p ms) + g m ≡ total g ms
unfolding total close earliest
total_closed g from p [] m e = not_some refl e
total_closed g from p (x ∷ ms) m e =
    by_bool (λ (b : Bool). cond b (Some x) (earliest from p ms) ≡ Some m → total g (cond b ms (x ∷ close from p ms)) + g m ≡ g x + total g ms) (agrees from p x.move)
    (λ q z. omega (arith, ap g (some_inj refl z))) (λ q z. omega (arith, total_closed g from p ms m z)) e

total_ticked : (p t : ℕ) (ms : List Open) → total (named p) (kept t ms) + total (named p) (lapsed t ms) ≡ total (named p) ms
unfolding total named kept lapsed kept_from lapsed_by timed
total_ticked p t [] = refl
total_ticked p t (m ∷ ms) =
    let ih : total (named p) (kept t ms) + total (named p) (lapsed t ms) ≡ total (named p) ms = total_ticked p t ms in
    by_fate (λ (x : Fate). total (named p) (kept_from x (kept t ms)) + total (named p) (lapsed_by x m (lapsed t ms)) ≡ named p m + total (named p) ms) t m
    (λ k. omega arith) (λ q. omega arith) (omega arith)

-- closed by an event
abbrev closed : ℕ → Happened → ℕ
closed p h = times_in p h.answered + times_in p h.given_up

-- a move that R knows by station, old AP and name
abbrev pub Known : (Station → ℕ → ℕ → Bool) → Open → Type 0
Known R m = R m.move.station m.move.old m.name ≡ true

-- An access point's action: of the moves named p it keeps those that it had or opens and does not close; what it opens is named
-- by the place `now`; and each move that it keeps it had, or opened.
record Tracks (now : ℕ) (a : AccessPoint) (x : Action) : Type 0 where
  balance : (p : ℕ) → total (named p) x.point.moves + closed p x.happened ≡ total (named p) a.moves + times_in p x.happened.opened
  opens : (p : ℕ) → times_in p x.happened.opened ≤ cond (eqb p now) 1 0
  had : (R : Station → ℕ → ℕ → Bool) → All (Known R) a.moves
      → All (Known R) x.happened.opened
      → All (Known R) x.point.moves

some_more : (b : Bool) → 0 ≤ cond b 1 0
some_more true = omega arith
some_more false = omega arith

kept_had : (R : Station → ℕ → ℕ → Bool) (t : ℕ) (ms : List Open) → All (Known R) ms → All (Known R) (kept t ms)
unfolding kept kept_from timed
kept_had R t [] nil = nil
kept_had R t (m ∷ ms) (cons h hs) =
    let r = kept_had R t ms hs in
    by_fate (λ (x : Fate). All (Known R) (kept_from x (kept t ms))) t m (λ q. cons h r) (λ q. cons h r) r

module _ (now : ℕ) (a : AccessPoint) where
  tracks_quietly : (b : AccessPoint) → b.moves ≡ a.moves → Tracks now a (quietly b)
  unfolding quietly nothing times_in
  tracks_quietly b e =
      record {
        balance = λ p. omega (arith, ap (total (named p)) e);
        opens = λ p. some_more (eqb p now);
        had = λ R h k. subst (All (Known R)) (sym e) h;
      }

  tracks_answer : (from : ℕ) (q : Packet) (x : Message) (b : AccessPoint) → b.moves ≡ a.moves → Tracks now a (answering_with from q x b)
  unfolding answering_with nothing times_in
  tracks_answer from q x b e =
      record {
        balance = λ p. omega (arith, ap (total (named p)) e);
        opens = λ p. some_more (eqb p now);
        had = λ R h k. subst (All (Known R)) (sym e) h;
      }

  tracks_closed : (from : ℕ) (q : Packet) (m : Open) (rs : List Association) → earliest from q a.moves ≡ Some m
      → Tracks now a (record { point = with_moves (close from q a.moves) (answering m) (with_associations rs a); sends = []; happened = answering m })
  unfolding with_moves answering
  tracks_closed from q m rs e =
      record {
        balance = λ p. unfold times_in total in omega (arith, times_total p (m ∷ []), total_closed (named p) from q a.moves m e);
        opens = λ p. unfold times_in in some_more (eqb p now);
        had = λ R h k. close_all from q a.moves h;
      }

  tracks_message : (x : Message) (from : ℕ) (q : Packet) → Tracks now a (receive_by x from q a)
  tracks_message x from q =
      by_receipt (Tracks now a) a from q (λ b e. tracks_quietly b e.moves) (λ y b e. tracks_answer from q y b e.moves) (λ m rs e. tracks_closed from q m rs e) x

  tracks_leave : (s : Station) → Tracks now a (leave_by s a)
  unfolding leave_by with_associations
  tracks_leave s = tracks_quietly _ refl

  tracks_tick : (t : ℕ) → Tracks now a (tick_by t a)
  unfolding tick_by with_moves ticking
  tracks_tick t =
      record {
        balance = λ p. unfold times_in in omega (arith, times_total p (lapsed t a.moves), total_ticked p t a.moves);
        opens = λ p. unfold times_in in some_more (eqb p now);
        had = λ R h k. kept_had R t a.moves h;
      }

  one_named : (p : ℕ) (m : Open) → m.name ≡ now → times_in p (m ∷ []) ≤ cond (eqb p now) 1 0
  unfolding times_in
  one_named p m e = rw e (by_cond (λ (n : ℕ). n ≤ cond (eqb p now) 1 0) (eqb p now) (λ q. rw q (omega arith)) (λ q. some_more (eqb p now)))

  tracks_join : (x : Origin) (k t r b : ℕ) (s : Station) (n : ℕ) (c : List ℕ) → Tracks now a (join_from x k t r now b s n c a)
  unfolding join_from with_moves use_identifier joined with_associations opening
  tracks_join (another o) k t r b s n c =
      let m = new_move now s n o a.next_identifier t r in
      record {
        balance = λ p. unfold times_in total in omega (arith, total_append (named p) a.moves m, times_total p (m ∷ []));
        opens = λ p. one_named p m (unfold new_move in refl);
        had = λ R h k. all_append h k;
      }
  tracks_join this k t r b s n c = tracks_quietly _ refl
  tracks_join nowhere k t r b s n c =
      record {
        balance = λ p. unfold nothing times_in in omega arith;
        opens = λ p. unfold nothing times_in in some_more (eqb p now);
        had = λ R h k. h;
      }

-- the list

-- how often the move named p was opened
unfoldable pub opens_of : ℕ → List Entry → ℕ
opens_of p [] = 0
opens_of p (x ∷ xs) = times_in p x.outcome.happened.opened + opens_of p xs

-- of the network f, after an event's outcome from g
record Follows (now : ℕ) (g : Network) (o : Outcome) : Type 0 where
  balance : (p : ℕ) → total_points (named p) o.network.points + closed p o.happened ≡ total_points (named p) g.points + times_in p o.happened.opened
  opens : (p : ℕ) → times_in p o.happened.opened ≤ cond (eqb p now) 1 0
  had : (R : Station → ℕ → ℕ → Bool) → ((b : ℕ) → All (Known R) (access_point_at g b).moves) → All (Known R) o.happened.opened → (b : ℕ) → All (Known R) (access_point_at o.network b).moves

follows_act : (now : ℕ) (g : Network) (b : ℕ) (x : Action) → b < length g.points → Tracks now (access_point_at g b) x → Follows now g (act b x g)
unfolding act
follows_act now g b x l h =
    record {
      balance = λ p.
          send_all_keeps (λ (f : Network). total_points (named p) f.points + closed p x.happened ≡ total_points (named p) g.points + times_in p x.happened.opened)
          (λ ws f k. unfold set_in_flight in k) b x.sends (set_point b x.point g)
          (unfold set_point access_point_at in omega (arith, total_set_same (named p) g.points b x.point l, h.balance p));
      opens = h.opens;
      had = λ R k z c.
          send_all_keeps (λ (f : Network). All (Known R) (access_point_at f c).moves) (λ ws f k. unfold set_in_flight access_point_at in k) b x.sends (set_point b x.point g)
          (point_set (λ (a : AccessPoint). All (Known R) a.moves) g b c x.point (k c) (λ q. h.had R (k b) z));
    }

follows_quiet : (now : ℕ) (g f : Network) (a : ℕ) → f.points ≡ g.points → Follows now g (quiet a f)
unfolding quiet nothing times_in access_point_at
follows_quiet now g f a e =
    record {
      balance = λ p. omega (arith, ap (total_points (named p)) e);
      opens = λ p. some_more (eqb p now);
      had = λ R k z b. subst (λ (l : List AccessPoint). All (Known R) (get_or l b new_point).moves) (sym e) (k b);
    }

follows_receive : {C : Type 0} {n : ℕ} (now k : ℕ) (ws : List InFlight) (g : Network) → length g.points ≡ n → All (InFlightIn C n) ws → Follows now g (receive_at k ws g)
unfolding receive_at receive_frame receive
follows_receive now k ws g e i =
    by_option (Follows now g) (nth k ws) (λ q. follows_quiet now g g 0 refl)
    (λ w q. by_option (Follows now g) (packet_in (octets_in w)) (λ d. follows_quiet now g g 0 refl)
    (λ p d. follows_act now g w.to _ (subst (λ (j : ℕ). w.to < j) (sym e) (all_nth k ws w q i).to) (tracks_message now (access_point_at g w.to) p.message w.from p)))

-- a packet taken out before
follows_dropped : (now : ℕ) (f : Network) (ws : List InFlight) (o : Outcome) → Follows now (set_in_flight ws f) o → Follows now f o
unfolding set_in_flight access_point_at
follows_dropped now f ws o h = record { balance = h.balance; opens = h.opens; had = h.had }

follows_delivered : {C : Type 0} {n : ℕ} (now k : ℕ) (f : Network) → Valid C n f → Follows now f (receive_at k f.in_flight (set_in_flight (without k f.in_flight) f))
unfolding set_in_flight
follows_delivered now k f v = follows_dropped now f (without k f.in_flight) _ (follows_receive now k f.in_flight (set_in_flight (without k f.in_flight) f) v.count v.air)

module _ {C : Type 0} {n : ℕ} (f : Network) (v : Valid C n f) where
  follows_accepted : (now : ℕ) (e : Event) → accepts (refusal f e) ≡ true → Follows now f (accepted f now e)
  unfolding accepted
  follows_accepted now (join b s m old x) r = follows_act now f b _ (join_passed f b s m old x r).there (tracks_join now (access_point_at f b) _ _ _ _ b s m x)
  follows_accepted now (leave b s) r = follows_act now f b _ (leave_passed f b s r) (tracks_leave now (access_point_at f b) s)
  follows_accepted now (deliver k) r = follows_delivered now k f v
  follows_accepted now (repeat k) r = follows_receive now k f.in_flight f v.count v.air
  follows_accepted now (lose k) r = follows_quiet now f _ 0 (unfold set_in_flight in refl)
  follows_accepted now (tick b) r = follows_act now f b _ (tick_passed f b r) (tracks_tick now (access_point_at f b) f.timeout)
  follows_accepted now (who s) r =
      record { balance = λ p. unfold nothing times_in in omega arith; opens = λ p. unfold nothing times_in in some_more (eqb p now); had = λ R k z b. k b }

  follows_step : (now : ℕ) (e : Event) → Follows now f (step f now e)
  unfolding step
  follows_step now e = by_cond (Follows now f) (accepts (refusal f e)) (λ q. follows_accepted now e q) (λ q. follows_quiet now f f (refusal f e) refl)

-- after a list: the open moves named p, with those that closed, are those that were opened, one at most; and each open move was
-- opened by an event of the list
pub record Tracked (w : World) : Type 0 where
  pub balance : (p : ℕ) → total_points (named p) w.network.points + closes_of p w.log ≡ opens_of p w.log
  pub once : (p : ℕ) → opens_of p w.log ≤ 1
  pub later : (p : ℕ) → length w.log ≤ p → opens_of p w.log ≡ 0
  pub opened : (b : ℕ) → All (Known (λ s o p. move_opened s w.log o p)) (access_point_at w.network b).moves

tracked_begin : (n t r : ℕ) → Tracked (begin n t r)
unfolding begin new_network closes_of opens_of
tracked_begin n t r =
    record {
      balance = λ p. omega (arith, new_total (named p) n);
      once = λ p. omega arith;
      later = λ p h. refl;
      opened = λ b. unfold new_network in rw (new_point_lem n t r b) (unfold new_point in nil);
    }

among_head : (m : Open) → is_move m.move.station m.move.old m.name m ≡ true
unfolding is_move
among_head m = rw (same_refl m.move.station, eq-eqb m.move.old m.move.old refl, eq-eqb m.name m.name refl)

-- each of these moves is among them
all_among : (ms : List Open) → All (Known (λ s o p. move_among s o p ms)) ms
unfolding move_among
all_among [] = nil
all_among (m ∷ ms) = cons {x = m} (rw (among_head m)) (all_map (λ x k. or_true_right (is_move x.move.station x.move.old x.name m) (move_among x.move.station x.move.old x.name ms) k) (all_among ms))

tracked_after : {C : Type 0} {n : ℕ} (w : World) (e : Event) → Valid C n w.network → Tracked w → Tracked (after w e)
unfolding after closes_of opens_of move_opened
tracked_after w e v h =
    let now = length w.log in
    let o = step w.network now e in
    let k = follows_step w.network v now e in
    record {
      balance = λ p. omega (arith, k.balance p, h.balance p);
      once = λ p. by_bool (λ (b : Bool). eqb p now ≡ b → times_in p o.happened.opened ≤ cond b 1 0 → times_in p o.happened.opened + opens_of p w.log ≤ 1) (eqb p now)
          (λ q d i. omega (arith, h.later p (omega (arith, eqb-true p now d)))) (λ q d i. omega (arith, h.once p)) refl (k.opens p);
      later = λ p l. by_bool (λ (b : Bool). eqb p now ≡ b → times_in p o.happened.opened ≤ cond b 1 0 → times_in p o.happened.opened + opens_of p w.log ≡ 0) (eqb p now)
          (λ q d i. absurd (omega (arith, eqb-true p now d))) (λ q d i. omega (arith, h.later p (omega arith))) refl (k.opens p);
      opened = k.had (λ s x p. move_among s x p o.happened.opened || move_opened s w.log x p)
          (λ b. all_map (λ m q. or_true_right (move_among m.move.station m.move.old m.name o.happened.opened) (move_opened m.move.station w.log m.move.old m.name) q) (h.opened b))
          (all_map (λ m q. rw q) (all_among o.happened.opened));
    }

tracked_run : {C : Type 0} {n : ℕ} (w : World) (es : List Event) → All Formed es → Valid C n w.network → Tracked w → Tracked (run w es)
unfolding run
tracked_run w [] nil v h = h
tracked_run w (e ∷ es) (cons z zs) v h = tracked_run (after w e) es zs (valid_after w e z v) (tracked_after w e v h)

pub tracked : (n t r : ℕ) → SetupIn n t r → (es : List Event) → All Formed es → Tracked (run (begin n t r) es)
tracked n t r s es z = tracked_run {C = Unit {0}} (begin n t r) es z (valid_begin n t r s) (tracked_begin n t r)

-- what is open at an access point, is open by the history

total_at : (g : Open → ℕ) (points : List AccessPoint) (b : ℕ) → total g (get_or points b new_point).moves ≤ total_points g points
unfolding total total_points new_point
total_at g [] b = omega arith
total_at g (a ∷ more) zero = omega arith
total_at g (a ∷ more) (suc b) = omega (arith, total_at g more b)

holds_known : (R : Station → ℕ → ℕ → Bool) (s : Station) (n o p : ℕ) (ms : List Open) → All (Known R) ms → Holds s n o p ms → R s o p ≡ true
holds_known R s n o p [] _ x3 = elim x3 [ ]
holds_known R s n o p (m ∷ ms) (cons k ks) (inl h) = rw (h.station, h.old, h.name) at k
holds_known R s n o p (m ∷ ms) (cons k ks) (inr h) = holds_known R s n o p ms ks h

holds_named : (s : Station) (n o p : ℕ) (ms : List Open) → Holds s n o p ms → 1 ≤ total (named p) ms
unfolding total named
holds_named s n o p [] x' = elim x' [ ]
holds_named s n o p (m ∷ ms) (inl h) = rw (eq-eqb p m.name (sym h.name)) (omega arith)
holds_named s n o p (m ∷ ms) (inr h) = omega (arith, holds_named s n o p ms h)

pub holds_open : (w : World) → Tracked w → (b : ℕ) (s : Station) (n o p : ℕ) → Holds s n o p (access_point_at w.network b).moves → move_is_open s w.log o p ≡ true
unfolding move_is_open access_point_at
holds_open w t b s n o p h =
    and_true (move_opened s w.log o p) (eqb (closes_of p w.log) 0) (holds_known _ s n o p _ (t.opened b) h)
    (eq-eqb (closes_of p w.log) 0 (omega (arith, holds_named s n o p (get_or w.network.points b new_point).moves h, total_at (named p) w.network.points b, t.balance p, t.once p)))

-- a station with an open move

among_open : (s : Station) (log : List Entry) (o p : ℕ) (ms : List Open) → closes_of p log ≡ 0 → move_among s o p ms ≡ true → open_among s log ms ≡ true
unfolding move_among open_among is_move
among_open s log o p [] e h = h
among_open s log o p (m ∷ ms) e h =
    or_mono _ (move_among s o p ms) (same s m.move.station && eqb (closes_of m.name log) 0) (open_among s log ms)
    (λ q. and_true (same s m.move.station) (eqb (closes_of m.name log) 0) (and_left (same s m.move.station) (eqb o m.move.old) (and_left (same s m.move.station && eqb o m.move.old) (eqb p m.name) q))
    (eq-eqb (closes_of m.name log) 0 (rw (← eqb-true p m.name (and_right (same s m.move.station && eqb o m.move.old) (eqb p m.name) q)) e)))
    (among_open s log o p ms e) h

since_open : (s : Station) (log : List Entry) (o p : ℕ) (xs : List Entry) → closes_of p log ≡ 0 → move_opened s xs o p ≡ true → open_since s log xs ≡ true
unfolding move_opened open_since
since_open s log o p [] e h = h
since_open s log o p (x ∷ xs) e h = or_mono _ _ _ _ (among_open s log o p x.outcome.happened.opened e) (since_open s log o p xs e) h

pub open_own : (s : Station) (log : List Entry) (o p : ℕ) → move_is_open s log o p ≡ true → is_open s log ≡ true
unfolding move_is_open is_open
open_own s log o p h =
    since_open s log o p log (eqb-true (closes_of p log) 0 (and_right (move_opened s log o p) (eqb (closes_of p log) 0) h)) (and_left (move_opened s log o p) (eqb (closes_of p log) 0) h)
