-- A network within the limits stays within them, and passes the tests of refusal 14: so no call in a list from a new network
-- gets 14.
-- Assumes nothing.
use Prim.Native.Nat.{ℕ, zero, suc, ◌<◌, ◌≤◌}
use mathlib.Core.Bool.{true, false}
use mathlib.Core.Path.{◌≡◌, refl, subst, ◌∙◌}
use mathlib.Core.List.{List, [], ◌∷◌, ◌++◌}
use Rattle.std.specs.Prelude.{Option, None}
use lib.Dec.{eqb, ltb}
use lib.ListN.{length, get_or, replicate, length-append, length-set, length-replicate}
use native.Mathlib.Omega.{arith}
use borrow.Author.Tests.{eqb-false, ltb-true, ltb-false, leb-false, le-ltb, ne_eqb, not-false}
use Rattle.lists.specs.Table.{first_of, accepts}
use Rattle.lists.specs.Places.{nth, without, All, nil, cons}
use Rattle.lists.proofs.Bools.{by_cond, or_left, or_right}
use Rattle.lists.proofs.Tables.{none_pass, accepted}
use Rattle.lists.proofs.Choices.{by_option}
use Rattle.lists.proofs.Every.{all_append, all_nth, all_without, without_length}
use Rattle.structs.specs.declared.InFlight.{InFlight}
use Rattle.machine.specs.Stations.{Station, is_group}
use Rattle.machine.specs.Associations.{sequence_of}
use Rattle.machine.specs.Packets.{Outgoing, carried, octets_in, packet_in}
use Rattle.machine.specs.AccessPoint.{AccessPoint, new_point, Action, Origin, origin_of, join_from, needs_move}
use Rattle.machine.specs.Network.{Network, setup_tests, new_network, access_point_at, set_point, set_in_flight, send, send_all}
use Rattle.machine.specs.Events.{Event, join, leave, deliver, repeat, lose, tick, who, Octet, StationIn, Formed, unknown_point, group_address, event_tests, refusal, Outcome, quiet, act, receive_frame, receive_at, step}
use Rattle.machine.specs.Events as events
use Rattle.machine.specs.History.{World, after, run, begin}
use Rattle.machine.proofs.Parts.{point_set, by_origin}
use Rattle.machine.proofs.Limits.{ContextIn, OutgoingIn, InFlightIn, PointIn, ActionIn, Valid, carried_in, opened_in}
use Rattle.machine.proofs.PointLimits.{leave_in, tick_in, receive_in, another_in, this_in, nowhere_in}

-- what an accepted join passed
pub record JoinPassed (f : Network) (b : ℕ) (s : Station) (n : ℕ) (old : Option ℕ) (c : List ℕ) : Type 0 where
  pub there : b < length f.points
  pub single : is_group s ≡ false
  pub sequence : n ≤ 4095
  pub context : length c ≤ 64
  pub room : sequence_of s (access_point_at f b).associations ≡ None → length (access_point_at f b).associations < 16
  pub few : needs_move (origin_of (length f.points) b old) ≡ true → length (access_point_at f b).moves < 8

pub join_passed : (f : Network) (b : ℕ) (s : Station) (n : ℕ) (old : Option ℕ) (c : List ℕ) → accepts (refusal f (join b s n old c)) ≡ true → JoinPassed f b s n old c
unfolding refusal event_tests unknown_point group_address
join_passed f b s n old c e =
    let p = none_pass (event_tests f (join b s n old c)) tt e in
    record {
      there = ltb-true b (length f.points) (not-false _ p.0);
      single = p.1.0;
      sequence = ltb-false 4095 n p.1.1.0;
      context = ltb-false 64 (length c) p.1.1.1.0;
      room = λ z. leb-false 16 (length (access_point_at f b).associations) (rw z at p.1.1.1.1.1.0);
      few = λ z. leb-false 8 (length (access_point_at f b).moves) (rw z at p.1.1.1.1.1.1.0);
    }

pub tick_passed : (f : Network) (b : ℕ) → accepts (refusal f (tick b)) ≡ true → b < length f.points
unfolding refusal event_tests unknown_point
tick_passed f b e = ltb-true b (length f.points) (not-false _ (none_pass (event_tests f (tick b)) tt e).0)

pub leave_passed : (f : Network) (b : ℕ) (s : Station) → accepts (refusal f (leave b s)) ≡ true → b < length f.points
unfolding refusal event_tests unknown_point group_address
leave_passed f b s e = ltb-true b (length f.points) (not-false _ (none_pass (event_tests f (leave b s)) tt e).0)

-- the network

module _ {C : Type 0} {n : ℕ} {f : Network} (v : Valid C n f) where
  valid_point_lem : (b : ℕ) (a : AccessPoint) → PointIn C n a → Valid C n (set_point b a f)
  unfolding set_point
  valid_point_lem b a h =
      record {
        count = length-set f.points b a ∙ v.count;
        timeout = v.timeout;
        limit = v.limit;
        points = λ c. point_set (PointIn C n) f b c a (v.points c) (λ q. h);
        air = v.air;
        full = v.full;
      }

  valid_in_flight_lem : (ws : List InFlight) → All (InFlightIn C n) ws → length ws ≤ 64 → Valid C n (set_in_flight ws f)
  unfolding set_in_flight access_point_at
  valid_in_flight_lem ws h l = record { count = v.count; timeout = v.timeout; limit = v.limit; points = v.points; air = h; full = l }

  valid_send : (from : ℕ) (x : Outgoing) → from < n → OutgoingIn n x → Valid C n (send from x f)
  unfolding send
  valid_send from x l h =
      by_cond (Valid C n) (ltb (length f.in_flight) 64)
      (λ q. valid_in_flight_lem (f.in_flight ++ (carried from x ∷ [])) (all_append v.air (cons (carried_in from x l h) nil))
      (omega (arith, length-append f.in_flight (carried from x ∷ []), ltb-true (length f.in_flight) 64 q))) (λ q. v)

valid_send_all : {C : Type 0} {n : ℕ} {f : Network} (from : ℕ) (xs : List Outgoing) → from < n → All (OutgoingIn n) xs → Valid C n f → Valid C n (send_all from xs f)
unfolding send_all
valid_send_all from [] l nil v = v
valid_send_all {f = f} from (x ∷ xs) l (cons h hs) v = valid_send_all {f = send from x f} from xs l hs (valid_send v from x l h)

module _ {C : Type 0} {n : ℕ} where
  -- an access point acts
  valid_act : {f : Network} (b : ℕ) (x : Action) → b < n → ActionIn C n x → Valid C n f → Valid C n (act b x f).network
  unfolding act
  valid_act b x l h v = valid_send_all b x.sends l h.sends (valid_point_lem v b x.point h.point)

  valid_receive : {f : Network} (k : ℕ) (ws : List InFlight) → All (InFlightIn C n) ws → Valid C n f → Valid C n (receive_at k ws f).network
  unfolding receive_at receive_frame quiet
  valid_receive {f} k ws h v =
      by_option (λ (o : Outcome). Valid C n o.network) (nth k ws) (λ q. v)
      (λ w q. let i = all_nth k ws w q h in
      by_option (λ (o : Outcome). Valid C n o.network) (packet_in (octets_in w)) (λ e. v)
      (λ p e. valid_act w.to _ i.to (receive_in (v.points w.to) w.from p i.from (opened_in w p i e)) v))

module _ {C : Type 0} {n : ℕ} {f : Network} (v : Valid C n f) where
  pub join_in : (name b : ℕ) (s : Station) (q : ℕ) (old : Option ℕ) (c : List ℕ) → StationIn s → All Octet c → JoinPassed f b s q old c
      → ActionIn C n (join_from (origin_of (length f.points) b old) (length f.points) f.timeout f.resend_limit name b s q c (access_point_at f b))
  join_in name b s q old c z o p =
      rw v.count
      (by_origin (λ (r : Origin). (needs_move r ≡ true → length (access_point_at f b).moves < 8) → ActionIn C n (join_from r n f.timeout f.resend_limit name b s q c (access_point_at f b))) n b old
      (λ o e d l few. another_in (v.points b) f.timeout f.resend_limit name b s q c v.timeout v.limit z p.sequence context p.room o l (few (unfold needs_move in refl)))
      (λ e few. this_in (v.points b) f.timeout f.resend_limit name b s q c v.timeout v.limit z p.sequence context p.room)
      (λ e few. nowhere_in (v.points b) f.timeout f.resend_limit name b s q c v.timeout v.limit z p.sequence context p.room)
      (rw v.count at p.few))
    where
      context : ContextIn c
      context = record { size = p.context; octets = o }

  on_network : (b : ℕ) → b < length f.points → b < n
  on_network b l = subst (λ (k : ℕ). b < k) v.count l

  -- a packet taken out
  pub valid_dropped : (k : ℕ) → Valid C n (set_in_flight (without k f.in_flight) f)
  valid_dropped k = valid_in_flight_lem v _ (all_without k f.in_flight v.air) (omega (arith, without_length k f.in_flight, v.full))

  valid_accepted : (name : ℕ) (e : Event) → Formed e → accepts (refusal f e) ≡ true → Valid C n (events.accepted f name e).network
  unfolding events.accepted quiet
  valid_accepted name (join b s q old c) z r = let p = join_passed f b s q old c r in valid_act b _ (on_network b p.there) (join_in name b s q old c z.0 z.1 p) v
  valid_accepted name (leave b s) z r = valid_act b _ (on_network b (leave_passed f b s r)) (leave_in (v.points b) s) v
  valid_accepted name (deliver k) z r =
      valid_receive k f.in_flight v.air (valid_dropped k)
  valid_accepted name (repeat k) z r = valid_receive k f.in_flight v.air v
  valid_accepted name (lose k) z r = valid_dropped k
  valid_accepted name (tick b) z r =
      valid_act b _ (on_network b (tick_passed f b r)) (tick_in (v.points b) f.timeout v.timeout.0 v.timeout.1) v
  valid_accepted name (who s) z r = v

  -- every event with any arguments keeps a network valid
  pub valid_step : (name : ℕ) (e : Event) → Formed e → Valid C n (step f name e).network
  unfolding step quiet
  valid_step name e z =
      by_cond (λ (o : Outcome). Valid C n o.network) (accepts (refusal f e)) (λ q. valid_accepted name e z q) (λ q. v)

-- a new network

pub new_points : (n b : ℕ) → get_or (replicate n new_point) b new_point ≡ new_point
new_points zero b = refl
new_points (suc n) zero = refl
new_points (suc n) (suc b) = new_points n b

pub new_point_lem : (n t r b : ℕ) → access_point_at (new_network n t r) b ≡ new_point
unfolding access_point_at new_network
new_point_lem n t r b = new_points n b

pub new_in : {C : Type 0} (n : ℕ) → PointIn C n new_point
unfolding new_point
new_in n = record { associations = nil; distinct = tt; table = omega arith; moves = nil; few = omega arith; next = omega arith; balance = λ x. refl }

-- what set-up accepts
pub record SetupIn (n t r : ℕ) : Type 0 where
  pub count : (1 ≤ n) × (n ≤ 8)
  pub timeout : (1 ≤ t) × (t ≤ 65535)
  pub limit : r ≤ 7

above_zero : (n : ℕ) → eqb n 0 ≡ false → 1 ≤ n
above_zero n e = let h = eqb-false n 0 e in go n h
  where
    go : (n : ℕ) → (n ≡ 0 → ⊥) → 1 ≤ n
    go zero h = absurd (h refl)
    go (suc n) h = omega arith

pub setup_in : (n t r : ℕ) → accepts (first_of (setup_tests n t r)) ≡ true → SetupIn n t r
unfolding setup_tests
setup_in n t r e =
    let p = none_pass (setup_tests n t r) tt e in
    record {
      count = (above_zero n (or_left (eqb n 0) (ltb 8 n) p.0), ltb-false 8 n (or_right (eqb n 0) (ltb 8 n) p.0));
      timeout = (above_zero t (or_left (eqb t 0) (ltb 65535 t) p.1.0), ltb-false 65535 t (or_right (eqb t 0) (ltb 65535 t) p.1.0));
      limit = ltb-false 7 r p.1.1.0;
    }

pub setup_passes : (n t r : ℕ) → SetupIn n t r → accepts (first_of (setup_tests n t r)) ≡ true
unfolding setup_tests
setup_passes n t r h =
    rw (accepted (setup_tests n t r) (
      rw (ne_eqb n 0 (λ e. omega (arith, h.count.0))) (le-ltb 8 n h.count.1),
      (rw (ne_eqb t 0 (λ e. omega (arith, h.timeout.0))) (le-ltb 65535 t h.timeout.1), (le-ltb 7 r h.limit, tt)),
    ))

pub valid_new : {C : Type 0} (n t r : ℕ) → SetupIn n t r → Valid C n (new_network n t r)
valid_new n t r h =
    record {
      count = unfold new_network in length-replicate n new_point;
      timeout = unfold new_network in h.timeout;
      limit = unfold new_network in h.limit;
      points = λ b. rw (new_point_lem n t r b) (new_in n);
      air = unfold new_network in nil;
      full = unfold new_network in omega arith;
    }

pub valid_begin : {C : Type 0} (n t r : ℕ) → SetupIn n t r → Valid C n (begin n t r).network
unfolding begin
valid_begin n t r h = valid_new n t r h

pub valid_after : {C : Type 0} {n : ℕ} (w : World) (e : Event) → Formed e → Valid C n w.network → Valid C n (after w e).network
unfolding after
valid_after w e z y = valid_step y (length w.log) e z

pub valid_run : {C : Type 0} {n : ℕ} (w : World) (es : List Event) → All Formed es → Valid C n w.network → Valid C n (run w es).network
unfolding run
valid_run w [] nil y = y
valid_run w (e ∷ es) (cons z zs) y = valid_run (after w e) es zs (valid_after w e z y)

pub valid_from_new : {C : Type 0} (n t r : ℕ) → SetupIn n t r → (es : List Event) → All Formed es → Valid C n (run (begin n t r) es).network
valid_from_new n t r h es zs = valid_run (begin n t r) es zs (valid_begin n t r h)
