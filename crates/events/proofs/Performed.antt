-- An event taken apart is the machine's step, whole: of each kind but who, what the access point does and what is stored then.
-- Assumes nothing.
use Prim.Native.Nat.{ℕ, zero, suc, ◌≤◌, ◌<◌}
use mathlib.Core.Path.{◌≡◌, refl, sym, ap, ◌∙◌}
use mathlib.Core.Bool.{Bool, true, false, cond, ◌&&◌}
use mathlib.Core.List.{List, [], ◌∷◌}
use Rattle.std.specs.Prelude.{Option, Some}
use native.Mathlib.Nat.{not-suc-le-zero, le_of_suc-le-suc}
use borrow.Author.Tests.{ltb-true}
use lib.Dec.{ltb}
use lib.ListN.{length, get_or, take}
use lib.Seq.{length-take-le}
use Rattle.lists.specs.Table.{Test, first_of, accepts}
use Rattle.lists.specs.Places.{nth, without}
use Rattle.lists.proofs.Choices.{and_false, not_both, by_bool}
use Rattle.reader.specs.Read.{read_of, context_of}
use Rattle.structs.specs.declared.InFlight.{InFlight}
use Rattle.machine.specs.Stations.{Station}
use Rattle.machine.specs.Packets.{packet_of, readable, packet_in, octets_in}
use Rattle.machine.specs.AccessPoint as machine
use Rattle.machine.specs.AccessPoint.{origin_of, join_tests, join_from, leave_by, tick_by, receive}
use Rattle.machine.specs.Network as floor
use Rattle.machine.specs.Network.{access_point_at, set_in_flight}
use Rattle.machine.specs.Events.{Event, join, leave, deliver, repeat, lose, tick, unknown_point, unknown_packet, group_address, event_tests, refusal, Outcome, quiet, act, receive_frame, receive_at, accepted, step}
use Rattle.structs.specs.declared.AccessPoint.{AccessPoint}
use Rattle.record.specs.Lens.{get_point}
use Rattle.structs.specs.declared.Network.{Network}
use Rattle.network.specs.Lens.{get}
use Rattle.structs.specs.Lists.{get_in_flight}
use Rattle.network.specs.Events.{valid_network_record, reply_of}
use Rattle.network.proofs.LensLaws.{NetworkFits}
use Rattle.network.proofs.Lent.{got_count}
use Rattle.actions.specs.Done.{Done, unchanged_by, done_by, decided, off_floor, no_packet, join_of, leave_of, tick_of, receive_of, lose_of}
use Rattle.structs.specs.declared.Kind.{Kind}
use Rattle.structs.specs.declared.Kind.TheVariants.{Join, Leave, Deliver, Repeat, Lose, Tick, Who}
use Rattle.events.specs.Event.{is_who, event_as}
use Rattle.events.specs.Apart.{packet_for, point_for, taken_for, action_for, stored_by}
use Rattle.events.proofs.Stored.{point_at, refused_is, unchanged_is, lost_is, acted_is}
use Rattle.events.proofs.Within.{packet_at}

-- packet i of n
nth_used : {A : Type 0} (n i : ℕ) (xs : List A) (d : A) → i < n → n ≤ length xs → nth i (take n xs) ≡ Some (get_or xs i d)
unfolding nth
nth_used zero i xs d l k = absurd (not-suc-le-zero l)
nth_used (suc n) i [] d l k = absurd (not-suc-le-zero k)
nth_used (suc n) zero (x ∷ xs) d l k = refl
nth_used (suc n) (suc i) (x ∷ xs) d l k = nth_used n i xs d (le_of_suc-le-suc l) (le_of_suc-le-suc k)

module _ (w : Network) (z : NetworkFits w) (v : valid_network_record w ≡ true) where
  -- a step by its refusal and by what is done where there is none
  step_by : (e : Event) (r : ℕ) (o : Outcome) → refusal (get w) e ≡ r → accepted (get w) 0 e ≡ o → step (get w) 0 e ≡ cond (accepts r) o (quiet r (get w))
  unfolding step
  step_by e r o p q = rw (p, q)

  -- refused, or the access point b acts
  by_answer : (r b i : ℕ) (d : AccessPoint) (x : machine.Action) → b < w.ap_count
      → stored_by w b false i (cond (accepts r) (done_by b (get_or w.points b d) x) (unchanged_by r (get_or w.points b d)))
      ≡ reply_of w (cond (accepts r) (act b x (get w)) (quiet r (get w)))
  unfolding set_in_flight get
  by_answer r b i d x l =
      by_bool (λ (c : Bool). stored_by w b false i (cond c (done_by b (get_or w.points b d) x) (unchanged_by r (get_or w.points b d))) ≡ reply_of w (cond c (act b x (get w)) (quiet r (get w)))) (accepts r)
      (λ e. acted_is w z b i false d x l) (λ e. unchanged_is w z b i r d ∙ sym (refused_is w z r))

  -- An event at AP `at`: 11, then the tests of its record and what it does

  module _ (e : Event) (at i : ℕ) (d : AccessPoint) (ts : machine.AccessPoint → List Test) (x : machine.AccessPoint → machine.Action)
      (tests : event_tests (get w) e ≡ off_floor w.ap_count at ∷ ts (access_point_at (get w) at))
      (does : accepted (get w) 0 e ≡ act at (x (access_point_at (get w) at)) (get w)) where
    -- AP b acts, or is only looked at
    abbrev Stored : ℕ → Type 0
    Stored b =
        stored_by w b false i (decided (off_floor w.ap_count at ∷ ts (get_point (get_or w.points b d))) at (get_or w.points b d) (x (get_point (get_or w.points b d))))
        ≡ reply_of w (step (get w) 0 e)

    on_floor : ltb at w.ap_count ≡ true → Stored at
    unfolding decided refusal
    on_floor q =
        let l : at < w.ap_count = ltb-true at w.ap_count q in
        let p : access_point_at (get w) at ≡ get_point (get_or w.points at d) = point_at w z at d l in
        let r : ℕ = first_of (off_floor w.ap_count at ∷ ts (get_point (get_or w.points at d))) in
        by_answer r at i d (x (get_point (get_or w.points at d))) l
        ∙ ap (reply_of w) (sym (step_by e r (act at (x (get_point (get_or w.points at d))) (get w)) (ap first_of tests ∙ ap (λ (a : machine.AccessPoint). first_of (off_floor w.ap_count at ∷ ts a)) p) (does ∙ ap (λ (a : machine.AccessPoint). act at (x a) (get w)) p)))

    off_floor_lem : ltb at w.ap_count ≡ false → Stored 0
    unfolding decided refusal
    off_floor_lem q =
        rw q
        (unchanged_is w z 0 i 11 d
        ∙ sym (refused_is w z 11)
        ∙ ap (reply_of w) (sym (step_by e 11 (accepted (get w) 0 e) (ap first_of tests ∙ eleven) refl)))
      where
        eleven : first_of (off_floor w.ap_count at ∷ ts (access_point_at (get w) at)) ≡ 11
        eleven = rw q

    at_point : Stored (cond (ltb at w.ap_count) at 0)
    at_point = by_bool (λ (c : Bool). Stored (cond c at 0)) (ltb at w.ap_count) on_floor off_floor_lem

  -- join

  join_tests_lem : (at : ℕ) (s : Station) (n : ℕ) (old : Option ℕ) (c : List ℕ)
      → event_tests (get w) (join at s n old c)
      ≡ off_floor w.ap_count at ∷ group_address s ∷ (ltb 4095 n, 7) ∷ (ltb 64 (length c), 9) ∷ join_tests (origin_of w.ap_count at old) s n (access_point_at (get w) at)
  unfolding event_tests unknown_point
  join_tests_lem at s n old c = rw (got_count w z)

  join_does : (at : ℕ) (s : Station) (n : ℕ) (old : Option ℕ) (c : List ℕ)
      → accepted (get w) 0 (join at s n old c)
      ≡ act at (join_from (origin_of w.ap_count at old) w.ap_count w.timeout w.resend_limit 0 at s n c (access_point_at (get w) at)) (get w)
  unfolding accepted get
  join_does at s n old c =
      ap (λ (k : ℕ). act at (join_from (origin_of k at old) k (get w).timeout (get w).resend_limit 0 at s n c (access_point_at (get w) at)) (get w)) (got_count w z)

  -- leave

  leave_tests : (at : ℕ) (s : Station) → event_tests (get w) (leave at s) ≡ off_floor w.ap_count at ∷ group_address s ∷ []
  unfolding event_tests unknown_point
  leave_tests at s = rw (got_count w z)

  leave_does : (at : ℕ) (s : Station) → accepted (get w) 0 (leave at s) ≡ act at (leave_by s (access_point_at (get w) at)) (get w)
  unfolding accepted
  leave_does at s = refl

  -- tick

  tick_tests : (at : ℕ) → event_tests (get w) (tick at) ≡ off_floor w.ap_count at ∷ []
  unfolding event_tests unknown_point
  tick_tests at = rw (got_count w z)

  tick_does : (at : ℕ) → accepted (get w) 0 (tick at) ≡ act at (tick_by w.timeout (access_point_at (get w) at)) (get w)
  unfolding accepted get
  tick_does at = refl

  module _ (at i : ℕ) (d : AccessPoint) where
    -- the access point that is looked at, and its record
    abbrev looked : ℕ
    looked = cond (ltb at w.ap_count) at 0

    join_stored : (s : Station) (n : ℕ) (old : Option ℕ) (c : List ℕ)
        → stored_by w looked false i (join_of at w.ap_count w.timeout w.resend_limit s n old c (get_or w.points looked d)) ≡ reply_of w (step (get w) 0 (join at s n old c))
    unfolding join_of
    join_stored s n old c =
        at_point (join at s n old c) at i d (λ p. group_address s ∷ (ltb 4095 n, 7) ∷ (ltb 64 (length c), 9) ∷ join_tests (origin_of w.ap_count at old) s n p)
        (λ p. join_from (origin_of w.ap_count at old) w.ap_count w.timeout w.resend_limit 0 at s n c p)
        (join_tests_lem at s n old c) (join_does at s n old c)

    leave_stored : (s : Station) → stored_by w looked false i (leave_of at w.ap_count s (get_or w.points looked d)) ≡ reply_of w (step (get w) 0 (leave at s))
    unfolding leave_of
    leave_stored s = at_point (leave at s) at i d (λ p. group_address s ∷ []) (leave_by s) (leave_tests at s) (leave_does at s)

    tick_stored : stored_by w looked false i (tick_of at w.ap_count w.timeout (get_or w.points looked d)) ≡ reply_of w (step (get w) 0 (tick at))
    unfolding tick_of
    tick_stored = at_point (tick at) at i d (λ p. []) (tick_by w.timeout) (tick_tests at) (tick_does at)

  -- An event with packet i: 12, then its receiver acts on it, whether it is taken out or not

  counted : (i : ℕ) → unknown_packet (get w) i ≡ no_packet w.in_flight.count i
  unfolding unknown_packet get
  counted i = ap (λ (m : ℕ). no_packet m i) (length-take-le w.in_flight.count w.in_flight.items z.air)

  -- the packets in flight are no part of an access point's record
  point_beside : (ws : List InFlight) (b : ℕ) → access_point_at (set_in_flight ws (get w)) b ≡ access_point_at (get w) b
  unfolding access_point_at set_in_flight
  point_beside ws b = refl

  at_packet : (i : ℕ) (dp : InFlight) (f : floor.Network) → i < w.in_flight.count → receive_at i (get_in_flight w.in_flight) f ≡ receive_frame (get_or w.in_flight.items i dp) f
  unfolding receive_at
  at_packet i dp f l = rw (nth_used w.in_flight.count i w.in_flight.items dp l z.air)

  -- what its receiver does
  frame_does : (p : InFlight) (ws : List InFlight) (d : AccessPoint) → p.to < w.ap_count → readable (octets_in p) ≡ true
      → receive_frame p (set_in_flight ws (get w))
      ≡ act p.to (receive p.from (packet_of (read_of (octets_in p)) (context_of (octets_in p))) (get_point (get_or w.points p.to d))) (set_in_flight ws (get w))
  unfolding receive_frame packet_in
  frame_does p ws d l r = rw r (ap (λ (a : machine.AccessPoint). act p.to (receive p.from (packet_of (read_of (octets_in p)) (context_of (octets_in p))) a) (set_in_flight ws (get w))) same)
    where
      same : access_point_at (set_in_flight ws (get w)) p.to ≡ get_point (get_or w.points p.to d)
      same = point_beside ws p.to ∙ point_at w z p.to d l

  module _ (e : Event) (i : ℕ) (taken : Bool) (dp : InFlight) (d : AccessPoint)
      (tests : event_tests (get w) e ≡ unknown_packet (get w) i ∷ [])
      (does : accepted (get w) 0 e ≡ receive_at i (get_in_flight w.in_flight) (set_in_flight (cond taken (without i (get_in_flight w.in_flight)) (get_in_flight w.in_flight)) (get w))) where
    -- the packets that are in flight when its receiver acts
    abbrev left : List InFlight
    left = cond taken (without i (get_in_flight w.in_flight)) (get_in_flight w.in_flight)

    -- packet k is looked at, and AP b; t says whether there is such a packet
    abbrev StoredAt : Bool → ℕ → ℕ → Type 0
    StoredAt t k b =
        stored_by w b (taken && t) k (receive_of i w.in_flight.count (get_or w.in_flight.items k dp) (get_or w.points b d))
        ≡ reply_of w (step (get w) 0 e)

    refused_by_lem : (r : ℕ) → first_of (no_packet w.in_flight.count i ∷ []) ≡ r → refusal (get w) e ≡ r
    unfolding refusal
    refused_by_lem r q = ap first_of (tests ∙ ap (λ (t : Test). t ∷ []) (counted i)) ∙ q

    handed : ltb i w.in_flight.count ≡ true → StoredAt true i (get_or w.in_flight.items i dp).to
    unfolding receive_of decided
    handed q =
        let l : i < w.in_flight.count = ltb-true i w.in_flight.count q in
        let p : InFlight = get_or w.in_flight.items i dp in
        let h = packet_at w z v i dp l in
        let x : machine.Action = receive p.from (packet_of (read_of (octets_in p)) (context_of (octets_in p))) (get_point (get_or w.points p.to d)) in
        rw (q, and_always taken)
        (acted_is w z p.to i taken d x h.to
        ∙ ap (reply_of w) (sym (step_by e 0 (act p.to x (set_in_flight left (get w))) (refused_by_lem 0 (rw q)) (does ∙ at_packet i dp (set_in_flight left (get w)) l ∙ frame_does p left d h.to h.reads))))
      where
        and_always : (t : Bool) → t && true ≡ t
        and_always true = refl
        and_always false = refl

    missing : ltb i w.in_flight.count ≡ false → StoredAt false 0 0
    unfolding receive_of decided
    missing q =
        rw (q, and_false taken)
        (unchanged_is w z 0 0 12 d
        ∙ sym (refused_is w z 12)
        ∙ ap (reply_of w) (sym (step_by e 12 (accepted (get w) 0 e) (refused_by_lem 12 (rw q)) refl)))

    with_packet : stored_by w
        (cond (ltb i w.in_flight.count) (get_or w.in_flight.items (cond (ltb i w.in_flight.count) i 0) dp).to 0)
        (taken && ltb i w.in_flight.count)
        (cond (ltb i w.in_flight.count) i 0)
        (receive_of i w.in_flight.count (get_or w.in_flight.items (cond (ltb i w.in_flight.count) i 0) dp)
        (get_or w.points (cond (ltb i w.in_flight.count) (get_or w.in_flight.items (cond (ltb i w.in_flight.count) i 0) dp).to 0) d))
        ≡ reply_of w (step (get w) 0 e)
    with_packet =
        by_bool (λ (t : Bool). StoredAt t (cond t i 0) (cond t (get_or w.in_flight.items (cond t i 0) dp).to 0)) (ltb i w.in_flight.count) handed missing

  deliver_tests : (i : ℕ) → event_tests (get w) (deliver i) ≡ unknown_packet (get w) i ∷ []
  unfolding event_tests
  deliver_tests i = refl

  deliver_does : (i : ℕ) → accepted (get w) 0 (deliver i) ≡ receive_at i (get_in_flight w.in_flight) (set_in_flight (without i (get_in_flight w.in_flight)) (get w))
  unfolding accepted get
  deliver_does i = refl

  repeat_tests : (i : ℕ) → event_tests (get w) (repeat i) ≡ unknown_packet (get w) i ∷ []
  unfolding event_tests
  repeat_tests i = refl

  repeat_does : (i : ℕ) → accepted (get w) 0 (repeat i) ≡ receive_at i (get_in_flight w.in_flight) (set_in_flight (get_in_flight w.in_flight) (get w))
  unfolding accepted get set_in_flight
  repeat_does i = refl

  -- lose

  lost : (i : ℕ) (d : AccessPoint) → ltb i w.in_flight.count ≡ true
      → stored_by w 0 true i (lose_of i w.in_flight.count (get_or w.points 0 d)) ≡ reply_of w (step (get w) 0 (lose i))
  unfolding lose_of event_tests refusal accepted get
  lost i d q =
      rw q
      (lost_is w z 0 i d
      ∙ ap (reply_of w) (sym (step_by (lose i) 0 (quiet 0 (set_in_flight (without i (get_in_flight w.in_flight)) (get w))) (ap first_of (ap (λ (t : Test). t ∷ []) (counted i)) ∙ rw q) refl)))

  not_lost : (i k : ℕ) (d : AccessPoint) → ltb i w.in_flight.count ≡ false
      → stored_by w 0 false k (lose_of i w.in_flight.count (get_or w.points 0 d)) ≡ reply_of w (step (get w) 0 (lose i))
  unfolding lose_of event_tests refusal
  not_lost i k d q =
      rw q
      (unchanged_is w z 0 k 12 d
      ∙ sym (refused_is w z 12)
      ∙ ap (reply_of w) (sym (step_by (lose i) 12 (accepted (get w) 0 (lose i)) (ap first_of (ap (λ (t : Test). t ∷ []) (counted i)) ∙ rw q) refl)))

  -- Any of the six

  module _ (at : ℕ) (s : Station) (n : ℕ) (old : Option ℕ) (c : List ℕ) (dp : InFlight) (d : AccessPoint) where
    -- the packet and the access point that are looked at
    abbrev packet : Kind → InFlight
    packet k = get_or w.in_flight.items (packet_for k at w.in_flight.count) dp

    abbrev place : Kind → ℕ
    place k = point_for k at w.ap_count w.in_flight.count (packet k).to

    performed : (k : Kind) → is_who k ≡ false
        → stored_by w (place k) (taken_for k at w.in_flight.count) (packet_for k at w.in_flight.count)
        (action_for k at s n old c w.ap_count w.timeout w.resend_limit w.in_flight.count (get_or w.points (place k) d) (packet k))
        ≡ reply_of w (step (get w) 0 (event_as k at s n old c))
    performed Join e = join_stored at 0 d s n old c
    performed Leave e = leave_stored at 0 d s
    performed Deliver e = with_packet (deliver at) at true dp d (deliver_tests at) (deliver_does at)
    performed Repeat e = with_packet (repeat at) at false dp d (repeat_tests at) (repeat_does at)
    performed Lose e =
        by_bool (λ (t : Bool). stored_by w 0 t (cond t at 0) (lose_of at w.in_flight.count (get_or w.points 0 d)) ≡ reply_of w (step (get w) 0 (lose at))) (ltb at w.in_flight.count) (lost at d) (not_lost at 0 d)
    performed Tick e = tick_stored at 0 d
    performed Who e = not_both refl e

    -- the same, of whatever was found to be the packet's place, the access point, and what it does
    pub performed_by : (k : Kind) (b i : ℕ) (taken : Bool) (x : Done) → is_who k ≡ false
        → i ≡ packet_for k at w.in_flight.count
        → b ≡ point_for k at w.ap_count w.in_flight.count (get_or w.in_flight.items i dp).to
        → taken ≡ taken_for k at w.in_flight.count
        → x ≡ action_for k at s n old c w.ap_count w.timeout w.resend_limit w.in_flight.count (get_or w.points b d) (get_or w.in_flight.items i dp)
        → stored_by w b taken i x ≡ reply_of w (step (get w) 0 (event_as k at s n old c))
    performed_by k b i taken x q ei eb et ex = rw (ex, et, eb, ei) (performed k q)
