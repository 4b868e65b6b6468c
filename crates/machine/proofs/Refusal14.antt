-- The tests of refusal 14: a record that its types allow passes them exactly when it is within the limits. So a new network
-- passes them, and every event with any arguments keeps a record that passes them so.
-- Assumes nothing.
use Prim.Native.Nat.{ℕ, zero, suc, ◌<◌, ◌≤◌}
use mathlib.Core.Bool.{Bool, true, false, cond, ◌&&◌, ◌||◌, not}
use mathlib.Core.Path.{◌≡◌, refl}
use mathlib.Core.List.{List, [], ◌∷◌, ◌++◌}
use Rattle.std.specs.Prelude.{Option, None, Some, is_some}
use lib.Dec.{ltb, leb, eqb}
use lib.ListN.{length, get_or, drop}
use borrow.Author.Tests.{ltb-true, leb-true, lt-ltb, le-leb, eqb-true, not-false}
use Rattle.lists.specs.Table.{first_of, accepts}
use Rattle.lists.specs.Places.{every, All, nil, cons}
use Rattle.lists.proofs.Bools.{by_cond, or_left}
use Rattle.lists.proofs.Choices.{and_left, and_right, and_true, not_both}
use Rattle.lists.proofs.Every.{all_map, every_all, all_every}
use Rattle.structs.specs.declared.Association.{Association}
use Rattle.structs.specs.declared.InFlight.{InFlight}
use Rattle.machine.specs.Associations.{sequence_of}
use Rattle.machine.specs.Moves.{Open}
use Rattle.machine.specs.AccessPoint.{AccessPoint, new_point}
use Rattle.machine.specs.Network.{Network, access_point_at}
use Rattle.machine.specs.Events.{Event, Octet, StationIn, Formed, step}
use Rattle.machine.specs.Valid.{valid_association, distinct, valid_move, valid_point, valid_in_flight, valid_setup, valid_network}
use Rattle.machine.specs.Lone.{LoneAccessPoint, valid_lone, LoneAnswer, action_on, written_all, outside_tests, with_point, outside}
use Rattle.machine.specs.History.{run, begin}
use Rattle.reader.specs.Read.{read_of}
use Rattle.machine.proofs.Limits.{AssociationIn, MoveIn, InFlightIn, Distinct, PointIn, Valid, packet_in_lem}
use Rattle.machine.proofs.PointLimits.{receive_in}
use Rattle.machine.proofs.Valid.{SetupIn, setup_in, setup_passes, new_in, valid_step, valid_from_new}

-- What the types of a record grant

pub record AssociationTyped (r : Association) : Type 0 where
  pub station : StationIn r.station
  pub size : length r.context ≡ 64
  pub octets : All Octet r.context

pub record MoveTyped (m : Open) : Type 0 where
  pub station : StationIn m.move.station
  pub identifier : m.move.identifier ≤ 65535

pub record PointTyped (a : AccessPoint) : Type 0 where
  pub associations : All AssociationTyped a.associations
  pub moves : All MoveTyped a.moves
  pub next : a.next_identifier ≤ 65535

pub record InFlightTyped (w : InFlight) : Type 0 where
  pub size : length w.octets ≡ 82
  pub octets : All Octet w.octets

pub record NetworkTyped (f : Network) : Type 0 where
  pub points : All PointTyped f.points
  pub air : All InFlightTyped f.in_flight

-- From the tests to the limits

association_in : (r : Association) → AssociationTyped r → valid_association r ≡ true → AssociationIn ⊥ r
unfolding valid_association
association_in r h e =
    record {
      station = h.station;
      sequence = leb-true r.sequence 4095 (and_left (leb r.sequence 4095) (leb r.context_len 64) e);
      context = record { used = leb-true r.context_len 64 (and_right (leb r.sequence 4095) (leb r.context_len 64) e); size = h.size; octets = h.octets; clean = λ x. absurd x };
    }

none_there : (o : Option ℕ) → not (is_some o) ≡ true → o ≡ None
none_there None e = refl
none_there (Some m) e = not_both e refl

distinct_in : (rs : List Association) → distinct rs ≡ true → Distinct rs
unfolding distinct
distinct_in [] e = tt
distinct_in (r ∷ rs) e =
    (none_there (sequence_of r.station rs) (and_left (not (is_some (sequence_of r.station rs))) (distinct rs) e), distinct_in rs (and_right (not (is_some (sequence_of r.station rs))) (distinct rs) e))

move_in : (k : ℕ) (m : Open) → MoveTyped m → valid_move k m ≡ true → MoveIn k m
unfolding valid_move
move_in k m h e =
    let e₁ = and_right (leb m.move.sequence 4095) _ e in
    let e₂ = and_right (ltb m.move.old k) _ e₁ in
    let e₃ = and_right (leb 1 m.move.ticks_left) _ e₂ in
    record {
      station = h.station;
      sequence = leb-true m.move.sequence 4095 (and_left _ _ e);
      old = ltb-true m.move.old k (and_left _ _ e₁);
      identifier = h.identifier;
      ticks = leb-true 1 m.move.ticks_left (and_left _ _ e₂);
      long = leb-true m.move.ticks_left 65535 (and_left _ _ e₃);
      resends = leb-true m.move.resends_left 7 (and_right (leb m.move.ticks_left 65535) _ e₃);
    }

pub point_in : (k : ℕ) (a : AccessPoint) → PointTyped a → valid_point k a ≡ true → PointIn ⊥ k a
unfolding valid_point
point_in k a h e =
    let e₁ = and_right (leb (length a.associations) 16) _ e in
    let e₂ = and_right (every valid_association a.associations) _ e₁ in
    let e₃ = and_right (distinct a.associations) _ e₂ in
    record {
      associations = every_all association_in h.associations (and_left _ _ e₁);
      distinct = distinct_in a.associations (and_left _ _ e₂);
      table = leb-true (length a.associations) 16 (and_left _ _ e);
      moves = every_all (move_in k) h.moves (and_right (leb (length a.moves) 8) _ e₃);
      few = leb-true (length a.moves) 8 (and_left _ _ e₃);
      next = h.next;
      balance = λ x. absurd x;
    }

flight_in : (k : ℕ) (w : InFlight) → InFlightTyped w → valid_in_flight k w ≡ true → InFlightIn ⊥ k w
unfolding valid_in_flight
flight_in k w h e =
    let e₁ = and_right (ltb w.from k) _ e in
    let e₂ = and_right (ltb w.to k) _ e₁ in
    record {
      from = ltb-true w.from k (and_left _ _ e);
      to = ltb-true w.to k (and_left _ _ e₁);
      octets = record { used = leb-true w.len 82 (and_left _ _ e₂); size = h.size; octets = h.octets; clean = λ x. absurd x };
      reads = and_right (leb w.len 82) _ e₂;
    }

all_get_d : {A : Type 0} {P : A → Type 0} {xs : List A} (d : A) → P d → All P xs → (b : ℕ) → P (get_or xs b d)
all_get_d d h nil b = h
all_get_d d h (cons k ks) zero = k
all_get_d d h (cons k ks) (suc b) = all_get_d d h ks b

get_or_all : {A : Type 0} {P : A → Type 0} (xs : List A) (d : A) → ((b : ℕ) → P (get_or xs b d)) → All P xs
get_or_all [] d h = nil
get_or_all (x ∷ xs) d h = cons (h 0) (get_or_all xs d (λ b. h (suc b)))

all_points : {C : Type 0} (n : ℕ) (f : Network) → All (PointIn C n) f.points → (b : ℕ) → PointIn C n (access_point_at f b)
unfolding access_point_at
all_points n f h b = all_get_d new_point (new_in n) h b

pub points_all : {C : Type 0} {n : ℕ} (f : Network) → Valid C n f → All (PointIn C n) f.points
unfolding access_point_at
points_all f v = get_or_all f.points new_point v.points

pub valid_in : (f : Network) → NetworkTyped f → valid_network f ≡ true → SetupIn (length f.points) f.timeout f.resend_limit × Valid ⊥ (length f.points) f
unfolding valid_network valid_setup
valid_in f h e =
    let e₁ = and_right (valid_setup (length f.points) f.timeout f.resend_limit) _ e in
    let e₂ = and_right (every (valid_point (length f.points)) f.points) _ e₁ in
    let s = setup_in (length f.points) f.timeout f.resend_limit (and_left _ _ e) in (
      s,
      record {
        count = refl;
        timeout = s.timeout;
        limit = s.limit;
        points = all_points (length f.points) f (every_all (point_in (length f.points)) h.points (and_left _ _ e₁));
        air = every_all (flight_in (length f.points)) h.air (and_right (leb (length f.in_flight) 64) _ e₂);
        full = leb-true (length f.in_flight) 64 (and_left _ _ e₂);
      },
    )

-- From the limits to the tests

association_passes : {C : Type 0} (r : Association) → AssociationIn C r → valid_association r ≡ true
unfolding valid_association
association_passes r h = and_true _ _ (le-leb r.sequence 4095 h.sequence) (le-leb r.context_len 64 h.context.used)

distinct_passes : (rs : List Association) → Distinct rs → distinct rs ≡ true
unfolding distinct
distinct_passes [] h = refl
distinct_passes (r ∷ rs) h = and_true (not (is_some (sequence_of r.station rs))) (distinct rs) (rw h.0) (distinct_passes rs h.1)

move_passes : (k : ℕ) (m : Open) → MoveIn k m → valid_move k m ≡ true
unfolding valid_move
move_passes k m h =
    and_true _ _ (le-leb m.move.sequence 4095 h.sequence)
    (and_true _ _ (lt-ltb m.move.old k h.old)
    (and_true _ _ (le-leb 1 m.move.ticks_left h.ticks) (and_true _ _ (le-leb m.move.ticks_left 65535 h.long) (le-leb m.move.resends_left 7 h.resends))))

pub point_passes : {C : Type 0} (k : ℕ) (a : AccessPoint) → PointIn C k a → valid_point k a ≡ true
unfolding valid_point
point_passes k a h =
    and_true _ _ (le-leb (length a.associations) 16 h.table)
    (and_true _ _ (all_every valid_association association_passes h.associations)
    (and_true _ _ (distinct_passes a.associations h.distinct) (and_true _ _ (le-leb (length a.moves) 8 h.few) (all_every (valid_move k) (move_passes k) h.moves))))

flight_passes : {C : Type 0} (k : ℕ) (w : InFlight) → InFlightIn C k w → valid_in_flight k w ≡ true
unfolding valid_in_flight
flight_passes k w h =
    and_true _ _ (lt-ltb w.from k h.from) (and_true _ _ (lt-ltb w.to k h.to) (and_true _ _ (le-leb w.len 82 h.octets.used) h.reads))

pub valid_passes : {C : Type 0} {n : ℕ} (f : Network) → (1 ≤ n) × (n ≤ 8) → Valid C n f → valid_network f ≡ true
unfolding valid_network valid_setup
valid_passes {n = n} f k v =
    rw v.count
    (and_true _ _ (setup_passes n f.timeout f.resend_limit (record { count = k; timeout = v.timeout; limit = v.limit }))
    (and_true _ _ (all_every (valid_point n) (point_passes n) (points_all f v))
    (and_true _ _ (le-leb (length f.in_flight) 64 v.full) (all_every (valid_in_flight n) (flight_passes n) v.air))))

association_typed : {C : Type 0} (r : Association) → AssociationIn C r → AssociationTyped r
association_typed r h = record { station = h.station; size = h.context.size; octets = h.context.octets }

pub point_typed : {C : Type 0} {n : ℕ} (a : AccessPoint) → PointIn C n a → PointTyped a
point_typed a h =
    record { associations = all_map association_typed h.associations; moves = all_map (λ m k. record { station = k.station; identifier = k.identifier }) h.moves; next = h.next }

pub valid_typed : {C : Type 0} {n : ℕ} (f : Network) → Valid C n f → NetworkTyped f
valid_typed f v =
    record { points = all_map point_typed (points_all f v); air = all_map (λ w h. record { size = h.octets.size; octets = h.octets.octets }) v.air }

-- The theorems

-- every event with any arguments keeps a record to which 14 does not apply so
pub valid_kept : (f : Network) → NetworkTyped f → valid_network f ≡ true → (name : ℕ) (e : Event) → Formed e
    → NetworkTyped (step f name e).network × (valid_network (step f name e).network ≡ true)
valid_kept f h t name e z =
    let v = valid_in f h t in
    let w = valid_step v.1 name e z in
    (valid_typed (step f name e).network w, valid_passes (step f name e).network v.0.count w)

-- 14 does not apply to a new network, nor after any list of events
pub never_14 : (n t r : ℕ) → valid_setup n t r ≡ true → (es : List Event) → All Formed es → valid_network (run (begin n t r) es).network ≡ true
unfolding valid_setup
never_14 n t r s es zs =
    let h = setup_in n t r s in
    valid_passes {C = Unit {0}} (run (begin n t r) es).network h.count (valid_from_new n t r h es zs)

-- One AP alone

-- what accepted outside bytes passed
lone_passed : (l : LoneAccessPoint) (from : ℕ) (s b : List ℕ) → valid_lone l ≡ true → accepts (first_of (outside_tests l from s b)) ≡ true
    → (from < l.ap_count) × ((read_of s).answer ≡ 0)
unfolding outside_tests
lone_passed l from s b v e = go (not (ltb from l.ap_count) || eqb from l.number) (accepts (read_of s).answer) refl refl (rw v at e)
  where
    go : (x y : Bool) → not (ltb from l.ap_count) || eqb from l.number ≡ x → accepts (read_of s).answer ≡ y
        → accepts (cond x 11 (cond (not y) (read_of s).answer (cond (ltb (length b) (length (written_all (action_on l from s).sends))) 10 0))) ≡ true
        → (from < l.ap_count) × ((read_of s).answer ≡ 0)
    go true y p q z = not_both z refl
    go false true p q z =
        (ltb-true from l.ap_count (not-false (ltb from l.ap_count) (or_left (not (ltb from l.ap_count)) (eqb from l.number) p)), eqb-true (read_of s).answer 0 q)
    go false false p q z = not_both z q

-- the record after outside bytes, refused or not
lone_record : (l : LoneAccessPoint) (from : ℕ) (s b : List ℕ) → (outside l from s b).lone ≡ cond (accepts (first_of (outside_tests l from s b))) (with_point (action_on l from s).point l) l
unfolding outside
lone_record l from s b = go (accepts (first_of (outside_tests l from s b)))
  where
    go : (q : Bool) → (cond {A = LoneAnswer} q (record { answer = 0; lone = with_point (action_on l from s).point l; len = length (written_all (action_on l from s).sends); buffer = written_all (action_on l from s).sends ++ drop (length (written_all (action_on l from s).sends)) b }) (record { answer = first_of (outside_tests l from s b); lone = l; len = 0; buffer = b })).lone
        ≡ cond q (with_point (action_on l from s).point l) l
    go true = refl
    go false = refl

-- a lone AP's record that its types allow and that passes the tests
abbrev pub LoneOk : LoneAccessPoint → Type 0
LoneOk l = PointTyped l.point × (valid_lone l ≡ true)

lone_acts : (l : LoneAccessPoint) (from : ℕ) (s : List ℕ) → LoneOk l → from < l.ap_count → (read_of s).answer ≡ 0 → All Octet s → LoneOk (with_point (action_on l from s).point l)
unfolding valid_lone with_point action_on
lone_acts l from s h k r o =
    let setup = valid_setup l.ap_count l.timeout l.resend_limit in
    let number = ltb l.number l.ap_count in
    let point = valid_point l.ap_count l.point in
    let e₁ = and_right setup (number && point) h.1 in
    let i = (receive_in (point_in l.ap_count l.point h.0 (and_right number point e₁)) from _ k (packet_in_lem s o r)).point in
    (point_typed _ i, and_true setup _ (and_left setup (number && point) h.1) (and_true number _ (and_left number point e₁) (point_passes l.ap_count _ i)))

-- outside bytes, any at all and from anyone, keep a record to which 14 does not apply so
pub lone_kept : (l : LoneAccessPoint) → PointTyped l.point → valid_lone l ≡ true → (from : ℕ) (s b : List ℕ) → All Octet s → LoneOk (outside l from s b).lone
lone_kept l h v from s b o =
    rw (lone_record l from s b)
    (by_cond LoneOk (accepts (first_of (outside_tests l from s b))) (λ e. let k = lone_passed l from s b v e in lone_acts l from s (h, v) k.0 k.1 o) (λ e. (h, v)))
