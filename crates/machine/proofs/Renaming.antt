-- The machine commutes with a renaming of moves (h) and with a change of contexts to others of equal length (g): no rule reads a
-- move's name, and no decision a context.
-- Assumes nothing.
use Prim.Native.Nat.{ℕ, zero, suc, ◌+◌, ◌%◌, ◌^◌}
use mathlib.Core.Bool.{Bool, true, false, cond, ◌&&◌}
use mathlib.Core.Path.{◌≡◌, refl, sym, ap, ◌∙◌}
use mathlib.Core.List.{List, [], ◌∷◌, ◌++◌, map}
use Rattle.std.specs.Prelude.{Option, None, Some, is_some}
use lib.Dec.{eqb, ltb}
use lib.ListN.{length, set, take, length-map, get_or-map}
use Rattle.lists.specs.Table.{accepts}
use Rattle.lists.specs.Options.{case_option}
use Rattle.lists.specs.Places.{nth, without, All, nil, cons}
use Rattle.lists.proofs.Every.{all_map, all_nth}
use Rattle.sequence.specs.Distance.{newer_of}
use Rattle.structs.specs.declared.Association.{Association}
use Rattle.structs.specs.declared.InFlight.{InFlight}
use Rattle.machine.specs.Stations.{Station, same}
use Rattle.machine.specs.Associations.{Context, given, association, sequence_of, held_context, context_octets, associate, dissociate, dissociate_older, dissociate_exactly, fill}
use Rattle.machine.specs.Packets.{Message, add_notify, move_notify, successful, stale_move, Packet, Outgoing, carried, packet_in, octets_in}
use Rattle.machine.specs.Moves.{Open, Happened, nothing, Counts, counted, counts_after, new_move, opening, notice_of, notices_of, agrees, earliest, close, answering, timed, Fate, waits, again, lapses, fate, kept_from, kept, resent_by, resends, lapsed_by, lapsed, ticking}
use Rattle.machine.specs.AccessPoint.{AccessPoint, new_point, Action, with_associations, with_moves, use_identifier, quietly, Origin, another, this, nowhere, origin_of, joined, add_notifies, join_from, leave_by, tick_by, answer_to, answering_with, receive_add, receive_notify, receive_response, receive_by, receive}
use Rattle.machine.specs.Network.{Network, access_point_at, set_point, set_in_flight, send, send_all}
use Rattle.machine.specs.Events.{Event, join, leave, deliver, repeat, lose, tick, who, Formed, unknown_point, unknown_packet, event_tests, refusal, Outcome, quiet, act, receive_frame, receive_at, holds, held_by, accepted, step}
use Rattle.machine.proofs.Wire.{Sendable}
use Rattle.machine.proofs.Limits.{InFlightIn, ActionIn, Valid, sendable, opened_in}
use Rattle.machine.proofs.PointLimits.{leave_in, tick_in, receive_in}
use Rattle.machine.proofs.Valid.{join_passed, join_in, valid_dropped}
use Rattle.machine.proofs.ChangedOctets.{changed_array, empty, map_message, map_packet, map_outgoing, map_in_flight, opened_map, carried_map, array_octets, array_padded}

-- choices through a function

cond_by : {A B : Type 0} (F : A → B) (b : Bool) {b' : Bool} {x y : A} {x' y' : B} → b' ≡ b → x' ≡ F x → y' ≡ F y → cond b' x' y' ≡ F (cond b x y)
cond_by F b {b'} {x} {y} {x'} {y'} e p q = ap (λ (c : Bool). cond c x' y') e ∙ go b
  where
    go : (b : Bool) → cond b x' y' ≡ F (cond b x y)
    go true = p
    go false = q

-- an option of which the value is changed by G
case_by :
    {A B C : Type 0} (F : B → C) (G : A → A) (o : Option A) {o' : Option A} {x : B} {k : A → B} {x' : C} (k' : A → C)
    → o' ≡ case_option o None (λ a. Some (G a)) → x' ≡ F x → ((a : A) → o ≡ Some a → k' (G a) ≡ F (k a)) → case_option o' x' k' ≡ F (case_option o x k)
case_by F G o {o'} {x} {k} {x'} k' e p q = ap (λ (z : Option _). case_option z x' k') e ∙ go o refl
  where
    go : (z : Option _) → o ≡ z → case_option (case_option z None (λ a. Some (G a))) x' k' ≡ F (case_option z x k)
    go None d = p
    go (Some a) d = q a d

-- an option that stays
case_same :
    {A B C : Type 0} (F : B → C) (o : Option A) {o' : Option A} {x : B} {k : A → B} {x' : C} {k' : A → C}
    → o' ≡ o → x' ≡ F x → ((a : A) → k' a ≡ F (k a)) → case_option o' x' k' ≡ F (case_option o x k)
case_same F o {o'} {x} {k} {x'} {k'} e p q = ap (λ (z : Option _). case_option z x' k') e ∙ go o
  where
    go : (o : Option _) → case_option o x' k' ≡ F (case_option o x k)
    go None = p
    go (Some a) = q a

map_append : {A B : Type 0} (F : A → B) (xs ys : List A) → map F (xs ++ ys) ≡ map F xs ++ map F ys
map_append F [] ys = refl
map_append F (x ∷ xs) ys = ap (◌∷◌ (F x)) (map_append F xs ys)

map_set : {A B : Type 0} (F : A → B) (xs : List A) (i : ℕ) (x : A) → set (map F xs) i (F x) ≡ map F (set xs i x)
map_set F [] i x = refl
map_set F (y ∷ ys) zero x = refl
map_set F (y ∷ ys) (suc i) x = ap (◌∷◌ (F y)) (map_set F ys i x)

nth_map : {A : Type 0} (F : A → A) (k : ℕ) (xs : List A) → nth k (map F xs) ≡ case_option (nth k xs) None (λ x. Some (F x))
unfolding nth
nth_map F k [] = refl
nth_map F zero (x ∷ xs) = refl
nth_map F (suc k) (x ∷ xs) = nth_map F k xs

without_map : {A : Type 0} (F : A → A) (k : ℕ) (xs : List A) → without k (map F xs) ≡ map F (without k xs)
unfolding without
without_map F k [] = refl
without_map F zero (x ∷ xs) = refl
without_map F (suc k) (x ∷ xs) = ap (◌∷◌ (F x)) (without_map F k xs)

module _ (h : ℕ → ℕ) (g : List ℕ → List ℕ) where
  unfoldable pub map_association : Association → Association
  map_association r = record { station = r.station; sequence = r.sequence; context_len = r.context_len; context = changed_array g r.context_len r.context }

  unfoldable map_context : Context → Context
  map_context c = record { len = c.len; octets = changed_array g c.len c.octets }

  abbrev pub map_open : Open → Open
  map_open m = record { move = m.move; name = h m.name }

  unfoldable map_fate : Fate → Fate
  map_fate (waits m) = waits (map_open m)
  map_fate (again m) = again (map_open m)
  map_fate lapses = lapses

  unfoldable pub map_happened : Happened → Happened
  map_happened x = record { opened = map map_open x.opened; resent = map map_open x.resent; answered = map map_open x.answered; given_up = map map_open x.given_up }

  abbrev pub map_point : AccessPoint → AccessPoint
  map_point a = record { associations = map map_association a.associations; moves = map map_open a.moves; next_identifier = a.next_identifier; counts = a.counts }

  unfoldable pub map_action : Action → Action
  map_action x = record { point = map_point x.point; sends = map (map_outgoing g) x.sends; happened = map_happened x.happened }

  unfoldable pub map_network : Network → Network
  map_network f = record { points = map map_point f.points; in_flight = map (map_in_flight g) f.in_flight; timeout = f.timeout; resend_limit = f.resend_limit }

  unfoldable pub map_event : Event → Event
  map_event (join b s n old c) = join b s n old (g c)
  map_event (leave b s) = leave b s
  map_event (deliver k) = deliver k
  map_event (repeat k) = repeat k
  map_event (lose k) = lose k
  map_event (tick b) = tick b
  map_event (who s) = who s

  unfoldable pub map_outcome : Outcome → Outcome
  map_outcome o =
      record { answer = o.answer; sent = o.sent; at = o.at; happened = map_happened o.happened; held = o.held; tables = o.tables; network = map_network o.network }

  module _ (long : (c : List ℕ) → length (g c) ≡ length c) where
    -- associations

    sequence_map : (s : Station) (rs : List Association) → sequence_of s (map map_association rs) ≡ sequence_of s rs
    unfolding sequence_of map_association
    sequence_map s [] = refl
    sequence_map s (r ∷ rs) = ap (cond (same s r.station) (Some r.sequence)) (sequence_map s rs)

    given_map : (c : List ℕ) → given (g c) ≡ map_context (given c)
    unfolding given map_context
    given_map c = (λ k. record { len = long c k; octets = sym (array_padded g long 64 c) k })

    held_map : (s : Station) (rs : List Association) → held_context s (map map_association rs) ≡ map_context (held_context s rs)
    unfolding held_context map_association
    held_map s [] = ap given (sym (empty g long)) ∙ given_map []
    held_map s (r ∷ rs) = cond_by map_context (same s r.station) refl (unfold map_context in refl) (held_map s rs)

    context_map : (s : Station) (rs : List Association) → context_octets s (map map_association rs) ≡ g (context_octets s rs)
    unfolding context_octets
    context_map s rs = ap (λ (c : Context). take c.len c.octets) (held_map s rs) ∙ (unfold map_context in array_octets g long (held_context s rs).len (held_context s rs).octets)

    associate_map : (x : Association) (rs : List Association) → associate (map_association x) (map map_association rs) ≡ map map_association (associate x rs)
    unfolding associate map_association
    associate_map x [] = refl
    associate_map x (r ∷ rs) = cond_by (map map_association) (same x.station r.station) refl refl (ap (◌∷◌ (map_association r)) (associate_map x rs))

    dissociate_map : (s : Station) (rs : List Association) → dissociate s (map map_association rs) ≡ map map_association (dissociate s rs)
    unfolding dissociate map_association
    dissociate_map s [] = refl
    dissociate_map s (r ∷ rs) = cond_by (map map_association) (same s r.station) refl (dissociate_map s rs) (ap (◌∷◌ (map_association r)) (dissociate_map s rs))

    older_map : (s : Station) (n : ℕ) (rs : List Association) → dissociate_older s n (map map_association rs) ≡ map map_association (dissociate_older s n rs)
    unfolding dissociate_older
    older_map s n rs = case_same (map map_association) (sequence_of s rs) (sequence_map s rs) refl (λ m. cond_by (map map_association) (newer_of n m) refl (dissociate_map s rs) refl)

    exactly_map : (s : Station) (n : ℕ) (rs : List Association) → dissociate_exactly s n (map map_association rs) ≡ map map_association (dissociate_exactly s n rs)
    unfolding dissociate_exactly
    exactly_map s n rs = case_same (map map_association) (sequence_of s rs) (sequence_map s rs) refl (λ m. cond_by (map map_association) (eqb n m) refl (dissociate_map s rs) refl)

    association_map : (s : Station) (n : ℕ) (c : Context) → association s n (map_context c) ≡ map_association (association s n c)
    unfolding association map_context map_association
    association_map s n c = refl

    filled_map : (s : Station) (n : ℕ) (c : List ℕ) (r : Association)
        → cond (same s (map_association r).station && eqb n (map_association r).sequence) (association (map_association r).station (map_association r).sequence (given (g c))) (map_association r)
        ≡ map_association (cond (same s r.station && eqb n r.sequence) (association r.station r.sequence (given c)) r)
    unfolding map_association
    filled_map s n c r =
        cond_by map_association (same s r.station && eqb n r.sequence) refl (ap (association r.station r.sequence) (given_map c) ∙ association_map r.station r.sequence (given c)) refl

    fill_map : (s : Station) (n : ℕ) (c : List ℕ) (rs : List Association) → fill s n (g c) (map map_association rs) ≡ map map_association (fill s n c rs)
    unfolding fill
    fill_map s n c [] = refl
    fill_map s n c (r ∷ rs) = rw (filled_map s n c r, fill_map s n c rs)

    -- moves

    agrees_map : (from : ℕ) (p : Packet) (m : Open) → agrees from (map_packet g p) (map_open m).move ≡ agrees from p m.move
    unfolding agrees
    agrees_map from p m = refl

    earliest_map : (from : ℕ) (p : Packet) (ms : List Open) → earliest from (map_packet g p) (map map_open ms) ≡ case_option (earliest from p ms) None (λ m. Some (map_open m))
    unfolding earliest
    earliest_map from p [] = refl
    earliest_map from p (m ∷ ms) = cond_by (λ (o : Option Open). case_option o None (λ m. Some (map_open m))) (agrees from p m.move) (agrees_map from p m) refl (earliest_map from p ms)

    close_map : (from : ℕ) (p : Packet) (ms : List Open) → close from (map_packet g p) (map map_open ms) ≡ map map_open (close from p ms)
    unfolding close
    close_map from p [] = refl
    close_map from p (m ∷ ms) = cond_by (map map_open) (agrees from p m.move) (agrees_map from p m) refl (ap (◌∷◌ (map_open m)) (close_map from p ms))

    fate_map : (t : ℕ) (m : Open) → fate t (map_open m) ≡ map_fate (fate t m)
    unfolding fate timed map_fate
    fate_map t m = cond_by map_fate (ltb 1 m.move.ticks_left) refl refl (cond_by map_fate (ltb 0 m.move.resends_left) refl refl refl)

    kept_by_map : (x : Fate) (ms : List Open) → kept_from (map_fate x) (map map_open ms) ≡ map map_open (kept_from x ms)
    unfolding kept_from map_fate
    kept_by_map (waits m) ms = refl
    kept_by_map (again m) ms = refl
    kept_by_map lapses ms = refl

    resent_by_map : (x : Fate) (ms : List Open) → resent_by (map_fate x) (map map_open ms) ≡ map map_open (resent_by x ms)
    unfolding resent_by map_fate
    resent_by_map (waits m) ms = refl
    resent_by_map (again m) ms = refl
    resent_by_map lapses ms = refl

    lapsed_by_map : (x : Fate) (m : Open) (ms : List Open) → lapsed_by (map_fate x) (map_open m) (map map_open ms) ≡ map map_open (lapsed_by x m ms)
    unfolding lapsed_by map_fate
    lapsed_by_map (waits y) m ms = refl
    lapsed_by_map (again y) m ms = refl
    lapsed_by_map lapses m ms = refl

    kept_map : (t : ℕ) (ms : List Open) → kept t (map map_open ms) ≡ map map_open (kept t ms)
    unfolding kept
    kept_map t [] = refl
    kept_map t (m ∷ ms) = rw (fate_map t m, kept_map t ms) (kept_by_map (fate t m) (kept t ms))

    resends_map : (t : ℕ) (ms : List Open) → resends t (map map_open ms) ≡ map map_open (resends t ms)
    unfolding resends
    resends_map t [] = refl
    resends_map t (m ∷ ms) = rw (fate_map t m, resends_map t ms) (resent_by_map (fate t m) (resends t ms))

    lapsed_map : (t : ℕ) (ms : List Open) → lapsed t (map map_open ms) ≡ map map_open (lapsed t ms)
    unfolding lapsed
    lapsed_map t [] = refl
    lapsed_map t (m ∷ ms) = rw (fate_map t m, lapsed_map t ms) (lapsed_by_map (fate t m) m (lapsed t ms))

    ticking_map : (t : ℕ) (ms : List Open) → ticking t (map map_open ms) ≡ map_happened (ticking t ms)
    unfolding ticking map_happened
    ticking_map t ms = rw (resends_map t ms, lapsed_map t ms)

    notice_map : (m : Open) → notice_of (map_open m) ≡ map_outgoing g (notice_of m)
    unfolding notice_of map_outgoing map_message
    notice_map m = refl

    notices_map : (ms : List Open) → notices_of (map map_open ms) ≡ map (map_outgoing g) (notices_of ms)
    unfolding notices_of
    notices_map [] = refl
    notices_map (m ∷ ms) = rw (notice_map m, notices_map ms)

    counted_map : (c : ℕ) (ms : List Open) → counted c (map map_open ms) ≡ counted c ms
    unfolding counted
    counted_map c [] = refl
    counted_map c (m ∷ ms) = counted_map ((c + 1) % 2 ^ 32) ms

    counts_map : (x : Happened) (c : Counts) → counts_after (map_happened x) c ≡ counts_after x c
    unfolding counts_after map_happened
    counts_map x c =
        rw (counted_map c.opened x.opened, counted_map c.resent x.resent, counted_map c.answered x.answered, counted_map c.given_up x.given_up)

    -- an access point's rules

    rows_map : (rs : List Association) {rs' : List Association} (a : AccessPoint) → rs' ≡ map map_association rs → with_associations rs' (map_point a) ≡ map_point (with_associations rs a)
    unfolding with_associations
    rows_map rs a e = ap (λ (l : List Association). record { associations = l; moves = map map_open a.moves; next_identifier = a.next_identifier; counts = a.counts }) e

    moves_map : (ms : List Open) {ms' : List Open} (x : Happened) {x' : Happened} (a : AccessPoint) → ms' ≡ map map_open ms → x' ≡ map_happened x → with_moves ms' x' (map_point a) ≡ map_point (with_moves ms x a)
    unfolding with_moves
    moves_map ms x a e d = rw (e, d, counts_map x a.counts)

    use_map : (a : AccessPoint) → use_identifier (map_point a) ≡ map_point (use_identifier a)
    unfolding use_identifier
    use_map a = refl

    quietly_map : (a : AccessPoint) {a' : AccessPoint} → a' ≡ map_point a → quietly a' ≡ map_action (quietly a)
    unfolding quietly map_action nothing map_happened
    quietly_map a e = ap (λ (b : AccessPoint). record { point = b; sends = []; happened = nothing }) e

    answer_map : (from : ℕ) (p : Packet) (x : Message) (a : AccessPoint) {a' : AccessPoint} → a' ≡ map_point a → answering_with from (map_packet g p) (map_message g x) a' ≡ map_action (answering_with from p x a)
    unfolding answering_with answer_to map_action nothing map_happened map_outgoing
    answer_map from p x a e =
        ap (λ (b : AccessPoint). record { point = b; sends = record { to = from; packet = record { identifier = p.identifier; station = p.station; sequence = p.sequence; message = map_message g x } } ∷ []; happened = nothing }) e

    closed_map : (from : ℕ) (p : Packet) (m : Open) (rs : List Association) {rs' : List Association} (a : AccessPoint) → rs' ≡ map map_association rs
        → record { point = with_moves (close from (map_packet g p) (map_point a).moves) (answering (map_open m)) (with_associations rs' (map_point a)); sends = []; happened = answering (map_open m) }
        ≡ map_action (record { point = with_moves (close from p a.moves) (answering m) (with_associations rs a); sends = []; happened = answering m })
    unfolding map_action
    closed_map from p m rs a e =
        rw (rows_map rs a e)
        (λ k. record { point = moved k; sends = []; happened = same_happened k })
      where
        same_happened : answering (map_open m) ≡ map_happened (answering m)
        same_happened = unfold answering map_happened in refl

        moved : with_moves (close from (map_packet g p) (map_point a).moves) (answering (map_open m)) (map_point (with_associations rs a)) ≡ map_point (with_moves (close from p a.moves) (answering m) (with_associations rs a))
        moved = moves_map (close from p a.moves) (answering m) (with_associations rs a) (close_map from p a.moves) same_happened

    response_map : (from : ℕ) (p : Packet) (rs : List Association) {rs' : List Association} (a : AccessPoint) → rs' ≡ map map_association rs → receive_response from (map_packet g p) rs' (map_point a) ≡ map_action (receive_response from p rs a)
    unfolding receive_response
    response_map from p rs a e =
        case_by map_action map_open (earliest from p a.moves) _ (earliest_map from p a.moves) (quietly_map a refl) (λ m d. closed_map from p m rs a e)

    notify_map : (from : ℕ) (p : Packet) (a : AccessPoint) → receive_notify from (map_packet g p) (map_point a) ≡ map_action (receive_notify from p a)
    unfolding receive_notify
    notify_map from p a =
        case_same map_action (sequence_of p.station a.associations) (sequence_map p.station a.associations)
        (ap (λ (c : List ℕ). answering_with from (map_packet g p) (successful c) (map_point a)) (sym (empty g long)) ∙ (unfold map_message in answer_map from p (successful []) a refl))
        (λ m. cond_by map_action (newer_of p.sequence m) refl
        (rw (context_map p.station a.associations, rows_map (dissociate p.station a.associations) a (dissociate_map p.station a.associations))
        (unfold map_message in answer_map from p (successful (context_octets p.station a.associations)) (with_associations (dissociate p.station a.associations) a) refl))
        (unfold map_message in answer_map from p stale_move a refl))

    receive_by_map : (x : Message) (from : ℕ) (p : Packet) (a : AccessPoint) → receive_by (map_message g x) from (map_packet g p) (map_point a) ≡ map_action (receive_by x from p a)
    unfolding receive_by receive_add map_message
    receive_by_map add_notify from p a = quietly_map _ (rows_map _ a (older_map p.station p.sequence a.associations))
    receive_by_map move_notify from p a = notify_map from p a
    receive_by_map (successful c) from p a = response_map from p _ a (fill_map p.station p.sequence c a.associations)
    receive_by_map stale_move from p a = response_map from p _ a (exactly_map p.station p.sequence a.associations)

    receive_map : (from : ℕ) (p : Packet) (a : AccessPoint) → receive from (map_packet g p) (map_point a) ≡ map_action (receive from p a)
    unfolding receive
    receive_map from p a = receive_by_map p.message from p a

    leave_map : (s : Station) (a : AccessPoint) → leave_by s (map_point a) ≡ map_action (leave_by s a)
    unfolding leave_by
    leave_map s a = quietly_map _ (rows_map _ a (dissociate_map s a.associations))

    tick_map : (t : ℕ) (a : AccessPoint) → tick_by t (map_point a) ≡ map_action (tick_by t a)
    unfolding tick_by map_action
    tick_map t a =
        (λ k.
        record {
          point = moves_map (kept t a.moves) (ticking t a.moves) a (kept_map t a.moves) (ticking_map t a.moves) k;
          sends = (ap notices_of (resends_map t a.moves) ∙ notices_map (resends t a.moves)) k;
          happened = ticking_map t a.moves k;
        })

    joined_map : (s : Station) (n : ℕ) (c : Context) {c' : Context} (a : AccessPoint) → c' ≡ map_context c → joined s n c' (map_point a) ≡ map_point (joined s n c a)
    unfolding joined
    joined_map s n c a e = rows_map _ a (ap (λ (x : Context). associate (association s n x) (map map_association a.associations)) e ∙ ap (λ (x : Association). associate x (map map_association a.associations)) (association_map s n c) ∙ associate_map (association s n c) a.associations)

    adds_map : (b : ℕ) (p : Packet) (i k : ℕ) → map_packet g p ≡ p → add_notifies b p i k ≡ map (map_outgoing g) (add_notifies b p i k)
    unfolding add_notifies map_outgoing
    adds_map b p i zero e = refl
    adds_map b p i (suc k) e =
        cond_by (map (map_outgoing g)) (eqb i b) refl (adds_map b p (suc i) k e)
        (λ j. record { to = i; packet = sym e j } ∷ adds_map b p (suc i) k e j)

    join_map : (x : Origin) (k t r name b : ℕ) (s : Station) (n : ℕ) (c : List ℕ) (a : AccessPoint) → join_from x k t r (h name) b s n (g c) (map_point a) ≡ map_action (join_from x k t r name b s n c a)
    unfolding join_from map_action new_move opening nothing map_happened
    join_map (another o) k t r name b s n c a =
        let m = new_move name s n o a.next_identifier t r in
        (λ j.
        record {
          point =
              (ap (λ (q : AccessPoint). with_moves (map map_open a.moves ++ (map_open m ∷ [])) (opening (map_open m)) q)
              (ap use_identifier (joined_map s n (held_context s a.associations) a (held_map s a.associations)) ∙ use_map (joined s n (held_context s a.associations) a))
              ∙ moves_map (a.moves ++ (m ∷ [])) (opening m) (use_identifier (joined s n (held_context s a.associations) a)) (sym (map_append map_open a.moves (m ∷ []))) refl) j;
          sends = notice_map m j ∷ [];
          happened = opening (map_open m);
        })
    join_map this k t r name b s n c a = quietly_map _ (joined_map s n (held_context s a.associations) a (held_map s a.associations))
    join_map nowhere k t r name b s n c a =
        (λ j.
        record {
          point = (ap use_identifier (joined_map s n (given c) a (given_map c)) ∙ use_map (joined s n (given c) a)) j;
          sends = adds_map b (record { identifier = a.next_identifier; station = s; sequence = n; message = add_notify }) 0 k (unfold map_message in refl) j;
          happened = nothing;
        })

    -- the network

    point_map : (f : Network) (b : ℕ) → access_point_at (map_network f) b ≡ map_point (access_point_at f b)
    unfolding access_point_at map_network new_point
    point_map f b = get_or-map map_point f.points b new_point

    set_map : (b : ℕ) (a : AccessPoint) (f : Network) → set_point b (map_point a) (map_network f) ≡ map_network (set_point b a f)
    unfolding set_point map_network
    set_map b a f = ap (λ (l : List AccessPoint). record { points = l; in_flight = map (map_in_flight g) f.in_flight; timeout = f.timeout; resend_limit = f.resend_limit }) (map_set map_point f.points b a)

    size_map : (f : Network) → length (map_network f).points ≡ length f.points
    unfolding map_network
    size_map f = length-map f.points map_point

    air_map : (f : Network) → length (map_network f).in_flight ≡ length f.in_flight
    unfolding map_network
    air_map f = length-map f.in_flight (map_in_flight g)

    send_map : (from : ℕ) (x : Outgoing) (f : Network) → Sendable x.packet → send from (map_outgoing g x) (map_network f) ≡ map_network (send from x f)
    unfolding send set_in_flight
    send_map from x f s =
        cond_by map_network (ltb (length f.in_flight) 64) (ap (λ (n : ℕ). ltb n 64) (air_map f))
        (unfold map_network in
        ap (λ (l : List InFlight). record { points = map map_point f.points; in_flight = l; timeout = f.timeout; resend_limit = f.resend_limit })
        (ap (λ (w : InFlight). map (map_in_flight g) f.in_flight ++ (w ∷ [])) (sym (carried_map g long from x s)) ∙ sym (map_append (map_in_flight g) f.in_flight (carried from x ∷ [])))) refl

    send_all_map : (from : ℕ) (xs : List Outgoing) (f : Network) → All (λ (x : Outgoing). Sendable x.packet) xs → send_all from (map (map_outgoing g) xs) (map_network f) ≡ map_network (send_all from xs f)
    unfolding send_all
    send_all_map from [] f nil = refl
    send_all_map from (x ∷ xs) f (cons s ss) = ap (send_all from (map (map_outgoing g) xs)) (send_map from x f s) ∙ send_all_map from xs (send from x f) ss

    quiet_map : (a : ℕ) (f : Network) {f' : Network} → f' ≡ map_network f → quiet a f' ≡ map_outcome (quiet a f)
    unfolding quiet map_outcome nothing map_happened
    quiet_map a f e = ap (λ (x : Network). record { answer = a; sent = 0; at = 0; happened = nothing; held = 0; tables = 0; network = x }) e

    act_map : (b : ℕ) (x : Action) {x' : Action} (f : Network) → x' ≡ map_action x → All (λ (y : Outgoing). Sendable y.packet) x.sends → act b x' (map_network f) ≡ map_outcome (act b x f)
    unfolding act map_outcome
    act_map b x f e s =
        rw e
        (λ k.
        record {
          answer = 0;
          sent = sent k;
          at = b;
          happened = happened k;
          held = 0;
          tables = 0;
          network = network k;
        })
      where
        sent : length (map_action x).sends ≡ length x.sends
        sent = unfold map_action in length-map x.sends (map_outgoing g)

        happened : (map_action x).happened ≡ map_happened x.happened
        happened = unfold map_action in refl

        network : send_all b (map_action x).sends (set_point b (map_action x).point (map_network f)) ≡ map_network (send_all b x.sends (set_point b x.point f))
        network = unfold map_action in (ap (send_all b (map (map_outgoing g) x.sends)) (set_map b x.point f) ∙ send_all_map b x.sends (set_point b x.point f) s)

    -- HELD and TABLES

    holds_map : (s : Station) (a : AccessPoint) → holds s (map_point a) ≡ holds s a
    unfolding holds
    holds_map s a = ap is_some (sequence_map s a.associations)

    held_by_map : (s : Station) (points : List AccessPoint) → held_by s (map map_point points) ≡ held_by s points
    unfolding held_by
    held_by_map s [] = refl
    held_by_map s (a ∷ more) = rw (holds_map s a, held_by_map s more)

    -- refusals

    row_map : (s : Station) (f : Network) (b : ℕ) → sequence_of s (access_point_at (map_network f) b).associations ≡ sequence_of s (access_point_at f b).associations
    row_map s f b = ap (λ (a : AccessPoint). sequence_of s a.associations) (point_map f b) ∙ sequence_map s (access_point_at f b).associations

    rows_length : (f : Network) (b : ℕ) → length (access_point_at (map_network f) b).associations ≡ length (access_point_at f b).associations
    rows_length f b = ap (λ (a : AccessPoint). length a.associations) (point_map f b) ∙ length-map (access_point_at f b).associations map_association

    moves_length : (f : Network) (b : ℕ) → length (access_point_at (map_network f) b).moves ≡ length (access_point_at f b).moves
    moves_length f b = ap (λ (a : AccessPoint). length a.moves) (point_map f b) ∙ length-map (access_point_at f b).moves map_open

    refusal_map : (f : Network) (e : Event) → refusal (map_network f) (map_event e) ≡ refusal f e
    unfolding refusal event_tests unknown_point unknown_packet map_event
    refusal_map f (join b s n old c) = simp (size_map, row_map, long, rows_length, moves_length)
    refusal_map f (leave b s) = simp size_map
    refusal_map f (deliver k) = simp air_map
    refusal_map f (repeat k) = simp air_map
    refusal_map f (lose k) = simp air_map
    refusal_map f (tick b) = simp size_map
    refusal_map f (who s) = refl

    -- events

    drop_map : (k : ℕ) (f : Network) → set_in_flight (without k (map_network f).in_flight) (map_network f) ≡ map_network (set_in_flight (without k f.in_flight) f)
    unfolding set_in_flight map_network
    drop_map k f = rw (without_map (map_in_flight g) k f.in_flight)

    module _ {C : Type 0} {n : ℕ} where
      -- what an access point within the limits sends can be written
      sendable_all : (x : Action) → ActionIn C n x → All (λ (y : Outgoing). Sendable y.packet) x.sends
      sendable_all x h = all_map (λ y k. sendable y.packet k.packet) h.sends

      frame_map : (w : InFlight) (f : Network) → InFlightIn C n w → Valid C n f → receive_frame (map_in_flight g w) (map_network f) ≡ map_outcome (receive_frame w f)
      unfolding receive_frame
      frame_map w f i v =
          case_by map_outcome (map_packet g) (packet_in (octets_in w)) _ (opened_map g long w) (quiet_map 0 f refl)
          (λ p d. unfold map_in_flight in
          act_map w.to (receive w.from p (access_point_at f w.to)) f (ap (receive w.from (map_packet g p)) (point_map f w.to) ∙ receive_map w.from p (access_point_at f w.to))
          (sendable_all _ (receive_in (v.points w.to) w.from p i.from (opened_in w p i d))))

      receive_at_map : (k : ℕ) (ws : List InFlight) (f : Network) → All (InFlightIn C n) ws → Valid C n f → receive_at k (map (map_in_flight g) ws) (map_network f) ≡ map_outcome (receive_at k ws f)
      unfolding receive_at
      receive_at_map k ws f i v =
          case_by map_outcome (map_in_flight g) (nth k ws) _ (nth_map (map_in_flight g) k ws) (quiet_map 0 f refl) (λ w d. frame_map w f (all_nth k ws w d i) v)

      accepted_map : (f : Network) (name : ℕ) (e : Event) → Valid C n f → Formed e → accepts (refusal f e) ≡ true → accepted (map_network f) (h name) (map_event e) ≡ map_outcome (accepted f name e)
      unfolding accepted map_event
      accepted_map f name (join b s q old c) v z r =
          act_map b _ f
          (rw (size_map f) (unfold map_network in ap (join_from (origin_of (length f.points) b old) (length f.points) f.timeout f.resend_limit (h name) b s q (g c)) (point_map f b))
          ∙ join_map (origin_of (length f.points) b old) (length f.points) f.timeout f.resend_limit name b s q c (access_point_at f b))
          (sendable_all _ (join_in v name b s q old c z.0 z.1 (join_passed f b s q old c r)))
      accepted_map f name (leave b s) v z r = act_map b _ f (ap (leave_by s) (point_map f b) ∙ leave_map s (access_point_at f b)) (sendable_all _ (leave_in (v.points b) s))
      accepted_map f name (deliver k) v z r =
          ap (receive_at k (map_network f).in_flight) (drop_map k f)
          ∙ (unfold map_network in receive_at_map k f.in_flight (set_in_flight (without k f.in_flight) f) v.air (valid_dropped v k))
      accepted_map f name (repeat k) v z r = unfold map_network in receive_at_map k f.in_flight f v.air v
      accepted_map f name (lose k) v z r = quiet_map 0 _ (drop_map k f)
      accepted_map f name (tick b) v z r =
          act_map b _ f (unfold map_network in (ap (tick_by f.timeout) (point_map f b) ∙ tick_map f.timeout (access_point_at f b))) (sendable_all _ (tick_in (v.points b) f.timeout v.timeout.0 v.timeout.1))
      accepted_map f name (who s) v z r = unfold map_outcome nothing map_happened in rw (size_map f) (unfold map_network in rw (held_by_map s f.points))

      pub step_map : (f : Network) (name : ℕ) (e : Event) → Valid C n f → Formed e → step (map_network f) (h name) (map_event e) ≡ map_outcome (step f name e)
      unfolding step
      step_map f name e v z =
          go (accepts (refusal f e)) refl
        where
          go : (b : Bool) → accepts (refusal f e) ≡ b
              → cond (accepts (refusal (map_network f) (map_event e))) (accepted (map_network f) (h name) (map_event e)) (quiet (refusal (map_network f) (map_event e)) (map_network f))
              ≡ map_outcome (cond b (accepted f name e) (quiet (refusal f e) f))
          go true q = rw (refusal_map f e, q) (accepted_map f name e v z q)
          go false q = rw (refusal_map f e, q) (quiet_map (refusal f e) f refl)
