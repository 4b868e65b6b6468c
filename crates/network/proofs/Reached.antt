-- What is reached from a new network: the record never gets 14, and holds the machine's network over blanks; each event answers
-- what the machine does. So the claim stands of every list.
-- Assumes nothing.
use Prim.Native.Nat.{ℕ, zero, suc, ◌≤◌}
use mathlib.Core.Bool.{Bool, true, cond}
use mathlib.Core.Path.{◌≡◌, refl, sym, ap, ◌∙◌}
use mathlib.Core.List.{List, [], ◌∷◌, map, reverse, reverse_aux}
use native.Mathlib.Omega.{arith}
use lib.ListN.{length, replicate, length-map, length-replicate}
use Rattle.lists.specs.Places.{All, nil, cons}
use Rattle.lists.proofs.Every.{all_map}
use Rattle.machine.specs.AccessPoint as machine
use Rattle.machine.specs.Network as floor
use Rattle.machine.specs.Events.{Event, Formed, Outcome, given_up_count, step}
use Rattle.machine.specs.Valid.{valid_setup}
use Rattle.machine.specs.History.{World, after, run, begin}
use Rattle.machine.specs.Joins.{answers_of}
use Rattle.machine.proofs.Limits.{Valid}
use Rattle.machine.proofs.Valid.{SetupIn, setup_in, valid_step, valid_begin, valid_after, valid_run}
use Rattle.machine.proofs.Refusal14.{points_all, valid_passes}
use Rattle.machine.proofs.Renaming.{map_open, map_happened}
use Rattle.machine.proofs.Runs.{nameless, rename_outcome, step_renamed}
use Rattle.machine.proofs.Claim.{claim}
use Rattle.slots.specs.Lists.{over}
use Rattle.record.specs.Lens.{put_point}
use Rattle.structs.specs.declared.Network.{Network}
use Rattle.network.specs.Lens.{put_points, get, put, new_point, new_network}
use Rattle.network.specs.Events.{valid_network_record, line_of, Reply, reply_of, refused, event_of, run_of, lines_of}
use Rattle.network.specs.Demand.{entry_line, entry_network, networks_of, answered_of, Demand}
use Rattle.network.proofs.LensLaws.{no_name, get_put, SmallNetwork, put_new, put_nameless}
use Rattle.network.proofs.Refusal14.{valid_put}

-- a network within the limits is within the sizes of the record

pub small : {C : Type 0} {n : ℕ} {f : floor.Network} → Valid C n f → SmallNetwork f
small {f = f} v = record { points = all_map (λ p h. record { associations = h.table; moves = h.few }) (points_all f v); air = v.full }

-- one event

line_renamed : (o : Outcome)
    → line_of (rename_outcome no_name o) ≡ record { answer = o.answer; sent = o.sent; given_up = length o.happened.given_up; held = o.held; tables = o.tables }
unfolding line_of rename_outcome given_up_count map_happened
line_renamed o = rw (length-map o.happened.given_up (map_open no_name (λ c. c)))

network_renamed : (w : Network) (o : Outcome) → put w (rename_outcome no_name o).network ≡ put w o.network
unfolding rename_outcome nameless
network_renamed w o = put_nameless w o.network

step_nameless : {C : Type 0} {n : ℕ} (f : floor.Network) (name : ℕ) (e : Event) → Valid C n f → Formed e → step (nameless f) 0 e ≡ rename_outcome no_name (step f name e)
unfolding nameless
step_nameless f name e v z = step_renamed no_name f name e v z

module _ (n t r : ℕ) (size : (1 ≤ n) × (n ≤ 8)) where
  fits : {C : Type 0} {f : floor.Network} → Valid C n f → length f.points ≤ length (new_network n t r).points
  unfolding new_network
  fits v = omega (arith, v.count, size.1)

  -- 14 does not apply to a record that holds a network within the limits
  pub never_14 : {C : Type 0} (f : floor.Network) → Valid C n f → valid_network_record (put (new_network n t r) f) ≡ true
  never_14 f v = valid_put (new_network n t r) f (fits v) ∙ valid_passes f size v

  -- the machine's answers, and its network over blanks
  pub same_event : {C : Type 0} (f : floor.Network) (name : ℕ) (e : Event) → Valid C n f → Formed e
      → event_of (put (new_network n t r) f) e
      ≡ record {
        line = record {
          answer = (step f name e).answer;
          sent = (step f name e).sent;
          given_up = length (step f name e).happened.given_up;
          held = (step f name e).held;
          tables = (step f name e).tables;
        };
        network = put (new_network n t r) (step f name e).network;
      }
  unfolding event_of reply_of
  same_event f name e v z =
      let w : Network = put (new_network n t r) f in
      let o : Outcome = step f name e in
      let u : Valid _ n o.network = valid_step v name e z in
      ap (λ (b : Bool). cond b (reply_of w (step (get w) 0 e)) (refused 14 w)) (never_14 f v)
      ∙ ap (λ (x : floor.Network). reply_of w (step x 0 e)) (get_put (new_network n t r) f (fits v))
      ∙ ap (reply_of w) (step_nameless f name e v z)
      ∙ (λ k. record {
        line = line_renamed o k;
        network = (network_renamed w o ∙ put_new n t r f o.network (v.count ∙ sym u.count) (small v) (small u)) k;
      })

  -- a list of events

  same_after : {C : Type 0} (w : World) (e : Event) → Valid C n w.network → Formed e
      → event_of (put (new_network n t r) w.network) e ≡ record { line = line_of (step w.network (length w.log) e); network = put (new_network n t r) (after w e).network }
  unfolding after line_of given_up_count
  same_after w e v z = same_event w.network (length w.log) e v z

  same_run : {C : Type 0} (w : World) (es : List Event) → Valid C n w.network → All Formed es
      → run_of (put (new_network n t r) w.network) es ≡ put (new_network n t r) (run w es).network
  unfolding run_of run
  same_run w [] v nil = refl
  same_run w (e ∷ es) v (cons z zs) =
      ap (λ (x : Reply). run_of x.network es) (same_after w e v z) ∙ same_run (after w e) es (valid_after w e z v) zs

  same_lines : {C : Type 0} (w : World) (es : List Event) → Valid C n w.network → All Formed es
      → reverse_aux (lines_of (put (new_network n t r) w.network) es) (map entry_line w.log) ≡ map entry_line (run w es).log
  unfolding lines_of run entry_line after
  same_lines w [] v nil = refl
  same_lines w (e ∷ es) v (cons z zs) =
      ap (λ (x : Reply). reverse_aux (lines_of x.network es) (x.line ∷ map entry_line w.log)) (same_after w e v z)
      ∙ same_lines (after w e) es (valid_after w e z v) zs

  same_floors : {C : Type 0} (w : World) (es : List Event) → Valid C n w.network → All Formed es
      → reverse_aux (networks_of (put (new_network n t r) w.network) es) (map (entry_network (new_network n t r)) w.log) ≡ map (entry_network (new_network n t r)) (run w es).log
  unfolding networks_of run entry_network after
  same_floors w [] v nil = refl
  same_floors w (e ∷ es) v (cons z zs) =
      ap (λ (x : Reply). reverse_aux (networks_of x.network es) (x.network ∷ map (entry_network (new_network n t r)) w.log)) (same_after w e v z)
      ∙ same_floors (after w e) es (valid_after w e z v) zs

  same_answers : {C : Type 0} (w : World) (es : List Event) → Valid C n w.network → All Formed es
      → reverse_aux (answered_of (put (new_network n t r) w.network) es) (answers_of w.log) ≡ answers_of (run w es).log
  unfolding answered_of run answers_of after line_of
  same_answers w [] v nil = refl
  same_answers w (e ∷ es) v (cons z zs) =
      ap (λ (x : Reply). reverse_aux (answered_of x.network es) ((e, x.line.answer) ∷ answers_of w.log)) (same_after w e v z)
      ∙ same_answers (after w e) es (valid_after w e z v) zs

-- a new network's record

points_new : (m n : ℕ) → put_points (replicate m new_point) (replicate n machine.new_point) ≡ replicate m new_point
unfolding put_points
points_new m zero = refl
points_new zero (suc n) = refl
points_new (suc m) (suc n) = rw (points_new m n) (unfold put_point over new_point machine.new_point in refl)

pub put_begin : (n t r : ℕ) → put (new_network n t r) (begin n t r).network ≡ new_network n t r
unfolding put new_network begin floor.new_network over
put_begin n t r = rw (length-replicate n machine.new_point, points_new 8 n)

-- from a new network, for every list of events

module _ (n t r : ℕ) (setup : valid_setup n t r ≡ true) where
  sizes : SetupIn n t r
  unfolding valid_setup
  sizes = setup_in n t r setup

  valid_first : Valid (Unit {0}) n (begin n t r).network
  valid_first = valid_begin n t r sizes

  -- 14 does not apply to a new network
  pub new_valid : valid_network_record (new_network n t r) ≡ true
  new_valid = ap valid_network_record (sym (put_begin n t r)) ∙ never_14 n t r sizes.count (begin n t r).network valid_first

  pub reached : (es : List Event) → All Formed es → run_of (new_network n t r) es ≡ put (new_network n t r) (run (begin n t r) es).network
  reached es zs =
      ap (λ (w : Network). run_of w es) (sym (put_begin n t r)) ∙ same_run n t r sizes.count (begin n t r) es valid_first zs

  lines_reversed : (es : List Event) → All Formed es → reverse (lines_of (new_network n t r) es) ≡ map entry_line (run (begin n t r) es).log
  unfolding begin
  lines_reversed es zs =
      ap (λ (w : Network). reverse (lines_of w es)) (sym (put_begin n t r)) ∙ same_lines n t r sizes.count (begin n t r) es valid_first zs

  floors_reversed : (es : List Event) → All Formed es → reverse (networks_of (new_network n t r) es) ≡ map (entry_network (new_network n t r)) (run (begin n t r) es).log
  unfolding begin
  floors_reversed es zs =
      ap (λ (w : Network). reverse (networks_of w es)) (sym (put_begin n t r)) ∙ same_floors n t r sizes.count (begin n t r) es valid_first zs

  answers_reversed : (es : List Event) → All Formed es → reverse (answered_of (new_network n t r) es) ≡ answers_of (run (begin n t r) es).log
  unfolding begin answers_of
  answers_reversed es zs =
      ap (λ (w : Network). reverse (answered_of w es)) (sym (put_begin n t r)) ∙ same_answers n t r sizes.count (begin n t r) es valid_first zs

  pub demand : (es : List Event) → All Formed es → Demand n t r es
  demand es zs =
      record {
        claim = claim n t r setup es zs;
        lines = lines_reversed es zs;
        answers = answers_reversed es zs;
        floors = floors_reversed es zs;
        network = reached es zs;
        next = λ e z. ap (λ (w : Network). event_of w e) (reached es zs) ∙ same_after n t r sizes.count (run (begin n t r) es) e (valid_run (begin n t r) es zs valid_first) z;
      }
