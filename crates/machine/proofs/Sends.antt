-- After every list of events no move's notice has been sent more than 1 + R times: what was sent of a move and the resends that its
-- open moves have left are at most 1 + R together.
-- Assumes nothing.
use Prim.Native.Nat.{ℕ, zero, suc, ◌<◌, ◌≤◌, ◌+◌, ◌-◌}
use mathlib.Core.Bool.{Bool, true, false, cond}
use mathlib.Core.Path.{◌≡◌, refl, sym, ap}
use mathlib.Core.List.{List, [], ◌∷◌, ◌++◌}
use lib.Dec.{eqb}
use lib.ListN.{length, get_or, set, replicate}
use native.Mathlib.Omega.{arith}
use native.Mathlib.Nat.{le_of_eq, zero-add}
use borrow.Author.Tests.{eqb-true}
use Rattle.lists.specs.Table.{accepts}
use Rattle.lists.specs.Places.{nth, without}
use Rattle.lists.proofs.Bools.{by_cond}
use Rattle.lists.proofs.Choices.{by_bool, by_option}
use Rattle.structs.specs.declared.InFlight.{InFlight}
use Rattle.structs.specs.declared.Association.{Association}
use Rattle.machine.specs.Stations.{Station}
use Rattle.machine.specs.Packets.{Message, Packet, Outgoing, packet_in, octets_in}
use Rattle.machine.specs.Moves.{Open, Happened, nothing, new_move, opening, agrees, close, answering, timed, Fate, kept_from, kept, resent_by, resends, ticking}
use Rattle.machine.specs.AccessPoint.{AccessPoint, new_point, Action, with_associations, with_moves, use_identifier, quietly, Origin, another, this, nowhere, origin_of, joined, join_from, leave_by, tick_by, answering_with, receive_by, receive}
use Rattle.machine.specs.Network.{Network, new_network, access_point_at, set_point, set_in_flight, send_all}
use Rattle.machine.specs.Events.{Event, join, leave, deliver, repeat, lose, tick, who, refusal, Outcome, quiet, act, receive_frame, receive_at, accepted, step}
use Rattle.machine.specs.History.{World, after, run, begin, times_in, sends_of}
use Rattle.machine.proofs.Parts.{by_fate, send_all_keeps, by_receipt}

-- sums over open moves

unfoldable pub total : (Open → ℕ) → List Open → ℕ
total g [] = 0
total g (m ∷ ms) = g m + total g ms

unfoldable pub total_points : (Open → ℕ) → List AccessPoint → ℕ
total_points g [] = 0
total_points g (a ∷ more) = total g a.moves + total_points g more

pub total_append : (g : Open → ℕ) (ms : List Open) (m : Open) → total g (ms ++ (m ∷ [])) ≡ total g ms + g m
unfolding total
total_append g [] m = omega arith
total_append g (x ∷ xs) m = omega (arith, total_append g xs m)

-- an access point's record anew
total_set :
    (g : Open → ℕ) (points : List AccessPoint) (b : ℕ) (a : AccessPoint) (j k : ℕ)
    → total g a.moves + j ≤ total g (get_or points b new_point).moves + k
    → total_points g (set points b a) + j ≤ total_points g points + k
unfolding total total_points new_point
total_set g [] b a j k h = omega arith
total_set g (x ∷ xs) zero a j k h = omega arith
total_set g (x ∷ xs) (suc b) a j k h = omega (arith, total_set g xs b a j k h)

total_close : (g : Open → ℕ) (from : ℕ) (p : Packet) (ms : List Open) → total g (close from p ms) ≤ total g ms
unfolding total close
total_close g from p [] = omega arith
total_close g from p (m ∷ ms) =
    by_cond (λ (l : List Open). total g l ≤ g m + total g ms) (agrees from p m.move) (λ q. omega arith) (λ q. omega (arith, total_close g from p ms))

-- the resends left, and the number, of the moves named p

unfoldable left : ℕ → Open → ℕ
left p m = cond (eqb p m.name) m.move.resends_left 0

unfoldable pub named : ℕ → Open → ℕ
named p m = cond (eqb p m.name) 1 0

none_left : (p : ℕ) (ms : List Open) → total (named p) ms ≡ 0 → total (left p) ms ≡ 0
unfolding total named left
none_left p [] e = refl
none_left p (m ∷ ms) e =
    by_bool (λ (b : Bool). cond b 1 0 + total (named p) ms ≡ 0 → cond b m.move.resends_left 0 + total (left p) ms ≡ 0) (eqb p m.name)
    (λ q x. omega arith) (λ q x. omega (arith, none_left p ms (omega arith))) e

none_left_points : (p : ℕ) (points : List AccessPoint) → total_points (named p) points ≡ 0 → total_points (left p) points ≡ 0
unfolding total_points
none_left_points p [] e = refl
none_left_points p (a ∷ more) e = omega (arith, none_left p a.moves (omega arith), none_left_points p more (omega arith))

again : (b : Bool) (r x c y : ℕ) → 0 < r → x + c ≤ y → cond b (r - 1) 0 + x + cond b (1 + c) c ≤ cond b r 0 + y
again true r x c y h k = omega arith
again false r x c y h k = omega arith

tick_left : (p t : ℕ) (ms : List Open) → total (left p) (kept t ms) + times_in p (resends t ms) ≤ total (left p) ms
unfolding total left kept resends kept_from resent_by times_in timed
tick_left p t [] = omega arith
tick_left p t (m ∷ ms) =
    let ih : total (left p) (kept t ms) + times_in p (resends t ms) ≤ total (left p) ms = tick_left p t ms in
    by_fate (λ (x : Fate). total (left p) (kept_from x (kept t ms)) + times_in p (resent_by x (resends t ms)) ≤ left p m + total (left p) ms) t m
    (λ k. omega arith) (λ q. again (eqb p m.name) m.move.resends_left (total (left p) (kept t ms)) (times_in p (resends t ms)) (total (left p) ms) q ih) (omega arith)

tick_named : (p t : ℕ) (ms : List Open) → total (named p) (kept t ms) ≤ total (named p) ms
unfolding total named kept kept_from timed
tick_named p t [] = omega arith
tick_named p t (m ∷ ms) =
    let ih : total (named p) (kept t ms) ≤ total (named p) ms = tick_named p t ms in
    by_fate (λ (x : Fate). total (named p) (kept_from x (kept t ms)) ≤ named p m + total (named p) ms) t m (λ k. omega arith) (λ q. omega arith) (omega arith)

-- notices that an event sent
abbrev sent : ℕ → Happened → ℕ
sent p h = times_in p h.opened + times_in p h.resent

-- k notices of p sent so far, and `now` events

record Bound (r p now k : ℕ) (f : Network) : Type 0 where
  limit : f.resend_limit ≡ r
  spent : k + total_points (left p) f.points ≤ 1 + r
  clear : now ≤ p → (k ≡ 0) × (total_points (named p) f.points ≡ 0)

-- what an access point's action spends of its moves named p
record Spends (p : ℕ) (a : AccessPoint) (x : Action) : Type 0 where
  left_of : total (left p) x.point.moves + sent p x.happened ≤ total (left p) a.moves
  named_of : total (named p) x.point.moves ≤ total (named p) a.moves

module _ {r p now k : ℕ} where
  bound_in_flight : {f : Network} (ws : List InFlight) → Bound r p now k f → Bound r p now k (set_in_flight ws f)
  unfolding set_in_flight
  bound_in_flight ws v = record { limit = v.limit; spent = v.spent; clear = v.clear }

  bound_sends : {f : Network} (from : ℕ) (xs : List Outgoing) → Bound r p now k f → Bound r p now k (send_all from xs f)
  bound_sends {f} from xs v = send_all_keeps (Bound r p now k) (λ ws g w. bound_in_flight ws w) from xs f v

  bound_next : {f : Network} → Bound r p now k f → Bound r p (suc now) k f
  bound_next v = record { limit = v.limit; spent = v.spent; clear = λ h. v.clear (omega arith) }

module _ {r p now k : ℕ} where
  -- an access point acts on moves that it has
  bound_act : (f : Network) (b : ℕ) (x : Action) → Spends p (access_point_at f b) x → Bound r p now k f → Bound r p now (sent p x.happened + k) (act b x f).network
  unfolding act access_point_at set_point
  bound_act f b x h v =
      let j = sent p x.happened in
      let l : total_points (left p) (set f.points b x.point) + j ≤ total_points (left p) f.points + 0 = total_set (left p) f.points b x.point j 0 (omega (arith, h.left_of)) in
      let n : total_points (named p) (set f.points b x.point) + 0 ≤ total_points (named p) f.points + 0 = total_set (named p) f.points b x.point 0 0 (omega (arith, h.named_of)) in
      let s : k + total_points (left p) f.points ≤ 1 + r = v.spent in
      bound_sends b x.sends
      (record {
        limit = v.limit;
        spent = omega arith;
        clear = λ h. let c = v.clear h in
            let z : total_points (left p) f.points ≡ 0 = none_left_points p f.points c.1 in
            (omega arith, omega arith);
      })

  -- a move opens
  bound_open :
      (f : Network) (b : ℕ) (x : Action) (m : Open)
      → m.name ≡ now
      → m.move.resends_left ≡ r
      → x.point.moves ≡ (access_point_at f b).moves ++ (m ∷ [])
      → x.happened ≡ opening m
      → Bound r p now k f
      → Bound r p (suc now) (sent p x.happened + k) (act b x f).network
  unfolding act access_point_at set_point opening times_in
  bound_open f b x m e₁ e₂ e₃ e₄ v =
      let s : k + total_points (left p) f.points ≤ 1 + r = v.spent in
      rw (e₄, e₁)
      (by_bool (λ (z : Bool). eqb p now ≡ z → Bound r p (suc now) (cond z (1 + 0) 0 + 0 + k) (act b x f).network) (eqb p now)
      (λ q _. let c = v.clear (le_of_eq (sym (eqb-true p now q))) in
      let z : total_points (left p) f.points ≡ 0 = none_left_points p f.points c.1 in
      let y : left p m ≡ r = unfold left in (rw (e₁, q) e₂) in
      let w : p ≡ now = eqb-true p now q in
      bound_sends b x.sends (record { limit = v.limit; spent = omega (arith, up (left p)); clear = λ h. absurd (omega arith) }))
      (λ q _. let y : left p m ≡ 0 = unfold left in rw (e₁, q) in
      let u : named p m ≡ 0 = unfold named in rw (e₁, q) in
      bound_sends b x.sends
      (record { limit = v.limit; spent = omega (arith, up (left p)); clear = λ h. let c = v.clear (omega arith) in (omega arith, omega (arith, up (named p))) }))
      refl)
    where
      up : (g : Open → ℕ) → total_points g (set f.points b x.point) + 0 ≤ total_points g f.points + g m
      up g = total_set g f.points b x.point 0 (g m) (omega (arith, total_append g (get_or f.points b new_point).moves m, ap (total g) e₃))

-- what each rule spends

module _ (p : ℕ) (a : AccessPoint) where
  spends_quietly : (b : AccessPoint) → b.moves ≡ a.moves → Spends p a (quietly b)
  unfolding quietly nothing times_in
  spends_quietly b e = record { left_of = omega (arith, ap (total (left p)) e); named_of = omega (arith, ap (total (named p)) e) }

  spends_answer : (from : ℕ) (q : Packet) (x : Message) (b : AccessPoint) → b.moves ≡ a.moves → Spends p a (answering_with from q x b)
  unfolding answering_with nothing times_in
  spends_answer from q x b e = record { left_of = omega (arith, ap (total (left p)) e); named_of = omega (arith, ap (total (named p)) e) }

  spends_closed : (from : ℕ) (q : Packet) (m : Open) (rs : List Association)
      → Spends p a (record { point = with_moves (close from q a.moves) (answering m) (with_associations rs a); sends = []; happened = answering m })
  unfolding with_moves answering times_in
  spends_closed from q m rs =
      record { left_of = omega (arith, total_close (left p) from q a.moves); named_of = omega (arith, total_close (named p) from q a.moves) }

  spends_message : (x : Message) (from : ℕ) (q : Packet) → Spends p a (receive_by x from q a)
  spends_message x from q =
      by_receipt (Spends p a) a from q (λ b e. spends_quietly b e.moves) (λ y b e. spends_answer from q y b e.moves) (λ m rs e. spends_closed from q m rs) x

  spends_leave : (s : Station) → Spends p a (leave_by s a)
  unfolding leave_by with_associations
  spends_leave s = spends_quietly _ refl

  spends_this : (k t r name b : ℕ) (s : Station) (n : ℕ) (c : List ℕ) → Spends p a (join_from this k t r name b s n c a)
  unfolding join_from joined with_associations
  spends_this k t r name b s n c = spends_quietly _ refl

  spends_nowhere : (k t r name b : ℕ) (s : Station) (n : ℕ) (c : List ℕ) → Spends p a (join_from nowhere k t r name b s n c a)
  unfolding join_from use_identifier joined with_associations nothing times_in
  spends_nowhere k t r name b s n c = record { left_of = omega arith; named_of = omega arith }

  spends_tick : (t : ℕ) → Spends p a (tick_by t a)
  unfolding tick_by with_moves ticking times_in
  spends_tick t = record { left_of = omega (arith, tick_left p t a.moves); named_of = tick_named p t a.moves }

-- events

abbrev Counted : ℕ → ℕ → ℕ → ℕ → Outcome → Type 0
Counted r p now k o = Bound r p (suc now) (sent p o.happened + k) o.network

module _ {r p now k : ℕ} {f : Network} (v : Bound r p now k f) where
  -- an event that does nothing to a move
  still : {g : Network} → Bound r p now k g → (a : ℕ) → Counted r p now k (quiet a g)
  unfolding quiet nothing times_in
  still w a = rw zero-add (bound_next w)

  acts : (b : ℕ) (x : Action) → Spends p (access_point_at f b) x → Counted r p now k (act b x f)
  unfolding act
  acts b x h = bound_next (unfold act in bound_act f b x h v)

  joins : (x : Origin) (b n : ℕ) (t : Station) (c : List ℕ) → Counted r p now k (act b (join_from x (length f.points) f.timeout f.resend_limit now b t n c (access_point_at f b)) f)
  joins (another o) b n t c =
      unfold act join_from with_moves new_move in
      bound_open f b _ (new_move now t n o (access_point_at f b).next_identifier f.timeout f.resend_limit) refl v.limit refl refl v
  joins this b n t c = acts b _ (spends_this p (access_point_at f b) _ _ _ _ _ t n c)
  joins nowhere b n t c = acts b _ (spends_nowhere p (access_point_at f b) _ _ _ _ _ t n c)

  receives : {g : Network} (i : ℕ) (ws : List InFlight) → Bound r p now k g → Counted r p now k (receive_at i ws g)
  unfolding receive_at receive_frame receive
  receives {g} i ws w =
      by_option (Counted r p now k) (nth i ws) (λ q. still w 0)
      (λ y q. by_option (Counted r p now k) (packet_in (octets_in y)) (λ e. still w 0) (λ x e. unfold act in bound_next (bound_act g y.to _ (spends_message p (access_point_at g y.to) x.message y.from x) w)))

  counts_accepted : (e : Event) → Counted r p now k (accepted f now e)
  unfolding accepted
  counts_accepted (join b t n old c) = joins (origin_of (length f.points) b old) b n t c
  counts_accepted (leave b t) = acts b _ (spends_leave p (access_point_at f b) t)
  counts_accepted (deliver i) = receives i f.in_flight (bound_in_flight (without i f.in_flight) v)
  counts_accepted (repeat i) = receives i f.in_flight v
  counts_accepted (lose i) = still (bound_in_flight (without i f.in_flight) v) 0
  counts_accepted (tick b) = acts b _ (spends_tick p (access_point_at f b) f.timeout)
  counts_accepted (who t) = unfold nothing times_in in rw zero-add (bound_next v)

  counts_step : (e : Event) → Counted r p now k (step f now e)
  unfolding step
  counts_step e = by_cond (Counted r p now k) (accepts (refusal f e)) (λ q. counts_accepted e) (λ q. still v (refusal f e))

-- the claim, of one move

abbrev Within : ℕ → ℕ → World → Type 0
Within r p w = Bound r p (length w.log) (sends_of p w.log) w.network

within_run : (r p : ℕ) (w : World) (es : List Event) → Within r p w → Within r p (run w es)
unfolding run after sends_of
within_run r p w [] k = k
within_run r p w (e ∷ es) k = within_run r p (after w e) es (counts_step k e)

pub new_total : (g : Open → ℕ) (n : ℕ) → total_points g (replicate n new_point) ≡ 0
unfolding total_points total new_point
new_total g zero = refl
new_total g (suc n) = rw (new_total g n)

within_begin : (r p n t : ℕ) → Within r p (begin n t r)
unfolding begin new_network sends_of
within_begin r p n t =
    record { limit = refl; spent = omega (arith, new_total (left p) n); clear = λ h. (refl, new_total (named p) n) }

-- each move's notice is sent at most 1 + R times
pub sends_bound : (n t r : ℕ) (es : List Event) (p : ℕ) → sends_of p (run (begin n t r) es).log ≤ 1 + r
sends_bound n t r es p = omega (arith, (within_run r p (begin n t r) es (within_begin r p n t)).spent)
