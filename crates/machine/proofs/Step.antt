-- An event of the list, refused or not, keeps the invariant.
-- Assumes nothing.
use Prim.Native.Nat.{ℕ, ◌<◌}
use mathlib.Core.Bool.{Bool, true, false, ◌&&◌, ◌||◌}
use mathlib.Core.Path.{◌≡◌, refl, sym, subst, ◌∙◌}
use mathlib.Core.List.{List}
use mathlib.Core.Logic.{◌⊎◌, inl, inr, ◌≢◌}
use Rattle.std.specs.Prelude.{Option}
use lib.Dec.{eqb}
use lib.ListN.{length}
use Rattle.lists.specs.Table.{accepts}
use Rattle.lists.specs.Places.{nth, without}
use Rattle.lists.proofs.Bools.{by_cond}
use Rattle.lists.proofs.Choices.{by_option, and_false}
use Rattle.lists.proofs.Every.{all_map, all_nth, all_without}
use Rattle.machine.specs.Stations.{Station, same}
use Rattle.machine.specs.Associations.{sequence_of}
use Rattle.machine.specs.Packets.{packet_in, octets_in}
use Rattle.machine.specs.Moves.{ticking}
use Rattle.machine.specs.AccessPoint.{AccessPoint, Action, origin_of, join_from, tick_by}
use Rattle.machine.specs.Network.{Network, access_point_at, set_in_flight}
use Rattle.machine.specs.Events.{Event, join, leave, deliver, repeat, lose, tick, who, Formed, refusal, Outcome, quiet, act, receive_frame, receive_at, accepted, step}
use Rattle.machine.specs.Joins.{Join, joins_with, left_with}
use Rattle.machine.specs.Stronger.{move_among}
use Rattle.machine.specs.Claim.{InOrder}
use Rattle.machine.proofs.Stations.{same_refl, same_of_ne, same_or_not}
use Rattle.machine.proofs.Limits.{PointIn, Valid, ActionIn, sendable, opened_in}
use Rattle.machine.proofs.PointLimits.{leave_in, tick_in, receive_in}
use Rattle.machine.proofs.Valid.{join_passed, join_in}
use Rattle.machine.proofs.Invariant.{GivenUp, PacketOk, Inv, inv_in_flight, inv_given_up, inv_send_all}
use Rattle.machine.proofs.Rules.{Acted, acted_receive, acted_tick, acted_leave, acted_own, acted_other}

-- what is said of a station after the event e at the place p
abbrev pub After : Station → List Join → (ℕ → Bool) → GivenUp → ℕ → Event → Outcome → Type 0
After s J G L p e o =
    InOrder (joins_with s e o.answer p J)
    → Inv s (joins_with s e o.answer p J) (λ (c : ℕ). left_with s c e o.answer (G c)) (λ (x q : ℕ). move_among s x q o.happened.given_up || L x q) o.network

pub order_before : (s : Station) (e : Event) (a p : ℕ) (J : List Join) → InOrder (joins_with s e a p J) → InOrder J
unfolding joins_with
order_before s (join b t n old c) a p J h = by_cond (λ (K : List Join). InOrder K → InOrder J) (same s t && eqb a 0) (λ q x. x.2) (λ q x. x) h
order_before s (leave b t) a p J h = h
order_before s (deliver k) a p J h = h
order_before s (repeat k) a p J h = h
order_before s (lose k) a p J h = h
order_before s (tick b) a p J h = h
order_before s (who t) a p J h = h

-- an access point acts
inv_act : {s : Station} {J : List Join} {G : ℕ → Bool} {L : GivenUp} {C : Type 0} {n : ℕ} (f : Network) (b : ℕ) (x : Action) → ActionIn C n x → Acted s J G L f b x → Inv s J G L (act b x f).network
unfolding act
inv_act f b x h a = inv_send_all b x.sends (all_map (λ y k. sendable y.packet k.packet) h.sends) a.1 a.0

-- what an outcome says was given up, beside what was
given_more : {s : Station} {J : List Join} {G : ℕ → Bool} {L : GivenUp} {f : Network} (o : Outcome) → Inv s J G L f → Inv s J G (λ (x q : ℕ). move_among s x q o.happened.given_up || L x q) f
given_more {s} o v = inv_given_up (λ (x q : ℕ). move_among s x q o.happened.given_up) v

-- what AP b of f does at a join of u, at the place p
abbrev join_action : Network → ℕ → ℕ → ℕ → Option ℕ → List ℕ → Station → Action
join_action f p b n old c u = join_from (origin_of (length f.points) b old) (length f.points) f.timeout f.resend_limit p b u n c (access_point_at f b)

module _ {s : Station} {J : List Join} {G : ℕ → Bool} {L : GivenUp} {f : Network} (v : Inv s J G L f) where
  inv_left : (H : ℕ → Bool) → ((c : ℕ) → H c ≡ G c) → Inv s J H L f
  inv_left H e =
      record {
        rows = v.rows;
        stays = λ n b h q. v.stays n b h (sym (e b) ∙ q);
        gone = λ n b h q. v.gone n b h (sym (e b) ∙ q);
        air = v.air;
        moves = v.moves;
        handed = v.handed;
      }

  -- a refused event
  refused : (p : ℕ) (e : Event) (a : ℕ) → accepts a ≡ false → After s J G L p e (quiet a f)
  unfolding joins_with left_with quiet
  refused p (join b t n old c) a e h = rw (e, and_false) (given_more (quiet a f) v)
  refused p (leave b t) a e h = given_more (quiet a f) (inv_left _ (λ c. rw (e, and_false)))
  refused p (deliver k) a e h = given_more (quiet a f) v
  refused p (repeat k) a e h = given_more (quiet a f) v
  refused p (lose k) a e h = given_more (quiet a f) v
  refused p (tick b) a e h = given_more (quiet a f) v
  refused p (who t) a e h = given_more (quiet a f) v

  -- an accepted join
  module _ (p b n : ℕ) (old : Option ℕ) (c : List ℕ) (fits : b < length f.points) where
    joined_own : {C : Type 0} {i : ℕ} → ActionIn C i (join_action f p b n old c s) → After s J G L p (join b s n old c) (act b (join_action f p b n old c s) f)
    unfolding joins_with left_with act
    joined_own h = rw (same_refl s) (λ o. given_more (act b (join_action f p b n old c s) f) (inv_act f b (join_action f p b n old c s) h (acted_own v f.timeout f.resend_limit p b n old c o fits)))

    joined_other : {C : Type 0} {i : ℕ} (t : Station) → s ≢ t → ActionIn C i (join_action f p b n old c t) → After s J G L p (join b t n old c) (act b (join_action f p b n old c t) f)
    unfolding joins_with left_with act
    joined_other t d h = rw (same_of_ne s t d) (λ o. given_more (act b (join_action f p b n old c t) f) (inv_act f b (join_action f p b n old c t) h (acted_other v f.timeout f.resend_limit p b n old c t d)))

    joined_by : {C : Type 0} {i : ℕ} (t : Station) → ActionIn C i (join_action f p b n old c t) → After s J G L p (join b t n old c) (act b (join_action f p b n old c t) f)
    joined_by {C} {i} t h = go (same_or_not s t)
      where
        go : (s ≡ t) ⊎ (s ≢ t) → After s J G L p (join b t n old c) (act b (join_action f p b n old c t) f)
        go (inl e) = subst (λ (u : Station). After s J G L p (join b u n old c) (act b (join_action f p b n old c u) f)) e (joined_own (subst (λ (u : Station). ActionIn C i (join_action f p b n old c u)) (sym e) h))
        go (inr e) = joined_other t e h

  -- an accepted receipt
  received_packet : {C : Type 0} {n : ℕ} (y : Valid C n f) (g : Network) (k : ℕ) → ◌≡◌ {A = ℕ → AccessPoint} (access_point_at g) (access_point_at f) → InOrder J → Inv s J G L g
      → Inv s J G L (receive_at k f.in_flight g).network
  unfolding receive_at receive_frame quiet
  received_packet {C} {n} y g k d order w =
      by_option (λ (o : Outcome). Inv s J G L o.network) (nth k f.in_flight) (λ q. w)
      (λ x q. by_option (λ (o : Outcome). Inv s J G L o.network) (packet_in (octets_in x)) (λ r. w)
      (λ p r. let z = all_nth k f.in_flight x q y.air in
      inv_act g x.to _
      (receive_in (subst (λ (a : ℕ → AccessPoint). PointIn C n (a x.to)) (sym d) (y.points x.to)) x.from p z.from (opened_in x p z r))
      (acted_receive w x.to order x.from p
      (subst (λ (a : ℕ → AccessPoint). PacketOk s J (λ (b : ℕ). sequence_of s (a b).associations) x.from x.to p) (sym d) (all_nth k f.in_flight x q v.air p r)))))

  received : {C : Type 0} {n : ℕ} (y : Valid C n f) (g : Network) (k : ℕ) → ◌≡◌ {A = ℕ → AccessPoint} (access_point_at g) (access_point_at f) → InOrder J → Inv s J G L g
      → Inv s J G (λ (x q : ℕ). move_among s x q (receive_at k f.in_flight g).happened.given_up || L x q) (receive_at k f.in_flight g).network
  received y g k d order w = given_more (receive_at k f.in_flight g) (received_packet y g k d order w)

  lost : (k : ℕ) → Inv s J G L (set_in_flight (without k f.in_flight) f)
  lost k = inv_in_flight v (without k f.in_flight) (all_without k f.in_flight v.air)

  accepted_keeps : {C : Type 0} {i : ℕ} (y : Valid C i f) (p : ℕ) (e : Event) → Formed e → accepts (refusal f e) ≡ true → After s J G L p e (accepted f p e)
  unfolding accepted joins_with left_with quiet act set_in_flight access_point_at
  accepted_keeps y p (join b t n old c) z r h = let q = join_passed f b t n old c r in joined_by p b n old c q.there t (join_in y p b t n old c z.0 z.1 q) h
  accepted_keeps y p (leave b t) z r h = given_more (accepted f p (leave b t)) (inv_act f b _ (leave_in (y.points b) t) (acted_leave v b t))
  accepted_keeps y p (deliver k) z r h = received y _ k refl h (lost k)
  accepted_keeps y p (repeat k) z r h = received y f k refl h v
  accepted_keeps y p (lose k) z r h = given_more (accepted f p (lose k)) (lost k)
  accepted_keeps y p (tick b) z r h = unfold tick_by ticking in inv_act f b _ (tick_in (y.points b) f.timeout y.timeout.0 y.timeout.1) (acted_tick v b f.timeout)
  accepted_keeps y p (who t) z r h = given_more (accepted f p (who t)) v

  pub step_keeps : {C : Type 0} {i : ℕ} (y : Valid C i f) (p : ℕ) (e : Event) → Formed e → After s J G L p e (step f p e)
  unfolding step
  step_keeps y p e z =
      by_cond (After s J G L p e) (accepts (refusal f e)) (λ q. accepted_keeps y p e z q) (λ q. refused p e (refusal f e) q)
