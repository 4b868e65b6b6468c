-- What is stored in a network's record is the machine's network between get and put: one access point's record, and the packets in
-- flight.
-- Assumes nothing.
use Prim.Native.Nat.{ℕ, zero, suc, ◌≤◌, ◌<◌}
use mathlib.Core.Path.{◌≡◌, refl, sym, ap, ◌∙◌}
use mathlib.Core.Bool.{Bool, true, false, cond}
use mathlib.Core.List.{List, [], ◌∷◌, map}
use native.Mathlib.Nat.{not-suc-le-zero, le_of_suc-le-suc}
use lib.ListN.{length, get_or, set, take, length-set, length-map}
use lib.Seq.{set-get_or}
use Rattle.lists.specs.Places.{All, cons, without}
use Rattle.structs.specs.declared.InFlight.{InFlight}
use Rattle.machine.specs.Packets.{carried}
use Rattle.machine.specs.Moves.{nothing}
use Rattle.machine.specs.AccessPoint as machine
use Rattle.machine.specs.Network.{access_point_at, set_point, set_in_flight}
use Rattle.machine.specs.Events.{given_up_count, quiet, act}
use Rattle.structs.specs.declared.AccessPoint.{AccessPoint}
use Rattle.record.specs.Lens.{get_point, put_point}
use Rattle.record.proofs.LensLaws.{Fits, point_kept}
use Rattle.structs.specs.declared.Network.{Network}
use Rattle.network.specs.Lens.{put_points, get, put}
use Rattle.structs.specs.Lists.{get_in_flight, put_in_flight, get_outbox}
use Rattle.network.specs.Events.{Reply, line_of, reply_of, refused}
use Rattle.network.proofs.LensLaws.{NetworkFits, points_kept, put_get}
use Rattle.network.proofs.Lent.{got_count}
use Rattle.in_flight.specs.Post.{outbox_of, posted}
use Rattle.in_flight.proofs.Posted.{sends_posted, outbox_got}
use Rattle.actions.specs.Done.{Done, unchanged_by, done_by, decided, receive_of, lose_of}
use Rattle.std.specs.Prelude.{Option}
use lib.Dec.{ltb}
use Rattle.machine.specs.Stations.{Station}
use Rattle.structs.specs.declared.Kind.{Kind}
use Rattle.structs.specs.declared.Kind.TheVariants.{Join, Leave, Deliver, Repeat, Lose, Tick, Who}
use Rattle.events.specs.Apart.{taken_for, action_for, settled_by, stored_by}
use Rattle.structs.specs.declared.Outbox.{Outbox}
use Rattle.structs.specs.declared.InFlights.{InFlights}
use Rattle.structs.proofs.Lists.{in_flight_kept}

-- one access point of n, put back alone
points_set : (n b : ℕ) (xs : List AccessPoint) (d : AccessPoint) (p : machine.AccessPoint) → All Fits (take n xs) → b < n → n ≤ length xs
    → put_points xs (set (map get_point (take n xs)) b p) ≡ set xs b (put_point (get_or xs b d) p)
unfolding put_points
points_set zero b xs d p h l k = absurd (not-suc-le-zero l)
points_set (suc n) b [] d p h l k = absurd (not-suc-le-zero k)
points_set (suc n) zero (x ∷ xs) d p (cons h hs) l k = ap (λ (ys : List AccessPoint). put_point x p ∷ ys) (points_kept n xs hs)
points_set (suc n) (suc b) (x ∷ xs) d p (cons h hs) l k = rw (point_kept x h, points_set n b xs d p hs (le_of_suc-le-suc l) (le_of_suc-le-suc k))

-- the machine's access point b is the record's
points_at : (n b : ℕ) (xs : List AccessPoint) (d : AccessPoint) (e : machine.AccessPoint) → b < n → n ≤ length xs → get_or (map get_point (take n xs)) b e ≡ get_point (get_or xs b d)
points_at zero b xs d e l k = absurd (not-suc-le-zero l)
points_at (suc n) b [] d e l k = absurd (not-suc-le-zero k)
points_at (suc n) zero (x ∷ xs) d e l k = refl
points_at (suc n) (suc b) (x ∷ xs) d e l k = points_at n b xs d e (le_of_suc-le-suc l) (le_of_suc-le-suc k)

module _ (w : Network) (z : NetworkFits w) where
  -- the record with other packets in flight, and with another record of AP b
  abbrev with_in_flight : List InFlight → Network
  with_in_flight ws =
      record { ap_count = w.ap_count; timeout = w.timeout; resend_limit = w.resend_limit; points = w.points; in_flight = put_in_flight w.in_flight ws }

  abbrev with_point : ℕ → AccessPoint → List InFlight → Network
  with_point b a ws =
      record { ap_count = w.ap_count; timeout = w.timeout; resend_limit = w.resend_limit; points = set w.points b a; in_flight = put_in_flight w.in_flight ws }

  pub point_at : (b : ℕ) (d : AccessPoint) → b < w.ap_count → access_point_at (get w) b ≡ get_point (get_or w.points b d)
  unfolding access_point_at get
  point_at b d l = points_at w.ap_count b w.points d machine.new_point l z.count

  put_in_flight_lem : (ws : List InFlight) → put w (set_in_flight ws (get w)) ≡ with_in_flight ws
  unfolding put set_in_flight get
  put_in_flight_lem ws =
      rw (points_kept w.ap_count w.points z.points) (ap (λ (n : ℕ). record { ap_count = n; timeout = w.timeout; resend_limit = w.resend_limit; points = w.points; in_flight = put_in_flight w.in_flight ws }) (got_count w z))

  put_point_lem : (b : ℕ) (d : AccessPoint) (p : machine.AccessPoint) (ws : List InFlight) → b < w.ap_count
      → put w (set_in_flight ws (set_point b p (get w))) ≡ with_point b (put_point (get_or w.points b d) p) ws
  unfolding put set_in_flight set_point get
  put_point_lem b d p ws l =
      rw (points_set w.ap_count b w.points d p z.points l z.count)
      (ap (λ (n : ℕ). record { ap_count = n; timeout = w.timeout; resend_limit = w.resend_limit; points = set w.points b (put_point (get_or w.points b d) p); in_flight = put_in_flight w.in_flight ws })
      (length-set (map get_point (take w.ap_count w.points)) b p ∙ got_count w z))

  -- Nothing changes: the record is as it came, whatever place it is stored at

  pub refused_is : (n : ℕ) → reply_of w (quiet n (get w)) ≡ refused n w
  unfolding reply_of refused quiet line_of given_up_count nothing
  refused_is n = ap (refused n) (put_get w z)

  settled_none : (i : ℕ) → settled_by false i (outbox_of []) w.in_flight ≡ w.in_flight
  unfolding settled_by
  settled_none i =
      ap (λ (ps : List InFlight). put_in_flight w.in_flight (posted ps (get_in_flight w.in_flight))) (outbox_got [])
      ∙ (unfold posted in in_flight_kept w.in_flight z.air)

  -- the same of any that sends nothing
  pub settled_same : (taken : Bool) (i : ℕ) (o : Outbox) → taken ≡ false → o.count ≡ 0 → settled_by taken i o w.in_flight ≡ w.in_flight
  unfolding settled_by
  settled_same taken i o e h =
      rw (e, h) (unfold posted in in_flight_kept w.in_flight z.air)

  pub unchanged_is : (b i n : ℕ) (d : AccessPoint) → stored_by w b false i (unchanged_by n (get_or w.points b d)) ≡ refused n w
  unfolding refused outbox_of
  unchanged_is b i n d =
      rw (set-get_or w.points b d)
      (ap (λ (t : InFlights). record { line = record { answer = n; sent = 0; given_up = 0; held = 0; tables = 0 }; network = record { ap_count = w.ap_count; timeout = w.timeout; resend_limit = w.resend_limit; points = w.points; in_flight = t } }) (settled_none i))

  -- the packet taken out, and nothing else
  pub lost_is : (b i : ℕ) (d : AccessPoint)
      → stored_by w b true i (unchanged_by 0 (get_or w.points b d)) ≡ reply_of w (quiet 0 (set_in_flight (without i (get_in_flight w.in_flight)) (get w)))
  unfolding reply_of quiet line_of given_up_count nothing outbox_of settled_by
  lost_is b i d =
      let ws : List InFlight = without i (get_in_flight w.in_flight) in
      rw (set-get_or w.points b d, put_in_flight_lem ws)
      (ap (λ (ps : List InFlight). record { line = record { answer = 0; sent = 0; given_up = 0; held = 0; tables = 0 }; network = with_in_flight (posted ps ws) }) (outbox_got [])
      ∙ (unfold posted in refl))

  -- the access point b acts, where ws are in flight then

  abbrev reply : ℕ → ℕ → Network → Reply
  reply n g f = record { line = record { answer = 0; sent = n; given_up = g; held = 0; tables = 0 }; network = f }

  pub acted_is : (b i : ℕ) (taken : Bool) (d : AccessPoint) (x : machine.Action) → b < w.ap_count
      → stored_by w b taken i (done_by b (get_or w.points b d) x)
      ≡ reply_of w (act b x (set_in_flight (cond taken (without i (get_in_flight w.in_flight)) (get_in_flight w.in_flight)) (get w)))
  unfolding reply_of act line_of given_up_count done_by settled_by set_point set_in_flight
  acted_is b i taken d x l =
      let ws : List InFlight = cond taken (without i (get_in_flight w.in_flight)) (get_in_flight w.in_flight) in
      let ps : List InFlight = map (carried b) x.sends in
      let a : AccessPoint = put_point (get_or w.points b d) x.point in
      let g : ℕ = length x.happened.given_up in
      let count : (outbox_of ps).count ≡ length x.sends = unfold outbox_of in length-map x.sends (carried b) in
      rw (sends_posted b x.sends (set_point b x.point (set_in_flight ws (get w))))
      (ap (λ (n : ℕ). reply n g (with_point b a (posted (get_outbox (outbox_of ps)) ws))) count
      ∙ ap (λ (qs : List InFlight). reply (length x.sends) g (with_point b a (posted qs ws))) (outbox_got ps)
      ∙ ap (reply (length x.sends) g) (sym (put_point_lem b d x.point (posted ps ws) l)))

-- What an event that is refused leaves

-- it takes no packet out
takes_none : (k : Kind) (at : ℕ) (s : Station) (n : ℕ) (old : Option ℕ) (c : List ℕ) (kk t r m : ℕ) (a : AccessPoint) (p : InFlight) (x : ℕ)
    → unchanged_by x a ≡ action_for k at s n old c kk t r m a p → (x ≡ 0 → ⊥) → taken_for k at m ≡ false
takes_none Join at s n old c kk t r m a p x e h = refl
takes_none Leave at s n old c kk t r m a p x e h = refl
takes_none Deliver at s n old c kk t r m a p x e h = go (ltb at m) refl
  where
    go : (b : Bool) → ltb at m ≡ b → b ≡ false
    go true q = absurd (h (ap (λ (d : Done). d.answer) e ∙ (unfold receive_of decided done_by in rw q refl)))
    go false q = refl
takes_none Repeat at s n old c kk t r m a p x e h = refl
takes_none Lose at s n old c kk t r m a p x e h = go (ltb at m) refl
  where
    go : (b : Bool) → ltb at m ≡ b → b ≡ false
    go true q = absurd (h (ap (λ (d : Done). d.answer) e ∙ (unfold lose_of in rw q refl)))
    go false q = refl
takes_none Tick at s n old c kk t r m a p x e h = refl
takes_none Who at s n old c kk t r m a p x e h = refl

-- so the record is as it came
pub refused_stored : (w : Network) → NetworkFits w → (k : Kind) (at : ℕ) (s : Station) (n : ℕ) (old : Option ℕ) (c : List ℕ) (b i : ℕ) (d : AccessPoint) (p : InFlight) (x : ℕ)
    → unchanged_by x (get_or w.points b d) ≡ action_for k at s n old c w.ap_count w.timeout w.resend_limit w.in_flight.count (get_or w.points b d) p → (x ≡ 0 → ⊥)
    → stored_by w b (taken_for k at w.in_flight.count) i (unchanged_by x (get_or w.points b d)) ≡ refused x w
refused_stored w z k at s n old c b i d p x e h =
    rw (takes_none k at s n old c w.ap_count w.timeout w.resend_limit w.in_flight.count (get_or w.points b d) p x e h) (unchanged_is w z b i x d)
