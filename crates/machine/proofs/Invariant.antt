-- What holds of one station s after every list of events: by its accepted joins J (the latest first), where it left since (G), and
-- which of its moves were given up (L). And one lemma for each kind of change of the network.
-- Assumes nothing.
use Prim.Native.Nat.{ℕ, ◌<◌}
use mathlib.Core.Bool.{Bool, true, false, cond, ◌||◌}
use mathlib.Core.Path.{◌≡◌, refl, sym, ap, subst, ◌∙◌}
use mathlib.Core.List.{List, [], ◌∷◌, ◌++◌}
use mathlib.Core.Logic.{◌⊎◌, inl, inr, ◌≢◌}
use Rattle.std.specs.Prelude.{Option, None, Some}
use lib.Dec.{eqb, ltb}
use lib.ListN.{length}
use borrow.Author.Tests.{eqb-true, eqb-false}
use Rattle.lists.proofs.Bools.{by_cond}
use Rattle.lists.proofs.Choices.{not_both, some_inj, not_some, or_true_right}
use Rattle.lists.specs.Places.{All, nil, cons}
use Rattle.lists.proofs.Every.{all_map, all_map2, all_append}
use Rattle.sequence.specs.Distance.{newer_of}
use Rattle.sequence.proofs.Laws.{newer_asym, newer_irrefl}
use Rattle.structs.specs.declared.InFlight.{InFlight}
use Rattle.machine.specs.Stations.{Station}
use Rattle.machine.specs.Associations.{sequence_of}
use Rattle.machine.specs.Packets.{Message, add_notify, move_notify, successful, stale_move, Packet, Outgoing, packet_in, octets_in, carried}
use Rattle.machine.specs.Moves.{Open}
use Rattle.machine.specs.AccessPoint.{AccessPoint}
use Rattle.machine.specs.Network.{Network, access_point_at, set_point, set_in_flight, send, send_all}
use Rattle.machine.specs.Joins.{Join}
use Rattle.machine.specs.Claim.{NewerThanAll, InOrder}
use Rattle.machine.proofs.Parts.{point_set, point_set_same}
use Rattle.machine.proofs.Wire.{Sendable, read_write, carried_octets}

-- n is the number of one of the joins; of the latest; the latest join is numbered n at AP b
abbrev pub Known : ℕ → List Join → Type 0
Known n [] = ⊥
Known n (j ∷ js) = (n ≡ j.sequence) ⊎ Known n js

abbrev pub Last : ℕ → List Join → Type 0
Last n [] = ⊥
Last n (j ∷ js) = n ≡ j.sequence

abbrev pub LastAt : ℕ → ℕ → List Join → Type 0
LastAt n b [] = ⊥
LastAt n b (j ∷ js) = (n ≡ j.sequence) × (b ≡ j.at)

-- the number of the latest join at AP b
unfoldable pub latest : ℕ → List Join → Option ℕ
latest b [] = None
latest b (j ∷ js) = cond (eqb b j.at) (Some j.sequence) (latest b js)

-- an open move of the station for n towards AP o, named p
pub record Carries (s : Station) (n o p : ℕ) (m : Open) : Type 0 where
  pub station : m.move.station ≡ s
  pub sequence : m.move.sequence ≡ n
  pub old : m.move.old ≡ o
  pub name : m.name ≡ p

abbrev pub Holds : Station → ℕ → ℕ → ℕ → List Open → Type 0
Holds s n o p [] = ⊥
Holds s n o p (m ∷ ms) = Carries s n o p m ⊎ Holds s n o p ms

-- a view of the network: the number of the station's association at each AP
abbrev pub View : Type 0
View = ℕ → Option ℕ

abbrev pub row_at : Station → Network → View
row_at s f b = sequence_of s (access_point_at f b).associations

-- the station's association at AP b, if there is one, is no older than n
abbrev pub Settled : View → ℕ → ℕ → Type 0
Settled R b n = (m : ℕ) → R b ≡ Some m → newer_of n m ≡ false

-- which moves were given up, by old AP and name
abbrev pub GivenUp : Type 0
GivenUp = ℕ → ℕ → Bool

-- a packet of the station
abbrev pub MessageOk : List Join → View → ℕ → ℕ → Packet → Message → Type 0
MessageOk J R from to p add_notify = Unit {0}
MessageOk J R from to p move_notify = ¬ LastAt p.sequence to J
MessageOk J R from to p (successful c) = Settled R from p.sequence
MessageOk J R from to p stale_move = Settled R from p.sequence × (¬ Last p.sequence J)

pub record PacketOk (s : Station) (J : List Join) (R : View) (from to : ℕ) (p : Packet) : Type 0 where
  pub known : p.station ≡ s → Known p.sequence J
  pub message : p.station ≡ s → MessageOk J R from to p p.message

abbrev pub OutgoingOk : Station → List Join → View → ℕ → Outgoing → Type 0
OutgoingOk s J R from x = PacketOk s J R from x.to x.packet

-- of a packet in flight: what its octets say
abbrev pub FrameOk : Station → List Join → View → InFlight → Type 0
FrameOk s J R w = (p : Packet) → packet_in (octets_in w) ≡ Some p → PacketOk s J R w.from w.to p

-- a move of the station
pub record MoveOk (s : Station) (J : List Join) (m : Open) : Type 0 where
  pub known : m.move.station ≡ s → Known m.move.sequence J
  pub away : m.move.station ≡ s → ¬ LastAt m.move.sequence m.move.old J

-- the table that a join came from: its move is open, or was given up, or the association there is gone or no older
abbrev pub HandedTo : Station → GivenUp → View → List Open → ℕ → ℕ → ℕ → Type 0
HandedTo s L R ms n o p = Holds s n o p ms ⊎ ((L o p ≡ true) ⊎ Settled R o n)

abbrev pub Handed : Station → GivenUp → Network → Join → Type 0
Handed s L f j = (o : ℕ) → j.old ≡ Some o → HandedTo s L (row_at s f) (access_point_at f j.at).moves j.sequence o j.place

pub record Inv (s : Station) (J : List Join) (G : ℕ → Bool) (L : GivenUp) (f : Network) : Type 0 where
  pub rows : (b m : ℕ) → row_at s f b ≡ Some m → latest b J ≡ Some m
  pub stays : (n b : ℕ) → LastAt n b J → G b ≡ false → row_at s f b ≡ Some n
  pub gone : (n b : ℕ) → LastAt n b J → G b ≡ true → row_at s f b ≡ None
  pub air : All (FrameOk s J (row_at s f)) f.in_flight
  pub moves : (b : ℕ) → All (MoveOk s J) (access_point_at f b).moves
  pub handed : All (Handed s L f) J

-- the history

pub latest_known : (b m : ℕ) (J : List Join) → latest b J ≡ Some m → Known m J
unfolding latest
latest_known b m [] e = not_some refl e
latest_known b m (j ∷ js) e =
    by_cond (λ o. o ≡ Some m → Known m (j ∷ js)) (eqb b j.at) (λ q x. inl (some_inj x refl)) (λ q x. inr (latest_known b m js x)) e

pub known_older : (n k : ℕ) (J : List Join) → NewerThanAll n J → Known k J → newer_of n k ≡ true
known_older n k [] h x'' = elim x'' [ ]
known_older n k (j ∷ js) h (inl e) = rw e h.0
known_older n k (j ∷ js) h (inr r) = known_older n k js h.1 r

-- no number of a join is newer than the latest
pub last_newest : (n k : ℕ) (J : List Join) → InOrder J → Last n J → Known k J → newer_of k n ≡ false
last_newest n k [] h e _ = elim e [ ]
last_newest n k (j ∷ js) h e (inl q) = rw (e, q) (newer_irrefl j.sequence)
last_newest n k (j ∷ js) h e (inr r) = rw e (newer_asym j.sequence k (known_older j.sequence k js h.0 r))

fresh_number : (n k : ℕ) (J : List Join) → NewerThanAll n J → Known k J → k ≢ n
fresh_number n k J h r e = not_both (rw e at (known_older n k J h r)) (newer_irrefl n)

latest_last : (n b : ℕ) (J : List Join) → LastAt n b J → latest b J ≡ Some n
unfolding latest
latest_last n b [] h = elim h [ ]
latest_last n b (j ∷ js) h = by_cond (λ o. o ≡ Some n) (eqb b j.at) (λ e. rw h.0) (λ e. absurd (eqb-false b j.at e h.1))

pub last_row : (n b m : ℕ) (J : List Join) → LastAt n b J → latest b J ≡ Some m → Last m J
last_row n b m [] h e = elim h [ ]
last_row n b m (j ∷ js) h e = some_inj e (latest_last n b (j ∷ js) h) ∙ h.0

-- a number that is not newer than that of the latest join at b, and did not come from the latest join for b, has been passed
pub stale_passed : (n m b : ℕ) (J : List Join) → InOrder J → latest b J ≡ Some m → newer_of n m ≡ false → ¬ LastAt n b J → ¬ Last n J
unfolding latest
stale_passed n m b [] h e o k q = elim q [ ]
stale_passed n m b (j ∷ js) h e o k q =
    by_cond (λ (x : Option ℕ). x ≡ Some m → ⊥) (eqb b j.at) (λ y z. k (q, eqb-true b j.at y))
    (λ y z. not_both (rw (← q) at (known_older j.sequence m js h.0 (latest_known b m js z))) o) e

all_known : (J : List Join) → All (λ (j : Join). Known j.sequence J) J
all_known [] = nil
all_known (j ∷ js) = cons (inl refl) (all_map (λ i k. inr k) (all_known js))

-- What a change of the network and of the joins may do to what is said of numbers that are known. Every packet and move that
-- speaks of such a number stays good.

pub record Grows (J K : List Join) (R W : View) : Type 0 where
  pub known : (n : ℕ) → Known n J → Known n K
  pub settled : (b n : ℕ) → Known n J → Settled R b n → Settled W b n
  pub passed : (n : ℕ) → Known n J → ¬ Last n J → ¬ Last n K
  pub elsewhere : (n b : ℕ) → Known n J → ¬ LastAt n b J → ¬ LastAt n b K

module _ {J K : List Join} {R W : View} (g : Grows J K R W) where
  message_grows : (from to : ℕ) (p : Packet) (x : Message) → Known p.sequence J → MessageOk J R from to p x → MessageOk K W from to p x
  message_grows from to p add_notify k h = tt
  message_grows from to p move_notify k h = g.elsewhere p.sequence to k h
  message_grows from to p (successful c) k h = g.settled from p.sequence k h
  message_grows from to p stale_move k h = (g.settled from p.sequence k h.0, g.passed p.sequence k h.1)

  frame_grows : {s : Station} (w : InFlight) → FrameOk s J R w → FrameOk s K W w
  frame_grows w h p e =
      let k = h p e in
      record {
        known = λ q. g.known p.sequence (k.known q);
        message = λ q. message_grows w.from w.to p p.message (k.known q) (k.message q);
      }

  pub move_grows : {s : Station} (m : Open) → MoveOk s J m → MoveOk s K m
  move_grows m h =
      record {
        known = λ e. g.known m.move.sequence (h.known e);
        away = λ e. g.elsewhere m.move.sequence m.move.old (h.known e) (h.away e);
      }

handed_map :
    (s : Station) (L : GivenUp) (R W : View) (ms ms' : List Open) (n o p : ℕ)
    → (Holds s n o p ms → HandedTo s L R ms' n o p)
    → (Settled R o n → Settled W o n)
    → HandedTo s L R ms n o p
    → HandedTo s L W ms' n o p
handed_map s L R W ms ms' n o p f g h = settle (keep h)
  where
    keep : HandedTo s L R ms n o p → HandedTo s L R ms' n o p
    keep (inl x) = f x
    keep (inr x) = inr x

    settle : HandedTo s L R ms' n o p → HandedTo s L W ms' n o p
    settle (inl x) = inl x
    settle (inr (inl x)) = inr (inl x)
    settle (inr (inr x)) = inr (inr (g x))

-- An access point's record anew, where the station's association is as before or goes, each of its moves is as before, or was given
-- up, or is settled; and the association of the latest join is as before.
pub record Shrinks (s : Station) (J : List Join) (L : GivenUp) (f : Network) (b : ℕ) (a : AccessPoint) : Type 0 where
  pub row : (m : ℕ) → sequence_of s a.associations ≡ Some m → row_at s f b ≡ Some m
  pub moves : All (MoveOk s J) a.moves
  pub held : (n o p : ℕ) → Holds s n o p (access_point_at f b).moves → HandedTo s L (row_at s f) a.moves n o p

module _ {s : Station} {J : List Join} {G : ℕ → Bool} {L : GivenUp} {f : Network} (v : Inv s J G L f) where
  -- packets added to or taken out of those in flight
  pub inv_in_flight : (ws : List InFlight) → All (FrameOk s J (row_at s f)) ws → Inv s J G L (set_in_flight ws f)
  unfolding set_in_flight access_point_at
  inv_in_flight ws h =
      record {
        rows = v.rows;
        stays = v.stays;
        gone = v.gone;
        air = h;
        moves = v.moves;
        handed = v.handed;
      }

  module _ (b : ℕ) (a : AccessPoint) (h : Shrinks s J L f b a) where
    shrunk : (c m : ℕ) → row_at s (set_point b a f) c ≡ Some m → row_at s f c ≡ Some m
    shrunk c m =
        point_set (λ (x : AccessPoint). sequence_of s x.associations ≡ Some m → row_at s f c ≡ Some m) f b c a (λ e. e)
        (λ q e. subst (λ (d : ℕ). row_at s f d ≡ Some m) q (h.row m e))

    grows : Grows J J (row_at s f) (row_at s (set_point b a f))
    grows =
        record {
          known = λ n k. k;
          settled = λ c n k i m e. i m (shrunk c m e);
          passed = λ n k i. i;
          elsewhere = λ n c k i. i;
        }

    handed_point : (j : Join) → Handed s L f j → Handed s L (set_point b a f) j
    handed_point j k o e =
        handed_map s L (row_at s f) (row_at s (set_point b a f)) (access_point_at f j.at).moves (access_point_at (set_point b a f) j.at).moves j.sequence o j.place
        (point_set (λ (x : AccessPoint). Holds s j.sequence o j.place (access_point_at f j.at).moves → HandedTo s L (row_at s f) x.moves j.sequence o j.place) f b j.at a inl
        (λ q i. h.held j.sequence o j.place (subst (λ (d : ℕ). Holds s j.sequence o j.place (access_point_at f d).moves) (sym q) i)))
        (λ i m q. i m (shrunk o m q)) (k o e)

    -- and where the station left since (G')
    pub inv_change :
        (G' : ℕ → Bool)
        → ((n c : ℕ) → LastAt n c J → G' c ≡ false → row_at s (set_point b a f) c ≡ Some n)
        → ((n c : ℕ) → LastAt n c J → G' c ≡ true → row_at s (set_point b a f) c ≡ None)
        → Inv s J G' L (set_point b a f)
    unfolding set_point
    inv_change G' stays gone =
        record {
          rows = λ c m e. v.rows c m (shrunk c m e);
          stays = stays;
          gone = gone;
          air = all_map (frame_grows grows) v.air;
          moves = λ c. point_set (λ (x : AccessPoint). All (MoveOk s J) x.moves) f b c a (v.moves c) (λ q. h.moves);
          handed = all_map handed_point v.handed;
        }

    -- and the association of the latest join is as before
    module _ (keeps : (n : ℕ) → LastAt n b J → sequence_of s a.associations ≡ row_at s f b) where
      same_there : (n c : ℕ) → LastAt n c J → row_at s (set_point b a f) c ≡ row_at s f c
      same_there n c k =
          point_set (λ (x : AccessPoint). sequence_of s x.associations ≡ row_at s f c) f b c a refl
          (λ q. subst (λ (d : ℕ). sequence_of s a.associations ≡ row_at s f d) q (keeps n (subst (λ (d : ℕ). LastAt n d J) (sym q) k)))

      pub inv_point : Inv s J G L (set_point b a f)
      inv_point = inv_change G (λ n c k e. same_there n c k ∙ v.stays n c k e) (λ n c k e. same_there n c k ∙ v.gone n c k e)

  -- an accepted join of the station: the access point's record anew, with the station's association at the join's number
  module _
      (j : Join)
      (a : AccessPoint)
      (order : InOrder (j ∷ J))
      (fits : j.at < length f.points)
      (row : sequence_of s a.associations ≡ Some j.sequence)
      (held : (n o p : ℕ) → Holds s n o p (access_point_at f j.at).moves → Holds s n o p a.moves)
    where
      pub at_join : row_at s (set_point j.at a f) j.at ≡ Some j.sequence
      at_join = rw (point_set_same f j.at a fits) row

      changed : (c m : ℕ) → row_at s (set_point j.at a f) c ≡ Some m → (row_at s f c ≡ Some m) ⊎ (m ≡ j.sequence)
      changed c m =
          point_set (λ (x : AccessPoint). sequence_of s x.associations ≡ Some m → (row_at s f c ≡ Some m) ⊎ (m ≡ j.sequence)) f j.at c a inl (λ q e. inr cc)

      unchanged : (c : ℕ) → c ≢ j.at → row_at s (set_point j.at a f) c ≡ row_at s f c
      unchanged c h = point_set (λ (x : AccessPoint). sequence_of s x.associations ≡ row_at s f c) f j.at c a refl (λ q. absurd (h (sym q)))

      joined_settled : (c n : ℕ) → Known n J → Settled (row_at s f) c n → Settled (row_at s (set_point j.at a f)) c n
      joined_settled c n k h m e = go (changed c m e)
        where
          go : (row_at s f c ≡ Some m) ⊎ (m ≡ j.sequence) → newer_of n m ≡ false
          go (inl q) = h m q
          go (inr q) = rw q (newer_asym j.sequence n (known_older j.sequence n J order.0 k))

      pub join_grows : Grows J (j ∷ J) (row_at s f) (row_at s (set_point j.at a f))
      join_grows =
          record {
            known = λ n k. inr k;
            settled = joined_settled;
            passed = λ n k h e. fresh_number j.sequence n J order.0 k e;
            elsewhere = λ n c k h e. fresh_number j.sequence n J order.0 k e.0;
          }

      joined_rows : (c m : ℕ) → row_at s (set_point j.at a f) c ≡ Some m → latest c (j ∷ J) ≡ Some m
      unfolding latest
      joined_rows c m e =
          by_cond (λ o. o ≡ Some m) (eqb c j.at)
          (λ q. let x : c ≡ j.at = eqb-true c j.at q in cc at_join)
          (λ q. v.rows c m (sym (unchanged c (eqb-false c j.at q)) ∙ e))

      handed_join : (i : Join) → Known i.sequence J → Handed s L f i → Handed s L (set_point j.at a f) i
      handed_join i k h o e =
          handed_map s L (row_at s f) (row_at s (set_point j.at a f)) (access_point_at f i.at).moves (access_point_at (set_point j.at a f) i.at).moves i.sequence o i.place
          (point_set (λ (x : AccessPoint). Holds s i.sequence o i.place (access_point_at f i.at).moves → HandedTo s L (row_at s f) x.moves i.sequence o i.place) f j.at i.at a inl
          (λ q x. inl (held i.sequence o i.place (subst (λ (d : ℕ). Holds s i.sequence o i.place (access_point_at f d).moves) (sym q) x))))
          (joined_settled o i.sequence k) (h o e)

      pub inv_join :
          All (MoveOk s (j ∷ J)) a.moves
          → Handed s L (set_point j.at a f) j
          → Inv s (j ∷ J) (λ (c : ℕ). false) L (set_point j.at a f)
      unfolding set_point
      inv_join ok new =
          record {
            rows = joined_rows;
            stays = λ n c h e. rw (h.0, h.1) at_join;
            gone = λ n c h e. not_both e refl;
            air = all_map (frame_grows join_grows) v.air;
            moves = λ c. point_set (λ (x : AccessPoint). All (MoveOk s (j ∷ J)) x.moves) f j.at c a (all_map (move_grows join_grows) (v.moves c)) (λ q. ok);
            handed = cons new (all_map2 handed_join (all_known J) v.handed);
          }

-- more moves given up
pub inv_given_up : {s : Station} {J : List Join} {G : ℕ → Bool} {L : GivenUp} {f : Network} (l : GivenUp) → Inv s J G L f → Inv s J G (λ o p. l o p || L o p) f
inv_given_up {s} {J} {G} {L} {f} l v =
    record { rows = v.rows; stays = v.stays; gone = v.gone; air = v.air; moves = v.moves; handed = all_map (λ j h o e. more j o (h o e)) v.handed }
  where
    more : (j : Join) (o : ℕ) → HandedTo s L (row_at s f) (access_point_at f j.at).moves j.sequence o j.place
        → HandedTo s (λ o p. l o p || L o p) (row_at s f) (access_point_at f j.at).moves j.sequence o j.place
    more j o (inl x) = inl x
    more j o (inr (inl x)) = inr (inl (or_true_right (l o j.place) (L o j.place) x))
    more j o (inr (inr x)) = inr (inr x)

-- sending

send_rows : (s : Station) (from : ℕ) (x : Outgoing) (f : Network) → ◌≡◌ {A = View} (row_at s (send from x f)) (row_at s f)
unfolding send set_in_flight access_point_at
send_rows s from x f =
    by_cond (λ (g : Network). ◌≡◌ {A = View} (row_at s g) (row_at s f)) (ltb (length f.in_flight) 64) (λ q. refl) (λ q. refl)

carried_ok : (s : Station) (J : List Join) (R : View) (from : ℕ) (x : Outgoing) → Sendable x.packet → OutgoingOk s J R from x → FrameOk s J R (carried from x)
unfolding carried
carried_ok s J R from x w h p r =
    subst (PacketOk s J R from x.to) (some_inj (ap packet_in (carried_octets from x) ∙ read_write x.packet w) r) h

module _ {s : Station} {J : List Join} {G : ℕ → Bool} {L : GivenUp} where
  inv_send : {f : Network} (from : ℕ) (x : Outgoing) → Sendable x.packet → Inv s J G L f → OutgoingOk s J (row_at s f) from x → Inv s J G L (send from x f)
  unfolding send
  inv_send {f} from x w v h =
      by_cond (Inv s J G L) (ltb (length f.in_flight) 64)
      (λ q. inv_in_flight v (f.in_flight ++ (carried from x ∷ []))
      (all_append v.air (cons (carried_ok s J (row_at s f) from x w h) nil)))
      (λ q. v)

  pub inv_send_all : {f : Network} (from : ℕ) (xs : List Outgoing) → All (λ (x : Outgoing). Sendable x.packet) xs → All (OutgoingOk s J (row_at s f) from) xs → Inv s J G L f → Inv s J G L (send_all from xs f)
  unfolding send_all
  inv_send_all from [] nil nil v = v
  inv_send_all {f} from (x ∷ xs) (cons w ws) (cons h hs) v =
      inv_send_all {f = send from x f} from xs ws (subst (λ (R : View). All (OutgoingOk s J R from) xs) (sym (send_rows s from x f)) hs) (inv_send from x w v h)
