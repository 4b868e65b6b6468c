-- What a line that has ended, and an octet, come to in the code's terms; and that the record stays one to which 14 does not apply.
-- Assumes nothing.
use Rattle.std.proofs.Common.{ℕ, ◌+◌, ◌<◌, ◌≤◌, ◌≡◌, refl, sym, ap, subst, ◌∙◌, Bool, true, false, cond, List, [], ◌∷◌, ◌++◌, Option, None, Some, is_some, eqb, length, length-append, map, take, set, arith, add-one, eq-eqb, ne_eqb}
use lib.Seq.{take_all, take-suc-set, length-take-le, take_at}
use Rattle.std.specs.Cmp.Lexicographic.{pointwise}
use Rattle.lists.specs.Options.{case_option}
use Rattle.lists.specs.Places.{All, nil, cons}
use Rattle.lists.proofs.Bools.{by_cond}
use Rattle.lists.proofs.Choices.{by_option}
use Rattle.lists.proofs.Every.{all_take, all_replicate}
use Rattle.machine.specs.Stations.{same}
use Rattle.machine.specs.Valid.{valid_setup}
use Rattle.machine.proofs.Refusal14.{PointTyped}
use Rattle.structs.specs.declared.AccessPoint.{AccessPoint}
use Rattle.record.specs.Lens.{get_point}
use Rattle.structs.specs.declared.Network.{Network}
use Rattle.network.specs.Lens.{get, new_point, new_network}
use Rattle.network.specs.Sizes.{PointSized}
use Rattle.network.proofs.Reached.{new_valid}
use Rattle.network.proofs.Ready.{Ready}
use Rattle.floor_link.specs.Answered.{Started, set_up_done}
use Rattle.script.specs.SetUpLines.{set_up_names, event_names, values_in}
use Rattle.script.specs.SetUpLines as set_up
use Rattle.script.specs.Result.{result_names, bad_set_up}
use Rattle.script.proofs.Formed.{Of}
use Rattle.script.proofs.Runs.{Limited, values_limited}
use Rattle.script_fields.proofs.Texts.{equal_texts}
use Rattle.script_runner.specs.Played.{text_in, after_line}
use Rattle.script_runner.proofs.Turns.{ready_after}
use Rattle.script_feed.specs.declared.Stage.{Stage}
use Rattle.script_feed.specs.declared.Stage.TheVariants.{Names, Values, EventNames, Playing, Ended}
use Rattle.script_feed.specs.Feed.{Feeding, Turn, between, refused, line_ended, kept_ended, octet_fed, last_turn}
use Rattle.script_feed.proofs.Law.{line_ends}

-- THE VALUES

-- what set-up answers
module _ (l : List ℕ) (v : set_up.Values) (e : values_in l ≡ Some v) where
  limits : valid_setup v.aps v.timeout v.resends ≡ true
  limits = subst (Of Limited) e (values_limited l)

  module _ (x : Started) (u : x ≡ set_up_done v.aps v.timeout v.resends) where
    pub accepted : x.answer ≡ 0
    unfolding set_up_done
    accepted = ap (λ (y : Started). y.answer) u ∙ rw limits

    pub network_new : x.network ≡ new_network v.aps v.timeout v.resends
    unfolding set_up_done
    network_new = ap (λ (y : Started). y.network) u ∙ rw limits

-- A LINE

-- the stage, the record and the text of a turn
pub record Told (u : Turn) (s : Stage) (w : Network) (t : List ℕ) : Type 0 where
  pub stage : u.next.stage ≡ s
  pub network : u.next.network ≡ w
  pub text : u.text ≡ t

pub names_told : (s : Stage) (w : Network) (l n : List ℕ) (b : Bool) → s ≡ Names → b ≡ pointwise eqb l n → n ≡ set_up_names
    → Told (line_ended s w l) (cond b Values Ended) w (cond b [] (result_names ++ bad_set_up))
unfolding line_ended
names_told s w l n b i e f = rw (i, e, f, equal_texts l set_up_names) (go (same l set_up_names))
  where
    go : (b : Bool) → Told (cond b (between Values w []) (refused w)) (cond b Values Ended) w (cond b [] (result_names ++ bad_set_up))
    go true = record { stage = refl; network = refl; text = refl }
    go false = record { stage = refl; network = refl; text = refl }

pub values_told : (s : Stage) (w : Network) (l : List ℕ) → s ≡ Values
    → Told (line_ended s w l) (cond (is_some (values_in l)) EventNames Ended) (case_option (values_in l) w (λ v. new_network v.aps v.timeout v.resends)) (cond (is_some (values_in l)) [] (result_names ++ bad_set_up))
unfolding line_ended
values_told s w l i = rw i (go (values_in l))
  where
    go : (o : Option set_up.Values)
        → Told (case_option o (refused w) (λ v. between EventNames (new_network v.aps v.timeout v.resends) [])) (cond (is_some o) EventNames Ended) (case_option o w (λ v. new_network v.aps v.timeout v.resends))
        (cond (is_some o) [] (result_names ++ bad_set_up))
    go None = record { stage = refl; network = refl; text = refl }
    go (Some v) = record { stage = refl; network = refl; text = refl }

pub event_names_told : (s : Stage) (w : Network) (l n : List ℕ) (b : Bool) → s ≡ EventNames → b ≡ pointwise eqb l n → n ≡ event_names
    → Told (line_ended s w l) (cond b Playing Ended) w (cond b result_names (result_names ++ bad_set_up))
unfolding line_ended
event_names_told s w l n b i e f = rw (i, e, f, equal_texts l event_names) (go (same l event_names))
  where
    go : (b : Bool) → Told (cond b (between Playing w result_names) (refused w)) (cond b Playing Ended) w (cond b result_names (result_names ++ bad_set_up))
    go true = record { stage = refl; network = refl; text = refl }
    go false = record { stage = refl; network = refl; text = refl }

pub playing_told : (s : Stage) (w : Network) (l : List ℕ) → s ≡ Playing → Told (line_ended s w l) Playing (after_line w l) (text_in w l)
unfolding line_ended
playing_told s w l i = rw i (record { stage = refl; network = refl; text = refl })

pub ended_told : (s : Stage) (w : Network) (l : List ℕ) → s ≡ Ended → Told (line_ended s w l) Ended w []
unfolding line_ended
ended_told s w l i = rw i (record { stage = refl; network = refl; text = refl })

-- THE RECORD

point_new : PointSized new_point
unfolding new_point
point_new = record { associations = refl; moves = refl }

point_typed : PointTyped (get_point new_point)
unfolding get_point new_point
point_typed = record { associations = nil; moves = nil; next = omega arith }

points_typed : {xs : List AccessPoint} → All (λ (a : AccessPoint). PointTyped (get_point a)) xs → All PointTyped (map get_point xs)
points_typed nil = nil
points_typed (cons h hs) = cons h (points_typed hs)

module _ (n t r : ℕ) (v : valid_setup n t r ≡ true) where
  new_ready : Ready (new_network n t r)
  unfolding new_network get
  new_ready =
      record {
        sized = record { points = refl; each = all_replicate 8 new_point point_new; air = refl };
        typed = record { points = points_typed (all_take n (all_replicate 8 new_point point_typed)); air = nil };
        valid = new_valid n t r v;
      }

line_ready : (s : Stage) (w : Network) (l : List ℕ) → Ready w → Ready (line_ended s w l).next.network
unfolding line_ended
line_ready Names w l h = by_cond (λ (t : Turn). Ready t.next.network) (same l set_up_names) (λ e. h) (λ e. h)
line_ready Values w l h =
    by_option (λ (t : Turn). Ready t.next.network) (values_in l) (λ e. h) (λ v e. new_ready v.aps v.timeout v.resends (limits l v e))
line_ready EventNames w l h = by_cond (λ (t : Turn). Ready t.next.network) (same l event_names) (λ e. h) (λ e. h)
line_ready Playing w l h = ready_after w l h
line_ready Ended w l h = h

pub octet_ready : (f : Feeding) (x : ℕ) → Ready f.network → Ready (octet_fed f x).next.network
unfolding octet_fed
octet_ready f x h = by_cond (λ (t : Turn). Ready t.next.network) (eqb x 10) (λ e. line_ready f.stage f.network f.pending h) (λ e. h)

-- AN OCTET

pub octet_ends : (f : Feeding) (x : ℕ) → x ≡ 10 → octet_fed f x ≡ kept_ended f
unfolding octet_fed
octet_ends f x e = rw (eq-eqb x 10 e)

pub octet_stays : (f : Feeding) (x : ℕ) → (x ≡ 10 → ⊥) → octet_fed f x ≡ record { next = record { stage = f.stage; network = f.network; pending = take 256 (f.pending ++ (x ∷ [])) }; text = [] }
unfolding octet_fed
octet_stays f x h = rw (ne_eqb x 10 h)

-- after a line nothing is kept
pub line_next : (s : Stage) (w : Network) (l : List ℕ) → record { stage = (line_ended s w l).next.stage; network = (line_ended s w l).next.network; pending = [] } ≡ (line_ended s w l).next
line_next s w l = let u = line_ended s w l in ap (λ (p : List ℕ). record { stage = u.next.stage; network = u.next.network; pending = p }) (sym (line_ends s w l))

-- an octet more is kept, up to 256

pub kept_more : (p : List ℕ) (n x : ℕ) → length p ≡ 256 → n < 256 → take (n + 1) (set p n x) ≡ take 256 (take n p ++ (x ∷ []))
kept_more p n x h l =
    rw (add-one, take-suc-set p n x (omega arith)) (sym (take_all 256 (take n p ++ (x ∷ [])) (omega (arith, length-append (take n p) (x ∷ []), length-take-le n p (omega arith)))))

pub kept_all : (p : List ℕ) (n x : ℕ) → length p ≡ 256 → n ≤ 256 → 256 ≤ n → take n p ≡ take 256 (take n p ++ (x ∷ []))
kept_all p n x h l k = sym (take_at (take n p) (x ∷ []) 256 (omega (arith, length-take-le n p (omega arith))))

-- THE LAST LINE

pub no_last : (f : Feeding) → length f.pending ≡ 0 → last_turn f ≡ record { next = f; text = [] }
unfolding last_turn
no_last f h = rw (eq-eqb (length f.pending) 0 h)

pub a_last : (f : Feeding) → (length f.pending ≡ 0 → ⊥) → last_turn f ≡ kept_ended f
unfolding last_turn
a_last f h = rw (ne_eqb (length f.pending) 0 h)
