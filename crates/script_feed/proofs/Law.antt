-- However a script is cut into pieces, what they print one after the other is what the script prints.
-- Assumes nothing.
use Rattle.std.proofs.Common.{ℕ, zero, suc, ◌<◌, ◌≡◌, refl, sym, ap, ◌∙◌, Bool, true, false, cond, ◌&&◌, List, [], ◌∷◌, ◌++◌, append_assoc, append-nil, Option, None, Some, eqb, ltb, length, take, arith, lt-ltb, le-leb, ne_eqb}
use borrow.Author.Tests.{ltb-true, ltb-false}
use lib.ListN.{drop}
use lib.Seq.{take_all, length-take-le}
use Rattle.lists.specs.Options.{case_option}
use Rattle.lists.specs.Places.{All, nil, cons}
use Rattle.lists.proofs.Choices.{by_bool, by_option}
use Rattle.lists.proofs.Bools.{by_cond}
use Rattle.lists.proofs.Every.{all_append}
use Rattle.machine.specs.Stations.{same}
use Rattle.structs.specs.declared.Network.{Network}
use Rattle.network.specs.Lens.{new_network}
use Rattle.script.specs.Text.{on_first, split, lines}
use Rattle.script.specs.EventLine.{said_of, event_in}
use Rattle.script.specs.SetUpLines.{set_up_names, event_names, values_in, set_up_in, event_lines}
use Rattle.script.specs.SetUpLines as set_up
use Rattle.script.specs.Result.{result_names, bad_set_up}
use Rattle.script.specs.Script.{printed, output_of}
use Rattle.script.proofs.Runs.{output_is, output_bad}
use Rattle.script_runner.specs.Played.{after_line}
use Rattle.script_runner.proofs.Turns.{line_printed}
use Rattle.script_feed.specs.declared.Stage.{Stage}
use Rattle.script_feed.specs.declared.Stage.TheVariants.{Names, Values, EventNames, Playing, Ended}
use Rattle.script_feed.specs.Feed.{Feeding, Turn, between, refused, line_ended, octet_fed, fed, shown, closing, last_turn, finished, shown_all, joined, starting}

-- OF A LINE 256 OCTETS ARE ENOUGH

same_long : (l m : List ℕ) → length m < length l → same l m ≡ false
unfolding same
same_long [] m h = absurd (omega arith)
same_long (x ∷ l) [] h = refl
same_long (x ∷ l) (y ∷ m) h = rw (same_long l m (omega arith)) (go (eqb x y))
  where
    go : (b : Bool) → b && false ≡ false
    go true = refl
    go false = refl

module _ (l : List ℕ) (h : 255 < length l) where
  no_names : same l set_up_names ≡ false
  unfolding set_up_names
  no_names = same_long l set_up_names (omega arith)

  no_event_names : same l event_names ≡ false
  unfolding event_names
  no_event_names = same_long l event_names (omega arith)

  no_values : values_in l ≡ None
  unfolding values_in
  no_values = rw (lt-ltb 255 (length l) h)

  no_event : event_in l ≡ None
  unfolding event_in said_of
  no_event = rw (lt-ltb 255 (length l) h)

line_long : (s : Stage) (w : Network) (l m : List ℕ) → 255 < length l → 255 < length m → line_ended s w l ≡ line_ended s w m
unfolding line_ended
line_long Names w l m h k = rw (no_names l h, no_names m k)
line_long Values w l m h k = rw (no_values l h, no_values m k)
line_long EventNames w l m h k = rw (no_event_names l h, no_event_names m k)
line_long Playing w l m h k = rw (no_event l h, no_event m k)
line_long Ended w l m h k = refl

pub line_kept : (s : Stage) (w : Network) (l : List ℕ) → line_ended s w (take 256 l) ≡ line_ended s w l
line_kept s w l =
    by_bool (λ (b : Bool). line_ended s w (take 256 l) ≡ line_ended s w l) (ltb 256 (length l))
    (λ e. let h : 256 < length l = ltb-true 256 (length l) e in line_long s w (take 256 l) l (omega (arith, length-take-le 256 l (omega arith))) (omega arith))
    (λ e. ap (line_ended s w) (take_all 256 l (ltb-false 256 (length l) e)))

pub take_front : (n : ℕ) (a b : List ℕ) → take n (take n a ++ b) ≡ take n (a ++ b)
take_front zero a b = refl
take_front (suc n) [] b = refl
take_front (suc n) (x ∷ a) b = ap (λ (l : List ℕ). x ∷ l) (take_front n a b)

-- PIECES ONE AFTER THE OTHER

pub fed_append : (f : Feeding) (a b : List ℕ) → fed f (a ++ b) ≡ fed (fed f a) b
unfolding fed
fed_append f [] b = refl
fed_append f (x ∷ a) b = fed_append (octet_fed f x).next a b

pub shown_append : (f : Feeding) (a b : List ℕ) → shown f (a ++ b) ≡ shown f a ++ shown (fed f a) b
unfolding fed shown
shown_append f [] b = refl
shown_append f (x ∷ a) b =
    rw (shown_append (octet_fed f x).next a b) (sym (append_assoc (octet_fed f x).text (shown (octet_fed f x).next a) (shown (fed (octet_fed f x).next a) b)))

pieces_joined : (f : Feeding) (ps : List (List ℕ)) → shown_all f ps ≡ shown f (joined ps) ++ finished (fed f (joined ps))
unfolding shown_all joined fed shown
pieces_joined f [] = refl
pieces_joined f (p ∷ ps) =
    rw (pieces_joined (fed f p) ps, shown_append f p (joined ps), fed_append f p (joined ps)) (sym (append_assoc (shown f p) (shown (fed f p) (joined ps)) (finished (fed (fed f p) (joined ps)))))

-- A WHOLE SCRIPT

-- all lines, and the end
unfoldable total : Stage → Network → List (List ℕ) → List ℕ
total s w [] = closing s
total s w (l ∷ ls) = (line_ended s w l).text ++ total (line_ended s w l).next.stage (line_ended s w l).next.network ls

pub line_ends : (s : Stage) (w : Network) (l : List ℕ) → (line_ended s w l).next.pending ≡ []
unfolding line_ended
line_ends Names w l = by_cond (λ (t : Turn). t.next.pending ≡ []) (same l set_up_names) (λ e. refl) (λ e. refl)
line_ends Values w l = by_option (λ (t : Turn). t.next.pending ≡ []) (values_in l) (λ e. refl) (λ v e. refl)
line_ends EventNames w l = by_cond (λ (t : Turn). t.next.pending ≡ []) (same l event_names) (λ e. refl) (λ e. refl)
line_ends Playing w l = refl
line_ends Ended w l = refl

-- octets with no 0A among them
abbrev Within : List ℕ → Type 0
Within l = All (λ (x : ℕ). eqb x 10 ≡ false) l

lines_ended : (p : List ℕ) (x : ℕ) (t : List ℕ) → Within p → eqb x 10 ≡ true → lines (p ++ (x ∷ t)) ≡ p ∷ lines t
unfolding split on_first
lines_ended [] x t h e = rw e
lines_ended (y ∷ p) x t (cons k h) e = rw (k, lines_ended p x t h e)

lines_single : (y : ℕ) (p : List ℕ) → Within (y ∷ p) → lines (y ∷ p) ≡ (y ∷ p) ∷ []
unfolding split on_first
lines_single y [] (cons k h) = rw k
lines_single y (z ∷ p) (cons k h) = rw (k, lines_single z p h)

-- what is known after the octets l of a line that has not ended
abbrev amid : Stage → Network → List ℕ → Feeding
amid s w l = record { stage = s; network = w; pending = take 256 l }

at_end : (s : Stage) (w : Network) (l : List ℕ) → Within l → finished (amid s w l) ≡ total s w (lines l)
unfolding finished last_turn total split
at_end s w [] h = refl
at_end s w (x ∷ l) h =
    let n : eqb (length (take 256 (x ∷ l))) 0 ≡ false = ne_eqb (length (take 256 (x ∷ l))) 0 (λ e. omega (arith, e)) in
    rw (n, line_kept s w (x ∷ l)) (ap (total s w) (sym (lines_single x l h)))

octet_end : (s : Stage) (w : Network) (l : List ℕ) (x : ℕ) → eqb x 10 ≡ true → octet_fed (amid s w l) x ≡ line_ended s w l
unfolding octet_fed
octet_end s w l x e = rw (e, line_kept s w l)

octet_more : (s : Stage) (w : Network) (l : List ℕ) (x : ℕ) → eqb x 10 ≡ false → octet_fed (amid s w l) x ≡ record { next = amid s w (l ++ (x ∷ [])); text = [] }
unfolding octet_fed
octet_more s w l x e = rw (e, take_front 256 l (x ∷ []))

all_lines : (s : Stage) (w : Network) (l t : List ℕ) → Within l → shown (amid s w l) t ++ finished (fed (amid s w l) t) ≡ total s w (lines (l ++ t))
unfolding shown fed total
all_lines s w l [] h = rw (append-nil l) (at_end s w l h)
all_lines s w l (x ∷ t) h =
    by_bool (λ (b : Bool). ((octet_fed (amid s w l) x).text ++ shown (octet_fed (amid s w l) x).next t) ++ finished (fed (octet_fed (amid s w l) x).next t) ≡ total s w (lines (l ++ (x ∷ t)))) (eqb x 10)
    (λ e.
    let u = line_ended s w l in
    let g : u.next ≡ amid u.next.stage u.next.network [] = ap (λ (p : List ℕ). record { stage = u.next.stage; network = u.next.network; pending = p }) (line_ends s w l) in
    let i : shown u.next t ++ finished (fed u.next t) ≡ total u.next.stage u.next.network (lines t) = ap (λ (k : Feeding). shown k t ++ finished (fed k t)) g ∙ all_lines u.next.stage u.next.network [] t nil in
    rw (octet_end s w l x e, lines_ended l x t h e) (append_assoc u.text (shown u.next t) (finished (fed u.next t)) ∙ ap (λ (r : List ℕ). u.text ++ r) i))
    (λ e. rw (octet_more s w l x e) (all_lines s w (l ++ (x ∷ [])) t (all_append h (cons e nil)) ∙ ap (λ (r : List ℕ). total s w (lines r)) (append_assoc l (x ∷ []) t)))

total_playing : (w : Network) (ls : List (List ℕ)) → total Playing w ls ≡ printed w ls
unfolding total line_ended
total_playing w [] = unfold printed in refl
total_playing w (l ∷ ls) = rw (total_playing (after_line w l) ls) (sym (line_printed w l ls))

total_ended : (w : Network) (ls : List (List ℕ)) → total Ended w ls ≡ []
unfolding total line_ended
total_ended w [] = refl
total_ended w (l ∷ ls) = total_ended w ls

-- after a bad line nothing is printed
total_refused : (w : Network) (ls : List (List ℕ)) → (refused w).text ++ total (refused w).next.stage (refused w).next.network ls ≡ result_names ++ bad_set_up
total_refused w ls = rw (total_ended w ls) (append-nil (result_names ++ bad_set_up))

-- what the first three lines say
set_up_three : (a b c : List ℕ) (r : List (List ℕ)) → set_up_in (a ∷ b ∷ c ∷ r) ≡ cond (same a set_up_names && same c event_names) (values_in b) None
unfolding set_up_in
set_up_three a b c r = rw (le-leb 3 (length (a ∷ b ∷ c ∷ r)) (omega arith))

module _ (s : List ℕ) (w : Network) where
  bad : set_up_in (lines s) ≡ None → result_names ++ bad_set_up ≡ output_of s
  bad e = sym (output_bad s e)

  from_names : (c : List ℕ) (r : List (List ℕ)) (v : set_up.Values) → set_up_in (lines s) ≡ cond (same c event_names) (Some v) None → event_lines (lines s) ≡ r
      → total EventNames (new_network v.aps v.timeout v.resends) (c ∷ r) ≡ output_of s
  unfolding total line_ended
  from_names c r v e q = go (same c event_names) e
    where
      n : Network
      n = new_network v.aps v.timeout v.resends

      go : (b : Bool) → set_up_in (lines s) ≡ cond b (Some v) None
          → (cond b (between Playing n result_names) (refused n)).text ++ total (cond b (between Playing n result_names) (refused n)).next.stage (cond b (between Playing n result_names) (refused n)).next.network r ≡ output_of s
      go true e = rw (total_playing n r) (sym (output_is s v e ∙ rw q))
      go false e = total_refused n r ∙ bad e

  from_values : (b c : List ℕ) (r : List (List ℕ)) → set_up_in (lines s) ≡ cond (same c event_names) (values_in b) None → event_lines (lines s) ≡ r
      → total Values w (b ∷ c ∷ r) ≡ output_of s
  unfolding total line_ended
  from_values b c r e q = go (values_in b) e
    where
      turn : Option set_up.Values → Turn
      turn o = case_option o (refused w) (λ v. between EventNames (new_network v.aps v.timeout v.resends) [])

      nothing : (t : Bool) → cond {A = Option set_up.Values} t None None ≡ None
      nothing true = refl
      nothing false = refl

      go : (o : Option set_up.Values) → set_up_in (lines s) ≡ cond (same c event_names) o None → (turn o).text ++ total (turn o).next.stage (turn o).next.network (c ∷ r) ≡ output_of s
      go None e = total_refused w (c ∷ r) ∙ bad (e ∙ nothing (same c event_names))
      go (Some v) e = from_names c r v e q

  only_values : (b : List ℕ) → total Values w (b ∷ []) ≡ result_names ++ bad_set_up
  unfolding total line_ended
  only_values b =
      by_option (λ (t : Turn). t.text ++ total t.next.stage t.next.network [] ≡ result_names ++ bad_set_up) (values_in b) (λ e. total_refused w []) (λ v e. refl)

  after_names : (a : List ℕ) (ls : List (List ℕ)) → (same a set_up_names ≡ true → total Values w ls ≡ output_of s) → (same a set_up_names ≡ false → set_up_in (lines s) ≡ None)
      → total Names w (a ∷ ls) ≡ output_of s
  unfolding total line_ended
  after_names a ls f g =
      by_cond (λ (t : Turn). t.text ++ total t.next.stage t.next.network ls ≡ output_of s) (same a set_up_names) f (λ e. total_refused w ls ∙ bad (g e))

  whole : total Names w (lines s) ≡ output_of s
  unfolding total set_up_in event_lines
  whole = go (lines s) refl
    where
      go : (ls : List (List ℕ)) → lines s ≡ ls → total Names w ls ≡ output_of s
      go [] e = bad (ap set_up_in e)
      go (a ∷ []) e = after_names a [] (λ q. bad (ap set_up_in e)) (λ q. ap set_up_in e)
      go (a ∷ b ∷ []) e = after_names a (b ∷ []) (λ q. only_values b ∙ bad (ap set_up_in e)) (λ q. ap set_up_in e)
      go (a ∷ b ∷ c ∷ r) e =
          after_names a (b ∷ c ∷ r)
          (λ q. from_values b c r (ap set_up_in e ∙ set_up_three a b c r ∙ rw q) (ap (drop 3) e))
          (λ q. ap set_up_in e ∙ set_up_three a b c r ∙ rw q)

-- THE LAW
pub cut_anyhow : (w : Network) (ps : List (List ℕ)) → shown_all (starting w) ps ≡ output_of (joined ps)
cut_anyhow w ps = pieces_joined (starting w) ps ∙ all_lines Names w [] (joined ps) nil ∙ whole (joined ps) w
