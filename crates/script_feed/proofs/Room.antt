-- How long what is printed can be: 32 octets for each octet, and the names and a bad set-up once.
-- Assumes nothing.
use Rattle.std.proofs.Common.{ℕ, ◌+◌, ◌*◌, ◌≤◌, ◌≡◌, refl, List, [], ◌∷◌, ◌++◌, eqb, length, length-append, arith}
use Rattle.lists.proofs.Bools.{by_cond}
use Rattle.lists.proofs.Choices.{by_option}
use Rattle.machine.specs.Stations.{same}
use Rattle.structs.specs.declared.Network.{Network}
use Rattle.script.specs.EventLine.{event_in}
use Rattle.script.specs.SetUpLines.{set_up_names, event_names, values_in}
use Rattle.script.specs.Result.{result_names, bad_set_up}
use Rattle.script_runner.specs.Played.{text_in}
use Rattle.script_runner.proofs.Room.{unreadable_short, result_of_short}
use Rattle.script_feed.specs.declared.Stage.{Stage}
use Rattle.script_feed.specs.declared.Stage.TheVariants.{Names, Values, EventNames, Playing, Ended}
use Rattle.script_feed.specs.Feed.{Feeding, Turn, line_ended, octet_fed, fed, shown, last_turn, closing}

bad_length : length (result_names ++ bad_set_up) ≡ 51
unfolding result_names bad_set_up
bad_length = refl

names_length : length result_names ≡ 38
unfolding result_names
names_length = refl

event_short : (w : Network) (l : List ℕ) → length (text_in w l) ≤ 32
event_short w l = by_option (λ (t : List ℕ). length t ≤ 32) (event_in l) (λ q. unreadable_short) (λ e q. result_of_short e w)

-- the set-up prints once
unfoldable left : Stage → ℕ
left Names = 51
left Values = 51
left EventNames = 51
left Playing = 0
left Ended = 0

abbrev Short : ℕ → Turn → Type 0
Short n t = length t.text + left t.next.stage ≤ n

line_short : (s : Stage) (w : Network) (l : List ℕ) → Short (32 + left s) (line_ended s w l)
unfolding line_ended left
line_short Names w l = by_cond (Short 83) (same l set_up_names) (λ e. omega arith) (λ e. omega (arith, bad_length))
line_short Values w l = by_option (Short 83) (values_in l) (λ e. omega (arith, bad_length)) (λ v e. omega arith)
line_short EventNames w l = by_cond (Short 83) (same l event_names) (λ e. omega (arith, names_length)) (λ e. omega (arith, bad_length))
line_short Playing w l = omega (arith, event_short w l)
line_short Ended w l = omega arith

octet_short : (f : Feeding) (x : ℕ) → Short (32 + left f.stage) (octet_fed f x)
unfolding octet_fed
octet_short f x = by_cond (Short (32 + left f.stage)) (eqb x 10) (λ e. line_short f.stage f.network f.pending) (λ e. omega arith)

shown_left : (f : Feeding) (xs : List ℕ) → length (shown f xs) + left (fed f xs).stage ≤ 32 * length xs + left f.stage
unfolding shown fed
shown_left f [] = omega arith
shown_left f (x ∷ xs) =
    omega (arith, length-append (octet_fed f x).text (shown (octet_fed f x).next xs), octet_short f x, shown_left (octet_fed f x).next xs)

left_most : (s : Stage) → left s ≤ 51
unfolding left
left_most Names = omega arith
left_most Values = omega arith
left_most EventNames = omega arith
left_most Playing = omega arith
left_most Ended = omega arith

pub shown_short : (f : Feeding) (xs : List ℕ) → length (shown f xs) ≤ 32 * length xs + 51
shown_short f xs = omega (arith, shown_left f xs, left_most f.stage)

-- the last line, and the end

text_short : (s : Stage) (w : Network) (l : List ℕ) → length (line_ended s w l).text ≤ 51
unfolding line_ended
text_short Names w l = by_cond (λ (t : Turn). length t.text ≤ 51) (same l set_up_names) (λ e. omega arith) (λ e. omega (arith, bad_length))
text_short Values w l = by_option (λ (t : Turn). length t.text ≤ 51) (values_in l) (λ e. omega (arith, bad_length)) (λ v e. omega arith)
text_short EventNames w l = by_cond (λ (t : Turn). length t.text ≤ 51) (same l event_names) (λ e. omega (arith, names_length)) (λ e. omega (arith, bad_length))
text_short Playing w l = omega (arith, event_short w l)
text_short Ended w l = omega arith

pub last_short : (f : Feeding) → length (last_turn f).text ≤ 51
unfolding last_turn
last_short f = by_cond (λ (t : Turn). length t.text ≤ 51) (eqb (length f.pending) 0) (λ e. omega arith) (λ e. text_short f.stage f.network f.pending)

pub closing_short : (s : Stage) → length (closing s) ≤ 51
closing_short Names = omega (arith, bad_length)
closing_short Values = omega (arith, bad_length)
closing_short EventNames = omega (arith, bad_length)
closing_short Playing = omega arith
closing_short Ended = omega arith
