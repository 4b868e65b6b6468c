-- Document 01, "Floor rehearsal": a script that comes in pieces. What is known after some of its octets, and what they print; its end is told apart.
use Rattle.std.specs.Prelude.{ℕ, ◌≡◌, refl, ◌≤◌, cond, List, [], ◌∷◌, ◌++◌, eqb, length, take, Bool, true, false, replicate}
use Rattle.lists.specs.Options.{case_option}
use Rattle.lists.specs.Places.{every}
use Rattle.machine.specs.Stations.{same}
use Rattle.machine.specs.Network.{setup_tests}
use Rattle.machine.specs.Valid.{valid_setup}
use Rattle.structs.specs.declared.Network.{Network}
use Rattle.network.specs.Lens.{new_network}
use Rattle.network.specs.Sizes.{Sized}
use Rattle.network.specs.Events.{valid_network_record}
use Rattle.script.specs.Text.{octets_of, split, on_first}
use Rattle.script.specs.Fields.{number_in, is_number, is_plain, value_from}
use Rattle.script.specs.EventLine.{said_fields, said_of, event_in}
use Rattle.script.specs.SetUpLines.{set_up_names, event_names, limited, value_fields, values_in}
use Rattle.script.specs.Result.{result_names, bad_set_up, unreadable}
use Rattle.script.specs.Script.{output_of}
use Rattle.script_runner.specs.Played.{text_in, after_line}
use Rattle.script_feed.specs.declared.Stage.{Stage}
use Rattle.script_feed.specs.declared.Stage.TheVariants.{Names, Values, EventNames, Playing, Ended}
use Rattle.script_feed.specs.declared.State.{State}

-- What is known: which line comes next, the network's record, and the octets since the last 0A, 256 of them at most
pub record Feeding : Type 0 where
  pub stage : Stage
  pub network : Network
  pub pending : List ℕ

-- what is known after a line or an octet more, and what it prints
pub record Turn : Type 0 where
  pub next : Feeding
  pub text : List ℕ

-- between two lines
abbrev pub between : Stage → Network → List ℕ → Turn
between s w t = record { next = record { stage = s; network = w; pending = [] }; text = t }

-- "Bad setup or names lines print `? 14 0 0 - -` after the names and end it."
abbrev pub refused : Network → Turn
refused w = between Ended w (result_names ++ bad_set_up)

-- the line l, which has ended
unfoldable pub line_ended : Stage → Network → List ℕ → Turn
line_ended Names w l = cond (same l set_up_names) (between Values w []) (refused w)
line_ended Values w l = case_option (values_in l) (refused w) (λ v. between EventNames (new_network v.aps v.timeout v.resends) [])
line_ended EventNames w l = cond (same l event_names) (between Playing w result_names) (refused w)
line_ended Playing w l = between Playing (after_line w l) (text_in w l)
line_ended Ended w l = between Ended w []

-- the line that is kept has ended
abbrev pub kept_ended : Feeding → Turn
kept_ended f = line_ended f.stage f.network f.pending

-- an octet. Of an unfinished line 256 are kept: "a longer line is one unreadable line", whatever else it has
unfoldable pub octet_fed : Feeding → ℕ → Turn
octet_fed f x =
    cond (eqb x 10) (kept_ended f)
    (record { next = record { stage = f.stage; network = f.network; pending = take 256 (f.pending ++ (x ∷ [])) }; text = [] })

-- a piece: what is known after it, and what it prints
unfoldable pub fed : Feeding → List ℕ → Feeding
fed f [] = f
fed f (x ∷ xs) = fed (octet_fed f x).next xs

unfoldable pub shown : Feeding → List ℕ → List ℕ
shown f [] = []
shown f (x ∷ xs) = (octet_fed f x).text ++ shown (octet_fed f x).next xs

-- the end of the script: a set-up that is not complete is bad
abbrev pub closing : Stage → List ℕ
closing Names = result_names ++ bad_set_up
closing Values = result_names ++ bad_set_up
closing EventNames = result_names ++ bad_set_up
closing Playing = []
closing Ended = []

-- "(the last 0A may be missing ..)": octets without one are a line
unfoldable pub last_turn : Feeding → Turn
last_turn f = cond (eqb (length f.pending) 0) (record { next = f; text = [] }) (kept_ended f)

unfoldable pub finished : Feeding → List ℕ
finished f = (last_turn f).text ++ closing (last_turn f).next.stage

-- what all pieces print, and then the end
unfoldable pub shown_all : Feeding → List (List ℕ) → List ℕ
shown_all f [] = finished f
shown_all f (p ∷ ps) = shown f p ++ shown_all (fed f p) ps

unfoldable pub joined : List (List ℕ) → List ℕ
joined [] = []
joined (p ∷ ps) = p ++ joined ps

-- THE LAW of a beginning f: in whatever pieces a script comes, they print one after the other, and then its end, what the script prints
abbrev pub CutAnyhow : Feeding → Type 0
CutAnyhow f = (ps : List (List ℕ)) → shown_all f ps ≡ output_of (joined ps)

-- before the first octet, with any record
abbrev pub starting : Network → Feeding
starting w = record { stage = Names; network = w; pending = [] }

-- whether a bad set-up has ended it
abbrev pub ended : Stage → Bool
ended Names = false
ended Values = false
ended EventNames = false
ended Playing = false
ended Ended = true

-- The code's struct

abbrev pub feeding_of : State → Feeding
feeding_of s = record { stage = s.stage; network = s.network; pending = take s.len s.pending }

-- between two pieces 14 does not apply to the record
pub record Good (s : State) : Type 0 where
  pub valid : valid_network_record s.network ≡ true
  pub short : s.len ≤ 256

-- behind a reference, whose type does not say the sizes of its arrays
pub record Held (s : State) : Type 0 where
  pub sized : Sized s.network
  pub valid : valid_network_record s.network ≡ true
  pub short : s.len ≤ 256
  pub size : length s.pending ≡ 256

-- examples

-- a script in pieces of one octet, whose last line has no 0A and is unreadable
abbrev octet_by_octet : List ℕ → List (List ℕ)
octet_by_octet [] = []
octet_by_octet (x ∷ xs) = (x ∷ []) ∷ octet_by_octet xs

pub no_matter_how : (w : Network) → shown_all (starting w) (octet_by_octet (octets_of "APS TIMEOUT RESENDS\n1 1 0\nEVENT AT STATION SEQ OLD CONTEXT\nx"))
    ≡ octets_of "EVENT ANSWER SENT GIVENUP HELD TABLES\n? 18 0 0 - -\n"
unfolding shown_all shown fed octet_fed line_ended finished last_turn same set_up_names event_names values_in value_fields limited split on_first number_in is_number is_plain value_from every valid_setup setup_tests result_names said_of said_fields event_in unreadable
no_matter_how w = refl

-- a bad line of the set-up is answered as soon as it ends, and nothing after it
pub at_once : (w : Network) → shown (starting w) (octets_of "APS\n1 1 0\n") ≡ octets_of "EVENT ANSWER SENT GIVENUP HELD TABLES\n? 14 0 0 - -\n"
unfolding shown octet_fed line_ended same set_up_names result_names bad_set_up
at_once w = refl

-- two lines are no set-up
pub two_lines : (w : Network) → shown_all (starting w) (octets_of "APS TIMEOUT RESENDS\n1 1 0\n" ∷ []) ≡ octets_of "EVENT ANSWER SENT GIVENUP HELD TABLES\n? 14 0 0 - -\n"
unfolding shown_all shown fed octet_fed line_ended finished last_turn same set_up_names values_in value_fields limited split on_first number_in is_number is_plain value_from every valid_setup setup_tests result_names bad_set_up
two_lines w = refl

-- a line of 257 octets, in two pieces
pub over_256 : (w : Network) → shown_all (between Playing w []).next (replicate 200 97 ∷ (replicate 57 97 ++ (10 ∷ [])) ∷ []) ≡ octets_of "? 18 0 0 - -\n"
unfolding shown_all shown fed octet_fed line_ended finished last_turn event_in said_of unreadable
over_256 w = refl
