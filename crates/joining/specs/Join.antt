-- A join at one access point's record: what the code's enums mean, and the one definition that the contract cites.
use Rattle.std.specs.Prelude.{ℕ, Bool, true, false, cond, not, ◌&&◌, List, [], ◌∷◌, nat_le, nat_lt, Result, Ok, Err}
use Rattle.lists.specs.Table.{Test, first_of, accepts}
use Rattle.answers.specs.declared.Refusal.{Refusal}
use Rattle.answers.specs.Numbers.{refusal_number}
use Rattle.sequence.specs.Distance.{newer_of}
use Rattle.machine.specs.Stations.{Station}
use Rattle.machine.specs.Packets.{Outgoing, add_notify, move_notify}
use Rattle.machine.specs.AccessPoint as machine
use Rattle.machine.specs.AccessPoint.{another, this, nowhere, add_notifies, join_from, join_tests}
use Rattle.structs.specs.declared.AccessPoint.{AccessPoint}
use Rattle.record.specs.Lens.{get_point, put_point}
use Rattle.excerpt.specs.Excerpts.{put_back}
use Rattle.structs.specs.declared.Origin.{Origin}
use Rattle.structs.specs.declared.Origin.TheVariants.{Another, This, Nowhere}
use Rattle.joining.specs.declared.Notice.{Notice}
use Rattle.joining.specs.declared.Notice.TheVariants.{Silent, Announce, Notify}
use Rattle.joining.specs.declared.Joined.{Joined}

abbrev pub origin_from : Origin → machine.Origin
origin_from (Another o) = another o
origin_from This = this
origin_from Nowhere = nowhere

-- what is sent by AP b of k: ADD-notify to every other AP, or MOVE-notify to the old AP, for station s and sequence n
abbrev pub sends_by : ℕ → ℕ → Station → ℕ → Notice → List Outgoing
sends_by b k s n Silent = []
sends_by b k s n (Announce i) = add_notifies b (record { identifier = i; station = s; sequence = n; message = add_notify }) 0 k
sends_by b k s n (Notify i o) = record { to = o; packet = record { identifier = i; station = s; sequence = n; message = move_notify } } ∷ []

-- the notice of a join from an origin, with the identifier i
abbrev pub notice_from : machine.Origin → ℕ → Notice
notice_from (another o) i = Notify i o
notice_from this i = Silent
notice_from nowhere i = Announce i

-- the answer, the record afterwards and the notice
pub record Done : Type 0 where
  pub answer : ℕ
  pub point : AccessPoint
  pub notice : Notice

-- the excerpt put back into the record a; refused, a as it came, and nothing is sent
abbrev pub joined_of : AccessPoint → Result Joined Refusal → Done
joined_of a (Ok j) = record { answer = 0; point = put_back a j.after; notice = j.notice }
joined_of a (Err r) = record { answer = refusal_number r; point = a; notice = Silent }

-- 15, 16 and 17, then the machine's join, its record put back; refused, the record is as it came. What the notice sends is what the
-- machine's join sends (`notice_sends` in proofs/Laws.antt).
unfoldable pub join_done : machine.Origin → ℕ → ℕ → ℕ → ℕ → Station → ℕ → List ℕ → AccessPoint → Done
join_done o k t r b s n c a =
    cond (accepts (first_of (join_tests o s n (get_point a))))
    (record { answer = 0; point = put_point a (join_from o k t r 0 b s n c (get_point a)).point; notice = notice_from o a.next_identifier })
    (record { answer = first_of (join_tests o s n (get_point a)); point = a; notice = Silent })

-- the same three tests, where the station's association is at place i of k with the number q, and i is k where there is none: m moves are open
abbrev pub moves_tests : ℕ → Bool → List Test
moves_tests m moving = (moving && nat_le 8 m, 17) ∷ []

unfoldable pub tests_at : ℕ → ℕ → ℕ → ℕ → ℕ → Bool → List Test
tests_at i k q n m moving = (nat_lt i k && not (newer_of n q), 15) ∷ (not (nat_lt i k) && nat_le 16 k, 16) ∷ moves_tests m moving

-- whether a join from this origin needs a move
abbrev pub moving_from : Origin → Bool
moving_from (Another o) = true
moving_from This = false
moving_from Nowhere = false
