-- The calls of one access point alone, by computation: AP 1 of 3, with T = 2 and R = 0.
use Rattle.std.specs.Prelude.{ℕ, ◌≡◌, refl, List, [], ◌∷◌, ◌++◌, replicate}
use Rattle.std.specs.Prelude.{None, Some}
use Rattle.lists.specs.Places.{every}
use Rattle.writer.specs.Write.{octets_of}
use Rattle.machine.specs.Stations.{Station, is_group, same}
use Rattle.machine.specs.Associations.{padded, given, association, sequence_of, held_context, associate}
use Rattle.machine.specs.Packets.{fields_as, written}
use Rattle.machine.specs.Moves.{nothing, counted, counts_after, new_move, opening, notice_of, notices_of, timed, fate, kept_from, kept, resent_by, resends, lapsed_by, lapsed, ticking}
use Rattle.machine.specs.AccessPoint.{with_associations, with_moves, use_identifier, origin_of, needs_move, joined, add_notifies, join_from, tick_by}
use Rattle.machine.specs.Events.{group_address, holds}
use Rattle.machine.specs.Network.{setup_tests}
use Rattle.machine.specs.Lone.{written_all}
use Rattle.machine.specs.Valid.{valid_association, distinct, valid_move, valid_point, valid_setup}
use Rattle.structs.specs.declared.LoneAccessPoint.{LoneAccessPoint}
use Rattle.record.specs.Lens.{named, bare, get_point, put_point}
use Rattle.record.specs.Valid.{valid_record, valid_lone_record}
use Rattle.network.specs.Lens.{new_point}
use Rattle.alone.specs.Told.{Told, reply_with, answered, reply_to, done_alone, acts_unless, set_up_alone, old_named, join_alone, tick_alone, who_alone}
use Rattle.slots.specs.Lists.{over}
use Rattle.structs.specs.Blanks.{no_association, no_move}

-- the station 02 00 00 00 00 01, and a group of stations
abbrev station : Station
station = 2 ∷ 0 ∷ 0 ∷ 0 ∷ 0 ∷ 1 ∷ []

abbrev group : Station
group = 1 ∷ 0 ∷ 0 ∷ 0 ∷ 0 ∷ 1 ∷ []

abbrev new : LoneAccessPoint
new = record { point = new_point; number = 1; ap_count = 3; timeout = 2; resend_limit = 0 }

-- set-up

pub set_up : set_up_alone (record { point = new_point; number = 9; ap_count = 0; timeout = 0; resend_limit = 8 }) 1 3 2 0 ≡ answered 0 new
unfolding set_up_alone valid_setup setup_tests
set_up = refl

pub no_such_number : set_up_alone new 3 3 2 0 ≡ answered 14 new
unfolding set_up_alone valid_setup setup_tests
no_such_number = refl

-- the old AP

pub old_none : old_named 4294967295 ≡ None
unfolding old_named
old_none = refl

pub old_far : old_named 65536 ≡ Some 65535
unfolding old_named
old_far = refl

-- join

-- an ADD-notify of 16 octets
abbrev add : List ℕ
add = 0 ∷ 0 ∷ 0 ∷ 0 ∷ 0 ∷ 16 ∷ 6 ∷ 0 ∷ station ++ (0 ∷ 10 ∷ [])

abbrev join_with : Station → ℕ → ℕ → Told
join_with s n size = join_alone new s n None (171 ∷ []) (replicate size 7)

-- a join that names no old AP: one ADD-notify goes to AP 0 and one to AP 2. A buffer of 31 octets is 10. 13 comes before 7, and 7 before 10
pub replies : (join_with station 10 33).outcome.reply ∷ (join_with station 10 31).outcome.reply ∷ (join_with group 4096 0).outcome.reply ∷ (join_with station 4096 0).outcome.reply ∷ []
    ≡ record { answer = 0; sent = 2; given_up = 0; held = 0; to = 0 ∷ 2 ∷ replicate 6 0; len = 32 } ∷ reply_with 10 ∷ reply_with 13 ∷ reply_with 7 ∷ []
unfolding join_alone acts_unless valid_lone_record valid_record valid_point valid_setup setup_tests get_point new_point every distinct origin_of group_address is_group sequence_of needs_move join_from add_notifies done_alone reply_to written_all written fields_as octets_of padded nothing
replies = refl

-- the two packets stand at the front of the buffer, and its rest stays; refused, it is as it came
pub buffers : (join_with station 10 33).buffer ∷ (join_with station 10 31).buffer ∷ [] ≡ (add ++ add ++ (7 ∷ [])) ∷ replicate 31 7 ∷ []
unfolding join_alone acts_unless valid_lone_record valid_record valid_point valid_setup setup_tests get_point new_point every distinct origin_of group_address is_group sequence_of needs_move join_from add_notifies done_alone reply_to written_all written fields_as octets_of padded nothing
buffers = refl

-- tick and who

-- after a join from AP 0: a move is open, and with R = 0 the second tick gives it up. The row stays
abbrev moved : LoneAccessPoint
moved = (join_alone new station 11 (Some 0) [] (replicate 18 0)).outcome.lone

pub lapses : (let t = (tick_alone moved []).outcome in t.reply ∷ (tick_alone t.lone []).outcome.reply ∷ (who_alone moved station).reply ∷ (who_alone new station).reply ∷ [])
    ≡ reply_with 0
    ∷ record { answer = 0; sent = 0; given_up = 1; held = 0; to = replicate 8 0; len = 0 }
    ∷ record { answer = 0; sent = 0; given_up = 0; held = 1; to = replicate 8 0; len = 0 }
    ∷ reply_with 0
    ∷ []
unfolding join_alone acts_unless valid_lone_record valid_record valid_point valid_association valid_move valid_setup setup_tests get_point put_point over named bare new_point no_association no_move every distinct origin_of group_address is_group sequence_of held_context given association associate same needs_move joined with_associations with_moves use_identifier join_from new_move opening counts_after counted notice_of notices_of tick_by timed fate kept_from kept resent_by resends lapsed_by lapsed ticking tick_alone who_alone holds done_alone reply_to written_all written fields_as octets_of padded nothing
lapses = refl
