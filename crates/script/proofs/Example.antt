-- Document 01's example, by computation: the script and what it prints.
-- Assumes nothing.
use mathlib.Core.Path.{◌≡◌, refl}
use Rattle.lists.specs.Places.{nth, without, every}
use Rattle.sequence.specs.Distance.{distance, newer_of}
use Rattle.packet.specs.Octets.{be16}
use Rattle.reader.specs.Refusals.{head_tests, data_tests, reader_tests}
use Rattle.reader.specs.Read.{read_of, context_of}
use Rattle.machine.specs.Stations.{same, is_group}
use Rattle.machine.specs.Associations.{padded, given, association, sequence_of, held_context, context_octets, associate, dissociate, dissociate_older, dissociate_exactly, fill}
use Rattle.machine.specs.Packets.{fields_as, written, carried, message_of, packet_of, readable, packet_in}
use Rattle.machine.specs.Moves.{nothing, counted, counts_after, new_move, opening, notice_of, notices_of, agrees, earliest, close, answering, timed, fate, kept_from, kept, resent_by, resends, lapsed_by, lapsed, ticking}
use Rattle.machine.specs.AccessPoint.{new_point, with_associations, with_moves, use_identifier, quietly, origin_of, joined, add_notifies, join_from, tick_by, answer_to, answering_with, receive_add, receive_notify, receive_response, receive_by, receive, needs_move}
use Rattle.machine.specs.Network.{setup_tests, new_network, access_point_at, set_point, set_in_flight, send, send_all}
use Rattle.machine.specs.Events.{unknown_point, unknown_packet, group_address, event_tests, refusal, given_up_count, quiet, act, receive_frame, receive_at, holds, held_by, ones_in, accepted, step}
use Rattle.machine.specs.Valid.{valid_setup}
use Rattle.machine.specs.History.{after, begin}
use Rattle.script.specs.Text.{octets_of, on_first, split}
use Rattle.script.specs.Fields.{value_from, is_plain, is_number, number_in, octets_in, station_in, context_in, digit, decimal}
use Rattle.script.specs.EventLine.{named_in, kind_in, number_field, station_field, old_field, context_field, said_with, said_fields, said_of, event_said, event_in}
use Rattle.script.specs.SetUpLines.{set_up_names, event_names, limited, value_fields, values_in, set_up_in, event_lines}
use Rattle.script.specs.Result.{result_names, field, held_fields, result_as, result_of}
use Rattle.script.specs.Script.{printed_by, output_of}
use Rattle.network.specs.Events.{line_of}
use Rattle.writer.specs.Write as packets
use Rattle.machine.specs.Packets as carried

pub example : output_of (octets_of
    "APS TIMEOUT RESENDS\n2 2 1\nEVENT AT STATION SEQ OLD CONTEXT\njoin 0 020000000001 10 - ab\njoin 1 020000000001 11 0 -\nlose 1 - - - -\ntick 1 - - - -\ntick 1 - - - -\ndeliver 1 - - - -\ndeliver 1 - - - -\nwho - 020000000001 - - -\n")
    ≡ octets_of "EVENT ANSWER SENT GIVENUP HELD TABLES\njoin 0 1 0 - -\njoin 0 1 0 - -\nlose 0 0 0 - -\ntick 0 0 0 - -\ntick 0 1 0 - -\ndeliver 0 1 0 - -\ndeliver 0 0 0 - -\nwho 0 0 0 2 1\n"
unfolding nth without every distance newer_of be16 head_tests data_tests reader_tests read_of context_of same is_group padded given association sequence_of held_context context_octets associate dissociate dissociate_older dissociate_exactly fill fields_as written carried message_of packet_of readable packet_in nothing counted counts_after new_move opening notice_of notices_of agrees earliest close answering timed fate kept_from kept resent_by resends lapsed_by lapsed ticking new_point with_associations with_moves use_identifier quietly origin_of joined add_notifies join_from tick_by answer_to answering_with receive_add receive_notify receive_response receive_by receive needs_move setup_tests new_network access_point_at set_point set_in_flight send send_all unknown_point unknown_packet group_address event_tests refusal given_up_count quiet act receive_frame receive_at holds held_by ones_in accepted step valid_setup after begin on_first split value_from is_plain is_number number_in octets_in station_in context_in digit decimal named_in kind_in number_field station_field old_field context_field said_with said_fields said_of event_said event_in set_up_names event_names limited value_fields values_in set_up_in event_lines result_names field held_fields result_as result_of printed_by output_of line_of packets.octets_of carried.octets_in
example = refl
