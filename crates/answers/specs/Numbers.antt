-- Document 01, "Refusals by origin": the number of each refusal, and of an answer. Every contract that speaks of an answer uses this.
use Rattle.std.specs.Prelude.{ℕ, Result, Ok, Err}
use Rattle.answers.specs.declared.Refusal.{Refusal}
use Rattle.answers.specs.declared.Refusal.TheVariants.{PacketTooShort, WrongVersion, UnknownCommand, PacketCut, WrongLength, WrongAddressLength, SequenceOutOfRange, UnknownStatus, WrongContext, BufferTooShort, UnknownAccessPoint, UnknownPacket, GroupAddress, InvalidRecord, NotNewer, TableFull, MovesFull, UnreadableLine}

abbrev pub refusal_number : Refusal → ℕ
-- whoever sends a packet: "fewer than 6 octets"
refusal_number PacketTooShort = 1
-- "Version not 00"
refusal_number WrongVersion = 2
-- "Command above 02"
refusal_number UnknownCommand = 3
-- "Length above the octets given"
refusal_number PacketCut = 4
-- "ADD Length not 16, or MOVE Length below 18"
refusal_number WrongLength = 5
-- "Address Length not 06"
refusal_number WrongAddressLength = 6
-- "Sequence above 4095"
refusal_number SequenceOutOfRange = 7
-- "Status above 01"
refusal_number UnknownStatus = 8
-- "c above 64, or Length not 18 + c"
refusal_number WrongContext = 9
-- "lent buffer shorter than the packet"
refusal_number BufferTooShort = 10
-- "AP number not on the floor"
refusal_number UnknownAccessPoint = 11
-- "no such packet in the air"
refusal_number UnknownPacket = 12
-- "station's first octet odd"
refusal_number GroupAddress = 13
-- set-up, or a record, outside document 01's limits
refusal_number InvalidRecord = 14
-- "a row is there and n isn't newer"
refusal_number NotNewer = 15
-- "no row and 16 rows"
refusal_number TableFull = 16
-- "a move is needed and 8 are open"
refusal_number MovesFull = 17
-- "unreadable line"
refusal_number UnreadableLine = 18

-- a call that is accepted answers 0; what it answers besides does not count
abbrev pub number_of : {A : Type 0} → Result A Refusal → ℕ
number_of (Ok a) = 0
number_of (Err r) = refusal_number r
