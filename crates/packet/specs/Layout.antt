-- Document 01, "Packets": where each field stands. A packet is a list s of octets, its data d "the part that begins at
-- octet 6".
use Rattle.std.specs.Prelude.{ℕ, ◌+◌, Bool, cond, List, eqb, get_or, take, drop}
use Rattle.packet.specs.Octets.{be16}

-- "Header, 6 octets: Version (1) = 00; Command (1) ..; Identifier (2); Length (2), the whole packet with header."
abbrev pub version_in : List ℕ → ℕ
version_in s = get_or s 0 0

abbrev pub command_in : List ℕ → ℕ
command_in s = get_or s 1 0

abbrev pub identifier_in : List ℕ → ℕ
identifier_in s = be16 s 2

abbrev pub length_in : List ℕ → ℕ
length_in s = be16 s 4

abbrev pub data_in : List ℕ → List ℕ
data_in s = drop 6 s

-- "00 ADD-notify, 01 MOVE-notify, 02 MOVE-response"
abbrev pub is_add : ℕ → Bool
is_add c = eqb c 0

abbrev pub is_response : ℕ → Bool
is_response c = eqb c 2

-- "Address Length (1) = 06, Reserved (1), MAC (6), Sequence (2)"
abbrev pub address_length_in : List ℕ → ℕ
address_length_in d = get_or d 0 0

-- "MOVE-response: as MOVE-notify with Status (1) in place of Reserved"; the others have none, and 0 stands for it
abbrev pub status_in : ℕ → List ℕ → ℕ
status_in c d = cond (is_response c) (get_or d 1 0) 0

abbrev pub station_in : List ℕ → List ℕ
station_in d = take 6 (drop 2 d)

abbrev pub sequence_in : List ℕ → ℕ
sequence_in d = be16 d 8

-- "MOVE-notify: the same, then Context Length c (2) and c octets of context": from octet 18 of the packet
abbrev pub context_length_in : List ℕ → ℕ
context_length_in d = be16 d 10

abbrev pub context_start : ℕ
context_start = 18

-- "Length 16", "Length 18 + c"
abbrev pub size_of : ℕ → ℕ → ℕ
size_of c n = cond (is_add c) 16 (18 + n)
