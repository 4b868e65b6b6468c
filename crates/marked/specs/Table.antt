-- Document 01, "Marked P, shown of the rules themselves in a joint table".
use Rattle.std.specs.Prelude.{ℕ, ◌≡◌, refl, List, [], ◌∷◌, pos, neg_ℤ}
use Rattle.sequence.specs.Distance.{distance}
use Rattle.packet.specs.Octets.{be16}
use Rattle.reader.specs.Refusals.{head_tests, data_tests, reader_tests}
use Rattle.reader.specs.Read.{refused_by, read_of, context_of}

-- P1 distance of 0 from 4095 is 1
pub P1 : distance 0 4095 ≡ pos 1
unfolding distance
P1 = refl

-- P2 10 from 10: 0
pub P2 : distance 10 10 ≡ pos 0
unfolding distance
P2 = refl

-- P3 2047 from 0: 2047
pub P3 : distance 2047 0 ≡ pos 2047
unfolding distance
P3 = refl

-- P4 2048 from 0: −2048
pub P4 : distance 2048 0 ≡ neg_ℤ (pos 2048)
unfolding distance
P4 = refl

-- P5 0 from 2048: −2048
pub P5 : distance 0 2048 ≡ neg_ℤ (pos 2048)
unfolding distance
P5 = refl

-- P6 0 from 2047: −2047
pub P6 : distance 0 2047 ≡ neg_ℤ (pos 2047)
unfolding distance
P6 = refl

-- 02 00 00 00 00 01
abbrev terminal : List ℕ
terminal = 0x02 ∷ 0x00 ∷ 0x00 ∷ 0x00 ∷ 0x00 ∷ 0x01 ∷ []

-- P7 `00 00 00 00 00 10 06 00 02 00 00 00 00 01 00 0A` is ADD, identifier 0, sequence 10
abbrev octets7 : List ℕ
octets7 = 0x00 ∷ 0x00 ∷ 0x00 ∷ 0x00 ∷ 0x00 ∷ 0x10 ∷ 0x06 ∷ 0x00 ∷ 0x02 ∷ 0x00 ∷ 0x00 ∷ 0x00 ∷ 0x00 ∷ 0x01 ∷ 0x00 ∷ 0x0A ∷ []

pub P7 : read_of octets7 ≡ record { answer = 0; command = 0; identifier = 0; status = 0; station = terminal; sequence = 10; start = 0; len = 0 }
unfolding read_of reader_tests head_tests data_tests be16
P7 = refl

-- P8 `00 01 00 00 00 12 06 00 02 00 00 00 00 01 00 0B 00 00` is MOVE-notify, 11
abbrev octets8 : List ℕ
octets8 =
    0x00 ∷ 0x01 ∷ 0x00 ∷ 0x00 ∷ 0x00 ∷ 0x12 ∷ 0x06 ∷ 0x00 ∷ 0x02 ∷ 0x00 ∷ 0x00 ∷ 0x00 ∷ 0x00 ∷ 0x01 ∷ 0x00 ∷ 0x0B ∷ 0x00 ∷ 0x00 ∷ []

pub P8 : read_of octets8 ≡ record { answer = 0; command = 1; identifier = 0; status = 0; station = terminal; sequence = 11; start = 18; len = 0 }
unfolding read_of reader_tests head_tests data_tests be16
P8 = refl

-- P9 `00 02 00 00 00 13 06 00 02 00 00 00 00 01 00 0B 00 01 AB` is SUCCESSFUL with AB
abbrev octets9 : List ℕ
octets9 =
    0x00 ∷ 0x02 ∷ 0x00 ∷ 0x00 ∷ 0x00 ∷ 0x13 ∷ 0x06 ∷ 0x00 ∷ 0x02 ∷ 0x00 ∷ 0x00 ∷ 0x00 ∷ 0x00 ∷ 0x01 ∷ 0x00 ∷ 0x0B ∷ 0x00 ∷ 0x01 ∷ 0xAB ∷ []

pub P9 : read_of octets9 ≡ record { answer = 0; command = 2; identifier = 0; status = 0; station = terminal; sequence = 11; start = 18; len = 1 }
unfolding read_of reader_tests head_tests data_tests be16
P9 = refl

pub P9-context : context_of octets9 ≡ 0xAB ∷ []
unfolding context_of read_of reader_tests head_tests data_tests be16
P9-context = refl

-- P10: P7 with Length 11 hex and one octet more is 5
abbrev octets10 : List ℕ
octets10 =
    0x00 ∷ 0x00 ∷ 0x00 ∷ 0x00 ∷ 0x00 ∷ 0x11 ∷ 0x06 ∷ 0x00 ∷ 0x02 ∷ 0x00 ∷ 0x00 ∷ 0x00 ∷ 0x00 ∷ 0x01 ∷ 0x00 ∷ 0x0A ∷ 0x00 ∷ []

pub P10 : read_of octets10 ≡ refused_by 5
unfolding read_of reader_tests head_tests data_tests be16
P10 = refl

-- P11: P7 with sequence 1000 hex is 7
abbrev octets11 : List ℕ
octets11 = 0x00 ∷ 0x00 ∷ 0x00 ∷ 0x00 ∷ 0x00 ∷ 0x10 ∷ 0x06 ∷ 0x00 ∷ 0x02 ∷ 0x00 ∷ 0x00 ∷ 0x00 ∷ 0x00 ∷ 0x01 ∷ 0x10 ∷ 0x00 ∷ []

pub P11 : read_of octets11 ≡ refused_by 7
unfolding read_of reader_tests head_tests data_tests be16
P11 = refl
