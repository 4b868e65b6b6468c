-- Document 01, "Refusals by origin", whoever sends a packet: refusals 1 to 9 in its order. The first that applies decides.
use Rattle.std.specs.Prelude.{◌≡◌, refl, ℕ, Bool, map, replicate, ◌+◌, List, [], ◌∷◌, ◌++◌, not, cond, ◌&&◌, ◌||◌, length, ltb, eqb}
use Rattle.lists.specs.Table.{Test, first_of}
use Rattle.packet.specs.Octets.{be16}
use Rattle.packet.specs.Layout.{version_in, command_in, length_in, data_in, is_add, address_length_in, status_in, sequence_in, context_length_in}

-- the header of the packet s
unfoldable pub head_tests : List ℕ → List Test
head_tests s =
    -- 1: "fewer than 6 octets"
    (ltb (length s) 6, 1)
    -- 2: "Version not 00"
    ∷ (not (eqb (version_in s) 0), 2)
    -- 3: "Command above 02"
    ∷ (ltb 2 (command_in s), 3)
    -- 4: "Length above the octets given"
    ∷ (ltb (length s) (length_in s), 4)
    -- 5: "ADD Length not 16, or MOVE Length below 18"
    ∷ (cond (is_add (command_in s)) (not (eqb (length_in s) 16)) (ltb (length_in s) 18), 5)
    ∷ []

-- the data d of any command
abbrev pub front_tests : List ℕ → List Test
front_tests d =
    -- 6: "Address Length not 06"
    (not (eqb (address_length_in d) 6), 6)
    -- 7: "Sequence above 4095"
    ∷ (ltb 4095 (sequence_in d), 7)
    ∷ []

-- "c above 64, or Length not 18 + c": of the data d of a MOVE with Length n
abbrev pub context_off : ℕ → List ℕ → Bool
context_off n d = ltb 64 (context_length_in d) || not (eqb n (18 + context_length_in d))

-- the data d of a packet with Command c, Status t (0 where it has none) and Length n
unfoldable pub data_tests : ℕ → ℕ → ℕ → List ℕ → List Test
data_tests c t n d =
    front_tests d
    -- 8: "Status above 01"
    ++ (ltb 1 t, 8)
    -- 9, of a MOVE
    ∷ (not (is_add c) && context_off n d, 9)
    ∷ []

-- refusals 1 to 9 of the packet s
unfoldable pub reader_tests : List ℕ → List Test
reader_tests s = head_tests s ++ data_tests (command_in s) (status_in (command_in s) (data_in s)) (length_in s) (data_in s)

-- examples: one packet for each refusal, one step past what is read: five octets, Version 01, Command 03, Length 16 of fifteen octets, an
-- ADD-notify of Length 17, Address Length 05, Sequence 4096, Status 02, and Length 19 without context
pub refused_in_order :
    map (λ s. first_of (reader_tests s))
    ((0 ∷ 0 ∷ 0 ∷ 0 ∷ 0 ∷ [])
    ∷ (1 ∷ 0 ∷ 0 ∷ 0 ∷ 0 ∷ 16 ∷ [])
    ∷ (0 ∷ 3 ∷ 0 ∷ 0 ∷ 0 ∷ 16 ∷ [])
    ∷ (0 ∷ 0 ∷ 0 ∷ 0 ∷ 0 ∷ 16 ∷ 6 ∷ 0 ∷ 2 ∷ 0 ∷ 0 ∷ 0 ∷ 0 ∷ 1 ∷ 0 ∷ [])
    ∷ (0 ∷ 0 ∷ 0 ∷ 0 ∷ 0 ∷ 17 ∷ 6 ∷ 0 ∷ 2 ∷ 0 ∷ 0 ∷ 0 ∷ 0 ∷ 1 ∷ 0 ∷ 10 ∷ 0 ∷ [])
    ∷ (0 ∷ 0 ∷ 0 ∷ 0 ∷ 0 ∷ 16 ∷ 5 ∷ 0 ∷ 2 ∷ 0 ∷ 0 ∷ 0 ∷ 0 ∷ 1 ∷ 0 ∷ 10 ∷ [])
    ∷ (0 ∷ 0 ∷ 0 ∷ 0 ∷ 0 ∷ 16 ∷ 6 ∷ 0 ∷ 2 ∷ 0 ∷ 0 ∷ 0 ∷ 0 ∷ 1 ∷ 16 ∷ 0 ∷ [])
    ∷ (0 ∷ 2 ∷ 0 ∷ 0 ∷ 0 ∷ 18 ∷ 6 ∷ 2 ∷ 2 ∷ 0 ∷ 0 ∷ 0 ∷ 0 ∷ 1 ∷ 0 ∷ 10 ∷ 0 ∷ 0 ∷ [])
    ∷ (0 ∷ 1 ∷ 0 ∷ 0 ∷ 0 ∷ 19 ∷ 6 ∷ 0 ∷ 2 ∷ 0 ∷ 0 ∷ 0 ∷ 0 ∷ 1 ∷ 0 ∷ 10 ∷ 0 ∷ 0 ∷ 0 ∷ [])
    ∷ [])
    ≡ 1 ∷ 2 ∷ 3 ∷ 4 ∷ 5 ∷ 6 ∷ 7 ∷ 8 ∷ 9 ∷ []
unfolding reader_tests head_tests data_tests be16
refused_in_order = refl

-- a context of 64 octets is read, and one of 65 is refused
abbrev pub with_context : ℕ → List ℕ
with_context c = (0 ∷ 1 ∷ 0 ∷ 0 ∷ 0 ∷ (18 + c) ∷ 6 ∷ 0 ∷ 2 ∷ 0 ∷ 0 ∷ 0 ∷ 0 ∷ 1 ∷ 0 ∷ 10 ∷ 0 ∷ c ∷ []) ++ replicate c 0

pub contexts_of_64_and_65 : map (λ c. first_of (reader_tests (with_context c))) (64 ∷ 65 ∷ []) ≡ 0 ∷ 9 ∷ []
unfolding reader_tests head_tests data_tests be16
contexts_of_64_and_65 = refl
