-- What the reader accepts, test by test: a header and data are accepted exactly when the facts named here hold.
-- Assumes nothing.
use Prim.Native.Nat.{ℕ, ◌+◌, ◌≤◌}
use mathlib.Core.Path.{◌≡◌, refl}
use mathlib.Core.List.{List, [], ◌∷◌, map}
use lib.ListN.{length}
use Rattle.lists.specs.Table.{Test, first_of}
use Rattle.lists.proofs.Tables.{tests}
use native.Mathlib.Omega.{arith}
use Rattle.packet.specs.Layout.{version_in, command_in, length_in, address_length_in, sequence_in, context_length_in}
use Rattle.reader.specs.Refusals.{head_tests, data_tests, reader_tests}

-- the reader's table has document 01's numbers, in its order
pub in_order : (s : List ℕ) → map (λ (t : Test). t.1) (reader_tests s) ≡ 1 ∷ 2 ∷ 3 ∷ 4 ∷ 5 ∷ 6 ∷ 7 ∷ 8 ∷ 9 ∷ []
unfolding reader_tests head_tests data_tests
in_order s = refl

-- refusals 1 to 5 do not apply to the header of s
pub record HeaderOk (s : List ℕ) : Type 0 where
  pub octets : 6 ≤ length s
  pub version : version_in s ≡ 0
  pub command : command_in s ≤ 2
  pub whole : length_in s ≤ length s
  pub add : command_in s ≡ 0 → length_in s ≡ 16
  pub move : (command_in s ≡ 0 → ⊥) → 18 ≤ length_in s

-- refusals 6 to 9 do not apply to the data d of a packet with command c, status t and Length n
pub record DataOk (c t n : ℕ) (d : List ℕ) : Type 0 where
  pub address : address_length_in d ≡ 6
  pub sequence : sequence_in d ≤ 4095
  pub status : t ≤ 1
  pub context : (c ≡ 0 → ⊥) → context_length_in d ≤ 64
  pub size : (c ≡ 0 → ⊥) → n ≡ 18 + context_length_in d

pub header_ok : (s : List ℕ) → 0 ≡ first_of (head_tests s) → HeaderOk s
unfolding head_tests
header_ok s e =
    record {
      octets = grind (arith, tests);
      version = grind (arith, tests);
      command = grind (arith, tests);
      whole = grind (arith, tests);
      add = λ z. grind (arith, tests);
      move = λ z. grind (arith, tests);
    }

pub header_passes : (s : List ℕ) → HeaderOk s → first_of (head_tests s) ≡ 0
unfolding head_tests
header_passes s h = grind (arith, tests)

pub data_ok : (c t n : ℕ) (d : List ℕ) → 0 ≡ first_of (data_tests c t n d) → DataOk c t n d
unfolding data_tests
data_ok c t n d e =
    record {
      address = grind (arith, tests);
      sequence = grind (arith, tests);
      status = grind (arith, tests);
      context = λ z. grind (arith, tests);
      size = λ z. grind (arith, tests);
    }

pub data_passes : (c t n : ℕ) (d : List ℕ) → DataOk c t n d → first_of (data_tests c t n d) ≡ 0
unfolding data_tests
data_passes c t n d h = grind (arith, tests)
