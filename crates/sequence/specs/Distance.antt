-- Document 01, "Sequence numbers": the distance of n from m, and which of two is newer.
use Rattle.std.specs.Prelude.{◌≡◌, ℕ, ◌+◌, ◌-◌, ◌%◌, ◌≤◌, Bool, true, false, ℤ, pos, negsuc, ◌+ℤ◌, ◌*ℤ◌, nat_lt}
use Rattle.std.proofs.Math.IntN.{sub_ℕ}

-- n − m modulo 4096
abbrev pub residue : ℕ → ℕ → ℕ
residue n m = (n + (4096 - m % 4096)) % 4096

-- "The distance of n from m": a residue of 0..2047 stands for itself, one of 2048..4095 for −2048..−1
abbrev pub centred : Bool → ℕ → ℤ
centred true d = pos d
centred false d = negsuc (4095 - d)

unfoldable pub distance : ℕ → ℕ → ℤ
distance n m = centred (nat_lt (residue n m) 2048) (residue n m)

-- What the distance has to be, in document 01's words; `proofs/Laws.antt` shows that it is that number, and the only one.
-- "the whole number in −2048..2047": `negsuc d` is −(d + 1)
abbrev pub InRange : ℤ → Type 0
InRange (pos d) = d ≤ 2047
InRange (negsuc d) = d ≤ 2047

-- "that differs from n − m by a multiple of 4096"
pub record IsDistance (n m : ℕ) (z : ℤ) : Type 0 where
  pub range : InRange z
  pub multiple : ℤ
  pub differs : z ≡ sub_ℕ n m +ℤ pos 4096 *ℤ multiple

-- "at least 1"
abbrev pub positive : ℤ → Bool
positive (pos d) = nat_lt 0 d
positive (negsuc d) = false

-- "n is newer than m when its distance from m is at least 1"
unfoldable pub newer_of : ℕ → ℕ → Bool
newer_of n m = positive (distance n m)
