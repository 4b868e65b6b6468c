-- Refusal 14 of a record: the tests that a record passes where 14 does not apply. The used lengths are the record's own matter;
-- the rest is the machine's test of the used parts.
use Rattle.std.specs.Prelude.{ℕ, ◌≤◌, ◌≡◌, Bool, true, ◌&&◌, ltb, leb}
use Rattle.lists.specs.Places.{every}
use Rattle.machine.specs.Valid.{valid_association, distinct, valid_point, valid_setup}
use Rattle.structs.specs.declared.AccessPoint.{AccessPoint}
use Rattle.structs.specs.declared.LoneAccessPoint.{LoneAccessPoint}
use Rattle.record.specs.Lens.{get_point}
use Rattle.structs.specs.Lists.{get_associations}

-- one access point's record, where the AP count is k
unfoldable pub valid_record : ℕ → AccessPoint → Bool
valid_record k a = leb a.associations.count 16 && (leb a.moves.count 8 && valid_point k (get_point a))

-- "a used length, size, AP count, T, R, sequence number, ticks or resends left, or AP number"
unfoldable pub valid_lone_record : LoneAccessPoint → Bool
valid_lone_record l =
    valid_setup l.ap_count l.timeout l.resend_limit
    && (ltb l.number l.ap_count && valid_record l.ap_count l.point)

-- what the functions below the entry points ask of a record: used lengths within the arrays, each association within its limits, and
-- no two of one station
pub record Usable (a : AccessPoint) : Type 0 where
  pub associations : a.associations.count ≤ 16
  pub moves : a.moves.count ≤ 8
  pub limits : every valid_association (get_associations a.associations) ≡ true
  pub distinct_stations : distinct (get_associations a.associations) ≡ true
