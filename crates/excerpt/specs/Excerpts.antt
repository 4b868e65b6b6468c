-- An excerpt of an access point's record: what it holds, what an edit makes of the table, and how it is put back.
use Rattle.std.specs.Prelude.{ℕ, ◌≤◌, ◌<◌, ◌≡◌, length, get_or}
use Rattle.lists.specs.Places.{without}
use Rattle.lists.specs.Search.{index_by, placed}
use Rattle.structs.specs.declared.Association.{Association}
use Rattle.machine.specs.Stations.{Station}
use Rattle.structs.specs.declared.Associations.{Associations}
use Rattle.structs.specs.declared.AccessPoint.{AccessPoint}
use Rattle.structs.specs.Blanks.{no_association}
use Rattle.structs.specs.Lists.{get_associations, put_associations}
use Rattle.record.specs.Valid.{Usable}
use Rattle.associations.specs.Rows.{is_of}
use Rattle.excerpt.specs.declared.Edit.{Edit}
use Rattle.excerpt.specs.declared.Edit.TheVariants.{Keep, Place, Remove}
use Rattle.excerpt.specs.declared.Excerpt.{Excerpt}

-- the place of the row of s in the table of a, the number of rows where there is none
abbrev pub place_of : Station → AccessPoint → ℕ
place_of s a = index_by (is_of s) (get_associations a.associations)

-- the excerpt of a for the station s
abbrev pub excerpt_of : Station → AccessPoint → Excerpt
excerpt_of s a =
    record {
      edit = Keep;
      at = place_of s a;
      count = a.associations.count;
      row = get_or (get_associations a.associations) (place_of s a) no_association;
      moves = a.moves;
      next_identifier = a.next_identifier;
      opened = a.opened;
      resent = a.resent;
      answered = a.answered;
      given_up = a.given_up;
    }

-- the excerpt x with the edit e, and the row r for it
abbrev pub with_edit : Edit → Association → Excerpt → Excerpt
with_edit e r x =
    record { edit = e; at = x.at; count = x.count; row = r; moves = x.moves; next_identifier = x.next_identifier; opened = x.opened; resent = x.resent; answered = x.answered; given_up = x.given_up }

-- the table t after an edit at place i with the row r
abbrev pub edited : Edit → ℕ → Association → Associations → Associations
edited Keep i r t = t
edited Place i r t = put_associations t (placed i r (get_associations t))
edited Remove i r t = put_associations t (without i (get_associations t))

-- whether the edit can be done at place i of a table of n rows
abbrev pub Allowed : Edit → ℕ → ℕ → Type 0
Allowed Keep i n = Unit {0}
Allowed Place i n = (i ≤ n) × (i < 16)
Allowed Remove i n = i < n

-- the record a with the excerpt x put back
abbrev pub put_back : AccessPoint → Excerpt → AccessPoint
put_back a x =
    record {
      associations = edited x.edit x.at x.row a.associations;
      moves = x.moves;
      next_identifier = x.next_identifier;
      opened = x.opened;
      resent = x.resent;
      answered = x.answered;
      given_up = x.given_up;
    }

-- x is the excerpt of the record a for the station s, and a is one that the rules may be asked of
pub record Seen (s : Station) (a : AccessPoint) (x : Excerpt) : Type 0 where
  pub usable : Usable a
  pub rows : a.associations.count ≤ length a.associations.items
  pub moves : a.moves.count ≤ length a.moves.items
  pub same : x ≡ excerpt_of s a
