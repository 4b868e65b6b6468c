-- Laws of an excerpt: what it tells of its record, and where it can be put back.
-- Assumes nothing.
use Prim.Native.Nat.{ℕ, ◌<◌, ◌≤◌}
use mathlib.Core.Path.{◌≡◌, sym, ap, subst, ◌∙◌}
use mathlib.Core.List.{List}
use native.Mathlib.Omega.{arith}
use lib.ListN.{length, get_or}
use Rattle.lists.specs.Search.{index_by}
use Rattle.lists.proofs.Search.{index_bound}
use Rattle.structs.specs.declared.AccessPoint.{AccessPoint}
use Rattle.structs.specs.Blanks.{no_association}
use Rattle.structs.specs.Lists.{get_associations}
use lib.Seq.{length-take-le}
use Rattle.record.proofs.LensLaws.{Fits}
use Rattle.associations.specs.Rows.{is_of}
use Rattle.excerpt.specs.declared.Edit.{Edit}
use Rattle.excerpt.specs.declared.Edit.TheVariants.{Place}
use Rattle.excerpt.specs.declared.Excerpt.{Excerpt}
use Rattle.excerpt.specs.Excerpts.{put_back, Allowed, Seen}

-- what an excerpt x of the record a tells of it
module _ (s : List ℕ) (a : AccessPoint) (x : Excerpt) (w : Seen s a x) where
  pub fits : Fits a
  fits = record { associations = w.rows; moves = w.moves }

  pub at_is : x.at ≡ index_by (is_of s) (get_associations a.associations)
  at_is = ap (λ (y : Excerpt). y.at) w.same

  pub count_is : x.count ≡ length (get_associations a.associations)
  count_is = ap (λ (y : Excerpt). y.count) w.same ∙ sym (length-take-le a.associations.count a.associations.items w.rows)

  pub row_is : x.row ≡ get_or (get_associations a.associations) x.at no_association
  row_is = ap (λ (y : Excerpt). y.row) w.same ∙ ap (λ (j : ℕ). get_or (get_associations a.associations) j no_association) (sym at_is)

  pub moves_is : x.moves ≡ a.moves
  moves_is = ap (λ (y : Excerpt). y.moves) w.same

  pub identifier_is : x.next_identifier ≡ a.next_identifier
  identifier_is = ap (λ (y : Excerpt). y.next_identifier) w.same

  pub at_bound : x.at ≤ x.count
  at_bound = omega (arith, at_is, count_is, index_bound (is_of s) (get_associations a.associations))

  pub rows_bound : x.count ≤ 16
  rows_bound = omega (arith, ap (λ (y : Excerpt). y.count) w.same, w.usable.associations)

  -- put back as it came, it changes nothing
  pub back : put_back a x ≡ a
  back = ap (put_back a) w.same

  pub back_allowed : Allowed x.edit x.at a.associations.count
  back_allowed = subst (λ (e : Edit). Allowed e x.at a.associations.count) (sym (ap (λ (y : Excerpt). y.edit) w.same)) tt

  -- a row can be placed where the place is free or a row's
  pub place_allowed : (e : Edit) (i : ℕ) → e ≡ Place → i ≡ x.at → x.at < 16 → Allowed e i a.associations.count
  place_allowed e i f g h =
      subst (λ (d : Edit). Allowed d i a.associations.count) (sym f) (omega (arith, at_bound, ap (λ (y : Excerpt). y.count) w.same), omega arith)
