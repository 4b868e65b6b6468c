-- What a record to which 14 does not apply grants.
-- Assumes nothing.
use Prim.Native.Nat.{ℕ, ◌<◌, ◌≤◌}
use mathlib.Core.Path.{◌≡◌, refl}
use mathlib.Core.Bool.{true}
use mathlib.Core.List.{List, [], ◌∷◌, map}
use borrow.Author.Tests.{ltb-true}
use denote.Laws.{Is}
use denote.Struct.Declared.{row}
use lib.Dec.{ltb, leb}
use lib.ListN.{length}
use mir.Val.{Val}
use Rattle.lists.specs.Places.{every}
use Rattle.lists.proofs.Choices.{and_left, and_right, and_true}
use Rattle.structs.specs.declared.Move.{Move}
use Rattle.machine.specs.Stations.{Station}
use Rattle.machine.specs.Valid.{valid_association, distinct, valid_move, valid_point, valid_setup}
use Rattle.machine.specs.Lone.{valid_lone}
use Rattle.machine.proofs.Valid.{setup_in}
use Rattle.structs.specs.contracts.AccessPoint as A
use Rattle.structs.specs.declared.AccessPoint.{AccessPoint}
use Rattle.structs.specs.declared.LoneAccessPoint.{LoneAccessPoint}
use Rattle.record.specs.Lens.{named, get_point, get_lone}
use Rattle.structs.specs.Lists.{get_associations, get_moves}
use Rattle.record.specs.Valid.{valid_record, valid_lone_record}
use Rattle.record.proofs.Sizes.{fits}
use Rattle.access_point.proofs.Outsides.{usable}
use Rattle.excerpt.specs.declared.Excerpt.{Excerpt}
use Rattle.excerpt.specs.Excerpts.{Seen, excerpt_of}
use Rattle.sending.specs.Sends.{sequence_within}

-- the sequence numbers of moves within their limits
sequences_within : (k : ℕ) (ms : List Move) → every (valid_move k) (map named ms) ≡ true → every sequence_within ms ≡ true
unfolding every valid_move sequence_within named
sequences_within k [] e = refl
sequences_within k (m ∷ ms) e =
    let h = and_left (valid_move k (named m)) (every (valid_move k) (map named ms)) e in
    and_true _ _ (and_left (leb m.sequence 4095) _ h) (sequences_within k ms (and_right (valid_move k (named m)) (every (valid_move k) (map named ms)) e))

moves_of : (k : ℕ) (a : AccessPoint) → valid_record k a ≡ true → every sequence_within (get_moves a.moves) ≡ true
unfolding valid_record valid_point get_point
moves_of k a e =
    let p = and_right (leb a.moves.count 8) _ (and_right (leb a.associations.count 16) _ e) in
    let q = and_right (every valid_association (get_associations a.associations)) _ (and_right (leb (length (get_associations a.associations)) 16) _ p) in
    sequences_within k (get_moves a.moves) (and_right (leb (length (map named (get_moves a.moves))) 8) _ (and_right (distinct (get_associations a.associations)) _ q))

module _ (l : LoneAccessPoint) (v : valid_lone_record l ≡ true) where
  setup_valid : valid_setup l.ap_count l.timeout l.resend_limit ≡ true
  unfolding valid_lone_record
  setup_valid = and_left _ _ v

  pub few_points : l.ap_count ≤ 8
  unfolding valid_setup
  few_points = (setup_in l.ap_count l.timeout l.resend_limit setup_valid).count.1

  pub number_within : l.number < l.ap_count
  unfolding valid_lone_record
  number_within =
      ltb-true l.number l.ap_count
      (and_left _ _ (and_right (valid_setup l.ap_count l.timeout l.resend_limit) _ v))

  record_valid : valid_record l.ap_count l.point ≡ true
  unfolding valid_lone_record
  record_valid =
      and_right (ltb l.number l.ap_count) _ (and_right (valid_setup l.ap_count l.timeout l.resend_limit) _ v)

  pub moves_within : every sequence_within (get_moves l.point.moves) ≡ true
  moves_within = moves_of l.ap_count l.point record_valid

  -- the machine's test of what is used passes too
  pub machine_valid : valid_lone (get_lone l) ≡ true
  unfolding valid_record valid_lone get_lone valid_lone_record
  machine_valid =
      let q = and_right (valid_setup l.ap_count l.timeout l.resend_limit) _ v in
      let p = and_right (leb l.point.moves.count 8) _ (and_right (leb l.point.associations.count 16) _ record_valid) in
      and_true _ _ setup_valid (and_true _ _ (and_left (ltb l.number l.ap_count) _ q) p)

  -- an excerpt of its point is seen
  pub seen : (vs : List Val) → Is (row A.the_type) l.point vs → (s : Station) (x : Excerpt) → x ≡ excerpt_of s l.point → Seen s l.point x
  seen vs g s x e =
      let u = usable l v in
      let z = fits l.point vs g u in
      record { usable = u; rows = z.associations; moves = z.moves; same = e }
