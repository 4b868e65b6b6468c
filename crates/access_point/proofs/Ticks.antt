-- A tick at one access point's record is the machine's.
-- Assumes nothing.
use Rattle.std.proofs.Common.{◌≡◌, ℕ, ◌+◌, ◌%◌, ◌^◌, ◌<◌, ◌≤◌, List, [], ◌∷◌, map, length, sym, refl, ap, ◌∙◌, arith}
use lib.ListN.{length-map}
use Rattle.machine.specs.Packets.{Outgoing}
use Rattle.machine.specs.Moves.{Open, counts_after, notice_of, notices_of, kept, resends, lapsed, ticking}
use Rattle.machine.specs.AccessPoint.{with_moves, tick_by}
use Rattle.structs.specs.declared.AccessPoint.{AccessPoint}
use Rattle.record.specs.Lens.{named, bare, get_point}
use Rattle.structs.specs.Lists.{no_moves, get_moves, put_moves}
use Rattle.record.proofs.LensLaws.{Fits, put_parts}
use Rattle.structs.proofs.Lists.{associations_kept}
use Rattle.moves.proofs.Laws.{counted_none, counted_all, resends_few}
use Rattle.access_point.specs.Tick.{tick_done}
use Rattle.structs.specs.declared.Moves.{Moves}
use lib.Seq.{length-take-le}
use Rattle.slots.proofs.Over.{take_over}
use Rattle.structs.specs.Blanks.{no_move}

-- a notice does not tell a move's name
notices_bare : (ms : List Open) → notices_of (map named (map bare ms)) ≡ notices_of ms
unfolding notices_of notice_of named bare
notices_bare [] = refl
notices_bare (m ∷ ms) = ap (λ (l : List Outgoing). notice_of m ∷ l) (notices_bare ms)

-- the moves that are due, as they are held
due_count : (t : ℕ) (a : AccessPoint) (due : Moves) → due ≡ put_moves no_moves (map bare (resends t (map named (get_moves a.moves)))) → due.count ≡ length (resends t (map named (get_moves a.moves)))
due_count t a due e = ap (λ (m : Moves). m.count) e ∙ length-map (resends t (map named (get_moves a.moves))) bare

pub due_few : (t : ℕ) (a : AccessPoint) (due : Moves) → Fits a → a.moves.count ≤ 8
    → due ≡ put_moves no_moves (map bare (resends t (map named (get_moves a.moves)))) → due.count ≤ 8
due_few t a due z h e =
    omega (arith, due_count t a due e, resends_few t (map named (get_moves a.moves)), length-map (get_moves a.moves) named, length-take-le a.moves.count a.moves.items z.moves)

-- what is sent again is the notices of the moves that are due
pub due_sends : (t : ℕ) (a : AccessPoint) → notices_of (map named (get_moves (tick_done t a).due)) ≡ (tick_by t (get_point a)).sends
unfolding tick_done tick_by get_point
due_sends t a =
    let ms : List Open = map named (get_moves a.moves) in
    ap (λ l. notices_of (map named l)) (take_over no_move 0 (map bare (resends t ms)) no_moves.items) ∙ notices_bare (resends t ms)

module _ (t : ℕ) (a : AccessPoint) (z : Fits a) (left due : Moves) (g : ℕ)
    (el : left ≡ put_moves a.moves (map bare (kept t (map named (get_moves a.moves)))))
    (ed : due ≡ put_moves no_moves (map bare (resends t (map named (get_moves a.moves)))))
    (eg : g ≡ length (lapsed t (map named (get_moves a.moves)))) where
  pub ticked : (r v : ℕ) → a.resent < 2 ^ 32 → a.given_up < 2 ^ 32 → r ≡ (a.resent + due.count) % 2 ^ 32 → v ≡ (a.given_up + g) % 2 ^ 32
      → record {
        point = record { associations = a.associations; moves = left; next_identifier = a.next_identifier; opened = a.opened; resent = r; answered = a.answered; given_up = v };
        due = due;
        given_up = g;
      }
      ≡ tick_done t a
  unfolding tick_done tick_by with_moves ticking counts_after get_point
  ticked r v hr hv er ev =
      let ms : List Open = map named (get_moves a.moves) in
      let p =
      put_parts a (tick_by t (get_point a)).point a.associations left a.next_identifier a.opened r a.answered v
      (sym (associations_kept a.associations z.associations)) el refl (sym (counted_none a.opened))
      (er ∙ ap (λ (n : ℕ). (a.resent + n) % 2 ^ 32) (due_count t a due ed) ∙ sym (counted_all a.resent (resends t ms) hr)) (sym (counted_none a.answered))
      (ev ∙ ap (λ (n : ℕ). (a.given_up + n) % 2 ^ 32) eg ∙ sym (counted_all a.given_up (lapsed t ms) hv)) in
      λ k. record { point = p k; due = ed k; given_up = eg k }
