-- The answer to a packet, written into the lent buffer.
-- Assumes nothing.
use Rattle.std.proofs.Common.{◌≡◌, ℕ, ◌≤◌, Bool, true, false, cond, ltb, List, [], ◌++◌, length, drop, sym, refl, ap, ◌∙◌, append-nil, arith, length-take, le-ltb}
use Rattle.std.specs.Prelude.{Option, None, Some, Ok, Err}
use Rattle.answers.specs.declared.Refusal.{Refusal}
use Rattle.answers.proofs.Numbers.{refusal_above}
use Rattle.packet.specs.Fields.{Fields}
use Rattle.writer.specs.Write.{octets_of, Writing, writing_of, write_to}
use Rattle.machine.specs.Packets.{Packet, fields_as, written}
use Rattle.machine.specs.AccessPoint.{answer_to, receive}
use Rattle.machine.specs.Lone.{written_all}
use Rattle.machine.proofs.Wire.{context_in}
use Rattle.structs.specs.declared.AccessPoint.{AccessPoint}
use Rattle.structs.specs.declared.LoneAccessPoint.{LoneAccessPoint}
use Rattle.record.specs.Lens.{get_point, put_point}
use Rattle.record.specs.Valid.{Usable}
use Rattle.record.proofs.LensLaws.{Fits}
use Rattle.receiving.specs.declared.Reply.{Reply}
use Rattle.receiving.specs.declared.Reply.TheVariants.{Successful, StaleMove}
use Rattle.receiving.specs.Receive.{Result, message_in, IsShort, replies_of, handled_by}
use Rattle.access_point.specs.Outside.{Taken, with_record, refused_with, taken_at, answer_done}
use Rattle.access_point.proofs.Written.{Fine, written_fine}

-- the arrays of a record, of its sizes, hold what is used
pub fits : (a : AccessPoint) → (length a.associations.items ≡ 16) × (length a.moves.items ≡ 8) → Usable a → Fits a
fits a n u = record { associations = omega (arith, n.0, u.associations); moves = omega (arith, n.1, u.moves) }

-- the context of an answer
pub answer_context : (y : Reply) → IsShort y → length (context_in (message_in y)) ≤ 64
answer_context (Successful n c) h = omega (arith, length-take n c)
answer_context StaleMove h = omega arith

-- the packet p at the AP l, with the lent buffer b: the record g and the answer o are what the machine's access point does

module _ (l : LoneAccessPoint) (from : ℕ) (p : Packet) (b : List ℕ) (g : AccessPoint) (o : Option Reply)
    (h : record { point = g; sends = replies_of from p o } ≡ handled_by from p l.point) where
  point_is : g ≡ put_point l.point (receive from p (get_point l.point)).point
  unfolding handled_by
  point_is = ap (λ (x : Result). x.point) h

  sends_are : replies_of from p o ≡ (receive from p (get_point l.point)).sends
  unfolding handled_by
  sends_are = ap (λ (x : Result). x.sends) h

  none_sent : o ≡ None → [] ≡ written_all (receive from p (get_point l.point)).sends
  unfolding written_all
  none_sent e = rw (← sends_are, e)

  pub answer_silent : o ≡ None → record { answer = 0; lone = with_record g l; len = 0; buffer = b } ≡ answer_done l from p b
  unfolding answer_done
  answer_silent e = rw (← (none_sent e), point_is, le-ltb (length b) 0 (omega arith))

  -- the answer y: w is what the writer answered, and v what the buffer then holds
  module _ (y : Reply) (e : o ≡ Some y) where
    -- its fields
    abbrev fields : Fields
    fields = fields_as (message_in y) (record { identifier = p.identifier; station = p.station; sequence = p.sequence; message = message_in y })

    one_sent : octets_of fields ≡ written_all (receive from p (get_point l.point)).sends
    unfolding written_all written answer_to
    one_sent = rw (← sends_are, e) (sym (append-nil (octets_of fields)))

    abbrev short : Bool
    short = ltb (length b) (length (octets_of fields))

    by_room : (t : Bool) → short ≡ t
        → cond {A = Taken} t (refused_with 10 l b) (record { answer = 0; lone = with_record g l; len = length (octets_of fields); buffer = octets_of fields ++ drop (length (octets_of fields)) b })
        ≡ answer_done l from p b
    unfolding answer_done
    by_room t q = rw (← one_sent, q, point_is)

    module _ (f : Fine fields) (v : List ℕ) where
      pub answer_refused : (r : Refusal) → writing_of (Err r) v ≡ write_to fields b → taken_at l (Err r) v ≡ answer_done l from p b
      answer_refused r k = go short refl
        where
          go : (t : Bool) → short ≡ t → taken_at l (Err r) v ≡ answer_done l from p b
          go true q = ap (λ (x : Writing). record { answer = x.answer; lone = l; len = 0; buffer = x.buffer }) (rw q at (k ∙ written_fine fields b f)) ∙ by_room true q
          go false q = absurd (omega (arith, refusal_above r, ap (λ (x : Writing). x.answer) (rw q at (k ∙ written_fine fields b f))))

      pub answer_written : (n : ℕ) → writing_of (Ok n) v ≡ write_to fields b → taken_at (with_record g l) (Ok n) v ≡ answer_done l from p b
      answer_written n k = go short refl
        where
          go : (t : Bool) → short ≡ t → taken_at (with_record g l) (Ok n) v ≡ answer_done l from p b
          go true q = absurd (omega (arith, ap (λ (x : Writing). x.answer) (rw q at (k ∙ written_fine fields b f))))
          go false q = ap (λ (x : Writing). record { answer = 0; lone = with_record g l; len = x.len; buffer = x.buffer }) (rw q at (k ∙ written_fine fields b f)) ∙ by_room false q
