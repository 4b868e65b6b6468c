-- What the writer makes of a packet within the limits: a buffer too short for its octets alone is refused.
-- Assumes nothing.
use Rattle.std.proofs.Common.{◌≡◌, ℕ, ◌+◌, ◌≤◌, Bool, true, false, cond, eqb, ltb, List, [], ◌++◌, length, drop, refl, ◌∙◌, arith, length-append, le-ltb}
use Rattle.lists.proofs.Fronts.{exact_ind}
use Rattle.packet.specs.Octets.{two}
use Rattle.packet.specs.Layout.{is_add}
use Rattle.packet.specs.Fields.{Fields}
use Rattle.writer.specs.Write.{start_of, size_for, octets_of, writer_tests, Writing, write_to}
use Rattle.machine.specs.Packets.{Message, add_notify, move_notify, successful, stale_move, Packet, fields_as}
use Rattle.machine.proofs.Wire.{context_in}

-- fields of which the writer refuses nothing but a short buffer
pub record Fine (f : Fields) : Type 0 where
  pub station : length f.station ≡ 6
  pub sequence : f.sequence ≤ 4095
  pub status : f.status ≤ 1
  pub context : length f.context ≤ 64

pub fine : (x : Message) (p : Packet) → length p.station ≡ 6 → p.sequence ≤ 4095 → length (context_in x) ≤ 64 → Fine (fields_as x p)
unfolding fields_as
fine add_notify p h q c = record { station = h; sequence = q; status = omega arith; context = c }
fine move_notify p h q c = record { station = h; sequence = q; status = omega arith; context = c }
fine (successful x) p h q c = record { station = h; sequence = q; status = omega arith; context = c }
fine stale_move p h q c = record { station = h; sequence = q; status = omega arith; context = c }

-- as many octets as the Length field says
octets_size : (f : Fields) → length f.station ≡ 6 → length (octets_of f) ≡ size_for f
unfolding octets_of
octets_size f h =
    length-append (start_of f.command f.status f.identifier (size_for f) f.station f.sequence) _
    ∙ rw (exact_ind 6 (λ (s : List ℕ). length (start_of f.command f.status f.identifier (size_for f) s f.sequence) ≡ 16) (λ a b c d e g. refl) f.station h)
    (go (is_add f.command))
  where
    go : (b : Bool) → 16 + length (cond b [] (two (length f.context) ++ f.context)) ≡ cond b 16 (18 + length f.context)
    go true = refl
    go false = omega arith

pub fine_size : (f : Fields) → Fine f → length (octets_of f) ≤ 82
fine_size f h = rw (octets_size f h.station) (go (is_add f.command))
  where
    go : (b : Bool) → cond b 16 (18 + length f.context) ≤ 82
    go true = omega arith
    go false = omega (arith, h.context)

-- what the writer makes of such fields
pub written_fine : (f : Fields) (b : List ℕ) → Fine f
    → write_to f b
    ≡ cond (ltb (length b) (length (octets_of f))) (record { answer = 10; len = 0; buffer = b })
    (record { answer = 0; len = length (octets_of f); buffer = octets_of f ++ drop (length (octets_of f)) b })
unfolding write_to writer_tests
written_fine f b h =
    rw (le-ltb 4095 f.sequence h.sequence, le-ltb 1 f.status h.status, le-ltb 64 (length f.context) h.context, octets_size f h.station)
    (go (ltb (length b) (size_for f)))
  where
    go : (t : Bool)
        → cond {A = Writing} (eqb (cond t 10 0) 0) (record { answer = 0; len = size_for f; buffer = octets_of f ++ drop (size_for f) b }) (record { answer = cond t 10 0; len = 0; buffer = b })
        ≡ cond t (record { answer = 10; len = 0; buffer = b }) (record { answer = 0; len = size_for f; buffer = octets_of f ++ drop (size_for f) b })
    go true = refl
    go false = refl
