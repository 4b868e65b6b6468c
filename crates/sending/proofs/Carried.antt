-- What the writer makes of a packet within the limits, in a buffer of 82 zeros, is the packet as it is carried.
-- Assumes nothing.
use Rattle.std.proofs.Common.{◌≡◌, ℕ, ◌≤◌, List, ◌++◌, length, replicate, length-take, ap, ◌∙◌, arith, le-ltb}
use Rattle.std.specs.Result.{IsOk}
use Rattle.std.specs.Prelude.{Result, Ok, Err}
use Rattle.answers.specs.declared.Refusal.{Refusal}
use Rattle.answers.proofs.Numbers.{refusal_above}
use Rattle.packet.specs.declared.Command.{Command}
use Rattle.packet.specs.declared.Command.TheVariants.{AddNotify, MoveNotify, MoveResponse}
use Rattle.packet.specs.declared.Packet.{Packet}
use Rattle.packet.specs.Fields as packet
use Rattle.packet.specs.Fields.{Fields}
use Rattle.writer.specs.Write.{octets_of, Writing, writing_of, write_to}
use Rattle.machine.specs.Associations.{padded}
use Rattle.machine.specs.Packets.{fields_as}
use Rattle.slots.proofs.Over.{drop_rep}
use Rattle.reader.specs.declared.Received.{Received}
use Rattle.receiving.specs.declared.Reply.{Reply}
use Rattle.receiving.specs.declared.Reply.TheVariants.{Successful, StaleMove}
use Rattle.receiving.specs.Receive.{IsShort}
use Rattle.access_point.specs.Outside.{reply_fields}
use Rattle.access_point.proofs.Written.{Fine, fine_size, written_fine}
use Rattle.sending.specs.Sends.{IsWithin, sent_as}

-- written into 82 zeros
written_whole : (f : Fields) → Fine f → write_to f (replicate 82 0) ≡ record { answer = 0; len = length (octets_of f); buffer = padded 82 (octets_of f) }
unfolding padded
written_whole f h =
    rw (written_fine f (replicate 82 0) h, le-ltb 82 (length (octets_of f)) (fine_size f h))
    (ap (λ (z : List ℕ). record { answer = 0; len = length (octets_of f); buffer = octets_of f ++ z }) (drop_rep (length (octets_of f)) 82 0))

-- w is what the writer answered, and b what the buffer then holds
module _ (f : Fields) (h : length f.station ≡ 6) (k : IsWithin f) (b : List ℕ) where
  fine : Fine f
  fine = record { station = h; sequence = k.0; status = k.1; context = k.2 }

  pub is_written : (w : Result ℕ Refusal) → writing_of w b ≡ write_to f (replicate 82 0) → IsOk w
  is_written (Ok n) e = grind arith
  is_written (Err r) e = absurd (omega (arith, refusal_above r, ap (λ (x : Writing). x.answer) (e ∙ written_whole f fine)))

  pub sent : (from to n : ℕ) → writing_of (Ok n) b ≡ write_to f (replicate 82 0) → record { from = from; to = to; len = n; octets = b } ≡ sent_as from to f
  sent from to n e = ap (λ (z : Writing). record { from = from; to = to; len = z.len; octets = z.buffer }) (e ∙ written_whole f fine)

-- the station is the packet's
pub same_station : (c : Command) (p : Packet) (x : List ℕ) → length p.station ≡ 6 → length (packet.fields_as c p x).station ≡ 6
same_station AddNotify p x h = h
same_station MoveNotify p x h = h
same_station MoveResponse p x h = h

-- the answer to a packet that the reader accepted
pub reply_within : (r : Received) (y : Reply) → IsShort y → r.sequence ≤ 4095 → IsWithin (reply_fields r y)
unfolding fields_as
reply_within r (Successful n c) h q = (q, omega arith, omega (arith, length-take n c))
reply_within r StaleMove h q = (q, omega arith, omega arith)
