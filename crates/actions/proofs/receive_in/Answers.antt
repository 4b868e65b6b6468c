-- `actions::receive_in` meets its contract: the used octets are read, the record acts, and its answer is what the machine sends.
-- Assumes nothing.
use Rattle.std.proofs.Common.{◌≡◌, true, sym, ap, ◌∙◌, arith}
use borrow.Author.Tests.{eqb-true}
use Rattle.structs.specs.declared.InFlight.{InFlight}
use Rattle.reader.specs.Read.{Reading, reading_of, read_as, read_of}
use Rattle.reader.proofs.Steps.{read_ok, within, start_limit, part_is, part_length, accepted_limits}
use Rattle.machine.specs.Packets.{readable, octets_in}
use Rattle.excerpt.specs.Excerpts.{put_back, Seen}
use Rattle.actions.proofs.Laws.{receive_none, receive_silent, receive_answered}
use Rattle.actions.proofs.receive_in.Goals as goal

-- the packet is in flight, so the reader accepts it
accepted : (p : InFlight) → readable (octets_in p) ≡ true → (read_of (octets_in p)).answer ≡ 0
unfolding readable
accepted p h = eqb-true _ 0 h

pub returns-then-count-at-clause-done : goal.returns-then-count-at-clause-done
returns-then-count-at-clause-done c = receive_none c.args.at c.args.count c.args.p.now c.args.a.now c.if-count-at.true

pub unwrap-r-requires : goal.unwrap-r-requires
unfolding octets_in
unwrap-r-requires c = read_ok c.read.result (octets_in c.args.p.now) c.read.ensures (accepted c.args.p.now (c.requires.len_bound c.if-count-at.false).1)

pub overflow_add-end : goal.overflow_add-end
unfolding octets_in
overflow_add-end c =
    let s = octets_in c.args.p.now in
    let e = (sym (ap read_as c.unwrap-r.ensures) ∙ c.read.ensures) in
    let a = accepted_limits s (ap (λ (r : Reading). r.answer) (sym e)) in
    omega (arith, start_limit s, a.1, ap (λ (r : Reading). r.start) e, ap (λ (r : Reading). r.len) e)

pub slice_bounds-receive-end : goal.slice_bounds-receive-end
unfolding octets_in
slice_bounds-receive-end c =
    let s = octets_in c.args.p.now in
    let e = (sym (ap read_as c.unwrap-r.ensures) ∙ c.read.ensures) in
    omega (arith, within s, ap (λ (r : Reading). r.start) e, ap (λ (r : Reading). r.len) e)

pub receive-h-requires-clause-context_len_bound : goal.receive-h-requires-clause-context_len_bound
unfolding octets_in
receive-h-requires-clause-context_len_bound c =
    let s = octets_in c.args.p.now in
    let e = (sym (ap read_as c.unwrap-r.ensures) ∙ c.read.ensures) in
    let a = accepted_limits s (ap (λ (r : Reading). r.answer) (sym e)) in
    omega (arith, part_length s (reading_of c.unwrap-r.result) e, a.1)

pub response-requires : goal.response-requires
unfolding octets_in
response-requires c =
    let s = octets_in c.args.p.now in
    let e = (sym (ap read_as c.unwrap-r.ensures) ∙ c.read.ensures) in
    let seen : Seen c.unwrap-r.result.station c.args.a.now c.of-x.result = record { usable = c.requires.usable.0; rows = c.requires.usable.1.associations; moves = c.requires.usable.1.moves; same = c.of-x.ensures } in
    let a = accepted_limits s (ap (λ (r : Reading). r.answer) (sym e)) in
    (rw c.in-Some.is at (c.receive-h.ensures.len_bound c.args.a.now seen), omega (arith, a.0, ap (λ (r : Reading). r.sequence) e))

pub store-requires : goal.store-requires
unfolding octets_in
store-requires c =
    let a = c.args.a.now in
    let seen : Seen c.unwrap-r.result.station a c.of-x.result = record { usable = c.requires.usable.0; rows = c.requires.usable.1.associations; moves = c.requires.usable.1.moves; same = c.of-x.ensures } in
    (c.requires.usable.0.associations, c.receive-h.ensures.allowed a seen)

pub returns-in-Some-clause-done : goal.returns-in-Some-clause-done
unfolding octets_in
returns-in-Some-clause-done c =
    let a = c.args.a.now in
    let p = c.args.p.now in
    let r = reading_of c.unwrap-r.result in
    let e = (sym (ap read_as c.unwrap-r.ensures) ∙ c.read.ensures) in
    let seen : Seen c.unwrap-r.result.station a c.of-x.result = record { usable = c.requires.usable.0; rows = c.requires.usable.1.associations; moves = c.requires.usable.1.moves; same = c.of-x.ensures } in
    let h = c.receive-h in
    let part = part_is (octets_in p) r e in
    rw c.store.ensures
    (receive_answered c.args.at c.args.count p a c.if-count-at.false r _ e part (put_back a h.result.after) h.result.reply (h.ensures.result_value a seen) c.in-Some.reply c.in-Some.is c.response.result c.response.ensures c.one.result c.one.ensures)

pub returns-in_default-clause-done : goal.returns-in_default-clause-done
unfolding octets_in
returns-in_default-clause-done c =
    let a = c.args.a.now in
    let p = c.args.p.now in
    let r = reading_of c.unwrap-r.result in
    let e = (sym (ap read_as c.unwrap-r.ensures) ∙ c.read.ensures) in
    let seen : Seen c.unwrap-r.result.station a c.of-x.result = record { usable = c.requires.usable.0; rows = c.requires.usable.1.associations; moves = c.requires.usable.1.moves; same = c.of-x.ensures } in
    let h = c.receive-h in
    let part = part_is (octets_in p) r e in
    rw c.store.ensures
    (receive_silent c.args.at c.args.count p a c.if-count-at.false r _ e part (put_back a h.result.after) h.result.reply (h.ensures.result_value a seen) c.in_default.is c.args.sent.now c.requires.sent_value)
