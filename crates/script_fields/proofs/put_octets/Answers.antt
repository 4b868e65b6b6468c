-- `script_fields::put_octets` meets its contract.
-- Assumes nothing.
use Rattle.std.proofs.Common.{◌≡◌, length, sym, ◌∙◌, arith}
use lib.Seq.{take-length}
use Rattle.script.specs.Fields.{octets_in}
use Rattle.script_fields.proofs.Runs.{octets_length, front_next}
use Rattle.script_fields.proofs.put_octets.Goals as goal

pub bounds-octets-i : goal.bounds-octets-i
bounds-octets-i c = omega (arith, octets_length c.args.f.now)

pub loop-i-preserved : goal.loop-i-preserved
loop-i-preserved c =
    let n = octets_length c.args.f.now in
    rw (c.loop-i.invariant, c.octet_at.ensures) (front_next (octets_in c.args.f.now) c.args.octets.now c.loop-i.i (omega arith) (omega arith))

pub returns-clause-value : goal.returns-clause-value
returns-clause-value c = sym (octets_length c.args.f.now)

pub returns-clause-octets_after : goal.returns-clause-octets_after
returns-clause-octets_after c =
    let e : c.loop-i.i ≡ length (octets_in c.args.f.now) = omega (arith, octets_length c.args.f.now) in
    c.loop-i.invariant ∙ rw (e, take-length (octets_in c.args.f.now))
