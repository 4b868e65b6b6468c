-- `alone::length_of` meets its contract: the packets' lengths together are that of their octets.
-- Assumes nothing.
use Rattle.std.proofs.Common.{◌∙◌, length, ap, arith}
use Rattle.alone.specs.Front.{outbox_octets}
use Rattle.alone.proofs.Packets.{lengths_sum, octets_few}
use Rattle.alone.proofs.length_of.Goals as goal

pub total-requires : goal.total-requires
total-requires c =
    rw (c.used.ensures.elements, lengths_sum _ c.requires.sizes)
    (omega (arith, octets_few _ c.requires.sizes, c.used.ensures.len, ap length c.used.ensures.elements, c.requires.count))

pub returns : goal.returns
unfolding outbox_octets
returns c = c.total.ensures ∙ rw c.used.ensures.elements (lengths_sum _ c.requires.sizes)
