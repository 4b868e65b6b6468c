-- Packets put into an outbox, one after the other.
-- Assumes nothing.
use Rattle.std.proofs.Common.{◌≡◌, refl, List, [], ◌∷◌, ◌++◌, length, ap, ◌∙◌}
use Rattle.structs.specs.declared.InFlight.{InFlight}
use Rattle.structs.specs.declared.Outbox.{Outbox}
use Prim.Native.Nat.{ℕ}
use Rattle.slots.specs.Lists.{over}
use Rattle.slots.proofs.Laws.{put_more}
use Rattle.in_flight.specs.Post.{outbox_of}
use Rattle.structs.specs.Lists.{no_outbox, get_outbox, put_outbox}
use Rattle.structs.specs.Blanks.{no_in_flight}

-- how many there are
pub outbox_count : (o : Outbox) (xs : List InFlight) → o ≡ outbox_of xs → o.count ≡ length xs
unfolding outbox_of
outbox_count o xs e = ap (λ (o : Outbox). o.count) e

-- none
pub outbox_none : no_outbox ≡ outbox_of []
unfolding outbox_of over
outbox_none = refl

-- with one more
pub outbox_more : (o : Outbox) (xs : List InFlight) (x : InFlight) → o ≡ outbox_of xs → put_outbox o (get_outbox o ++ (x ∷ [])) ≡ outbox_of (xs ++ (x ∷ []))
unfolding outbox_of
outbox_more o xs x e =
    ap (λ (w : Outbox). put_outbox w (get_outbox w ++ (x ∷ []))) e
    ∙ put_more (λ (ps : List InFlight) (n : ℕ). record { items = ps; count = n }) no_in_flight 0 no_outbox.items xs x

-- one packet
pub outbox_one : (o : Outbox) (x : InFlight) → o ≡ no_outbox → put_outbox o (get_outbox o ++ (x ∷ [])) ≡ outbox_of (x ∷ [])
outbox_one o x e = outbox_more o [] x (e ∙ outbox_none)
