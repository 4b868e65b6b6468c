-- Packets put in flight, in order of sending.
use Rattle.std.specs.Prelude.{cond, ◌≡◌, refl, List, [], ◌∷◌, ◌++◌, ltb, length, replicate}
use Rattle.structs.specs.declared.Outbox.{Outbox}
use Rattle.structs.specs.declared.InFlight.{InFlight}
use Rattle.structs.specs.Lists.{no_outbox, put_outbox}

-- the packets ps to be sent: every slot past them is blank
unfoldable pub outbox_of : List InFlight → Outbox
outbox_of ps = put_outbox no_outbox ps

-- the packets ps sent where ws are in flight, one by one: "A packet sent when the air has 64 is lost"
unfoldable pub posted : List InFlight → List InFlight → List InFlight
posted [] ws = ws
posted (p ∷ ps) ws = posted ps (cond (ltb (length ws) 64) (ws ++ (p ∷ [])) ws)

-- examples: with 63 in flight the first of two is the last, and the other is lost
pub one_of_two_lost : (p q w : InFlight) → posted (p ∷ q ∷ []) (replicate 63 w) ≡ replicate 63 w ++ (p ∷ [])
unfolding posted
one_of_two_lost p q w = refl
