-- `alone::outside` meets its contract: what the AP alone answers to a packet, and to whom.
-- Assumes nothing.
use Rattle.std.proofs.Common.{◌≡◌, ℕ, ◌<◌, Bool, true, false, cond, ltb, List, ◌∷◌, ap, ◌∙◌, arith, lt-ltb, le-ltb}
use lib.ListN.{replicate}
use denote.Laws.{Is}
use denote.Struct.Declared.{row}
use mir.Val.{Val}
use Rattle.answers.specs.Numbers.{refusal_number}
use Rattle.record.proofs.Sizes.{fits}
use Rattle.structs.specs.contracts.AccessPoint as A
use Rattle.structs.specs.declared.LoneAccessPoint.{LoneAccessPoint}
use Rattle.access_point.specs.Outside.{Taken, refused_with, outside_done}
use Rattle.access_point.proofs.Outsides.{usable}
use Rattle.alone.specs.Told.{told_of, reply_with, outside_alone}
use Rattle.alone.proofs.Outsides.{tell_taken, outside_told, sender_within}
use Rattle.alone.proofs.outside.Goals as goal

-- what is told of what was taken
told : (l : LoneAccessPoint) (from : ℕ) (s b : List ℕ) (vs : List Val) → Is (row A.the_type) l.point vs → (x : Taken) → x ≡ outside_done l from s b
    → tell_taken from x ≡ outside_alone l from s b
told l from s b vs g x e = ap (tell_taken from) e ∙ outside_told l from s b (λ v. fits l.point vs g (usable l v))

pub overflow_cast-reply : goal.overflow_cast-reply
overflow_cast-reply c =
    let a = c.args in
    let w : a.from < a.lone.ap_count = sender_within a.lone a.from a.packet.now a.buffer.now (omega (arith, ap (λ (x : Taken). x.len) c.in-Ok.ensures.taken_value, c.if-len-gt0.true)) in
    omega (arith, w, c.well_formed)

-- an answer of n octets, or none, was written into what is now v
accepted : (l m : LoneAccessPoint) (from n : ℕ) (s b v : List ℕ) (vs : List Val) → Is (row A.the_type) l.point vs
    → record { answer = 0; lone = m; len = n; buffer = v } ≡ outside_done l from s b
    → (q : Bool) → ltb 0 n ≡ q
    → told_of (record { lone = m; reply = cond q (record { answer = 0; sent = 1; given_up = 0; held = 0; to = from ∷ replicate 7 0; len = n }) (reply_with 0) }) v ≡ outside_alone l from s b
accepted l m from n s b v vs g e q h = rw h at (told l from s b vs g (record { answer = 0; lone = m; len = n; buffer = v }) e)

pub returns-then-len-gt0 : goal.returns-then-len-gt0
returns-then-len-gt0 c =
    let a = c.args in
    rw c.reply_with-reply.ensures
    (accepted a.lone c.outside_at.new.l a.from c.in-Ok.len a.packet.now a.buffer.now c.outside_at.new.buffer _ c.well_formed.0.1.1.0 c.in-Ok.ensures.taken_value true (lt-ltb 0 c.in-Ok.len c.if-len-gt0.true))

pub returns-else-len-gt0 : goal.returns-else-len-gt0
returns-else-len-gt0 c =
    let a = c.args in
    rw c.reply_with-reply.ensures
    (accepted a.lone c.outside_at.new.l a.from c.in-Ok.len a.packet.now a.buffer.now c.outside_at.new.buffer _ c.well_formed.0.1.1.0 c.in-Ok.ensures.taken_value false (le-ltb 0 c.in-Ok.len c.if-len-gt0.false))

pub returns-in-Err : goal.returns-in-Err
returns-in-Err c =
    let a = c.args in
    rw c.reply_with-reply-in-Err.ensures
    (told a.lone a.from a.packet.now a.buffer.now _ c.well_formed.0.1.1.0 (refused_with (refusal_number c.in-Err.refusal) c.outside_at.new.l c.outside_at.new.buffer) c.in-Err.ensures.taken_value)
