-- The packets that an action sends have their sizes: its type gives the slots, and what is carried fits them.
-- Assumes nothing.
use Prim.Native.Nat.{ℕ, ◌-◌, ◌≤◌}
use mathlib.Core.Path.{◌≡◌, sym, ap, subst, ◌∙◌}
use mathlib.Core.List.{List, [], ◌∷◌, ◌++◌, map}
use native.Mathlib.Omega.{arith}
use denote.Laws.{Is}
use denote.Struct.Declared.{row}
use mir.Val.{Val}
use lib.ListN.{length, take, replicate, length-append}
use lib.Seq.{take-append_seam}
use Rattle.lists.specs.Table.{Test, first_of, accepts}
use Rattle.lists.specs.Places.{All, nil, cons}
use Rattle.lists.proofs.Bools.{by_cond}
use Rattle.lists.proofs.Every.{all_take}
use Rattle.structs.specs.declared.InFlight.{InFlight}
use Rattle.structs.specs.contracts.InFlight as F
use Rattle.machine.specs.Associations.{padded}
use Rattle.machine.specs.Packets.{Outgoing, written, carried}
use Rattle.machine.specs.AccessPoint as machine
use Rattle.structs.specs.declared.AccessPoint.{AccessPoint}
use Rattle.slots.proofs.Over.{over_new}
use Rattle.network.proofs.Sizes.{each_all}
use Rattle.in_flight.specs.Post.{outbox_of}
use Rattle.structs.specs.Lists.{get_outbox}
use Rattle.in_flight.proofs.Posted.{outbox_got}
use Rattle.actions.specs.declared.Action.{Action}
use Rattle.actions.specs.Done.{Done, done_by, decided}
use Rattle.actions.specs.declared.Joining.{Joining}
use Rattle.actions.specs.contracts.Action as A
use Rattle.alone.specs.Front.{Sized, Packed}
use Rattle.structs.specs.declared.Outbox.{Outbox}
use Rattle.structs.specs.Blanks.{no_in_flight}
use Rattle.actions.specs.contracts.Joining as J
use Rattle.alone.specs.Front.{Sized, Packed, Sends}

-- 82 octets
abbrev Whole : InFlight → Type 0
Whole p = length p.octets ≡ 82

-- what is carried fits its slots
carried_sized : (b : ℕ) (xs : List Outgoing) → All Whole (map (carried b) xs) → All Sized (map (carried b) xs)
unfolding carried padded
carried_sized b [] nil = nil
carried_sized b (x ∷ xs) (cons h hs) =
    let w : List ℕ = written x.packet in
    let l : length w ≤ 82 = omega (arith, h, length-append w (replicate (82 - length w) 0)) in
    cons (record { used = l; slots = h }) (carried_sized b xs hs)

-- an outbox with its eight slots, each of 82 octets
module _ (o : Outbox) (n : length o.items ≡ 8) (ss : All Whole o.items) where
  -- eight packets at most, of 82 octets at most
  packed : (b : ℕ) (ys : List Outgoing) → o ≡ outbox_of (map (carried b) ys) → Packed o
  unfolding outbox_of
  packed b ys e =
      let ps : List InFlight = map (carried b) ys in
      let i : o.items ≡ ps ++ replicate (8 - length ps) no_in_flight = ap (λ (o : Outbox). o.items) e ∙ over_new no_in_flight 8 ps in
      let m : length o.items ≡ length (ps ++ replicate (8 - length ps) no_in_flight) = ap length i in
      let c : o.count ≡ length ps = ap (λ (o : Outbox). o.count) e in
      let t : take (length ps) o.items ≡ ps = ap (λ (l : List InFlight). take (length ps) l) i ∙ take-append_seam ps (replicate (8 - length ps) no_in_flight) in
      let got : get_outbox o ≡ ps = ap get_outbox e ∙ outbox_got ps in
      record {
        count = omega (arith, n, m, c, length-append ps (replicate (8 - length ps) no_in_flight));
        slots = n;
        sizes = subst (All Sized) (sym got) (carried_sized b ys (subst (All Whole) t (all_take (length ps) ss)));
      }

-- what an access point does sends what the AP sends
pub decided_sends : (o : Outbox) (ts : List Test) (b : ℕ) (a : AccessPoint) (y : machine.Action) → o ≡ (decided ts b a y).sent → Sends o
unfolding decided done_by
decided_sends o ts b a y e =
    by_cond (λ (d : Done). o ≡ d.sent → Sends o) (accepts (first_of ts))
    (λ q h. record { from = b; sends = y.sends; same = h })
    (λ q h. record { from = b; sends = []; same = h })
    e

-- and the types of an accepted join and of an action give the slots

pub action_packed : (x : Action) (vs : List Val) → Is (row A.the_type) x vs → Sends x.sent → Packed x.sent
action_packed x vs g h =
    let p = g.1.1.1.0.1.1.0 in
    packed x.sent (p.1.0.1) (each_all (F.the_row).own_val x.sent.items p.0 (λ p u h. h.1.1.1.1.1.0.1.0.1) p.1.1) h.from h.sends h.same

pub join_packed : (x : Joining) (vs : List Val) → Is (row J.the_type) x vs → Sends x.sent → Packed x.sent
join_packed x vs g h =
    let p = g.1.1.1.0.1.1.0 in
    packed x.sent (p.1.0.1) (each_all (F.the_row).own_val x.sent.items p.0 (λ p u h. h.1.1.1.1.1.0.1.0.1) p.1.1) h.from h.sends h.same
