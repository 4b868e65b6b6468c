-- `floor_link::change` meets its contract: what is stored is the machine's step.
-- Assumes nothing.
use Rattle.std.proofs.Common.{ℕ, ◌≤◌, ◌<◌, ◌≡◌, ◌∙◌, refl, sym, ap, subst, true, false, List, arith}
use lib.ListN.{get_or, set}
use lib.Seq.{set-get_or}
use Rattle.machine.specs.Events.{step}
use Rattle.structs.specs.declared.AccessPoint.{AccessPoint}
use Rattle.structs.specs.declared.InFlights.{InFlights}
use Rattle.structs.specs.declared.Network.{Network}
use Rattle.network.specs.Lens.{get}
use Rattle.network.specs.Events.{valid_network_record, reply_of, refused}
use Rattle.network.proofs.LensLaws.{NetworkFits}
use Rattle.network.proofs.Lent.{valid_fits}
use Rattle.network.specs.Sizes.{PointSized, Sized}
use Rattle.record.specs.Valid.{Usable}
use Rattle.lists.proofs.Every.{all_at}
use Rattle.sending.proofs.Outboxes.{outbox_none}
use Rattle.in_flight.proofs.Posted as packets
use Rattle.std.specs.Prelude.{Result, Ok}
use Rattle.std.proofs.lemmas.Result.{err_from_is_err_and}
use Rattle.answers.specs.declared.Refusal.{Refusal}
use Rattle.answers.specs.Numbers.{refusal_number}
use Rattle.answers.proofs.Numbers.{refusal_above}
use Rattle.actions.specs.Done.{Done, Spans, done_in, unchanged_by}
use Rattle.structs.specs.declared.Event.{Event}
use Rattle.events.specs.Event.{event_from, is_who}
use Rattle.events.specs.Apart.{packet_for, point_for, taken_for, action_for}
use Rattle.events.proofs.Within.{past, setup_within, usable_at, moves_at, few_packets}
use Rattle.events.proofs.Looked.{packet_slot, taken_there, packet_reads, point_there}
use Rattle.events.proofs.Few.{few_sent}
use Rattle.events.proofs.Stored.{refused_stored}
use Rattle.events.proofs.Performed.{performed_by}
use Rattle.floor_link.specs.declared.Line.{Line}
use Rattle.floor_link.specs.Answered.{reply_at, Unchanged}
use Rattle.floor_link.proofs.change.Goals as goal

-- of a record to which 14 does not apply
module _ (w : Network) (z : NetworkFits w) (v : valid_network_record w ≡ true) (e : Event) where
  eight : w.ap_count ≤ 8
  eight = (setup_within w z v).count.1

  -- the packet that is looked at
  slot : (k : ℕ) → k ≡ packet_for e.kind e.at w.in_flight.count → k < 64
  slot k q = rw q (packet_slot e.kind e.at w.in_flight.count (few_packets w z v))

  -- the access point that is looked at
  on_floor : (k b : ℕ) → k ≡ packet_for e.kind e.at w.in_flight.count
      → b ≡ point_for e.kind e.at w.ap_count w.in_flight.count (get_or w.in_flight.items k packets.past).to → b < w.ap_count
  on_floor k b q r = rw (r, q) (point_there w z v e.kind e.at packets.past)

  -- what it sends
  few : (k b : ℕ) (c : List ℕ) (x : Done) → b < w.ap_count
      → x ≡ action_for e.kind e.at e.station e.sequence e.old c w.ap_count w.timeout w.resend_limit w.in_flight.count (get_or w.points b past) (get_or w.in_flight.items k packets.past)
      → x.sent.count ≤ 8
  few k b c x l q =
      let n = ap (λ (y : Done). y.sent.count) q in
      omega (arith, n, few_sent e.kind e.at e.station e.sequence e.old c w.ap_count w.timeout w.resend_limit w.in_flight.count (get_or w.points b past) (get_or w.in_flight.items k packets.past) (usable_at w z v b past l) eight)

  -- refused, nothing is stored
  left : (r : Refusal) (k b : ℕ) (c : List ℕ) → is_who e.kind ≡ false
      → k ≡ packet_for e.kind e.at w.in_flight.count
      → b ≡ point_for e.kind e.at w.ap_count w.in_flight.count (get_or w.in_flight.items k packets.past).to
      → unchanged_by (refusal_number r) (get_or w.points b past) ≡ action_for e.kind e.at e.station e.sequence e.old c w.ap_count w.timeout w.resend_limit w.in_flight.count (get_or w.points b past) (get_or w.in_flight.items k packets.past)
      → refused (refusal_number r) w ≡ reply_of w (step (get w) 0 (event_from e c))
  left r k b c u qk qb qx =
      let x : ℕ = refusal_number r in
      sym (refused_stored w z e.kind e.at e.station e.sequence e.old c b k past (get_or w.in_flight.items k packets.past) x qx (λ q. omega (arith, q, refusal_above r)))
      ∙ performed_by w z v e.at e.station e.sequence e.old c packets.past past e.kind b k (taken_for e.kind e.at w.in_flight.count) (unchanged_by x (get_or w.points b past)) u qk qb refl qx

pub bounds-network-k : goal.bounds-network-k
bounds-network-k c =
    let w = c.args.network.now in
    let v = c.requires.network_value.1 in
    slot w (valid_fits w c.requires.network_value.0 v) v c.args.e c.packet_of-k.result c.packet_of-k.ensures

pub bounds-network-b : goal.bounds-network-b
bounds-network-b c =
    let w = c.args.network.now in
    let v = c.requires.network_value.1 in
    let z : NetworkFits w = valid_fits w c.requires.network_value.0 v in
    omega (arith, on_floor w z v c.args.e c.packet_of-k.result c.point_of-b.result c.packet_of-k.ensures c.point_of-b.ensures, eight w z v c.args.e)

-- the access point's lists, behind the reference
spans : (w : Network) (z : NetworkFits w) → Sized w → valid_network_record w ≡ true → (b : ℕ) → b < w.ap_count → Spans (get_or w.points b past)
spans w z s v b l =
    let u : Usable (get_or w.points b past) = usable_at w z v b past l in
    let p : PointSized (get_or w.points b past) = all_at w.points b past s.each (omega (arith, s.points, l, (setup_within w z v).count.1)) in
    record { associations = omega (arith, u.associations, p.associations); moves = omega (arith, u.moves, p.moves) }

pub act-requires : goal.act-requires
act-requires c =
    let w = c.args.network.now in
    let s = c.requires.network_value.0 in
    let v = c.requires.network_value.1 in
    let z : NetworkFits w = valid_fits w s v in
    let b = c.point_of-b.result in
    let l : b < w.ap_count = on_floor w z v c.args.e c.packet_of-k.result b c.packet_of-k.ensures c.point_of-b.ensures in
    record {
      usable = (usable_at w z v b past l, spans w z s v b l);
      sent_value = c.none-sent.ensures ∙ outbox_none;
      moves_value = (moves_at w z v b past l, eight w z v c.args.e);
      len_bound = rw c.packet_of-k.ensures (packet_reads w z v c.args.e.kind c.args.e.at packets.past);
    }

-- the network with this record of access point b
abbrev with_point : Network → ℕ → AccessPoint → Network
with_point w b a = record { ap_count = w.ap_count; timeout = w.timeout; resend_limit = w.resend_limit; points = set w.points b a; in_flight = w.in_flight }

-- refused, the access point's record is as it came, and so is the network's
as_it_came : (w : Network) (b : ℕ) (a : AccessPoint) → a ≡ get_or w.points b past → with_point w b a ≡ w
as_it_came w b a e =
    ap (λ (x : AccessPoint). with_point w b x) e
    ∙ ap (λ (l : List AccessPoint). record { ap_count = w.ap_count; timeout = w.timeout; resend_limit = w.resend_limit; points = l; in_flight = w.in_flight }) (set-get_or w.points b past)

pub returns-in_err-given_up-clause-reply_value : goal.returns-in_err-given_up-clause-reply_value
unfolding refused
returns-in_err-given_up-clause-reply_value c =
    let w = c.args.network.now in
    let v = c.requires.network_value.1 in
    let z : NetworkFits w = valid_fits w c.requires.network_value.0 v in
    let e = err_from_is_err_and c.from_residual.result c.from_residual.ensures.1 in
    let b = c.point_of-b.result in
    ap (λ (n : Network). reply_at n c.from_residual.result) (as_it_came w b c.act.new.a c.in_err-given_up.ensures.refused)
    ∙ ap (reply_at w) e.1
    ∙ left w z v c.args.e e.0 c.packet_of-k.result b c.args.context.now c.requires.kind_value c.packet_of-k.ensures c.point_of-b.ensures
    (ap (λ (r : Refusal). unchanged_by (refusal_number r) (get_or w.points b past)) e.2 ∙ c.in_err-given_up.ensures.done)

pub returns-in_err-given_up-clause-refused_value : goal.returns-in_err-given_up-clause-refused_value
returns-in_err-given_up-clause-refused_value c =
    let w = c.args.network.now in
    let e = err_from_is_err_and c.from_residual.result c.from_residual.ensures.1 in
    subst (λ (r : Result Line Refusal). Unchanged r (with_point w c.point_of-b.result c.act.new.a) w) (sym e.1) (as_it_came w c.point_of-b.result c.act.new.a c.in_err-given_up.ensures.refused)

pub settle-requires : goal.settle-requires
settle-requires c =
    let w = c.args.network.now in
    let v = c.requires.network_value.1 in
    let z : NetworkFits w = valid_fits w c.requires.network_value.0 v in
    let l : c.point_of-b.result < w.ap_count = on_floor w z v c.args.e c.packet_of-k.result c.point_of-b.result c.packet_of-k.ensures c.point_of-b.ensures in (
      few_packets w z v,
      c.requires.network_value.0.air,
      few w z v c.args.e c.packet_of-k.result c.point_of-b.result c.args.context.now (done_in (get_or w.points c.point_of-b.result past) c.act.new.a c.act.new.sent (Ok c.in_ok-given_up.given_up)) l c.in_ok-given_up.ensures.done,
      λ q. rw c.packet_of-k.ensures (taken_there c.args.e.kind c.args.e.at w.in_flight.count (sym c.takes-taken.ensures ∙ q)),
    )

pub overflow_cast-result : goal.overflow_cast-result
overflow_cast-result c =
    let w = c.args.network.now in
    let v = c.requires.network_value.1 in
    let z : NetworkFits w = valid_fits w c.requires.network_value.0 v in
    let l : c.point_of-b.result < w.ap_count = on_floor w z v c.args.e c.packet_of-k.result c.point_of-b.result c.packet_of-k.ensures c.point_of-b.ensures in
    let f = few w z v c.args.e c.packet_of-k.result c.point_of-b.result c.args.context.now (done_in (get_or w.points c.point_of-b.result past) c.act.new.a c.act.new.sent (Ok c.in_ok-given_up.given_up)) l c.in_ok-given_up.ensures.done in
    omega (arith, f)

pub returns-clause-reply_value : goal.returns-clause-reply_value
returns-clause-reply_value c =
    let w = c.args.network.now in
    let v = c.requires.network_value.1 in
    let z : NetworkFits w = valid_fits w c.requires.network_value.0 v in
    let b = c.point_of-b.result in
    let s = c.act.new.sent in
    -- the record with these packets in flight
    let holding : InFlights → Network = λ i. record { ap_count = w.ap_count; timeout = w.timeout; resend_limit = w.resend_limit; points = set w.points b c.act.new.a; in_flight = i } in
    ap (λ (i : InFlights). record { line = record { answer = 0; sent = s.count; given_up = c.in_ok-given_up.given_up; held = 0; tables = 0 }; network = holding i }) c.settle.ensures
    ∙ performed_by w z v c.args.e.at c.args.e.station c.args.e.sequence c.args.e.old c.args.context.now packets.past past c.args.e.kind b c.packet_of-k.result c.takes-taken.result
    (done_in (get_or w.points b past) c.act.new.a s (Ok c.in_ok-given_up.given_up)) c.requires.kind_value c.packet_of-k.ensures c.point_of-b.ensures c.takes-taken.ensures c.in_ok-given_up.ensures.done
