-- Two consequences of the renaming theorem: contexts decide nothing, and a network whose moves have no names follows the machine.
-- Assumes nothing.
use Prim.Native.Nat.{ℕ, zero, suc}
use mathlib.Core.Bool.{true}
use mathlib.Core.Path.{◌≡◌, refl, sym, ap, ◌∙◌}
use mathlib.Core.List.{List, [], ◌∷◌, ◌++◌, map}
use lib.ListN.{length, take, drop, replicate, length-map, length-replicate, take-append-drop}
use Rattle.lists.specs.Places.{All, nil, cons}
use Rattle.structs.specs.declared.Association.{Association}
use Rattle.structs.specs.declared.InFlight.{InFlight}
use Rattle.reader.specs.Read.{read_of, context_of}
use Rattle.machine.specs.Packets.{octets_in}
use Rattle.machine.specs.AccessPoint.{AccessPoint, new_point}
use Rattle.machine.specs.Network.{Network, new_network}
use Rattle.machine.specs.Events.{Event, join, leave, deliver, repeat, lose, tick, who, Formed, Outcome, step}
use Rattle.machine.specs.Valid.{valid_setup}
use Rattle.machine.specs.History.{Entry, World, after, run, begin}
use Rattle.machine.proofs.Limits.{Valid}
use Rattle.machine.proofs.Valid.{setup_in, valid_begin, valid_after}
use Rattle.machine.proofs.ChangedOctets.{changed_array, changed_packet, map_in_flight}
use Rattle.machine.proofs.Renaming.{map_association, map_open, map_happened, map_point, map_network, map_event, map_outcome, step_map}

map_same : {A : Type 0} (F : A → A) → ((x : A) → F x ≡ x) → (xs : List A) → map F xs ≡ xs
map_same F e [] = refl
map_same F e (x ∷ xs) = λ k. e x k ∷ map_same F e xs k

abbrev same_name : ℕ → ℕ
same_name n = n

-- Contexts

-- as many zeros
unfoldable pub blank : List ℕ → List ℕ
blank c = replicate (length c) 0

blank_long : (c : List ℕ) → length (blank c) ≡ length c
unfolding blank
blank_long c = length-replicate (length c) 0

-- an event, an entry and a world with each context octet 0
unfoldable pub blank_event : Event → Event
blank_event e = map_event same_name blank e

unfoldable pub blank_entry : Entry → Entry
blank_entry x = record { event = blank_event x.event; outcome = map_outcome same_name blank x.outcome }

unfoldable pub blank_world : World → World
blank_world w = record { network = map_network same_name blank w.network; log = map blank_entry w.log }

blank_after : {C : Type 0} {n : ℕ} (w : World) (e : Event) → Valid C n w.network → Formed e → after (blank_world w) (blank_event e) ≡ blank_world (after w e)
unfolding after blank_world blank_entry blank_event
blank_after w e v z =
    rw (length-map w.log blank_entry, step_map same_name blank blank_long w.network (length w.log) e v z) (unfold map_outcome in refl)

blank_run : {C : Type 0} {n : ℕ} (w : World) (es : List Event) → Valid C n w.network → All Formed es → run (blank_world w) (map blank_event es) ≡ blank_world (run w es)
unfolding run
blank_run w [] v nil = refl
blank_run w (e ∷ es) v (cons z zs) =
    ap (λ (x : World). run x (map blank_event es)) (blank_after w e v z) ∙ blank_run (after w e) es (valid_after w e z v) zs

new_blank : (n : ℕ) → map (map_point same_name blank) (replicate n new_point) ≡ replicate n new_point
unfolding new_point
new_blank zero = refl
new_blank (suc n) = ap (◌∷◌ new_point) (new_blank n)

blank_begin : (n t r : ℕ) → blank_world (begin n t r) ≡ begin n t r
unfolding blank_world begin new_network map_network
blank_begin n t r =
    ap (λ (l : List AccessPoint). record { network = record { points = l; in_flight = []; timeout = t; resend_limit = r }; log = [] }) (new_blank n)

-- Two lists from networks set up alike, that are alike but for context octets: every event's outcome and the network after it are
-- alike but for context octets.
pub contexts_decide_nothing :
    (n t r : ℕ) → valid_setup n t r ≡ true → (es es' : List Event) → All Formed es → All Formed es'
    → map blank_event es ≡ map blank_event es' → blank_world (run (begin n t r) es) ≡ blank_world (run (begin n t r) es')
unfolding valid_setup
contexts_decide_nothing n t r s es es' z z' e = sym (to es z) ∙ ap (run (begin n t r)) e ∙ to es' z'
  where
    to : (l : List Event) → All Formed l → run (begin n t r) (map blank_event l) ≡ blank_world (run (begin n t r) l)
    to l f =
        ap (λ (x : World). run x (map blank_event l)) (sym (blank_begin n t r)) ∙ blank_run {C = Unit {0}} (begin n t r) l (valid_begin n t r (setup_in n t r s)) f

-- Names

abbrev same_context : List ℕ → List ℕ
same_context c = c

module _ (h : ℕ → ℕ) where
  unfoldable pub rename_point : AccessPoint → AccessPoint
  rename_point a = record { associations = a.associations; moves = map (map_open h same_context) a.moves; next_identifier = a.next_identifier; counts = a.counts }

  -- the network with its moves renamed
  unfoldable pub rename_network : Network → Network
  rename_network f = record { points = map rename_point f.points; in_flight = f.in_flight; timeout = f.timeout; resend_limit = f.resend_limit }

  unfoldable pub rename_outcome : Outcome → Outcome
  rename_outcome o =
      record { answer = o.answer; sent = o.sent; at = o.at; happened = map_happened h same_context o.happened; held = o.held; tables = o.tables; network = rename_network o.network }

  row_same : (r : Association) → map_association h same_context r ≡ r
  unfolding map_association changed_array
  row_same r = λ k. record { station = r.station; sequence = r.sequence; context_len = r.context_len; context = take-append-drop r.context_len r.context k }

  packet_same : (s : List ℕ) → changed_packet same_context s ≡ s
  unfolding changed_packet context_of
  packet_same s =
      ap (λ (r : List ℕ). take (read_of s).start s ++ r) (take-append-drop (read_of s).len (drop (read_of s).start s)) ∙ take-append-drop (read_of s).start s

  frame_same : (w : InFlight) → map_in_flight same_context w ≡ w
  unfolding map_in_flight octets_in
  frame_same w =
      λ k. record { from = w.from; to = w.to; len = w.len; octets = (ap (λ (s : List ℕ). s ++ drop w.len w.octets) (packet_same (take w.len w.octets)) ∙ take-append-drop w.len w.octets) k }

  points_same : (l : List AccessPoint) → map (map_point h same_context) l ≡ map rename_point l
  unfolding rename_point
  points_same [] = refl
  points_same (a ∷ more) =
      λ k. record { associations = map_same (map_association h same_context) row_same a.associations k; moves = map (map_open h same_context) a.moves; next_identifier = a.next_identifier; counts = a.counts } ∷ points_same more k

  network_same : (f : Network) → map_network h same_context f ≡ rename_network f
  unfolding map_network rename_network
  network_same f = λ k. record { points = points_same f.points k; in_flight = map_same (map_in_flight same_context) frame_same f.in_flight k; timeout = f.timeout; resend_limit = f.resend_limit }

  event_same : (e : Event) → map_event h same_context e ≡ e
  unfolding map_event
  event_same (join b s n old c) = refl
  event_same (leave b s) = refl
  event_same (deliver k) = refl
  event_same (repeat k) = refl
  event_same (lose k) = refl
  event_same (tick b) = refl
  event_same (who s) = refl

  outcome_same : (o : Outcome) → map_outcome h same_context o ≡ rename_outcome o
  unfolding map_outcome rename_outcome
  outcome_same o =
      ap (λ (f : Network). record { answer = o.answer; sent = o.sent; at = o.at; happened = map_happened h same_context o.happened; held = o.held; tables = o.tables; network = f }) (network_same o.network)

  -- no rule reads a move's name
  pub step_renamed : {C : Type 0} {n : ℕ} (f : Network) (name : ℕ) (e : Event) → Valid C n f → Formed e → step (rename_network f) (h name) e ≡ rename_outcome (step f name e)
  step_renamed f name e v z =
      ap (λ (x : Network). step x (h name) e) (sym (network_same f)) ∙ ap (step (map_network h same_context f) (h name)) (sym (event_same e))
      ∙ step_map h same_context (λ c. refl) f name e v z ∙ outcome_same (step f name e)

abbrev no_name : ℕ → ℕ
no_name n = 0

-- the network as a record with no names of moves holds it
unfoldable pub nameless : Network → Network
nameless f = rename_network no_name f

-- a program whose contract for one event is `step`, over a list
unfoldable pub follow : Network → List Event → Network
follow f [] = f
follow f (e ∷ es) = follow (step f 0 e).network es

follow_after : {C : Type 0} {n : ℕ} (w : World) (e : Event) → Valid C n w.network → Formed e → (step (nameless w.network) 0 e).network ≡ nameless (after w e).network
unfolding nameless rename_outcome after
follow_after w e v z = ap (λ (o : Outcome). o.network) (step_renamed no_name w.network (length w.log) e v z)

follow_run : {C : Type 0} {n : ℕ} (w : World) (es : List Event) → Valid C n w.network → All Formed es → follow (nameless w.network) es ≡ nameless (run w es).network
unfolding follow run
follow_run w [] v nil = refl
follow_run w (e ∷ es) v (cons z zs) =
    ap (λ (f : Network). follow f es) (follow_after w e v z) ∙ follow_run (after w e) es (valid_after w e z v) zs

new_renamed : (n : ℕ) → map (rename_point no_name) (replicate n new_point) ≡ replicate n new_point
unfolding new_point rename_point
new_renamed zero = refl
new_renamed (suc n) = ap (◌∷◌ new_point) (new_renamed n)

pub nameless_follows : (n t r : ℕ) → valid_setup n t r ≡ true → (es : List Event) → All Formed es → follow (new_network n t r) es ≡ nameless (run (begin n t r) es).network
unfolding valid_setup
nameless_follows n t r s es z =
    ap (λ (f : Network). follow f es) (sym start) ∙ follow_run {C = Unit {0}} (begin n t r) es (valid_begin n t r (setup_in n t r s)) z
  where
    start : nameless (begin n t r).network ≡ new_network n t r
    start = unfold nameless rename_network begin new_network in ap (λ (l : List AccessPoint). record { points = l; in_flight = []; timeout = t; resend_limit = r }) (new_renamed n)
