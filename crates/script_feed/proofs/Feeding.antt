-- A piece while it is fed: what the loop over its octets knows at each of them.
-- Assumes nothing.
use Rattle.std.proofs.Common.{ℕ, ◌+◌, ◌-◌, ◌*◌, ◌<◌, ◌≤◌, ◌≡◌, refl, sym, ap, subst, ◌∙◌, List, [], ◌∷◌, ◌++◌, append-nil, length, length-append, length-drop, take, drop, get_or, arith, add-one}
use lib.Seq.{take-suc, length-take-le}
use mir.Val.{Val}
use denote.Laws.{Is}
use denote.Struct.Declared.{row}
use Rattle.lists.proofs.Fronts.{rest_from}
use Rattle.network.proofs.Ready.{Ready, ready}
use Rattle.script.specs.Put.{front}
use Rattle.script_runner.proofs.Buffers as buffers
use Rattle.script_feed.specs.declared.State.{State}
use Rattle.script_feed.specs.contracts.State as S
use Rattle.script_feed.specs.Feed.{Feeding, Turn, octet_fed, fed, shown, feeding_of, Good, Held}
use Rattle.script_feed.proofs.Law.{fed_append, shown_append}
use Rattle.script_feed.proofs.Lines.{octet_ready}
use Rattle.script_feed.proofs.Room.{shown_short}

-- the text p put after the text t
pub put_after : (k : ℕ) (t p b o q : List ℕ) → length t ≡ k → k + length p ≤ length b → o ≡ front t b → q ≡ front p (take (length o - k) (drop k o))
    → take k o ++ (q ++ drop (length o - k) (drop k o)) ≡ front (t ++ p) b
put_after k t p b o q size room e g = let z : 0 + length t ≡ length t = omega arith in buffers.both_written k t p b o size room (e ∙ rw z) q g

pub front_length : (t b : List ℕ) → length t ≤ length b → length (front t b) ≡ length b
front_length t b h = omega (arith, length-append t (drop (length t) b), length-drop (length t) b)

-- what a state keeps between two octets
pub record Kept (s : State) : Type 0 where
  pub ready : Ready s.network
  pub short : s.len ≤ 256
  pub size : length s.pending ≡ 256

-- a state that is handed over
pub kept : (s : State) (vs : List Val) → Is (row S.the_type) s vs → Good s → Kept s
kept s vs g h = record { ready = ready s.network _ g.1.1.1.0 h.valid; short = h.short; size = g.1.1.1.1.0.1.0.1 }

pub held : (s : State) → Kept s → Held s
held s h = record { sized = h.ready.sized; valid = h.ready.valid; short = h.short; size = h.size }

-- From f and the buffer b the first i octets of the piece have printed len octets: the state is s, and the buffer is out
pub record Fed (f : Feeding) (piece b out : List ℕ) (s : State) (i len : ℕ) : Type 0 where
  pub kept : Kept s
  pub known : feeding_of s ≡ fed f (take i piece)
  pub size : len ≡ length (shown f (take i piece))
  pub buffer : out ≡ front (shown f (take i piece)) b

pub fed_start : (s : State) (piece b : List ℕ) → Kept s → Fed (feeding_of s) piece b b s 0 0
unfolding fed shown
fed_start s piece b h = record { kept = h; known = refl; size = refl; buffer = refl }

module _ (f : Feeding) (piece b out : List ℕ) (s : State) (i len : ℕ) (room : 32 * length piece + 128 ≤ length b) (h : i < length piece) (p : Fed f piece b out s i len) where
  short : len ≤ 32 * i + 51
  short = omega (arith, p.size, shown_short f (take i piece), length-take-le i piece (omega arith))

  pub out_length : length out ≡ length b
  out_length = ap length p.buffer ∙ front_length (shown f (take i piece)) b (omega (arith, short, p.size))

  pub room_left : (len ≤ length out) × (51 ≤ length (take (length out - len) (drop len out)))
  room_left = (omega (arith, short, out_length), rw (rest_from out len) (omega (arith, short, out_length, length-drop len out)))

  -- the next octet
  module _ (t : State) (n : ℕ) (q : List ℕ) (e : feeding_of t ≡ (octet_fed (feeding_of s) (get_or piece i 0)).next) (k : (t.len ≤ 256) × (length t.pending ≡ 256))
      (z : n ≡ length (octet_fed (feeding_of s) (get_or piece i 0)).text) (g : q ≡ front (octet_fed (feeding_of s) (get_or piece i 0)).text (take (length out - len) (drop len out))) where
    next : Turn
    next = octet_fed (feeding_of s) (get_or piece i 0)

    cut : take (i + 1) piece ≡ take i piece ++ (get_or piece i 0 ∷ [])
    cut = rw add-one (take-suc piece i 0 h)

    all_fed : fed f (take (i + 1) piece) ≡ next.next
    unfolding fed next
    all_fed = rw (cut, fed_append f (take i piece) (get_or piece i 0 ∷ []), ← p.known) refl

    all_shown : shown f (take (i + 1) piece) ≡ shown f (take i piece) ++ next.text
    unfolding shown next
    all_shown = rw (cut, shown_append f (take i piece) (get_or piece i 0 ∷ []), ← p.known) (ap (λ (x : List ℕ). shown f (take i piece) ++ x) (append-nil (octet_fed (feeding_of s) (get_or piece i 0)).text))

    room_next : len + length next.text ≤ length b
    unfolding next
    room_next = omega (arith, p.size, ap length all_shown, length-append (shown f (take i piece)) next.text, shown_short f (take (i + 1) piece), length-take-le (i + 1) piece (omega arith))

    pub fed_next : Fed f piece b (take len out ++ (q ++ drop (length out - len) (drop len out))) t (i + 1) (len + n)
    unfolding next
    fed_next =
        record {
          kept = record { ready = subst (λ (x : Feeding). Ready x.network) (sym e) (octet_ready (feeding_of s) (get_or piece i 0) p.kept.ready); short = k.0; size = k.1 };
          known = e ∙ sym all_fed;
          size = omega (arith, p.size, z, ap length all_shown, length-append (shown f (take i piece)) next.text);
          buffer = put_after len (shown f (take i piece)) next.text b out q (sym p.size) room_next p.buffer g ∙ ap (λ (x : List ℕ). front x b) (sym all_shown);
        }
