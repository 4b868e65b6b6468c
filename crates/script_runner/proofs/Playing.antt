-- The lines played so far: what a loop over the lines of a script knows at each of them.
-- Assumes nothing.
use Prim.Native.Nat.{ℕ, ◌+◌, ◌≤◌, ◌<◌}
use mathlib.Core.Path.{◌≡◌, refl, sym, ap, ◌∙◌}
use mathlib.Core.List.{List, [], ◌∷◌, ◌++◌}
use native.Mathlib.Omega.{arith}
use borrow.Author.Tests.{lt-ltb, le-ltb}
use lib.ListN.{length, take, drop, length-append, length-drop}
use lib.Seq.{length-take-le, take_all}
use Rattle.std.specs.Prelude.{None, Some}
use Rattle.structs.specs.declared.Network.{Network}
use Rattle.network.specs.Events.{run_of}
use Rattle.network.proofs.Ready.{Ready}
use Rattle.script.specs.Put.{over, front}
use Rattle.script.specs.Text.{split, lines}
use Rattle.script.specs.Script.{events_in, printed, played}
use Rattle.script_runner.specs.declared.Played.{Played}
use Rattle.script_runner.specs.Played.{text_in, after_line, played_as, measured}
use Rattle.script_runner.proofs.Buffers as buffers
use Rattle.script_runner.proofs.Turns.{line_printed, line_played, ready_after}

-- From the record w₀ the lines of s have printed k octets so far, and the record is w; `rest` is what is left of s
pub record Playing (w₀ w : Network) (s : List ℕ) (k : ℕ) (rest : List ℕ) : Type 0 where
  pub ready : Ready w
  pub left : played w₀ (lines s) ≡ played w (lines rest)
  pub next : drop k (printed w₀ (lines s)) ≡ printed w (lines rest)
  pub count : k ≤ length (printed w₀ (lines s))

pub playing_start : (w : Network) (s r : List ℕ) → Ready w → r ≡ s → Playing w w s 0 r
playing_start w s r h e = rw e (record { ready = h; left = refl; next = refl; count = omega arith })

module _ (w₀ w : Network) (s : List ℕ) (k : ℕ) (rest : List ℕ) (p : Playing w₀ w s k rest) where
  -- the next line l, and what is left after it
  module _ (l later : List ℕ) (e : lines rest ≡ l ∷ lines later) where
    next : drop k (printed w₀ (lines s)) ≡ text_in w l ++ printed (after_line w l) (lines later)
    next = p.next ∙ ap (printed w) e ∙ line_printed w l (lines later)

    pub next_fits : k + length (text_in w l) ≤ length (printed w₀ (lines s))
    next_fits = buffers.next_within (printed w₀ (lines s)) (text_in w l) (printed (after_line w l) (lines later)) k next p.count

    pub next_turn : (f : Network) (n : ℕ) → f ≡ after_line w l → n ≡ length (text_in w l) → Playing w₀ f s (k + n) later
    next_turn f n qf qn =
        rw (qf, qn)
        (record {
          ready = ready_after w l p.ready;
          left = p.left ∙ ap (played w) e ∙ line_played w l (lines later);
          next = buffers.next_drop (printed w₀ (lines s)) (text_in w l) (printed (after_line w l) (lines later)) k next p.count;
          count = next_fits;
        })

    pub next_put : (b : List ℕ) → over k (text_in w l) (take k (printed w₀ (lines s)) ++ drop k b)
        ≡ take (k + length (text_in w l)) (printed w₀ (lines s)) ++ drop (k + length (text_in w l)) b
    next_put = buffers.next_front (printed w₀ (lines s)) (text_in w l) (printed (after_line w l) (lines later)) k next p.count

  -- after the last line
  module _ (e : length rest ≡ 0) where
    none_left : lines rest ≡ []
    unfolding split
    none_left = go rest e
      where
        go : (r : List ℕ) → length r ≡ 0 → lines r ≡ []
        go [] h = refl
        go (x ∷ r) h = absurd (omega arith)

    all_played : w ≡ played w₀ (lines s)
    unfolding played events_in run_of
    all_played = sym (p.left ∙ rw none_left)

    pub all_printed : k ≡ length (printed w₀ (lines s))
    unfolding printed
    all_printed =
        let e : drop k (printed w₀ (lines s)) ≡ [] = p.next ∙ rw none_left in
        let n : length (drop k (printed w₀ (lines s))) ≡ 0 = ap length e in
        omega (arith, n, length-drop k (printed w₀ (lines s)), p.count)

    pub all_done : record { network = w; len = k } ≡ played_as w₀ (lines s)
    all_done = λ i. record { network = all_played i; len = all_printed i }

    pub all_out : (b : List ℕ) → take k (printed w₀ (lines s)) ++ drop k b ≡ front (printed w₀ (lines s)) b
    all_out b = rw all_printed (ap (λ (x : List ℕ). x ++ drop (length (printed w₀ (lines s))) b) (take_all (length (printed w₀ (lines s))) (printed w₀ (lines s)) (omega arith)))

-- the buffer keeps its length
pub out_length : (k : ℕ) (t b : List ℕ) → k ≤ length t → k ≤ length b → length (take k t ++ drop k b) ≡ length b
out_length k t b h l = omega (arith, length-append (take k t) (drop k b), length-take-le k t h, length-drop k b, l)

-- whether it fits

pub too_long : (w : Network) (ls : List (List ℕ)) (n : ℕ) → n < length (printed w ls) → None ≡ measured w ls n
unfolding measured
too_long w ls n l = rw (lt-ltb n (length (printed w ls)) l)

pub fits_in : (w : Network) (ls : List (List ℕ)) (n : ℕ) (p : Played) → length (printed w ls) ≤ n → p ≡ played_as w ls → Some p ≡ measured w ls n
unfolding measured
fits_in w ls n p l e = rw (le-ltb n (length (printed w ls)) l) (ap Some e)
