-- The two calls agree: a window's count is at least 1 exactly if a move may begin at its start.
use Rattle.std.specs.Prelude.{ℕ, zero, suc, ◌+◌, ◌≤◌, ◌<◌, ◌≡◌, refl, Bool, true, false, ◌||◌, List, [], ◌∷◌, length, get_or}
use Rattle.std.proofs.Common.{arith, subst, ap, ◌∙◌}
use Rattle.std.proofs.Math.Decide.{dec_lt}
use Rattle.std.proofs.Math.Bool.{or-true}
use Rattle.std.proofs.lemmas.List.{length-map}
use Rattle.std.proofs.Math.ListN.{get_or-map}
use Rattle.gray_theory.specs.Answers.{given}
use Rattle.gray_theory.specs.Bools.{impossible}
use Rattle.tides_theory.specs.Windows.{Tide, in_order, Window, windows, no_window, window_at, move_time, allows, any_allows, moves_that_fit}
use Rattle.tides_theory.specs.Calls.{tides_in, windows_in, counts_call, Agrees}
use Rattle.tides_theory.proofs.MostMoves.{inside, allowed}
use Rattle.tides_theory.proofs.Apart.{windows_are_in_order_and-apart}
use Rattle.tides_theory.proofs.Accepting.{counted_as_lem, begun_as}

-- ---- one window of a list, and any
any_of : (ws : List Window) (i s : ℕ) → i < length ws → allows (window_at ws i) s ≡ true → any_allows ws s ≡ true
unfolding any_allows
any_of [] i s h e = absurd (omega arith)
any_of (w ∷ ws) zero s h e = ap (λ t. t || any_allows ws s) e
any_of (w ∷ ws) (suc i) s h e = ap (λ t. allows w s || t) (any_of ws i s (omega arith) e) ∙ or-true (allows w s)

pub record One (ws : List Window) (s : ℕ) : Type 0 where
  pub index : ℕ
  pub below : index < length ws
  pub allow : allows (window_at ws index) s ≡ true

one_of : (ws : List Window) (s : ℕ) → any_allows ws s ≡ true → One ws s
unfolding any_allows
one_of [] s e = impossible (cc)
one_of (w ∷ ws) s e = by (allows w s) refl (λ z. one_of ws s z) e
  where
    by : (t : Bool) → allows w s ≡ t → (any_allows ws s ≡ true → One ws s) → (t || any_allows ws s) ≡ true → One (w ∷ ws) s
    by true f later g = record { index = 0; below = omega arith; allow = f }
    by false f later g = let r = later g in let b = r.below in record { index = suc r.index; below = omega arith; allow = r.allow }

-- ---- at a window's start
module _ (tides : List Tide) (e : in_order tides ≡ true) (i : ℕ) (h : i < length (windows tides)) where
  abbrev here : Window
  here = window_at (windows tides) i

  start_allowed : 1 ≤ moves_that_fit here → any_allows (windows tides) here.from ≡ true
  start_allowed some =
      any_of (windows tides) i here.from h (allowed here here.from (record { begins = omega arith; ends = omega arith }))

  -- the window that allows a minute at which this one begins is this one
  start_counted : any_allows (windows tides) here.from ≡ true → 1 ≤ moves_that_fit here
  start_counted a =
      let r = one_of (windows tides) here.from a in
      let v = inside (window_at (windows tides) r.index) here.from r.allow in
      let begins = v.begins in
      let ends = v.ends in
      elim (dec_lt r.index i) [
        | yes l ↦ let b = (windows_are_in_order_and-apart tides e r.index i l h).apart in absurd (omega arith)
        | no m ↦
            elim (dec_lt i r.index) [
              | yes l ↦ let b = (windows_are_in_order_and-apart tides e i r.index l r.below).begins in absurd (omega arith)
              | no n ↦
                  let same : r.index ≡ i = omega arith in
                  let long : here.from + move_time ≤ here.to =
                  subst (λ (k : ℕ). here.from + move_time ≤ (window_at (windows tides) k).to) same ends in
                  omega arith
            ]
      ]

-- Where a file is accepted and its moves are counted, a window's count is at least 1 exactly if a move may begin at its start.
pub counts_and_beginnings_agree : (file : List ℕ) (room : ℕ) (counts : List ℕ) → counts_call file room ≡ given counts
    → (i : ℕ) → i < length counts → Agrees file counts i
counts_and_beginnings_agree file room counts e i h =
    let c = counted_as_lem file room counts e in
    let a = c.accepted in
    let ws = windows_in file in
    let long : length counts ≡ length ws = ap length c.counted ∙ length-map ws moves_that_fit in
    let below : i < length ws = omega arith in
    let at : get_or counts i 0 ≡ moves_that_fit (window_at ws i) = ap (λ l. get_or l i 0) c.counted ∙ get_or-map moves_that_fit ws i no_window in
    let minute = (window_at ws i).from in
    let told = begun_as file minute a in
    record {
      begins = λ some. told ∙ ap given (start_allowed (tides_in file) a.ordered i below (omega arith));
      counts_one = λ may.
          let yes : any_allows ws minute ≡ true = cc in
          let one = start_counted (tides_in file) a.ordered i below yes in
          omega arith;
    }
