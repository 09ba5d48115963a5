-- Windows are in order and apart: each ends before the next begins. So at most one window allows a minute.
use Rattle.std.specs.Prelude.{ℕ, zero, suc, ◌+◌, ◌≤◌, ◌<◌, ◌≡◌, Bool, true, false, cond, ◌&&◌, not, List, [], ◌∷◌, ltb, length}
use Rattle.std.proofs.Common.{arith, ltb-true}
use Rattle.std.proofs.Math.Decide.{dec_lt}
use Rattle.std.specs.Bool.{beq}
use Rattle.std.proofs.Math.Bool.{and-eq-true_iff}
use Rattle.tides_theory.specs.Windows.{Tide, follows, in_order, Window, window_of, windows, window_at, Behind, allows}
use Rattle.tides_theory.proofs.MostMoves.{inside}

-- a tide in order: it comes before the next, and what follows is in order
pub record Ordered (a b : Tide) (tides : List Tide) : Type 0 where
  pub rises : a.at < b.at
  pub others : in_order (b ∷ tides) ≡ true

pub ordered : (a b : Tide) (tides : List Tide) → in_order (a ∷ b ∷ tides) ≡ true → Ordered a b tides
unfolding in_order
ordered a b tides e =
    let (f, others) = (and-eq-true_iff (follows a b) (in_order (b ∷ tides))).0 e in
    let (rises, letters) = (and-eq-true_iff (ltb a.at b.at) (not (beq a.high b.high))).0 f in
    record { rises = ltb-true a.at b.at rises; others = others }

-- the windows of tides from a on
pub record AllFrom (m : ℕ) (ws : List Window) : Type 0 where
  pub from : (i : ℕ) → i < length ws → m + 60 ≤ (window_at ws i).from

earlier : (m k : ℕ) (ws : List Window) → m ≤ k → AllFrom k ws → AllFrom m ws
earlier m k ws h all = record { from = λ i l. let e = all.from i l in omega arith }

one_more : (w : Window) (ws : List Window) (m : ℕ) → m + 60 ≤ w.from → AllFrom m ws → AllFrom m (w ∷ ws)
one_more w ws m h all = record { from = go }
  where
    go : (i : ℕ) → i < length (w ∷ ws) → m + 60 ≤ (window_at (w ∷ ws) i).from
    go zero l = h
    go (suc i) l = all.from i (omega arith)

all_from : (a : Tide) (tides : List Tide) → in_order (a ∷ tides) ≡ true → AllFrom a.at (windows (a ∷ tides))
unfolding windows
all_from a [] e = record { from = λ i l. absurd (omega arith) }
all_from a (b ∷ tides) e =
    let o = ordered a b tides e in
    let r = o.rises in
    let rest = earlier a.at b.at (windows (b ∷ tides)) (omega arith) (all_from b tides o.others) in
    by (a.high && not b.high) rest
  where
    by : (t : Bool) → AllFrom a.at (windows (b ∷ tides))
        → AllFrom a.at (cond t (window_of a b ∷ windows (b ∷ tides)) (windows (b ∷ tides)))
    by true rest = one_more (window_of a b) (windows (b ∷ tides)) a.at (omega arith) rest
    by false rest = rest

abbrev InOrder : List Window → Type 0
InOrder ws = (i j : ℕ) → i < j → j < length ws → Behind (window_at ws i) (window_at ws j)

window-behind : (a b : Tide) (ws : List Window) → a.at < b.at → AllFrom b.at ws → InOrder ws → InOrder (window_of a b ∷ ws)
window-behind a b ws r all later zero zero h l = absurd (omega arith)
window-behind a b ws r all later zero (suc j) h l = let f = all.from j (omega arith) in record { begins = omega arith; apart = omega arith }
window-behind a b ws r all later (suc i) zero h l = absurd (omega arith)
window-behind a b ws r all later (suc i) (suc j) h l = later i j (omega arith) (omega arith)

-- Of two windows of a file in order, the earlier one begins and ends before the later one begins.
pub windows_are_in_order_and-apart : (tides : List Tide) → in_order tides ≡ true → (i j : ℕ) → i < j → j < length (windows tides)
    → Behind (window_at (windows tides) i) (window_at (windows tides) j)
unfolding windows
windows_are_in_order_and-apart [] e i j h l = absurd (omega arith)
windows_are_in_order_and-apart (a ∷ []) e i j h l = absurd (omega arith)
windows_are_in_order_and-apart (a ∷ b ∷ tides) e i j h l =
    let o = ordered a b tides e in
    let all = all_from b tides o.others in
    let later = windows_are_in_order_and-apart (b ∷ tides) o.others in
    by (a.high && not b.high) o.rises all later i j h l
  where
    by : (t : Bool) → a.at < b.at → AllFrom b.at (windows (b ∷ tides)) → InOrder (windows (b ∷ tides))
        → InOrder (cond t (window_of a b ∷ windows (b ∷ tides)) (windows (b ∷ tides)))
    by true r all later i j h l = window-behind a b (windows (b ∷ tides)) r all later i j h l
    by false r all later i j h l = later i j h l

-- A minute is allowed by one window at the most.
pub at_most_one_window-allows : (tides : List Tide) → in_order tides ≡ true → (i j s : ℕ)
    → i < length (windows tides)
    → j < length (windows tides)
    → allows (window_at (windows tides) i) s ≡ true
    → allows (window_at (windows tides) j) s ≡ true
    → i ≡ j
at_most_one_window-allows tides e i j s h k a b =
    elim (dec_lt i j) [
      | yes l ↦ absurd (never (window_at (windows tides) i) (window_at (windows tides) j) s (windows_are_in_order_and-apart tides e i j l k) a b)
      | no m ↦
          elim (dec_lt j i) [
            | yes l ↦ absurd (never (window_at (windows tides) j) (window_at (windows tides) i) s (windows_are_in_order_and-apart tides e j i l h) b a)
            | no n ↦ omega arith
          ]
    ]
  where
    never : (w v : Window) (s : ℕ) → Behind w v → allows w s ≡ true → allows v s ≡ true → ⊥
    never w v s behind a b =
        let apart = behind.apart in
        let first = (inside w s a).ends in
        let second = (inside v s b).begins in
        omega arith
