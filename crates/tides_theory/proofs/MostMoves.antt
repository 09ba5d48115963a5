-- The count of a window is the most that fits: so many moves do, one after the other from its start, and no more, wherever they
-- begin.
use Rattle.std.specs.Prelude.{ℕ, zero, suc, ◌+◌, ◌-◌, ◌*◌, ◌≤◌, ◌<◌, ◌≡◌, refl, Bool, true, false, ◌&&◌, ◌||◌, List, [], ◌∷◌, leb, length}
use Rattle.std.proofs.Common.{arith, ap, ap₂, le-leb, leb-true}
use Rattle.std.proofs.Math.Decide.{dec_le}
use Rattle.std.proofs.Math.Bool.{and-eq-true_iff}
use Rattle.gray_theory.specs.Bools.{impossible}
use Rattle.tides_theory.specs.Windows.{Window, move_time, allows, moves_that_fit}
use Rattle.tides_theory.specs.Fitting.{apart, clear_of, fit_in, one_after_the_other}

-- ---- so many fit
-- k moves one after the other are k moves.
pub so_many : (s k : ℕ) → length (one_after_the_other s k) ≡ k
unfolding one_after_the_other
so_many s zero = refl
so_many s (suc k) = ap suc (so_many (s + move_time) k)

clear_before : (s t k : ℕ) → s + move_time ≤ t → clear_of s (one_after_the_other t k) ≡ true
unfolding one_after_the_other clear_of
clear_before s t zero h = refl
clear_before s t (suc k) h =
    ap₂ (λ a b. (a || leb (t + move_time) s) && b) (le-leb (s + move_time) t h) (clear_before s (t + move_time) k (omega arith))

fit_from : (w : Window) (s k : ℕ) → w.from ≤ s → move_time * k ≤ w.to - s → fit_in w (one_after_the_other s k) ≡ true
unfolding one_after_the_other fit_in
fit_from w s zero h room = refl
fit_from w s (suc k) h room =
    let begins : leb w.from s ≡ true = le-leb w.from s h in
    let ends : leb (s + move_time) w.to ≡ true = le-leb (s + move_time) w.to (omega arith) in
    let clear = clear_before s (s + move_time) k (omega arith) in
    let others = fit_from w (s + move_time) k (omega arith) (omega arith) in
    ap₂ ◌&&◌ (ap₂ ◌&&◌ (ap₂ ◌&&◌ begins ends) clear) others

-- As many moves as a window counts fit in it, one after the other from its start.
pub as_many_moves_fit : (w : Window) → fit_in w (one_after_the_other w.from (moves_that_fit w)) ≡ true
as_many_moves_fit w = fit_from w w.from (moves_that_fit w) (omega arith) (omega arith)

-- ---- no more fit
-- a move that fits in a window, by its minutes
pub record Inside (w : Window) (s : ℕ) : Type 0 where
  pub begins : w.from ≤ s
  pub ends : s + move_time ≤ w.to

pub inside : (w : Window) (s : ℕ) → allows w s ≡ true → Inside w s
inside w s e =
    let (a, b) = (and-eq-true_iff (leb w.from s) (leb (s + move_time) w.to)).0 e in
    record { begins = leb-true w.from s a; ends = leb-true (s + move_time) w.to b }

pub allowed : (w : Window) (s : ℕ) → Inside w s → allows w s ≡ true
allowed w s i = ap₂ ◌&&◌ (le-leb w.from s i.begins) (le-leb (s + move_time) w.to i.ends)

-- a first move, and the others
pub record First (w : Window) (s : ℕ) (ss : List ℕ) : Type 0 where
  pub here : Inside w s
  pub clear : clear_of s ss ≡ true
  pub others : fit_in w ss ≡ true

first : (w : Window) (s : ℕ) (ss : List ℕ) → fit_in w (s ∷ ss) ≡ true → First w s ss
unfolding fit_in
first w s ss e =
    let (a, b) = (and-eq-true_iff (allows w s && clear_of s ss) (fit_in w ss)).0 e in
    let (c, d) = (and-eq-true_iff (allows w s) (clear_of s ss)).0 a in
    record { here = inside w s c; clear = d; others = b }

before_or-after : (s t : ℕ) → (a b : Bool) → leb (s + move_time) t ≡ a → leb (t + move_time) s ≡ b → (a || b) ≡ true
    → t < s + move_time
    → t + move_time ≤ s
before_or-after s t true b e f g h = let k = leb-true (s + move_time) t e in absurd (omega arith)
before_or-after s t false true e f g h = leb-true (t + move_time) s f
before_or-after s t false false e f g h = impossible (cc)

-- the same window, shorter by a move
abbrev shorter : Window → Window
shorter w = record { from = w.from; to = w.to - move_time }

-- behind a move that does not fit in the shorter window no other begins: the others fit in it
fit_before : (w : Window) (s : ℕ) (ss : List ℕ) → w.to < s + move_time + move_time → clear_of s ss ≡ true → fit_in w ss ≡ true
    → s + move_time ≤ w.to
    → fit_in (shorter w) ss ≡ true
unfolding fit_in clear_of
fit_before w s [] late clear fit ends = refl
fit_before w s (t ∷ ts) late clear fit ends =
    let (off, clears) = (and-eq-true_iff (apart s t) (clear_of s ts)).0 clear in
    let f = first w t ts fit in
    let i = f.here in
    let b = i.begins in
    let n = i.ends in
    let before = before_or-after s t (leb (s + move_time) t) (leb (t + move_time) s) refl refl off (omega arith) in
    let in-shorter = allowed (shorter w) t (record { begins = b; ends = omega arith }) in
    ap₂ ◌&&◌ (ap₂ ◌&&◌ in-shorter f.clear) (fit_before w s ts late clears f.others ends)

-- all moves but one at the most fit in the shorter window
pub record AllButOne (w : Window) (ss : List ℕ) : Type 0 where
  pub others : List ℕ
  pub fit : fit_in w others ≡ true
  pub most : length ss ≤ suc (length others)
  pub clear : (t : ℕ) → clear_of t ss ≡ true → clear_of t others ≡ true

all_but_one : (w : Window) (ss : List ℕ) → fit_in w ss ≡ true → AllButOne (shorter w) ss
unfolding fit_in clear_of
all_but_one w [] e = record { others = []; fit = refl; most = omega arith; clear = λ t c. c }
all_but_one w (s ∷ ss) e =
    let f = first w s ss e in
    let i = f.here in
    let b = i.begins in
    let n = i.ends in
    elim (dec_le (s + move_time + move_time) w.to) [
      | yes early ↦
          let r = all_but_one w ss f.others in
          let m = r.most in
          record {
            others = s ∷ r.others;
            fit =
                ap₂ ◌&&◌ (ap₂ ◌&&◌ (allowed (shorter w) s (record { begins = b; ends = omega arith })) (r.clear s f.clear)) r.fit;
            most = omega arith;
            clear = λ t c.
                let (off, clears) = (and-eq-true_iff (apart t s) (clear_of t ss)).0 c in
                ap₂ ◌&&◌ off (r.clear t clears);
          }
      | no late ↦
          record {
            others = ss;
            fit = fit_before w s ss (omega arith) f.clear f.others n;
            most = omega arith;
            clear = λ t c. ((and-eq-true_iff (apart t s) (clear_of t ss)).0 c).1;
          }
    ]

fewer : (k : ℕ) (w : Window) (ss : List ℕ) → w.to < w.from + move_time * suc k → fit_in w ss ≡ true → length ss ≤ k
fewer zero w [] short e = omega arith
fewer zero w (s ∷ ss) short e =
    let i = (first w s ss e).here in
    let b = i.begins in
    let n = i.ends in
    absurd (omega arith)
fewer (suc k) w ss short e =
    let r = all_but_one w ss e in
    let m = r.most in
    let h = fewer k (shorter w) r.others (omega arith) r.fit in
    omega arith

-- Moves that fit in a window and do not overlap, wherever they begin and in whatever order, are no more than it counts.
pub no_more_moves_fit : (w : Window) (begins : List ℕ) → fit_in w begins ≡ true → length begins ≤ moves_that_fit w
no_more_moves_fit w begins e = fewer (moves_that_fit w) w begins (omega arith) e
