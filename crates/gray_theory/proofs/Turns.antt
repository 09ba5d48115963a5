-- The directions that the walk from the start has at rank r, and how a move along the list changes word and directions.
use Rattle.std.specs.Prelude.{ℕ, zero, suc, ◌-◌, ◌/◌, ◌%◌, ◌≤◌, ◌<◌, ◌≡◌, refl, Bool, true, false, cond, not, ◌&&◌, List, [], ◌∷◌, leb, length, get_or, set, replicate}
use Rattle.std.proofs.Math.Nat.{zero-div, zero-mod, div-eq_of_lt}
use Rattle.std.proofs.Common.{mod-lt, add-one, arith, sym, ap, ap₂, subst, ◌∙◌, eq-eqb, ne_eqb, leb-true, le-leb, get_or-set_same}
use Rattle.std.proofs.Math.Bool.{and-eq-true_iff, not-not}
use Rattle.gray_theory.specs.Radices.{size, all_from}
use Rattle.gray_theory.specs.Words.{even, reflect}
use Rattle.gray_theory.specs.Changes.{Moves, Moves.up, Moves.down, Moves.next, ruler, descends}
use Rattle.gray_theory.specs.Directions.{moved_from, turned_at, word_moved, downs_moved, digit_in_range}
use Rattle.gray_theory.specs.Indexed.{word_at, downs_at}
use Rattle.gray_theory.proofs.Members.{length-word_at}
use Rattle.gray_theory.proofs.Rulers.{ruler_carry, ruler_no_carry, descends_carry, descends_no_carry, word_at-moves, moves_within}
use Rattle.gray_theory.proofs.Sizes.{quotient_below}
use Rattle.gray_theory.proofs.Increments.{Increment, Increment.no_carry, Increment.carry, increment, even-suc}
use Rattle.gray_theory.proofs.DigitRanges.{DigitRange, says_digit}
use Rattle.gray_theory.proofs.Unlocked.{Lock, Lock.free, Lock.locked, lock}

pub length-downs_at : (ms : List ℕ) (r : ℕ) → length (downs_at ms r) ≡ length ms
unfolding downs_at
length-downs_at [] r = refl
length-downs_at (m ∷ ms) r = ap suc (length-downs_at ms (r / m))

-- ---- the start
pub word_at_start : (ms : List ℕ) → word_at ms 0 ≡ replicate (length ms) 0
unfolding word_at
word_at_start [] = refl
word_at_start (m ∷ ms) = rw (zero-div m, zero-mod m) (ap (λ (w : List ℕ). 0 ∷ w) (word_at_start ms))

-- digit 1 at rank 0
first_start : (m : ℕ) → Lock m → leb 2 m && not (even (1 / m)) ≡ false
first_start m (free moves two) = let q : 1 / m ≡ 0 = div-eq_of_lt (omega arith) in rw (moves, q)
first_start m (locked rests one) = rw rests

pub downs_at_start : (ms : List ℕ) → all_from 1 ms ≡ true → downs_at ms 0 ≡ replicate (length ms) false
unfolding downs_at all_from
downs_at_start [] e = refl
downs_at_start (m ∷ ms) e =
    let (first, others) = (and-eq-true_iff (leb 1 m) (all_from 1 ms)).0 e in
    rw (first_start m (lock m (leb-true 1 m first)), zero-div m) (ap (λ (l : List Bool). false ∷ l) (downs_at_start ms others))

-- ---- every digit stands in range
-- digit 1 at rank r
free_in_range : (m r : ℕ) → 2 ≤ m → Increment m r → DigitRange m (reflect m (r / m) (r % m)) (not (even (suc r / m)))
free_in_range m r two (no_carry q b below) = rw q (on (even (r / m)))
  where
    on : (e : Bool) → DigitRange m (cond e (r % m) (m - 1 - r % m)) (not e)
    on true = record { below = omega arith; up_at_0 = λ z. refl; down_at_top = λ h t. absurd (omega arith) }
    on false = record { below = omega arith; up_at_0 = λ z. absurd (omega arith); down_at_top = λ h t. refl }
free_in_range m r two (carry q b whole) = rw (q, even-suc (r / m), not-not (even (r / m))) (turned (even (r / m)))
  where
    turned : (e : Bool) → DigitRange m (cond e (r % m) (m - 1 - r % m)) e
    turned true = record { below = omega arith; up_at_0 = λ z. absurd (omega arith); down_at_top = λ h t. refl }
    turned false = record { below = omega arith; up_at_0 = λ z. refl; down_at_top = λ h t. absurd (omega arith) }

first_in_range : (m r : ℕ) → Lock m → DigitRange m (reflect m (r / m) (r % m)) (leb 2 m && not (even (suc r / m)))
first_in_range m r (free moves two) = rw moves (free_in_range m r two (increment m r (omega arith)))
first_in_range m r (locked rests one) = rw rests (on (even (r / m)) (mod-lt r (omega arith)))
  where
    on : (e : Bool) → r % m < m → DigitRange m (cond e (r % m) (m - 1 - r % m)) false
    on true h = record { below = omega arith; up_at_0 = λ z. refl; down_at_top = λ two t. absurd (omega arith) }
    on false h = record { below = omega arith; up_at_0 = λ z. refl; down_at_top = λ two t. absurd (omega arith) }

pub walk_in_range : (ms : List ℕ)
    → all_from 1 ms ≡ true
    → (r i : ℕ)
    → i < length ms
    → digit_in_range (get_or ms i 0) (get_or (word_at ms r) i 0) (get_or (downs_at ms r) i false) ≡ true
unfolding word_at downs_at all_from
walk_in_range [] e r i h = absurd (omega arith)
walk_in_range (m ∷ ms) e r zero h =
    let (first, others) = (and-eq-true_iff (leb 1 m) (all_from 1 ms)).0 e in
    says_digit m (reflect m (r / m) (r % m)) (leb 2 m && not (even (suc r / m))) (first_in_range m r (lock m (leb-true 1 m first)))
walk_in_range (m ∷ ms) e r (suc i) h =
    let (first, others) = (and-eq-true_iff (leb 1 m) (all_from 1 ms)).0 e in
    walk_in_range ms others (r / m) i (omega arith)

-- ---- a move along the list
-- a word that is moved is the word with its digit's notch replaced
pub moves_set : {k : ℕ} {d : Bool} {u v : List ℕ}
    → Moves k d u v
    → (i : ℕ)
    → k ≡ suc i
    → set u i (moved_from (get_or u i 0) d) ≡ v
moves_set (up {a} {w}) i e = let z : i ≡ 0 = omega arith in rw (z, add-one a)
moves_set (down {a} {w}) i e = let z : i ≡ 0 = omega arith in let s : suc a - 1 ≡ a = omega arith in rw (z, s)
moves_set (next p) zero e = absurd (let h = moves_within p in omega arith)
moves_set (next {a = a} p) (suc i) e = ap (λ (w : List ℕ). a ∷ w) (moves_set p i (omega arith))

-- and a digit that is not at 0 on its way down is moved so
pub set-moves : (u : List ℕ) (i : ℕ) (d : Bool)
    → i < length u
    → (d ≡ true → 0 < get_or u i 0)
    → Moves (suc i) d u (set u i (moved_from (get_or u i 0) d))
set-moves [] i d h some = absurd (omega arith)
set-moves (a ∷ u) zero false h some = rw (add-one a) up
set-moves (a ∷ u) zero true h some =
    let z = some refl in
    let s : suc (a - 1) ≡ a = omega arith in
    subst (λ (x : ℕ). Moves 1 true (x ∷ u) ((a - 1) ∷ u)) s down
set-moves (a ∷ u) (suc i) d h some = next (set-moves u i d (omega arith) some)

-- digit 1 has come to its notch at rank s: it turns exactly if that is an end
first_turns : (m s : ℕ)
    → Increment m s
    → 0 < s % m
    → turned_at m (reflect m (s / m) (s % m)) (not (even (s / m))) ≡ not (even (suc s / m))
first_turns m s (no_carry q b below) pos = rw q (on (even (s / m)))
  where
    on : (e : Bool) → turned_at m (cond e (s % m) (m - 1 - s % m)) (not e) ≡ not e
    on true = rw (ne_eqb (s % m) 0 (λ z. omega arith), ne_eqb (s % m) (m - 1) (λ z. omega arith))
    on false = rw (ne_eqb (m - 1 - s % m) 0 (λ z. omega arith), ne_eqb (m - 1 - s % m) (m - 1) (λ z. omega arith))
first_turns m s (carry q b whole) pos = rw (q, even-suc (s / m)) (turned (even (s / m)))
  where
    turned : (e : Bool) → turned_at m (cond e (s % m) (m - 1 - s % m)) (not e) ≡ not (not e)
    turned true = rw (ne_eqb (s % m) 0 (λ z. omega arith), eq-eqb (s % m) (m - 1) (omega arith))
    turned false = rw (eq-eqb (m - 1 - s % m) 0 (omega arith))

-- digit 1 stands still: its direction does too. One that is locked always does
free_rests : (m s : ℕ) → 2 ≤ m → Increment m s → s % m ≡ 0 → suc s / m ≡ s / m
free_rests m s two (no_carry q b below) z = q
free_rests m s two (carry q b whole) z = absurd (omega arith)

first_rests : (m r : ℕ)
    → Lock m
    → suc r % m ≡ 0
    → leb 2 m && not (even (suc r / m)) ≡ leb 2 m && not (even (suc (suc r) / m))
first_rests m r (free moves two) z =
    ap (λ (k : ℕ). leb 2 m && not (even k)) (sym (free_rests m (suc r) two (increment m (suc r) (omega arith)) z))
first_rests m r (locked rests one) z = rw rests

-- which digit moves and how its direction changes when the walk goes on from rank r
record Turning (ms : List ℕ) (r i : ℕ) : Type 0 where
  digit : ruler ms (suc r) ≡ suc i
  direction : get_or (downs_at ms r) i false ≡ descends ms (suc r)
  downs :
      set (downs_at ms r) i (turned_at (get_or ms i 0) (get_or (word_at ms (suc r)) i 0) (get_or (downs_at ms r) i false))
      ≡ downs_at ms (suc r)

turn_first : (m : ℕ) (ms : List ℕ) (r : ℕ)
    → leb 2 m ≡ true
    → suc r / m ≡ r / m
    → suc r % m ≡ suc (r % m)
    → Increment m (suc r)
    → Turning (m ∷ ms) r 0
unfolding word_at downs_at
turn_first m ms r moves q b next_one =
    record {
      digit = ruler_no_carry m ms (suc r) (r % m) b;
      direction = rw moves (sym (descends_no_carry m ms (suc r) (r % m) b));
      downs =
          rw moves
          (ap₂ (λ (d : Bool) (l : List Bool). d ∷ l) (first_turns m (suc r) next_one (omega arith)) (ap (downs_at ms) (sym q)));
    }

turn_later : (m : ℕ) (ms : List ℕ) (r i : ℕ)
    → suc r / m ≡ suc (r / m)
    → suc r % m ≡ 0
    → leb 2 m && not (even (suc r / m)) ≡ leb 2 m && not (even (suc (suc r) / m))
    → Turning ms (r / m) i
    → Turning (m ∷ ms) r (suc i)
unfolding word_at downs_at
turn_later m ms r i q b still t =
    record {
      digit = ruler_carry m ms (suc r) b ∙ ap (λ (j : ℕ). suc (ruler ms j)) q ∙ ap suc t.digit;
      direction = t.direction ∙ sym (descends_carry m ms (suc r) b ∙ ap (descends ms) q);
      downs = ap₂ (λ (d : Bool) (l : List Bool). d ∷ l) still (rw q t.downs);
    }

turn : (ms : List ℕ) → all_from 1 ms ≡ true → (r : ℕ) → suc r < size ms → (i : ℕ) × Turning ms r i
unfolding all_from
turn [] e r h = absurd (unfold size in omega arith)
turn (m ∷ ms) e r h =
    let (first, others) = (and-eq-true_iff (leb 1 m) (all_from 1 ms)).0 e in
    let one : 1 ≤ m = leb-true 1 m first in
    elim (increment m r (omega arith)) [
      | no_carry q b below ↦ (0, turn_first m ms r (le-leb 2 m (omega arith)) q b (increment m (suc r) (omega arith)))
      | carry q b whole ↦
          let (i, t) = turn ms others (r / m) (rw q at (quotient_below m ms (suc r) h)) in
          (suc i, turn_later m ms r i q b (first_rests m r (lock m one) b) t)
    ]

-- digit i + 1 is the one that moves when the walk goes on from rank r, in its direction, which turns where it must; no other
-- digit and no other direction changes
pub record Advances (ms : List ℕ) (r i : ℕ) : Type 0 where
  pub digit : ruler ms (suc r) ≡ suc i
  pub within : i < length ms
  pub direction : get_or (downs_at ms r) i false ≡ descends ms (suc r)
  pub word : word_moved (word_at ms r) (downs_at ms r) i ≡ word_at ms (suc r)
  pub downs : downs_moved ms (word_at ms r) (downs_at ms r) i ≡ downs_at ms (suc r)

pub walk_advances : (ms : List ℕ) → all_from 1 ms ≡ true → (r : ℕ) → suc r < size ms → (i : ℕ) × Advances ms r i
walk_advances ms e r h =
    let (i, t) = turn ms e r h in
    let moves = word_at-moves ms r h in
    let inside = moves_within moves in
    let long = length-word_at ms r in
    let named = t.digit in
    let to : ℕ = moved_from (get_or (word_at ms r) i 0) (get_or (downs_at ms r) i false) in
    let moved : set (word_at ms r) i to ≡ word_at ms (suc r) = rw t.direction (moves_set moves i t.digit) in
    let notch : to ≡ get_or (word_at ms (suc r)) i 0 =
    sym (get_or-set_same (word_at ms r) i to 0 (omega arith)) ∙ ap (λ (w : List ℕ). get_or w i 0) moved in (
      i,
      record { digit = t.digit; within = omega arith; direction = t.direction; word = moved; downs = rw notch t.downs },
    )
