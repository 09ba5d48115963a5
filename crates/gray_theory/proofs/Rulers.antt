-- The ruler function names the digit of each change: members j and j + 1 differ in digit ruler (j + 1) alone, by one notch.
use Rattle.std.specs.Prelude.{ℕ, zero, suc, ◌-◌, ◌*◌, ◌/◌, ◌%◌, ◌≤◌, ◌<◌, ◌≡◌, ◌↔◌, Bool, true, false, cond, not, List, [], ◌∷◌, leb, length, take, get_or}
use Rattle.std.proofs.Math.Nat.{div-div-eq-div-mul, mod-one, mul-mod_right, mul-div_cancel_left}
use Rattle.std.proofs.Common.{mul-one, ap, ◌∙◌, inl, inr, eq-eqb, ne_eqb, lt-ltb, le-ltb, leb-true}
use Rattle.std.proofs.Math.Decide.{ℕ_discrete}
use native.Mathlib.Omega.{arith}
use Rattle.std.proofs.Math.Path.{refl}
use Rattle.std.proofs.Math.Bool.{and-eq-true_iff}
use Rattle.gray_theory.specs.Radices.{size, all_from}
use Rattle.gray_theory.specs.Words.{even, member, reflect}
use Rattle.gray_theory.specs.Changes.{later, difference, change, Moves, Moves.up, Moves.down, Moves.next, ruler, descends, OneApart}
use Rattle.gray_theory.specs.Indexed.{word_at}
use Rattle.gray_theory.proofs.Members.{member_is_word_at, length-word_at}
use Rattle.gray_theory.proofs.Sizes.{quotient_below, first_pos, size_pos, all_from-take, divides_product}
use Rattle.gray_theory.proofs.Increments.{Increment, Increment.no_carry, Increment.carry, increment, even-suc}

-- ---- the ruler function and the direction, by the first radix
pub ruler_carry : (m : ℕ) (ms : List ℕ) (j : ℕ) → j % m ≡ 0 → ruler (m ∷ ms) j ≡ suc (ruler ms (j / m))
unfolding ruler
ruler_carry m ms j e = rw (eq-eqb (j % m) 0 e)

pub ruler_no_carry : (m : ℕ) (ms : List ℕ) (j b : ℕ) → j % m ≡ suc b → ruler (m ∷ ms) j ≡ 1
unfolding ruler
ruler_no_carry m ms j b e = rw (ne_eqb (j % m) 0 (λ z. omega arith))

pub descends_no_carry : (m : ℕ) (ms : List ℕ) (j b : ℕ) → j % m ≡ suc b → descends (m ∷ ms) j ≡ not (even (j / m))
unfolding descends
descends_no_carry m ms j b e =
    let part : size (take (ruler (m ∷ ms) j) (m ∷ ms)) ≡ m = unfold size in rw (ruler_no_carry m ms j b e) (mul-one m) in
    rw part

pub descends_carry : (m : ℕ) (ms : List ℕ) (j : ℕ) → j % m ≡ 0 → descends (m ∷ ms) j ≡ descends ms (j / m)
unfolding descends
descends_carry m ms j e =
    let part : size (take (ruler (m ∷ ms) j) (m ∷ ms)) ≡ m * size (take (ruler ms (j / m)) ms) = unfold size in rw (ruler_carry m ms j e) in
    rw part (rw (← (div-div-eq-div-mul j m (size (take (ruler ms (j / m)) ms)))))

-- ---- one move
one_digit : (m b : ℕ) (w : List ℕ) (e : Bool)
    → suc b < m
    → Moves 1 (not e) (cond e b (m - 1 - b) ∷ w) (cond e (suc b) (m - 1 - suc b) ∷ w)
one_digit m b w true h = up
one_digit m b w false h = let e : m - 1 - b ≡ suc (m - 1 - suc b) = omega arith in rw e down

-- a digit that has come to its end stands still while the next one moves: it is m − 1 or 0 on both sides
at_rest : (m b : ℕ) (e : Bool) → suc b ≡ m → cond e b (m - 1 - b) ≡ cond (not e) 0 (m - 1 - 0)
at_rest m b true h = omega arith
at_rest m b false h = omega arith

rest_moves : (m : ℕ) (ms : List ℕ) (j : ℕ) → Increment m j
    → (suc j / m ≡ suc (j / m) → Moves (ruler ms (suc (j / m))) (descends ms (suc (j / m))) (word_at ms (j / m)) (word_at ms (suc (j / m))))
    → Moves (ruler (m ∷ ms) (suc j)) (descends (m ∷ ms) (suc j)) (word_at (m ∷ ms) j) (word_at (m ∷ ms) (suc j))
unfolding word_at
rest_moves m ms j (no_carry q b below) slower =
    rw
    (ruler_no_carry m ms (suc j) (j % m) b, descends_no_carry m ms (suc j) (j % m) b, q, b)
    (one_digit m (j % m) (word_at ms (j / m)) (even (j / m)) below)
rest_moves m ms j (carry q b whole) slower =
    let still : reflect m (j / m) (j % m) ≡ reflect m (suc (j / m)) 0 = rw (even-suc (j / m)) (at_rest m (j % m) (even (j / m)) whole) in
    rw
    (ruler_carry m ms (suc j) b, descends_carry m ms (suc j) b, q, b, still)
    (next (slower q))

pub word_at-moves : (ms : List ℕ) (j : ℕ)
    → suc j < size ms
    → Moves (ruler ms (suc j)) (descends ms (suc j)) (word_at ms j) (word_at ms (suc j))
word_at-moves [] j h = absurd (unfold size in omega arith)
word_at-moves (m ∷ ms) j h =
    rest_moves m ms j
    (increment m j (first_pos m ms (suc j) h))
    (λ q. word_at-moves ms (j / m) (rw q at (quotient_below m ms (suc j) h)))

-- ---- what a move says
moves_differ : {k : ℕ} {d : Bool} {u v : List ℕ} → Moves k d u v → difference u v ≡ record { digit = k; down = d }
unfolding difference
moves_differ (up {a} {w}) = rw (ne_eqb a (suc a) (λ z. omega arith), le-ltb (suc a) a (omega arith))
moves_differ (down {a} {w}) = rw (ne_eqb (suc a) a (λ z. omega arith), lt-ltb a (suc a) (omega arith))
moves_differ (next {a = a} p) = rw (eq-eqb a a refl) (ap later (moves_differ p))

pub moves_within : {k : ℕ} {d : Bool} {u v : List ℕ} → Moves k d u v → (1 ≤ k) × (k ≤ length u)
moves_within (up {a} {w}) = omega arith
moves_within (down {a} {w}) = omega arith
moves_within (next p) = let h = moves_within p in omega arith

-- ---- the list
-- change j + 1 is a move of the digit that the ruler function names, in the direction that the rank of the slower digits gives;
-- members j and j + 1 differ by that move and by nothing else
pub change_is_ruler : (ms : List ℕ) (j : ℕ) → suc j < size ms
    → (change ms (suc j) ≡ record { digit = ruler ms (suc j); down = descends ms (suc j) })
    × (Moves (ruler ms (suc j)) (descends ms (suc j)) (member ms j) (member ms (suc j)))
    × (1 ≤ ruler ms (suc j))
    × (ruler ms (suc j) ≤ length ms)
change_is_ruler ms j h =
    let step : Moves (ruler ms (suc j)) (descends ms (suc j)) (member ms j) (member ms (suc j)) =
    rw (member_is_word_at ms j (omega arith), member_is_word_at ms (suc j) h) (word_at-moves ms j h) in
    let before : suc j - 1 ≡ j = omega arith in
    let within = moves_within (word_at-moves ms j h) in
    let long = length-word_at ms j in
    (ap (λ (i : ℕ). difference (member ms i) (member ms (suc j))) before ∙ moves_differ step, step, omega arith, omega arith)

others_same : (a b : ℕ) (w : List ℕ) (o : ℕ) → (o ≡ 0 → ⊥) → get_or (b ∷ w) o 0 ≡ get_or (a ∷ w) o 0
others_same a b w zero n = absurd (n refl)
others_same a b w (suc o) n = refl

next_same : (a : ℕ) (u v : List ℕ) (i : ℕ)
    → ((o : ℕ) → (o ≡ i → ⊥) → get_or v o 0 ≡ get_or u o 0)
    → (o : ℕ)
    → (o ≡ suc i → ⊥)
    → get_or (a ∷ v) o 0 ≡ get_or (a ∷ u) o 0
next_same a u v i same zero n = refl
next_same a u v i same (suc o) n = same o (λ e. n (ap suc e))

-- a move by index
pub moves-apart : {k : ℕ} {d : Bool} {u v : List ℕ} → Moves k d u v → (i : ℕ) × (k ≡ suc i) × OneApart i u v
moves-apart (up {a} {w}) =
    (0, refl, record { within = omega arith; long = refl; by_one = inl refl; others = others_same a (suc a) w })
moves-apart (down {a} {w}) =
    (0, refl, record { within = omega arith; long = refl; by_one = inr refl; others = others_same (suc a) a w })
moves-apart (next {a = a} {u = u} {v = v} p) =
    let (i, e, r) = moves-apart p in
    let deeper = r.within in (
      suc i,
      ap suc e,
      record { within = omega arith; long = ap suc r.long; by_one = r.by_one; others = next_same a u v i r.others },
    )

-- members j and j + 1 differ in exactly one digit, by one
pub neighbours_differ_once : (ms : List ℕ) (j : ℕ)
    → suc j < size ms
    → (i : ℕ) × (ruler ms (suc j) ≡ suc i) × OneApart i (member ms j) (member ms (suc j))
neighbours_differ_once ms j h = moves-apart (change_is_ruler ms j h).1

-- the ruler function at N is n + 1: the entry that ends a walk
pub ruler_at_end : (ms : List ℕ) → all_from 1 ms ≡ true → ruler ms (size ms) ≡ suc (length ms)
unfolding all_from size
ruler_at_end [] e = unfold ruler in refl
ruler_at_end (m ∷ ms) e =
    let (first, others) = (and-eq-true_iff (leb 1 m) (all_from 1 ms)).0 e in
    ruler_carry m ms (m * size ms) (mul-mod_right m (size ms))
    ∙ ap (λ (n : ℕ). suc (ruler ms n)) (mul-div_cancel_left (size ms) (leb-true 1 m first))
    ∙ ap suc (ruler_at_end ms others)

-- ---- the ruler function of document 004: 1 + the largest i for which m_1 .. m_i divides j
pub ruler_pos : (ms : List ℕ) (j : ℕ) → 0 < ruler ms j
ruler_pos [] j = unfold ruler in omega arith
ruler_pos (m ∷ ms) j =
    elim (ℕ_discrete (j % m) 0) [
      | yes e ↦ let r = ruler_carry m ms j e in omega arith
      | no ne ↦ let b : j % m ≡ suc (j % m - 1) = omega arith in let r = ruler_no_carry m ms j (j % m - 1) b in omega arith
    ]

-- m_1 .. m_i divides j exactly if i is below the ruler function of j
pub ruler-divides : (ms : List ℕ)
    → all_from 1 ms ≡ true
    → (j i : ℕ)
    → i ≤ length ms
    → (i < ruler ms j) ↔ (j % size (take i ms) ≡ 0)
unfolding all_from size
ruler-divides [] e j zero h = (λ l. mod-one j, λ z. ruler_pos [] j)
ruler-divides [] e j (suc i) h = absurd (omega arith)
ruler-divides (m ∷ ms) e j zero h = (λ l. mod-one j, λ z. ruler_pos (m ∷ ms) j)
ruler-divides (m ∷ ms) e j (suc i) h =
    let (first, others) = (and-eq-true_iff (leb 1 m) (all_from 1 ms)).0 e in
    let (apart, together) = divides_product j m (size (take i ms)) (leb-true 1 m first) (size_pos (take i ms) (all_from-take 1 i ms others)) in
    let (there, back) = ruler-divides ms others (j / m) i (omega arith) in
    elim (ℕ_discrete (j % m) 0) [
      | yes z ↦
          let r = ruler_carry m ms j z in
          (λ l. together (z, there (omega arith)), λ d. let b = back (apart d).1 in omega arith)
      | no ne ↦
          let b : j % m ≡ suc (j % m - 1) = omega arith in
          let r = ruler_no_carry m ms j (j % m - 1) b in
          (λ l. absurd (omega arith), λ d. absurd (ne (apart d).0))
    ]
