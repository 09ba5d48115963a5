-- Every run along the list keeps the claims of Rests: which changes are a sluice's, its first, how far apart they are, and how
-- many. What the engines have to do with it stands in EngineRests.
use Prim.Native.Nat.{ℕ, zero, suc, ◌+◌, ◌-◌, ◌*◌, ◌/◌, ◌%◌, ◌≤◌, ◌<◌}
use Rattle.std.proofs.Math.Nat.{div-div-eq-div-mul, div-eq_of_lt, div_self, mul-pos, zero-div}
use Rattle.std.proofs.Common.{mod-eq_of_lt, one-mul, zero-mul, sym, ap₂, ◌∙◌}
use Rattle.std.proofs.Math.Decide.{dec_lt}
use native.Mathlib.Omega.{arith}
use Rattle.std.specs.Prelude.{◌≡◌, refl, ◌↔◌, Bool, true, false, ◌&&◌, List, eqb, take}
use Rattle.std.proofs.Math.Path.{ap}
use Rattle.std.proofs.Math.Bool.{cond, not}
use borrow.Author.Tests.{eq-eqb, ne_eqb, eqb-true}
use Rattle.gray_theory.specs.Answers.{given}
use Rattle.gray_theory.specs.Radices.{size, all_from}
use Rattle.gray_theory.specs.Locks.{moving}
use Rattle.gray_theory.specs.Words.{even, member, notch_of, reflect}
use Rattle.gray_theory.specs.Changes.{Change, change, descends}
use Rattle.gray_theory.proofs.Members.{member_is_word_at}
use Rattle.gray_theory.proofs.FirstMoves.{every_digit_moves, locked_digits_never_move}
use Rattle.gray_theory.specs.Engines.{moved, move_at}
use Rattle.gray_theory.specs.Bools.{impossible}
use Rattle.gray_theory.proofs.Bools.{never_true}
use Rattle.gray_theory.proofs.Increments.{even-suc}
use Rattle.gray_theory.proofs.Sizes.{size_pos, all_from-take, divides_product}
use Rattle.rests_theory.specs.Rests.{count_of, P, Moving, Locked, Run, listed, NamesTheList, is_move_of, moves, MovesTo, moves_in, added_up, divides, FirstMove, InSuccession, turns, at_an_end, Apart, Rests}
use Rattle.rests_theory.proofs.Along.{listed-moves, listed-ends}
use Rattle.rests_theory.proofs.Multiples.{Alone, alone, Next, Next.straight, Next.turning, next_multiple, quotient_counts, not_at_an_end, at_an_end_lem, straight_on, turned_round, tested, one_of_two}
use Rattle.rests_theory.proofs.Products.{digit_of_word, product_divides, together}
use Rattle.rests_theory.proofs.ProductBelow.{P_is_the_product_below}
use Rattle.rests_theory.proofs.WhenMoves.{product_to, change_is, moves_when_P-divides}

-- ---- a run along the list
same_move : (c c' : Change) (a a' : ℕ) → given (moved c a) ≡ given (moved c' a') → (c ≡ c') × (a ≡ a')
same_move c c' a a' same = (cc, cc)

module _ (ms : List ℕ) (e : all_from 1 ms ≡ true) (run : Run) (along : NamesTheList ms run) where
  names : (j : ℕ) → 1 ≤ j → j < size ms → run j ≡ given (move_at ms j)
  names j one h = along j one ∙ listed-moves ms j h

  -- from call N on nothing moves
  no_more : (k j : ℕ) → size ms ≤ j → moves run j k ≡ false
  no_more k j h = let some = size_pos ms e in ap (is_move_of k) (along j (omega arith) ∙ listed-ends ms j h)

  -- and a locked sluice never does
  locked_rests : (k j : ℕ) → Locked ms k → 1 ≤ j → moves run j k ≡ false
  locked_rests k j v one =
      let first = v.from_1 in
      let last = v.to_n in
      let i : suc (k - 1) ≡ k = omega arith in
      elim (dec_lt j (size ms)) [
        | yes h ↦
            ap (is_move_of k) (names j one h)
            ∙ ne_eqb (change ms j).digit k (λ same. locked_digits_never_move ms j (k - 1) e (omega arith) v.count one h (same ∙ sym i))
        | no past ↦ no_more k j (omega arith)
      ]

  module _ (k : ℕ) (v : Moving ms k) where
    abbrev p : ℕ
    p = P ms k

    abbrev m : ℕ
    m = count_of ms k

    p_pos : 0 < p
    p_pos =
        let below = P_is_the_product_below ms k e in
        let pos = size_pos (take (k - 1) ms) (all_from-take 1 (k - 1) ms e) in
        omega arith

    when : (j : ℕ) → 1 ≤ j → j < size ms → (moves run j k ≡ true) ↔ Alone p m j
    when j one h =
        let (there, back) = moves_when_P-divides ms k j e v one h in
        let answered : moves run j k ≡ eqb (change ms j).digit k = ap (is_move_of k) (names j one h) in
        let (to, from) = alone p m p_pos v.count j in (
          λ it. to (there (eqb-true (change ms j).digit k (sym answered ∙ it))),
          λ a. answered ∙ eq-eqb (change ms j).digit k (back (from a)),
        )

    -- the first
    first_move : FirstMove ms run k
    first_move =
        let first = v.from_1 in
        let last = v.to_n in
        let two = v.count in
        let pos = p_pos in
        let below = P_is_the_product_below ms k e in
        let within = (every_digit_moves ms (k - 1) e (omega arith) two).1 in
        let inside : p < size ms = omega arith in
        let once : p / p ≡ 1 = div_self pos in
        let rest : 1 % m ≡ 1 = mod-eq_of_lt (omega arith) in
        record {
          from_1 = pos;
          below_N = inside;
          at_P = (when p pos inside).1 (record { times = rw once (sym (one-mul p)); left = rw (once, rest) (omega arith) });
          none_before = λ j one h.
              never_true (moves run j k)
              (λ it.
              let times = ((when j one (omega arith)).0 it).times in
              let none : j / p * p ≡ 0 = ap (λ (n : ℕ). n * p) (div-eq_of_lt h) ∙ zero-mul p in
              omega arith);
        }

    -- a move of sluice k is its change: the direction and the notch, by u = j / P
    is_change : (j : ℕ) (d : Bool) (a : ℕ) → 1 ≤ j → j < size ms → MovesTo run j k d a
        → (record { digit = k; down = d } ≡ change ms j) × (a ≡ notch_of (member ms j) (change ms j).digit)
    is_change j d a one h is = same_move _ _ _ _ (sym is ∙ names j one h)

    goes : (j : ℕ) (d : Bool) (a : ℕ) → 1 ≤ j → j < size ms → MovesTo run j k d a → d ≡ not (even (j / p / m))
    unfolding descends
    goes j d a one h is =
        let same = (is_change j d a one h is).0 ∙ change_is ms j one h in
        ap (λ (c : Change). c.down) same
        ∙ ap (λ (n : ℕ). not (even (j / size (take n ms)))) (sym (ap (λ (c : Change). c.digit) same))
        ∙ ap (λ (n : ℕ). not (even (j / n))) (product_to ms k e v.from_1 v.to_n)
        ∙ ap (λ (n : ℕ). not (even n)) (sym (div-div-eq-div-mul j p m))

    comes_to : (j : ℕ) (d : Bool) (a : ℕ) → 1 ≤ j → j < size ms → MovesTo run j k d a → a ≡ reflect m (j / p / m) (j / p % m)
    comes_to j d a one h is =
        let first = v.from_1 in
        let last = v.to_n in
        let (same, notch) = is_change j d a one h is in
        notch
        ∙ ap (λ (c : Change). notch_of (member ms j) c.digit) (sym same)
        ∙ ap (λ (w : List ℕ). notch_of w k) (member_is_word_at ms j h)
        ∙ digit_of_word ms (k - 1) j (omega arith)
        ∙ ap (λ (n : ℕ). reflect m (j / n / m) (j / n % m)) (sym (P_is_the_product_below ms k e))

    -- two in succession
    succession : (j j' : ℕ) (d d' : Bool) (a a' : ℕ) → 1 ≤ j → j' < size ms → InSuccession run k j j' d d' a a' → Apart ms k j j' d d' a
    succession j j' d d' a a' one h s =
        let later = s.later in
        let it : moves run j k ≡ true = ap (is_move_of k) s.first ∙ eq-eqb k k refl in
        let it' : moves run j' k ≡ true = ap (is_move_of k) s.second ∙ eq-eqb k k refl in
        let x = (when j one (omega arith)).0 it in
        let x' = (when j' (omega arith) h).0 it' in
        by x x'
        (next_multiple p m p_pos v.count j j' x x' later
        (λ i low high y.
        let yes = (when i (omega arith) (omega arith)).1 y in
        let no = s.none_between i low high in
        impossible (cc)))
      where
        -- with b for "it turns"
        apart : (b : Bool)
            → turns (not (even (j / p / m))) (not (even (j' / p / m))) ≡ b
            → at_an_end m (reflect m (j / p / m) (j / p % m)) ≡ b
            → j' ≡ j + cond b (2 * p) p
            → Apart ms k j j' d d' a
        apart b turned end far =
            let later = s.later in
            let turn : turns d d' ≡ b =
            ap₂ turns (goes j d a one (omega arith) s.first) (goes j' d' a' (omega arith) h s.second) ∙ turned in
            record {
              rest = far ∙ ap (λ c. j + cond c (2 * p) p) (sym turn);
              turn = turn ∙ sym (ap (at_an_end m) (comes_to j d a one (omega arith) s.first) ∙ end);
            }

        by : Alone p m j → Alone p m j' → Next m (j / p) (j' / p) → Apart ms k j j' d d' a
        by x x' (straight q round inside) =
            let from = x.times in
            let to = x'.times in
            let far = ap (λ (n : ℕ). n * p) q in
            apart false
            (rw round (straight_on (not (even (j / p / m)))))
            (not_at_an_end m (j / p % m) (even (j / p / m)) x.left inside)
            (omega arith)
        by x x' (turning q round whole) =
            let from = x.times in
            let to = x'.times in
            let far = ap (λ (n : ℕ). n * p) q in
            apart true
            (rw (round, even-suc (j / p / m)) (turned_round (not (even (j / p / m)))))
            (at_an_end_lem m (j / p % m) (even (j / p / m)) x.left whole)
            (omega arith)

    tested_when : (j : ℕ) → 1 ≤ j → j < size ms → moves run j k ≡ divides p j && not (divides (p * m) j)
    tested_when j one h =
        ap (is_move_of k) (names j one h)
        ∙ tested (change ms j).digit k (j % p) (j % (p * m)) (moves_when_P-divides ms k j e v one h)

    -- how many of the first t: the multiples of P without those of Q
    counted : (t : ℕ) → t < size ms → moves_in run k t + t / (p * m) ≡ t / p
    unfolding moves_in
    counted zero h = rw (zero-div (p * m), zero-div p)
    counted (suc t) h =
        let two = v.count in
        let pos = p_pos in
        let q_pos : 0 < p * m = mul-pos pos (omega arith) in
        let before = counted t (omega arith) in
        let here = ap (λ b. cond {A = ℕ} b 1 0) (tested_when (suc t) (omega arith) h) in
        let by-P = quotient_counts p t pos in
        let by-Q = quotient_counts (p * m) t q_pos in
        let each = one_of_two (divides p (suc t)) (divides (p * m) (suc t))
        (λ z. eq-eqb (suc t % p) 0 ((divides_product (suc t) p m pos (omega arith)).0 (eqb-true (suc t % (p * m)) 0 z)).0) in
        omega arith

    in_all : moves_in run k (size ms - 1) ≡ size ms / p - size ms / (p * m)
    in_all =
        let two = v.count in
        let pos = p_pos in
        let some = size_pos ms e in
        let last : suc (size ms - 1) ≡ size ms = omega arith in
        let count = counted (size ms - 1) (omega arith) in
        let p_last : size ms % p ≡ 0 = ap (λ (n : ℕ). size ms % n) (P_is_the_product_below ms k e) ∙ product_divides ms (k - 1) in
        let q_last : size ms % (p * m) ≡ 0 =
        ap (λ (n : ℕ). size ms % n) (sym (product_to ms k e v.from_1 v.to_n)) ∙ product_divides ms k in
        let by-P = one_more p pos last p_last in
        let by-Q = one_more (p * m) (mul-pos pos (omega arith)) last q_last in
        omega arith
      where
        one_more : (d : ℕ) → 0 < d → suc (size ms - 1) ≡ size ms → size ms % d ≡ 0 → size ms / d ≡ (size ms - 1) / d + 1
        one_more d pos last z =
            ap (λ (n : ℕ). n / d) (sym last)
            ∙ quotient_counts d (size ms - 1) pos
            ∙ ap (λ b. (size ms - 1) / d + cond b 1 0) (eq-eqb (suc (size ms - 1) % d) 0 (ap (λ (n : ℕ). n % d) last ∙ z))

  -- every move is one of a moving sluice
  all_moves : added_up (λ k. moves_in run k (size ms - 1)) (moving ms) ≡ size ms - 1
  all_moves =
      let some = size_pos ms e in
      let most = together ms (size ms - 1) (λ k. moves_in run k (size ms - 1)) e
      (λ i h two.
      let index : suc i - 1 ≡ i = omega arith in
      let v : Moving ms (suc i) = record { from_1 = omega arith; to_n = h; count = rw index two } in
      ap (λ (n : ℕ). moves_in run (suc i) (size ms - 1) + (size ms - 1) / n) (product_to ms (suc i) e v.from_1 h)
      ∙ counted (suc i) v (size ms - 1) (omega arith)
      ∙ ap (λ (n : ℕ). (size ms - 1) / n) (P_is_the_product_below ms (suc i) e ∙ ap (λ (n : ℕ). size (take n ms)) index)) in
      let none : (size ms - 1) / size ms ≡ 0 = div-eq_of_lt (omega arith) in
      omega arith

  -- In a run along the list every sluice rests as document 02 says.
  pub runs_along_the_list_rest : Rests ms run
  runs_along_the_list_rest =
      record {
        when = λ k j v. tested_when k v j;
        first = first_move;
        succession = λ k j j' d d' a a' v. succession k v j j' d d' a a';
        in_all = in_all;
        together = all_moves;
        no_more = no_more;
        locked = locked_rests;
      }

-- So it is in the list itself.
pub list_rests : (ms : List ℕ) → all_from 1 ms ≡ true → Rests ms (listed ms)
list_rests ms e = runs_along_the_list_rest ms e (listed ms) (λ j one. refl)
