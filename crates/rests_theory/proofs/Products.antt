-- Laws of the products of the radices below each digit: a digit's notch by them, and the quotients by them added up.
use Rattle.std.specs.Prelude.{ℕ, zero, suc, ◌+◌, ◌*◌, ◌/◌, ◌%◌, ◌≤◌, ◌<◌, ◌≡◌, refl, true, cond, List, [], ◌∷◌, map, leb, length, get_or, take, drop}
use Rattle.std.proofs.Common.{div-one, mul-one, arith, sym, ap, ◌∙◌, leb-true, take-append-drop}
use Rattle.std.proofs.Math.Nat.{div-div-eq-div-mul, mul-mod_right}
use Rattle.std.proofs.Math.Bool.{and-eq-true_iff}
use Rattle.gray_theory.specs.Radices.{size, all_from}
use Rattle.gray_theory.specs.Locks.{moving}
use Rattle.gray_theory.specs.Words.{reflect}
use Rattle.gray_theory.specs.Indexed.{word_at}
use Rattle.gray_theory.proofs.Sizes.{size-append}
use Rattle.gray_theory.proofs.Unlocked.{Lock, Lock.free, Lock.locked, lock}
use Rattle.rests_theory.specs.Rests.{added_up}

-- each of them divides the whole product
pub product_divides : (ms : List ℕ) (i : ℕ) → size ms % size (take i ms) ≡ 0
product_divides ms i =
    ap (λ (n : ℕ). n % size (take i ms)) (ap size (sym (take-append-drop i ms)) ∙ size-append (take i ms) (drop i ms))
    ∙ mul-mod_right (size (take i ms)) (size (drop i ms))

-- digit i + 1 of the word of rank r: by u = r / (m_1 .. m_i), the round u / m and the place u % m in it
pub digit_of_word : (ms : List ℕ) (i r : ℕ)
    → i < length ms
    → get_or (word_at ms r) i 0
    ≡ reflect (get_or ms i 0) (r / size (take i ms) / get_or ms i 0) (r / size (take i ms) % get_or ms i 0)
unfolding word_at size
digit_of_word [] i r h = absurd (omega arith)
digit_of_word (m ∷ ms) zero r h = ap (λ (u : ℕ). reflect m (u / m) (u % m)) (sym (div-one r))
digit_of_word (m ∷ ms) (suc i) r h =
    digit_of_word ms i (r / m) (omega arith)
    ∙ ap (λ (u : ℕ). reflect (get_or ms i 0) (u / get_or ms i 0) (u % get_or ms i 0)) (div-div-eq-div-mul r m (size (take i ms)))

-- if f (i + 1) is x / (m_1 .. m_i) − x / (m_1 .. m_(i + 1)) for each digit that moves, then all of them with x / N make x
pub together : (ms : List ℕ) (x : ℕ) (f : ℕ → ℕ)
    → all_from 1 ms ≡ true
    → ((i : ℕ) → i < length ms → 2 ≤ get_or ms i 0 → f (suc i) + x / size (take (suc i) ms) ≡ x / size (take i ms))
    → added_up f (moving ms) + x / size ms ≡ x
unfolding added_up moving size all_from
together [] x f e each = let all = div-one x in omega arith
together (m ∷ ms) x f e each =
    let (first, others) = (and-eq-true_iff (leb 1 m) (all_from 1 ms)).0 e in
    by (lock m (leb-true 1 m first))
    (together ms (x / m) (λ k. f (suc k)) others
    (λ i h two.
    ap (λ (n : ℕ). f (suc (suc i)) + n) (div-div-eq-div-mul x m (size (take (suc i) ms)))
    ∙ each (suc i) (omega arith) two
    ∙ sym (div-div-eq-div-mul x m (size (take i ms)))))
  where
    shifted : (ks : List ℕ) → added_up f (map suc ks) ≡ added_up (λ k. f (suc k)) ks
    shifted [] = refl
    shifted (k ∷ ks) = ap (λ (n : ℕ). f (suc k) + n) (shifted ks)

    by : Lock m
        → added_up (λ k. f (suc k)) (moving ms) + x / m / size ms ≡ x / m
        → added_up f (cond (leb 2 m) (1 ∷ map suc (moving ms)) (map suc (moving ms))) + x / (m * size ms) ≡ x
    by (free moves two) slower =
        let one = each 0 (omega arith) two in
        let whole = div-div-eq-div-mul x m (size ms) in
        let rest = shifted (moving ms) in
        let part : x / (m * 1) ≡ x / m = ap (λ (n : ℕ). x / n) (mul-one m) in
        let all = div-one x in
        rw moves (omega arith)
    by (locked rests one) slower =
        let whole = div-div-eq-div-mul x m (size ms) in
        let rest = shifted (moving ms) in
        let all : x / m ≡ x = ap (λ (n : ℕ). x / n) one ∙ div-one x in
        rw rests (omega arith)
