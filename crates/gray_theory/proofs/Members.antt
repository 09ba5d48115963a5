-- The list in index form: it has N members, and the member of rank r is `word_at r`, which divides r by one radix after another.
use Rattle.std.specs.Prelude.{ℕ, zero, suc, ◌+◌, ◌-◌, ◌*◌, ◌/◌, ◌%◌, ◌<◌, ◌≡◌, refl, Bool, true, false, cond, List, [], ◌∷◌, ◌++◌, map, length, get_or}
use Rattle.std.proofs.Math.Nat.{div-eq_of_lt, add-div_left, add-mod_left}
use Rattle.std.proofs.Common.{mod-eq_of_lt, mul_comm, add-zero, zero-add, add-one, arith, ap, ◌∙◌, length-append, get_or-append-add}
use Rattle.std.proofs.Math.Decide.{dec_lt}
use Rattle.std.proofs.lemmas.List.{length-map, get_or_at}
use Rattle.std.proofs.Math.ListN.{get_or-append}
use Rattle.gray_theory.specs.Radices.{size}
use Rattle.gray_theory.specs.Words.{even, upward, downward, notches, through, list, member, reflect}
use Rattle.gray_theory.specs.Indexed.{word_at}
use Rattle.gray_theory.proofs.Sizes.{pos_of_lt_mul, quotient_below}

pub length-word_at : (ms : List ℕ) (r : ℕ) → length (word_at ms r) ≡ length ms
unfolding word_at
length-word_at [] r = refl
length-word_at (m ∷ ms) r = ap suc (length-word_at ms (r / m))

-- ---- one digit's notches, up or down
pub length-upward : (m : ℕ) → length (upward m) ≡ m
unfolding upward
length-upward zero = refl
length-upward (suc m) = length-append (upward m) (m ∷ []) ∙ ap (λ (k : ℕ). k + 1) (length-upward m) ∙ add-one m

length-downward : (m : ℕ) → length (downward m) ≡ m
unfolding downward
length-downward zero = refl
length-downward (suc m) = ap suc (length-downward m)

pub get_d_upward : (m i : ℕ) → i < m → get_or (upward m) i 0 ≡ i
unfolding upward
get_d_upward zero i h = absurd (omega arith)
get_d_upward (suc m) i h =
    elim (dec_lt i m) [
      | yes p ↦ get_or-append (upward m) (m ∷ []) 0 i (let l = length-upward m in omega arith) ∙ get_d_upward m i p
      | no q ↦ let e : m ≡ i = omega arith in get_or_at (upward m) m [] 0 i (length-upward m ∙ e) ∙ e
    ]

pub get_d_downward : (m i : ℕ) → i < m → get_or (downward m) i 0 ≡ m - 1 - i
unfolding downward
get_d_downward zero i h = absurd (omega arith)
get_d_downward (suc m) zero h = omega arith
get_d_downward (suc m) (suc i) h = let ih = get_d_downward m i (omega arith) in omega arith

get_d_notches : (m r i : ℕ) → i < m → get_or (notches m r) i 0 ≡ reflect m r i
unfolding notches
get_d_notches m r i h = go (even r)
  where
    go : (b : Bool) → get_or (cond b (upward m) (downward m)) i 0 ≡ cond b i (m - 1 - i)
    go true = get_d_upward m i h
    go false = get_d_downward m i h

length-notches : (m r : ℕ) → length (notches m r) ≡ m
unfolding notches
length-notches m r = go (even r)
  where
    go : (b : Bool) → length (cond b (upward m) (downward m)) ≡ m
    go true = length-upward m
    go false = length-downward m

get_d_map : {A B : Type 0} (f : A → B) (l : List A) (i : ℕ) (d : A) (e : B) → i < length l → get_or (map f l) i e ≡ f (get_or l i d)
get_d_map f [] i d e h = absurd (omega arith)
get_d_map f (x ∷ l) zero d e h = refl
get_d_map f (x ∷ l) (suc i) d e h = get_d_map f l i d e (omega arith)

-- ---- the list through one more digit
length-through : (m r : ℕ) (cs : List (List ℕ)) → length (through m r cs) ≡ length cs * m
unfolding through
length-through m r [] = omega arith
length-through m r (c ∷ cs) =
    let ih = length-through m (suc r) cs in
    simp (length-append, length-map, length-notches) (omega arith)

-- the words that one word of the slower digits is followed by
block : ℕ → ℕ → List ℕ → List (List ℕ)
block m r c = map (λ a. a ∷ c) (notches m r)

length-block : (m r : ℕ) (c : List ℕ) → length (block m r c) ≡ m
unfolding block
length-block m r c = length-map (notches m r) (λ a. a ∷ c) ∙ length-notches m r

get_d_block : (m r : ℕ) (c : List ℕ) (i : ℕ) → i < m → get_or (block m r c) i [] ≡ reflect m r i ∷ c
unfolding block
get_d_block m r c i h =
    get_d_map (λ a. a ∷ c) (notches m r) i 0 [] (let l = length-notches m r in omega arith)
    ∙ ap (λ a. a ∷ c) (get_d_notches m r i h)

-- past the first block, k further on: the same place of the blocks that follow it
past : (m r : ℕ) (c : List ℕ) (cs : List (List ℕ)) (i k : ℕ)
    → 0 < m
    → i ≡ m + k
    → get_or (through m (suc r) cs) k [] ≡ reflect m (suc r + k / m) (k % m) ∷ get_or cs (k / m) []
    → get_or (block m r c ++ through m (suc r) cs) i [] ≡ reflect m (r + i / m) (i % m) ∷ get_or (c ∷ cs) (i / m) []
past m r c cs i k pos e ih =
    let at : i ≡ length (block m r c) + k = (let l = length-block m r c in omega arith) in
    let q : i / m ≡ suc (k / m) = ap (λ (n : ℕ). n / m) e ∙ add-div_left k pos ∙ add-one (k / m) in
    let b : i % m ≡ k % m = ap (λ (n : ℕ). n % m) e ∙ add-mod_left m k in
    let p : suc r + k / m ≡ r + suc (k / m) = omega arith in
    ap (λ (n : ℕ). get_or (block m r c ++ through m (suc r) cs) n []) at
    ∙ get_or-append-add (block m r c) (through m (suc r) cs) k []
    ∙ ih
    ∙ ap (λ (n : ℕ). reflect m n (k % m) ∷ get_or cs (k / m) []) p
    ∙ rw (q, b)

get_d_through : (m r : ℕ) (cs : List (List ℕ)) (i : ℕ)
    → i < length cs * m
    → get_or (through m r cs) i [] ≡ reflect m (r + i / m) (i % m) ∷ get_or cs (i / m) []
unfolding through block
get_d_through m r [] i h = absurd (omega arith)
get_d_through m r (c ∷ cs) i h =
    elim (dec_lt i m) [
      | yes p ↦
          get_or-append (block m r c) (through m (suc r) cs) [] i (let l = length-block m r c in omega arith)
          ∙ get_d_block m r c i p
          ∙ rw (div-eq_of_lt p, mod-eq_of_lt p, add-zero)
      | no q ↦
          past m r c cs i (i - m) (pos_of_lt_mul i (length (c ∷ cs)) m h) (omega arith) (get_d_through m (suc r) cs (i - m) (omega arith))
    ]

-- ---- the list
-- the list has N members
pub list_has_size : (ms : List ℕ) → length (list ms) ≡ size ms
unfolding list size
list_has_size [] = refl
list_has_size (m ∷ ms) = length-through m 0 (list ms) ∙ ap (λ (n : ℕ). n * m) (list_has_size ms) ∙ mul_comm (size ms) m

-- the member of rank r is the word that dividing r by the radices gives
pub member_is_word_at : (ms : List ℕ) (r : ℕ) → r < size ms → member ms r ≡ word_at ms r
unfolding list size word_at
member_is_word_at [] zero h = refl
member_is_word_at [] (suc r) h = absurd (omega arith)
member_is_word_at (m ∷ ms) r h =
    get_d_through m 0 (list ms) r (let l = list_has_size ms in let c = mul_comm m (size ms) in rw l (rw (← c) h))
    ∙ ap (λ (p : ℕ). reflect m p (r % m) ∷ member ms (r / m)) (zero-add (r / m))
    ∙ ap (λ (w : List ℕ). reflect m (r / m) (r % m) ∷ w) (member_is_word_at ms (r / m) (quotient_below m ms r h))
