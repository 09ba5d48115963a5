-- What the digits that move have to do with all digits: the same size, the same changes, the same notches.
use Rattle.std.specs.Prelude.{ℕ, zero, suc, ◌+◌, ◌-◌, ◌*◌, ◌/◌, ◌%◌, ◌≤◌, ◌<◌, ◌≡◌, Bool, true, cond, ◌&&◌, List, [], ◌∷◌, ◌++◌, map, leb, eqb, length, take}
use Rattle.std.proofs.Common.{div-one, one-mul, add-one, arith, sym, ap₂, ◌∙◌, leb-true, le-leb, eq-eqb, ne_eqb, eqb-true, length-append, get_or-take, length-take-le, ext_get_or}
use Rattle.std.proofs.Math.Nat.{mod-one}
use Rattle.std.proofs.Math.Decide.{dec_le, dec_lt, ℕ_discrete}
use Rattle.std.proofs.Math.Path.{refl, ap}
use Rattle.std.proofs.Math.Bool.{false, and-eq-true_iff, and-true, and-false}
use Rattle.std.proofs.lemmas.List.{map-append, length-map, get_or_at}
use Rattle.std.proofs.lemmas.Bool.{lt-leb}
use Rattle.std.proofs.Math.ListN.{get_or, get_or-append}
use Rattle.std.proofs.Math.Seq.{get_or-append_seam}
use Rattle.gray_theory.specs.Radices.{size, all_from}
use Rattle.gray_theory.specs.Locks.{MovingSays, unlocked, moving, numbered, MovingDigits, moving_digits, moving_in_range}
use Rattle.gray_theory.proofs.Filled.{get_d_filled}
use Rattle.gray_theory.specs.Directions.{all_below}
use Rattle.gray_theory.specs.Bools.{impossible}
use Rattle.gray_theory.proofs.Sizes.{radix_least}
use Rattle.gray_theory.proofs.DigitRanges.{all_below_each, each_all_below, all_below_same}
use Rattle.gray_theory.specs.Changes.{ruler}
use Rattle.gray_theory.specs.Indexed.{word_at}
use Rattle.gray_theory.proofs.Rulers.{ruler_carry, ruler_no_carry, ruler_pos}
use Rattle.gray_theory.specs.Unlocked.{looked_up}

-- ---- one digit: it moves, or its radix is 1
pub data Lock (m : ℕ) : Type 0 where
  free : leb 2 m ≡ true → 2 ≤ m → Lock m
  locked : leb 2 m ≡ false → m ≡ 1 → Lock m

pub lock : (m : ℕ) → 1 ≤ m → Lock m
lock m one =
    elim (dec_le 2 m) [
      | yes two ↦ free (le-leb 2 m two) two
      | no few ↦ locked (lt-leb 2 m (omega arith)) (omega arith)
    ]

unlocked_free : (m : ℕ) (ms : List ℕ) → leb 2 m ≡ true → unlocked (m ∷ ms) ≡ m ∷ unlocked ms
unfolding unlocked
unlocked_free m ms e = rw e

unlocked_locked : (m : ℕ) (ms : List ℕ) → leb 2 m ≡ false → unlocked (m ∷ ms) ≡ unlocked ms
unfolding unlocked
unlocked_locked m ms e = rw e

moving_free : (m : ℕ) (ms : List ℕ) → leb 2 m ≡ true → moving (m ∷ ms) ≡ 1 ∷ map suc (moving ms)
unfolding moving
moving_free m ms e = rw e

moving_locked : (m : ℕ) (ms : List ℕ) → leb 2 m ≡ false → moving (m ∷ ms) ≡ map suc (moving ms)
unfolding moving
moving_locked m ms e = rw e

number_more : (l : List ℕ) (i : ℕ) → i < length l → get_or (map suc l) i 0 ≡ suc (get_or l i 0)
number_more [] i h = absurd (omega arith)
number_more (k ∷ l) zero h = refl
number_more (k ∷ l) (suc i) h = number_more l i (omega arith)

-- ---- how many there are, and their product
pub length-moving : (ms : List ℕ) → length (moving ms) ≡ length (unlocked ms)
unfolding unlocked moving
length-moving [] = refl
length-moving (m ∷ ms) = go (leb 2 m) (length-map (moving ms) suc ∙ length-moving ms)
  where
    go : (b : Bool)
        → length (map suc (moving ms)) ≡ length (unlocked ms)
        → length (cond b (1 ∷ map suc (moving ms)) (map suc (moving ms))) ≡ length (cond b (m ∷ unlocked ms) (unlocked ms))
    go true same = ap suc same
    go false same = same

pub unlocked_most : (ms : List ℕ) → length (unlocked ms) ≤ length ms
unfolding unlocked
unlocked_most [] = omega arith
unlocked_most (m ∷ ms) = go (leb 2 m) (unlocked_most ms)
  where
    go : (b : Bool) → length (unlocked ms) ≤ length ms → length (cond b (m ∷ unlocked ms) (unlocked ms)) ≤ suc (length ms)
    go true h = omega arith
    go false h = omega arith

-- each of them is at least 2
pub unlocked_two : (ms : List ℕ) → all_from 2 (unlocked ms) ≡ true
unfolding unlocked
unlocked_two [] = unfold all_from in refl
unlocked_two (m ∷ ms) = go (leb 2 m) refl (unlocked_two ms)
  where
    go : (b : Bool) → leb 2 m ≡ b → all_from 2 (unlocked ms) ≡ true → all_from 2 (cond b (m ∷ unlocked ms) (unlocked ms)) ≡ true
    go true e others = unfold all_from in rw e others
    go false e others = others

-- a factor of 1 makes no difference
pub size-unlocked : (ms : List ℕ) → all_from 1 ms ≡ true → size (unlocked ms) ≡ size ms
unfolding all_from size
size-unlocked [] e = unfold unlocked in refl
size-unlocked (m ∷ ms) e =
    let (first, others) = (and-eq-true_iff (leb 1 m) (all_from 1 ms)).0 e in
    let ih = size-unlocked ms others in
    elim (lock m (leb-true 1 m first)) [
      | free moves two ↦ rw (unlocked_free m ms moves) (ap (λ (n : ℕ). m * n) ih)
      | locked rests one ↦ rw (unlocked_locked m ms rests, one) (ih ∙ sym (one-mul (size ms)))
    ]

-- surveys without locked digits are as they were
pub none_locked : (ms : List ℕ) → all_from 2 ms ≡ true → unlocked ms ≡ ms
unfolding all_from unlocked
none_locked [] e = refl
none_locked (m ∷ ms) e =
    let (first, others) = (and-eq-true_iff (leb 2 m) (all_from 2 ms)).0 e in
    rw first (ap (λ (l : List ℕ). m ∷ l) (none_locked ms others))

-- if as many move as there are, none is locked
pub all_move : (ms : List ℕ) → length (unlocked ms) ≡ length ms → all_from 2 ms ≡ true
unfolding all_from unlocked
all_move [] e = refl
all_move (m ∷ ms) e = by (leb 2 m) e (unlocked_most ms) (all_move ms)
  where
    by : (b : Bool)
        → length (cond b (m ∷ unlocked ms) (unlocked ms)) ≡ suc (length ms)
        → length (unlocked ms) ≤ length ms
        → (length (unlocked ms) ≡ length ms → all_from 2 ms ≡ true)
        → b && all_from 2 ms ≡ true
    by true e most others = others (omega arith)
    by false e most others = absurd (omega arith)

pub all_unlocked : (ms : List ℕ) → length (unlocked ms) ≡ length ms → unlocked ms ≡ ms
all_unlocked ms e = none_locked ms (all_move ms e)

-- and they are numbered 1, 2, ..
pub moving_all : (ms : List ℕ) → all_from 2 ms ≡ true → (i : ℕ) → i < length ms → get_or (moving ms) i 0 ≡ suc i
unfolding all_from moving
moving_all [] e i h = absurd (omega arith)
moving_all (m ∷ ms) e zero h = let (first, others) = (and-eq-true_iff (leb 2 m) (all_from 2 ms)).0 e in rw first
moving_all (m ∷ ms) e (suc i) h =
    let (first, others) = (and-eq-true_iff (leb 2 m) (all_from 2 ms)).0 e in
    let many = length-moving ms in
    let same = ap length (none_locked ms others) in
    rw first (number_more (moving ms) i (omega arith) ∙ ap suc (moving_all ms others i (omega arith)))

-- ---- the ruler function
-- past a digit, the numbers are one higher
later_number : (l : List ℕ) (n i : ℕ) → i ≤ length l → get_or (map suc l ++ (suc n ∷ [])) i 0 ≡ suc (get_or (l ++ (n ∷ [])) i 0)
later_number [] n zero h = refl
later_number [] n (suc i) h = absurd (omega arith)
later_number (k ∷ l) n zero h = refl
later_number (k ∷ l) n (suc i) h = later_number l n i (omega arith)

ruler_most : (ms : List ℕ) (j : ℕ) → ruler ms j ≤ suc (length ms)
unfolding ruler
ruler_most [] j = omega arith
ruler_most (m ∷ ms) j = either (eqb (j % m) 0) (ruler_most ms (j / m))
  where
    either : (b : Bool) {r : ℕ} → r ≤ suc (length ms) → cond b (suc r) 1 ≤ suc (suc (length ms))
    either true h = omega arith
    either false h = omega arith

none-unlocked : (j i : ℕ) → ruler (unlocked []) j ≡ suc i → ruler [] j ≡ get_or (numbered []) i 0
unfolding unlocked ruler moving
none-unlocked j zero h = refl
none-unlocked j (suc i) h = absurd (omega arith)

-- the ruler function steps over locked digits by itself: over all digits it names the digit whose number stands where the ruler
-- function over the moving ones says
pub ruler-unlocked : (ms : List ℕ)
    → all_from 1 ms ≡ true
    → (j i : ℕ)
    → ruler (unlocked ms) j ≡ suc i
    → ruler ms j ≡ get_or (numbered ms) i 0
unfolding all_from
ruler-unlocked [] e j i h = none-unlocked j i h
ruler-unlocked (m ∷ ms) e j i h =
    let (first, others) = (and-eq-true_iff (leb 1 m) (all_from 1 ms)).0 e in
    elim (lock m (leb-true 1 m first)) [
      | free moves two ↦ moved moves (rw (unlocked_free m ms moves) at h) (ruler-unlocked ms others (j / m))
      | locked rests one ↦
          let most = ruler_most (unlocked ms) j in
          let long = length-moving ms in
          let whole : j / 1 ≡ j = div-one j in
          let named : ruler (unlocked ms) j ≡ suc i = rw (unlocked_locked m ms rests) at h in
          rw (moving_locked m ms rests)
          (ruler_carry m ms j (rw one (mod-one j))
          ∙ ap (λ (k : ℕ). suc (ruler ms (j / k))) one
          ∙ ap (λ (k : ℕ). suc (ruler ms k)) whole
          ∙ ap suc (ruler-unlocked ms others j i named)
          ∙ sym (later_number (moving ms) (suc (length ms)) i (omega arith)))
    ]
  where
    moved : leb 2 m ≡ true
        → ruler (m ∷ unlocked ms) j ≡ suc i
        → ((o : ℕ) → ruler (unlocked ms) (j / m) ≡ suc o → ruler ms (j / m) ≡ get_or (numbered ms) o 0)
        → ruler (m ∷ ms) j ≡ get_or (numbered (m ∷ ms)) i 0
    moved moves named slower = rw (moving_free m ms moves)
        (elim (ℕ_discrete (j % m) 0) [
          | no ne ↦
              let b : j % m ≡ suc (j % m - 1) = omega arith in
              let r = ruler_no_carry m (unlocked ms) j (j % m - 1) b in
              let z : i ≡ 0 = omega arith in
              rw z (ruler_no_carry m ms j (j % m - 1) b)
          | yes z ↦
              let r = ruler_carry m (unlocked ms) j z in
              let pos = ruler_pos (unlocked ms) (j / m) in
              let most = ruler_most (unlocked ms) (j / m) in
              let long = length-moving ms in
              let next : i ≡ suc (i - 1) = omega arith in
              rw next
              (ruler_carry m ms j z
              ∙ ap suc (slower (i - 1) (omega arith))
              ∙ sym (later_number (moving ms) (suc (length ms)) (i - 1) (omega arith)))
        ])

-- ---- the digits that move, one by one
-- the i-th of them among all digits: its index, its radix and its notch at every rank
pub record MovingDigit (ms : List ℕ) (i : ℕ) : Type 0 where
  pub index : ℕ
  pub number : get_or (moving ms) i 0 ≡ suc index
  pub within : index < length ms
  pub radix : get_or ms index 0 ≡ get_or (unlocked ms) i 0
  pub notch : (r : ℕ) → get_or (word_at ms r) index 0 ≡ get_or (word_at (unlocked ms) r) i 0

first_moving : (m : ℕ) (ms : List ℕ) → leb 2 m ≡ true → MovingDigit (m ∷ ms) 0
first_moving m ms moves =
    record {
      index = 0;
      number = ap (λ (l : List ℕ). get_or l 0 0) (moving_free m ms moves);
      within = omega arith;
      radix = ap (λ (l : List ℕ). get_or l 0 0) (sym (unlocked_free m ms moves));
      notch = λ r. first_notch r ∙ ap (λ (l : List ℕ). get_or (word_at l r) 0 0) (sym (unlocked_free m ms moves));
    }
  where
    first_notch : (r : ℕ) → get_or (word_at (m ∷ ms) r) 0 0 ≡ get_or (word_at (m ∷ unlocked ms) r) 0 0
    first_notch r = unfold word_at in refl

free_moving : (m : ℕ) (ms : List ℕ) (i : ℕ) → leb 2 m ≡ true → i < length (unlocked ms) → MovingDigit ms i → MovingDigit (m ∷ ms) (suc i)
free_moving m ms i moves h o =
    let long = length-moving ms in
    let inside = o.within in
    record {
      index = suc o.index;
      number = ap (λ (l : List ℕ). get_or l (suc i) 0) (moving_free m ms moves) ∙ number_more (moving ms) i (omega arith) ∙ ap suc o.number;
      within = omega arith;
      radix = o.radix ∙ ap (λ (l : List ℕ). get_or l (suc i) 0) (sym (unlocked_free m ms moves));
      notch = λ r. same r ∙ ap (λ (l : List ℕ). get_or (word_at l r) (suc i) 0) (sym (unlocked_free m ms moves));
    }
  where
    same : (r : ℕ) → get_or (word_at (m ∷ ms) r) (suc o.index) 0 ≡ get_or (word_at (m ∷ unlocked ms) r) (suc i) 0
    same r = unfold word_at in o.notch (r / m)

locked_moving : (m : ℕ) (ms : List ℕ) (i : ℕ) → leb 2 m ≡ false → m ≡ 1 → i < length (unlocked ms) → MovingDigit ms i → MovingDigit (m ∷ ms) i
locked_moving m ms i rests one h o =
    let long = length-moving ms in
    let inside = o.within in
    record {
      index = suc o.index;
      number = ap (λ (l : List ℕ). get_or l i 0) (moving_locked m ms rests) ∙ number_more (moving ms) i (omega arith) ∙ ap suc o.number;
      within = omega arith;
      radix = o.radix ∙ ap (λ (l : List ℕ). get_or l i 0) (sym (unlocked_locked m ms rests));
      notch = λ r. same r ∙ ap (λ (l : List ℕ). get_or (word_at l r) i 0) (sym (unlocked_locked m ms rests));
    }
  where
    same : (r : ℕ) → get_or (word_at (m ∷ ms) r) (suc o.index) 0 ≡ get_or (word_at (unlocked ms) r) i 0
    same r = unfold word_at in (ap (λ (k : ℕ). get_or (word_at ms (r / k)) o.index 0) one ∙ ap (λ (k : ℕ). get_or (word_at ms k) o.index 0) (div-one r) ∙ o.notch r)

pub moving_digit : (ms : List ℕ) → all_from 1 ms ≡ true → (i : ℕ) → i < length (unlocked ms) → MovingDigit ms i
unfolding all_from
moving_digit [] e i h = none_moves i h
  where
    none_moves : (i : ℕ) → i < length (unlocked []) → MovingDigit [] i
    none_moves i h = absurd (unfold unlocked in omega arith)
moving_digit (m ∷ ms) e i h =
    let (first, others) = (and-eq-true_iff (leb 1 m) (all_from 1 ms)).0 e in
    elim (lock m (leb-true 1 m first)) [
      | locked rests one ↦
          let inside : i < length (unlocked ms) = rw (unlocked_locked m ms rests) at h in
          locked_moving m ms i rests one inside (moving_digit ms others i inside)
      | free moves two ↦ by i (rw (unlocked_free m ms moves) at h) moves (λ o l. moving_digit ms others o l)
    ]
  where
    by : (i : ℕ) → i < suc (length (unlocked ms)) → leb 2 m ≡ true → ((o : ℕ) → o < length (unlocked ms) → MovingDigit ms o) → MovingDigit (m ∷ ms) i
    by zero h moves slower = first_moving m ms moves
    by (suc i) h moves slower = free_moving m ms i moves (omega arith) (slower i (omega arith))

-- the entry of the moving digits that change r + 1 belongs to, turned back into a digit's number
pub entry_number : (ms : List ℕ) → all_from 1 ms ≡ true
    → (j o i : ℕ)
    → ruler ms j ≡ suc o
    → o < length ms
    → ruler (unlocked ms) j ≡ suc i
    → (i < length (unlocked ms)) × (get_or (moving ms) i 0 ≡ suc o)
entry_number ms e j o i named within entry =
    let says = ruler-unlocked ms e j i entry in
    let most = ruler_most (unlocked ms) j in
    let long = length-moving ms in
    elim (dec_lt i (length (moving ms))) [
      | yes h ↦ (omega arith, sym (get_or-append (moving ms) (suc (length ms) ∷ []) 0 i h) ∙ sym says ∙ named)
      | no h ↦
          let last : length (moving ms) ≡ i = omega arith in
          let end = get_or_at (moving ms) (suc (length ms)) [] 0 i last in
          absurd (omega arith)
    ]

pub moving_pos : (ms : List ℕ) (i : ℕ) → i < length (moving ms) → 1 ≤ get_or (moving ms) i 0
unfolding moving
moving_pos [] i h = absurd (omega arith)
moving_pos (m ∷ ms) i h = by (leb 2 m) i h
  where
    by : (b : Bool) (i : ℕ)
        → i < length (cond b (1 ∷ map suc (moving ms)) (map suc (moving ms)))
        → 1 ≤ get_or (cond b (1 ∷ map suc (moving ms)) (map suc (moving ms))) i 0
    by true zero h = omega arith
    by true (suc i) h = let l = length-map (moving ms) suc in rw (number_more (moving ms) i (omega arith)) (omega arith)
    by false i h = let l = length-map (moving ms) suc in rw (number_more (moving ms) i (omega arith)) (omega arith)

-- they rise
pub moving_rises : (ms : List ℕ) (i : ℕ) → suc i < length (moving ms) → get_or (moving ms) i 0 < get_or (moving ms) (suc i) 0
unfolding moving
moving_rises [] i h = absurd (omega arith)
moving_rises (m ∷ ms) i h = by (leb 2 m) i h (λ o l. moving_rises ms o l)
  where
    by : (b : Bool) (i : ℕ)
        → suc i < length (cond b (1 ∷ map suc (moving ms)) (map suc (moving ms)))
        → ((o : ℕ) → suc o < length (moving ms) → get_or (moving ms) o 0 < get_or (moving ms) (suc o) 0)
        → get_or (cond b (1 ∷ map suc (moving ms)) (map suc (moving ms))) i 0
        < get_or (cond b (1 ∷ map suc (moving ms)) (map suc (moving ms))) (suc i) 0
    by true zero h slower =
        let l = length-map (moving ms) suc in
        let pos = moving_pos ms 0 (omega arith) in
        rw (number_more (moving ms) 0 (omega arith)) (omega arith)
    by true (suc i) h slower =
        let l = length-map (moving ms) suc in
        rw (number_more (moving ms) i (omega arith), number_more (moving ms) (suc i) (omega arith)) (let s = slower i (omega arith) in omega arith)
    by false i h slower =
        let l = length-map (moving ms) suc in
        rw (number_more (moving ms) i (omega arith), number_more (moving ms) (suc i) (omega arith)) (let s = slower i (omega arith) in omega arith)

rises_by : (ms : List ℕ) (i d : ℕ) → i + suc d < length (moving ms) → get_or (moving ms) i 0 < get_or (moving ms) (i + suc d) 0
rises_by ms i zero h = let e : i + 1 ≡ suc i = omega arith in rw e (moving_rises ms i (omega arith))
rises_by ms i (suc d) h =
    let so_far = rises_by ms i d (omega arith) in
    let e : i + suc (suc d) ≡ suc (i + suc d) = omega arith in
    let more = moving_rises ms (i + suc d) (omega arith) in
    rw e (omega arith)

-- each stands there once
pub moving-once : (ms : List ℕ) (i k : ℕ)
    → i < length (moving ms)
    → k < length (moving ms)
    → get_or (moving ms) i 0 ≡ get_or (moving ms) k 0
    → i ≡ k
moving-once ms i k h l same =
    elim (dec_lt i k) [
      | yes p ↦
          let e : i + suc (k - suc i) ≡ k = omega arith in
          let less : get_or (moving ms) i 0 < get_or (moving ms) k 0 = rw e at (rises_by ms i (k - suc i) (omega arith)) in
          absurd (omega arith)
      | no q ↦
          elim (dec_lt k i) [
            | yes p ↦
                let e : k + suc (i - suc k) ≡ i = omega arith in
                let less : get_or (moving ms) k 0 < get_or (moving ms) i 0 = rw e at (rises_by ms k (i - suc k) (omega arith)) in
                absurd (omega arith)
            | no p ↦ omega arith
          ]
    ]

-- one digit more, the slowest: what a loop over the digits gathers
pub unlocked_more : (ms : List ℕ) (m : ℕ) → unlocked (ms ++ (m ∷ [])) ≡ unlocked ms ++ cond (leb 2 m) (m ∷ []) []
unfolding unlocked
unlocked_more [] m = refl
unlocked_more (k ∷ ms) m = by (leb 2 k) (unlocked_more ms m)
  where
    by : (b : Bool)
        → unlocked (ms ++ (m ∷ [])) ≡ unlocked ms ++ cond (leb 2 m) (m ∷ []) []
        → cond b (k ∷ unlocked (ms ++ (m ∷ []))) (unlocked (ms ++ (m ∷ [])))
        ≡ cond b (k ∷ unlocked ms) (unlocked ms) ++ cond (leb 2 m) (m ∷ []) []
    by true e = ap (λ l. k ∷ l) e
    by false e = e

pub moving_more : (ms : List ℕ) (m : ℕ) → moving (ms ++ (m ∷ [])) ≡ moving ms ++ cond (leb 2 m) (suc (length ms) ∷ []) []
unfolding moving
moving_more [] m = refl
moving_more (k ∷ ms) m = by (leb 2 k) (ap (map suc) (moving_more ms m) ∙ map-append suc (moving ms) (cond (leb 2 m) (suc (length ms) ∷ []) []) ∙ ap (λ l. map suc (moving ms) ++ l) (later (leb 2 m)))
  where
    later : (b : Bool) → map suc (cond b (suc (length ms) ∷ []) []) ≡ cond b (suc (suc (length ms)) ∷ []) []
    later true = refl
    later false = refl

    by : (b : Bool)
        → map suc (moving (ms ++ (m ∷ []))) ≡ map suc (moving ms) ++ cond (leb 2 m) (suc (suc (length ms)) ∷ []) []
        → cond b (1 ∷ map suc (moving (ms ++ (m ∷ [])))) (map suc (moving (ms ++ (m ∷ []))))
        ≡ cond b (1 ∷ map suc (moving ms)) (map suc (moving ms)) ++ cond (leb 2 m) (suc (suc (length ms)) ∷ []) []
    by true e = ap (λ l. 1 ∷ l) e
    by false e = e

pub moving-says : (ms : List ℕ) (v : MovingDigits) → moving_in_range ms v ≡ true → MovingSays ms v
unfolding moving_in_range
moving-says ms v e =
    let test : ℕ → Bool = λ i. eqb (get_or v.digits i 0) (get_or (moving ms) i 0) in
    let (counted, each) = (and-eq-true_iff (eqb v.count (length (moving ms))) (all_below v.count test)).0 e in
    let many : v.count ≡ length (unlocked ms) = eqb-true v.count (length (moving ms)) counted ∙ length-moving ms in
    record {
      count = many;
      digits = λ i h. eqb-true (get_or v.digits i 0) (get_or (moving ms) i 0) (all_below_each v.count test each i (omega arith));
    }

pub says-moving : (ms : List ℕ) (v : MovingDigits) → MovingSays ms v → moving_in_range ms v ≡ true
unfolding moving_in_range
says-moving ms v s =
    let test : ℕ → Bool = λ i. eqb (get_or v.digits i 0) (get_or (moving ms) i 0) in
    let many = s.count in
    let long = length-moving ms in
    let each : all_below v.count test ≡ true =
    each_all_below v.count test (λ i h. eq-eqb (get_or v.digits i 0) (get_or (moving ms) i 0) (s.digits i (omega arith))) in
    rw (eq-eqb v.count (length (moving ms)) (omega arith)) each

-- those that opening stores
pub moving_stored : (ms : List ℕ) → MovingSays ms (moving_digits ms)
moving_stored ms =
    let long = length-moving ms in
    record { count = long; digits = λ i h. get_d_filled 48 0 (moving ms) i 0 (omega arith) }

-- ---- the tests of the field
-- one says the other, and the other way round
same_test : (a b : Bool) → (a ≡ true → b ≡ true) → (b ≡ true → a ≡ true) → a ≡ b
same_test true b to from = sym (to refl)
same_test false true to from = from refl
same_test false false to from = refl

each_two : (l : List ℕ) → ((i : ℕ) → i < length l → leb 2 (get_or l i 0) ≡ true) → all_from 2 l ≡ true
unfolding all_from
each_two [] each = refl
each_two (m ∷ l) each = rw (each 0 (omega arith)) (each_two l (λ i h. each (suc i) (omega arith)))

-- where as many digits are said to move as there are, each must move and stand at its place
module _ (l : List ℕ) (n : ℕ) (v : MovingDigits) (room : n ≤ length l) (all : v.count ≡ n) where
  abbrev moves_at_lem : ℕ → Bool
  moves_at_lem i = leb 2 (get_or l i 0) && eqb (get_or v.digits i 0) (i + 1)

  short : length (take n l) ≡ n
  short = length-take-le n l room

  all_two : all_below n moves_at_lem ≡ true → all_from 2 (take n l) ≡ true
  all_two e =
      each_two (take n l)
      (λ i h.
      ap (leb 2) (get_or-take n l i 0 (omega (arith, short)))
      ∙ ((and-eq-true_iff (leb 2 (get_or l i 0)) (eqb (get_or v.digits i 0) (i + 1))).0 (all_below_each n moves_at_lem e i (omega (arith, short)))).0)

  placed : all_from 2 (take n l) ≡ true → (i : ℕ) → i < n → get_or (moving (take n l)) i 0 ≡ i + 1
  placed two i h = moving_all (take n l) two i (omega (arith, short)) ∙ sym (add-one i)

  pub all_in_range_lem : all_below n moves_at_lem ≡ moving_in_range (take n l) v
  all_in_range_lem = same_test (all_below n moves_at_lem) (moving_in_range (take n l) v) to from
    where
      to : all_below n moves_at_lem ≡ true → moving_in_range (take n l) v ≡ true
      to e =
          let two = all_two e in
          let same = ap length (none_locked (take n l) two) in
          says-moving (take n l) v
          (record {
            count = all ∙ sym (same ∙ short);
            digits = λ i h.
                eqb-true (get_or v.digits i 0) (i + 1)
                ((and-eq-true_iff (leb 2 (get_or l i 0)) (eqb (get_or v.digits i 0) (i + 1))).0 (all_below_each n moves_at_lem e i (omega (arith, same, short)))).1
                ∙ sym (placed two i (omega (arith, same, short)));
          })

      from : moving_in_range (take n l) v ≡ true → all_below n moves_at_lem ≡ true
      from e =
          let says = moving-says (take n l) v e in
          let two = all_move (take n l) (sym says.count ∙ all ∙ sym short) in
          let same = ap length (none_locked (take n l) two) in
          each_all_below n moves_at_lem
          (λ i h.
          let radix : 2 ≤ get_or (take n l) i 0 = radix_least 2 (take n l) i two (omega (arith, short)) in
          (and-eq-true_iff (leb 2 (get_or l i 0)) (eqb (get_or v.digits i 0) (i + 1))).1 (
            ap (leb 2) (sym (get_or-take n l i 0 h)) ∙ le-leb 2 (get_or (take n l) i 0) radix,
            eq-eqb (get_or v.digits i 0) (i + 1) (says.digits i (omega (arith, same, short)) ∙ placed two i h),
          ))

-- a loop over the digits has found those of the first i that move at the field's first places
abbrev pub found_at : List ℕ → List ℕ → Bool
found_at numbers held = all_below (length numbers) (λ x. eqb (get_or held x 0) (get_or numbers x 0))

pub found_more_lem : (numbers held : List ℕ) (number : ℕ)
    → found_at (numbers ++ (number ∷ [])) held ≡ found_at numbers held && eqb (get_or held (length numbers) 0) number
unfolding all_below
found_more_lem numbers held number =
    let longer : length (numbers ++ (number ∷ [])) ≡ suc (length numbers) = simp length-append (omega arith) in
    ap (λ (k : ℕ). all_below k (λ x. eqb (get_or held x 0) (get_or (numbers ++ (number ∷ [])) x 0))) longer
    ∙ ap₂ ◌&&◌
    (all_below_same (length numbers) (λ x. eqb (get_or held x 0) (get_or (numbers ++ (number ∷ [])) x 0)) (λ x. eqb (get_or held x 0) (get_or numbers x 0))
    (λ x h. ap (eqb (get_or held x 0)) (get_or-append numbers (number ∷ []) 0 x h)))
    (ap (eqb (get_or held (length numbers) 0)) (get_or-append_seam numbers number [] 0))

pub found_in_range : (ms : List ℕ) (v : MovingDigits) (ok : Bool) (next count : ℕ)
    → next ≡ length (moving ms)
    → count ≡ v.count
    → ok ≡ found_at (moving ms) v.digits
    → ok && eqb next count ≡ moving_in_range ms v
unfolding moving_in_range
found_in_range ms v ok next count many wide e = rw (many, wide) (by (eqb (length (moving ms)) v.count) refl)
  where
    by : (b : Bool)
        → eqb (length (moving ms)) v.count ≡ b
        → ok && b ≡ eqb v.count (length (moving ms)) && all_below v.count (λ i. eqb (get_or v.digits i 0) (get_or (moving ms) i 0))
    by true f =
        let same = eqb-true (length (moving ms)) v.count f in
        and-true ok
        ∙ e
        ∙ ap (λ (k : ℕ). all_below k (λ i. eqb (get_or v.digits i 0) (get_or (moving ms) i 0))) same
        ∙ sym (ap (λ b. b && all_below v.count (λ i. eqb (get_or v.digits i 0) (get_or (moving ms) i 0))) (eq-eqb v.count (length (moving ms)) (sym same)))
    by false f =
        let other : v.count ≡ length (moving ms) → ⊥ = λ z. impossible (cc (eq-eqb (length (moving ms)) v.count (sym z))) in
        and-false ok
        ∙ sym (ap (λ b. b && all_below v.count (λ i. eqb (get_or v.digits i 0) (get_or (moving ms) i 0))) (ne_eqb v.count (length (moving ms)) other))

pub looked_up_at : (radices numbers : List ℕ) (i : ℕ) → i < length numbers → get_or (looked_up radices numbers) i 0 ≡ get_or radices (get_or numbers i 0 - 1) 0
looked_up_at radices [] i h = absurd (omega arith)
looked_up_at radices (d ∷ numbers) zero h = refl
looked_up_at radices (d ∷ numbers) (suc i) h = looked_up_at radices numbers i (omega arith)

-- a state's field in range gives the radices of its survey's digits that move
module _
    (l : List ℕ) (n : ℕ) (v : MovingDigits) (room : n ≤ length l) (held : length (take n l) ≤ length v.digits)
    (one : all_from 1 (take n l) ≡ true) (ranged : moving_in_range (take n l) v ≡ true)
  where
    says_here : MovingSays (take n l) v
    says_here = moving-says (take n l) v ranged

    numbers_held : length (take v.count v.digits) ≡ v.count
    numbers_held =
        let many = says_here.count in
        let few = unlocked_most (take n l) in
        length-take-le v.count v.digits (omega arith)

    -- the digit of each number is one of the survey's
    pub number_at : (i : ℕ) → i < v.count → (o : ℕ) × (get_or v.digits i 0 ≡ suc o) × (o < n) × (get_or l o 0 ≡ get_or (unlocked (take n l)) i 0)
    number_at i h =
        let many = says_here.count in
        let part = length-take-le n l room in
        let d = moving_digit (take n l) one i (omega arith) in
        let inside = d.within in (
          d.index,
          says_here.digits i (omega arith) ∙ d.number,
          omega arith,
          sym (get_or-take n l d.index 0 (omega arith)) ∙ d.radix,
        )

    pub moving_looked_up : looked_up l (take v.count v.digits) ≡ unlocked (take n l)
    moving_looked_up =
        let many = says_here.count in
        let held_All = numbers_held in
        let long = length-map (take v.count v.digits) (λ d. get_or l (d - 1) 0) in
        ext_get_or 0 (looked_up l (take v.count v.digits)) (unlocked (take n l)) (omega arith)
        (λ i h.
        let (o, number, inside, radix) = number_at i (omega arith) in
        let named = get_or-take v.count v.digits i 0 (omega arith) ∙ number in
        let at : get_or (take v.count v.digits) i 0 - 1 ≡ o = omega arith in
        looked_up_at l (take v.count v.digits) i (omega arith) ∙ ap (λ k. get_or l k 0) at ∙ radix)

    -- and where all move each stands at the place of its number
    pub number_direct : v.count ≡ n → (i : ℕ) → i < n → get_or v.digits i 0 ≡ i + 1
    number_direct all i h =
        let part = length-take-le n l room in
        let many = says_here.count in
        says_here.digits i (omega arith) ∙ placed l n v room all (all_move (take n l) (sym many ∙ all ∙ sym part)) i h
