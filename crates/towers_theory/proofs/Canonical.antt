-- The state of the disk engine at rank r: everything in it follows from r.
use Prim.Native.Nat.{ℕ, suc, ◌-◌, ◌%◌, ◌≤◌, ◌<◌}
use native.Mathlib.Omega.{arith}
use Rattle.std.proofs.Common.{mod-lt, sym, ap₂, ◌∙◌, eqb-true}
use Rattle.std.proofs.Math.Nat.{zero-mod}
use Rattle.std.specs.Prelude.{◌≡◌, Bool, not, ◌||◌, List, [], ◌∷◌, eqb, length, replicate}
use Rattle.std.proofs.Math.Path.{refl, ap}
use Rattle.std.proofs.Math.Bool.{true, false, cond, and-eq-true_iff}
use Rattle.std.proofs.lemmas.Bool.{eqb-false, not-true}
use Rattle.std.proofs.Math.ListN.{get_or}
use Rattle.std.proofs.lemmas.List.{length-replicate}
use Rattle.gray_theory.specs.Radices.{size, all_from}
use Rattle.gray_theory.specs.Locks.{unlocked, moving_digits}
use Rattle.gray_theory.proofs.Unlocked.{unlocked_two, unlocked_most, moving_digit, moving_stored}
use Rattle.gray_theory.specs.Words.{even, member}
use Rattle.gray_theory.specs.Arrays.{filled}
use Rattle.gray_theory.proofs.DigitRanges.{all_below_each}
use Rattle.gray_theory.specs.Indexed.{word_at}
use Rattle.gray_theory.proofs.Members.{length-word_at}
use Rattle.gray_theory.proofs.Sizes.{radix_two}
use Rattle.gray_theory.specs.DirectedWords.{DirectedWord}
use Rattle.gray_theory.specs.WordRanges.{directed_at}
use Rattle.gray_theory.proofs.WordRanges.{word-says, survey_at, member_at, fresh_at, directed_in_range}
use Rattle.gray_theory.proofs.Filled.{take-filled, get_d_filled, filled-replicate}
use Rattle.towers_theory.specs.States.{Towers, all_odd, common, even_and_equal, all_even_and_equal, open_check, Openable, setting, disks, in_range}
use Rattle.towers_theory.specs.Calls.{fresh}
use Rattle.towers_theory.specs.Choices.{peg_of}
use Rattle.towers_theory.proofs.Openings.{opens}
use Rattle.towers_theory.proofs.InRange.{says_range, some_disk}
use Rattle.towers_theory.proofs.Pairs.{side_at}
use Rattle.towers_theory.proofs.Rings.{pegs_at, length-pegs_at, pegs_at_start, pegs_at_bound}

-- ---- the two forms
-- radices that open: all odd, or n times the same
pub data Form (ms : List ℕ) : Type 0 where
  pairs : all_odd ms ≡ true → ((i : ℕ) → i < length ms → get_or ms i 0 % 2 ≡ 1) → Form ms
  ring : all_odd ms ≡ false → ms ≡ replicate (length ms) (common ms) → Form ms

odd_says : (m : ℕ) → not (even m) ≡ true → m % 2 ≡ 1
odd_says m e = let apart = eqb-false (m % 2) 0 (not-true (even m) e) in omega arith

all_same : (ms : List ℕ) (m : ℕ) → ((i : ℕ) → i < length ms → get_or ms i 0 ≡ m) → ms ≡ replicate (length ms) m
all_same [] m same = refl
all_same (a ∷ ms) m same = ap₂ (λ b l. b ∷ l) (same 0 (omega arith)) (all_same ms m (λ i h. same (suc i) (omega arith)))

-- what the game needs to know of the counts of its disks
pub record Playable (ms : List ℕ) : Type 0 where
  pub two : all_from 2 ms ≡ true
  pub counts : (all_odd ms || all_even_and_equal ms) ≡ true

-- those of the digits of an open survey that move
pub playable : {ms : List ℕ} → Openable ms → Playable (unlocked ms)
playable {ms} o = record { two = unlocked_two ms; counts = o.counts }

-- on a ring there is a disk, and its count is at least 2
pub ring_two : {ms : List ℕ} → Playable ms → all_odd ms ≡ false → 2 ≤ common ms
ring_two {ms} o e = radix_two ms 0 o.two (some_disk ms e)

pub form : (ms : List ℕ) → Playable ms → Form ms
unfolding all_odd all_even_and_equal
form ms o = go (all_odd ms) refl
  where
    go : (b : Bool) → all_odd ms ≡ b → Form ms
    go true e = pairs e (λ i h. odd_says (get_or ms i 0) (all_below_each (length ms) (λ k. not (even (get_or ms k 0))) e i h))
    go false e =
        let equal : all_even_and_equal ms ≡ true = rw e at o.counts in
        let each = all_below_each (length ms) (λ k. even_and_equal (common ms) (get_or ms k 0)) equal in
        ring e
        (all_same ms (common ms)
        (λ i h. eqb-true (get_or ms i 0) (common ms) ((and-eq-true_iff (even (get_or ms i 0)) (eqb (get_or ms i 0) (common ms))).0 (each i h)).1))

-- ---- the state at rank r
abbrev pub turn_at : List ℕ → ℕ → ℕ
turn_at ms r = cond (all_odd ms) (r % 2) (r % common ms)

-- for odd radices the pegs stay as opening left them
abbrev pub stored_at : List ℕ → ℕ → List ℕ
stored_at ms r = cond (all_odd ms) (replicate (length ms) 0) (pegs_at false (common ms) (length ms) r)

unfoldable pub towers_at : List ℕ → ℕ → Towers
towers_at ms r = record { directed = directed_at ms r; turn = turn_at (unlocked ms) r; pegs = filled 48 0 (stored_at (unlocked ms) r) }

pub same_towers : {d d' : DirectedWord} {turn turn' : ℕ} {pegs pegs' : List ℕ}
    → d ≡ d'
    → turn ≡ turn'
    → pegs ≡ pegs'
    → ◌≡◌ {A = Towers} (record { directed = d; turn = turn; pegs = pegs }) (record { directed = d'; turn = turn'; pegs = pegs' })
same_towers d t p = cc

-- the peg of the disk at index k at rank r
unfoldable pub peg_at : List ℕ → ℕ → ℕ → ℕ
peg_at ms r k = cond (all_odd ms) (side_at ms r k) (get_or (pegs_at false (common ms) (length ms) r) k 0)

length-stored_at : (ms : List ℕ) (r : ℕ) → length (stored_at ms r) ≡ length ms
length-stored_at ms r = go (all_odd ms)
  where
    go : (b : Bool) → length (cond b (replicate (length ms) 0) (pegs_at false (common ms) (length ms) r)) ≡ length ms
    go true = length-replicate (length ms) 0
    go false = length-pegs_at false (common ms) (length ms) r

module _ (ms : List ℕ) (r : ℕ) where
  pub disks_at : disks (towers_at ms r) ≡ unlocked ms
  unfolding towers_at
  disks_at = ap unlocked (survey_at ms r)

  pub setting_at : r < size ms → setting (towers_at ms r) ≡ member ms r
  unfolding towers_at
  setting_at = member_at ms r

  abbrev ws : List ℕ
  ws = unlocked ms

  pub peg_at_lem : all_from 1 ms ≡ true → (k : ℕ) → k < length ws → peg_of (towers_at ms r) k ≡ peg_at ws r k
  unfolding towers_at peg_of peg_at
  peg_at_lem one k h =
      let w = length-word_at ms r in
      let l = length-stored_at ws r in
      let m = moving_digit ms one k h in
      let inside = m.within in
      let digit : get_or (moving_digits ms).digits k 0 ≡ suc m.index = (moving_stored ms).digits k h ∙ m.number in
      let index : suc m.index - 1 ≡ m.index = omega arith in
      let radix = get_d_filled 48 0 ms m.index 0 inside ∙ m.radix in
      let notch = get_d_filled 48 0 (word_at ms r) m.index 0 (omega arith) ∙ m.notch r in
      let stored = get_d_filled 48 0 (stored_at ws r) k 0 (omega arith) in
      rw (take-filled 48 0 ms, digit, index, radix, notch, stored) (go (all_odd ws))
    where
      go : (b : Bool)
          → cond b (side_at ws r k) (get_or (cond b (replicate (length ws) 0) (pegs_at false (common ws) (length ws) r)) k 0)
          ≡ cond b (side_at ws r k) (get_or (pegs_at false (common ws) (length ws) r) k 0)
      go true = refl
      go false = refl

-- the fresh state is that of rank 0
stored_start : (ms : List ℕ) → stored_at ms 0 ≡ replicate (length ms) 0
stored_start ms = go (all_odd ms)
  where
    go : (b : Bool) → cond b (replicate (length ms) 0) (pegs_at false (common ms) (length ms) 0) ≡ replicate (length ms) 0
    go true = refl
    go false = pegs_at_start false (common ms) (length ms)

turn_start : (ms : List ℕ) → 0 ≡ turn_at ms 0
turn_start ms = go (all_odd ms)
  where
    go : (b : Bool) → 0 ≡ cond b (0 % 2) (0 % common ms)
    go true = refl
    go false = sym (zero-mod (common ms))

pub fresh_is : (ms : List ℕ) → Openable ms → fresh ms ≡ towers_at ms 0
unfolding towers_at fresh
fresh_is ms o =
    same_towers
    (fresh_at ms o.survey)
    (turn_start (unlocked ms))
    (let few = unlocked_most ms in
    let most = o.survey.most in
    sym (ap (filled 48 0) (stored_start (unlocked ms)) ∙ filled-replicate 48 0 (length (unlocked ms)) (omega arith)))

-- every state is in range
module _ (ms : List ℕ) (o : Playable ms) (r : ℕ) where
  turn_below : turn_at ms r < cond (all_odd ms) 2 (common ms)
  turn_below = go (all_odd ms) refl
    where
      go : (b : Bool) → all_odd ms ≡ b → cond b (r % 2) (r % common ms) < cond b 2 (common ms)
      go true e = omega arith
      go false e = let two = ring_two o e in mod-lt r (omega arith)

  pegs_below : all_odd ms ≡ false → (i : ℕ) → i < length ms → get_or (filled 48 0 (stored_at ms r)) i 0 ≤ common ms
  pegs_below e i h =
      let l = length-pegs_at false (common ms) (length ms) r in
      rw
      (e, get_d_filled 48 0 (pegs_at false (common ms) (length ms) r) i 0 (omega arith))
      (pegs_at_bound false (common ms) (length ms) r i)

module _ (ms : List ℕ) (o : Openable ms) (r : ℕ) where
  pub towers_in_range : in_range (towers_at ms r) ≡ true
  unfolding towers_at
  towers_in_range =
      says_range (towers_at ms r)
      (record {
        word = word-says open_check (directed_at ms r) (directed_in_range ms open_check o.survey (opens o) r);
        turns = rw (survey_at ms r) (turn_below (unlocked ms) (playable o) r);
        within = rw (survey_at ms r) (pegs_below (unlocked ms) (playable o) r);
      })
