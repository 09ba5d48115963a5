-- What both engines keep: its range part by part, that a move keeps it, and its value at each rank of the walk.
use Prim.Native.Nat.{ℕ, suc, ◌-◌, ◌≤◌, ◌<◌}
use Rattle.std.proofs.Math.Decide.{ℕ_discrete}
use Rattle.std.proofs.Common.{add-one, sym, ap₂, subst, ◌∙◌, length-set, length-take-le, get_or-take, get_or-set_same, take_all}
use native.Mathlib.Omega.{arith}
use Rattle.std.specs.Prelude.{◌≡◌, refl, Bool, true, false, ◌&&◌, List, length, get_or, take}
use Rattle.std.proofs.Math.Path.{ap}
use Rattle.std.proofs.Math.Bool.{and-eq-true_iff}
use borrow.Author.Tests.{le-leb, leb-true}
use Rattle.std.proofs.Math.Dec.{leb}
use Rattle.std.proofs.Math.ListN.{set}
use Rattle.std.proofs.lemmas.List.{length-reverse}
use Rattle.std.proofs.Math.Seq.{take-set-lt}
use Rattle.gray_theory.specs.Answers.{Answer, given, is_given}
use Rattle.gray_theory.specs.Bools.{impossible}
use Rattle.gray_theory.specs.Arrays.{filled, digit_array}
use Rattle.gray_theory.specs.Radices.{digits, size, all_from, Limits}
use Rattle.gray_theory.specs.Changes.{Change, Moves, change}
use Rattle.gray_theory.specs.Words.{member, notch_of}
use Rattle.gray_theory.specs.Indexed.{word_at}
use Rattle.gray_theory.specs.Locks.{MovingDigits, moving_digits, moving_in_range, MovingSays}
use Rattle.gray_theory.specs.Directions.{moved_from, digit_in_range, digits_in_range}
use Rattle.gray_theory.specs.DirectedWords.{DirectedWord, Rooms, survey_in, moving_in, setting_in, fresh_with, fresh_word, word_in_range, digit_moved, change_by, event_by}
use Rattle.gray_theory.specs.Engines.{Event, moved, moved_to, move_at, NamesNotch}
use Rattle.gray_theory.proofs.Members.{member_is_word_at}
use Rattle.gray_theory.proofs.Sizes.{radix_two}
use Rattle.gray_theory.proofs.Filled.{take-filled, digit_array_lem}
use Rattle.gray_theory.proofs.DigitRanges.{DigitRange, all_below_each, digit_says, digits_move_in_range}
use Rattle.gray_theory.proofs.Unlocked.{moving-says, says-moving, moving_stored, moving_digit, unlocked_two}
use Rattle.gray_theory.proofs.Turns.{Advances, set-moves}
use Rattle.gray_theory.proofs.WalkArrays.{take-word_array, word_array_start, down_array_start, arrays_in_range, word_array_moved, down_array_moved, change_named}
use Rattle.gray_theory.specs.WordRanges.{WordRange, directed_at}

module _ (check : List ℕ → Answer Unit) (d : DirectedWord) where
  pub says-word : WordRange check d → word_in_range check d ≡ true
  unfolding word_in_range
  says-word r = rw (le-leb d.n 48 r.most, r.opens, r.notches, r.moving)

  pub word-says : word_in_range check d ≡ true → WordRange check d
  unfolding word_in_range
  word-says e =
      let most = leb d.n 48 in
      let opens = is_given (check (survey_in d)) in
      let notches = digits_in_range d.n d.radices d.word d.downs in
      let (three, v) = (and-eq-true_iff (most && opens && notches) (moving_in_range (survey_in d) d.moving)).0 e in
      let (two, t) = (and-eq-true_iff (most && opens) notches).0 three in
      let (one, o) = (and-eq-true_iff most opens).0 two in
      record { most = leb-true d.n 48 one; opens = o; notches = t; moving = v }

  module _ (r : WordRange check d) where
    pub ranged_moving : MovingSays (survey_in d) d.moving
    ranged_moving = moving-says (survey_in d) d.moving r.moving

    pub survey_long : length d.radices ≡ 48 → length (survey_in d) ≡ d.n
    survey_long room = let most = r.most in length-take-le d.n d.radices (omega arith)

    pub digit_tested : (i : ℕ) → i < d.n → digit_in_range (get_or d.radices i 0) (get_or d.word i 0) (get_or d.downs i false) ≡ true
    digit_tested i h =
        all_below_each d.n (λ j. digit_in_range (get_or d.radices j 0) (get_or d.word j 0) (get_or d.downs j false)) r.notches i h

    pub digit_ranged : (i : ℕ) → i < d.n → DigitRange (get_or d.radices i 0) (get_or d.word i 0) (get_or d.downs i false)
    digit_ranged i h = digit_says (get_or d.radices i 0) (get_or d.word i 0) (get_or d.downs i false) (digit_tested i h)

-- ---- the digit that moves at index i of those: its number and index among all digits, and its radix
pub record DigitThere (d : DirectedWord) (i : ℕ) : Type 0 where
  pub index : ℕ
  pub number : get_or d.moving.digits i 0 ≡ suc index
  pub within : index < d.n
  pub radix : get_or d.radices index 0 ≡ get_or (moving_in d) i 0
  pub two : 2 ≤ get_or d.radices index 0

pub digit_there : (d : DirectedWord)
    → length d.radices ≡ 48
    → d.n ≤ 48
    → all_from 1 (survey_in d) ≡ true
    → MovingSays (survey_in d) d.moving
    → (i : ℕ)
    → i < d.moving.count
    → DigitThere d i
digit_there d long most one says i h =
    let many = says.count in
    let n = length-take-le d.n d.radices (omega arith) in
    let m = moving_digit (survey_in d) one i (omega arith) in
    let inside = m.within in
    let least = radix_two (moving_in d) i (unlocked_two (survey_in d)) (omega arith) in
    let same : get_or d.radices m.index 0 ≡ get_or (moving_in d) i 0 =
    sym (get_or-take d.n d.radices m.index 0 (omega arith)) ∙ m.radix in
    record {
      index = m.index;
      number = says.digits i (omega arith) ∙ m.number;
      within = omega arith;
      radix = same;
      two = omega arith;
    }

-- ---- a move keeps the range and the arrays' lengths
pub move_keeps_range : (check : List ℕ → Answer Unit) (d : DirectedWord) (k : ℕ)
    → Rooms d
    → 1 ≤ k
    → k ≤ d.n
    → 2 ≤ get_or d.radices (k - 1) 0
    → word_in_range check d ≡ true
    → word_in_range check (digit_moved d k) ≡ true
unfolding digit_moved
move_keeps_range check d k rooms low high two e =
    let r = word-says check d e in
    let most = r.most in
    let word = rooms.word in
    let downs = rooms.downs in
    says-word check (digit_moved d k)
    (record {
      most = r.most;
      opens = r.opens;
      notches =
          digits_move_in_range d.n d.radices d.word d.downs (k - 1) (omega arith) (omega arith) (omega arith) two
          r.notches;
      moving = r.moving;
    })

pub move_keeps_rooms : (d : DirectedWord) (k : ℕ) → Rooms d → Rooms (digit_moved d k)
unfolding digit_moved
move_keeps_rooms d k a =
    record { radices = a.radices; moving = a.moving; word = simp length-set a.word; downs = simp length-set a.downs }

-- ---- a move names the notch that it reaches
-- a notch that is written to a digit is the digit's in the setting
pub entry_written : (word : List ℕ) (n i a : ℕ) → i < n → i < length word → get_or (take n (set word i a)) i 0 ≡ a
entry_written word n i a there room = get_or-take n (set word i a) i 0 there ∙ get_or-set_same word i a 0 room

module _ (check : List ℕ → Answer Unit) (d : DirectedWord) (k : ℕ) (rooms : Rooms d) (low : 1 ≤ k) (high : k ≤ d.n) (r : WordRange check d) where
  abbrev goes_down : Bool
  goes_down = (change_by d k).down

  setting_long : length (setting_in d) ≡ d.n
  setting_long = let most = r.most in let long = rooms.word in length-take-le d.n d.word (omega arith)

  entry : notch_of (setting_in d) k ≡ get_or d.word (k - 1) 0
  entry = get_or-take d.n d.word (k - 1) 0 (omega arith)

  setting_moved : setting_in (digit_moved d k) ≡ set (setting_in d) (k - 1) (moved_from (notch_of (setting_in d) k) goes_down)
  unfolding digit_moved
  setting_moved =
      take-set-lt d.n d.word (k - 1) (moved_from (get_or d.word (k - 1) 0) goes_down) (omega arith)
      ∙ ap (λ (a : ℕ). set (setting_in d) (k - 1) (moved_from a goes_down)) (sym entry)

  notch_moved : notch_of (setting_in (digit_moved d k)) k ≡ moved_from (notch_of (setting_in d) k) goes_down
  notch_moved =
      let long = setting_long in
      ap (λ (w : List ℕ). notch_of w k) setting_moved
      ∙ get_or-set_same (setting_in d) (k - 1) (moved_from (notch_of (setting_in d) k) goes_down) 0 (omega arith)

  -- on its way down the digit is not at 0
  not_shut : goes_down ≡ true → 0 < notch_of (setting_in d) k
  not_shut down =
      elim (ℕ_discrete (get_or d.word (k - 1) 0) 0) [
        | yes shut ↦ let up = (digit_ranged check d r (k - 1) (omega arith)).up_at_0 shut in impossible (cc)
        | no off ↦ let same = entry in omega arith
      ]

  names_its_notch : NamesNotch (change_by d k) (notch_of (setting_in (digit_moved d k)) k) (setting_in d) (setting_in (digit_moved d k))
  names_its_notch = record {
    reached = refl;
    up = λ h. notch_moved ∙ ap (moved_from (notch_of (setting_in d) k)) h ∙ add-one (notch_of (setting_in d) k);
    down = λ h. let some = not_shut h in let to = notch_moved ∙ ap (moved_from (notch_of (setting_in d) k)) h in omega arith;
    alone =
        let number : suc (k - 1) ≡ k = omega arith in
        let long = setting_long in
        let moves = set-moves (setting_in d) (k - 1) goes_down (omega arith) not_shut in
        rw (setting_moved) (subst (λ (x : ℕ). Moves x goes_down (setting_in d) (set (setting_in d) (k - 1) (moved_from (notch_of (setting_in d) k) goes_down))) number moves);
  }

  -- what the call that makes it says
  pub move_names_its_notch : (c : Change) (notch : ℕ)
      → ◌≡◌ {A = Answer Event} (given (event_by d k)) (given (moved c notch))
      → NamesNotch c notch (setting_in d) (setting_in (digit_moved d k))
  move_names_its_notch c notch says =
      let change : c ≡ change_by d k = cc in
      let reached : notch ≡ notch_of (setting_in (digit_moved d k)) k = cc in
      rw (change, reached) names_its_notch

-- ---- lent radices in an array, and the digits of it that move: what an opening begins with
module _ (l : List ℕ) (most : length l ≤ 48) (array : List ℕ) (made : array ≡ digit_array l) where
  pub array_whole : array ≡ filled 48 0 (digits l)
  array_whole = made ∙ digit_array_lem l most

  array_part : take 48 (take (length l) array) ≡ digits l
  array_part =
      let same = length-reverse l in
      ap (λ k. take 48 (take k array)) (sym same)
      ∙ ap (λ a. take 48 (take (length (digits l)) a)) array_whole
      ∙ ap (take 48) (take-filled 48 0 (digits l))
      ∙ take_all 48 (digits l) (omega arith)

  module _ (moving : MovingDigits) (told : moving ≡ moving_digits (take 48 (take (length l) array))) where
    pub moving_whole : moving ≡ moving_digits (digits l)
    moving_whole = told ∙ ap moving_digits array_part

    pub fresh_from_lent : fresh_with array (length l) moving ≡ fresh_word (digits l)
    fresh_from_lent =
        ap₂ (λ a k. fresh_with a k moving) array_whole (sym (length-reverse l))
        ∙ ap (fresh_with (filled 48 0 (digits l)) (length (digits l))) moving_whole

module _ (ms : List ℕ) where
  pub survey_at : (r : ℕ) → survey_in (directed_at ms r) ≡ ms
  survey_at r = take-filled 48 0 ms

  pub setting_at : (r : ℕ) → setting_in (directed_at ms r) ≡ word_at ms r
  setting_at r = take-word_array ms r

  pub member_at : (r : ℕ) → r < size ms → setting_in (directed_at ms r) ≡ member ms r
  member_at r below = setting_at r ∙ sym (member_is_word_at ms r below)

  -- rank 0 is the start
  pub fresh_at : Limits ms → fresh_word ms ≡ directed_at ms 0
  fresh_at l = cc (word_array_start ms l.most, down_array_start ms l.one l.most)

  -- every rank is in range
  pub directed_in_range : (check : List ℕ → Answer Unit) → Limits ms → check ms ≡ given tt → (r : ℕ) → word_in_range check (directed_at ms r) ≡ true
  directed_in_range check l accepts r =
      let same = survey_at r in
      says-word check (directed_at ms r)
      (record {
        most = l.most;
        opens = rw same (ap is_given accepts);
        notches = arrays_in_range ms l.one r;
        moving = rw same (says-moving ms (moving_digits ms) (moving_stored ms));
      })

  -- the digit that the list moves from rank r leads to the next, and the change and the notch are the list's
  module _ (r i : ℕ) (a : Advances ms r i) where
    pub directed_moves : digit_moved (directed_at ms r) (suc i) ≡ directed_at ms (suc r)
    unfolding digit_moved
    directed_moves =
        let index : suc i - 1 ≡ i = omega arith in
        rw index (cc (word_array_moved ms r i a, down_array_moved ms r i a))

    directed_change : suc r < size ms → change_by (directed_at ms r) (suc i) ≡ change ms (suc r)
    directed_change below =
        let index : suc i - 1 ≡ i = omega arith in
        rw index (sym (change_named ms r i a below))

    pub directed_event : suc r < size ms → event_by (directed_at ms r) (suc i) ≡ move_at ms (suc r)
    directed_event below =
        ap₂ moved_to (directed_change below) (ap setting_in directed_moves ∙ member_at (suc r) below)
