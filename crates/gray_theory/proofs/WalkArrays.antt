-- The word and the directions of the walk at rank r, in the arrays of an engine's state: at the start, in range, and moved.
use Rattle.std.specs.Prelude.{ℕ, suc, ◌≤◌, ◌<◌, ◌≡◌, Bool, true, false, List, length, get_or, take, replicate}
use Rattle.std.proofs.Common.{arith, sym, ap, ap₂, ◌∙◌}
use Rattle.gray_theory.specs.Radices.{size, all_from}
use Rattle.gray_theory.specs.Changes.{change}
use Rattle.gray_theory.specs.Directions.{moved_from, turned_at, word_moved, downs_moved, digit_in_range, digits_in_range}
use Rattle.gray_theory.specs.Arrays.{filled}
use Rattle.gray_theory.specs.Indexed.{word_at, downs_at}
use Rattle.gray_theory.proofs.Members.{length-word_at}
use Rattle.gray_theory.proofs.Rulers.{change_is_ruler}
use Rattle.gray_theory.proofs.Turns.{length-downs_at, word_at_start, downs_at_start, walk_in_range, Advances}
use Rattle.gray_theory.proofs.DigitRanges.{each_all_below}
use Rattle.gray_theory.proofs.Filled.{take-filled, get_d_filled, set-filled, filled-replicate}
use Rattle.gray_theory.specs.WalkArrays.{word_array, down_array}

module _ (ms : List ℕ) where
  -- the digits themselves
  pub take-word_array : (r : ℕ) → take (length ms) (word_array ms r) ≡ word_at ms r
  take-word_array r =
      ap (λ (n : ℕ). take n (word_array ms r)) (sym (length-word_at ms r)) ∙ take-filled 48 0 (word_at ms r)

  -- the start: all 0, all up
  pub word_array_start : length ms ≤ 48 → replicate 48 0 ≡ word_array ms 0
  word_array_start most = sym (ap (filled 48 0) (word_at_start ms) ∙ filled-replicate 48 0 (length ms) most)

  pub down_array_start : all_from 1 ms ≡ true → length ms ≤ 48 → replicate 48 false ≡ down_array ms 0
  down_array_start two most = sym (ap (filled 48 false) (downs_at_start ms two) ∙ filled-replicate 48 false (length ms) most)

  pub arrays_in_range : all_from 1 ms ≡ true
      → (r : ℕ)
      → digits_in_range (length ms) (filled 48 0 ms) (word_array ms r) (down_array ms r) ≡ true
  arrays_in_range two r =
      each_all_below (length ms)
      (λ i. digit_in_range (get_or (filled 48 0 ms) i 0) (get_or (word_array ms r) i 0) (get_or (down_array ms r) i false))
      (λ i h.
      let w = length-word_at ms r in
      let d = length-downs_at ms r in
      rw
      (get_d_filled 48 0 ms i 0 h, get_d_filled 48 0 (word_at ms r) i 0 (omega arith), get_d_filled 48 false (downs_at ms r) i false (omega arith))
      (walk_in_range ms two r i h))

  -- the digit that the list moves from rank r
  module _ (r i : ℕ) (a : Advances ms r i) where
    notch_at : get_or (word_array ms r) i 0 ≡ get_or (word_at ms r) i 0
    notch_at = let w = length-word_at ms r in let h = a.within in get_d_filled 48 0 (word_at ms r) i 0 (omega arith)

    down_at : get_or (down_array ms r) i false ≡ get_or (downs_at ms r) i false
    down_at = let d = length-downs_at ms r in let h = a.within in get_d_filled 48 false (downs_at ms r) i false (omega arith)

    pub word_array_moved : word_moved (word_array ms r) (down_array ms r) i ≡ word_array ms (suc r)
    word_array_moved =
        let w = length-word_at ms r in
        let h = a.within in
        rw (notch_at, down_at)
        (set-filled 48 0 (word_at ms r) i (moved_from (get_or (word_at ms r) i 0) (get_or (downs_at ms r) i false)) (omega arith)
        ∙ ap (filled 48 0) a.word)

    pub down_array_moved : downs_moved (filled 48 0 ms) (word_array ms r) (down_array ms r) i ≡ down_array ms (suc r)
    down_array_moved =
        let d = length-downs_at ms r in
        let h = a.within in
        let to : ℕ = moved_from (get_or (word_at ms r) i 0) (get_or (downs_at ms r) i false) in
        rw (notch_at, down_at, get_d_filled 48 0 ms i 0 h)
        (set-filled 48 false (downs_at ms r) i (turned_at (get_or ms i 0) to (get_or (downs_at ms r) i false)) (omega arith)
        ∙ ap (filled 48 false) a.downs)

    pub change_named : suc r < size ms → change ms (suc r) ≡ record { digit = suc i; down = get_or (down_array ms r) i false }
    change_named below =
        (change_is_ruler ms r below).0
        ∙ ap₂ (λ (k : ℕ) (b : Bool). record { digit = k; down = b }) a.digit (sym a.direction ∙ sym down_at)
