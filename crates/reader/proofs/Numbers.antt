-- Digits read one by one: what the proofs of the functions that read numbers cite.
use Prim.Native.Nat.{ℕ, ◌+◌, ◌-◌, ◌*◌, ◌^◌, ◌≤◌, ◌<◌}
use native.Mathlib.Omega.{arith}
use native.Mathlib.Numerals.{add-one}
use mathlib.Core.Path.{◌≡◌, refl, sym, ap, ◌∙◌}
use mathlib.Core.Bool.{Bool, true, false, cond, ◌&&◌, and-false}
use mathlib.Core.List.{List, [], ◌∷◌}
use borrow.Author.Tests.{le-ltb, lt-ltb}
use Rattle.std.specs.Prelude.{Option, Some, None}
use Rattle.std.proofs.lemmas.Option.{none-some, cond_some}
use lib.Dec.{ltb}
use lib.ListN.{length, get_or, drop}
use lib.Seq.{drop-cons}
use Rattle.text_theory.specs.Decimals.{is_digit, all_digits, value_from, is_number}
use Rattle.reader.specs.Parsing.{number_of}
use Rattle.reader.specs.Stages.{digit_at}

-- what digits say behind digits that say v
abbrev pub number_from : ℕ → List ℕ → Option ℕ
number_from v bs = cond (all_digits bs && ltb (value_from v bs) (2 ^ 64)) (Some (value_from v bs)) None

pub none_read : (bs : List ℕ) → length bs ≡ 0 → number_of bs ≡ None
unfolding number_of is_number
none_read bs h = rw h refl

pub begun : (bs : List ℕ) → 0 < length bs → number_of bs ≡ number_from 0 bs
unfolding number_of is_number
begun bs h = rw (lt-ltb 0 (length bs) h) refl

pub ended : (v : ℕ) → v < 2 ^ 64 → number_from v [] ≡ Some v
unfolding all_digits value_from
ended v h = rw (lt-ltb v (2 ^ 64) h) refl

pub joined : (v b : ℕ) (bs : List ℕ) → is_digit b ≡ true → number_from v (b ∷ bs) ≡ number_from (v * 10 + (b - 48)) bs
unfolding all_digits value_from
joined v b bs e =
    ap (λ t. cond (t && all_digits bs && ltb (value_from (v * 10 + (b - 48)) bs) (2 ^ 64))
    (Some (value_from (v * 10 + (b - 48)) bs)) None) e

pub other : (v b : ℕ) (bs : List ℕ) → is_digit b ≡ false → number_from v (b ∷ bs) ≡ None
unfolding all_digits value_from
other v b bs e =
    ap (λ t. cond (t && all_digits bs && ltb (value_from (v * 10 + (b - 48)) bs) (2 ^ 64))
    (Some (value_from (v * 10 + (b - 48)) bs)) None) e

pub grows : (v : ℕ) (bs : List ℕ) → v ≤ value_from v bs
unfolding value_from
grows v [] = omega arith
grows v (b ∷ bs) = let h = grows (v * 10 + (b - 48)) bs in omega arith

-- a value that is too large stays so
pub over : (v : ℕ) (bs : List ℕ) → 2 ^ 64 ≤ v → number_from v bs ≡ None
over v bs h =
    let large : 2 ^ 64 ≤ value_from v bs = omega (arith, grows v bs) in
    rw (le-ltb (value_from v bs) (2 ^ 64) large, and-false (all_digits bs)) refl

-- ---- a digit
pub some_no : (t : Bool) (v : ℕ) → cond t (Some v) None ≡ None → t ≡ false
some_no true v e = absurd (none-some v (sym e))
some_no false v e = refl

-- ---- the next byte, in front of the rest
module _ (bytes : List ℕ) (v i : ℕ) (inside : i < length bytes) (so_far : number_of bytes ≡ number_from v (drop i bytes)) where
  next : number_of bytes ≡ number_from v (get_or bytes i 0 ∷ drop (i + 1) bytes)
  next = rw add-one (so_far ∙ ap (number_from v) (drop-cons bytes i 0 inside))

  -- it is no digit
  pub unread : digit_at (get_or bytes i 0) ≡ None → None ≡ number_of bytes
  unfolding digit_at
  unread e = sym (next ∙ other v (get_or bytes i 0) (drop (i + 1) bytes) (some_no (is_digit (get_or bytes i 0)) (get_or bytes i 0 - 48) e))

  module _ (d : ℕ) (digit : digit_at (get_or bytes i 0) ≡ Some d) where
    -- the digit joined to the value
    pub turn : number_of bytes ≡ number_from (v * 10 + d) (drop (i + 1) bytes)
    unfolding digit_at
    turn =
        let (is, same) = cond_some (is_digit (get_or bytes i 0)) (get_or bytes i 0 - 48) d digit in
        rw (← same) (next ∙ joined v (get_or bytes i 0) (drop (i + 1) bytes) is)

    pub too_large : 2 ^ 64 ≤ v * 10 + d → None ≡ number_of bytes
    too_large h = sym (turn ∙ over (v * 10 + d) (drop (i + 1) bytes) h)
