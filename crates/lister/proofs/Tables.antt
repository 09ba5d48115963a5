-- Laws of the table of block sizes, which is filled from its end.
use Prim.Native.Nat.{ℕ, suc, ◌-◌, ◌*◌, ◌≤◌, ◌<◌}
use native.Mathlib.Decide.{dec_lt}
use native.Mathlib.Nat.{le-mul_of_pos_right, mul_comm}
use native.Mathlib.Omega.{arith}
use mathlib.Core.Path.{◌≡◌, sym, ap, ap₂, ◌∙◌}
use mathlib.Core.Bool.{true}
use mathlib.Core.List.{List, ◌∷◌}
use lib.ListN.{length, get_or, take, drop, set, length-set, take-append-drop}
use lib.Seq.{drop-length, drop-cons, get_or-set_same, get_or-set_other}
use Rattle.gray_theory.specs.Radices.{size, all_from}
use Rattle.gray_theory.proofs.Sizes.{all_from-take, size-append, size_pos}

-- the entries from i on are there, and q is the number of words of the digits from i on
pub record Tabled (radices sizes : List ℕ) (q i : ℕ) : Type 0 where
  pub table : length sizes ≡ 48
  pub inside : i ≤ length radices
  pub words : q ≡ size (drop i radices)
  pub entries : (j : ℕ) → i ≤ j → j < length radices → get_or sizes j 0 ≡ size (drop (suc j) radices)

-- there are no more words of the digits from i on than of all
size_dropped : (radices : List ℕ) (i : ℕ) → all_from 1 radices ≡ true → size (drop i radices) ≤ size radices
size_dropped radices i e =
    let whole = ap size (sym (take-append-drop i radices)) ∙ size-append (take i radices) (drop i radices) in
    let least = le-mul_of_pos_right (size (drop i radices)) (size_pos (take i radices) (all_from-take 1 i radices e)) in
    omega (arith, mul_comm (size (take i radices)) (size (drop i radices)))

pub tabled_none : (radices sizes : List ℕ) → length sizes ≡ 48 → Tabled radices sizes 1 (length radices)
unfolding size
tabled_none radices sizes long =
    record {
      table = long;
      inside = omega arith;
      words = sym (ap size (drop-length radices));
      entries = λ j from below. absurd (omega arith);
    }

module _ (radices sizes : List ℕ) (q i m : ℕ) (t : Tabled radices sizes q i) where
  -- the digit before i has m notches
  words_more : 0 < i → m ≡ get_or radices (i - 1) 0 → q * m ≡ size (drop (i - 1) radices)
  unfolding size
  words_more some e =
      let again : suc (i - 1) ≡ i = omega arith in
      let more : drop (i - 1) radices ≡ m ∷ drop i radices =
      drop-cons radices (i - 1) 0 (omega arith) ∙ ap₂ (λ (a k : ℕ). a ∷ drop k radices) (sym e) again in
      ap (λ (k : ℕ). k * m) t.words ∙ mul_comm (size (drop i radices)) m ∙ sym (ap size more)

  -- with the entry of the digit before i
  pub tabled_more : 0 < i
      → length radices ≤ 48
      → m ≡ get_or radices (i - 1) 0
      → Tabled radices (set sizes (i - 1) q) (q * m) (i - 1)
  tabled_more some few e =
      record {
        table = length-set sizes (i - 1) q ∙ t.table;
        inside = omega arith;
        words = words_more some e;
        entries = λ j from below. elim (dec_lt (i - 1) j) [
          | yes past ↦ get_or-set_other sizes (i - 1) j q 0 (λ z. omega arith) ∙ t.entries j (omega arith) below
          | no same ↦
              let here : j ≡ i - 1 = omega arith in
              let next : i ≡ suc (i - 1) = omega arith in
              rw here (get_or-set_same sizes (i - 1) q 0 (omega arith) ∙ t.words ∙ ap (λ (k : ℕ). size (drop k radices)) next)
        ];
      }

  -- so q * m does not wrap
  pub tabled_short : 0 < i → all_from 1 radices ≡ true → m ≡ get_or radices (i - 1) 0 → q * m ≤ size radices
  tabled_short some whole e = omega (arith, words_more some e, size_dropped radices (i - 1) whole)
