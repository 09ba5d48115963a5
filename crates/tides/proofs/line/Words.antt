-- Eight bytes are known by the number that they are read as.
use Prim.Native.Nat.{ℕ, ◌+◌, ◌*◌, ◌<◌}
use native.Mathlib.Omega.{arith}
use mathlib.Core.Path.{◌≡◌, refl, sym, ap₂, ◌∙◌}
use mathlib.Core.List.{List, [], ◌∷◌}
use lib.ListN.{length, get_or}
use Rattle.tides.specs.Stages.{word_of}

-- ---- bytes and their number, the first of them lowest
pub data Bytes : List ℕ → Type 0 where
  none : Bytes []
  one : {b : ℕ} {bs : List ℕ} → b < 256 → Bytes bs → Bytes (b ∷ bs)

value_of : List ℕ → ℕ
value_of [] = 0
value_of (b ∷ bs) = b + value_of bs * 256

-- the number tells the first byte, and the number of the others
first_told : (a b x y : ℕ) → a < 256 → b < 256 → a + x * 256 ≡ b + y * 256 → (a ≡ b) × (x ≡ y)
first_told a b x y h k e = omega arith

-- and so all of them
value_tells : (xs ys : List ℕ) → Bytes xs → Bytes ys → length xs ≡ length ys → value_of xs ≡ value_of ys → xs ≡ ys
unfolding value_of
value_tells [] [] none none l e = refl
value_tells [] (b ∷ ys) p q l e = absurd (omega arith)
value_tells (a ∷ xs) [] p q l e = absurd (omega arith)
value_tells (a ∷ xs) (b ∷ ys) (one h p) (one k q) l e =
    let (first, others) = first_told a b (value_of xs) (value_of ys) h k e in
    ap₂ (λ c cs. c ∷ cs) first (value_tells xs ys p q (omega arith) others)

-- ---- eight of a line, from a place on
abbrev pub eight_at : List ℕ → ℕ → List ℕ
eight_at line i =
    get_or line i 0 ∷ get_or line (i + 1) 0 ∷ get_or line (i + 2) 0 ∷ get_or line (i + 3) 0 ∷ get_or line (i + 4) 0 ∷ get_or line (i + 5) 0
    ∷ get_or line (i + 6) 0 ∷ get_or line (i + 7) 0 ∷ []

word_value : (line : List ℕ) (i : ℕ) → word_of line i ≡ value_of (eight_at line i)
unfolding value_of
word_value line i = omega arith

pub word_tells : (a b : List ℕ) (i : ℕ) → Bytes (eight_at a i) → Bytes (eight_at b i) → word_of a i ≡ word_of b i
    → eight_at a i ≡ eight_at b i
word_tells a b i p q e =
    value_tells (eight_at a i) (eight_at b i) p q refl (sym (word_value a i) ∙ e ∙ word_value b i)
