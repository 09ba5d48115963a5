-- Laws of the writer of one digit's words: what the output holds before word u, and what that word adds.
use Prim.Native.Nat.{ℕ, suc, ◌+◌, ◌-◌, ◌*◌, ◌≤◌, ◌<◌, min}
use native.Mathlib.Decide.{dec_le}
use native.Mathlib.Nat.{mul-le-mul_right, mul-one, sub_self, suc-mul, zero-mul}
use native.Mathlib.Omega.{arith}
use mathlib.Core.Path.{◌≡◌, refl, sym, ap, ap₂, ◌∙◌}
use mathlib.Core.Bool.{Bool, true, false, cond}
use mathlib.Core.List.{List, [], ◌∷◌, ◌++◌, map, flatten, append_assoc, append-nil, map-append}
use lib.ListN.{length, get_or, take, drop, length-append, length-drop, get_or-map}
use lib.Seq.{length-take-le, take_all, take-suc, get_or-drop}
use Rattle.gray_theory.specs.Radices.{size}
use Rattle.gray_theory.proofs.Members.{get_d_upward, get_d_downward}
use Rattle.gray_theory.specs.Words.{even, upward, downward}
use Rattle.lister_theory.specs.Listers.{blocks, listing}
use Rattle.lister.specs.Outputs.{window, laid, notch_after, RowRoom}
use Rattle.lister_theory.proofs.Reflections.{length-listing}
use Rattle.gray_theory.specs.Places.{placed}
use Rattle.gray_theory.proofs.Places.{placed-none, length-placed, placed-append}
use Rattle.lister.proofs.Windows.{flatten-append}

-- ---- the words of one digit
-- where no digit remains, the words are the notches
blocks_single : (notches : List ℕ) → blocks ([] ∷ []) ([] ∷ []) notches ≡ map (λ a. a ∷ []) notches
unfolding blocks
blocks_single [] = refl
blocks_single (a ∷ rest) = rw (same (even a)) (ap (λ words. (a ∷ []) ∷ words) (blocks_single rest))
  where
    same : (b : Bool) → ◌≡◌ {A = List (List ℕ)} (cond b ([] ∷ []) ([] ∷ [])) ([] ∷ [])
    same true = refl
    same false = refl

row-length : (down : Bool) (m : ℕ) → length (listing down (m ∷ [])) ≡ m
unfolding size
row-length down m = length-listing down (m ∷ []) ∙ mul-one m

-- word u has the notch that comes after u others
row_word : (down : Bool) (m u : ℕ) → u < m → get_or (listing down (m ∷ [])) u (0 ∷ []) ≡ notch_after down m u ∷ []
unfolding listing
row_word down m u h =
    ap (λ words. get_or words u (0 ∷ [])) (blocks_single (cond down (downward m) (upward m)))
    ∙ get_or-map (λ a. a ∷ []) (cond down (downward m) (upward m)) u 0
    ∙ ap (λ a. a ∷ []) (go down)
  where
    go : (d : Bool) → get_or (cond d (downward m) (upward m)) u 0 ≡ notch_after d m u
    go true = get_d_downward m u h
    go false = get_d_upward m u h

-- ---- the window
-- one word more
window_more : (s k : ℕ) (words : List (List ℕ)) (d : List ℕ)
    → s + k < length words
    → window s (suc k) words ≡ window s k words ++ (get_or words (s + k) d ∷ [])
unfolding window
window_more s k words d h =
    take-suc (drop s words) k d (omega (arith, length-drop s words))
    ∙ ap (λ w. take k (drop s words) ++ (w ∷ [])) (get_or-drop s words k d)

-- `end` is where the words end, or the window if that ends first
window_enough : (s t end : ℕ) (words : List (List ℕ))
    → end ≡ min (length words) (s + t)
    → window s (end - s) words ≡ window s t words
unfolding window
window_enough s t end words e =
    let long = length-drop s words in
    elim (dec_le (s + t) (length words)) [
      | yes p ↦ let k : end - s ≡ t = omega arith in rw k
      | no q ↦ take_all (end - s) (drop s words) (omega arith) ∙ sym (take_all t (drop s words) (omega arith))
    ]

-- ---- the writer's loop
-- the bytes of the words from word `skip` on that come before word u, each after the digits that are fixed
unfoldable pub row_bytes : List ℕ → Bool → ℕ → ℕ → ℕ → List ℕ
row_bytes fixed down m skip u = flatten (map (λ w. fixed ++ w) (window skip (u - skip) (listing down (m ∷ []))))

row-bytes_more : (fixed : List ℕ) (down : Bool) (m skip u : ℕ)
    → skip ≤ u
    → u < m
    → row_bytes fixed down m skip (u + 1) ≡ row_bytes fixed down m skip u ++ (fixed ++ (notch_after down m u ∷ []))
unfolding row_bytes flatten
row-bytes_more fixed down m skip u from below =
    let one : u + 1 - skip ≡ suc (u - skip) = omega arith in
    let place : skip + (u - skip) ≡ u = omega arith in
    let words = listing down (m ∷ []) in
    let grown : window skip (suc (u - skip)) words ≡ window skip (u - skip) words ++ ((notch_after down m u ∷ []) ∷ []) =
    window_more skip (u - skip) words (0 ∷ []) (omega (arith, row-length down m))
    ∙ ap (λ k. window skip (u - skip) words ++ (get_or words k (0 ∷ []) ∷ [])) place
    ∙ ap (λ w. window skip (u - skip) words ++ (w ∷ [])) (row_word down m u below) in
    rw (one, grown, map-append, flatten-append, append-nil)

-- the digits of a word that stay: those of `word` but the last three, and a and b
abbrev pub staying : List ℕ → ℕ → ℕ → ℕ → List ℕ
staying word n a b = take (n - 3) word ++ (a ∷ b ∷ [])

-- the output before word u, which goes to place `at`
pub record Rowed (fixed : List ℕ) (n : ℕ) (down : Bool) (m skip end start : ℕ) (out₀ out : List ℕ) (at u : ℕ) : Type 0 where
  pub from : skip ≤ u
  pub upto : u ≤ end
  pub place : at ≡ start + (u - skip) * n
  pub long : length (row_bytes fixed down m skip u) ≡ (u - skip) * n
  pub same : length out ≡ length out₀
  pub holds : out ≡ placed start (row_bytes fixed down m skip u) out₀

module _ (word : List ℕ) (n a b : ℕ) (down : Bool) (m skip left : ℕ) (out₀ : List ℕ) (start end : ℕ)
    (r : RowRoom word n m skip left out₀ start) (ends : end ≡ min m (skip + left)) where
  -- each word has n digits
  length-word : (c : ℕ) → length (staying word n a b ++ (c ∷ [])) ≡ n
  length-word c =
      let taken = length-take-le (n - 3) word (omega arith) in
      let fixed = length-append (take (n - 3) word) (a ∷ b ∷ []) in
      let whole = length-append (staying word n a b) (c ∷ []) in
      omega arith

  pub row-begun : Rowed (staying word n a b) n down m skip end start out₀ out₀ start skip
  unfolding row_bytes window flatten
  row-begun =
      let none : (skip - skip) * n ≡ 0 = rw (sub_self skip) (zero-mul n) in
      let empty : row_bytes (staying word n a b) down m skip skip ≡ [] = rw (sub_self skip) in
      record {
        from = omega arith;
        upto = omega arith;
        place = omega arith;
        long = ap length empty ∙ sym none;
        same = refl;
        holds = sym (ap (λ l. placed start l out₀) empty ∙ placed-none start out₀);
      }

  module _ (out : List ℕ) (at u : ℕ) (w : Rowed (staying word n a b) n down m skip end start out₀ out at u) where
    place_more : (u + 1 - skip) * n ≡ (u - skip) * n + n
    place_more =
        let one : u + 1 - skip ≡ suc (u - skip) = omega arith in
        ap (λ (k : ℕ). k * n) one ∙ suc-mul (u - skip) n

    -- there is room for word u
    pub row_room : u < end → at + n ≤ length out
    row_room h =
        let most : (u + 1 - skip) * n ≤ left * n = mul-le-mul_right n (omega arith) in
        omega (arith, place_more)

    -- with word u written
    pub row_again : (out' : List ℕ) (c : ℕ)
        → u < end
        → c ≡ notch_after down m u
        → out' ≡ placed at (take (n - 3) word ++ (a ∷ b ∷ c ∷ [])) out
        → Rowed (staying word n a b) n down m skip end start out₀ out' (at + n) (u + 1)
    row_again out' c h notch wrote =
        let bytes = row_bytes (staying word n a b) down m skip u in
        let more : row_bytes (staying word n a b) down m skip (u + 1) ≡ bytes ++ (staying word n a b ++ (c ∷ [])) =
        row-bytes_more (staying word n a b) down m skip u w.from (omega arith)
        ∙ ap (λ x. bytes ++ (staying word n a b ++ (x ∷ []))) (sym notch) in
        let put : out' ≡ placed at (staying word n a b ++ (c ∷ [])) out =
        wrote ∙ ap (λ l. placed at l out) (sym (append_assoc (take (n - 3) word) (a ∷ b ∷ []) (c ∷ []))) in
        let room = row_room h in
        let wide = length-word c in
        let here : at ≡ start + length bytes = omega (arith, w.place, w.long) in
        record {
          from = omega arith;
          upto = omega arith;
          place = omega (arith, place_more);
          long = ap length more ∙ length-append bytes (staying word n a b ++ (c ∷ [])) ∙ omega (arith, place_more);
          same = ap length put ∙ length-placed at (staying word n a b ++ (c ∷ [])) out (omega arith) ∙ w.same;
          holds =
              put
              ∙ ap₂ (λ k l. placed k (staying word n a b ++ (c ∷ [])) l) here w.holds
              ∙ placed-append start bytes (staying word n a b ++ (c ∷ [])) out₀ (omega arith)
              ∙ ap (λ l. placed start l out₀) (sym more);
        }

    -- the last word before `end` was the last of the window
    pub row_ended : end ≤ u → out ≡ laid start (staying word n a b) (window skip left (listing down (m ∷ []))) out₀
    unfolding laid row_bytes
    row_ended h =
        let last : u ≡ end = omega arith in
        let words = listing down (m ∷ []) in
        let long : end ≡ min (length words) (skip + left) = rw (row-length down m) ends in
        w.holds
        ∙ ap (λ k. placed start (flatten (map (λ v. staying word n a b ++ v) (window skip (k - skip) words))) out₀) last
        ∙ ap (λ ws. placed start (flatten (map (λ v. staying word n a b ++ v) ws)) out₀) (window_enough skip left end words long)
