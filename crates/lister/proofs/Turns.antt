-- What the functions that a turn of a lister's loop calls rely on, and what they leave.
use Prim.Native.Nat.{ℕ, suc, ◌+◌, ◌-◌, ◌≤◌, ◌<◌}
use native.Mathlib.Nat.{mul-one}
use native.Mathlib.Numerals.{add-one}
use native.Mathlib.Omega.{arith}
use mathlib.Core.Path.{◌≡◌, refl, sym, ap, ◌∙◌}
use mathlib.Core.Bool.{Bool}
use mathlib.Core.List.{List, [], ◌∷◌, ◌++◌}
use lib.ListN.{length, get_or, take, drop, set, length-set, drop_of_length-le}
use lib.Seq.{drop-cons, take-suc-set, take-take, take-set-le, append_snoc}
use Rattle.gray_theory.specs.Radices.{size}
use Rattle.gray_theory.specs.Places.{placed}
use Rattle.lister_theory.specs.Listers.{listing}
use Rattle.lister_theory.proofs.Reflections.{length-listing}
use Rattle.lister.specs.Outputs.{window, laid, Past, Reached, RowRoom, Listed}
use Rattle.lister.proofs.Windows.{window-past, one_word, laid_none, laid_word}

-- what is left, under other names
pub listed_as : {d e : Bool} {ms fixed word w w' out o o' : List ℕ} {i s t at : ℕ} → d ≡ e
    → Listed e ms i fixed word w s t at out o → w' ≡ w → o' ≡ o → Listed d ms i fixed word w' s t at out o'
listed_as {ms = ms} {fixed = fixed} {out = out} {i = i} {s = s} {t = t} {at = at} ed l ew eo = record {
  wrote = eo ∙ l.wrote ∙ ap (λ b. laid at fixed (window s t (listing b ms)) out) (sym ed);
  kept = ap (take i) ew ∙ l.kept;
  long = ap length ew ∙ l.long;
}

-- ---- the words in which digit i stands at notch b
module _ {radices sizes word : List ℕ} {i s t at : ℕ} {out : List ℕ} (more : i < length radices)
    (r : Reached radices sizes word i s t out at) where
  -- the table says how many they are
  words : get_or sizes i 0 ≡ size (drop (i + 1) radices)
  words = rw (add-one i) (r.sized i more)

  pub past_words : (n s' t' at' : ℕ) → Past n (get_or sizes i 0) s t at s' t' at'
      → Past n (size (drop (i + 1) radices)) s t at s' t' at'
  past_words n s' t' at' past = rw words at past

  -- all of them come before the window
  pub listed_past : (way : Bool) (b : ℕ) → get_or sizes i 0 ≤ s
      → Listed way (drop (i + 1) radices) i (take i word ++ (b ∷ [])) word word s t at out out
  listed_past way b skipped =
      let before : length (listing way (drop (i + 1) radices)) ≤ s =
      omega (arith, length-listing way (drop (i + 1) radices), words)
      in
      record {
        wrote =
            sym (ap (λ ws. laid at (take i word ++ (b ∷ [])) ws out)
            (window-past s t (listing way (drop (i + 1) radices)) before)
            ∙ laid_none at (take i word ++ (b ∷ [])) out);
        kept = refl;
        long = r.long;
      }

  -- the writer of the last two digits has written them
  pub listed_square : {way : Bool} (b : ℕ) {out' : List ℕ} → i + 3 ≡ length radices
      → out'
      ≡ laid at (take (length radices - 3) word ++ (b ∷ []))
      (window s t (listing way (drop (length radices - 2) radices))) out
      → Listed way (drop (i + 1) radices) i (take i word ++ (b ∷ [])) word word s t at out out'
  listed_square b last e =
      let seam : length radices - 3 ≡ i = omega arith in
      let next : length radices - 2 ≡ i + 1 = omega arith in
      record { wrote = rw (seam, next) at e; kept = refl; long = r.long }

-- ---- the digits that remain where digit i stands at notch b
module _ (word : List ℕ) (b : ℕ) {radices sizes : List ℕ} {i s t at : ℕ} {out : List ℕ} (more : i < length radices)
    (r : Reached radices sizes (set word i b) (i + 1) s t out at) where
  -- the digits that are fixed
  fixed : take (i + 1) (set word i b) ≡ take i word ++ (b ∷ [])
  fixed =
      let long : length word ≡ 48 = sym (length-set word i b) ∙ r.long in
      ap (λ k. take k (set word i b)) (add-one i) ∙ take-suc-set word i b (omega (arith, r.few))

  -- one of the listers has listed them
  pub listed_below : {way d : Bool} {word' out' : List ℕ} → way ≡ d
      → Listed d (drop (i + 1) radices) (i + 1) (take (i + 1) (set word i b)) (set word i b) word' s t at out out'
      → Listed way (drop (i + 1) radices) i (take i word ++ (b ∷ [])) word word' s t at out out'
  listed_below {word' = word'} e l = record {
    wrote = rw (e, ← fixed) l.wrote;
    kept =
        sym (take-take i (i + 1) word' (omega arith))
        ∙ ap (take i) l.kept
        ∙ take-take i (i + 1) (set word i b) (omega arith)
        ∙ take-set-le i word i b (omega arith);
    long = l.long;
  }

  -- there is none: the word itself
  pub listed-none : {d : Bool} {out' : List ℕ} → i + 1 ≡ length radices → out' ≡ placed at (take (i + 1) (set word i b)) out
      → Listed d (drop (i + 1) radices) i (take i word ++ (b ∷ [])) word (set word i b) s t at out out'
  unfolding listing size
  listed-none {d} none e =
      let ended : drop (i + 1) radices ≡ [] = drop_of_length-le radices {i = i + 1} (omega arith) in
      let begins : s < 1 = rw ended at r.begun in
      let one : window s t (listing d (drop (i + 1) radices)) ≡ [] ∷ [] =
      ap (λ ms. window s t (listing d ms)) ended ∙ one_word s t begins r.some
      in
      record {
        wrote =
            e
            ∙ ap (λ p. placed at p out) fixed
            ∙ sym (laid_word at (take i word ++ (b ∷ [])) out)
            ∙ ap (λ ws. laid at (take i word ++ (b ∷ [])) ws out) (sym one);
        kept = take-set-le i word i b (omega arith);
        long = r.long;
      }

-- ---- where two digits remain, and the one before them is a, which is not stored
-- the radices after the last digit but one
last_only : (radices : List ℕ) (i m : ℕ) → i + 2 ≡ length radices → m ≡ get_or radices (i + 1) 0 → drop (suc i) radices ≡ m ∷ []
last_only radices i m last em =
    let ended : drop (suc (suc i)) radices ≡ [] = drop_of_length-le radices {i = suc (suc i)} (omega arith) in
    drop-cons radices (suc i) 0 (omega arith) ∙ rw (ended, ← (add-one i), em)

-- the fixed digits where two remain, and a, the one before them, is not stored
fixed_digits : (word : List ℕ) (n a : ℕ) → 3 ≤ n → n ≤ length word
    → take (n - 2) (set word (n - 3) a) ≡ take (n - 3) word ++ (a ∷ [])
fixed_digits word n a three few =
    let next : n - 2 ≡ suc (n - 3) = omega arith in
    ap (λ k. take k (set word (n - 3) a)) next ∙ take-suc-set word (n - 3) a (omega arith)

-- the writer of the last digit
wrote_row : (radices word out out' : List ℕ) (d : Bool) (a b m s t at : ℕ) → 3 ≤ length radices → length radices ≤ length word
    → m ≡ get_or radices (length radices - 2 + 1) 0
    → out' ≡ laid at (take (length radices - 3) word ++ (a ∷ b ∷ [])) (window s t (listing d (m ∷ []))) out
    → out'
    ≡ laid at (take (length radices - 2) (set word (length radices - 3) a) ++ (b ∷ []))
    (window s t (listing d (drop (suc (length radices - 2)) radices))) out
wrote_row radices word out out' d a b m s t at three few em e =
    rw (last_only radices (length radices - 2) m (omega arith) em)
    (e ∙ ap (λ p. laid at p (window s t (listing d (m ∷ []))) out) (sym fixed))
  where
    fixed : take (length radices - 2) (set word (length radices - 3) a) ++ (b ∷ [])
        ≡ take (length radices - 3) word ++ (a ∷ b ∷ [])
    fixed =
        ap (λ p. p ++ (b ∷ [])) (fixed_digits word (length radices) a three few)
        ∙ append_snoc (take (length radices - 3) word) a (b ∷ [])

module _ (word : List ℕ) (a : ℕ) {radices sizes : List ℕ} {s t at : ℕ} {out : List ℕ} (three : 3 ≤ length radices)
    (r : Reached radices sizes (set word (length radices - 3) a) (length radices - 2) s t out at)
    {last : ℕ} (radix : last ≡ get_or radices (length radices - 2 + 1) 0) where
  -- the word with a in its place
  abbrev whole : List ℕ
  whole = set word (length radices - 3) a

  long : length word ≡ 48
  long = sym (length-set word (length radices - 3) a) ∙ r.long

  -- what the writer of the last digit may rely on
  pub reached_row : s < get_or sizes (length radices - 2) 0 → last < 256 → RowRoom word (length radices) last s t out at
  unfolding size
  reached_row begins byte =
      let some : s < size (drop (suc (length radices - 2)) radices) = rw (r.sized (length radices - 2) (omega arith)) at begins in
      record {
        three = three;
        few = r.few;
        long = long;
        byte = byte;
        begun = rw (last_only radices (length radices - 2) last (omega arith) radix, mul-one last) at some;
        short = r.short;
        room = r.room;
      }

  -- it has written the words of digit n - 1 at notch b
  pub listed_row : {way : Bool} (b : ℕ) {out' : List ℕ}
      → out' ≡ laid at (take (length radices - 3) word ++ (a ∷ b ∷ [])) (window s t (listing way (last ∷ []))) out
      → Listed way (drop (length radices - 2 + 1) radices) (length radices - 2) (take (length radices - 2) whole ++ (b ∷ []))
      whole whole s t at out out'
  listed_row {way} b {out'} e = record {
    wrote =
        rw (add-one (length radices - 2))
        (wrote_row radices word out out' way a b last s t at three (omega (arith, long, r.few)) radix e);
    kept = refl;
    long = r.long;
  }

-- the loop over the notches of digit n - 1 is left
pub left_square : (word : List ℕ) (a : ℕ) {radices sizes out out' : List ℕ} {d : Bool} {s t at : ℕ} → 3 ≤ length radices
    → Reached radices sizes (set word (length radices - 3) a) (length radices - 2) s t out at
    → Listed d (drop (length radices - 2) radices) (length radices - 2)
    (take (length radices - 2) (set word (length radices - 3) a)) (set word (length radices - 3) a)
    (set word (length radices - 3) a) s t at out out'
    → out'
    ≡ laid at (take (length radices - 3) word ++ (a ∷ [])) (window s t (listing d (drop (length radices - 2) radices))) out
left_square word a {radices = radices} {out = out} {d = d} {s = s} {t = t} {at = at} three r l =
    let long = length-set word (length radices - 3) a in
    l.wrote
    ∙ ap (λ p. laid at p (window s t (listing d (drop (length radices - 2) radices))) out)
    (fixed_digits word (length radices) a three (omega (arith, r.few, r.long)))
