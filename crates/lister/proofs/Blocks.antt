-- Laws of a lister's loop over the notches of one digit: what the output holds after u of them, and what the next one adds.
use Prim.Native.Nat.{ℕ, zero, suc, ◌+◌, ◌-◌, ◌*◌, ◌^◌, ◌≤◌, ◌<◌}
use mathlib.Core.Path.{◌≡◌, refl, sym, ap, ◌∙◌}
use mathlib.Core.Bool.{Bool, true, false, cond, not}
use mathlib.Core.List.{List, [], ◌∷◌, ◌++◌, map, append-nil, map-append, map-id}
use native.Mathlib.Nat.{add-zero, add-mul, sub-add-eq}
use native.Mathlib.Numerals.{add-one}
use native.Mathlib.Decide.{dec_lt}
use native.Mathlib.Omega.{arith}
use lib.ListN.{length, get_or, take, drop, length-append, length-map, length-drop}
use lib.Seq.{drop-cons, length-take-le}
use Rattle.gray_theory.specs.Radices.{size}
use Rattle.gray_theory.specs.Words.{even, upward, downward}
use Rattle.lister_theory.specs.Listers.{blocks, listing}
use Rattle.lister.specs.Outputs.{window, laid, notch_after, way_after, Past, Reached, Listed}
use Rattle.lister_theory.proofs.Reflections.{length-listing}
use Rattle.lister.proofs.Windows.{window-append, window-none, window-past, window-map, length-window}
use Rattle.lister.proofs.Windows.{blocks-append, Each, each_window, each_blocks, each_listing}
use Rattle.lister.proofs.Windows.{laid_none, laid-append, laid-after}

-- the words that begin with the first u notches that a lister comes to
unfoldable pub begun : Bool → ℕ → List ℕ → ℕ → List (List ℕ)
begun d m ms u = blocks (listing d ms) (listing (not d) ms) (map (notch_after d m) (upward u))

-- the words that begin with one notch
abbrev block : Bool → List ℕ → ℕ → List (List ℕ)
block d ms x = map (λ w. x ∷ w) (cond (even x) (listing d ms) (listing (not d) ms))

begun-suc : (d : Bool) (m : ℕ) (ms : List ℕ) (u : ℕ) → begun d m ms (suc u) ≡ begun d m ms u ++ block d ms (notch_after d m u)
unfolding begun upward blocks
begun-suc d m ms u =
    ap (blocks (listing d ms) (listing (not d) ms)) (map-append (notch_after d m) (upward u) (u ∷ []))
    ∙ blocks-append (listing d ms) (listing (not d) ms) (map (notch_after d m) (upward u)) (notch_after d m u ∷ [])
    ∙ ap (λ r. begun d m ms u ++ r) (append-nil (block d ms (notch_after d m u)))

length-block : (d : Bool) (ms : List ℕ) (x : ℕ) → length (block d ms x) ≡ size ms
length-block d ms x = length-map (cond (even x) (listing d ms) (listing (not d) ms)) (λ w. x ∷ w) ∙ go (even x)
  where
    go : (b : Bool) → length (cond b (listing d ms) (listing (not d) ms)) ≡ size ms
    go true = length-listing d ms
    go false = length-listing (not d) ms

length-begun : (d : Bool) (m : ℕ) (ms : List ℕ) (u : ℕ) → length (begun d m ms u) ≡ u * size ms
unfolding begun upward blocks
length-begun d m ms zero = omega arith
length-begun d m ms (suc u) =
    let all = ap length (begun-suc d m ms u) ∙ length-append (begun d m ms u) (block d ms (notch_after d m u)) in
    let before = length-begun d m ms u in
    let next = length-block d ms (notch_after d m u) in
    omega arith

each_begun : (d : Bool) (m : ℕ) (ms : List ℕ) (u : ℕ) → Each (suc (length ms)) (begun d m ms u)
unfolding begun
each_begun d m ms u =
    each_blocks (length ms) (listing d ms) (listing (not d) ms) (map (notch_after d m) (upward u))
    (each_listing d ms) (each_listing (not d) ms)

-- all notches
upward-suc : (m : ℕ) → upward (suc m) ≡ 0 ∷ map suc (upward m)
unfolding upward
upward-suc zero = refl
upward-suc (suc m) = ap (λ r. r ++ (suc m ∷ [])) (upward-suc m) ∙ ap (λ r. 0 ∷ r) (sym (map-append suc (upward m) (m ∷ [])))

downward_by : (m : ℕ) → downward m ≡ map (λ u. m - 1 - u) (upward m)
unfolding upward downward
downward_by zero = refl
downward_by (suc m) =
    let one : m ≡ suc m - 1 - 0 = omega arith in
    (λ i. one i ∷ (downward_by m ∙ rest (upward m)) i)
    ∙ ap (map (λ u. suc m - 1 - u)) (sym (upward-suc m))
  where
    rest : (l : List ℕ) → map (λ u. m - 1 - u) l ≡ map (λ u. suc m - 1 - u) (map suc l)
    rest [] = refl
    rest (u ∷ l) = let e : m - 1 - u ≡ suc m - 1 - suc u = omega arith in λ i. e i ∷ rest l i

listing-begun : (d : Bool) (m : ℕ) (ms : List ℕ) → listing d (m ∷ ms) ≡ begun d m ms m
unfolding listing begun
listing-begun d m ms = ap (blocks (listing d ms) (listing (not d) ms)) (go d)
  where
    go : (d : Bool) → cond d (downward m) (upward m) ≡ map (notch_after d m) (upward m)
    go true = downward_by m
    go false = sym (map-id (upward m))

-- ---- the window on what has begun
-- one notch more
window_next : (d : Bool) (m : ℕ) (ms : List ℕ) (u skip left s t : ℕ) → s ≡ skip - u * size ms → t ≡ left - (u * size ms - skip)
    → window skip left (begun d m ms (u + 1)) ≡ window skip left (begun d m ms u) ++ window s t (block d ms (notch_after d m u))
window_next d m ms u skip left s t es et =
    ap (λ v. window skip left (begun d m ms v)) (add-one u)
    ∙ ap (window skip left) (begun-suc d m ms u)
    ∙ window-append skip left (begun d m ms u) (block d ms (notch_after d m u))
    ∙ rw (length-begun d m ms u, es, et)

-- notches after the window's end add nothing to it
window_ended : (d : Bool) (m : ℕ) (ms : List ℕ) (u skip left : ℕ) → left ≤ u * size ms - skip → (k : ℕ)
    → window skip left (begun d m ms (u + k)) ≡ window skip left (begun d m ms u)
window_ended d m ms u skip left e zero = rw (add-zero u)
window_ended d m ms u skip left e (suc k) =
    let v : ℕ = u + k in
    let ended : 0 ≡ left - (v * size ms - skip) = omega (arith, add-mul u k (size ms)) in
    let one : u + suc k ≡ v + 1 = omega arith in
    ap (λ w. window skip left (begun d m ms w)) one
    ∙ window_next d m ms v skip left (skip - v * size ms) 0 refl ended
    ∙ ap (λ r. window skip left (begun d m ms v) ++ r) (window-none (skip - v * size ms) (block d ms (notch_after d m v)))
    ∙ append-nil (window skip left (begun d m ms v))
    ∙ window_ended d m ms u skip left e k

-- the lister that the code chooses by the parity of the notch
chosen_lister : (d : Bool) (ms : List ℕ) (b : ℕ)
    → cond (even b) (listing d ms) (listing (not d) ms) ≡ listing (way_after d b) ms
chosen_lister d ms b = go (even b)
  where
    go : (e : Bool) → cond e (listing d ms) (listing (not d) ms) ≡ listing (cond e d (not d)) ms
    go true = refl
    go false = refl

-- after u notches of digit i: the digits before it are as they were, the window has moved on by the words of these notches, and
-- the output holds those of them that were in it
pub record Along (d : Bool) (radices : List ℕ) (i skip left start : ℕ)
    (word₀ out₀ word out : List ℕ) (u s t at : ℕ) : Type 0 where
  pub kept : take i word ≡ take i word₀
  pub long : length word ≡ 48
  pub same : length out ≡ length out₀
  pub passed : u ≤ get_or radices i 0
  pub skips : s ≡ skip - u * size (drop (suc i) radices)
  pub lefts : t ≡ left - (u * size (drop (suc i) radices) - skip)
  pub place : at + t * length radices ≡ start + left * length radices
  pub holds : out ≡ laid start (take i word₀) (window skip left (begun d (get_or radices i 0) (drop (suc i) radices) u)) out₀

-- how the window moves on over the q words of one notch more
skips_next : (u q skip s s' : ℕ) → s ≡ skip - u * q → s' ≡ s - q → s' ≡ skip - (u + 1) * q
skips_next u q skip s s' es next = omega arith

lefts_next : (u q skip left s t t' : ℕ) → s ≡ skip - u * q → t ≡ left - (u * q - skip) → t' ≡ t - (q - s)
    → t' ≡ left - ((u + 1) * q - skip)
lefts_next u q skip left s t t' es et next =
    let gone : u * q - skip + (q - s) ≡ (u + 1) * q - skip = omega arith in
    next ∙ ap (λ k. k - (q - s)) et ∙ sym (sub-add-eq left (u * q - skip) (q - s)) ∙ ap (λ k. left - k) gone

-- a lister that has one digit's notches to go through
module _ (d : Bool) {radices sizes : List ℕ} {i skip left start : ℕ} {word₀ out₀ : List ℕ}
    (more : i < length radices) (r : Reached radices sizes word₀ i skip left out₀ start) where
  -- digit i's radix, the radices after it, and the words of u notches that are in the window
  abbrev radix : ℕ
  radix = get_or radices i 0

  abbrev others : List ℕ
  others = drop (suc i) radices

  abbrev inside : ℕ → List (List ℕ)
  inside u = window skip left (begun d radix others u)

  nothing_inside : inside 0 ≡ []
  unfolding begun upward blocks
  nothing_inside = window-past skip left [] (omega arith)

  pub along_none : Along d radices i skip left start word₀ out₀ word₀ out₀ 0 skip left start
  along_none = record {
    kept = refl;
    long = r.long;
    same = refl;
    passed = omega arith;
    skips = omega arith;
    lefts = omega arith;
    place = refl;
    holds = sym (ap (λ ws. laid start (take i word₀) ws out₀) nothing_inside ∙ laid_none start (take i word₀) out₀);
  }

  module _ {word out : List ℕ} {u s t at : ℕ} (a : Along d radices i skip left start word₀ out₀ word out u s t at) where
    -- the next notch's words
    abbrev next : List (List ℕ)
    next = block d others (notch_after d radix u)

    -- what every way to go on shares
    along_next : (word' out' : List ℕ) (s' t' at' : ℕ) → u < radix → take i word' ≡ take i word → length word' ≡ 48
        → length out' ≡ length out → s' ≡ s - size others → t' ≡ t - (size others - s)
        → at' + t' * length radices ≡ at + t * length radices
        → out' ≡ laid start (take i word₀) (inside u ++ window s t next) out₀
        → Along d radices i skip left start word₀ out₀ word' out' (u + 1) s' t' at'
    along_next word' out' s' t' at' h kept long same es et ea holds = record {
      kept = kept ∙ a.kept;
      long = long;
      same = same ∙ a.same;
      passed = omega arith;
      skips = skips_next u (size others) skip s s' a.skips es;
      lefts = lefts_next u (size others) skip left s t t' a.skips a.lefts et;
      place = ea ∙ a.place;
      holds =
          holds
          ∙ ap (λ ws. laid start (take i word₀) ws out₀) (sym (window_next d radix others u skip left s t a.skips a.lefts));
    }

    -- the place that is reached, by the number of words before it
    reached : at ≡ start + length (inside u) * (length (take i word₀) + suc (length others))
    reached =
        let few = r.few in
        let long = r.long in
        let fixed : length (take i word₀) ≡ i = length-take-le i word₀ (omega arith) in
        let free : length others ≡ length radices - suc i = length-drop (suc i) radices in
        let wide : length (take i word₀) + suc (length others) ≡ length radices = omega arith in
        let place = a.place in
        let times = add-mul (length (inside u)) t (length radices) in
        let product = ap (λ k. k * length radices) words in
        rw wide (omega arith)
      where
        words : length (inside u) + t ≡ left
        words =
            let count = length-window skip left (begun d radix others u) in
            let all = length-begun d radix others u in
            let lefts = a.lefts in
            omega arith

    -- the lister of the next notch, b, has been through its words
    pub along_after : {word' out' : List ℕ} {b s' t' at' : ℕ} → u < get_or radices i 0
        → b ≡ notch_after d (get_or radices i 0) u
        → Past (length radices) (size (drop (i + 1) radices)) s t at s' t' at'
        → Listed (way_after d b) (drop (i + 1) radices) i (take i word ++ (b ∷ [])) word word' s t at out out'
        → length out' ≡ length out
        → Along d radices i skip left start word₀ out₀ word' out' (u + 1) s' t' at'
    along_after {word'} {out'} {b} {s'} {t'} {at'} h notch past l same =
        let fits = r.room in
        let moved = rw (add-one i) at past in
        along_next word' out' s' t' at' h l.kept l.long same moved.0 moved.1 moved.2
        (l.wrote
        ∙ ap (λ k. laid at (take i word ++ (b ∷ [])) (window s t (listing (way_after d b) (drop k radices))) out) (add-one i)
        ∙ ap (λ ws. laid at (take i word ++ (b ∷ [])) (window s t ws) out) (sym (chosen_lister d others b))
        ∙ laid-after at b (take i word) (window s t (words b)) out
        ∙ ap (λ ws. laid at (take i word) ws out) (sym (window-map (λ w. b ∷ w) s t (words b)))
        ∙ ap (λ x. laid at (take i word) (window s t (block d others x)) out) notch
        ∙ ap (λ p. laid at p (window s t next) out) a.kept
        ∙ ap (λ o. laid at (take i word₀) (window s t next) o) a.holds
        ∙ ap (λ k. laid k (take i word₀) (window s t next) (laid start (take i word₀) (inside u) out₀)) reached
        ∙ sym (laid-append start (suc (length others)) (take i word₀) (inside u) (window s t next) out₀
        (each_window (suc (length others)) skip left (begun d radix others u) (each_begun d radix others u)) (omega arith)))
      where
        words : ℕ → List (List ℕ)
        words x = cond (even x) (listing d others) (listing (not d) others)

    -- the notches are at their end, or the window is
    pub along_left : (u < get_or radices i 0 → 0 < t → ⊥)
        → Listed d (drop i radices) i (take i word₀) word₀ word skip left start out₀ out
    along_left stops =
        let whole : listing d (drop i radices) ≡ begun d radix others radix =
        ap (listing d) (drop-cons radices i 0 more) ∙ listing-begun d radix others
        in
        record {
          wrote = a.holds ∙ ap (λ ws. laid start (take i word₀) ws out₀) (sym (ap (window skip left) whole ∙ rest_ended));
          kept = a.kept;
          long = a.long;
        }
      where
        rest_ended : inside radix ≡ inside u
        rest_ended =
            let passed = a.passed in
            let lefts = a.lefts in
            let whole : u + (radix - u) ≡ radix = omega arith in
            elim (dec_lt u radix) [
              | yes h ↦
                  let ended : left ≤ u * size others - skip =
                  elim (dec_lt 0 t) [ yes some ↦ absurd (stops h some) | no none ↦ omega arith ]
                  in
                  ap inside (sym whole) ∙ window_ended d radix others u skip left ended (radix - u)
              | no h ↦ let all : radix ≡ u = omega arith in ap inside all
            ]

    -- the room that the window has
    along_room : at + t * length radices ≤ length out
    along_room = omega (arith, a.place, a.same, r.room)

    -- the window that is left ends no later
    short : s + t ≤ 2 ^ 62
    short = omega (arith, a.skips, a.lefts, r.short)

    -- what the lister of the next notch may rely on
    pub along_reached : 0 < t → Reached radices sizes word i s t out at
    along_reached some = record {
      few = r.few;
      inside = r.inside;
      whole = r.whole;
      table = r.table;
      sized = r.sized;
      long = a.long;
      begun = omega (arith, a.skips, r.begun);
      some = some;
      short = short;
      room = along_room;
    }
