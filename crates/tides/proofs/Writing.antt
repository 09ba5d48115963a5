-- The lines of an accepted file in pairs, and the counts written one after another: what the proof of `put_counts` cites.
use Prim.Native.Nat.{ℕ, suc, ◌+◌, ◌-◌, ◌*◌, ◌/◌, ◌≤◌, ◌<◌}
use Rattle.std.specs.Simd.{first_chunks}
use native.Mathlib.Numerals.{add-one}
use native.Mathlib.Omega.{arith}
use mathlib.Core.Path.{◌≡◌, refl, sym, ap, ap₂, subst, ◌∙◌}
use mathlib.Core.Bool.{Bool, true, false, cond, ◌&&◌, not, beq, and-eq-true_iff}
use mathlib.Core.List.{List, [], ◌∷◌, ◌++◌, map}
use lib.Dec.{ltb, eqb}
use lib.ListN.{length, get_or, take, drop, set, length-map, length-take, length-drop, get_or-map}
use lib.Seq.{drop-cons, drop-drop, take_all, set_at, take-suc, length-take-le, append_snoc}
use Rattle.gray_theory.specs.Bools.{impossible}
use Rattle.tides_theory.specs.Lines.{low_letter, lines_in, notice_in, is_line, all_lines}
use Rattle.tides_theory.specs.Windows.{Tide, tide_of, follows, in_order, Window, window_of, windows, no_window, moves_that_fit}
use Rattle.tides_theory.specs.Calls.{tides_in, windows_in, Accepted}
use Rattle.tides_theory.proofs.Few.{minute_of_a_line}
use Rattle.tides_theory.proofs.Chunks.{line_length, line_in_front, no_line_in_front}
use Rattle.tides.specs.Stages.{tide_in, letter_of, first_high}
use Rattle.tides.proofs.line.Readings.{line_letter}

-- ---- the first line of what is left
pub record First (l : List ℕ) : Type 0 where
  pub is : is_line (take 19 l) ≡ true
  pub long : 19 ≤ length l
  pub tides : tides_in l ≡ tide_in (take 19 l) ∷ tides_in (drop 19 l)
  pub others : all_lines (lines_in (drop 19 l)) ≡ true

pub data Lines (l : List ℕ) : Type 0 where
  none : l ≡ [] → Lines l
  one : First l → Lines l

first_is : (l : List ℕ) → all_lines (lines_in l) ≡ true → is_line (take 19 l) ≡ true → First l
unfolding all_lines
first_is l read is =
    let split = line_in_front l is in
    let all : all_lines (take 19 l ∷ lines_in (drop 19 l)) ≡ true = ap all_lines (sym split) ∙ read in
    record {
      is = is;
      long = longer l (line_length (take 19 l) is);
      tides = ap (λ ls. map tide_of (map notice_in ls)) split;
      others = ((and-eq-true_iff (is_line (take 19 l)) (all_lines (lines_in (drop 19 l)))).0 all).1;
    }
  where
    longer : (l : List ℕ) → length (take 19 l) ≡ 19 → 19 ≤ length l
    longer l e = omega (arith, length-take 19 l)

pub lines : (l : List ℕ) → all_lines (lines_in l) ≡ true → Lines l
lines [] read = none refl
lines (b ∷ l) read = by (is_line (take 19 (b ∷ l))) refl
  where
    by : (t : Bool) → is_line (take 19 (b ∷ l)) ≡ t → Lines (b ∷ l)
    by true e = one (first_is (b ∷ l) read e)
    by false e = let z = no_line_in_front (b ∷ l) (omega arith) e in impossible (cc)

-- ---- what is left: lines in order, of which the first is a high water, if there is one
abbrev begins_high : List Tide → Bool
begins_high [] = true
begins_high (a ∷ ts) = a.high

pub record Ready (l : List ℕ) : Type 0 where
  pub read : all_lines (lines_in l) ≡ true
  pub ordered : in_order (tides_in l) ≡ true
  pub begins : begins_high (tides_in l) ≡ true

-- two tides in order, of which the first is high
pub record Two (a b : Tide) (ts : List Tide) : Type 0 where
  pub split : windows (a ∷ b ∷ ts) ≡ window_of a b ∷ windows ts
  pub ordered : in_order ts ≡ true
  pub begins : begins_high ts ≡ true

tail_ordered : (a : Tide) (ts : List Tide) → in_order (a ∷ ts) ≡ true → in_order ts ≡ true
unfolding in_order
tail_ordered a [] e = refl
tail_ordered a (b ∷ ts) e = ((and-eq-true_iff (follows a b) (in_order (b ∷ ts))).0 e).1

other_letter : (a b : Bool) → not (beq a b) ≡ true → b ≡ not a
other_letter true true e = impossible (cc)
other_letter true false e = refl
other_letter false true e = refl
other_letter false false e = impossible (cc)

changes : (a b : Tide) (ts : List Tide) → in_order (a ∷ b ∷ ts) ≡ true → b.high ≡ not a.high
unfolding in_order
changes a b ts e =
    let f = ((and-eq-true_iff (follows a b) (in_order (b ∷ ts))).0 e).0 in
    other_letter a.high b.high ((and-eq-true_iff (ltb a.at b.at) (not (beq a.high b.high))).0 f).1

-- behind a low water there is no window before the next high water
low_opens_none : (b : Tide) (ts : List Tide) → b.high ≡ false → windows (b ∷ ts) ≡ windows ts
unfolding windows
low_opens_none b [] e = refl
low_opens_none b (c ∷ ts) e =
    ap (λ t. cond (t && not c.high) (window_of b c ∷ windows (c ∷ ts)) (windows (c ∷ ts))) e

high-behind_low : (b : Tide) (ts : List Tide) → b.high ≡ false → in_order (b ∷ ts) ≡ true → begins_high ts ≡ true
high-behind_low b [] e o = refl
high-behind_low b (c ∷ ts) e o = changes b c ts o ∙ ap not e

two : (a b : Tide) (ts : List Tide) → in_order (a ∷ b ∷ ts) ≡ true → a.high ≡ true → Two a b ts
unfolding windows
two a b ts o high =
    let low : b.high ≡ false = changes a b ts o ∙ ap not high in
    let rest = tail_ordered a (b ∷ ts) o in
    record {
      split =
          ap₂ (λ x y. cond (x && not y) (window_of a b ∷ windows (b ∷ ts)) (windows (b ∷ ts))) high low
          ∙ ap (λ ws. window_of a b ∷ ws) (low_opens_none b ts low);
      ordered = tail_ordered b ts rest;
      begins = high-behind_low b ts low rest;
    }

-- a window is left: two lines that make it, and what is behind them
pub record Pair (l : List ℕ) : Type 0 where
  pub high : is_line (take 19 l) ≡ true
  pub low : is_line (take 19 (drop 19 l)) ≡ true
  pub split : windows (tides_in l) ≡ window_of (tide_in (take 19 l)) (tide_in (take 19 (drop 19 l))) ∷ windows (tides_in (drop 38 l))
  pub others : Ready (drop 38 l)

no_window_lem : (l : List ℕ) → l ≡ [] → length (windows (tides_in l)) ≡ 0
unfolding windows lines_in
no_window_lem l e = ap (λ x. length (windows (tides_in x))) e

one_tide : (a : Tide) (l : List ℕ) → l ≡ [] → length (windows (a ∷ tides_in l)) ≡ 0
unfolding windows lines_in
one_tide a l e = ap (λ x. length (windows (a ∷ tides_in x))) e

pub pair : (l : List ℕ) → Ready l → 38 ≤ length l → Pair l
pair l r some = by_first (lines l r.read)
  where
    make : First l → First (drop 19 l) → Pair l
    make f g =
        let a = tide_in (take 19 l) in
        let b = tide_in (take 19 (drop 19 l)) in
        let rest : drop 19 (drop 19 l) ≡ drop 38 l = drop-drop 19 19 l in
        let all : tides_in l ≡ a ∷ b ∷ tides_in (drop 38 l) =
        f.tides ∙ ap (λ ts. a ∷ ts) (g.tides ∙ ap (λ x. b ∷ tides_in x) rest) in
        let t = two a b (tides_in (drop 38 l)) (ap in_order (sym all) ∙ r.ordered) (ap begins_high (sym all) ∙ r.begins) in
        record {
          high = f.is;
          low = g.is;
          split = ap windows all ∙ t.split;
          others = record {
            read = ap (λ x. all_lines (lines_in x)) (sym rest) ∙ g.others;
            ordered = t.ordered;
            begins = t.begins;
          };
        }

    by_second : First l → Lines (drop 19 l) → Pair l
    by_second f (one g) = make f g
    by_second f (none e) = let z = ap length e in absurd (omega (arith, length-drop 19 l))

    by_first : Lines l → Pair l
    by_first (one f) = by_second f (lines (drop 19 l) f.others)
    by_first (none e) = let z = ap length e in absurd (omega arith)

-- and none is left where fewer than two lines are
pub no_pair : (l : List ℕ) → Ready l → length l < 38 → length (windows (tides_in l)) ≡ 0
no_pair l r few = by_first (lines l r.read)
  where
    by_second : First l → Lines (drop 19 l) → length (windows (tides_in l)) ≡ 0
    by_second f (one g) = let long = g.long in absurd (omega (arith, length-drop 19 l))
    by_second f (none e) = ap (λ ts. length (windows ts)) f.tides ∙ one_tide (tide_in (take 19 l)) (drop 19 l) e

    by_first : Lines l → length (windows (tides_in l)) ≡ 0
    by_first (one f) = by_second f (lines (drop 19 l) f.others)
    by_first (none e) = no_window_lem l e

-- ---- the counts of the first i windows are written, and `at` is where the next window's high water stands
pub record Put (file before out : List ℕ) (at i : ℕ) : Type 0 where
  pub ready : Ready (drop at file)
  pub inside : at ≤ length file
  pub few : i ≤ length (windows_in file)
  pub left : windows (tides_in (drop at file)) ≡ drop i (windows_in file)
  pub written : out ≡ take i (map moves_that_fit (windows_in file)) ++ drop i before

none_begins : begins_high (tides_in []) ≡ true
unfolding lines_in
none_begins = refl

-- one count more
stored : (cs before : List ℕ) (i count : ℕ) → i < length cs → i < length before → count ≡ get_or cs i 0
    → set (take i cs ++ drop i before) i count ≡ take (suc i) cs ++ drop (suc i) before
stored cs before i count h room e =
    ap (λ r. set (take i cs ++ r) i count) (drop-cons before i 0 room)
    ∙ set_at (take i cs) (get_or before i 0) (drop (suc i) before) count i (length-take-le i cs (omega arith))
    ∙ ap (λ v. take i cs ++ v ∷ drop (suc i) before) e
    ∙ sym (append_snoc (take i cs) (get_or cs i 0) (drop (suc i) before))
    ∙ ap (λ t. t ++ drop (suc i) before) (sym (take-suc cs i 0 h))

-- the lines of a file, and the place of the first that can open a window
abbrev pub cut : List ℕ → List (List ℕ)
cut file = first_chunks 19 (length file / 19) file

abbrev pub start : List ℕ → ℕ
start file = 19 * first_high (cut file)

pub starts_at : (file : List ℕ) (f : ℕ) (lines : List (List ℕ)) → f ≡ first_high lines → lines ≡ cut file → 19 * f ≡ start file
starts_at file f lines e same = ap (λ n. 19 * n) (e ∙ ap first_high same)

-- where the first window may begin
starts : (file before : List ℕ) → Accepted file → First file → (high : Bool) → (tide_in (take 19 file)).high ≡ high
    → Put file before before (19 * cond (eqb (letter_of high) low_letter) 1 0) 0
starts file before a f true h = record {
  ready = record { read = a.read; ordered = a.ordered; begins = ap begins_high f.tides ∙ h };
  inside = omega arith;
  few = omega arith;
  left = refl;
  written = refl;
}
starts file before a f false h =
    let ordered : in_order (tide_in (take 19 file) ∷ tides_in (drop 19 file)) ≡ true = ap in_order (sym f.tides) ∙ a.ordered in
    record {
      ready = record {
        read = f.others;
        ordered = tail_ordered (tide_in (take 19 file)) (tides_in (drop 19 file)) ordered;
        begins = high-behind_low (tide_in (take 19 file)) (tides_in (drop 19 file)) h ordered;
      };
      inside = f.long;
      few = omega arith;
      left = sym (ap windows f.tides ∙ low_opens_none (tide_in (take 19 file)) (tides_in (drop 19 file)) h);
      written = refl;
    }

pub put-none : (file before : List ℕ) → Accepted file → Put file before before (start file) 0
unfolding first_high
put-none file before a = by (lines file a.read)
  where
    empty : (file before : List ℕ) → file ≡ [] → Accepted file → Put file before before 0 0
    empty file before z a = record {
      ready = record { read = a.read; ordered = a.ordered; begins = ap (λ x. begins_high (tides_in x)) z ∙ none_begins };
      inside = omega arith;
      few = omega arith;
      left = refl;
      written = refl;
    }

    by : Lines file → Put file before before (start file) 0
    by (none z) =
        let here : start file ≡ 0 = ap start z in
        rw here (empty file before z a)
    by (one f) =
        let long = f.long in
        let line = take 19 file in
        let n = length file / 19 - 1 in
        let some : length file / 19 ≡ suc n = omega arith in
        let letter : get_or line 17 0 ≡ letter_of (notice_in line).high = sym (line_letter line f.is) in
        let here : start file ≡ 19 * cond (eqb (letter_of (notice_in line).high) low_letter) 1 0 =
        ap (λ k. 19 * first_high (first_chunks 19 k file)) some
        ∙ ap (λ x. 19 * cond (eqb x low_letter) 1 0) letter in
        rw here (starts file before a f (notice_in line).high refl)

-- a window is left: its two lines
pub record Here (file : List ℕ) (at : ℕ) : Type 0 where
  pub high_line : is_line (take 19 (drop at file)) ≡ true
  pub low_line : is_line (take 19 (drop (at + 19) file)) ≡ true
  pub high_bound : (tide_in (take 19 (drop at file))).at < 52596000
  pub low_bound : (tide_in (take 19 (drop (at + 19) file))).at < 52596000

module _ (file before out : List ℕ) (at i : ℕ) (p : Put file before out at i) (more : at + 38 ≤ length file) where
  both : Pair (drop at file)
  both = pair (drop at file) p.ready (omega (arith, length-drop at file))

  second : drop 19 (drop at file) ≡ drop (at + 19) file
  second = drop-drop 19 at file

  pub here : Here file at
  here =
      let low : is_line (take 19 (drop (at + 19) file)) ≡ true = ap (λ l. is_line (take 19 l)) (sym second) ∙ both.low in
      record {
        high_line = both.high;
        low_line = low;
        high_bound = minute_of_a_line (take 19 (drop at file)) both.high;
        low_bound = minute_of_a_line (take 19 (drop (at + 19) file)) low;
      }

  -- the count of the next window
  abbrev next : Window
  next = window_of (tide_in (take 19 (drop at file))) (tide_in (take 19 (drop (at + 19) file)))

  windows-left : next ∷ windows (tides_in (drop (at + 38) file)) ≡ drop i (windows_in file)
  windows-left =
      ap₂ (λ x y. window_of (tide_in (take 19 (drop at file))) (tide_in (take 19 x)) ∷ windows (tides_in y)) (sym second) (sym (drop-drop 38 at file))
      ∙ sym both.split
      ∙ p.left

  pub more_windows : i < length (windows_in file)
  more_windows = let z = ap length windows-left in omega (arith, length-drop i (windows_in file))

  pub put_more : (then count : ℕ) → then ≡ at + 38 → i < length before → count ≡ moves_that_fit next
      → Put file before (set out i count) then (i + 1)
  put_more then count place room e =
      let ws = windows_in file in
      let cs : List ℕ = map moves_that_fit ws in
      let long : length cs ≡ length ws = length-map ws moves_that_fit in
      let split : next ∷ windows (tides_in (drop (at + 38) file)) ≡ get_or ws i no_window ∷ drop (suc i) ws =
      windows-left ∙ drop-cons ws i no_window more_windows in
      let this : next ≡ get_or ws i no_window = cc in
      let rest : windows (tides_in (drop (at + 38) file)) ≡ drop (suc i) ws = cc in
      let value : count ≡ get_or cs i 0 = e ∙ ap moves_that_fit this ∙ sym (get_or-map moves_that_fit ws i no_window) in
      let some = more_windows in
      rw place
      (record {
        ready = subst (λ (l : List ℕ). Ready l) (drop-drop 38 at file) both.others;
        inside = omega arith;
        few = omega arith;
        left = rw (add-one i) rest;
        written = rw (add-one i) (ap (λ o. set o i count) p.written ∙ stored cs before i count (omega arith) room value);
      })

-- all are written
pub put_all : (file before out : List ℕ) (at i : ℕ) → Put file before out at i → length file < at + 38
    → out ≡ map moves_that_fit (windows_in file) ++ drop (length (windows_in file)) before
put_all file before out at i p end =
    let ws = windows_in file in
    let cs : List ℕ = map moves_that_fit ws in
    let inside = p.inside in
    let none = no_pair (drop at file) p.ready (omega (arith, length-drop at file)) in
    let left = ap length p.left in
    let few = p.few in
    let all : i ≡ length ws = omega (arith, length-drop i ws) in
    p.written
    ∙ ap (λ k. take k cs ++ drop k before) all
    ∙ ap (λ l. l ++ drop (length ws) before) (take_all (length ws) cs (omega (arith, length-map ws moves_that_fit)))
