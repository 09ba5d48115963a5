-- The lines of a file one after another: what the proofs of the functions that go through it cite.
use Rattle.std.specs.Prelude.{Some, None, Ok, Err}
use Prim.Native.Nat.{ℕ, ◌+◌, ◌-◌, ◌%◌, ◌^◌, ◌≤◌, ◌<◌}
use native.Mathlib.Omega.{arith}
use native.Mathlib.Decide.{dec_lt}
use mathlib.Core.Path.{◌≡◌, refl, sym, ap, ap₂, subst, ◌∙◌}
use mathlib.Core.Bool.{Bool, true, false, cond, ◌&&◌, ◌||◌, not, beq, and-eq-true_iff, or-false}
use mathlib.Core.List.{List, [], ◌∷◌, map, flatten}
use borrow.Author.Tests.{le-leb, lt-leb, lt-ltb, le-ltb}
use lib.Dec.{leb, ltb}
use lib.ListN.{length, take, drop, length-append, length-drop, drop_of_length-le}
use lib.Seq.{drop-drop}
use Rattle.gray_theory.specs.Bools.{impossible}
use Rattle.tides_theory.specs.Lines.{lines_in, notice_in, is_line, all_lines}
use Rattle.tides_theory.specs.Windows.{Tide, tide_of, follows, in_order, Window, window_of, windows, allows, any_allows}
use Rattle.tides_theory.specs.Calls.{tides_in, windows_in}
use Rattle.tides_theory.proofs.Chunks.{line_length, line_in_front, lines_make_the_file, no_line_in_front}
use Rattle.tides_theory.proofs.Few.{minute_of_a_line}
use Rattle.gray.specs.declared.Refusal.TheVariants.{Line, Order}
use Rattle.tides.specs.Stages.{day_of, Right, tide_in, water, says, line_as, fresh_course, last_is, is_low, closes, course_then, passing}
use Rattle.tides.specs.declared.line.Day.{Day}
use Rattle.tides.specs.declared.line.Water.TheVariants.{High}
use Rattle.tides.specs.declared.line.Tide.{Tide as LineTide}
use Rattle.tides.specs.declared.course.Course.{Course}
use Rattle.tides.proofs.line.Readings.{day_right, answer}

-- ---- what stands before the rest of a file: nothing, or a tide
pub data Last : Type 0 where
  start : Last
  after : Tide → Last

abbrev pub behind : Last → List Tide → List Tide
behind start ts = ts
behind (after a) ts = a ∷ ts

-- whether a tide may follow, and whether it closes a window, and which
abbrev joins : Last → Tide → Bool
joins start b = true
joins (after a) b = follows a b

abbrev ends : Last → Tide → Bool
ends start b = false
ends (after a) b = a.high && not b.high

abbrev window_to : Last → Tide → Window
window_to start b = record { from = 0; to = 0 }
window_to (after a) b = window_of a b

order_more : (l : Last) (b : Tide) (ts : List Tide) → in_order (behind l (b ∷ ts)) ≡ (joins l b && in_order (b ∷ ts))
unfolding in_order
order_more start b ts = refl
order_more (after a) b ts = refl

windows_more : (l : Last) (b : Tide) (ts : List Tide)
    → windows (behind l (b ∷ ts)) ≡ cond (ends l b) (window_to l b ∷ windows (b ∷ ts)) (windows (b ∷ ts))
unfolding windows
windows_more start b ts = refl
windows_more (after a) b ts = refl

-- ---- what a course keeps of it
pub data Keeps (c : Course) : Last → Type 0 where
  none : c.next ≡ 0 → c.last ≡ None → Keeps c start
  tide : {a : Tide} → c.next ≡ a.at + 1 → c.last ≡ Some (water a.high) → Keeps c (after a)

same_water : (a b : Bool) → last_is (Some (water a)) (water b) ≡ beq a b
same_water true true = refl
same_water true false = refl
same_water false true = refl
same_water false false = refl

high_then_low : (a b : Bool) → (last_is (Some (water a)) High && is_low (water b)) ≡ (a && not b)
high_then_low true true = refl
high_then_low true false = refl
high_then_low false true = refl
high_then_low false false = refl

later : (x y : ℕ) → leb (x + 1) y ≡ ltb x y
later x y =
    elim (dec_lt x y) [
      | yes h ↦ le-leb (x + 1) y (omega arith) ∙ sym (lt-ltb x y h)
      | no h ↦ lt-leb (x + 1) y (omega arith) ∙ sym (le-ltb x y (omega arith))
    ]

keeps_joins : (c : Course) (l : Last) (b : Tide) → Keeps c l
    → (leb c.next b.at && not (last_is c.last (water b.high))) ≡ joins l b
keeps_joins c start b (none n l) =
    ap₂ (λ x y. leb x b.at && not (last_is y (water b.high))) n l
    ∙ ap (λ x. x && true) (le-leb 0 b.at (omega arith))
keeps_joins c (after a) b (tide n l) =
    ap₂ (λ x y. leb x b.at && not (last_is y (water b.high))) n l
    ∙ ap₂ (λ x y. x && not y) (later a.at b.at) (same_water a.high b.high)

keeps_ends : (c : Course) (l : Last) (b : Tide) → Keeps c l → closes c (water b.high) ≡ ends l b
keeps_ends c start b (none n l) = ap (λ x. last_is x High && is_low (water b.high)) l
keeps_ends c (after a) b (tide n l) =
    ap (λ x. last_is x High && is_low (water b.high)) l ∙ high_then_low a.high b.high

-- the window that a course has in hand, where it ends
keeps_window : (c : Course) (l : Last) (b : Tide) (s : ℕ) → Keeps c l → ends l b ≡ true
    → allows (record { from = c.next + 59; to = b.at }) s ≡ allows (window_to l b) s
keeps_window c start b s (none n l) e = let z : ◌≡◌ {A = ℕ} 0 1 = cc in absurd (omega arith)
keeps_window c (after a) b s (tide n l) e =
    let same : c.next + 59 ≡ a.at + 60 = omega arith in ap (λ x. allows (record { from = x; to = b.at }) s) same

-- ---- one tide more
-- as it is read from a line of a day
abbrev read_as : Tide → Day → LineTide
read_as b day = record { minute = b.at; water = water b.high; day = day }

and_regroups : (o l n r : Bool) → (o && (l && n && r)) ≡ (o && l && n && r)
and_regroups true l n r = refl
and_regroups false l n r = refl

any : (t : Bool) → (a w : Bool) (ws : List Window) (v : Window) (s : ℕ) → (t ≡ true → w ≡ allows v s)
    → (a || any_allows (cond t (v ∷ ws) ws) s) ≡ (cond t (a || w) a || any_allows ws s)
unfolding any_allows
any true true w ws v s e = refl
any true false w ws v s e = ap (λ x. x || any_allows ws s) (sym (e refl))
any false a w ws v s e = refl

count : (t : Bool) (n : ℕ) (ws : List Window) (v : Window)
    → n + length (cond t (v ∷ ws) ws) ≡ cond t (n + 1) n + length ws
count true n ws v = omega arith
count false n ws v = refl

module _ (c : Course) (l : Last) (k : Keeps c l) (b : Tide) (day : Day) (ts : List Tide) (minute : ℕ) where
  abbrev next : Course
  next = course_then c (read_as b day) minute

  order_then : (c.ordered && in_order (behind l (b ∷ ts))) ≡ (next.ordered && in_order (b ∷ ts))
  unfolding course_then
  order_then =
      ap (λ x. c.ordered && x) (order_more l b ts ∙ ap (λ x. x && in_order (b ∷ ts)) (sym (keeps_joins c l b k)))
      ∙ and_regroups c.ordered (leb c.next b.at) (not (last_is c.last (water b.high))) (in_order (b ∷ ts))

  count_then : c.windows + length (windows (behind l (b ∷ ts))) ≡ next.windows + length (windows (b ∷ ts))
  unfolding course_then
  count_then =
      ap (λ (ws : List Window). c.windows + length ws) (windows_more l b ts)
      ∙ count (ends l b) c.windows (windows (b ∷ ts)) (window_to l b)
      ∙ ap (λ x. cond x (c.windows + 1) c.windows + length (windows (b ∷ ts))) (sym (keeps_ends c l b k))

  any_then : (c.allowed || any_allows (windows (behind l (b ∷ ts))) minute) ≡ (next.allowed || any_allows (windows (b ∷ ts)) minute)
  unfolding course_then
  any_then =
      let w = allows (record { from = c.next + 59; to = b.at }) minute in
      ap (λ ws. c.allowed || any_allows ws minute) (windows_more l b ts)
      ∙ any (ends l b) c.allowed w (windows (b ∷ ts)) (window_to l b) minute (keeps_window c l b minute k)
      ∙ ap (λ x. cond x (c.allowed || w) c.allowed || any_allows (windows (b ∷ ts)) minute) (sym (keeps_ends c l b k))

kept : (c : Course) (b : Tide) (day : Day) (minute : ℕ) → Keeps (course_then c (read_as b day) minute) (after b)
unfolding course_then
kept c b day minute = tide refl refl

next_small : (c : Course) (t : LineTide) (minute : ℕ) → t.minute < 2 ^ 32 → (course_then c t minute).next ≤ 2 ^ 32
unfolding course_then
next_small c t minute h = omega arith

at_most : (t : Bool) (n : ℕ) → cond t (n + 1) n ≤ n + 1
at_most true n = omega arith
at_most false n = omega arith

windows_at_most : (c : Course) (t : LineTide) (minute : ℕ) → (course_then c t minute).windows ≤ c.windows + 1
unfolding course_then
windows_at_most c t minute = at_most (closes c t.water) c.windows

-- ---- a course behind the first `at` bytes of a file
pub record Through (file : List ℕ) (minute at : ℕ) (c : Course) : Type 0 where
  pub before : Last
  pub keeps : Keeps c before
  pub small : c.next ≤ 2 ^ 32
  pub few : c.windows ≤ at
  pub inside : at ≤ length file
  pub whole : (length file - at) % 19 ≡ 0
  pub reads : all_lines (lines_in file) ≡ all_lines (lines_in (drop at file))
  pub orders : in_order (tides_in file) ≡ (c.ordered && in_order (behind before (tides_in (drop at file))))
  pub counts : length (windows_in file) ≡ c.windows + length (windows (behind before (tides_in (drop at file))))
  pub allowing : any_allows (windows_in file) minute ≡ (c.allowed || any_allows (windows (behind before (tides_in (drop at file)))) minute)

pub begun : (file : List ℕ) (minute : ℕ) (c : Course) → c ≡ fresh_course → length file % 19 ≡ 0 → Through file minute 0 c
begun file minute c e whole =
    subst (λ (x : Course). Through file minute 0 x) (sym e)
    (record {
      before = start;
      keeps = none refl refl;
      small = omega arith;
      few = omega arith;
      inside = omega arith;
      whole = omega arith;
      reads = refl;
      orders = refl;
      counts = omega arith;
      allowing = refl;
    })

-- the lines of what is left, with the first of them taken off
pub record Front (file : List ℕ) (at : ℕ) : Type 0 where
  pub lines : all_lines (lines_in (drop at file)) ≡ all_lines (lines_in (drop (at + 19) file))
  pub tides : tides_in (drop at file) ≡ tide_in (take 19 (drop at file)) ∷ tides_in (drop (at + 19) file)

pub front : (file : List ℕ) (at : ℕ) → is_line (take 19 (drop at file)) ≡ true → Front file at
unfolding all_lines
front file at e =
    let f = line_in_front (drop at file) e in
    let rest : drop 19 (drop at file) ≡ drop (at + 19) file = drop-drop 19 at file in
    let split : lines_in (drop at file) ≡ take 19 (drop at file) ∷ lines_in (drop (at + 19) file) =
    f ∙ ap (λ l. take 19 (drop at file) ∷ lines_in l) rest in
    record {
      lines = ap all_lines split ∙ ap (λ t. t && all_lines (lines_in (drop (at + 19) file))) e;
      tides = ap (λ ls. map tide_of (map notice_in ls)) split;
    }

-- what a line was read as
pub record Said (line : List ℕ) (t : LineTide) : Type 0 where
  pub is : is_line line ≡ true
  pub tide_is : t ≡ says line
  pub right : Right t.day
  pub bound : t.minute < 52596000

pub said : (line : List ℕ) (t : LineTide) → line_as line ≡ Some t → Said line t
unfolding line_as
said line t e = by (is_line line) refl e
  where
    by : (b : Bool) → is_line line ≡ b → answer line b ≡ Some t → Said line t
    by true is f =
        let same : says line ≡ t = cc in
        let days : day_of line ≡ t.day = ap (λ s. s.day) same in
        let minutes : (tide_in line).at ≡ t.minute = ap (λ s. s.minute) same in
        let century = minute_of_a_line line is in
        record { is = is; tide_is = sym same; right = subst Right days (day_right line is); bound = omega arith }
    by false is f = impossible (cc)

pub unsaid : (line : List ℕ) → line_as line ≡ None → is_line line ≡ false
unfolding line_as
unsaid line e = by (is_line line) e
  where
    by : (t : Bool) → answer line t ≡ None → t ≡ false
    by true f = impossible (cc)
    by false f = refl

pub again : (file : List ℕ) (minute at after_it : ℕ) (c d : Course) (line : List ℕ) (said_tide : LineTide)
    → Through file minute at c
    → line ≡ take 19 (drop at file)
    → at < length file
    → after_it ≡ at + 19
    → Said line said_tide
    → d ≡ course_then c said_tide minute
    → Through file minute after_it d
again file minute at after_it c d line said_tide t here more place read f =
    let b = tide_in line in
    let ts = tides_in (drop (at + 19) file) in
    let day = day_of line in
    let n = course_then c (read_as b day) minute in
    let same : d ≡ n = f ∙ ap (λ x. course_then c x minute) read.tide_is in
    let is : is_line (take 19 (drop at file)) ≡ true = ap is_line (sym here) ∙ read.is in
    let tides : tides_in (drop at file) ≡ b ∷ ts = (front file at is).tides ∙ ap (λ l. tide_in l ∷ ts) (sym here) in
    let few = t.few in
    let inside = t.inside in
    let whole = t.whole in
    let fewer = windows_at_most c (read_as b day) minute in
    let century = minute_of_a_line line read.is in
    rw (place, same)
    (record {
      before = after b;
      keeps = kept c b day minute;
      small = next_small c (read_as b day) minute (omega arith);
      few = omega arith;
      inside = omega arith;
      whole = omega arith;
      reads = t.reads ∙ (front file at is).lines;
      orders = t.orders ∙ ap (λ x. c.ordered && in_order (behind t.before x)) tides ∙ order_then c t.before t.keeps b day ts minute;
      counts =
          t.counts ∙ ap (λ x. c.windows + length (windows (behind t.before x))) tides ∙ count_then c t.before t.keeps b day ts minute;
      allowing =
          t.allowing
          ∙ ap (λ x. c.allowed || any_allows (windows (behind t.before x)) minute) tides
          ∙ any_then c t.before t.keeps b day ts minute;
    })

-- ---- what the whole file comes to
pub unread : (file : List ℕ) (minute : ℕ) → all_lines (lines_in file) ≡ false → Err Line ≡ passing file minute
unfolding passing
unread file minute e = rw e refl

-- bytes that are no line, where one should begin
pub unread_at : (file : List ℕ) (minute at : ℕ) (c : Course) → Through file minute at c → at < length file
    → is_line (take 19 (drop at file)) ≡ false
    → Err Line ≡ passing file minute
unread_at file minute at c t here e =
    unread file minute
    (t.reads ∙ no_line_in_front (drop at file) (omega (arith, length-drop at file)) e)

-- lines have 19 bytes each
lines_long : (lines : List (List ℕ)) → all_lines lines ≡ true → length (flatten lines) % 19 ≡ 0
unfolding all_lines flatten
lines_long [] e = refl
lines_long (line ∷ others) e =
    let (is, all) = (and-eq-true_iff (is_line line) (all_lines others)).0 e in
    let rest = lines_long others all in
    let long = line_length line is in
    omega (arith, length-append line (flatten others))

pub no_lines : (file : List ℕ) (minute : ℕ) → (length file % 19 ≡ 0 → ⊥) → Err Line ≡ passing file minute
no_lines file minute odd = by (all_lines (lines_in file)) refl
  where
    by : (t : Bool) → all_lines (lines_in file) ≡ t → Err Line ≡ passing file minute
    by true e =
        let long = lines_long (lines_in file) e in
        let all = ap length (lines_make_the_file file) in
        absurd (odd (omega arith))
    by false e = unread file minute e

-- all lines have been read
module _ (file : List ℕ) (minute at : ℕ) (c : Course) (t : Through file minute at c) (end : length file ≤ at) where
  all_read : all_lines (lines_in file) ≡ true
  unfolding all_lines lines_in
  all_read = t.reads ∙ ap (λ l. all_lines (lines_in l)) (drop_of_length-le file end)

  no_more : tides_in (drop at file) ≡ []
  unfolding lines_in
  no_more = ap tides_in (drop_of_length-le file end)

  one_or-none : (l : Last) → (in_order (behind l []) ≡ true) × (windows (behind l []) ≡ [])
  unfolding in_order windows
  one_or-none start = (refl, refl)
  one_or-none (after a) = (refl, refl)

  pub disorder : c.ordered ≡ false → Err Order ≡ passing file minute
  unfolding passing
  disorder e =
      let order : in_order (tides_in file) ≡ false = t.orders ∙ ap (λ x. x && in_order (behind t.before (tides_in (drop at file)))) e in
      rw (all_read, order) refl

  pub passed : c.ordered ≡ true → Ok (record { windows = c.windows; allowed = c.allowed }) ≡ passing file minute
  unfolding passing any_allows
  passed e =
      let (ordered, no_window_lem) = one_or-none t.before in
      let order : in_order (tides_in file) ≡ true =
      t.orders ∙ ap₂ (λ x ts. x && in_order (behind t.before ts)) e no_more ∙ ordered in
      let counted : length (windows_in file) ≡ c.windows + 0 =
      t.counts ∙ ap (λ ts. c.windows + length (windows (behind t.before ts))) no_more ∙ ap (λ ws. c.windows + length ws) no_window_lem in
      let any : any_allows (windows_in file) minute ≡ c.allowed =
      t.allowing
      ∙ ap (λ ts. c.allowed || any_allows (windows (behind t.before ts)) minute) no_more
      ∙ ap (λ ws. c.allowed || any_allows ws minute) no_window_lem
      ∙ or-false c.allowed in
      let same : length (windows_in file) ≡ c.windows = omega arith in
      rw (all_read, order) (ap₂ (λ n b. Ok (record { windows = n; allowed = b })) (sym same) (sym any))
