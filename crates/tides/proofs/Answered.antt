-- What a file that has been gone through makes the two calls answer.
use Rattle.std.specs.Prelude.{Result, Ok, Err}
use Prim.Native.Nat.{ℕ, ◌≤◌, ◌<◌}
use native.Mathlib.Omega.{arith}
use mathlib.Core.Path.{◌≡◌, refl, ap}
use mathlib.Core.Bool.{Bool, true, false, cond, not}
use mathlib.Core.List.{List, map}
use borrow.Author.Tests.{lt-ltb, le-ltb}
use lib.Dec.{ltb}
use lib.ListN.{length, length-map}
use Rattle.gray_theory.specs.Answers.{given, refused}
use Rattle.gray_theory.specs.Bools.{impossible}
use Rattle.tides_theory.specs.Lines.{lines_in, all_lines}
use Rattle.tides_theory.specs.Windows.{in_order, any_allows, moves_that_fit}
use Rattle.tides_theory.specs.Calls.{tides_in, windows_in, counts_call, may_begin_call, Accepted}
use Rattle.gray.specs.Enums.{refusal_number}
use Rattle.gray.specs.declared.Refusal.{Refusal}
use Rattle.gray.specs.declared.Refusal.TheVariants.{Line, Order}
use Rattle.tides.specs.Stages.{passing}
use Rattle.tides.specs.declared.calls.Passed.{Passed}

-- ---- refused
pub record RefusedBy (file : List ℕ) (k : ℕ) : Type 0 where
  pub counts : (room : ℕ) → counts_call file room ≡ refused k
  pub begins : (minute : ℕ) → may_begin_call file minute ≡ refused k

unread_file : (file : List ℕ) → all_lines (lines_in file) ≡ false → RefusedBy file 12
unfolding counts_call may_begin_call
unread_file file a = record { counts = λ room. rw a refl; begins = λ minute. rw a refl }

disordered_file : (file : List ℕ) → all_lines (lines_in file) ≡ true → in_order (tides_in file) ≡ false → RefusedBy file 13
unfolding counts_call may_begin_call
disordered_file file a b = record { counts = λ room. rw (a, b) refl; begins = λ minute. rw (a, b) refl }

-- the answer of a pass, by its two tests
abbrev pass_answer : List ℕ → ℕ → Bool → Bool → Result Passed Refusal
pass_answer file minute r o =
    cond (not r) (Err Line) (cond (not o) (Err Order) (Ok (record { windows = length (windows_in file); allowed = any_allows (windows_in file) minute })))

passed_as : (file : List ℕ) (minute : ℕ) (r o : Bool) → all_lines (lines_in file) ≡ r → in_order (tides_in file) ≡ o
    → passing file minute ≡ pass_answer file minute r o
unfolding passing
passed_as file minute r o a b = rw (a, b) refl

pub refused_by : (file : List ℕ) (minute : ℕ) (p : Result Passed Refusal) (k : Refusal) → p ≡ passing file minute → p ≡ Err k
    → RefusedBy file (refusal_number k)
refused_by file minute p k e f = by (all_lines (lines_in file)) (in_order (tides_in file)) refl refl
  where
    by : (r o : Bool) → all_lines (lines_in file) ≡ r → in_order (tides_in file) ≡ o → RefusedBy file (refusal_number k)
    by false o a b =
        let z = passed_as file minute false o a b in
        let same : k ≡ Line = cc in
        rw same (unread_file file a)
    by true false a b =
        let z = passed_as file minute true false a b in
        let same : k ≡ Order = cc in
        rw same (disordered_file file a b)
    by true true a b = let z = passed_as file minute true true a b in impossible (cc)

-- ---- accepted
pub record Passes (file : List ℕ) (minute : ℕ) (p : Passed) : Type 0 where
  pub accepted : Accepted file
  pub counted : p.windows ≡ length (windows_in file)
  pub allows : p.allowed ≡ any_allows (windows_in file) minute

pub passes : (file : List ℕ) (minute : ℕ) (p : Result Passed Refusal) (all : Passed) → p ≡ passing file minute → p ≡ Ok all
    → Passes file minute all
passes file minute p all e f = by (all_lines (lines_in file)) (in_order (tides_in file)) refl refl
  where
    by : (r o : Bool) → all_lines (lines_in file) ≡ r → in_order (tides_in file) ≡ o → Passes file minute all
    by false o a b = let z = passed_as file minute false o a b in impossible (cc)
    by true false a b = let z = passed_as file minute true false a b in impossible (cc)
    by true true a b =
        let z = passed_as file minute true true a b in
        let same : all ≡ record { windows = length (windows_in file); allowed = any_allows (windows_in file) minute } = cc in
        record { accepted = record { read = a; ordered = b }; counted = ap (λ p. p.windows) same; allows = ap (λ p. p.allowed) same }

module _ (file : List ℕ) (a : Accepted file) (room : ℕ) where
  -- too few places
  pub no_room : room < length (windows_in file) → counts_call file room ≡ refused 9
  unfolding counts_call
  no_room h =
      let short : ltb room (length (map moves_that_fit (windows_in file))) ≡ true =
      lt-ltb room (length (map moves_that_fit (windows_in file))) (omega (arith, length-map (windows_in file) moves_that_fit)) in
      rw (a.read, a.ordered, short) refl

  pub all_counts_lem : length (windows_in file) ≤ room → counts_call file room ≡ given (map moves_that_fit (windows_in file))
  unfolding counts_call
  all_counts_lem h =
      let fits : ltb room (length (map moves_that_fit (windows_in file))) ≡ false =
      le-ltb room (length (map moves_that_fit (windows_in file))) (omega (arith, length-map (windows_in file) moves_that_fit)) in
      rw (a.read, a.ordered, fits) refl
