-- A file that is accepted: what it makes the two calls answer.
use Rattle.std.specs.Prelude.{ℕ, ◌≤◌, ◌≡◌, refl, Bool, true, false, cond, not, List, map, ltb, length}
use Rattle.std.proofs.Common.{ltb-false}
use Rattle.gray_theory.specs.Answers.{given, refused}
use Rattle.gray_theory.specs.Bools.{impossible}
use Rattle.tides_theory.specs.Lines.{lines_in, all_lines}
use Rattle.tides_theory.specs.Windows.{in_order, any_allows, moves_that_fit}
use Rattle.tides_theory.specs.Calls.{tides_in, windows_in, counts_call, may_begin_call, Accepted}

-- the counts of all windows, whatever the room
abbrev pub all_counts : List ℕ → List ℕ
all_counts file = map moves_that_fit (windows_in file)

-- what the call gives, if it gives anything
pub record Counted (file : List ℕ) (room : ℕ) (counts : List ℕ) : Type 0 where
  pub accepted : Accepted file
  pub counted : counts ≡ all_counts file
  pub fits : length counts ≤ room

pub counted_as_lem : (file : List ℕ) (room : ℕ) (counts : List ℕ) → counts_call file room ≡ given counts → Counted file room counts
unfolding counts_call
counted_as_lem file room counts e =
    by (all_lines (lines_in file)) (in_order (tides_in file)) (ltb room (length (all_counts file))) refl refl refl e
  where
    by : (r o f : Bool) → all_lines (lines_in file) ≡ r → in_order (tides_in file) ≡ o → ltb room (length (all_counts file)) ≡ f
        → cond (not r) (refused 12) (cond (not o) (refused 13) (cond f (refused 9) (given (all_counts file)))) ≡ given counts
        → Counted file room counts
    by true true false r o f g =
        let same : counts ≡ all_counts file = cc in
        record {
          accepted = record { read = r; ordered = o };
          counted = same;
          fits = rw same (ltb-false room (length (all_counts file)) f);
        }
    by true true true r o f g = impossible (cc)
    by true false f r o k g = impossible (cc)
    by false o f r p k g = impossible (cc)

-- of an accepted file a minute is allowed or not
pub begun_as : (file : List ℕ) (minute : ℕ) → Accepted file → may_begin_call file minute ≡ given (any_allows (windows_in file) minute)
unfolding may_begin_call
begun_as file minute a = rw (a.read, a.ordered) refl
