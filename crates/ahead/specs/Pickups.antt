-- What the private functions of picking up ask for and answer.
use Rattle.std.specs.Prelude.{ℕ, ◌≤◌, ◌<◌, ◌≡◌, Bool, true, false, List, length, take, replicate}
use Rattle.gray_theory.specs.Radices.{mixed_digits, size}
use Rattle.gray_theory.specs.Words.{is_word, rank}
use Rattle.gray_theory.specs.Arrays.{filled}
use Rattle.gray_theory.specs.Locks.{MovingDigits, unlocked, moving_in_range}
use Rattle.gray_theory.specs.Indexed.{downs_at}
use Rattle.gray_theory.specs.Capacities.{Openable}
use Rattle.ahead_theory.specs.States.{Walk, survey, moving_radices}
use Rattle.ahead_theory.specs.Pickups.{unfilled, filled_at}
use Rattle.ahead_theory.specs.GoingOn.{rebuffered}
use Rattle.ahead_theory.specs.Filling.{reach}

-- a word of a survey, and its rank
pub record RankedWord (radices word : List ℕ) (r : ℕ) : Type 0 where
  pub proper : is_word radices word ≡ true
  pub ranks : r ≡ rank radices word

-- the same of no more digits than an engine has, and arrays with nothing in them yet
pub record Standable (radices word : List ℕ) (r : ℕ) (counter : List ℕ) (downs : List Bool) : Type 0 where
  pub most : length radices ≤ 48
  pub there : RankedWord radices word r
  pub no_counts : counter ≡ replicate 49 0
  pub all_up : downs ≡ replicate 48 false

-- the counter and the directions at a rank
pub record Stood (radices : List ℕ) (r : ℕ) (counter : List ℕ) (downs : List Bool) : Type 0 where
  pub counts : counter ≡ filled 49 0 (mixed_digits (unlocked radices) r)
  pub directions : downs ≡ filled 48 false (downs_at radices r)

-- the state at a word of this rank, before any filling
abbrev pub unfilled_with : List ℕ → ℕ → MovingDigits → ℕ → List ℕ → ℕ → Walk
unfilled_with radices n moving c word r = record {
  directed =
      record {
        radices = radices;
        n = n;
        moving = moving;
        word = word;
        downs = filled 48 false (downs_at (take n radices) r);
      };
  producer =
      record {
        counter = filled 49 0 (mixed_digits (unlocked (take n radices)) r);
        place = 1;
        queue = replicate 32 0;
        queued = 0;
        steps = 0;
      };
  capacity = c;
  moves = r;
  ended = false;
}

-- a walk at the rank that it has made moves to, before any filling, and how many entries fill its buffer
pub record Unfilled (w : Walk) (entries : ℕ) : Type 0 where
  pub most : w.directed.n ≤ 48
  pub opens : Openable (survey w) w.capacity
  pub moving : moving_in_range (survey w) w.directed.moving ≡ true
  pub below : w.moves < size (moving_radices w)
  pub empty : w.producer ≡ unfilled (moving_radices w) w.moves
  pub full : entries ≡ reach (moving_radices w) w.capacity w.moves

-- its buffer filled ahead
abbrev pub filled_ahead : Walk → Walk
filled_ahead w = rebuffered w w.capacity (filled_at (moving_radices w) w.capacity w.moves)
