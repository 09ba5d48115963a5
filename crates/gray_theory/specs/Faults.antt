-- What is wrong with radices, if anything, and an answer after that.
use Rattle.std.specs.Prelude.{◌≡◌, true, false, List, ℕ}
use Rattle.gray_theory.specs.Answers.{Answer, refused}
use Rattle.gray_theory.specs.Radices.{wrong_count, wrong_radix, too_many}

-- what is wrong with radices, if anything: a fault of document 01, and that no lower one applies
pub data Fault (ms : List ℕ) : Type 0 where
  count : wrong_count ms ≡ true → Fault ms
  radix : wrong_count ms ≡ false → wrong_radix ms ≡ true → Fault ms
  many : wrong_count ms ≡ false → wrong_radix ms ≡ false → too_many ms ≡ true → Fault ms
  none : wrong_count ms ≡ false → wrong_radix ms ≡ false → too_many ms ≡ false → Fault ms

abbrev pub decided : {A : Type 0} {ms : List ℕ} → Fault ms → Answer A → Answer A
decided (count e) rest = refused 2
decided (radix e f) rest = refused 3
decided (many e f g) rest = refused 4
decided (none e f g) rest = rest
