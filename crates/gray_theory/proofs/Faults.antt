-- Radices get the number of the lowest fault that applies to them, and what has no fault is not refused.
use Rattle.std.specs.Prelude.{◌≡◌, refl, Bool, true, false, List, ℕ}
use Rattle.gray_theory.specs.Answers.{Answer}
use Rattle.gray_theory.specs.Radices.{wrong_count, wrong_radix, too_many, of_radices}
use Rattle.gray_theory.specs.Faults.{Fault, Fault.count, Fault.radix, Fault.many, Fault.none, decided}

pub fault : (ms : List ℕ) → Fault ms
fault ms = go (wrong_count ms) (wrong_radix ms) (too_many ms) refl refl refl
  where
    go : (a b c : Bool) → wrong_count ms ≡ a → wrong_radix ms ≡ b → too_many ms ≡ c → Fault ms
    go true b c e f g = count e
    go false true c e f g = radix e f
    go false false true e f g = many e f g
    go false false false e f g = none e f g

-- radices get the number of the lowest fault that applies, and what has no fault is not refused
pub lowest_fault_is_given : {A : Type 0} (ms : List ℕ) (f : Fault ms) (rest : Answer A) → of_radices ms rest ≡ decided f rest
lowest_fault_is_given ms (count e) rest = rw e
lowest_fault_is_given ms (radix e f) rest = rw (e, f)
lowest_fault_is_given ms (many e f g) rest = rw (e, f, g)
lowest_fault_is_given ms (none e f g) rest = rw (e, f, g)
