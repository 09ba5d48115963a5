-- The call that moves a digit in its direction.
use Rattle.std.specs.Prelude.{ℕ, ◌≡◌, Bool, true, false, cond, ◌&&◌, leb}
use Rattle.std.proofs.Math.Path.{ap}
use Rattle.gray_theory.specs.Directions.{digit_in_range}
use Rattle.digit.specs.declared.Directed.{Directed}
use Rattle.digit.specs.Advances.{onward, advanced_from}

-- the call that moves a digit: one in range goes on, any other stays
module _ (m a : ℕ) (down : Bool) where
  abbrev advanced_if : Bool → Directed
  advanced_if b = cond b (onward m a down) (record { digit = a; down = down })

  pub digit_advanced : leb 2 m && digit_in_range m a down ≡ true → advanced_from m a down ≡ onward m a down
  unfolding advanced_from
  digit_advanced e = ap advanced_if e

  pub digit_stays : leb 2 m && digit_in_range m a down ≡ false → advanced_from m a down ≡ record { digit = a; down = down }
  unfolding advanced_from
  digit_stays e = ap advanced_if e
