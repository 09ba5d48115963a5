-- The digits that move, as this crate's struct.
use Rattle.gray_theory.specs.Locks as theory
use Rattle.digit.specs.declared.MovingDigits.{MovingDigits}

abbrev pub moving_as : MovingDigits → theory.MovingDigits
moving_as v = record { digits = v.digits; count = v.count }
