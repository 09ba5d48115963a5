-- A test that cannot be true is false, and what a failed `||` says.
use Rattle.std.specs.Prelude.{◌≡◌, refl, Bool, true, false, ◌||◌}
use Rattle.gray_theory.specs.Bools.{impossible}

-- a test that cannot be true is false, and one that cannot be false is true
pub never_true : (b : Bool) → (b ≡ true → ⊥) → b ≡ false
never_true true n = absurd (n refl)
never_true false n = refl

pub never_false : (b : Bool) → (b ≡ false → ⊥) → b ≡ true
never_false true n = refl
never_false false n = absurd (n refl)

pub neither : (a b : Bool) → (a || b) ≡ false → (a ≡ false) × (b ≡ false)
neither true b e = impossible (cc)
neither false b e = (refl, e)
