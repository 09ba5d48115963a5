-- What the answers of tests say.
use mathlib.Core.Path.{◌≡◌, refl, sym, ◌∙◌}
use mathlib.Core.Bool.{Bool, true, false, ◌&&◌}
use Rattle.gray_theory.specs.Bools.{impossible}

-- a test that was answered no has failed, and one that was answered yes has passed
pub failed : {answer test : Bool} → answer ≡ test → answer ≡ false → test ≡ false
failed e h = sym e ∙ h

pub passed : {answer test : Bool} → answer ≡ test → answer ≡ true → test ≡ true
passed e h = sym e ∙ h

-- tests that have passed together have passed each
pub all_three : (a b c : Bool) → (a && b && c) ≡ true → (a ≡ true) × (b ≡ true) × (c ≡ true)
all_three true true c h = (refl, refl, h)
all_three true false c h = impossible (cc)
all_three false b c h = impossible (cc)

pub all_five : (a b c d e : Bool) → (a && b && c && d && e) ≡ true
    → (a ≡ true) × (b ≡ true) × (c ≡ true) × (d ≡ true) × (e ≡ true)
all_five true true true true e h = (refl, refl, refl, refl, h)
all_five true true true false e h = impossible (cc)
all_five true true false d e h = impossible (cc)
all_five true false c d e h = impossible (cc)
all_five false b c d e h = impossible (cc)

-- and back
pub all_pass : (a b c : Bool) → a ≡ true → b ≡ true → c ≡ true → (a && b && c) ≡ true
all_pass a b c p q r = rw (p, q, r) refl
