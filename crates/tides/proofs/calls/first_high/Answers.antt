-- `tides::calls::first_high` meets its contract. Assumes nothing.
use Rattle.std.specs.Prelude.{Option, Some, None, slice_get}
use Rattle.std.specs.Option.{option_copied}
use Prim.Native.Nat.{ℕ}
use mathlib.Core.Path.{◌≡◌, refl, sym, ap, ◌∙◌}
use mathlib.Core.Bool.{cond}
use mathlib.Core.List.{List, [], ◌∷◌}
use denote.Bor.{Bor}
use borrow.Author.Tests.{eq-eqb, ne_eqb}
use lib.Dec.{eqb}
use lib.ListN.{get_or}
use Rattle.gray_theory.specs.Bools.{impossible}
use Rattle.tides.specs.Stages.{first_high}
use Rattle.tides.proofs.calls.first_high.Goals as goal

-- with a line in front
by_line : (ls : List (List ℕ)) (line : List ℕ) → Some line ≡ slice_get ls 0
    → first_high ls ≡ cond (eqb (get_or line 17 0) 76) 1 0
unfolding first_high
by_line [] line e = impossible (cc)
by_line (l ∷ ls) line e = let same : l ≡ line = cc in ap (λ x. cond (eqb (get_or x 17 0) 76) 1 0) same

without : (ls : List (List ℕ)) (r : Option (Bor (List ℕ))) → option_copied r ≡ slice_get ls 0 → r ≡ None → first_high ls ≡ 0
unfolding first_high
without [] r e is = refl
without (l ∷ ls) r e is = let none = ap option_copied is in impossible (cc)

pub returns-in-Some-clause-found : goal.returns-in-Some-clause-found
returns-in-Some-clause-found c =
    sym (by_line c.args.lines.now c.in-Some.line.now c.in-Some.ensures.value
    ∙ ap (λ t. cond t 1 0) (eq-eqb (get_or c.in-Some.line.now 17 0) 76 c.if-line-eq76.true))

pub returns-in_default-clause-found : goal.returns-in_default-clause-found
returns-in_default-clause-found c =
    sym (by_line c.args.lines.now c.in-Some.line.now c.in-Some.ensures.value
    ∙ ap (λ t. cond t 1 0) (ne_eqb (get_or c.in-Some.line.now 17 0) 76 c.if-line-eq76.false))

pub returns-in_default-2-clause-found : goal.returns-in_default-2-clause-found
returns-in_default-2-clause-found c = sym (without c.args.lines.now _ c.first.ensures.value c.in_default.is)
