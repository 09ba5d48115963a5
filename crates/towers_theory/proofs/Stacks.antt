-- What both forms of the game rest on (document 004, section 9, Lemma 1): whenever a disk moves, all smaller ones are on one peg,
-- aside, and it neither comes from there nor goes there.
use Rattle.std.specs.Prelude.{ℕ, suc, ◌<◌, ◌≡◌, List, length}
use Rattle.gray_theory.specs.Changes.{ruler}

-- with `peg q k` the peg of the disk at index k at rank q: the ruler function names the disk that moves from rank r on
pub record Stacked (ms : List ℕ) (peg : ℕ → ℕ → ℕ) (r aside : ℕ) : Type 0 where
  pub covered : (k : ℕ) → suc k < ruler ms (suc r) → k < length ms → peg r k ≡ aside
  pub free : (i : ℕ) → ruler ms (suc r) ≡ suc i → i < length ms → peg r i ≡ aside → ⊥
  pub lands : (i : ℕ) → ruler ms (suc r) ≡ suc i → i < length ms → peg (suc r) i ≡ aside → ⊥
