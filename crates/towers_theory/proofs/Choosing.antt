-- At rank r the disk that the ruler function names is chosen, and none at the last rank; its move leads to the state of the next
-- rank and keeps to the rules of the game.
use Rattle.std.specs.Prelude.{ℕ, zero, suc, ◌-◌, ◌/◌, ◌%◌, ◌<◌, ◌≡◌, refl, Bool, ◌&&◌, ◌||◌, List, [], ◌∷◌, eqb, length, get_or}
use Rattle.std.proofs.Common.{arith, subst, ◌∙◌, eq-eqb, ne_eqb, lt-ltb, le-ltb}
use Rattle.std.proofs.Math.Path.{sym, ap, ap₂}
use Rattle.std.proofs.Math.Bool.{true, false, cond, not}
use Rattle.std.proofs.Math.Option.{none, some}
use Rattle.gray_theory.specs.Locks.{unlocked, moving_digits}
use Rattle.gray_theory.proofs.Unlocked.{length-moving}
use Rattle.gray_theory.specs.Words.{even}
use Rattle.gray_theory.specs.Indexed.{word_at}
use Rattle.gray_theory.specs.Changes.{ruler}
use Rattle.gray_theory.proofs.Increments.{Increment.no_carry, Increment.carry, increment}
use Rattle.gray_theory.proofs.Rulers.{ruler_no_carry, ruler_carry, ruler_pos}
use Rattle.towers_theory.specs.States.{all_odd, common, Openable, disks}
use Rattle.towers_theory.specs.Choices.{left, middle, right, side_peg, peg_of, smallest, on_pair, sweeping, is_top, elsewhere, chosen_on_pair, chosen_on_ring, chosen}
use Rattle.towers_theory.proofs.InRange.{some_disk}
use Rattle.towers_theory.proofs.Stacks.{Stacked}
use Rattle.towers_theory.proofs.Pairs.{side_at, left_out, pairs_stacked}
use Rattle.towers_theory.proofs.Rings.{pegs_at, ring_aside, rings_stacked}
use Rattle.towers_theory.proofs.Smallest.{smallest_some, smallest-none, smallest_same, smallest-elsewhere_is_top}
use Rattle.towers_theory.proofs.Canonical.{Playable, playable, ring_two, disks_at, Form, Form.pairs, Form.ring, form, towers_at, peg_at, peg_at_lem}

-- the peg that the smaller disks have come to
abbrev pub aside : List ℕ → ℕ → ℕ
aside ms r = cond (all_odd ms) (left_out r) (ring_aside (common ms) r)

-- both forms
stacked_by : (ms : List ℕ) → Playable ms → (r : ℕ) → Form ms → Stacked ms (peg_at ms) r (aside ms r)
unfolding peg_at
stacked_by ms o r f =
    let claim : Bool → Type 0 = λ b.
    Stacked ms (λ q k. cond b (side_at ms q k) (get_or (pegs_at false (common ms) (length ms) q) k 0)) r
    (cond b (left_out r) (ring_aside (common ms) r)) in
    elim f [
      | pairs e odd ↦ subst claim (sym e) (pairs_stacked ms o.two odd r)
      | ring e same ↦
          subst claim (sym e)
          (subst
          (λ (l : List ℕ). Stacked l (λ q k. get_or (pegs_at false (common ms) (length ms) q) k 0) r (ring_aside (common ms) r))
          (sym same)
          (rings_stacked (common ms) (length ms) r (ring_two o e)))
    ]

-- ---- the disk chosen
-- a peg is of the turn exactly if it is not the one left out
pair_test_lem : (r p : ℕ) → p < 3 → on_pair (r % 2) p ≡ not (eqb p (left_out r))
pair_test_lem r p h = go (even r) p h
  where
    go : (b : Bool) (q : ℕ) → q < 3 → cond b (eqb q left || eqb q middle) (eqb q middle || eqb q right) ≡ not (eqb q (cond b right left))
    go true zero l = refl
    go true (suc zero) l = refl
    go true (suc (suc zero)) l = refl
    go true (suc (suc (suc q))) l = absurd (omega arith)
    go false zero l = refl
    go false (suc zero) l = refl
    go false (suc (suc zero)) l = refl
    go false (suc (suc (suc q))) l = absurd (omega arith)

side_below : (m a : ℕ) → side_peg m a < 3
side_below m a = go (eqb a 0) (eqb a (m - 1))
  where
    go : (b c : Bool) → cond b left (cond c right middle) < 3
    go true c = omega arith
    go false true = omega arith
    go false false = omega arith

-- whether disk 1 is the one that the ruler function names
first_named : (ms : List ℕ) (j b : ℕ) → 0 < length ms → j % common ms ≡ suc b → ruler ms j ≡ 1
first_named [] j b h e = absurd (omega arith)
first_named (m ∷ ms) j b h e = ruler_no_carry m ms j b e

first_passed : (ms : List ℕ) (j : ℕ) → 0 < length ms → j % common ms ≡ 0 → 1 < ruler ms j
first_passed [] j h e = absurd (omega arith)
first_passed (m ∷ ms) j h e =
    let r = ruler_carry m ms j e in
    let p = ruler_pos ms (j / m) in
    omega arith

-- a disk is not aside
abbrev away : List ℕ → ℕ → ℕ → Bool
away ms r k = not (eqb (peg_at ms r k) (aside ms r))

-- with ms the counts of the disks
module _ (ms : List ℕ) (o : Playable ms) (r : ℕ) where
  pub stacked : Stacked ms (peg_at ms) r (aside ms r)
  stacked = stacked_by ms o r (form ms o)

  smallest-away : (i : ℕ) → ruler ms (suc r) ≡ suc i → i < length ms → smallest (length ms) (away ms r) ≡ some i
  smallest-away i e h =
      let s = stacked in
      smallest_some (length ms) (away ms r) i h
      (ap not (ne_eqb (peg_at ms r i) (aside ms r) (s.free i e h)))
      (λ k l. ap not (eq-eqb (peg_at ms r k) (aside ms r) (s.covered k (omega arith) (omega arith))))

  none-away : ruler ms (suc r) ≡ suc (length ms) → smallest (length ms) (away ms r) ≡ none
  none-away e =
      let s = stacked in
      smallest-none (length ms) (away ms r)
      (λ k l. ap not (eq-eqb (peg_at ms r k) (aside ms r) (s.covered k (omega arith) l)))

-- with ms the survey
module _ (ms : List ℕ) (o : Openable ms) (r : ℕ) where
  abbrev ws : List ℕ
  ws = unlocked ms

  many : (moving_digits ms).count ≡ length ws
  many = length-moving ms

  -- odd radices: the smallest disk on the pair of the turn
  chosen_pair : all_odd ws ≡ true → chosen (towers_at ms r) ≡ smallest (length ws) (away ws r)
  unfolding chosen towers_at peg_at
  chosen_pair e =
      let s = towers_at ms r in
      let odd_at : all_odd (disks s) ≡ true = ap all_odd (disks_at ms r) ∙ e in
      let turn_is : s.turn ≡ r % 2 = rw e in
      let aside_is : aside ws r ≡ left_out r = rw e in
      ap (λ b. cond b (smallest s.directed.moving.count (λ i. on_pair s.turn (peg_of s i))) (chosen_on_ring s)) odd_at
      ∙ ap (λ (n : ℕ). smallest n (λ i. on_pair s.turn (peg_of s i))) many
      ∙ smallest_same (length ws) (λ i. on_pair s.turn (peg_of s i)) (away ws r)
      (λ i h.
      let side : peg_at ws r i ≡ side_at ws r i = rw e in
      let below = side_below (get_or ws i 0) (get_or (word_at ws r) i 0) in
      ap₂ on_pair turn_is (peg_at_lem ms r o.survey.one i h)
      ∙ pair_test_lem r (peg_at ws r i) (rw side below)
      ∙ ap (λ (p : ℕ). not (eqb (peg_at ws r i) p)) (sym aside_is))

  -- equal radices, after a sweep: the smallest disk that is not where disk 1 is
  chosen_other : 0 < length ws
      → suc r % common ws ≡ 0
      → smallest (length ws) (λ i. is_top (towers_at ms r) i && elsewhere (towers_at ms r) i) ≡ smallest (length ws) (away ws r)
  chosen_other some_one z =
      let s = towers_at ms r in
      let passed = first_passed ws (suc r) some_one z in
      let there : peg_of s 0 ≡ aside ws r = peg_at_lem ms r o.survey.one 0 some_one ∙ (stacked ws (playable o) r).covered 0 passed some_one in
      smallest-elsewhere_is_top (length ws) (peg_of s) (peg_of s 0)
      ∙ smallest_same (length ws) (elsewhere s) (away ws r)
      (λ i h. ap₂ (λ (p q : ℕ). not (eqb p q)) (peg_at_lem ms r o.survey.one i h) there)

  chosen_ring : all_odd ws ≡ false → chosen (towers_at ms r) ≡ smallest (length ws) (away ws r)
  unfolding chosen towers_at
  chosen_ring e =
      let s = towers_at ms r in
      let m = common ws in
      let two = ring_two (playable o) e in
      let some_one = some_disk ws e in
      let odd_at : all_odd (disks s) ≡ false = ap all_odd (disks_at ms r) ∙ e in
      let turn_is : s.turn ≡ r % m = rw e in
      let sweeps : sweeping (common (disks s)) s.turn ≡ sweeping m (r % m) =
      ap₂ sweeping (ap common (disks_at ms r)) turn_is in
      let others = smallest s.directed.moving.count (λ i. is_top s i && elsewhere s i) in
      ap (λ b. cond b (chosen_on_pair s) (chosen_on_ring s)) odd_at
      ∙ ap (λ b. cond b (some 0) others) sweeps
      ∙ elim (increment m r (omega arith)) [
        | no_carry q b below ↦
            ap (λ t. cond t (some 0) others) (lt-ltb (r % m) (m - 1) (omega arith))
            ∙ sym (smallest-away ws (playable o) r 0 (first_named ws (suc r) (r % m) some_one b) some_one)
        | carry q b whole ↦
            ap (λ t. cond t (some 0) others) (le-ltb (r % m) (m - 1) (omega arith))
            ∙ ap (λ (n : ℕ). smallest n (λ i. is_top s i && elsewhere s i)) many
            ∙ chosen_other some_one b
      ]

  chosen_by : Form ws → chosen (towers_at ms r) ≡ smallest (length ws) (away ws r)
  chosen_by (pairs e odd) = chosen_pair e
  chosen_by (ring e same) = chosen_ring e

  chosen_is : chosen (towers_at ms r) ≡ smallest (length ws) (away ws r)
  chosen_is = chosen_by (form ws (playable o))

  -- the disk that the ruler function names is chosen, none where it names none
  pub chooses : (i : ℕ) → ruler ws (suc r) ≡ suc i → i < length ws → chosen (towers_at ms r) ≡ some i
  chooses i e h = chosen_is ∙ smallest-away ws (playable o) r i e h

  pub chooses_none : ruler ws (suc r) ≡ suc (length ws) → chosen (towers_at ms r) ≡ none
  chooses_none e = chosen_is ∙ none-away ws (playable o) r e
