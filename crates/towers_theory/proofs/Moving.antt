-- One call at rank r: it names the change to the next rank and hands back that rank's state, by the rules of the game; at the
-- last rank it ends and hands back the state as it came.
use Prim.Native.Nat.{ℕ, suc, ◌-◌, ◌%◌, ◌<◌}
use Rattle.std.proofs.Common.{add-one, ap₂, ◌∙◌, lt-ltb, le-ltb}
use native.Mathlib.Omega.{arith}
use Rattle.std.specs.Prelude.{◌≡◌, true, false, length, set, replicate}
use Rattle.std.proofs.Math.Path.{sym, ap}
use mathlib.Core.List.{List}
use Rattle.std.proofs.Math.Option.{Option, none, some}
use Rattle.std.proofs.Math.ListN.{get_or}
use Rattle.std.proofs.Math.Seq.{get_or-set_other}
use Rattle.gray_theory.specs.Answers.{given}
use Rattle.gray_theory.specs.Radices.{size, all_from}
use Rattle.gray_theory.specs.Locks.{unlocked, moving, moving_digits}
use Rattle.gray_theory.proofs.Unlocked.{unlocked_two, size-unlocked, entry_number, moving_stored}
use Rattle.gray_theory.specs.Changes.{ruler}
use Rattle.gray_theory.proofs.Increments.{Increment.no_carry, Increment.carry, increment}
use Rattle.gray_theory.proofs.Rulers.{ruler_at_end}
use Rattle.gray_theory.proofs.Sizes.{all_from_weaker}
use Rattle.gray_theory.specs.Arrays.{filled}
use Rattle.gray_theory.specs.Indexed.{word_at, downs_at}
use Rattle.gray_theory.proofs.Filled.{get_d_filled, set-filled}
use Rattle.gray_theory.specs.Directions.{moved_from}
use Rattle.gray_theory.proofs.Turns.{Advances, walk_advances}
use Rattle.gray_theory.proofs.WordRanges.{survey_at, directed_moves, directed_event}
use Rattle.gray_theory.specs.Engines.{Event, move_at, ended}
use Rattle.towers_theory.specs.States.{Towers, all_odd, common, Openable}
use Rattle.towers_theory.specs.Choices.{digit_of, side_peg, chosen}
use Rattle.towers_theory.specs.Calls.{turn_after, peg_after, pegs_after, move_of, move_by, step_of}
use Rattle.towers_theory.proofs.Rings.{pegs_at, length-pegs_at, pegs_at-moves}
use Rattle.towers_theory.proofs.Canonical.{Playable, playable, ring_two, Form, Form.pairs, Form.ring, form, turn_at, stored_at, towers_at, peg_at, same_towers, towers_in_range}
use Rattle.towers_theory.proofs.Choosing.{chooses, chooses_none}

-- ---- the disks, with ms their counts
module _ (ms : List ℕ) (o : Playable ms) (r : ℕ) where
  -- the pegs of a ring
  abbrev ring_pegs : ℕ → List ℕ
  ring_pegs q = pegs_at false (common ms) (length ms) q

  ring_moves : (i : ℕ)
      → Advances ms r i
      → all_odd ms ≡ false
      → ms ≡ replicate (length ms) (common ms)
      → set (ring_pegs r) i (peg_after (common ms) i (get_or (ring_pegs r) i 0)) ≡ ring_pegs (suc r)
  ring_moves i a e same =
      let named : ruler (replicate (length ms) (common ms)) (suc r) ≡ suc i =
      ap (λ (ks : List ℕ). ruler ks (suc r)) (sym same) ∙ a.digit in
      pegs_at-moves (common ms) (length ms) r i (ring_two o e) named a.within

  stored_ring : (i : ℕ)
      → Advances ms r i
      → all_odd ms ≡ false
      → ms ≡ replicate (length ms) (common ms)
      → set (filled 48 0 (ring_pegs r)) i (peg_after (common ms) i (get_or (filled 48 0 (ring_pegs r)) i 0)) ≡ filled 48 0 (ring_pegs (suc r))
  stored_ring i a e same =
      let l = length-pegs_at false (common ms) (length ms) r in
      let h = a.within in
      rw (get_d_filled 48 0 (ring_pegs r) i 0 (omega arith))
      (set-filled 48 0 (ring_pegs r) i (peg_after (common ms) i (get_or (ring_pegs r) i 0)) (omega arith)
      ∙ ap (filled 48 0) (ring_moves i a e same))

  -- the other disks rest
  rests_by : (i k : ℕ) → Advances ms r i → (k ≡ i → ⊥) → Form ms → peg_at ms (suc r) k ≡ peg_at ms r k
  unfolding peg_at
  rests_by i k a other (pairs e odd) =
      let to = moved_from (get_or (word_at ms r) i 0) (get_or (downs_at ms r) i false) in
      rw e
      (ap (λ (w : List ℕ). side_peg (get_or ms k 0) (get_or w k 0)) (sym a.word)
      ∙ ap (side_peg (get_or ms k 0)) (get_or-set_other (word_at ms r) i k to 0 other))
  rests_by i k a other (ring e same) =
      rw e
      (ap (λ (l : List ℕ). get_or l k 0) (sym (ring_moves i a e same))
      ∙ get_or-set_other (ring_pegs r) i k (peg_after (common ms) i (get_or (ring_pegs r) i 0)) 0 other)

  pub rests : (i k : ℕ) → Advances ms r i → (k ≡ i → ⊥) → peg_at ms (suc r) k ≡ peg_at ms r k
  rests i k a other = rests_by i k a other (form ms o)

-- ---- the disk that moves and its digit
pub record DiskMoves (ms : List ℕ) (r i k : ℕ) : Type 0 where
  pub digit : Advances ms r k
  pub disk : Advances (unlocked ms) r i
  pub number : get_or (moving ms) i 0 ≡ suc k

pub disk_moves : (ms : List ℕ) → all_from 1 ms ≡ true → (r : ℕ) → suc r < size ms → (i : ℕ) × (k : ℕ) × DiskMoves ms r i k
disk_moves ms one r below =
    let ws = unlocked ms in
    let (k, a) = walk_advances ms one r below in
    let (i, b) = walk_advances ws (all_from_weaker 2 1 ws (omega arith) (unlocked_two ms)) r (rw (size-unlocked ms one) below) in
    (i, k, record { digit = a; disk = b; number = (entry_number ms one (suc r) k i a.digit a.within b.digit).1 })

-- ---- the turn, with ms the survey
module _ (ms : List ℕ) (o : Openable ms) (r : ℕ) where
  abbrev here : Towers
  here = towers_at ms r

  abbrev ws : List ℕ
  ws = unlocked ms

  turn_pairs : all_odd ws ≡ true → turn_after here ≡ turn_at ws (suc r)
  unfolding towers_at
  turn_pairs e =
      let turns : 1 - r % 2 ≡ suc r % 2 = omega arith in
      rw (survey_at ms r, e) turns

  turn_ring : all_odd ws ≡ false → turn_after here ≡ turn_at ws (suc r)
  unfolding towers_at
  turn_ring e =
      let m = common ws in
      let two = ring_two (playable o) e in
      rw (survey_at ms r, e)
      (elim (increment m r (omega arith)) [
        | no_carry q b below ↦ rw (lt-ltb (r % m) (m - 1) (omega arith)) (add-one (r % m) ∙ sym b)
        | carry q b whole ↦ rw (le-ltb (r % m) (m - 1) (omega arith)) (sym b)
      ])

  turn_moves : Form ws → turn_after here ≡ turn_at ws (suc r)
  turn_moves (pairs e odd) = turn_pairs e
  turn_moves (ring e same) = turn_ring e

  stored_moves : (i : ℕ) → Advances ws r i → Form ws → pegs_after here i ≡ filled 48 0 (stored_at ws (suc r))
  unfolding towers_at
  stored_moves i a (pairs e odd) = rw (survey_at ms r, e)
  stored_moves i a (ring e same) = rw (survey_at ms r, e) (stored_ring ws (playable o) r i a e same)

  number_at : (i : ℕ) → i < length ws → digit_of here i ≡ get_or (moving ms) i 0
  unfolding towers_at
  number_at i h = (moving_stored ms).digits i h

  move_is : (i k : ℕ)
      → DiskMoves ms r i k
      → suc r < size ms
      → move_of here i ≡ record { state = towers_at ms (suc r); answer = given (move_at ms (suc r)) }
  unfolding towers_at move_of
  move_is i k d below =
      let number : get_or (moving_digits ms).digits i 0 ≡ suc k = (moving_stored ms).digits i d.disk.within ∙ d.number in
      rw number
      (ap₂ (λ (s : Towers) (e : Event). record { state = s; answer = given e })
      (same_towers
      (directed_moves ms r k d.digit)
      (turn_moves (form ws (playable o)))
      (stored_moves i d.disk (form ws (playable o))))
      (directed_event ms r k d.digit below))

  -- a call goes by the disk chosen
  step_by_lem : (choice : Option ℕ) → chosen here ≡ choice → step_of here ≡ move_by here choice
  unfolding step_of
  step_by_lem choice e = rw (towers_in_range ms o r, e)

  pub move_call : suc r < size ms → step_of here ≡ record { state = towers_at ms (suc r); answer = given (move_at ms (suc r)) }
  move_call below =
      let (i, k, d) = disk_moves ms o.survey.one r below in
      step_by_lem (some i) (chooses ms o r i d.disk.digit d.disk.within) ∙ move_is i k d below

  pub end_call : suc r ≡ size ms → step_of here ≡ record { state = here; answer = given ended }
  end_call last =
      let whole : suc r ≡ size ws = last ∙ sym (size-unlocked ms o.survey.one) in
      let one = all_from_weaker 2 1 ws (omega arith) (unlocked_two ms) in
      step_by_lem none (chooses_none ms o r (ap (ruler ws) whole ∙ ruler_at_end ws one))
