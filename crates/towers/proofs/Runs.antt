-- What a call of a run comes to on each of its paths, and what has been made after k of them. Assumes nothing.
use Prim.Native.Nat.{ℕ, ◌+◌, ◌-◌, ◌≤◌, ◌<◌}
use native.Mathlib.Omega.{arith}
use native.Mathlib.Numerals.{add-one}
use mathlib.Core.Path.{◌≡◌, refl, sym, ap, subst, ◌∙◌}
use mathlib.Core.Bool.{Bool, true, false, cond, not}
use mathlib.Core.List.{List, [], ◌∷◌, ◌++◌}
use mathlib.Core.Option.{some}
use lib.Dec.{eqb}
use lib.ListN.{length, get_or, set, take}
use Rattle.std.specs.Prelude.{Option, Some, None}
use Rattle.gray_theory.specs.Answers.{given}
use Rattle.gray_theory.specs.Bools.{impossible}
use Rattle.gray_theory.specs.Words.{even}
use Rattle.gray_theory.specs.Engines.{Event, ended, Handed, after}
use Rattle.gray_theory.specs.Places.{placed}
use Rattle.gray_theory.proofs.Places.{placed-none, placed-set, length-placed}
use Rattle.gray_theory.specs.RunCalls.{Stop, nothing, end, run_from}
use Rattle.gray_theory.specs.RunLaws.{Moved}
use Rattle.gray_theory.proofs.RunLaws.{moved_none, moved_more, all_made, ends_there, run-made_by}
use Rattle.digit.specs.Advances.{advanced_from}
use Rattle.towers_theory.specs.States.{Towers, disks, in_range, Arrays}
use Rattle.towers_theory.specs.Choices.{side_peg, on_pair, sweeping, smallest, digit_of, chosen}
use Rattle.towers_theory.specs.Calls.{turn_by, peg_after, step_of, run_of}
use Rattle.towers_theory.proofs.Kept.{range_kept, arrays_kept}
use Rattle.towers.specs.Stages.{found, last_radix, DigitMoved, state_of, Playing, MoveMade, Called}
use Rattle.towers.proofs.Steps.{Chosen, count_fits, chosen_within, chooses_on_pair, chooses_on_ring, disk_moved, walk-over, moves_disk}

-- ---- one call
module _ (m : ℕ) (s : Towers) (p : Playing m s) where
  pub call_ends : (left : Option (ℕ × ℕ)) → left ≡ None → found None ≡ chosen s → Called (step_of s) (λ turn. record { directed = s.directed; turn = turn; pegs = s.pegs }) s.turn left
  call_ends (Some made) e choice = impossible (cc)
  call_ends None e choice = sym (walk-over s p.ranged choice)

  -- the disk that the code has found, which counts the disks as a wide number
  module _ (k : ℕ) (wide : k ≡ s.directed.moving.count) (i : ℕ) where
    is_chosen : found (Some i) ≡ chosen s → Chosen s i
    is_chosen choice =
        let within = chosen_within s p.long p.ranged m p.told i choice in
        let most = count_fits s p.long p.ranged in
        record { choice = choice; within = within; few = omega arith }

    pub pair_chosen : not (even m) ≡ true
        → found (Some i)
        ≡ smallest (length (take k s.directed.moving.digits))
        (λ j. on_pair s.turn
        (side_peg (get_or s.directed.radices (get_or (take k s.directed.moving.digits) j 0 - 1) 0)
        (get_or s.directed.word (get_or (take k s.directed.moving.digits) j 0 - 1) 0)))
        → Chosen s i
    pair_chosen odd e = is_chosen (chooses_on_pair s p.long p.ranged m p.told k wide (Some i) odd e)

    pub ring_chosen : not (even m) ≡ false
        → found (Some i)
        ≡ cond (sweeping m s.turn) (some 0)
        (smallest (length (take k s.pegs)) (λ j. not (eqb (get_or (take k s.pegs) j 0) (get_or (take k s.pegs) 0 0))))
        → Chosen s i
    ring_chosen ring e = is_chosen (chooses_on_ring s p.long p.ranged m p.told k wide (Some i) ring e)

  -- disk i + 1 moves, whose digit is at an index of the word
  module _ (i : ℕ) (c : Chosen s i) (at : ℕ) (named : at + 1 ≡ digit_of s i) where
    moves_by : (byte : ℕ) (word : List ℕ) (downs : List Bool) (pegs : List ℕ) (turn : ℕ)
        → DigitMoved s.directed.radices at s.directed.word s.directed.downs byte word downs
        → pegs ≡ cond (not (even m)) s.pegs (set s.pegs i (peg_after m i (get_or s.pegs i 0)))
        → turn ≡ turn_by (not (even m)) m s.turn
        → MoveMade (step_of s) byte (state_of s.directed.radices s.directed.n s.directed.moving.digits s.directed.moving.count word turn downs pegs)
    moves_by byte word downs pegs turn d e f =
        let to = advanced_from (get_or s.directed.radices at 0) (get_or s.directed.word at 0) (get_or s.directed.downs at false) in
        let goes =
        disk_moved s p.long p.ranged m p.told i c.within at named to pegs turn refl e f
        ∙ moves_disk s p.ranged i c.choice in
        rw (d.words, d.turns)
        (record {
          hands = sym (ap (λ (c : Handed Towers Event). c.state) goes);
          change = _;
          notch = _;
          answers = sym (ap (λ (c : Handed Towers Event). c.answer) goes);
          says = d.says;
        })

    -- on three pegs, and on a ring
    pub pair_moves : (byte : ℕ) (word : List ℕ) (downs : List Bool)
        → not (even m) ≡ true
        → DigitMoved s.directed.radices at s.directed.word s.directed.downs byte word downs
        → MoveMade (step_of s) byte
        (state_of s.directed.radices s.directed.n s.directed.moving.digits s.directed.moving.count word (1 - s.turn) downs s.pegs)
    pair_moves byte word downs odd d =
        moves_by byte word downs s.pegs (1 - s.turn) d
        (sym (ap (λ o. cond o s.pegs (set s.pegs i (peg_after m i (get_or s.pegs i 0)))) odd))
        (sym (ap (λ o. turn_by o m s.turn) odd))

    pub ring_moves : (byte : ℕ) (word : List ℕ) (downs : List Bool) (peg turn : ℕ)
        → not (even m) ≡ false
        → DigitMoved s.directed.radices at s.directed.word s.directed.downs byte word downs
        → peg ≡ peg_after m i (get_or s.pegs i 0)
        → turn ≡ turn_by false m s.turn
        → MoveMade (step_of s) byte
        (state_of s.directed.radices s.directed.n s.directed.moving.digits s.directed.moving.count word turn downs (set s.pegs i peg))
    ring_moves byte word downs peg turn ring d e f =
        moves_by byte word downs (set s.pegs i peg) turn d
        (ap (set s.pegs i) e
        ∙ sym (ap (λ o. cond o s.pegs (set s.pegs i (peg_after m i (get_or s.pegs i 0)))) ring))
        (f ∙ sym (ap (λ o. turn_by o m s.turn) ring))

-- ---- the loop: after k calls that moved the state is `here`, and their bytes stand in the output
pub record RunSoFar (m : ℕ) (s : Towers) (t : ℕ) (before : List ℕ) (here : Towers) (k : ℕ) (out : List ℕ) : Type 0 where
  pub done : List ℕ
  pub made : Moved step_of s k done
  pub stands : after step_of s k ≡ here
  pub playing : Playing m here
  pub within : k ≤ t
  pub holds : out ≡ placed 0 done before

module _ (m : ℕ) (s : Towers) (p : Playing m s) (t : ℕ) (before : List ℕ) (room : t ≤ length before) where
  pub begun : RunSoFar m s t before s 0 before
  unfolding after
  begun = record {
    done = [];
    made = moved_none step_of s;
    stands = refl;
    playing = p;
    within = omega arith;
    holds = sym (placed-none 0 before);
  }

  module _ (here : Towers) (k : ℕ) (out : List ℕ) (g : RunSoFar m s t before here k out) where
    pub as_long : length out ≡ length before
    as_long =
        let n = g.made.count in
        let h = g.within in
        ap length g.holds ∙ length-placed 0 g.done before (omega arith)

    -- what the run is once it has stopped, with the state that is handed back
    stopped : (last : Towers) (stop : Stop)
        → run_from step_of s t ≡ record { state = last; bytes = g.done; stop = stop }
        → record { state = last; answer = given (record { made = k; stop = stop }); out = out } ≡ run_of s t before
    stopped last stop is =
        run-made_by in_range step_of s t before p.ranged room (record { state = last; bytes = g.done; stop = stop }) last k out is refl
        (sym g.made.count)
        g.holds

    pub made_all : t ≤ k → record { state = here; answer = given (record { made = t; stop = nothing }); out = out } ≡ run_of s t before
    made_all h =
        let w = g.within in
        let all : t ≡ k = omega arith in
        ap (λ (j : ℕ). record { state = here; answer = given (record { made = j; stop = nothing }); out = out }) all
        ∙ stopped here nothing
        (all_made step_of s k t g.done g.made (omega arith)
        ∙ ap (λ (x : Towers). record { state = x; bytes = g.done; stop = nothing }) g.stands)

    -- one call more: it ends the walk, or makes a move
    pub ended_there : (left : Towers)
        → k < t
        → step_of here ≡ record { state = left; answer = given ended }
        → record { state = left; answer = given (record { made = k; stop = end }); out = out } ≡ run_of s t before
    ended_there left less ends =
        let over = ap step_of g.stands ∙ ends in
        stopped left end
        (ends_there step_of s k t g.done g.made less (ap (λ (c : Handed Towers Event). c.answer) over)
        ∙ ap (λ (x : Towers). record { state = x; bytes = g.done; stop = end }) (ap (λ (c : Handed Towers Event). c.state) over))

    pub again : (byte : ℕ) (left : Towers)
        → k < t
        → MoveMade (step_of here) byte left
        → m ≡ last_radix (disks left)
        → RunSoFar m s t before left (k + 1) (set out k byte)
    unfolding after
    again byte left less c told =
        let n = g.made.count in
        let place : k ≡ 0 + length g.done = omega arith in
        let says = ap (λ (x : Towers). (step_of x).answer) g.stands ∙ c.answers in
        record {
          done = g.done ++ (byte ∷ []);
          made = moved_more step_of s k g.done c.change c.notch byte g.made says c.says;
          stands = ap (λ j. after step_of s j) (add-one k) ∙ ap (λ (x : Towers). (step_of x).state) g.stands ∙ c.hands;
          playing =
              record {
                ranged = ap in_range (sym c.hands) ∙ range_kept here g.playing.long g.playing.ranged;
                long = subst Arrays c.hands (arrays_kept here g.playing.long g.playing.ranged);
                told = told;
              };
          within = omega arith;
          holds =
              ap (λ l. set l k byte) g.holds
              ∙ ap (λ j. set (placed 0 g.done before) j byte) place
              ∙ placed-set 0 g.done before byte (omega arith);
        }
