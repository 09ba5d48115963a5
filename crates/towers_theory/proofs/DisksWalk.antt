-- The disk engine walks the list: the theorem about the whole run of calls from a fresh start. What it claims stands in Game, what
-- a call is in Calls: the definitions that the contracts of `open` and `step` cite.
use Prim.Native.Nat.{ℕ, zero, suc, ◌+◌, ◌-◌, ◌≤◌, ◌<◌}
use Rattle.std.proofs.Math.Decide.{dec_lt}
use native.Mathlib.Omega.{arith}
use Rattle.std.specs.Prelude.{◌≡◌, Bool, true, List, [], length, get_or}
use Rattle.std.proofs.Common.{sym, subst, ◌∙◌}
use Rattle.std.proofs.Math.Path.{ap}
use Rattle.gray_theory.specs.Answers.{Answer, given, refused}
use Rattle.gray_theory.specs.Radices.{digits, size}
use Rattle.gray_theory.proofs.Rulers.{change_is_ruler}
use Rattle.gray_theory.proofs.Sizes.{size_pos}
use Rattle.gray_theory.specs.Locks.{unlocked, moving}
use Rattle.gray_theory.proofs.Unlocked.{size-unlocked, length-moving, moving_pos, moving-once}
use Rattle.gray_theory.proofs.Turns.{Advances}
use Rattle.gray_theory.specs.Engines.{Event, move_at, moved, ended, after, Names}
use Rattle.towers_theory.specs.States.{Towers, Openable, setting, in_range}
use Rattle.towers_theory.specs.Choices.{peg_of}
use Rattle.towers_theory.specs.Calls.{fresh, open_of, step_of}
use Rattle.towers_theory.proofs.Openings.{opens_exactly, opens_fresh}
use Rattle.towers_theory.specs.Game.{state, answer, Ends, Allowed, PlaysTheList}
use Rattle.towers_theory.proofs.Canonical.{playable, towers_at, peg_at, setting_at, peg_at_lem, fresh_is, towers_in_range}
use Rattle.towers_theory.proofs.Choosing.{stacked}
use Rattle.towers_theory.proofs.Moving.{rests, disk_moves, move_call, end_call}

-- the digit that an answer names, 0 where it names none
abbrev digit_of : Answer Event → ℕ
digit_of (given (moved c notch)) = c.digit
digit_of (given ended) = 0
digit_of (refused k) = 0

module _ (ms : List ℕ) (o : Openable ms) where
  abbrev start : Towers
  start = fresh ms

  some_word : 0 < size ms
  some_word = size_pos ms o.survey.one

  -- the state after t calls, t below N, is that of rank t
  run_to : (t : ℕ) → t < size ms → state start t ≡ towers_at ms t
  unfolding after
  run_to zero h = fresh_is ms o
  run_to (suc t) h =
      ap (λ (s : Towers). (step_of s).state) (run_to t (omega arith)) ∙ ap (λ c. c.state) (move_call ms o t h)

  -- from call N on nothing changes
  abbrev last : ℕ
  last = size ms - 1

  last-rank : suc last ≡ size ms
  last-rank = let pos = some_word in omega arith

  run_on : (x : ℕ) → state start (last + x) ≡ towers_at ms last
  unfolding after
  run_on zero = let z : last + 0 ≡ last = omega arith in let l = last-rank in rw z (run_to last (omega arith))
  run_on (suc x) =
      let z : last + suc x ≡ suc (last + x) = omega arith in
      rw z (ap (λ (s : Towers). (step_of s).state) (run_on x) ∙ ap (λ c. c.state) (end_call ms o last last-rank))

  run_past : (t : ℕ) → last ≤ t → state start t ≡ towers_at ms last
  run_past t h = let z : last + (t - last) ≡ t = omega arith in subst (λ (k : ℕ). state start k ≡ towers_at ms last) z (run_on (t - last))

  stays_in_range : (t : ℕ) → in_range (state start t) ≡ true
  stays_in_range t =
      elim (dec_lt t (size ms)) [
        | yes p ↦ ap in_range (run_to t p) ∙ towers_in_range ms o t
        | no q ↦ ap in_range (run_past t (omega arith)) ∙ towers_in_range ms o last
      ]

  -- call t + 1 is made on the state after t calls
  answered : (t : ℕ) → answer start (suc t) ≡ (step_of (state start t)).answer
  answered t = let z : suc t - 1 ≡ t = omega arith in ap (λ (k : ℕ). (step_of (state start k)).answer) z

  answers_change : (t : ℕ) → suc t < size ms → answer start (suc t) ≡ given (move_at ms (suc t))
  answers_change t h =
      answered t
      ∙ ap (λ (s : Towers). (step_of s).answer) (run_to t (omega arith))
      ∙ ap (λ c. c.answer) (move_call ms o t h)

  names : (j : ℕ) → 1 ≤ j → j < size ms → Names step_of setting ms start j
  names zero h l = absurd (omega arith)
  names (suc t) h l =
      record {
        answers = answers_change t l;
        hands_back = ap setting (run_to (suc t) l) ∙ setting_at ms (suc t) l;
      }

  ends : (j : ℕ) → size ms ≤ j → Ends start j
  ends j h =
      let before = run_past (j - 1) (omega arith) in
      record {
        answers = ap (λ (s : Towers). (step_of s).answer) before ∙ ap (λ c. c.answer) (end_call ms o last last-rank);
        unchanged = run_past j (omega arith) ∙ sym before;
      }

  -- the rules: smaller disks are all aside, where the disk that moves neither is nor goes
  abbrev ws : List ℕ
  ws = unlocked ms

  pegs_of : (t k : ℕ) → t < size ms → k < length ws → peg_of (state start t) k ≡ peg_at ws t k
  pegs_of t k h l = ap (λ (s : Towers). peg_of s k) (run_to t h) ∙ peg_at_lem ms t o.survey.one k l

  keeps_rules : (t i : ℕ) → suc t < size ms → Advances ws t i → Allowed start (suc t) i
  keeps_rules t i h a =
      let s = stacked ws (playable o) t in
      let within = a.within in
      let named = a.digit in
      let z : suc t - 1 ≡ t = omega arith in
      record {
        top = subst (λ (q : ℕ). (k : ℕ) → k < i → peg_of (state start q) k ≡ peg_of (state start q) i → ⊥) (sym z)
            (λ k l e.
            s.free i named within
            (sym (pegs_of t i (omega arith) within)
            ∙ sym e
            ∙ pegs_of t k (omega arith) (omega arith)
            ∙ s.covered k (omega arith) (omega arith)));
        lands = λ k l e.
            s.lands i named within
            (sym (pegs_of (suc t) i h within)
            ∙ sym e
            ∙ pegs_of (suc t) k h (omega arith)
            ∙ rests ws (playable o) t i k a (λ q. omega arith)
            ∙ s.covered k (omega arith) (omega arith));
      }

  allowed : (j i : ℕ) (down : Bool) (notch : ℕ)
      → 1 ≤ j
      → i < length (moving ms)
      → answer start j ≡ given (moved (record { digit = get_or (moving ms) i 0; down = down }) notch)
      → Allowed start j i
  allowed zero i down notch h l e = absurd (omega arith)
  allowed (suc t) i down notch h l e =
      elim (dec_lt (suc t) (size ms)) [
        | yes p ↦
            let (d, k, a) = disk_moves ms o.survey.one t p in
            let named : get_or (moving ms) d 0 ≡ get_or (moving ms) i 0 =
            a.number
            ∙ sym a.digit.digit
            ∙ sym (ap (λ c. c.digit) (change_is_ruler ms t p).0)
            ∙ ap digit_of (sym (answers_change t p) ∙ e) in
            let within = a.disk.within in
            let many = length-moving ms in
            subst (Allowed start (suc t)) (moving-once ms d i (omega arith) l named) (keeps_rules t d p a.disk)
        | no q ↦
            let none : 0 ≡ get_or (moving ms) i 0 = ap digit_of (sym (ends (suc t) (omega arith)).answers ∙ e) in
            let pos = moving_pos ms i l in
            absurd (omega arith)
      ]

  run_walks : PlaysTheList ms start
  run_walks =
      record {
        start = ap setting (fresh_is ms o) ∙ setting_at ms 0 some_word;
        moves = names;
        end = ends;
        stays_in_range = stays_in_range;
        rules = allowed;
      }

-- Whatever state it was opened on, the disk engine walks the list: from the setting of rank 0 calls 1 to N − 1 name the list's
-- changes in order, each with the setting that it leads to; call N and every later one answer end and change nothing; every state
-- is in range; and no disk is ever put on a peg that holds a smaller one.
pub disks-walk_the_list : (s : Towers) (radices : List ℕ)
    → (open_of s radices).answer ≡ given tt
    → PlaysTheList (digits radices) (open_of s radices).state
disks-walk_the_list s radices e =
    subst (PlaysTheList (digits radices)) (sym (opens_fresh s radices e)) (run_walks (digits radices) ((opens_exactly s radices).0 e))

-- With all digits locked there is no disk, and the first call is the end.
pub no_disk_ends_at_once : (s : Towers) (radices : List ℕ)
    → (open_of s radices).answer ≡ given tt
    → unlocked (digits radices) ≡ []
    → Ends (open_of s radices).state 1
unfolding size
no_disk_ends_at_once s radices e none =
    let ms = digits radices in
    let single : size ms ≡ 1 = sym (size-unlocked ms ((opens_exactly s radices).0 e).survey.one) ∙ ap size none in
    (disks-walk_the_list s radices e).end 1 (omega arith)
