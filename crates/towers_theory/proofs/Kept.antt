-- The range rule is kept by every call, also from a made-up state; a call that moves names the notch it reaches; for odd radices the
-- stored pegs play no part; and a closed game gets 7.
use Rattle.std.specs.Prelude.{ℕ, suc, ◌-◌, ◌≤◌, ◌<◌, ◌≡◌, Bool, ◌&&◌, not, List, length, get_or, set}
use Rattle.std.proofs.Math.Decide.{dec_lt, ℕ_discrete}
use native.Mathlib.Omega.{arith}
use Rattle.std.proofs.Math.Path.{refl, ap}
use Rattle.std.proofs.Common.{◌∙◌, eq-eqb, ne_eqb, lt-ltb, le-ltb, length-set, get_or-set_same, get_or-set_other}
use Rattle.std.proofs.Math.Bool.{true, false, cond}
use Rattle.std.proofs.Math.Option.{Option, none, some, some-injective}
use Rattle.gray_theory.specs.Answers.{given}
use Rattle.gray_theory.specs.Bools.{impossible}
use Rattle.gray_theory.specs.Words.{even}
use Rattle.gray_theory.specs.Changes.{Change}
use Rattle.gray_theory.proofs.Sizes.{radix_two}
use Rattle.gray_theory.proofs.Unlocked.{unlocked_two, unlocked_most}
use Rattle.gray_theory.specs.DirectedWords.{word_in_range, digit_moved}
use Rattle.gray_theory.proofs.WordRanges.{says-word, word-says, ranged_moving, survey_long, move_keeps_range, move_keeps_rooms, move_names_its_notch}
use Rattle.gray_theory.specs.Engines.{Event, moved, NamesNotch, Handed, refused_with}
use Rattle.towers_theory.specs.States.{Towers, all_odd, common, open_check, setting, survey, disks, in_range, Arrays}
use Rattle.towers_theory.specs.Choices.{digit_of, peg_of, smallest, on_pair, sweeping, is_top, elsewhere, chosen_on_pair, chosen_on_ring, chosen}
use Rattle.towers_theory.specs.Calls.{fresh, closed_towers, turn_by, clockwise, anticlockwise, peg_after, pegs_after, move_of, move_by, step_of}
use Rattle.towers_theory.specs.Game.{with_pegs}
use Rattle.towers_theory.proofs.Smallest.{smallest-says}
use Rattle.towers_theory.proofs.InRange.{Ranged, range_says, says_range, some_disk, disk_digit}

-- ---- what a move leaves in range
turn_kept : (odd : Bool) (m turn : ℕ)
    → (odd ≡ false → 2 ≤ m)
    → turn < cond odd 2 m
    → turn_by odd m turn < cond odd 2 m
turn_kept true m turn least h = omega arith
turn_kept false m turn least h =
    let two = least refl in
    elim (dec_lt turn (m - 1)) [
      | yes p ↦ rw (lt-ltb turn (m - 1) p) (omega arith)
      | no q ↦ rw (le-ltb turn (m - 1) (omega arith)) (omega arith)
    ]

clockwise-kept : (m p : ℕ) → p ≤ m → clockwise m p ≤ m
clockwise-kept m p h =
    elim (ℕ_discrete p m) [ yes e ↦ rw (eq-eqb p m e) (omega arith) | no n ↦ rw (ne_eqb p m n) (omega arith) ]

anticlockwise-kept : (m p : ℕ) → p ≤ m → anticlockwise m p ≤ m
anticlockwise-kept m p h =
    elim (ℕ_discrete p 0) [ yes e ↦ rw (eq-eqb p 0 e) (omega arith) | no n ↦ rw (ne_eqb p 0 n) (omega arith) ]

peg_kept : (m i p : ℕ) → p ≤ m → peg_after m i p ≤ m
peg_kept m i p h = go (even (suc i))
  where
    go : (b : Bool) → cond b (anticlockwise m p) (clockwise m p) ≤ m
    go true = anticlockwise-kept m p h
    go false = clockwise-kept m p h

set-kept : (l : List ℕ) (i a m k : ℕ) → k < length l → a ≤ m → get_or l k 0 ≤ m → get_or (set l i a) k 0 ≤ m
set-kept l i a m k h new old =
    elim (ℕ_discrete k i) [
      | yes e ↦ rw (e, get_or-set_same l i a 0 (omega arith)) new
      | no n ↦ rw (get_or-set_other l i k a 0 n) old
    ]

module _ (s : Towers) (a : Arrays s) (ranged : in_range s ≡ true) where
  says : Ranged s
  says = range_says s ranged

  long : length (survey s) ≡ s.directed.n
  long = survey_long open_check s.directed says.word a.directed.radices

  many : s.directed.moving.count ≡ length (disks s)
  many = (ranged_moving open_check s.directed says.word).count

  -- the disk chosen is one of them
  on_ring_lem : (b : Bool) (i : ℕ)
      → all_odd (disks s) ≡ false
      → cond b (some 0) (smallest s.directed.moving.count (λ k. is_top s k && elsewhere s k)) ≡ some i
      → i < s.directed.moving.count
  on_ring_lem true i odd e =
      let z : 0 ≡ i = some-injective 0 i e in let o = some_disk (disks s) odd in let l = many in omega arith
  on_ring_lem false i odd e = (smallest-says s.directed.moving.count (λ k. is_top s k && elsewhere s k) i e).within

  chosen_within : (i : ℕ) → chosen s ≡ some i → i < s.directed.moving.count
  unfolding chosen
  chosen_within i e = go (all_odd (disks s)) refl e
    where
      go : (b : Bool) → all_odd (disks s) ≡ b → cond b (chosen_on_pair s) (chosen_on_ring s) ≡ some i → i < s.directed.moving.count
      go true odd f = (smallest-says s.directed.moving.count (λ k. on_pair s.turn (peg_of s k)) i f).within
      go false odd f = on_ring_lem (sweeping (common (disks s)) s.turn) i odd f

  common_two : all_odd (disks s) ≡ false → 2 ≤ common (disks s)
  common_two odd = radix_two (disks s) 0 (unlocked_two (survey s)) (some_disk (disks s) odd)

  pegs_kept : (i : ℕ)
      → i < s.directed.moving.count
      → all_odd (disks s) ≡ false
      → (k : ℕ)
      → k < length (disks s)
      → get_or (pegs_after s i) k 0 ≤ common (disks s)
  pegs_kept i in-game e k h =
      let l = many in
      let n = long in
      let few = unlocked_most (survey s) in
      let most = says.word.most in
      let m = common (disks s) in
      let p = get_or s.pegs i 0 in
      rw e
      (set-kept s.pegs i (peg_after m i p) m k (omega arith) (peg_kept m i p (says.within e i (omega arith))) (says.within e k h))

  move_kept : (i : ℕ) → i < s.directed.moving.count → in_range (move_of s i).state ≡ true
  unfolding move_of digit_moved
  move_kept i h =
      let d = disk_digit s says a.directed.radices i h in
      let number = d.number in
      let index : digit_of s i - 1 ≡ d.index = omega arith in
      let inside = d.within in
      says_range (move_of s i).state
      (record {
        word =
            word-says open_check (digit_moved s.directed (digit_of s i))
            (move_keeps_range open_check s.directed (digit_of s i) a.directed (omega arith) (omega arith) (rw index d.two)
            (says-word open_check s.directed says.word));
        turns = turn_kept (all_odd (disks s)) (common (disks s)) s.turn common_two says.turns;
        within = pegs_kept i h;
      })

  -- every call on a state in range hands one back
  pub range_kept : in_range (step_of s).state ≡ true
  unfolding step_of
  range_kept = ap (λ b. in_range (cond (not b) (refused_with 7 s) (move_by s (chosen s))).state) ranged ∙ go (chosen s) refl
    where
      go : (c : Option ℕ) → chosen s ≡ c → in_range (move_by s c).state ≡ true
      go none e = ranged
      go (some i) e = move_kept i (chosen_within i e)

  -- and its arrays keep their lengths
  length_pegs : (i : ℕ) → length (pegs_after s i) ≡ 48
  length_pegs i = go (all_odd (disks s))
    where
      go : (b : Bool) → length (cond b s.pegs (set s.pegs i (peg_after (common (disks s)) i (get_or s.pegs i 0)))) ≡ 48
      go true = a.pegs
      go false = length-set s.pegs i (peg_after (common (disks s)) i (get_or s.pegs i 0)) ∙ a.pegs

  pub arrays_kept : Arrays (step_of s).state
  unfolding step_of move_of
  arrays_kept = rw ranged (go (chosen s))
    where
      go : (c : Option ℕ) → Arrays (move_by s c).state
      go none = a
      go (some i) = record { directed = move_keeps_rooms s.directed (digit_of s i) a.directed; pegs = length_pegs i }

-- A move names the notch it reaches, from every state there is, made-up ones too: the notch answered is the digit's in the setting
-- handed back, one on from its notch before in the direction answered; and no other digit has moved.
pub moves_name_their_notch : (s : Towers)
    → Arrays s
    → (c : Change) (notch : ℕ)
    → (step_of s).answer ≡ given (moved c notch)
    → NamesNotch c notch (setting s) (setting (step_of s).state)
unfolding step_of move_of
moves_name_their_notch s a c notch = go (in_range s) refl
  where
    by : (ranged : in_range s ≡ true) (o : Option ℕ)
        → chosen s ≡ o
        → (move_by s o).answer ≡ given (moved c notch)
        → NamesNotch c notch (setting s) (setting (move_by s o).state)
    by ranged none e says = impossible (cc)
    by ranged (some i) e says =
        let d = disk_digit s (range_says s ranged) a.directed.radices i (chosen_within s a ranged i e) in
        let number = d.number in
        let inside = d.within in
        move_names_its_notch open_check s.directed (digit_of s i) a.directed (omega arith) (omega arith)
        (range_says s ranged).word
        c
        notch
        says

    go : (b : Bool)
        → in_range s ≡ b
        → (cond (not b) (refused_with 7 s) (move_by s (chosen s))).answer ≡ given (moved c notch)
        → NamesNotch c notch (setting s) (setting (cond (not b) (refused_with 7 s) (move_by s (chosen s))).state)
    go true ranged says = by ranged (chosen s) refl says
    go false out says = impossible (cc)

-- for odd radices a call on other pegs does the same, and hands them back as they came
module _ (s : Towers) (pegs : List ℕ) (e : all_odd (disks s) ≡ true) where
  range_same : in_range (with_pegs pegs s) ≡ in_range s
  unfolding in_range
  range_same = rw e

  chosen_same : chosen (with_pegs pegs s) ≡ chosen s
  unfolding chosen peg_of
  chosen_same = rw e

  abbrev otherwise : Handed Towers Event → Handed Towers Event
  otherwise h = record { state = with_pegs pegs h.state; answer = h.answer }

  move_same : (c : Option ℕ) → move_by (with_pegs pegs s) c ≡ otherwise (move_by s c)
  unfolding move_of
  move_same none = refl
  move_same (some i) = rw e

  pub odd_ignores_pegs : step_of (with_pegs pegs s) ≡ record { state = with_pegs pegs (step_of s).state; answer = (step_of s).answer }
  unfolding step_of
  odd_ignores_pegs = rw (range_same, chosen_same) (go (in_range s))
    where
      go : (b : Bool)
          → cond (not b) (refused_with 7 (with_pegs pegs s)) (move_by (with_pegs pegs s) (chosen s))
          ≡ otherwise (cond (not b) (refused_with 7 s) (move_by s (chosen s)))
      go true = move_same (chosen s)
      go false = refl

-- a closed game has no survey: every call on it gets 7
pub closed_gets_7 : step_of closed_towers ≡ refused_with 7 closed_towers
unfolding step_of in_range word_in_range fresh
closed_gets_7 = refl
