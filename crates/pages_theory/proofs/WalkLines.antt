-- The lines of a walk with half as many places as digits move: they are the list's, and none has more than 254 bytes.
use Prim.Native.Nat.{ℕ, zero, suc, ◌+◌, ◌-◌, ◌*◌, ◌≤◌, ◌<◌}
use Rattle.std.proofs.Common.{arith, ap₂, ◌∙◌, eq-eqb, ne_eqb, length-append, take_all}
use Rattle.std.proofs.Math.Decide.{dec_lt}
use Rattle.std.specs.Prelude.{◌≡◌, Bool, true, false, cond, eqb, leb, length, get_or, take}
use Rattle.std.proofs.Math.Path.{refl, sym, ap, subst}
use mathlib.Core.List.{List, [], ◌∷◌, ◌++◌, append_assoc, reverse-cons}
use Rattle.std.proofs.lemmas.List.{length-reverse}
use Rattle.gray_theory.specs.Answers.{Answer, given, refused, refusing}
use Rattle.gray_theory.specs.Radices.{digits, size, Limits}
use Rattle.gray_theory.specs.Capacities.{wrong_capacity, Openable}
use Rattle.gray_theory.specs.Words.{member}
use Rattle.gray_theory.specs.Changes.{change, Change}
use Rattle.gray_theory.specs.Calls.{size_call}
use Rattle.gray_theory.specs.Locks.{unlocked, moving}
use Rattle.gray_theory.specs.Engines.{ended, open_with, after}
use Rattle.gray_theory.specs.Bools.{impossible}
use Rattle.gray_theory.proofs.Refusals.{accepted, radices_refused}
use Rattle.gray_theory.proofs.Ranks.{rank_of_member}
use Rattle.gray_theory.proofs.Digits.{is_word-length}
use Rattle.gray_theory.proofs.Rulers.{change_is_ruler}
use Rattle.gray_theory.proofs.Unlocked.{length-moving, unlocked_more, unlocked_most}
use Rattle.ahead_theory.specs.States.{Walk, setting}
use Rattle.ahead_theory.specs.Calls.{Course, faulty, over, dry, removing, course, twice, dequeued, end_of, move_of, step_by, step_of, fresh, closed_walk, open_of}
use Rattle.ahead_theory.specs.Events.{state, answer}
use Rattle.ahead_theory.specs.Demand.{WalksTheList}
use Rattle.ahead_theory.proofs.Openings.{opens_exactly}
use Rattle.ahead_theory.proofs.WorkAhead.{fresh_walks_work_ahead}
use Rattle.text_theory.specs.Lines.{setting_text, line_text, sized_line, survey_line}
use Rattle.text_theory.specs.Output.{move_lines}
use Rattle.text_theory.specs.declared.Line.{Line}
use Rattle.text_theory.specs.declared.Line.TheVariants.{Moved, End}
use Rattle.pages_theory.specs.Pages.{Printing, text_of, half_of, printing_of, is_last, call_line, called, behind}
use Rattle.pages_theory.proofs.Lengths.{setting-length, end-length, moved_length}
use Rattle.pages_theory.proofs.PageLaws.{Prints, ends, goes_on}

-- ---- half of the digits that move
record Half (count : ℕ) : Type 0 where
  pub some : 1 ≤ half_of count
  pub enough : count ≤ 2 * half_of count
  pub most : 2 * half_of count ≤ count + 2

half : (count : ℕ) → Half count
half count =
    elim (dec_lt 0 count) [
      | yes h ↦
          let some = ne_eqb count 0 (λ z. omega arith) in
          record { some = rw some (omega arith); enough = rw some (omega arith); most = rw some (omega arith) }
      | no n ↦
          let none = eq-eqb count 0 (omega arith) in
          record { some = rw none (omega arith); enough = rw none (omega arith); most = rw none (omega arith) }
    ]

-- as many move in either order
one_more : (moves : Bool) (m : ℕ) (l : List ℕ) → length (l ++ cond moves (m ∷ []) []) ≡ length (cond moves (m ∷ l) l)
one_more true m l = omega (arith, length-append l (m ∷ []))
one_more false m l = omega (arith, length-append l [])

more_of : (moves : Bool) (m : ℕ) (k l : List ℕ) → length k ≡ length l → length (cond moves (m ∷ k) k) ≡ length (cond moves (m ∷ l) l)
more_of true m k l e = ap suc e
more_of false m k l e = e

moving-reverse : (ms : List ℕ) → length (unlocked (digits ms)) ≡ length (unlocked ms)
unfolding unlocked
moving-reverse [] = refl
moving-reverse (m ∷ ms) =
    ap (λ l. length (unlocked l)) (reverse-cons m ms)
    ∙ ap length (unlocked_more (digits ms) m)
    ∙ one_more (leb 2 m) m (unlocked (digits ms))
    ∙ more_of (leb 2 m) m (unlocked (digits ms)) (unlocked ms) (moving-reverse ms)

-- ---- the opening
-- a survey that is refused by itself is opened with no capacity
stays_closed : (radices : List ℕ) (k c : ℕ) → size_call radices ≡ refused k → (open_of closed_walk radices c).state ≡ closed_walk
unfolding open_of
stays_closed radices k c e =
    ap (λ a. (open_with closed_walk (fresh (digits radices) c) a).state) (radices_refused radices k (refusing 5 (wrong_capacity c) (given tt)) e)

too_many_lem : (radices : List ℕ) (a : Answer ℕ) (c d : ℕ) → size_call radices ≡ a → 48 < length radices
    → (open_of closed_walk radices c).state ≡ (open_of closed_walk radices d).state
too_many_lem radices (given n) c d e h = absurd (omega (arith, (accepted radices n e).most))
too_many_lem radices (refused k) c d e h = stays_closed radices k c e ∙ sym (stays_closed radices k d e)

-- so the digits that move may be counted among the first 48
pub counted_among_48 : (radices : List ℕ)
    → (open_of closed_walk radices (half_of (length (moving (take 48 radices))))).state ≡ (printing_of radices).walk
unfolding printing_of
counted_among_48 radices =
    elim (dec_lt 48 (length radices)) [
      | yes many ↦ too_many_lem radices (size_call radices) _ _ refl many
      | no few ↦
          ap (λ k. (open_of closed_walk radices (half_of k)).state)
          (ap (λ l. length (moving l)) (take_all 48 radices (omega arith)) ∙ length-moving radices)
    ]

-- ---- a walk of at most 4,096 settings, as it is printed
pub record Walked (ms : List ℕ) (w : Walk) : Type 0 where
  pub limits : Limits ms
  pub short : size ms ≤ 4096
  pub start : setting w ≡ member ms 0
  pub walks : WalksTheList ms w

pub walked : (radices : List ℕ) (total : ℕ) → size_call radices ≡ given total → total ≤ 4096 → Walked (digits radices) (printing_of radices).walk
unfolding printing_of
walked radices total e short =
    let ms = digits radices in
    let a = accepted radices total e in
    let long = length-reverse radices in
    let some = a.some in
    let most = a.most in
    let same = moving-reverse radices in
    let few = unlocked_most ms in
    let c = half_of (length (unlocked radices)) in
    let h = half (length (unlocked radices)) in
    let enough = h.enough in
    let places = h.most in
    let limits : Limits ms = record { some = omega arith; most = omega arith; one = a.one; limit = a.limit } in
    let opens : Openable ms c = record { survey = limits; place = h.some; capacity = omega arith } in
    let works = fresh_walks_work_ahead closed_walk radices c ((opens_exactly closed_walk radices c).1 opens) in
    record {
      limits = limits;
      short = omega (arith, a.whole);
      start = works.start;
      walks = works.never_dry (omega arith);
    }

-- a call that answers end has made no move
end_removes : (w : Walk) (b : Bool) (k : ℕ) → (cond b (end_of w (dequeued (twice w))) (move_of w k (dequeued (twice w)))).answer ≡ given ended
    → (cond b (end_of w (dequeued (twice w))) (move_of w k (dequeued (twice w)))).state.moves ≡ w.moves
unfolding end_of move_of
end_removes w true k e = refl
end_removes w false k e = impossible (cc)

end_stays : (w : Walk) (c : Course) → (step_by w c).answer ≡ given ended → (step_by w c).state.moves ≡ w.moves
end_stays w faulty e = refl
end_stays w over e = refl
end_stays w dry e = refl
end_stays w removing e =
    let k = get_or (twice w).queue 0 0 in
    end_removes w (eqb k (w.directed.moving.count + 1)) (get_or w.directed.moving.digits (k - 1) 0) e

end_keeps_the_moves : (w : Walk) → (step_of w).answer ≡ given ended → (step_of w).state.moves ≡ w.moves
unfolding step_of
end_keeps_the_moves w e = end_stays w (course w) e

-- ---- lines one by one
-- the first line of a survey
pub first_line_lem : (radices : List ℕ) (a : Answer ℕ) → size_call radices ≡ a → survey_line radices ≡ sized_line (length radices) a
unfolding survey_line
first_line_lem radices a e = ap (sized_line (length radices)) e

module _ (p : Printing) (line : Line) (e : p.line ≡ line) (text : List ℕ) (says : line_text line (setting p.walk) ≡ text)
    (short : length text ≤ 254) where
  says_so : text_of p ≡ text
  says_so = ap (λ l. line_text l (setting p.walk)) e ∙ says

  pub last_prints : is_last line ≡ true → Prints 254 0 p text
  last_prints last =
      let same = says_so in
      subst (λ t. Prints 254 0 p t) same (ends (ap is_last e ∙ last) (omega (arith, ap length same)))

  pub more_prints : (k : ℕ) (next : Printing) (rest : List ℕ) → is_last line ≡ false → behind line p.walk ≡ next → Prints 254 k next rest
      → Prints 254 (suc k) p (text ++ rest)
  more_prints k next rest more then prints =
      let same = says_so in
      subst (λ t. Prints 254 (suc k) p (t ++ rest)) same
      (goes_on (ap is_last e ∙ more) (omega (arith, ap length same))
      (subst (λ q. Prints 254 k q rest) (sym (ap (λ l. behind l p.walk) e ∙ then)) prints))

-- ---- the lines behind the start
module _ (ms : List ℕ) (w : Walk) (h : Walked ms w) where
  -- a setting is short
  pub member-length : (j : ℕ) → j < size ms → length (setting_text (member ms j)) ≤ 240
  member-length j below =
      let (word, r) = rank_of_member ms j below in
      let long = is_word-length ms (member ms j) word in
      let most = h.limits.most in
      omega (arith, setting-length ms (member ms j) word h.limits.one h.short)

  -- what the call after the first j answers
  call_after : (j : ℕ) → answer w (suc j) ≡ (step_of (state w j)).answer
  call_after j =
      let same : suc j - 1 ≡ j = omega arith in
      ap (λ i. (step_of (state w i)).answer) same

  end_prints : (j : ℕ) → suc j ≡ size ms → Prints 254 0 (called (state w j)) (line_text (End (size ms - 1)) [])
  unfolding line_text
  end_prints j last =
      let says : (step_of (state w j)).answer ≡ given ended = sym (call_after j) ∙ h.walks.end (suc j) (omega arith) in
      let made = end_keeps_the_moves (state w j) says ∙ h.walks.made j (omega arith) in
      let same : (step_of (state w j)).state.moves ≡ size ms - 1 = omega (arith, made) in
      let most = h.short in
      last_prints (called (state w j)) (End (size ms - 1)) (ap₂ call_line says same) (line_text (End (size ms - 1)) []) refl
      (end-length (size ms - 1) [] (omega arith))
      refl

  pub moves_print : (t j : ℕ) → suc (j + t) ≡ size ms
      → Prints 254 t (called (state w j)) (move_lines ms (suc j) t ++ line_text (End (size ms - 1)) [])
  unfolding move_lines after
  moves_print zero j all = end_prints j (omega arith)
  moves_print (suc t) j all =
      let names = h.walks.moves (suc j) (omega arith) (omega arith) in
      let made = h.walks.made (suc j) (omega arith) in
      let (ruled, moves, one, few) = change_is_ruler ms j (omega arith) in
      let digit = ap (λ (c : Change). c.digit) ruled in
      let most = h.limits.most in
      let small = h.short in
      let c = change ms (suc j) in
      let line = Moved (suc j) c.digit c.down in
      let text = line_text line (member ms (suc j)) in
      subst (λ l. Prints 254 (suc t) (called (state w j)) l)
      (sym (append_assoc text (move_lines ms (suc (suc j)) t) (line_text (End (size ms - 1)) [])))
      (more_prints (called (state w j)) line (ap₂ call_line (sym (call_after j) ∙ names.answers) made) text (ap (line_text line) names.hands_back)
      (moved_length (suc j) c.digit c.down (member ms (suc j)) (omega arith) (omega (arith, digit)) (member-length (suc j) (omega arith)))
      t (called (state w (suc j))) (move_lines ms (suc (suc j)) t ++ line_text (End (size ms - 1)) []) refl refl
      (moves_print t (suc j) (omega arith)))
