-- Walks that are picked up at a setting (document 02, "Pick up a survey at a given setting"): which are, and what they do from there.
use Rattle.std.specs.Prelude.{ℕ, suc, ◌+◌, ◌-◌, ◌*◌, ◌≤◌, ◌<◌, ◌≡◌, ◌↔◌, true, false, not, List, length}
use Rattle.std.proofs.Math.Decide.{dec_lt}
use Rattle.std.proofs.Common.{zero-add, arith, sym, subst, ◌∙◌}
use Rattle.std.proofs.Math.Path.{refl, ap}
use Rattle.std.proofs.lemmas.Bool.{not-false}
use Rattle.gray_theory.specs.Answers.{Answer, given, refused, refusing}
use Rattle.gray_theory.specs.Radices.{digits, size}
use Rattle.gray_theory.specs.Words.{is_word, rank}
use Rattle.gray_theory.proofs.Ranks.{rank_below, word_at_of_rank}
use Rattle.gray_theory.specs.Arrays.{filled}
use Rattle.gray_theory.specs.Locks.{unlocked}
use Rattle.gray_theory.proofs.Sizes.{size_pos}
use Rattle.gray_theory.specs.Indexed.{downs_at}
use Rattle.gray_theory.proofs.Unlocked.{size-unlocked}
use Rattle.gray_theory.specs.Capacities.{Openable}
use Rattle.gray_theory.proofs.Refusals.{passed, within_openable, openable_passes, refused_alike}
use Rattle.gray_theory.proofs.Openings.{opening_answers_its_check, accepted_opening_opens, refused_opening_keeps}
use Rattle.gray_theory.specs.Engines.{move_at, ended}
use Rattle.ahead_theory.specs.States.{Walk, open_check}
use Rattle.ahead_theory.specs.Calls.{fresh, open_of}
use Rattle.ahead_theory.specs.Events.{state, answer}
use Rattle.ahead_theory.specs.Pickups.{resume_check, unfilled, fill, downs_from_start, picked_up, resume_of}
use Rattle.ahead_theory.specs.GoingOn.{GoesOn, Does, Does.names, Does.is_end_lem, Does.is_dry, KeepsToTheList, rebuffered, Agrees}
use Rattle.ahead_theory.proofs.Openings.{opens_exactly, opens_fresh}
use Rattle.ahead_theory.proofs.Positions.{buffered}
use Rattle.ahead_theory.proofs.Canonical.{same_walk}
use Rattle.ahead_theory.specs.Rounds.{running}
use Rattle.ahead_theory.specs.Filling.{reach}
use Rattle.ahead_theory.proofs.Filling.{reach_some, filled_ahead_lem, filled_position, ahead_filled, fill_within}
use Rattle.ahead_theory.proofs.Standing.{Placed}
use Rattle.ahead_theory.proofs.Clauses.{keeps_to_the_list, queued_is_not_dry, goes_on, stands_after, fresh-placed, fresh_ahead}

-- ---- the walk from the start
-- the state that it comes to after t calls, with places enough
module _ (ms : List ℕ) (c : ℕ) (v : Openable ms c) (enough : length (unlocked ms) ≤ 2 * c) where
  fresh_goes_on : GoesOn ms 0 (fresh ms c)
  fresh_goes_on =
      let pos = size_pos ms v.survey.one in
      goes_on ms c (size ms - 1) v (omega arith) 0 (fresh ms c) (fresh-placed ms c v) enough (fresh_ahead ms c v)

  fresh_at : (t : ℕ) → t < size ms → Placed ms c t (state (fresh ms c) t)
  fresh_at t below =
      let pos = size_pos ms v.survey.one in
      subst (λ (j : ℕ). Placed ms c j (state (fresh ms c) t)) (zero-add t)
      (stands_after ms c (size ms - 1) v (omega arith) 0 (fresh ms c) (fresh-placed ms c v) enough (fresh_ahead ms c v) t (omega arith))

-- its directions at rank r: each digit has turned as often as its radix divides one more than the rank of the slower digits and its own
pub downs_from_start_lem : (ms : List ℕ) (c : ℕ) → Openable ms c → (r : ℕ) → r < size ms → downs_from_start ms r ≡ filled 48 false (downs_at ms r)
downs_from_start_lem ms c v r below =
    let most = (buffered v).most in
    let wide : Openable ms 32 = record { survey = v.survey; place = omega arith; capacity = omega arith } in
    ap (λ (u : Walk). u.directed.downs) (fresh_at ms 32 wide (omega arith) r below).is_state

-- ---- the state
module _ (ms : List ℕ) (c : ℕ) (v : Openable ms c) (word : List ℕ) (is_IsWord : is_word ms word ≡ true) where
  abbrev r : ℕ
  r = rank ms word

  abbrev q : ℕ
  q = reach (unlocked ms) c r

  below : r < size ms
  below = rank_below ms word is_IsWord

  below_moving : r < size (unlocked ms)
  below_moving = rw (size-unlocked ms v.survey.one) below

  -- its buffer holds the next entries, the fewer of c and N − rank, and no useful step is counted
  pub picked_up_is : picked_up ms c word ≡ running ms c 0 r q 0
  unfolding picked_up
  picked_up_is =
      let word-is = ap (filled 48 0) (sym (word_at_of_rank ms word is_IsWord)) in
      let downs_are = downs_from_start_lem ms c v r below in
      same_walk (cc (word-is, downs_are)) (filled_ahead_lem (unlocked ms) c (buffered v) r below_moving) refl

  placed : Placed ms c r (picked_up ms c word)
  placed =
      record {
        s = 0;
        k = q;
        p = 0;
        at = filled_position (unlocked ms) c (buffered v) r below_moving;
        below = below;
        low = omega arith;
        is_state = picked_up_is;
      }

  last_is : size ms ≡ suc (size ms - 1)
  last_is = let less = below in omega arith

  keeps : KeepsToTheList ms c r (picked_up ms c word)
  keeps = keeps_to_the_list ms c (size ms - 1) v last_is r (picked_up ms c word) placed

  first_not_dry : answer (picked_up ms c word) 1 ≡ refused 10 → ⊥
  unfolding placed
  first_not_dry =
      queued_is_not_dry ms c (size ms - 1) v last_is r (picked_up ms c word) placed (reach_some (unlocked ms) c (buffered v) r below_moving)

  goes : length (unlocked ms) ≤ 2 * c → GoesOn ms r (picked_up ms c word)
  unfolding placed
  goes enough =
      goes_on ms c (size ms - 1) v last_is r (picked_up ms c word) placed enough (ahead_filled (unlocked ms) c (buffered v) r below_moving enough)

  -- and the walk from the start with c' places
  module _ (c' : ℕ) (v' : Openable ms c') (enough' : length (unlocked ms) ≤ 2 * c') where
    same_later : length (unlocked ms) ≤ 2 * c → (t : ℕ) → 1 ≤ t → answer (picked_up ms c word) t ≡ answer (fresh ms c') (r + t)
    same_later enough t low =
        let g = goes enough in
        let f = fresh_goes_on ms c' v' enough' in
        elim (dec_lt (r + t) (size ms)) [
          | yes more ↦
              (g.moves t low more).answers
              ∙ ap (λ (j : ℕ). given (move_at ms j)) (sym (zero-add (r + t)))
              ∙ sym (f.moves (r + t) (omega arith) (omega arith)).answers
          | no past ↦ g.end t (omega arith) ∙ sym (f.end (r + t) (omega arith))
        ]

    agrees : Agrees ms c r (picked_up ms c word) (fresh ms c')
    agrees =
        let there = (fresh_at ms c' v' enough' r below).is_state in
        record {
          here =
              picked_up_is
              ∙ ap (λ (u : Walk). rebuffered u c (running ms c 0 r q 0).producer) (sym there)
              ∙ ap (λ (u : Walk). rebuffered (state (fresh ms c') r) c u.producer) (sym picked_up_is);
          later = same_later;
        }

-- ---- the call
resumable : (ms : List ℕ) (c : ℕ) (word : List ℕ) → resume_check ms c word ≡ given tt → Openable ms c × (is_word ms word ≡ true)
resumable ms c word e =
    let (o, rest) = within_openable ms c (refusing 8 (not (is_word ms word)) (given tt)) tt e in
    (o, not-false (is_word ms word) (passed 8 (not (is_word ms word)) (given tt) tt rest).0)

passes : (ms : List ℕ) (c : ℕ) (word : List ℕ) → Openable ms c → is_word ms word ≡ true → resume_check ms c word ≡ given tt
passes ms c word o e = openable_passes ms c (refusing 8 (not (is_word ms word)) (given tt)) o ∙ rw e

module _ (w : Walk) (radices : List ℕ) (c : ℕ) (word : List ℕ) where
  abbrev opened : Walk
  opened = picked_up (digits radices) c (digits word)

  abbrev check : Answer Unit
  check = resume_check (digits radices) c (digits word)

  answers_check : (resume_of w radices c word).answer ≡ check
  unfolding resume_of
  answers_check = opening_answers_its_check _ _ check

  -- it is accepted exactly if survey and capacity could be opened and the word is a setting of the survey
  pub resumes_exactly : ((resume_of w radices c word).answer ≡ given tt)
      ↔ (Openable (digits radices) c × (is_word (digits radices) (digits word) ≡ true))
  resumes_exactly = (
    λ e. resumable (digits radices) c (digits word) (sym answers_check ∙ e),
    λ o. answers_check ∙ passes (digits radices) c (digits word) o.0 o.1,
  )

  -- it then hands back the picked-up state, whatever state it was made on
  pub resumes_picked_up : (resume_of w radices c word).answer ≡ given tt → (resume_of w radices c word).state ≡ opened
  unfolding resume_of
  resumes_picked_up = accepted_opening_opens _ _ check

  -- a refused one hands back the state as it came
  pub refused_resuming_keeps_the_state : (k : ℕ) → (resume_of w radices c word).answer ≡ refused k → (resume_of w radices c word).state ≡ w
  unfolding resume_of
  refused_resuming_keeps_the_state = refused_opening_keeps _ _ check

  -- a survey and a capacity that opening refuses get the same number here, whatever the word is
  pub refused_as_opening : (k : ℕ) → (open_of w radices c).answer ≡ refused k → (resume_of w radices c word).answer ≡ refused k
  unfolding open_of
  refused_as_opening k e =
      let ms = digits radices in
      answers_check
      ∙ refused_alike ms c tt (refusing 8 (not (is_word ms (digits word))) (given tt)) k
      (sym (opening_answers_its_check _ _ (open_check c ms)) ∙ e)

  -- where opening accepts them, a word that is no setting gets 8
  pub wrong_setting_gets_8 : Openable (digits radices) c
      → is_word (digits radices) (digits word) ≡ false
      → (resume_of w radices c word).answer ≡ refused 8
  wrong_setting_gets_8 o e =
      let ms = digits radices in
      answers_check ∙ openable_passes ms c (refusing 8 (not (is_word ms (digits word))) (given tt)) o ∙ rw e

-- ---- what is promised
-- Every walk that is picked up, with places for half of the digits that move, rounded up, goes on from the rank of its setting: each
-- call names the list's next change, from the call after the last on every call answers end, and none is dry.
pub picked_up_walks_go_on : (w : Walk) (radices : List ℕ) (c : ℕ) (word : List ℕ)
    → (resume_of w radices c word).answer ≡ given tt
    → length (unlocked (digits radices)) ≤ 2 * c
    → GoesOn (digits radices) (rank (digits radices) (digits word)) (resume_of w radices c word).state
picked_up_walks_go_on w radices c word accepted enough =
    let (v, is_IsWord) = (resumes_exactly w radices c word).0 accepted in
    rw (resumes_picked_up w radices c word accepted) (goes (digits radices) c v (digits word) is_IsWord enough)

-- With fewer places every move that it makes is the list's all the same, and a call that makes none is the end or dry. Whatever the
-- capacity, the queue never holds more than c entries and no call gets 7.
pub picked_up_walks_keep_to_the_list : (w : Walk) (radices : List ℕ) (c : ℕ) (word : List ℕ)
    → (resume_of w radices c word).answer ≡ given tt
    → KeepsToTheList (digits radices) c (rank (digits radices) (digits word)) (resume_of w radices c word).state
picked_up_walks_keep_to_the_list w radices c word accepted =
    let (v, is_IsWord) = (resumes_exactly w radices c word).0 accepted in
    rw (resumes_picked_up w radices c word accepted) (keeps (digits radices) c v (digits word) is_IsWord)

-- At the last setting the first call is the end, whatever the capacity.
pub last-setting-ends_at_once : (w : Walk) (radices : List ℕ) (c : ℕ) (word : List ℕ)
    → (resume_of w radices c word).answer ≡ given tt
    → suc (rank (digits radices) (digits word)) ≡ size (digits radices)
    → answer (resume_of w radices c word).state 1 ≡ given ended
last-setting-ends_at_once w radices c word accepted last =
    let (v, is_IsWord) = (resumes_exactly w radices c word).0 accepted in
    rw (resumes_picked_up w radices c word accepted)
    (by (first_not_dry (digits radices) c v (digits word) is_IsWord) ((keeps (digits radices) c v (digits word) is_IsWord).calls 1 (omega arith)))
  where
    by : {u : Walk} → (answer u 1 ≡ refused 10 → ⊥) → Does (digits radices) (rank (digits radices) (digits word)) u 1 → answer u 1 ≡ given ended
    by some (names less n) = absurd (omega arith)
    by some (is_end_lem past e) = e
    by some (is_dry e same) = absurd (some e)

-- It is where the walk from the start comes to, at any capacity that is enough for that: the two differ in their buffers alone.
pub picked_up_agrees : (w f : Walk) (radices : List ℕ) (c d : ℕ) (word : List ℕ)
    → (resume_of w radices c word).answer ≡ given tt
    → (open_of f radices d).answer ≡ given tt
    → length (unlocked (digits radices)) ≤ 2 * d
    → Agrees (digits radices) c (rank (digits radices) (digits word)) (resume_of w radices c word).state (open_of f radices d).state
picked_up_agrees w f radices c d word accepted opened enough =
    let (v, is_IsWord) = (resumes_exactly w radices c word).0 accepted in
    let v' = (opens_exactly f radices d).0 opened in
    rw (resumes_picked_up w radices c word accepted, opens_fresh f radices d opened)
    (agrees (digits radices) c v (digits word) is_IsWord d v' enough)

-- After each work step of the filling, too, the queue holds at most c entries.
pub filling_keeps_the_capacity : (ms : List ℕ) (c r f : ℕ) → (fill ms c f (unfilled ms r)).queued ≤ c
filling_keeps_the_capacity ms c r f = fill_within ms c f (unfilled ms r) (omega arith)
