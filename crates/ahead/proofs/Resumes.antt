-- What picking up hands back at a word that passes its checks. Assumes nothing.
use Prim.Native.Nat.{ℕ, ◌-◌, ◌≤◌, ◌<◌, min}
use native.Mathlib.Decide.{dec_lt}
use native.Mathlib.Omega.{arith}
use mathlib.Core.Path.{◌≡◌, sym, ap, ap₂, subst, ◌∙◌}
use mathlib.Core.Bool.{true, false, cond, not}
use mathlib.Core.List.{List}
use borrow.Author.Tests.{lt-ltb, le-ltb}
use lib.Dec.{ltb}
use lib.ListN.{length, take, replicate, length-reverse}
use Rattle.gray_theory.specs.Answers.{given, refusing}
use Rattle.gray_theory.specs.Radices.{digits, size, mixed_digits}
use Rattle.gray_theory.specs.Words.{is_word, rank}
use Rattle.gray_theory.proofs.Ranks.{rank_below}
use Rattle.gray_theory.proofs.Digits.{word_long}
use Rattle.gray_theory.specs.Indexed.{downs_at}
use Rattle.gray_theory.specs.Arrays.{digit_array, filled}
use Rattle.gray_theory.proofs.Filled.{digit_array_lem, take-filled}
use Rattle.gray_theory.specs.Locks.{MovingDigits, unlocked, moving_digits, moving_in_range}
use Rattle.gray_theory.proofs.Unlocked.{size-unlocked, unlocked_most, says-moving, moving_stored}
use Rattle.gray_theory.specs.Engines.{open_with}
use Rattle.gray_theory.specs.Capacities.{Openable}
use Rattle.gray_theory.proofs.WordRanges.{array_whole, moving_whole}
use Rattle.gray_theory.proofs.Refusals.{openable_passes}
use Rattle.ahead_theory.specs.States.{Walk}
use Rattle.ahead_theory.proofs.Counters.{length-mixed_digits}
use Rattle.ahead_theory.specs.Pickups.{filled_at, downs_from_start, standing, picked_up, resume_of}
use Rattle.ahead_theory.proofs.PickedUp.{downs_from_start_lem}
use Rattle.ahead.specs.Pickups.{RankedWord, unfilled_with, Unfilled, filled_ahead}
use Rattle.ahead.proofs.Openings.{few_digits}
use Rattle.ahead.proofs.Stands.{zero-filled}

-- the less of two numbers
cut_is : (a b : ℕ) → min a b ≡ cond (ltb a b) a b
cut_is a b =
    elim (dec_lt a b) [
      | yes h ↦ rw (lt-ltb a b h) (omega arith)
      | no h ↦ rw (le-ltb a b (omega arith)) (omega arith)
    ]

-- a survey, its N, a word of it, its rank, and the arrays that the code makes of them
pub record Resumable (l word : List ℕ) (c total r : ℕ) (radices : List ℕ) (moving : MovingDigits) (notches : List ℕ) : Type 0 where
  pub opens : Openable (digits l) c
  pub whole : total ≡ size (digits l)
  pub proper : is_word (digits l) (digits word) ≡ true
  pub ranks : r ≡ rank (digits l) (digits word)
  pub radices_is : radices ≡ digit_array l
  pub moving_is : moving ≡ moving_digits (take 48 (take (length l) radices))
  pub notches_is : notches ≡ digit_array word

module _
    (l word : List ℕ) (c total r : ℕ) (radices : List ℕ) (moving : MovingDigits) (notches : List ℕ)
    (p : Resumable l word c total r radices moving notches)
  where
    few : length l ≤ 48
    few = few_digits l c p.opens

    rank_small : r < size (digits l)
    rank_small = let below = rank_below (digits l) (digits word) p.proper in let ranks = p.ranks in omega arith

    taken : take (length l) radices ≡ digits l
    taken =
        ap₂ take (sym (length-reverse l)) (array_whole l few radices p.radices_is)
        ∙ take-filled 48 0 (digits l)

    numbers : moving ≡ moving_digits (digits l)
    numbers = moving_whole l few radices p.radices_is moving p.moving_is

    long : length word ≡ length l
    long = word_long l word p.proper

    setting : notches ≡ filled 48 0 (digits word)
    setting = let most = few in let same = long in p.notches_is ∙ digit_array_lem word (omega arith)

    word_taken : take (length l) notches ≡ digits word
    word_taken = ap₂ take (sym long ∙ sym (length-reverse word)) setting ∙ take-filled 48 0 (digits word)

    -- what the code asks for on its way
    pub stands_at : (length l ≤ 48) × RankedWord (take (length l) radices) (take (length l) notches) r
    stands_at = (few, record { proper = ap₂ is_word taken word_taken ∙ p.proper; ranks = p.ranks ∙ sym (ap₂ rank taken word_taken) })

    pub rank_within : r ≤ total
    rank_within = let below = rank_small in let whole = p.whole in omega arith

    module _ (stood : Walk) (s : stood ≡ unfilled_with radices (length l) moving c notches r) where
      pub resume_unfilled : (entries : ℕ) → entries ≡ min (total - r) c → Unfilled stood entries
      resume_unfilled entries e =
          let ms = take (length l) radices in
          let same : size (unlocked ms) ≡ size (digits l) =
          ap (λ t. size (unlocked t)) taken ∙ size-unlocked (digits l) p.opens.survey.one in
          let below = rank_small in
          let places = length-mixed_digits (unlocked ms) r in
          let free = unlocked_most ms in
          let all = ap length taken in
          let long = length-reverse l in
          let most = few in
          subst (λ w. Unfilled w entries) (sym s)
          (record {
            most = most;
            opens = subst (λ t. Openable t c) (sym taken) p.opens;
            moving = ap₂ moving_in_range taken numbers ∙ says-moving (digits l) (moving_digits (digits l)) (moving_stored (digits l));
            below = omega arith;
            empty =
                ap (λ t. record { counter = t; place = 1; queue = replicate 32 0; queued = 0; steps = 0 })
                (sym (zero-filled (mixed_digits (unlocked ms) r) (omega arith)));
            full = e ∙ cut_is (total - r) c ∙ ap (λ k. cond (ltb (k - r) c) (k - r) c) (p.whole ∙ sym same);
          })

      pub resuming_given : (w resumed : Walk) → resumed ≡ filled_ahead stood → record { state = resumed; answer = given tt } ≡ resume_of w l c word
      unfolding resume_of picked_up
      resuming_given w resumed e =
          let ms = digits l in
          let in_array = array_whole l few radices p.radices_is in
          let count = sym (length-reverse l) in
          let downs : filled 48 false (downs_at (take (length l) radices) r) ≡ downs_from_start ms r =
          ap (λ t. filled 48 false (downs_at t r)) taken ∙ sym (downs_from_start_lem ms c p.opens r rank_small) in
          let buffer : filled_at (unlocked (take (length l) radices)) c r ≡ filled_at (unlocked ms) c r = ap (λ t. filled_at (unlocked t) c r) taken in
          let there : filled_ahead (unfilled_with radices (length l) moving c notches r) ≡ standing ms c (digits word) r =
          λ i.
          record {
            directed = record { radices = in_array i; n = count i; moving = numbers i; word = setting i; downs = downs i };
            producer = buffer i;
            capacity = c;
            moves = r;
            ended = false;
          } in
          ap (λ t. record { state = t; answer = given tt }) (e ∙ ap filled_ahead s ∙ there ∙ ap (standing ms c (digits word)) p.ranks)
          ∙ ap (open_with w (picked_up ms c (digits word)))
          (sym (openable_passes ms c (refusing 8 (not (is_word ms (digits word))) (given tt)) p.opens
          ∙ ap (λ b. refusing 8 (not b) (given tt)) p.proper))
