-- What a stage of an opening or of the range rule says, over plain lists, numbers and states. Assumes nothing.
use Prim.Native.Nat.{ℕ, suc, ◌+◌, ◌≤◌, ◌<◌}
use native.Mathlib.Omega.{arith}
use mathlib.Core.Path.{◌≡◌, refl, sym, ap, ap₂, subst, ◌∙◌}
use mathlib.Core.Bool.{Bool, true, false, cond, ◌&&◌, ◌||◌, not, and-eq-true_iff, and-true, and-false, not-not}
use mathlib.Core.List.{List, ◌∷◌}
use borrow.Author.Tests.{le-leb, lt-leb, leb-true, eqb-true}
use lib.Dec.{eqb, ltb, leb}
use Rattle.std.specs.Prelude.{Result, Ok, Err, is_err}
use lib.ListN.{length, get_or, take, length-reverse}
use lib.Seq.{length-take-le, get_or-take}
use Rattle.gray_theory.specs.Answers.{Answer, given, refused, refusing, is_given}
use Rattle.gray_theory.specs.Bools.{impossible}
use Rattle.gray_theory.specs.Radices.{digits}
use Rattle.gray_theory.specs.Locks.{MovingDigits, unlocked, moving_digits, moving_in_range}
use Rattle.gray_theory.proofs.Unlocked.{moving-says, says-moving, moving_stored, unlocked_most, unlocked_two}
use Rattle.gray_theory.proofs.Unlocked.{number_direct}
use Rattle.gray_theory.specs.Words.{even}
use Rattle.gray_theory.specs.Arrays.{digit_array}
use Rattle.gray_theory.specs.Directions.{all_below, digits_in_range}
use Rattle.gray_theory.specs.Calls.{size_call}
use Rattle.gray_theory.specs.DirectedWords.{fresh_with, word_in_range}
use Rattle.gray_theory.proofs.WordRanges.{DigitThere, digit_there, array_whole, fresh_from_lent}
use Rattle.gray_theory.specs.Engines.{refused_with, open_with}
use Rattle.gray_theory.proofs.DigitRanges.{all_below_same}
use Rattle.gray_theory.proofs.Filled.{take-filled, length-filled}
use Rattle.gray_theory.specs.Radices.{Limits}
use Rattle.gray_theory.proofs.Refusals.{within_limits, limits_pass, accepted, given_unless}
use Rattle.gray_theory.proofs.Refusals.{radices_accepted, survey_refused, survey_accepted}
use Rattle.gray.specs.Enums.{refusal_number, answer_as}
use Rattle.gray.specs.declared.Refusal.{Refusal}
use Rattle.towers_theory.specs.States.{Towers, common, wrong_counts, open_check, survey, disks, Arrays}
use Rattle.towers_theory.specs.States.{turn_in_range, pegs_in_range, in_range}
use Rattle.towers_theory.specs.Choices.{digit_of}
use Rattle.towers_theory.specs.Calls.{fresh_on, fresh, open_of}
use Rattle.towers_theory.proofs.Openings.{openable}
use Rattle.towers_theory.proofs.InRange.{range_says}
use Rattle.towers.specs.Stages.{limits_check, survey_fits, last_radix, plays, DigitAt}
use Rattle.towers.proofs.Plays.{playable_counts, counts_played, Leads, last_leads}

-- ---- the first part of the range rule
module _ (s : Towers) where
  pub digits-over : 48 < s.directed.n → false ≡ survey_fits s
  unfolding survey_fits
  digits-over h = sym (rw (lt-leb s.directed.n 48 h))

-- the code counts the digits as a wide number, and looks at the first k places of its array
module _ (s : Towers) (k : ℕ) (wide : k ≡ s.directed.n) where
  same_survey : take k s.directed.radices ≡ survey s
  same_survey = ap (λ j. take j s.directed.radices) wide

  pub radices_refused : (o : Result ℕ Refusal) → answer_as o ≡ size_call (take k s.directed.radices) → is_err o ≡ true → false ≡ survey_fits s
  unfolding survey_fits
  radices_refused (Ok total) e f = impossible (cc)
  radices_refused (Err r) e f =
      let right = moving_in_range (survey s) s.directed.moving in
      let fails : is_given (limits_check (survey s)) ≡ false =
      survey_refused (survey s) (given tt) (refusal_number r) (ap size_call (sym same_survey) ∙ sym e) in
      sym (ap (λ b. leb s.directed.n 48 && b && right) fails ∙ ap (λ b. b && right) (and-false (leb s.directed.n 48)))

  pub moving_decides : (o : Result ℕ Refusal) (ok : Bool)
      → s.directed.n ≤ 48
      → answer_as o ≡ size_call (take k s.directed.radices)
      → is_err o ≡ false
      → ok ≡ moving_in_range (survey s) s.directed.moving
      → ok ≡ survey_fits s
  unfolding survey_fits
  moving_decides (Err r) ok most e f tested = impossible (cc)
  moving_decides (Ok total) ok most e f tested =
      let passes : is_given (limits_check (survey s)) ≡ true =
      ap is_given (survey_accepted (survey s) (given tt) total (ap size_call (sym same_survey) ∙ sym e)) in
      tested
      ∙ sym (ap₂ (λ a b. a && b && moving_in_range (survey s) s.directed.moving) (le-leb s.directed.n 48 most) passes)

-- what it says
pub record Fits (s : Towers) : Type 0 where
  pub most : s.directed.n ≤ 48
  pub limits : Limits (survey s)
  pub moving : moving_in_range (survey s) s.directed.moving ≡ true

pub fits_says : (s : Towers) → survey_fits s ≡ true → Fits s
unfolding survey_fits
fits_says s e =
    let most = leb s.directed.n 48 in
    let limits = is_given (limits_check (survey s)) in
    let (two, m) = (and-eq-true_iff (most && limits) (moving_in_range (survey s) s.directed.moving)).0 e in
    let (one, l) = (and-eq-true_iff most limits).0 two in
    record { most = leb-true s.directed.n 48 one; limits = by (limits_check (survey s)) refl l; moving = m }
  where
    by : (a : Answer Unit) → limits_check (survey s) ≡ a → is_given a ≡ true → Limits (survey s)
    by (refused k) f t = impossible (cc)
    by (given u) f t = (within_limits (survey s) (given tt) u f).0

pub says_fits : (s : Towers) → Fits s → survey_fits s ≡ true
unfolding survey_fits
says_fits s f =
    let passes : is_given (limits_check (survey s)) ≡ true = ap is_given (limits_pass (survey s) (given tt) f.limits) in
    ap₂ (λ a b. a && b && moving_in_range (survey s) s.directed.moving) (le-leb s.directed.n 48 f.most) passes ∙ f.moving

module _ (s : Towers) (long : Arrays s) (f : Fits s) where
  pub disk_count : s.directed.moving.count ≡ length (disks s)
  disk_count = (moving-says (survey s) s.directed.moving f.moving).count

  room : s.directed.n ≤ length s.directed.radices
  room = let most = f.most in let all = long.directed.radices in omega arith

  survey_count : length (survey s) ≡ s.directed.n
  survey_count = length-take-le s.directed.n s.directed.radices room

  held : length (survey s) ≤ length s.directed.moving.digits
  held = let most = f.most in let all = long.directed.moving in let n = survey_count in omega arith

  pub count_most : s.directed.moving.count ≤ 48
  count_most =
      let n = survey_count in
      let few = unlocked_most (survey s) in
      let many = disk_count in
      let most = f.most in
      omega arith

  pub digit_of_lem : (i : ℕ) → i < s.directed.moving.count → DigitThere s.directed i
  digit_of_lem =
      digit_there s.directed long.directed.radices f.most f.limits.one
      (moving-says (survey s) s.directed.moving f.moving)

  -- the place of its number among those that move
  pub digit_at : (i : ℕ) → i < s.directed.moving.count → DigitAt (eqb s.directed.moving.count s.directed.n) s.directed.moving.digits i
  digit_at i h =
      let most = count_most in
      let all = long.directed.moving in
      let is = (digit_of_lem i h).number in
      record {
        within = omega arith;
        from_one = omega arith;
        direct = λ free.
            let same = eqb-true s.directed.moving.count s.directed.n free in
            number_direct s.directed.radices s.directed.n s.directed.moving room held f.limits.one f.moving same i (omega arith);
      }

  -- the radix of the last disk
  pub last_none : s.directed.moving.count ≡ 0 → 1 ≡ last_radix (disks s)
  last_none none =
      let z : length (disks s) ≡ 0 = sym disk_count ∙ none in
      sym (ap (λ k. get_or (1 ∷ disks s) k 0) z)

  pub last_at : (at i : ℕ) → suc i ≡ s.directed.moving.count → at + 1 ≡ digit_of s i → get_or s.directed.radices at 0 ≡ last_radix (disks s)
  last_at at i last named =
      let d = digit_of_lem i (omega arith) in
      let is = d.number in
      let here : at ≡ d.index = omega arith in
      let end : suc i ≡ length (disks s) = last ∙ disk_count in
      ap (λ k. get_or s.directed.radices k 0) here ∙ d.radix ∙ ap (λ k. get_or (1 ∷ disks s) k 0) end

  -- ---- the game's test
  module _ (m : ℕ) (told : m ≡ last_radix (disks s)) where
    game_tested : (played : Bool)
        → played ≡ all_below (length (survey s)) (λ i. plays m (get_or s.directed.radices i 0))
        → played ≡ playable_counts (disks s)
    game_tested played e =
        let n = survey_count in
        e
        ∙ all_below_same (length (survey s)) (λ i. plays m (get_or s.directed.radices i 0))
        (λ i. plays (last_radix (disks s)) (get_or (survey s) i 0))
        (λ i h. ap₂ plays told (sym (get_or-take s.directed.n s.directed.radices i 0 (omega arith))))
        ∙ counts_played (survey s) f.limits.one

    pub leading : playable_counts (disks s) ≡ true → Leads (disks s) m
    leading e =
        let leads = last_leads (disks s) (unlocked_two (survey s)) e in
        let least = leads.positive in
        record {
          odd = leads.odd ∙ ap (λ k. not (even k)) (sym told);
          ring = λ ring. leads.ring ring ∙ sym told;
          positive = omega arith;
        }

    -- ---- the rest of the range rule
    module _ (notches played : Bool)
        (e : notches ≡ digits_in_range (length (survey s)) s.directed.radices s.directed.word s.directed.downs)
        (p : played ≡ all_below (length (survey s)) (λ i. plays m (get_or s.directed.radices i 0)))
      where
        opens : is_given (open_check (survey s)) ≡ played
        opens =
            ap is_given (limits_pass (survey s) (refusing 6 (wrong_counts (survey s)) (given tt)) f.limits)
            ∙ given_unless 6 (wrong_counts (survey s)) tt
            ∙ not-not (playable_counts (disks s))
            ∙ sym (game_tested played p)

        -- the parts in the order of the code
        ordered : (o d t q : Bool) → d && o && (t && q) ≡ true && o && d && true && t && q
        ordered true true t q = refl
        ordered true false t q = refl
        ordered false true t q = refl
        ordered false false t q = refl

        parts : (t q : Bool)
            → turn_in_range (disks s) s.turn ≡ t
            → pegs_in_range (disks s) s.pegs ≡ q
            → notches && played && (t && q) ≡ in_range s
        unfolding in_range word_in_range
        parts t q turn pegs =
            let n : digits_in_range s.directed.n s.directed.radices s.directed.word s.directed.downs ≡ notches =
            ap (λ k. digits_in_range k s.directed.radices s.directed.word s.directed.downs) (sym survey_count) ∙ sym e in
            ordered played notches t q
            ∙ sym (rw (le-leb s.directed.n 48 f.most, opens, n, f.moving, turn, pegs))

        -- what is left to test matters only where the game is played
        rest_tested : (rest : Bool)
            → (Leads (disks s) m → rest ≡ turn_in_range (disks s) s.turn && pegs_in_range (disks s) s.pegs)
            → notches && played && rest ≡ in_range s
        rest_tested rest r = go played refl
          where
            nothing : (a c d : Bool) → a && false && c ≡ a && false && d
            nothing true c d = refl
            nothing false c d = refl

            go : (b : Bool) → played ≡ b → notches && played && rest ≡ in_range s
            go true is =
                ap (λ c. notches && played && c) (r (leading (sym (game_tested played p) ∙ is)))
                ∙ parts (turn_in_range (disks s) s.turn) (pegs_in_range (disks s) s.pegs) refl refl
            go false is =
                ap (λ c. notches && c && rest) is
                ∙ nothing notches rest (turn_in_range (disks s) s.turn && pegs_in_range (disks s) s.pegs)
                ∙ sym (ap (λ c. notches && c && (turn_in_range (disks s) s.turn && pegs_in_range (disks s) s.pegs)) is)
                ∙ parts (turn_in_range (disks s) s.turn) (pegs_in_range (disks s) s.pegs) refl refl

        -- on pairs, and on a ring
        abbrev by_game : ℕ → ℕ → Bool → Bool
        by_game c k odd = ltb s.turn (cond odd 2 c) && (odd || all_below k (λ i. leb (get_or s.pegs i 0) c))

        pub pairs_tested : not (even m) ≡ true → notches && played && ltb s.turn 2 ≡ in_range s
        pairs_tested odd =
            rest_tested (ltb s.turn 2)
            (λ leads.
            sym (ap (by_game (common (disks s)) (length (disks s))) (leads.odd ∙ odd) ∙ and-true (ltb s.turn 2)))

        pub ring_tested : (within : Bool)
            → not (even m) ≡ false
            → within ≡ all_below (length (take s.directed.moving.count s.pegs)) (λ i. leb (get_or s.pegs i 0) m)
            → notches && played && (ltb s.turn m && within) ≡ in_range s
        ring_tested within ring w =
            rest_tested (ltb s.turn m && within)
            (λ leads.
            let none = leads.odd ∙ ring in
            let most = count_most in
            let room = long.pegs in
            let many : length (take s.directed.moving.count s.pegs) ≡ length (disks s) =
            length-take-le s.directed.moving.count s.pegs (omega arith) ∙ disk_count in
            sym
            (ap (by_game (common (disks s)) (length (disks s))) none
            ∙ ap₂ (λ (c : ℕ) (k : ℕ). by_game c k false) (leads.ring none) (sym many)
            ∙ ap (λ b. ltb s.turn m && b) (sym w)))

-- ---- a state in range
pub ranged_fits : (s : Towers) → in_range s ≡ true → Fits s
ranged_fits s e =
    let says = range_says s e in
    record { most = says.word.most; limits = (openable (survey s) says.word.opens).survey; moving = says.word.moving }

pub survey_wrong : (s : Towers) → survey_fits s ≡ false → false ≡ in_range s
survey_wrong s e = by (in_range s) refl
  where
    by : (b : Bool) → in_range s ≡ b → false ≡ in_range s
    by false f = sym f
    by true f = let right = says_fits s (ranged_fits s f) in impossible (cc)

-- ---- an opening
pub opening_refused : (s : Towers) (l : List ℕ) (k : ℕ) → refused k ≡ open_check (digits l) → refused_with k s ≡ open_of s l
unfolding open_of
opening_refused s l k e = ap (open_with s (fresh (digits l))) e

-- what the tests of an opening tell: the state that it would hand back, and whether its counts are played with
pub record CountsTested (l : List ℕ) (opened : Towers) (ok : Bool) : Type 0 where
  pub opens : opened ≡ fresh (digits l)
  pub checks : (wrong : Bool) → not ok ≡ wrong → open_check (digits l) ≡ refusing 6 wrong (given tt)

-- once the radices are accepted, their array holds all of them
module _ (l : List ℕ) (total : ℕ) (accept : size_call l ≡ given total) (array : List ℕ) (made : array ≡ digit_array l) where
  few : length l ≤ 48
  few = (accepted l total accept).most

  digits_limits : Limits (digits l)
  digits_limits =
      let a = accepted l total accept in
      let same = length-reverse l in
      let some = a.some in
      let most = few in
      record { some = omega arith; most = omega arith; one = a.one; limit = a.limit }

  pub array_room : length l ≤ length array
  array_room =
      let most = few in
      let same = length-reverse l in
      let long : length array ≡ 48 = ap length (array_whole l few array made) ∙ length-filled 48 0 (digits l) (omega arith) in
      omega arith

  -- the fresh state, made of the array and the digits that move
  module _
      (moving : MovingDigits) (told : moving ≡ moving_digits (take 48 (take (length l) array)))
      (opened : Towers) (is : opened ≡ fresh_on (fresh_with array (length l) moving))
    where
      new : opened ≡ fresh (digits l)
      unfolding fresh
      new = is ∙ ap fresh_on (fresh_from_lent l few array made moving told)

      own_survey : survey opened ≡ digits l
      unfolding fresh
      own_survey = ap survey new ∙ take-filled 48 0 (digits l)

      fresh-says : Fits opened
      unfolding fresh
      fresh-says =
          let count : opened.directed.n ≡ length (digits l) = ap (λ t. t.directed.n) new in
          let most = digits_limits.most in
          record {
            most = omega arith;
            limits = subst Limits (sym own_survey) digits_limits;
            moving = ap₂ moving_in_range own_survey (ap (λ t. t.directed.moving) new)
                ∙ says-moving (digits l) (moving_digits (digits l)) (moving_stored (digits l));
          }

      pub fresh_fits : survey_fits opened ≡ true
      fresh_fits = says_fits opened fresh-says

      -- and its counts, tested
      module _
          (long : Arrays opened) (m : ℕ) (last : m ≡ last_radix (disks opened)) (ok : Bool)
          (tested : ok ≡ all_below (length (take opened.directed.n array)) (λ i. plays m (get_or array i 0)))
        where
          counts_passed : (wrong : Bool) → not ok ≡ wrong → open_check (digits l) ≡ refusing 6 wrong (given tt)
          counts_passed wrong e =
              let held : array ≡ opened.directed.radices = sym (ap (λ t. t.directed.radices) is) in
              let right =
              game_tested opened long fresh-says m last ok
              (tested ∙ ap (λ a. all_below (length (take opened.directed.n a)) (λ i. plays m (get_or a i 0))) held) in
              let same : wrong_counts (digits l) ≡ wrong =
              sym (ap not (right ∙ ap (λ ms. playable_counts (unlocked ms)) own_survey)) ∙ e in
              radices_accepted l total (refusing 6 (wrong_counts (digits l)) (given tt)) accept
              ∙ ap (λ b. refusing 6 b (given tt)) same

          pub counts_tested : CountsTested l opened ok
          counts_tested = record { opens = new; checks = counts_passed }

module _ (s : Towers) (l : List ℕ) (opened : Towers) (ok : Bool) (c : CountsTested l opened ok) where
  pub counts_refused : not ok ≡ true → refused_with 6 s ≡ open_of s l
  counts_refused e = opening_refused s l 6 (sym (c.checks true e))

  pub opening_given : not ok ≡ false → record { state = opened; answer = given tt } ≡ open_of s l
  unfolding open_of
  opening_given e =
      ap (λ t. record { state = t; answer = given tt }) c.opens ∙ ap (open_with s (fresh (digits l))) (sym (c.checks false e))
