-- What the code of a call answers on each of its paths, over plain lists, numbers and states. Assumes nothing.
use Prim.Native.Nat.{ℕ, ◌+◌, ◌-◌, ◌≤◌, ◌<◌}
use native.Mathlib.Omega.{arith}
use mathlib.Core.Path.{◌≡◌, refl, sym, ap, ap₂, ◌∙◌}
use mathlib.Core.Bool.{Bool, true, false, cond, ◌&&◌, not}
use mathlib.Core.List.{List}
use mathlib.Core.Option.{Option, none, some}
use Rattle.std.specs.Prelude as Maybe
use lib.Dec.{eqb}
use lib.ListN.{length, get_or, set, take}
use lib.Seq.{length-take-le, get_or-take, set-get_or}
use Rattle.gray_theory.specs.Answers.{given}
use Rattle.gray_theory.specs.Words.{even}
use Rattle.gray_theory.proofs.WordRanges.{DigitThere}
use Rattle.gray_theory.specs.Engines.{Event, moved, ended, refused_with}
use Rattle.digit.specs.Advances.{advanced_from}
use Rattle.digit.proofs.DirectedMoves.{digit_moves, written_is_moved, written_is_named}
use Rattle.towers_theory.proofs.Canonical.{same_towers}
use Rattle.digit.specs.declared.Directed.{Directed}
use Rattle.towers_theory.specs.States.{Towers, all_odd, common, open_check, survey, disks, in_range, Arrays}
use Rattle.towers_theory.specs.Choices.{side_peg, digit_of, peg_of, smallest, on_pair, sweeping, is_top, elsewhere}
use Rattle.towers_theory.specs.Choices.{chosen_on_pair, chosen_on_ring, chosen}
use Rattle.towers_theory.specs.Calls.{turn_by, turn_after, peg_after, pegs_after, move_of, move_by, step_of}
use Rattle.towers.specs.Stages.{found, PairDisks, survey_fits, last_radix, DigitAt, Movable}
use Rattle.towers_theory.proofs.Smallest.{smallest_same, smallest-says, smallest-elsewhere_is_top}
use Rattle.towers_theory.proofs.Openings.{openable}
use Rattle.towers_theory.proofs.InRange.{Ranged, range_says, some_disk}
use Rattle.towers.proofs.Plays.{Leads}
use Rattle.towers.proofs.Ranges.{Fits, says_fits, ranged_fits, disk_count, count_most, digit_of_lem, digit_at, leading}

-- disk i + 1 is the one that a call moves
pub record Chosen (s : Towers) (i : ℕ) : Type 0 where
  pub choice : found (Maybe.Some i) ≡ chosen s
  pub within : i < s.directed.moving.count
  pub few : i < 48

under_cond : {A : Type 0} (b : Bool) (x y z : A) → (b ≡ false → y ≡ z) → cond b x y ≡ cond b x z
under_cond true x y z same = refl
under_cond false x y z same = same refl

-- the pegs as a step stores them: for odd counts each as it came
pub pegs_stored : (pegs : List ℕ) (i : ℕ) (odd : Bool) (peg : ℕ)
    → set pegs i (cond odd (get_or pegs i 0) peg) ≡ cond odd pegs (set pegs i peg)
pegs_stored pegs i true peg = set-get_or pegs i 0
pegs_stored pegs i false peg = refl

module _ (s : Towers) (long : Arrays s) (ranged : in_range s ≡ true) where
  says : Ranged s
  says = range_says s ranged

  fits : Fits s
  fits = ranged_fits s ranged

  pub survey-right : survey_fits s ≡ true
  survey-right = says_fits s fits

  pub count_fits : s.directed.moving.count ≤ 48
  count_fits = count_most s long fits

  -- the place where a disk's number is held
  pub number_held : (i : ℕ) → i < s.directed.moving.count → DigitAt (eqb s.directed.moving.count s.directed.n) s.directed.moving.digits i
  number_held i h = digit_at s long fits i h

  -- m is the radix that tells which game is played
  module _ (m : ℕ) (told : m ≡ last_radix (disks s)) where
    leads : Leads (disks s) m
    leads = leading s long fits m told (openable (survey s) says.word.opens).counts

    pub radix_positive : 0 < m
    radix_positive = leads.positive

    -- ---- choose
    peg_by : (odd : Bool)
        → all_odd (disks s) ≡ odd
        → (i : ℕ)
        → peg_of s i
        ≡ cond odd (side_peg (get_or s.directed.radices (digit_of s i - 1) 0) (get_or s.directed.word (digit_of s i - 1) 0)) (get_or s.pegs i 0)
    unfolding peg_of
    peg_by odd e i =
        ap
        (λ b. cond b (side_peg (get_or s.directed.radices (digit_of s i - 1) 0) (get_or s.directed.word (digit_of s i - 1) 0)) (get_or s.pegs i 0))
        e

    chosen_by : (odd : Bool) → all_odd (disks s) ≡ odd → cond odd (chosen_on_pair s) (chosen_on_ring s) ≡ chosen s
    unfolding chosen
    chosen_by odd e = sym (ap (λ b. cond b (chosen_on_pair s) (chosen_on_ring s)) e)

    -- on a ring by whether disk 1 is in its sweep
    abbrev ring_choice : Bool → Option ℕ
    ring_choice sweep = cond sweep (some 0) (smallest s.directed.moving.count (λ i. is_top s i && elsewhere s i))

    ring_by : all_odd (disks s) ≡ false → ring_choice (sweeping m s.turn) ≡ chosen s
    ring_by ring = sym (ap ring_choice (ap (λ n. sweeping n s.turn) (leads.ring ring))) ∙ chosen_by false ring

    -- there is a disk
    pub first_disk : not (even m) ≡ false → 0 < s.directed.moving.count
    first_disk e =
        let some = some_disk (disks s) (leads.odd ∙ e) in
        let many = disk_count s long fits in
        omega arith

    -- the disk that is chosen is one of them
    pub chosen_within : (i : ℕ) → found (Maybe.Some i) ≡ chosen s → i < s.directed.moving.count
    unfolding chosen
    chosen_within i choice = go (all_odd (disks s)) refl choice
      where
        first : (sweep : Bool) → some i ≡ ring_choice sweep → 0 < s.directed.moving.count → i < s.directed.moving.count
        first true e h = let z : i ≡ 0 = cc in omega arith
        first false e h = (smallest-says s.directed.moving.count (λ k. is_top s k && elsewhere s k) i (sym e)).within

        go : (odd : Bool) → all_odd (disks s) ≡ odd → some i ≡ cond odd (chosen_on_pair s) (chosen_on_ring s) → i < s.directed.moving.count
        go true odd e = (smallest-says s.directed.moving.count (λ k. on_pair s.turn (peg_of s k)) i (sym e)).within
        go false ring e = first (sweeping (common (disks s)) s.turn) e (first_disk (sym leads.odd ∙ ring))

    -- the code counts the disks as a wide number, and looks at the first k places of its arrays
    module _ (k : ℕ) (wide : k ≡ s.directed.moving.count) where
      -- what is found among the first k places, at once or by a test, is found among the disks
      found_among : (l : List ℕ) (r : Maybe.Option ℕ) (at_once : Bool) (f g : ℕ → Bool)
          → length l ≡ 48
          → found r ≡ cond at_once (some 0) (smallest (length (take k l)) f)
          → ((i : ℕ) → i < k → f i ≡ g i)
          → found r ≡ cond at_once (some 0) (smallest s.directed.moving.count g)
      found_among l r at_once f g room e same =
          let most = count_fits in
          let count : length (take k l) ≡ s.directed.moving.count = length-take-le k l (omega arith) ∙ wide in
          e
          ∙ ap (λ n. cond at_once (some 0) (smallest n f)) count
          ∙ ap (cond at_once (some 0)) (smallest_same s.directed.moving.count f g (λ i h. same i (omega arith)))

      pub pair_disks : PairDisks s.directed.radices s.directed.word (eqb s.directed.moving.count s.directed.n) (take k s.directed.moving.digits)
      pair_disks =
          let most = count_fits in
          let some = says.word.most in
          let part = length-take-le k s.directed.moving.digits (omega arith) in
          let number : (i : ℕ) → i < k → get_or (take k s.directed.moving.digits) i 0 ≡ digit_of s i =
          λ i h. get_or-take k s.directed.moving.digits i 0 h in
          record {
            long = long.directed.word ∙ sym long.directed.radices;
            number = λ i h.
                let d = number_held i (omega arith) in
                let same = number i (omega arith) in
                let low = d.from_one in
                record { within = h; from_one = omega arith; direct = λ free. same ∙ d.direct free };
            last = λ i h.
                let d = digit_of_lem s long fits i (omega arith) in
                let is = d.number in
                let inside = d.within in
                rw (number i (omega arith)) (omega arith);
            two = λ i h.
                let d = digit_of_lem s long fits i (omega arith) in
                let is = d.number in
                let index : digit_of s i - 1 ≡ d.index = omega arith in
                let two = d.two in
                rw (number i (omega arith), index) (omega arith);
          }

      abbrev pair_test : ℕ → ℕ → Bool
      pair_test number i = on_pair s.turn (side_peg (get_or s.directed.radices (number - 1) 0) (get_or s.directed.word (number - 1) 0))

      pub chooses_on_pair : (r : Maybe.Option ℕ)
          → not (even m) ≡ true
          → found r
          ≡ smallest (length (take k s.directed.moving.digits)) (λ i. pair_test (get_or (take k s.directed.moving.digits) i 0) i)
          → found r ≡ chosen s
      chooses_on_pair r e f =
          let odd = leads.odd ∙ e in
          found_among s.directed.moving.digits r false
          (λ i. pair_test (get_or (take k s.directed.moving.digits) i 0) i)
          (λ i. on_pair s.turn (peg_of s i))
          long.directed.moving
          f
          (λ i h.
          ap (λ number. pair_test number i) (get_or-take k s.directed.moving.digits i 0 h)
          ∙ ap (on_pair s.turn) (sym (peg_by true odd i)))
          ∙ chosen_by true odd

      pub chooses_on_ring : (r : Maybe.Option ℕ)
          → not (even m) ≡ false
          → found r
          ≡ cond (sweeping m s.turn) (some 0)
          (smallest (length (take k s.pegs)) (λ i. not (eqb (get_or (take k s.pegs) i 0) (get_or (take k s.pegs) 0 0))))
          → found r ≡ chosen s
      chooses_on_ring r e f =
          let ring = leads.odd ∙ e in
          let one = first_disk e in
          let first = get_or-take k s.pegs 0 0 (omega arith) ∙ sym (peg_by false ring 0) in
          found_among s.pegs r (sweeping m s.turn)
          (λ i. not (eqb (get_or (take k s.pegs) i 0) (get_or (take k s.pegs) 0 0)))
          (λ i. elsewhere s i)
          long.pegs
          f
          (λ i below. ap not (ap₂ eqb (get_or-take k s.pegs i 0 below ∙ sym (peg_by false ring i)) first))
          ∙ ap (cond (sweeping m s.turn) (some 0)) (sym (smallest-elsewhere_is_top s.directed.moving.count (peg_of s) (peg_of s 0)))
          ∙ ring_by ring

    -- ---- advance
    pub turn_below : s.turn < cond (not (even m)) 2 m
    turn_below = go (all_odd (disks s)) refl says.turns
      where
        go : (odd : Bool) → all_odd (disks s) ≡ odd → s.turn < cond odd 2 (common (disks s)) → s.turn < cond (not (even m)) 2 m
        go true e h = rw (sym leads.odd ∙ e) h
        go false e h = rw (sym leads.odd ∙ e, ← leads.ring e) h

    module _ (i : ℕ) (h : i < s.directed.moving.count) where
      pub peg_within : not (even m) ≡ false → get_or s.pegs i 0 ≤ m
      peg_within e =
          let many = disk_count s long fits in
          let bound = says.within (leads.odd ∙ e) i (omega arith) in
          rw (leads.ring (leads.odd ∙ e)) at bound

      -- the index of the disk's digit, as the code has it
      module _ (at : ℕ) (named : at + 1 ≡ digit_of s i) where
        here : DigitThere s.directed i
        here = digit_of_lem s long fits i h

        at_index : at ≡ here.index
        at_index = let is = here.number in omega arith

        pub digit_fits : at < 48
        digit_fits =
            let is = at_index in
            let inside = here.within in
            let most = says.word.most in
            omega arith

        within_digits : at < s.directed.n
        within_digits = let is = at_index in let inside = here.within in omega arith

        two_there : 2 ≤ get_or s.directed.radices at 0
        two_there = rw at_index here.two

        pub movable : Movable s.directed.radices at s.directed.word s.directed.downs
        movable =
            let few = digit_fits in
            let room = long.directed.radices in
            let word = long.directed.word in
            let downs = long.directed.downs in
            record {
              few = few;
              radix = omega arith;
              notch = omega arith;
              direction = omega arith;
              stands = digit_moves open_check s.directed says.word long.directed at (digit_of s i) named within_digits two_there;
            }

        pub disk_moved : (to : Directed) (newPegs : List ℕ) (turn : ℕ)
            → to ≡ advanced_from (get_or s.directed.radices at 0) (get_or s.directed.word at 0) (get_or s.directed.downs at false)
            → newPegs ≡ cond (not (even m)) s.pegs (set s.pegs i (peg_after m i (get_or s.pegs i 0)))
            → turn ≡ turn_by (not (even m)) m s.turn
            → record {
              state =
                  record {
                    directed =
                        record {
                          radices = s.directed.radices;
                          n = s.directed.n;
                          moving = s.directed.moving;
                          word = set s.directed.word at to.digit;
                          downs = set s.directed.downs at to.down;
                        };
                    turn = turn;
                    pegs = newPegs;
                  };
              answer = given (moved (record { digit = at + 1; down = get_or s.directed.downs at false }) to.digit);
            }
            ≡ move_of s i
        unfolding move_of
        disk_moved to newPegs turn e f g =
            let directed =
            written_is_moved open_check s.directed says.word long.directed at (digit_of s i) named within_digits two_there to e in
            let event =
            written_is_named open_check s.directed says.word long.directed at (digit_of s i) named within_digits two_there to e in
            let pegs : newPegs ≡ pegs_after s i =
            f
            ∙ ap (λ o. cond o s.pegs (set s.pegs i (peg_after m i (get_or s.pegs i 0)))) (sym leads.odd)
            ∙ under_cond (all_odd (disks s)) s.pegs (set s.pegs i (peg_after m i (get_or s.pegs i 0)))
            (set s.pegs i (peg_after (common (disks s)) i (get_or s.pegs i 0)))
            (λ ring. ap (λ n. set s.pegs i (peg_after n i (get_or s.pegs i 0))) (sym (leads.ring ring))) in
            let next : turn ≡ turn_after s =
            g
            ∙ ap (λ o. turn_by o m s.turn) (sym leads.odd)
            ∙ under_cond (all_odd (disks s)) (1 - s.turn) (turn_by false m s.turn) (turn_by false (common (disks s)) s.turn)
            (λ ring. ap (λ n. turn_by false n s.turn) (sym (leads.ring ring))) in
            ap₂ (λ (v : Towers) (o : Event). record { state = v; answer = given o }) (same_towers directed next pegs)
            (ap (λ k. moved (record { digit = k; down = get_or s.directed.downs at false }) to.digit) named ∙ event)

-- ---- step
module _ (s : Towers) where
  pub refused_faulty : in_range s ≡ false → refused_with 7 s ≡ step_of s
  unfolding step_of
  refused_faulty e = sym (ap (λ b. cond (not b) (refused_with 7 s) (move_by s (chosen s))) e)

  module _ (ranged : in_range s ≡ true) where
    goes_by : (o : Option ℕ) → o ≡ chosen s → move_by s o ≡ step_of s
    unfolding step_of
    goes_by o choice =
        ap (move_by s) choice ∙ sym (ap (λ b. cond (not b) (refused_with 7 s) (move_by s (chosen s))) ranged)

    pub walk-over : found Maybe.None ≡ chosen s → record { state = s; answer = given ended } ≡ step_of s
    walk-over choice = goes_by none choice

    pub moves_disk : (i : ℕ) → found (Maybe.Some i) ≡ chosen s → move_of s i ≡ step_of s
    moves_disk i choice = goes_by (some i) choice
