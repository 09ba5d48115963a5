-- Laws for a call that checks its radices by `size`: what it passes on where they are refused, and what it knows where they are
-- accepted.
use Rattle.std.specs.Prelude.{ℕ, ◌^◌, ◌≤◌, ◌<◌, ◌≡◌, refl, Bool, true, false, not, List, ◌++◌, eqb, ltb, length, drop}
use Rattle.std.proofs.Common.{arith, ap, ◌∙◌, ltb-false, ne_eqb, le-ltb}
use Rattle.std.proofs.Math.Path.{sym, ap₂}
use Rattle.std.proofs.lemmas.Bool.{eqb-false, not-false}
use Rattle.std.proofs.lemmas.List.{length-reverse}
use Rattle.gray_theory.specs.Answers.{Answer, given, refused, refusing, number_of, is_given, byte_count, output_after, Wrote}
use Rattle.gray_theory.specs.Radices.{digits, size, all_from, wrong_count, wrong_radix, too_many, of_radices, Limits}
use Rattle.gray_theory.specs.Capacities.{wrong_capacity, of_survey, Openable}
use Rattle.gray_theory.specs.Calls.{size_call, survey_call}
use Rattle.gray_theory.specs.Bools.{impossible}
use Rattle.gray_theory.proofs.Bools.{neither}
use Rattle.gray_theory.proofs.Reversals.{all_from-reverse, size-reverse, of_radices-reverse}
use Rattle.gray_theory.specs.Faults.{Fault, Fault.count, Fault.radix, Fault.many, Fault.none, decided}
use Rattle.gray_theory.proofs.Faults.{fault, lowest_fault_is_given}

-- ---- radices that are refused, and radices that are accepted
pub given_same : {A : Type 0} (a b : A) → given a ≡ given b → a ≡ b
given_same a b e = cc

same_refusal : {A : Type 0} {ms : List ℕ} (f : Fault ms) (n k : ℕ) (rest : Answer A)
    → decided f (given n) ≡ refused k
    → decided f rest ≡ refused k
same_refusal (count e) n k rest p = let t : 2 ≡ k = cc in ap refused t
same_refusal (radix e f) n k rest p = let t : 3 ≡ k = cc in ap refused t
same_refusal (many e f g) n k rest p = let t : 4 ≡ k = cc in ap refused t
same_refusal (none e f g) n k rest p = impossible (cc)

pub radices_refused : {A : Type 0} (l : List ℕ) (k : ℕ) (rest : Answer A)
    → size_call l ≡ refused k
    → of_radices (digits l) rest ≡ refused k
unfolding size_call
radices_refused l k rest e =
    let f = fault (digits l) in
    lowest_fault_is_given (digits l) f rest ∙ same_refusal f (size (digits l)) k rest (sym (lowest_fault_is_given (digits l) f (given (size (digits l)))) ∙ e)

-- a check that lets a value through was passed
pub passed : {A : Type 0} (k : ℕ) (wrong : Bool) (rest : Answer A) (a : A)
    → refusing k wrong rest ≡ given a
    → (wrong ≡ false) × (rest ≡ given a)
passed k true rest a e = impossible (cc)
passed k false rest a e = (refl, e)

-- radices with which a call gives a value have no fault
record Faultless {A : Type 0} (ms : List ℕ) (rest : Answer A) (a : A) : Type 0 where
  pub no_count : wrong_count ms ≡ false
  pub no_radix : wrong_radix ms ≡ false
  pub no_many : too_many ms ≡ false
  pub value : rest ≡ given a

no_fault : {A : Type 0} {ms : List ℕ} (f : Fault ms) (rest : Answer A) (a : A) → decided f rest ≡ given a → Faultless ms rest a
no_fault (count e) rest a p = impossible (cc)
no_fault (radix e f) rest a p = impossible (cc)
no_fault (many e f g) rest a p = impossible (cc)
no_fault (none e f g) rest a p = record { no_count = e; no_radix = f; no_many = g; value = p }

faultless : {A : Type 0} (ms : List ℕ) (rest : Answer A) (a : A) → of_radices ms rest ≡ given a → Faultless ms rest a
faultless ms rest a e = no_fault (fault ms) rest a (sym (lowest_fault_is_given ms (fault ms) rest) ∙ e)

module _ {A : Type 0} (ms : List ℕ) (rest : Answer A) where
  -- a call gives a value only if its radices are within the limits and the checks after theirs give it
  pub within_limits : (a : A) → of_radices ms rest ≡ given a → Limits ms × (rest ≡ given a)
  within_limits a e =
      let p = faultless ms rest a e in
      let count = neither (eqb (length ms) 0) (ltb 48 (length ms)) p.no_count in
      let no_zero = eqb-false (length ms) 0 count.0 in
      let limits : Limits ms =
      record {
        some = omega arith;
        most = ltb-false 48 (length ms) count.1;
        one = not-false (all_from 1 ms) p.no_radix;
        limit = ltb-false (2 ^ 62) (size ms) p.no_many;
      } in
      (limits, p.value)

  pub limits_pass : Limits ms → of_radices ms rest ≡ rest
  limits_pass l =
      let some = l.some in
      rw
      (ne_eqb (length ms) 0 (λ z. omega arith), le-ltb 48 (length ms) l.most, l.one, le-ltb (2 ^ 62) (size ms) l.limit)

-- ---- the same with a capacity
right_capacity : (c : ℕ) → wrong_capacity c ≡ false → (1 ≤ c) × (c ≤ 32)
right_capacity c e =
    let places = neither (eqb c 0) (ltb 32 c) e in
    let no_place = eqb-false c 0 places.0 in
    (omega arith, ltb-false 32 c places.1)

module _ {A : Type 0} (ms : List ℕ) (c : ℕ) (rest : Answer A) where
  -- a call gives a value only if its survey and capacity are within the limits and the checks after theirs give it
  pub within_openable : (a : A) → of_survey ms c rest ≡ given a → Openable ms c × (rest ≡ given a)
  within_openable a e =
      let (limits, value) = within_limits ms (refusing 5 (wrong_capacity c) rest) a e in
      let (right, given-then) = passed 5 (wrong_capacity c) rest a value in
      let bounds = right_capacity c right in
      (record { survey = limits; place = bounds.0; capacity = bounds.1 }, given-then)

  pub openable_passes : Openable ms c → of_survey ms c rest ≡ rest
  openable_passes o =
      let b = o.place in
      limits_pass ms (refusing 5 (wrong_capacity c) rest) o.survey ∙ rw (ne_eqb c 0 (λ z. omega arith), le-ltb 32 c o.capacity)

-- what holds of accepted radices
pub record Accepted (l : List ℕ) (n : ℕ) : Type 0 where
  pub some : 0 < length l
  pub most : length l ≤ 48
  pub one : all_from 1 (digits l) ≡ true
  pub whole : n ≡ size (digits l)
  pub limit : size (digits l) ≤ 2 ^ 62

pub accepted : (l : List ℕ) (n : ℕ) → size_call l ≡ given n → Accepted l n
unfolding size_call
accepted l n e =
    let (limits, value) = within_limits (digits l) (given (size (digits l))) n e in
    let long = length-reverse l in
    let some = limits.some in
    let most = limits.most in
    record {
      some = omega arith;
      most = omega arith;
      one = limits.one;
      whole = sym (given_same (size (digits l)) n value);
      limit = limits.limit;
    }

pub radices_accepted : {A : Type 0} (l : List ℕ) (n : ℕ) (rest : Answer A)
    → size_call l ≡ given n
    → of_radices (digits l) rest ≡ rest
unfolding size_call
radices_accepted l n rest e =
    let p = faultless (digits l) (given (size (digits l))) n e in
    rw (p.no_count, p.no_radix, p.no_many)

-- a survey and a capacity whose radices are accepted
module _ (l : List ℕ) (c n : ℕ) (accept : size_call l ≡ given n) where
  survey_tested : (wrong : Bool) → wrong_capacity c ≡ wrong → refusing 5 wrong (given n) ≡ survey_call l c
  unfolding survey_call
  survey_tested wrong f =
      sym (radices_accepted l n _ accept ∙ ap₂ (λ b k. refusing 5 b (given k)) f (sym (accepted l n accept).whole))

  pub capacity_refused : wrong_capacity c ≡ true → refused 5 ≡ survey_call l c
  capacity_refused = survey_tested true

  pub capacity_accepted : wrong_capacity c ≡ false → given n ≡ survey_call l c
  capacity_accepted = survey_tested false

-- a check that refuses does so whatever comes after it
pub still_refused : {A B : Type 0} (k : ℕ) (wrong : Bool) (r : Answer A) (s : Answer B) (x : ℕ)
    → (r ≡ refused x → s ≡ refused x)
    → refusing k wrong r ≡ refused x
    → refusing k wrong s ≡ refused x
still_refused k true r s x later e = ap (λ a. refused (number_of a)) e
still_refused k false r s x later e = later e

-- a survey with a capacity is refused alike whatever is asked of it
pub refused_alike : {A B : Type 0} (ms : List ℕ) (c : ℕ) (a : A) (rest : Answer B) (x : ℕ)
    → of_survey ms c (given a) ≡ refused x
    → of_survey ms c rest ≡ refused x
refused_alike ms c a rest x =
    still_refused 2 (wrong_count ms) _ _ x
    (still_refused 3 (wrong_radix ms) _ _ x
    (still_refused 4 (too_many ms) _ _ x (still_refused 5 (wrong_capacity c) (given a) rest x (λ e. impossible (cc)))))

module _ (l : List ℕ) (c : ℕ) where
  pub survey_refused_alike : {A : Type 0} (rest : Answer A) (x : ℕ) → survey_call l c ≡ refused x → of_survey (digits l) c rest ≡ refused x
  unfolding survey_call
  survey_refused_alike rest x = refused_alike (digits l) c (size (digits l)) rest x

  -- one that is accepted is within the limits
  pub survey_call_given : (n : ℕ) → survey_call l c ≡ given n → Openable (digits l) c × (n ≡ size (digits l))
  unfolding survey_call
  survey_call_given n e =
      let (opens, value) = within_openable (digits l) c (given (size (digits l))) n e in
      (opens, sym (given_same (size (digits l)) n value))

-- a call that gives a value has accepted its radices
pub radices_passed : {A : Type 0} (l : List ℕ) (rest : Answer A) (x : A)
    → of_radices (digits l) rest ≡ given x
    → (size_call l ≡ given (size (digits l))) × (rest ≡ given x)
unfolding size_call
radices_passed l rest x e =
    let p = faultless (digits l) rest x e in
    (rw (p.no_count, p.no_radix, p.no_many), p.value)

-- ---- a survey that an engine's state holds: radices with digit 1 first, which the engine tests by the same call
module _ (ms : List ℕ) where
  pub survey_refused : {A : Type 0} (rest : Answer A) (k : ℕ) → size_call ms ≡ refused k → is_given (of_radices ms rest) ≡ false
  survey_refused rest k e = ap is_given (sym (of_radices-reverse ms rest) ∙ radices_refused ms k rest e)

  pub survey_accepted : {A : Type 0} (rest : Answer A) (n : ℕ) → size_call ms ≡ given n → of_radices ms rest ≡ rest
  survey_accepted rest n e = sym (of_radices-reverse ms rest) ∙ radices_accepted ms n rest e

  pub survey_one : (n : ℕ) → size_call ms ≡ given n → all_from 1 ms ≡ true
  survey_one n e = sym (all_from-reverse 1 ms) ∙ (accepted ms n e).one

  pub survey-size : (n : ℕ) → size_call ms ≡ given n → (n ≡ size ms) × (n ≤ 2 ^ 62)
  survey-size n e =
      let a = accepted ms n e in
      (a.whole ∙ size-reverse ms, omega arith)

-- the last check: a value is given unless its fault is there
pub given_unless : {A : Type 0} (k : ℕ) (wrong : Bool) (a : A) → is_given (refusing k wrong (given a)) ≡ not wrong
given_unless k true a = refl
given_unless k false a = refl

-- ---- a writer
-- what a writer that refuses owes, and one that has put its bytes at the start
pub wrote_nothing : (call : ℕ → Answer (List ℕ)) (k : ℕ) (out : List ℕ)
    → call (length out) ≡ refused k
    → Wrote call (refused k) out out
wrote_nothing call k out e =
    record { answers = sym (ap byte_count e); leaves = sym (ap (λ a. output_after a out) e) }

pub wrote_bytes : (call : ℕ → Answer (List ℕ)) (bs before after : List ℕ) (n : ℕ)
    → call (length before) ≡ given bs
    → n ≡ length bs
    → after ≡ bs ++ drop n before
    → Wrote call (given n) before after
wrote_bytes call bs before after n e long f =
    record {
      answers = ap given long ∙ sym (ap byte_count e);
      leaves = f ∙ ap (λ k. bs ++ drop k before) long ∙ sym (ap (λ a. output_after a before) e);
    }
