-- Demand 3: the theorem about the whole run of calls from a fresh walk. What it claims stands in Demand, what runs and work
-- steps are in Events, what a call is in Calls: the definitions that the contracts of `open` and `step` cite.
use Rattle.std.specs.Prelude.{ℕ, ◌-◌, ◌≡◌, length, List, []}
use Rattle.std.proofs.Common.{arith, sym, ap, ◌∙◌}
use Rattle.gray_theory.specs.Answers.{given}
use Rattle.gray_theory.specs.Radices.{digits, size}
use Rattle.gray_theory.specs.Locks.{unlocked}
use Rattle.gray_theory.proofs.Sizes.{size_pos}
use Rattle.gray_theory.proofs.Unlocked.{size-unlocked}
use Rattle.ahead_theory.specs.States.{Walk}
use Rattle.ahead_theory.specs.Calls.{open_of}
use Rattle.ahead_theory.specs.Demand.{WorksAhead, StaysInRange, AllLocked}
use Rattle.ahead_theory.proofs.Openings.{opens_exactly, opens_fresh}
use Rattle.ahead_theory.proofs.Clauses.{run_works_ahead, run_stays_in_range}

-- Every walk that opening gives works ahead as demanded, whatever state it was opened on: (a) the queue never holds more than c
-- entries; (b) entry j is finished by the useful step that the step formula says, in fewer than 2 j; (c) s counts the useful
-- steps, and says which entry was finished last; (d) with places for half of the digits that move, rounded up, the calls walk
-- the list and then answer end, and none is dry; (e) with fewer, a call up to call N is dry, and so is every later one, and the
-- state stays as that call found it.
pub fresh_walks_work_ahead : (w : Walk) (radices : List ℕ) (c : ℕ)
    → (open_of w radices c).answer ≡ given tt
    → WorksAhead (digits radices) c (open_of w radices c).state
fresh_walks_work_ahead w radices c accepted =
    let o = (opens_exactly w radices c).0 accepted in
    let pos = size_pos (digits radices) o.survey.one in
    rw (opens_fresh w radices c accepted) (run_works_ahead (digits radices) c o (size (digits radices) - 1) (omega arith))

-- Every state of such a run is in range, so that no call of it gets 7, and unless all digits are locked the counter never runs
-- out: the idle rule at its last place is not met.
pub fresh_walks_stay_in_range : (w : Walk) (radices : List ℕ) (c : ℕ)
    → (open_of w radices c).answer ≡ given tt
    → StaysInRange (digits radices) (open_of w radices c).state
fresh_walks_stay_in_range w radices c accepted =
    let o = (opens_exactly w radices c).0 accepted in
    let pos = size_pos (digits radices) o.survey.one in
    rw (opens_fresh w radices c accepted) (run_stays_in_range (digits radices) c o (size (digits radices) - 1) (omega arith))

-- With all digits locked N is 1, and whatever the capacity is the first call is the end: its first work step appends the end
-- entry, and its second meets the idle rule at the counter's last place.
pub all_locked_ends_at_once : (w : Walk) (radices : List ℕ) (c : ℕ)
    → (open_of w radices c).answer ≡ given tt
    → unlocked (digits radices) ≡ []
    → AllLocked (digits radices) (open_of w radices c).state
unfolding size
all_locked_ends_at_once w radices c accepted none =
    let ms = digits radices in
    let o = (opens_exactly w radices c).0 accepted in
    let single : size ms ≡ 1 = sym (size-unlocked ms o.survey.one) ∙ ap size none in
    let few : length (unlocked ms) ≡ 0 = ap length none in
    let (first, second) = (fresh_walks_stay_in_range w radices c accepted).all_locked few in
    record {
      single = single;
      ends = ((fresh_walks_work_ahead w radices c accepted).never_dry (omega arith)).end 1 (omega arith);
      first = first;
      second = second;
    }
