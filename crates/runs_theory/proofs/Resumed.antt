-- What a walk that is picked up writes is the list's moves from there on, so that a survey may be stopped and gone on with
-- elsewhere.
use Rattle.std.specs.Prelude.{ℕ, zero, suc, ◌+◌, ◌-◌, ◌*◌, ◌≤◌, ◌<◌, ◌≡◌, refl, List, ◌∷◌, ◌++◌, length}
use Rattle.std.proofs.Math.Decide.{dec_lt}
use Rattle.std.proofs.Common.{add-zero, zero-add, arith, sym, ap₂, subst, ◌∙◌}
use Rattle.std.proofs.Math.Path.{ap}
use Rattle.gray_theory.specs.Answers.{Answer, given, refused}
use Rattle.gray_theory.specs.MoveBytes.{move_byte}
use Rattle.gray_theory.specs.Changes.{change}
use Rattle.gray_theory.specs.Radices.{digits, size}
use Rattle.gray_theory.specs.Words.{rank}
use Rattle.gray_theory.proofs.Ranks.{rank_below}
use Rattle.gray_theory.specs.Locks.{unlocked}
use Rattle.gray_theory.specs.Engines.{move_at, after}
use Rattle.gray_theory.specs.RunCalls.{Stop, end, refusal}
use Rattle.ahead_theory.specs.States as walks
use Rattle.ahead_theory.specs.Calls as ahead
use Rattle.ahead_theory.specs.Events.{answer}
use Rattle.ahead_theory.specs.Pickups.{resume_of}
use Rattle.ahead_theory.specs.GoingOn.{NamesFrom, Does, Does.names, Does.is_end_lem, Does.is_dry, KeepsToTheList}
use Rattle.ahead_theory.proofs.PickedUp.{resumes_exactly, picked_up_walks_go_on, picked_up_walks_keep_to_the_list}
use Rattle.runs_theory.specs.MoveCalls.{opened_run, resumed_moves_call, list_moves}
use Rattle.runs_theory.specs.Agree.{Halts.ends, Halts.refuses, StopsAt, writes_first}
use Rattle.runs_theory.proofs.Agree.{writes_first_lem}

-- calls 1 to d − 1 from rank r name their changes, and call d, at most call N − r, does not move
record FirstStop (ms : List ℕ) (r : ℕ) (w : walks.Walk) : Type 0 where
  d : ℕ
  stop : Stop
  within : r + d ≤ size ms
  stops : StopsAt ahead.step_of ms r w d stop

-- the first call that does not move, after the first k, which do
module _ (ms : List ℕ) (c r : ℕ) (w : walks.Walk) (keeps : KeepsToTheList ms c r w) where
  abbrev Moved : ℕ → Type 0
  Moved k = (j : ℕ) → 1 ≤ j → j < suc k → answer w j ≡ given (move_at ms (r + j))

  moved_on : (k : ℕ) → Moved k → NamesFrom ms r w (suc k) → Moved (suc k)
  moved_on k moves n j low high =
      elim (dec_lt j (suc k)) [
        | yes before ↦ moves j low before
        | no here ↦ let same : suc k ≡ j = omega arith in subst (λ (i : ℕ). answer w i ≡ given (move_at ms (r + i))) same n.answers
      ]

  -- it is call k + 1, or a later one
  stops_or : (k : ℕ) → r + suc k ≤ size ms → Moved k → Does ms r w (suc k) → (r + suc k < size ms → NamesFrom ms r w (suc k) → FirstStop ms r w) → FirstStop ms r w
  stops_or k within moves (names less n) later = later less n
  stops_or k within moves (is_end_lem past says) later =
      record { d = suc k; stop = end; within = within; stops = record { from_one = omega arith; moves = moves; halts = ends says refl } }
  stops_or k within moves (is_dry says same) later =
      record { d = suc k; stop = refusal 10; within = within; stops = record { from_one = omega arith; moves = moves; halts = refuses 10 says refl } }

  -- there are g more calls up to call N − r
  first_stop_lem : (g k : ℕ) → r + suc k + g ≡ size ms → Moved k → FirstStop ms r w
  first_stop_lem zero k e moves = stops_or k (omega arith) moves (keeps.calls (suc k) (omega arith)) (λ less n. absurd (omega arith))
  first_stop_lem (suc g) k e moves =
      stops_or k (omega arith) moves (keeps.calls (suc k) (omega arith))
      (λ less n. first_stop_lem g (suc k) (omega arith) (moved_on k moves n))

module _ (radices : List ℕ) (c : ℕ) (word : List ℕ) (accepted : (resume_of ahead.closed_walk radices c word).answer ≡ given tt) where
  abbrev there : ℕ
  there = rank (digits radices) (digits word)

  abbrev picked : walks.Walk
  picked = (resume_of ahead.closed_walk radices c word).state

  keeps : KeepsToTheList (digits radices) c there picked
  keeps = picked_up_walks_keep_to_the_list ahead.closed_walk radices c word accepted

  below : there < size (digits radices)
  below = rank_below (digits radices) (digits word) ((resumes_exactly ahead.closed_walk radices c word).0 accepted).1

  writes : (d : ℕ) (stop : Stop) → StopsAt ahead.step_of (digits radices) there picked d stop → (t : ℕ) (out : List ℕ)
      → resumed_moves_call radices c word t out ≡ writes_first (digits radices) there d stop t out
  unfolding resumed_moves_call after
  writes d stop run t out =
      ap (λ (a : Answer Unit). opened_run a (ahead.run_of picked t out) out) accepted
      ∙ writes_first_lem ahead.step_of (digits radices) there picked d stop run walks.in_range (keeps.stays_in_range 0) t out

  -- A walk that is picked up with places enough writes the list's moves from the rank of its setting on, up to N − 1, or as
  -- many of them as are asked for; it says end exactly where more are asked for.
  pub resumed_moves_are_the_lists : length (unlocked (digits radices)) ≤ 2 * c → (t : ℕ) (out : List ℕ)
      → resumed_moves_call radices c word t out ≡ writes_first (digits radices) there (size (digits radices) - there) end t out
  resumed_moves_are_the_lists places =
      let ms = digits radices in
      let less = below in
      let on = picked_up_walks_go_on ahead.closed_walk radices c word accepted places in
      writes (size ms - there) end
      (record {
        from_one = omega arith;
        moves = λ j a b. (on.moves j a (omega arith)).answers;
        halts = ends (on.end (size ms - there) (omega arith)) refl;
      })

  -- Whatever its capacity, it writes moves of the list, from that setting on without a gap: up to a call d, at most call N −
  -- rank, which is the end or dry.
  pub resumed_moves_keep_to_the_list : (d : ℕ)
      × (stop : Stop)
      × (1 ≤ d)
      × (there + d ≤ size (digits radices))
      × ((t : ℕ) (out : List ℕ) → resumed_moves_call radices c word t out ≡ writes_first (digits radices) there d stop t out)
  resumed_moves_keep_to_the_list =
      let less = below in
      let s =
      first_stop_lem (digits radices) c there picked keeps (size (digits radices) - there - 1) 0 (omega arith)
      (λ j low high. absurd (omega arith)) in
      (s.d, s.stop, s.stops.from_one, s.within, writes s.d s.stop s.stops)

-- A walk that cannot be picked up gives the refusal's number, and nothing is written.
pub refused_resuming_writes_nothing : (radices : List ℕ) (c : ℕ) (word : List ℕ) (k : ℕ)
    → (resume_of ahead.closed_walk radices c word).answer ≡ refused k
    → (t : ℕ) (out : List ℕ)
    → resumed_moves_call radices c word t out ≡ record { answer = refused k; out = out }
unfolding resumed_moves_call
refused_resuming_writes_nothing radices c word k e t out =
    ap (λ (a : Answer Unit). opened_run a (ahead.run_of (resume_of ahead.closed_walk radices c word).state t out) out) e

-- the moves up to rank j, and those from there on
pub list-moves_join : (ms : List ℕ) (i j t : ℕ) → list_moves ms i j ++ list_moves ms (i + j) t ≡ list_moves ms i (j + t)
unfolding list_moves
list-moves_join ms i zero t = ap₂ (list_moves ms) (add-zero i) (sym (zero-add t))
list-moves_join ms i (suc j) t =
    let e : i + suc j ≡ suc i + j = omega arith in
    let f : suc (j + t) ≡ suc j + t = omega arith in
    ap (λ (l : List ℕ). move_byte (change ms (suc i)).digit (change ms (suc i)).down ∷ l)
    (ap (λ (k : ℕ). list_moves ms (suc i) j ++ list_moves ms k t) e ∙ list-moves_join ms (suc i) j t)
    ∙ ap (list_moves ms i) f
