-- The capacity bound: a work step appends only where there is room.
use Rattle.std.specs.Prelude.{ℕ, ◌-◌, ◌≤◌, ◌<◌, ◌≡◌, refl, Bool, true, false, cond, List, eqb, ltb}
use Rattle.std.proofs.Common.{arith, ltb-true}
use Rattle.ahead_theory.specs.States.{Producer, Walk, moving_radices}
use Rattle.ahead_theory.specs.Work.{carry, append, idle, count_at, radix_at, run_out, kind, done, work}
use Rattle.ahead_theory.specs.Calls.{once}
use Rattle.ahead_theory.specs.Demand.{Within}

done_within : (c : ℕ) (p : Producer) (out full room : Bool)
    → (room ≡ true → p.queued < c)
    → p.queued ≤ c
    → (done (cond out idle (cond full carry (cond room append idle))) p).queued ≤ c
unfolding done
done_within c p true full room has h = h
done_within c p false true room has h = h
done_within c p false false true has h = let r = has refl in omega arith
done_within c p false false false has h = h

pub work_within : (ms : List ℕ) (c : ℕ) (p : Producer) → p.queued ≤ c → (work ms c p).queued ≤ c
unfolding kind
work_within ms c p h =
    done_within c p (run_out ms p) (eqb (count_at p) (radix_at ms p - 1)) (ltb p.queued c) (ltb-true p.queued c) h

pub within : (w : Walk) → w.producer.queued ≤ w.capacity → Within w.capacity w
within w h =
    let first : (once w).queued ≤ w.capacity = work_within (moving_radices w) w.capacity w.producer h in
    record { before = h; first = first; second = work_within (moving_radices w) w.capacity (once w) first }
