-- The work step (document 01, "The buffered engine").
use Rattle.std.specs.Prelude.{ℕ, ◌+◌, ◌-◌, Bool, cond, ◌&&◌, List, eqb, ltb, length, get_or, set}
use Rattle.ahead_theory.specs.States.{Producer, places}

-- what a work step does. One that is not idle is useful
pub data Work : Type 0 where
  carry : Work
  append : Work
  idle : Work

-- b_i and m_i at the place i that the producer has come to
abbrev pub count_at : Producer → ℕ
count_at p = get_or p.counter (p.place - 1) 0

abbrev pub radix_at : List ℕ → Producer → ℕ
radix_at ms p = get_or (places ms) (p.place - 1) 0

-- i = n + 1 with b_i = 1: the counter has run out
abbrev pub run_out : List ℕ → Producer → Bool
run_out ms p = eqb p.place (length ms + 1) && eqb (count_at p) 1

-- if b_i = m_i − 1 it carries; otherwise, if the queue holds fewer than c entries, it appends one; otherwise it is idle. Where
-- the counter has run out it is idle and does not carry
unfoldable pub kind : List ℕ → ℕ → Producer → Work
kind ms c p =
    cond (run_out ms p) idle
    (cond (eqb (count_at p) (radix_at ms p - 1)) carry
    (cond (ltb p.queued c) append idle))

-- a carry: b_i becomes 0 and i grows by 1. An append: b_i grows by 1, i is appended and i becomes 1. Both add 1 to s
unfoldable pub done : Work → Producer → Producer
done carry p = record {
  counter = set p.counter (p.place - 1) 0;
  place = p.place + 1;
  queue = p.queue;
  queued = p.queued;
  steps = p.steps + 1;
}
done append p = record {
  counter = set p.counter (p.place - 1) (count_at p + 1);
  place = 1;
  queue = set p.queue p.queued p.place;
  queued = p.queued + 1;
  steps = p.steps + 1;
}
done idle p = p

abbrev pub work : List ℕ → ℕ → Producer → Producer
work ms c p = done (kind ms c p) p
