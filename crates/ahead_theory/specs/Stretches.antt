-- How the carries of a dry call on local arrays are undone.
use Rattle.std.specs.Prelude.{ℕ, ◌+◌, ◌-◌, ◌≤◌, ◌≡◌, cond, List, ltb, set}
use Rattle.ahead_theory.specs.Locals.{Fast}

-- ---- a dry call: the carries are undone
abbrev pub backed : List ℕ → ℕ → ℕ → List ℕ
backed rest from to =
    cond (ltb from to) (cond (ltb (from + 1) to) (set (set rest from 0) (from + 1) 0) (set rest from 0)) rest

pub record Undone (f g : Fast) : Type 0 where
  pub rest : backed g.rest f.place g.place ≡ f.rest
  pub queue : g.queue ≡ f.queue
  pub from : f.place ≤ g.place
  pub steps : g.steps ≡ f.steps + (g.place - f.place)
  pub short : g.place ≤ f.place + 2
