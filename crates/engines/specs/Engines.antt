-- Either engine: its state is that of the one or of the other, and a call is that engine's own.
use Rattle.std.specs.Prelude.{ℕ, List}
use Rattle.gray_theory.specs.Engines.{Event, Handed}
use Rattle.gray_theory.specs.RunCalls.{Running}
use Rattle.ahead_theory.specs.States.{Walk}
use Rattle.ahead_theory.specs.Calls as ahead
use Rattle.towers_theory.specs.States.{Towers}
use Rattle.towers_theory.specs.Calls as towers

pub data Engine : Type 0 where
  buffered : Walk → Engine
  disks : Towers → Engine

-- the word (setting) in its array, digit 1 first
abbrev pub word_of : Engine → List ℕ
word_of (buffered w) = w.directed.word
word_of (disks s) = s.directed.word

-- what a call of the one engine hands back, as a call of either
abbrev pub handed_as : {S A : Type 0} → (S → Engine) → Handed S A → Handed Engine A
handed_as which h = record { state = which h.state; answer = h.answer }

abbrev pub run_as : {S : Type 0} → (S → Engine) → Running S → Running Engine
run_as which r = record { state = which r.state; answer = r.answer; out = r.out }

-- ---- the calls
abbrev pub step_of : Engine → Handed Engine Event
step_of (buffered w) = handed_as buffered (ahead.step_of w)
step_of (disks s) = handed_as disks (towers.step_of s)

abbrev pub run_of : Engine → ℕ → List ℕ → Running Engine
run_of (buffered w) t out = run_as buffered (ahead.run_of w t out)
run_of (disks s) t out = run_as disks (towers.run_of s t out)
