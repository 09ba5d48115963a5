-- The answers in document 01's terms: the values, or the number of the refusal, for each case.
use Rattle.std.specs.Prelude.{ℕ, Result, Ok, Err}
use Rattle.gray_theory.specs.Answers.{Answer, given, refused}
use Rattle.gray_theory.specs.Engines.{Event, moved, ended}
use Rattle.gray_theory.specs.RunCalls.{Outcome, nothing, end, refusal}
use Rattle.gray.specs.declared.Refusal.{Refusal}
use Rattle.gray.specs.declared.Refusal.TheVariants.{Layout, Digits, Radix, Size, Capacity, Game, State, Word, Output, Dry, Log, Line, Order}
use Rattle.gray.specs.declared.Stepping.{Stepping}
use Rattle.gray.specs.declared.Stepping.TheVariants.{Moved, End}
use Rattle.gray.specs.declared.Running.{Running}
use Rattle.gray.specs.declared.Running.TheVariants.{Made, Ended, Stopped}

-- the numbers that documents 01 and 02 give
abbrev pub refusal_number : Refusal → ℕ
refusal_number Layout = 1
refusal_number Digits = 2
refusal_number Radix = 3
refusal_number Size = 4
refusal_number Capacity = 5
refusal_number Game = 6
refusal_number State = 7
refusal_number Word = 8
refusal_number Output = 9
refusal_number Dry = 10
refusal_number Log = 11
refusal_number Line = 12
refusal_number Order = 13

-- a value that is given as it is, or a refusal
abbrev pub answer_as : {A : Type 0} → Result A Refusal → Answer A
answer_as (Ok a) = given a
answer_as (Err r) = refused (refusal_number r)

abbrev pub stepping_as : Result Stepping Refusal → Answer Event
stepping_as (Ok (Moved k d a)) = given (moved (record { digit = k; down = d }) a)
stepping_as (Ok End) = given ended
stepping_as (Err r) = refused (refusal_number r)

abbrev pub running_as : Result Running Refusal → Answer Outcome
running_as (Ok (Made t)) = given (record { made = t; stop = nothing })
running_as (Ok (Ended k)) = given (record { made = k; stop = end })
running_as (Ok (Stopped k r)) = given (record { made = k; stop = refusal (refusal_number r) })
running_as (Err r) = refused (refusal_number r)
