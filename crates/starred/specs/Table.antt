-- Document 01's starred cases as a table. Radices and words are written as there, digit n first.
use Rattle.std.specs.Prelude.{◌≡◌, ℕ, zero, suc, ◌-◌, ◌/◌, ◌^◌, true, false, cond, get_or, take, replicate}
use mathlib.Core.List.{List, [], ◌∷◌, ◌++◌, map}
use Rattle.gray_theory.specs.Answers.{Answer, given, refused}
use Rattle.gray_theory.specs.Radices.{digits, bytes}
use Rattle.gray_theory.specs.Words.{upward, list}
use Rattle.gray_theory.specs.Changes.{Change, change, ruler}
use Rattle.gray_theory.specs.Costs.{cost}
use Rattle.gray_theory.specs.Calls.{size_call, rank_call}
use Rattle.gray_theory.specs.Engines.{Event, moved, ended, after, answer_of}
use Rattle.ahead_theory.specs.States.{Walk, setting}
use Rattle.ahead_theory.specs.Work.{Work, carry, append, idle}
use Rattle.ahead_theory.specs.Calls.{closed_walk, open_of, twice}
use Rattle.ahead_theory.specs.Events.{state, answer, events as eventsOf}
use Rattle.towers_theory.specs.States.{Towers, setting as diskSetting}
use Rattle.towers_theory.specs.Calls.{closed_towers, open_of as openDisks, step_of as stepDisks}
use Rattle.rests_theory.specs.Rests.{P, Q, Run, moves, moves_in}
use Rattle.lister_theory.specs.Listers.{listing}
use Rattle.lister_theory.specs.Calls.{list_call}
use Rattle.movelog_theory.specs.Logs.{digit_records}
use Rattle.movelog_theory.specs.Calls.{write_call, read_call, moves_call}
use Rattle.starred.specs.Same.{Test, numbers, changes, events, units, lists, answers}

-- a row: what the definitions give, and what document 01 says it is
pub record Row : Type 1 where
  pub Value : Type 0
  pub test : Test Value
  pub computed : Value
  pub said : Value

abbrev pub Holds : Row → Type 0
Holds r = r.computed ≡ r.said

abbrev pub row : {A : Type 0} → Test A → A → A → Row
row {A} t a b = record { Value = A; test = t; computed = a; said = b }

-- the words of the list, and what stands in a list behind a word
abbrev words_of : List ℕ → List (List ℕ)
words_of radices = map bytes (list (digits radices))

abbrev behind : List ℕ → List (List ℕ) → List (List ℕ)
behind w [] = []
behind w (v ∷ l) = cond ((lists numbers).same w v) l (behind w l)

abbrev up : ℕ → Change
up k = record { digit = k; down = false }

abbrev down : ℕ → Change
down k = record { digit = k; down = true }

abbrev names : Change → ℕ → Answer Event
names c notch = given (moved c notch)

abbrev end : Answer Event
end = given ended

-- the buffered engine on radices, digit n first, with the capacity c, opened on a state with no survey
abbrev walk : List ℕ → ℕ → Walk
walk radices c = (open_of closed_walk radices c).state

-- the entry that call j removes
abbrev removal : Walk → ℕ → ℕ
removal w j = get_or (twice (state w (j - 1))).queue 0 0

-- s after call j, and the setting then
abbrev steps_after : Walk → ℕ → ℕ
steps_after w j = (state w j).producer.steps

abbrev setting_after : Walk → ℕ → List ℕ
setting_after w j = bytes (setting (state w j))

-- the disk engine in the same way, and its setting after call j
abbrev disks : List ℕ → Towers
disks radices = (openDisks closed_towers radices).state

abbrev disk_setting_after : Towers → ℕ → List ℕ
disk_setting_after s j = bytes (diskSetting (after stepDisks s j))

-- the useful step, counted on from u, that appends the entry with j others before it
abbrev finished_at : ℕ → ℕ → List Work → ℕ
finished_at j u [] = 0
finished_at j u (carry ∷ es) = finished_at j (suc u) es
finished_at zero u (append ∷ es) = suc u
finished_at (suc j) u (append ∷ es) = finished_at j (suc u) es
finished_at j u (idle ∷ es) = finished_at j u es

-- those of calls 1 to t that move sluice k
abbrev calls_that_move : Run → ℕ → ℕ → List ℕ
calls_that_move run zero k = []
calls_that_move run (suc t) k = calls_that_move run t k ++ cond (moves run (suc t) k) (suc t ∷ []) []

-- the log of 2, 3 with c = 1, t = 5, as document 01 has it
abbrev first_log : List ℕ
first_log =
    1 ∷ 2 ∷ 1 ∷ 2 ∷ 1 ∷ 3 ∷ 2 ∷ 2 ∷ 2 ∷ 3 ∷ 1 ∷ 3 ∷ 1 ∷ 3 ∷ 2 ∷ 3 ∷ 129 ∷ 3 ∷ 129 ∷ 4 ∷ 0 ∷ 0 ∷ 0 ∷ 0 ∷ 0 ∷ 0 ∷ 0 ∷ 5 ∷ []

-- the log of one locked sluice, c = 1, t = 0: no move, and the end, since N − 1 is 0
abbrev locked_log : List ℕ
locked_log = 1 ∷ 1 ∷ 1 ∷ 2 ∷ 1 ∷ 1 ∷ 4 ∷ 0 ∷ 0 ∷ 0 ∷ 0 ∷ 0 ∷ 0 ∷ 0 ∷ 0 ∷ []

unfoldable pub table : List Row
table =
    -- m2 = 2, m1 = 3
    row (lists (lists numbers)) (words_of (2 ∷ 3 ∷ []))
    ((0 ∷ 0 ∷ []) ∷ (0 ∷ 1 ∷ []) ∷ (0 ∷ 2 ∷ []) ∷ (1 ∷ 2 ∷ []) ∷ (1 ∷ 1 ∷ []) ∷ (1 ∷ 0 ∷ []) ∷ [])
    -- the same: its changes, and the digits that the ruler function names, the end's among them
    ∷ row (lists changes) (map (change (digits (2 ∷ 3 ∷ []))) (1 ∷ 2 ∷ 3 ∷ 4 ∷ 5 ∷ []))
    (up 1 ∷ up 1 ∷ up 2 ∷ down 1 ∷ down 1 ∷ [])
    ∷ row (lists numbers) (map (ruler (digits (2 ∷ 3 ∷ []))) (1 ∷ 2 ∷ 3 ∷ 4 ∷ 5 ∷ 6 ∷ [])) (1 ∷ 1 ∷ 2 ∷ 1 ∷ 1 ∷ 3 ∷ [])
    -- the same, c = 1: removals, s after them, the settings, and what is answered
    ∷ row (lists numbers) (map (removal (walk (2 ∷ 3 ∷ []) 1)) (1 ∷ 2 ∷ 3 ∷ 4 ∷ 5 ∷ 6 ∷ [])) (1 ∷ 1 ∷ 2 ∷ 1 ∷ 1 ∷ 3 ∷ [])
    ∷ row (lists numbers) (map (steps_after (walk (2 ∷ 3 ∷ []) 1)) (1 ∷ 2 ∷ 3 ∷ 4 ∷ 5 ∷ 6 ∷ [])) (1 ∷ 3 ∷ 4 ∷ 5 ∷ 7 ∷ 9 ∷ [])
    ∷ row (lists (lists numbers)) (map (setting_after (walk (2 ∷ 3 ∷ []) 1)) (0 ∷ 1 ∷ 2 ∷ 3 ∷ 4 ∷ 5 ∷ 6 ∷ []))
    ((0 ∷ 0 ∷ []) ∷ (0 ∷ 1 ∷ []) ∷ (0 ∷ 2 ∷ []) ∷ (1 ∷ 2 ∷ []) ∷ (1 ∷ 1 ∷ []) ∷ (1 ∷ 0 ∷ []) ∷ (1 ∷ 0 ∷ []) ∷ [])
    ∷ row (lists (answers events)) (map (answer (walk (2 ∷ 3 ∷ []) 1)) (1 ∷ 2 ∷ 3 ∷ 4 ∷ 5 ∷ 6 ∷ 7 ∷ []))
    (names (up 1) 1 ∷ names (up 1) 2 ∷ names (up 2) 1 ∷ names (down 1) 1 ∷ names (down 1) 0 ∷ end ∷ end ∷ [])
    -- three of 2, c = 2: the end at call 8, s = 16, though entry 8 is finished at useful step 15
    ∷ row (lists (answers events)) (map (answer (walk (replicate 3 2) 2)) (1 ∷ 2 ∷ 3 ∷ 4 ∷ 5 ∷ 6 ∷ 7 ∷ 8 ∷ []))
    (names (up 1) 1 ∷ names (up 2) 1 ∷ names (down 1) 0 ∷ names (up 3) 1 ∷ names (up 1) 1 ∷ names (down 2) 0 ∷ names (down 1) 0 ∷ end ∷ [])
    ∷ row numbers (steps_after (walk (replicate 3 2) 2) 8) 16
    ∷ row numbers (finished_at 7 0 (eventsOf (walk (replicate 3 2) 2) 8)) 15
    ∷ row numbers (cost (digits (replicate 3 2)) 8) 15
    -- with c = 1: seven moves, then refusal 10
    ∷ row (lists (answers events)) (map (answer (walk (replicate 3 2) 1)) (1 ∷ 2 ∷ 3 ∷ 4 ∷ 5 ∷ 6 ∷ 7 ∷ 8 ∷ 9 ∷ []))
    (names (up 1) 1 ∷ names (up 2) 1 ∷ names (down 1) 0 ∷ names (up 3) 1 ∷ names (up 1) 1 ∷ names (down 2) 0 ∷ names (down 1) 0 ∷ refused 10 ∷ refused 10 ∷ [])
    -- four sluices of 3
    ∷ row (answers numbers) (rank_call (replicate 4 3) (0 ∷ 1 ∷ 2 ∷ 2 ∷ [])) (given 9)
    -- six of 2
    ∷ row (answers numbers) (rank_call (replicate 6 2) (1 ∷ 1 ∷ 0 ∷ 0 ∷ 1 ∷ 1 ∷ [])) (given 34)
    ∷ row (answers numbers) (rank_call (replicate 6 2) (1 ∷ 1 ∷ 0 ∷ 0 ∷ 1 ∷ 0 ∷ [])) (given 35)
    -- six of 3: what comes after 211102
    ∷ row (lists (lists numbers)) (take 3 (behind (2 ∷ 1 ∷ 1 ∷ 1 ∷ 0 ∷ 2 ∷ []) (words_of (replicate 6 3))))
    ((2 ∷ 1 ∷ 1 ∷ 1 ∷ 0 ∷ 1 ∷ []) ∷ (2 ∷ 1 ∷ 1 ∷ 1 ∷ 0 ∷ 0 ∷ []) ∷ (2 ∷ 1 ∷ 1 ∷ 2 ∷ 0 ∷ 0 ∷ []) ∷ [])
    -- the same from the buffered engine, c = 3
    ∷ row (lists (lists numbers)) (map (setting_after (walk (replicate 6 3) 3)) (609 ∷ 610 ∷ 611 ∷ 612 ∷ []))
    ((2 ∷ 1 ∷ 1 ∷ 1 ∷ 0 ∷ 2 ∷ []) ∷ (2 ∷ 1 ∷ 1 ∷ 1 ∷ 0 ∷ 1 ∷ []) ∷ (2 ∷ 1 ∷ 1 ∷ 1 ∷ 0 ∷ 0 ∷ []) ∷ (2 ∷ 1 ∷ 1 ∷ 2 ∷ 0 ∷ 0 ∷ []) ∷ [])
    -- no sluice; 48 of 2, and 49; notch counts 0, 1, 2 and 255
    ∷ row (answers numbers) (size_call []) (refused 2)
    ∷ row (answers numbers) (size_call (replicate 48 2)) (given (2 ^ 48))
    ∷ row (answers numbers) (size_call (replicate 49 2)) (refused 2)
    ∷ row (answers numbers) (size_call (0 ∷ [])) (refused 3)
    ∷ row (answers numbers) (size_call (1 ∷ [])) (given 1)
    ∷ row (answers numbers) (size_call (2 ∷ [])) (given 2)
    ∷ row (answers numbers) (size_call (255 ∷ [])) (given 255)
    -- the same, opened; and 48 of 2 with c = 32, with c = 33, and with no place at all
    ∷ row (answers units) (open_of closed_walk [] 1).answer (refused 2)
    ∷ row (answers units) (open_of closed_walk (replicate 49 2) 25).answer (refused 2)
    ∷ row (answers units) (open_of closed_walk (0 ∷ []) 1).answer (refused 3)
    ∷ row (answers units) (open_of closed_walk (1 ∷ []) 1).answer (given tt)
    ∷ row (answers units) (open_of closed_walk (2 ∷ []) 1).answer (given tt)
    ∷ row (answers units) (open_of closed_walk (255 ∷ []) 1).answer (given tt)
    ∷ row (answers units) (open_of closed_walk (replicate 48 2) 32).answer (given tt)
    ∷ row (answers units) (open_of closed_walk (replicate 48 2) 33).answer (refused 5)
    ∷ row (answers units) (open_of closed_walk (replicate 48 2) 0).answer (refused 5)
    -- disks on counts 2, 4 and on 3, 5
    ∷ row (answers units) (openDisks closed_towers (2 ∷ 4 ∷ [])).answer (refused 6)
    ∷ row (answers units) (openDisks closed_towers (3 ∷ 5 ∷ [])).answer (given tt)
    -- besides: on odd and even counts, and on equal even ones
    ∷ row (answers units) (openDisks closed_towers (3 ∷ 4 ∷ [])).answer (refused 6)
    ∷ row (answers units) (openDisks closed_towers (4 ∷ 4 ∷ [])).answer (given tt)
    -- only the counts of sluices that move are looked at
    ∷ row (answers units) (openDisks closed_towers (1 ∷ 2 ∷ 2 ∷ [])).answer (given tt)
    ∷ row (answers units) (openDisks closed_towers (1 ∷ 2 ∷ 4 ∷ [])).answer (refused 6)
    ∷ row (answers units) (openDisks closed_towers (2 ∷ 1 ∷ 3 ∷ [])).answer (refused 6)
    -- on 3, 5 to the end: the settings are the list
    ∷ row (lists (lists numbers)) (map (disk_setting_after (disks (3 ∷ 5 ∷ []))) (upward 15)) (words_of (3 ∷ 5 ∷ []))
    -- three of 2: the answers, the end and the call after it
    ∷ row (lists (answers events)) (map (answer_of stepDisks (disks (replicate 3 2))) (1 ∷ 2 ∷ 3 ∷ 4 ∷ 5 ∷ 6 ∷ 7 ∷ 8 ∷ 9 ∷ []))
    (names (up 1) 1 ∷ names (up 2) 1 ∷ names (down 1) 0 ∷ names (up 3) 1 ∷ names (up 1) 1 ∷ names (down 2) 0 ∷ names (down 1) 0 ∷ end ∷ end ∷ [])
    -- a locked sluice between the two of the first case: sluice 3 is named; and among disks on three pegs and on a ring
    ∷ row (lists (answers events)) (map (answer (walk (2 ∷ 1 ∷ 3 ∷ []) 1)) (1 ∷ 2 ∷ 3 ∷ 4 ∷ 5 ∷ 6 ∷ 7 ∷ []))
    (names (up 1) 1 ∷ names (up 1) 2 ∷ names (up 3) 1 ∷ names (down 1) 1 ∷ names (down 1) 0 ∷ end ∷ end ∷ [])
    ∷ row (lists numbers) (map (removal (walk (2 ∷ 1 ∷ 3 ∷ []) 1)) (1 ∷ 2 ∷ 3 ∷ 4 ∷ 5 ∷ 6 ∷ [])) (1 ∷ 1 ∷ 2 ∷ 1 ∷ 1 ∷ 3 ∷ [])
    ∷ row (lists numbers) (map (steps_after (walk (2 ∷ 1 ∷ 3 ∷ []) 1)) (1 ∷ 2 ∷ 3 ∷ 4 ∷ 5 ∷ 6 ∷ [])) (1 ∷ 3 ∷ 4 ∷ 5 ∷ 7 ∷ 9 ∷ [])
    ∷ row (lists (lists numbers)) (map (setting_after (walk (2 ∷ 1 ∷ 3 ∷ []) 1)) (upward 6)) (words_of (2 ∷ 1 ∷ 3 ∷ []))
    ∷ row (lists (lists numbers)) (map (disk_setting_after (disks (3 ∷ 1 ∷ 5 ∷ []))) (upward 15)) (words_of (3 ∷ 1 ∷ 5 ∷ []))
    ∷ row (lists (lists numbers)) (map (disk_setting_after (disks (1 ∷ 2 ∷ 1 ∷ 2 ∷ 2 ∷ []))) (upward 8)) (words_of (1 ∷ 2 ∷ 1 ∷ 2 ∷ 2 ∷ []))
    -- what the disks answer then: the notch named is that of sluice 3, which is disk 2
    ∷ row (lists (answers events)) (map (answer_of stepDisks (disks (3 ∷ 1 ∷ 3 ∷ []))) (1 ∷ 2 ∷ 3 ∷ 4 ∷ 5 ∷ 6 ∷ 7 ∷ 8 ∷ 9 ∷ []))
    (names (up 1) 1 ∷ names (up 1) 2 ∷ names (up 3) 1 ∷ names (down 1) 1 ∷ names (down 1) 0 ∷ names (up 3) 2 ∷ names (up 1) 1 ∷ names (up 1) 2 ∷ end ∷ [])
    ∷ row (lists (answers events)) (map (answer_of stepDisks (disks (1 ∷ 2 ∷ 1 ∷ 2 ∷ []))) (1 ∷ 2 ∷ 3 ∷ 4 ∷ []))
    (names (up 1) 1 ∷ names (up 3) 1 ∷ names (down 1) 0 ∷ end ∷ [])
    -- all locked: the first call is the end, with one useful step
    ∷ row (lists (answers events)) (map (answer (walk (1 ∷ 1 ∷ []) 1)) (1 ∷ 2 ∷ [])) (end ∷ end ∷ [])
    ∷ row (lists numbers) (map (steps_after (walk (1 ∷ 1 ∷ []) 32)) (0 ∷ 1 ∷ 2 ∷ [])) (0 ∷ 1 ∷ 1 ∷ [])
    ∷ row (lists (answers events)) (map (answer_of stepDisks (disks (1 ∷ 1 ∷ []))) (1 ∷ 2 ∷ [])) (end ∷ end ∷ [])
    -- how long a sluice rests (document 02), on 3, 2, 4 with c = 2: P and Q, and how often each sluice moves
    ∷ row (lists numbers) (map (P (digits (3 ∷ 2 ∷ 4 ∷ []))) (1 ∷ 2 ∷ 3 ∷ [])) (1 ∷ 4 ∷ 8 ∷ [])
    ∷ row (lists numbers) (map (Q (digits (3 ∷ 2 ∷ 4 ∷ []))) (1 ∷ 2 ∷ 3 ∷ [])) (4 ∷ 8 ∷ 24 ∷ [])
    ∷ row (lists numbers) (map (λ k. moves_in (answer (walk (3 ∷ 2 ∷ 4 ∷ []) 2)) k 23) (1 ∷ 2 ∷ 3 ∷ [])) (18 ∷ 3 ∷ 2 ∷ [])
    -- which calls: for sluice 1 P is 1; sluice 2 has two notches, so it always turns; the slowest, sluice 3, never does
    ∷ row (lists (lists numbers)) (map (calls_that_move (answer (walk (3 ∷ 2 ∷ 4 ∷ []) 2)) 23) (1 ∷ 2 ∷ 3 ∷ []))
    ((1 ∷ 2 ∷ 3 ∷ 5 ∷ 6 ∷ 7 ∷ 9 ∷ 10 ∷ 11 ∷ 13 ∷ 14 ∷ 15 ∷ 17 ∷ 18 ∷ 19 ∷ 21 ∷ 22 ∷ 23 ∷ []) ∷ (4 ∷ 12 ∷ 20 ∷ []) ∷ (8 ∷ 16 ∷ []) ∷ [])
    -- with a locked sluice among them, which never moves, and leaves P of the one above it as it was
    ∷ row (lists (lists numbers)) (map (calls_that_move (answer (walk (3 ∷ 1 ∷ 2 ∷ 4 ∷ []) 2)) 23) (2 ∷ 3 ∷ 4 ∷ []))
    ((4 ∷ 12 ∷ 20 ∷ []) ∷ [] ∷ (8 ∷ 16 ∷ []) ∷ [])
    ∷ row (lists numbers) (map (P (digits (3 ∷ 1 ∷ 2 ∷ 4 ∷ []))) (1 ∷ 2 ∷ 3 ∷ 4 ∷ [])) (1 ∷ 4 ∷ 8 ∷ 8 ∷ [])
    -- from the disk engine: on 3, 1, 5, and on three of 2, each of which moves at odd multiples of P
    ∷ row (lists (lists numbers)) (map (calls_that_move (answer_of stepDisks (disks (3 ∷ 1 ∷ 5 ∷ []))) 14) (1 ∷ 2 ∷ 3 ∷ []))
    ((1 ∷ 2 ∷ 3 ∷ 4 ∷ 6 ∷ 7 ∷ 8 ∷ 9 ∷ 11 ∷ 12 ∷ 13 ∷ 14 ∷ []) ∷ [] ∷ (5 ∷ 10 ∷ []) ∷ [])
    ∷ row (lists (lists numbers)) (map (calls_that_move (answer_of stepDisks (disks (replicate 3 2))) 7) (1 ∷ 2 ∷ 3 ∷ []))
    ((1 ∷ 3 ∷ 5 ∷ 7 ∷ []) ∷ (2 ∷ 6 ∷ []) ∷ (4 ∷ []) ∷ [])
    -- the slowest of 48 of 2: at half of the survey, once
    ∷ row numbers (P (digits (replicate 48 2)) 48) (2 ^ 47)
    ∷ row numbers (2 ^ 48 / P (digits (replicate 48 2)) 48 - 2 ^ 48 / Q (digits (replicate 48 2)) 48) 1
    -- zero settings from rank N, and one
    ∷ row (answers (lists numbers)) (list_call (2 ∷ 3 ∷ []) 6 0 0) (given [])
    ∷ row (answers (lists numbers)) (list_call (2 ∷ 3 ∷ []) 6 1 2) (refused 8)
    -- all of 2, 3, and with a byte too little; by the downward lister they come from last to first
    ∷ row (answers (lists numbers)) (list_call (2 ∷ 3 ∷ []) 0 6 12)
    (given (0 ∷ 0 ∷ 0 ∷ 1 ∷ 0 ∷ 2 ∷ 1 ∷ 2 ∷ 1 ∷ 1 ∷ 1 ∷ 0 ∷ []))
    ∷ row (answers (lists numbers)) (list_call (2 ∷ 3 ∷ []) 0 6 11) (refused 9)
    ∷ row (lists (lists numbers)) (listing true (2 ∷ 3 ∷ []))
    ((1 ∷ 0 ∷ []) ∷ (1 ∷ 1 ∷ []) ∷ (1 ∷ 2 ∷ []) ∷ (0 ∷ 2 ∷ []) ∷ (0 ∷ 1 ∷ []) ∷ (0 ∷ 0 ∷ []) ∷ [])
    -- the log of the first case, c = 1, t = 5, byte for byte, and what it is read as; without its end record
    ∷ row (answers (lists numbers)) (write_call (2 ∷ 3 ∷ []) 1 5 28) (given first_log)
    ∷ row (answers numbers) (read_call first_log) (given 5)
    ∷ row (answers numbers) (read_call (take 19 first_log)) (refused 11)
    -- all locked: the log of no moves has its end record, and without it gets 11; one move is too many
    ∷ row (answers (lists numbers)) (write_call (1 ∷ []) 1 0 15) (given locked_log)
    ∷ row (answers numbers) (read_call locked_log) (given 0)
    ∷ row (answers numbers) (read_call (take 6 locked_log)) (refused 11)
    ∷ row (answers (lists numbers)) (write_call (1 ∷ []) 1 1 17) (refused 8)
    -- besides: the part with its moves, its room, and logs that name no sluice and 49
    ∷ row (lists numbers) (moves_call first_log) (3 ∷ 1 ∷ 3 ∷ 1 ∷ 3 ∷ 2 ∷ 3 ∷ 129 ∷ 3 ∷ 129 ∷ [])
    ∷ row (answers (lists numbers)) (write_call (2 ∷ 3 ∷ []) 1 5 27) (refused 9)
    ∷ row (answers numbers) (read_call (1 ∷ 0 ∷ 1 ∷ [])) (refused 2)
    ∷ row (answers numbers) (read_call (1 ∷ 49 ∷ 1 ∷ digit_records 1 (replicate 49 2))) (refused 2)
    ∷ []
