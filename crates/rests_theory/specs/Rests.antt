-- How long a sluice rests between its moves (document 02, "How long a sluice rests"), claimed of what the calls of a walk
-- answer. As everywhere in the theory sluice k is digit k, and ms has its notch count at index k − 1.
use Rattle.std.specs.Prelude.{ℕ, zero, suc, ◌+◌, ◌-◌, ◌*◌, ◌/◌, ◌%◌, ◌≤◌, ◌<◌, ◌≡◌, Bool, true, false, cond, ◌&&◌, ◌||◌, not, List, [], ◌∷◌, eqb, ltb, length, get_or, take}
use Rattle.std.specs.Bool.{beq}
use Rattle.gray_theory.specs.Answers.{Answer, given, refused}
use Rattle.gray_theory.specs.Radices.{size}
use Rattle.gray_theory.specs.Locks.{unlocked, moving}
use Rattle.gray_theory.specs.Engines.{Event, moved, ended, move_at}

-- ---- P and Q
-- m_k, the notch count of sluice k
abbrev pub count_of : List ℕ → ℕ → ℕ
count_of ms k = get_or ms (k - 1) 0

-- P: the product of the counts of the moving sluices below sluice k
abbrev pub P : List ℕ → ℕ → ℕ
P ms k = size (unlocked (take (k - 1) ms))

-- Q: P · m_k
abbrev pub Q : List ℕ → ℕ → ℕ
Q ms k = P ms k * count_of ms k

-- k is a sluice of the survey that moves: its count is at least 2
pub record Moving (ms : List ℕ) (k : ℕ) : Type 0 where
  pub from_1 : 1 ≤ k
  pub to_n : k ≤ length ms
  pub count : 2 ≤ count_of ms k

-- or one that is locked: its count is 1
pub record Locked (ms : List ℕ) (k : ℕ) : Type 0 where
  pub from_1 : 1 ≤ k
  pub to_n : k ≤ length ms
  pub count : count_of ms k ≡ 1

-- ---- runs of calls
-- what each call answers, from call 1 on
abbrev pub Run : Type 0
Run = ℕ → Answer Event

-- the list as a run: change j for j from 1 to N − 1, and then the end
abbrev pub listed : List ℕ → Run
listed ms j = cond (ltb j (size ms)) (given (move_at ms j)) (given ended)

-- the run is along the list
abbrev pub NamesTheList : List ℕ → Run → Type 0
NamesTheList ms run = (j : ℕ) → 1 ≤ j → run j ≡ listed ms j

-- an answer is a move of sluice k
abbrev pub is_move_of : ℕ → Answer Event → Bool
is_move_of k (given (moved c notch)) = eqb c.digit k
is_move_of k (given ended) = false
is_move_of k (refused number) = false

-- call j moves sluice k
abbrev pub moves : Run → ℕ → ℕ → Bool
moves run j k = is_move_of k (run j)

-- it moves it in this direction to notch a
abbrev pub MovesTo : Run → ℕ → ℕ → Bool → ℕ → Type 0
MovesTo run j k down a = run j ≡ given (moved (record { digit = k; down = down }) a)

-- how many of calls 1 to t move sluice k
unfoldable pub moves_in : Run → ℕ → ℕ → ℕ
moves_in run k zero = 0
moves_in run k (suc t) = moves_in run k t + cond (moves run (suc t) k) 1 0

-- the numbers that f gives sluices, added up
unfoldable pub added_up : (ℕ → ℕ) → List ℕ → ℕ
added_up f [] = 0
added_up f (k ∷ ks) = f k + added_up f ks

-- ---- what is claimed of sluice k
-- d divides j
abbrev pub divides : ℕ → ℕ → Bool
divides d j = eqb (j % d) 0

-- its first move is change P, which is one of 1 to N − 1; none before it is
pub record FirstMove (ms : List ℕ) (run : Run) (k : ℕ) : Type 0 where
  pub from_1 : 1 ≤ P ms k
  pub below_N : P ms k < size ms
  pub at_P : moves run (P ms k) k ≡ true
  pub none_before : (j : ℕ) → 1 ≤ j → j < P ms k → moves run j k ≡ false

-- two of its moves in succession: call j moves it in the direction d to notch a, call j' in the direction d' to notch a', and
-- no call between them moves it
pub record InSuccession (run : Run) (k j j' : ℕ) (d d' : Bool) (a a' : ℕ) : Type 0 where
  pub first : MovesTo run j k d a
  pub second : MovesTo run j' k d' a'
  pub later : j < j'
  pub none_between : (i : ℕ) → j < i → i < j' → moves run i k ≡ false

-- it turns: the two moves have different directions
abbrev pub turns : Bool → Bool → Bool
turns d d' = not (beq d d')

-- the first of them has come to an end: notch 0 or m − 1
abbrev pub at_an_end : ℕ → ℕ → Bool
at_an_end m a = eqb a 0 || eqb a (m - 1)

-- they are P changes apart, or 2P exactly where it turns; and it turns exactly at an end
pub record Apart (ms : List ℕ) (k j j' : ℕ) (d d' : Bool) (a : ℕ) : Type 0 where
  pub rest : j' ≡ j + cond (turns d d') (2 * P ms k) (P ms k)
  pub turn : turns d d' ≡ at_an_end (count_of ms k) a

-- ---- what is claimed of a run
-- of calls 1 to N − 1, call j moves sluice k exactly if P divides j and Q does not; its first move, and two of its moves in
-- succession; it moves N / P − N / Q times; the moves of all moving sluices are those N − 1 calls, and no call after them
-- moves any; a locked sluice never moves
pub record Rests (ms : List ℕ) (run : Run) : Type 0 where
  pub when : (k j : ℕ) → Moving ms k → 1 ≤ j → j < size ms → moves run j k ≡ divides (P ms k) j && not (divides (Q ms k) j)
  pub first : (k : ℕ) → Moving ms k → FirstMove ms run k
  pub succession : (k j j' : ℕ) (d d' : Bool) (a a' : ℕ)
      → Moving ms k
      → 1 ≤ j
      → j' < size ms
      → InSuccession run k j j' d d' a a'
      → Apart ms k j j' d d' a
  pub in_all : (k : ℕ) → Moving ms k → moves_in run k (size ms - 1) ≡ size ms / P ms k - size ms / Q ms k
  pub together : added_up (λ k. moves_in run k (size ms - 1)) (moving ms) ≡ size ms - 1
  pub no_more : (k j : ℕ) → size ms ≤ j → moves run j k ≡ false
  pub locked : (k j : ℕ) → Locked ms k → 1 ≤ j → moves run j k ≡ false
