-- What a call answers in document 01's terms, and what a writer leaves in the memory that it is lent.
use Rattle.std.specs.Prelude.{ℕ, ◌≡◌, Bool, true, false, cond, List, ◌++◌, ltb, length, drop}

-- a value, or the number of a refusal: document 01, "Turned down, in checking order". A refusal holds its number only
pub data Answer (A : Type 0) : Type 0 where
  given : A → Answer A
  refused : ℕ → Answer A

-- refusal k where its fault is there; else what the checks after it say. Checks stand in the order of document 01, so the first
-- that applies is the lowest
abbrev pub refusing : {A : Type 0} → ℕ → Bool → Answer A → Answer A
refusing k fault rest = cond fault (refused k) rest

-- the number of a refusal; 0, which is no refusal's, for a value
abbrev pub number_of : {A : Type 0} → Answer A → ℕ
number_of (given a) = 0
number_of (refused k) = k

-- whether a value is given
abbrev pub is_given : {A : Type 0} → Answer A → Bool
is_given (given a) = true
is_given (refused k) = false

-- refusal 9, the last check of every writer: the lent output is shorter than the bytes to be written
abbrev pub fitting : ℕ → List ℕ → Answer (List ℕ)
fitting room bytes = refusing 9 (ltb room (length bytes)) (given bytes)

-- how many bytes an answer holds, the number that a writer gives
abbrev pub byte_count : Answer (List ℕ) → Answer ℕ
byte_count (given bytes) = given (length bytes)
byte_count (refused k) = refused k

-- what is in the lent memory after a writer: its bytes at the start and every byte past them as it came; all of them as they
-- came where it refuses
abbrev pub output_after : Answer (List ℕ) → List ℕ → List ℕ
output_after (given bytes) out = bytes ++ drop (length bytes) out
output_after (refused k) out = out

-- what every writer owes: with the room that its output has, it gives the number of its bytes or the refusal, and leaves them,
-- and nothing else, in the output
pub record Wrote (call : ℕ → Answer (List ℕ)) (answer : Answer ℕ) (before after : List ℕ) : Type 0 where
  pub answers : answer ≡ byte_count (call (length before))
  pub leaves : after ≡ output_after (call (length before)) before
