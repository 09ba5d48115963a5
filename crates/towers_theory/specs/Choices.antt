-- Where the disks are, and which one a call moves (document 01, "The disk engine"; document 004, sections 7 and 8). Disk i + 1, of
-- the digit that moves at index i of those, stands at index i; disk 1 is the smallest.
use Rattle.std.specs.Prelude.{ℕ, zero, suc, ◌-◌, Bool, cond, ◌&&◌, ◌||◌, not, eqb, ltb, get_or}
use Rattle.std.proofs.Math.Option.{Option, none, some}
use Rattle.gray_theory.specs.Directions.{all_below}
use Rattle.towers_theory.specs.States.{Towers, all_odd, common, disks}

-- ---- pegs
-- the three pegs of odd counts
abbrev pub left : ℕ
left = 0

abbrev pub middle : ℕ
middle = 1

abbrev pub right : ℕ
right = 2

-- for odd counts: a disk is on the left peg at notch 0, on the right at m − 1, else in the middle
abbrev pub side_peg : ℕ → ℕ → ℕ
side_peg m a = cond (eqb a 0) left (cond (eqb a (m - 1)) right middle)

-- the number of the digit of disk i + 1
abbrev pub digit_of : Towers → ℕ → ℕ
digit_of s i = get_or s.directed.moving.digits i 0

-- the peg of a disk: for odd counts it follows from the notch, for even ones it is stored
unfoldable pub peg_of : Towers → ℕ → ℕ
peg_of s i =
    cond (all_odd (disks s))
    (side_peg (get_or s.directed.radices (digit_of s i - 1) 0) (get_or s.directed.word (digit_of s i - 1) 0))
    (get_or s.pegs i 0)

-- ---- the disk chosen
-- a disk, or else the other one
abbrev pub or_else : Option ℕ → Option ℕ → Option ℕ
or_else (some i) other = some i
or_else none other = other

-- the smallest of n disks for which the test holds, if there is one: it is the smallest of those before the last, or else the last
unfoldable pub smallest : ℕ → (ℕ → Bool) → Option ℕ
smallest zero test = none
smallest (suc n) test = or_else (smallest n test) (cond (test n) (some n) none)

-- odd counts: a peg is one of the two of the turn, left and middle or middle and right
abbrev pub on_pair : ℕ → ℕ → Bool
on_pair turn peg = cond (eqb turn 0) (eqb peg left || eqb peg middle) (eqb peg middle || eqb peg right)

-- even counts: disk 1 moves m − 1 times in a sweep, and the turn counts these moves
abbrev pub sweeping : ℕ → ℕ → Bool
sweeping m turn = ltb turn (m - 1)

-- a top disk: no smaller one is on its peg
abbrev pub is_top : Towers → ℕ → Bool
is_top s i = all_below i (λ k. not (eqb (peg_of s k) (peg_of s i)))

-- a disk on a peg that does not carry disk 1
abbrev pub elsewhere : Towers → ℕ → Bool
elsewhere s i = not (eqb (peg_of s i) (peg_of s 0))

-- odd counts: the smallest disk on the two pegs of the turn
abbrev pub chosen_on_pair : Towers → Option ℕ
chosen_on_pair s = smallest s.directed.moving.count (λ i. on_pair s.turn (peg_of s i))

-- even counts: disk 1 in its sweep; after it the smallest top disk on the other pegs
abbrev pub chosen_on_ring : Towers → Option ℕ
chosen_on_ring s =
    cond (sweeping (common (disks s)) s.turn) (some 0) (smallest s.directed.moving.count (λ i. is_top s i && elsewhere s i))

unfoldable pub chosen : Towers → Option ℕ
chosen s = cond (all_odd (disks s)) (chosen_on_pair s) (chosen_on_ring s)
