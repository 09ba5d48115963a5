-- Moves on the local arrays of a run are those of the engine.
use Rattle.std.specs.Prelude.{ℕ, ◌+◌, ◌-◌, ◌%◌, ◌≤◌, ◌<◌, ◌≡◌, Bool, true, false, cond, not, ◌⊎◌, List, leb, length, get_or}
use Rattle.std.proofs.Math.Decide.{dec_lt, ℕ_discrete}
use Rattle.std.proofs.Common.{arith, ap, ◌∙◌, inl, inr, lt-ltb, le-ltb, le-leb, eq-eqb, ne_eqb, length-set, get_or-set_same, get_or-set_other}
use Rattle.std.proofs.lemmas.Bool.{lt-leb}
use Rattle.gray_theory.specs.Bools.{impossible}
use Rattle.gray_theory.specs.MoveBytes.{move_byte}
use Rattle.gray_theory.specs.Directions.{moved_from, turned_at, word_moved, downs_moved}
use Rattle.gray_theory.proofs.DigitRanges.{DigitRange}
use Rattle.ahead_theory.specs.Locals.{turned_byte, left_moved, bytes_moved, Notch, Notches, Numbered}

-- ---- one digit
byte_turns : (d : ℕ) (down : Bool) → turned_byte (move_byte d down) ≡ move_byte d (not down)
unfolding move_byte
byte_turns d true = rw (le-ltb (d % 128 + 128) 128 (omega arith)) (omega arith)
byte_turns d false = rw (lt-ltb (d % 128 + 0) 128 (omega arith)) (omega arith)

module _ (m top left byte d a : ℕ) (tops : top + 1 ≡ m) (two : 2 ≤ m) where
  -- a digit in range has at least one notch to go
  some_left : (down : Bool) → DigitRange m a down → Notch top left byte d a down → 1 ≤ left
  some_left true r n =
      let go = n.to_go in
      let off : a ≡ 0 → ⊥ = λ z. impossible (cc (r.up_at_0 z)) in
      elim (dec_lt 0 left) [ yes l ↦ l | no l ↦ absurd (off (omega arith)) ]
  some_left false r n =
      let go = n.to_go in
      let off : a ≡ m - 1 → ⊥ = λ z. impossible (cc (r.down_at_top two z)) in
      elim (dec_lt 0 left) [ yes l ↦ l | no l ↦ absurd (off (omega arith)) ]

  turns : (down : Bool) (b : ℕ) → (b ≡ 0) ⊎ (b ≡ m - 1) → turned_at m b down ≡ not down
  turns down b (inl z) = rw (eq-eqb b 0 z)
  turns down b (inr z) =
      elim (ℕ_discrete b 0) [ yes y ↦ rw (eq-eqb b 0 y) | no y ↦ rw (ne_eqb b 0 y, eq-eqb b (m - 1) z) ]

  keeps : (down : Bool) (b : ℕ) → (b ≡ 0 → ⊥) → (b ≡ m - 1 → ⊥) → turned_at m b down ≡ down
  keeps down b y z = rw (ne_eqb b 0 y, ne_eqb b (m - 1) z)

  -- it moves one notch, and turns where it has come to an end
  notch_moves : (down : Bool)
      → DigitRange m a down
      → Notch top left byte d a down
      → Notch top (cond (leb left 1) top (left - 1)) (cond (leb left 1) (turned_byte byte) byte) d (moved_from a down)
      (turned_at m (moved_from a down) down)
  notch_moves true r n =
      let go = n.to_go in
      let some = some_left true r n in
      let below = r.below in
      elim (dec_lt 1 left) [
        | yes more ↦
            let kept = keeps true (a - 1) (λ z. absurd (omega arith)) (λ z. absurd (omega arith)) in
            rw (lt-leb left 1 more, kept) (record { shows = n.shows; to_go = omega arith })
        | no one ↦
            let zero : a - 1 ≡ 0 = omega arith in
            let turned = turns true (a - 1) (inl zero) in
            rw (le-leb left 1 (omega arith), turned)
            (record { shows = ap turned_byte n.shows ∙ byte_turns d true; to_go = omega arith })
      ]
  notch_moves false r n =
      let go = n.to_go in
      let some = some_left false r n in
      let below = r.below in
      elim (dec_lt 1 left) [
        | yes more ↦
            let kept = keeps false (a + 1) (λ z. absurd (omega arith)) (λ z. absurd (omega arith)) in
            rw (lt-leb left 1 more, kept) (record { shows = n.shows; to_go = omega arith })
        | no one ↦
            let at_top : a + 1 ≡ m - 1 = omega arith in
            let turned = turns false (a + 1) (inr at_top) in
            rw (le-leb left 1 (omega arith), turned)
            (record { shows = ap turned_byte n.shows ∙ byte_turns d false; to_go = omega arith })
      ]

-- ---- all digits
-- the digit of index i among those that move, moves: on the lists at place i + 1, in the word and directions at its number
module _
    (digits radices ms : List ℕ) (n count : ℕ) (tops word₀ : List ℕ) (downs₀ : List Bool) (word : List ℕ) (downs : List Bool)
    (left bytes : List ℕ) (numbers : Numbered digits radices ms n) (counted : count ≡ length ms) (most : n ≤ 48)
    (long-word : length word ≡ 48) (long-downs : length downs ≡ 48) (few : count ≤ 48)
    (s : Notches digits count tops word₀ downs₀ word downs left bytes) (i : ℕ) (inside : i < count)
  where
    abbrev d : ℕ
    d = get_or digits i 0

    pub notches_move : get_or tops (i + 1) 0 + 1 ≡ get_or radices (d - 1) 0
        → 2 ≤ get_or radices (d - 1) 0
        → DigitRange (get_or radices (d - 1) 0) (get_or word (d - 1) 0) (get_or downs (d - 1) false)
        → Notches digits count tops word₀ downs₀ (word_moved word downs (d - 1)) (downs_moved radices word downs (d - 1))
        (left_moved tops left (i + 1))
        (bytes_moved left bytes (i + 1))
    notches_move top two r =
        let ll = s.left_long in
        let bl = s.bytes_long in
        let low = numbers.from_one i (omega arith) in
        let high = numbers.within i (omega arith) in
        let a = get_or word (d - 1) 0 in
        let down = get_or downs (d - 1) false in
        let m = get_or radices (d - 1) 0 in
        let l = get_or left (i + 1) 0 in
        let b = get_or bytes (i + 1) 0 in
        let v = cond (leb l 1) (get_or tops (i + 1) 0) (l - 1) in
        let u = cond (leb l 1) (turned_byte b) b in
        record {
          each = λ k h.
              elim (ℕ_discrete k i) [
                | yes e ↦
                    rw (
                      e,
                      get_or-set_same left (i + 1) v 0 (omega arith),
                      get_or-set_same bytes (i + 1) u 0 (omega arith),
                      get_or-set_same word (d - 1) (moved_from a down) 0 (omega arith),
                      get_or-set_same downs (d - 1) (turned_at m (moved_from a down) down) false (omega arith),
                    )
                    (notch_moves m (get_or tops (i + 1) 0) l b d a top two down r (s.each i inside))
                | no other ↦
                    let low' = numbers.from_one k (omega arith) in
                    let next : k + 1 ≡ i + 1 → ⊥ = λ e. other (omega arith) in
                    let apart : get_or digits k 0 - 1 ≡ d - 1 → ⊥ =
                    λ e. other (numbers.once k i (omega arith) (omega arith) (omega arith)) in
                    rw (
                      get_or-set_other left (i + 1) (k + 1) v 0 next,
                      get_or-set_other bytes (i + 1) (k + 1) u 0 next,
                      get_or-set_other word (d - 1) (get_or digits k 0 - 1) (moved_from a down) 0 apart,
                      get_or-set_other downs (d - 1) (get_or digits k 0 - 1) (turned_at m (moved_from a down) down) false apart,
                    )
                    (s.each k h)
              ];
          others = λ x.
              elim (ℕ_discrete x (d - 1)) [
                | yes e ↦ inr (i, inside, e)
                | no apart ↦
                    rw (
                      get_or-set_other word (d - 1) x (moved_from a down) 0 apart,
                      get_or-set_other downs (d - 1) x (turned_at m (moved_from a down) down) false apart,
                    )
                    (s.others x)
              ];
          left_long = length-set left (i + 1) v ∙ ll;
          bytes_long = length-set bytes (i + 1) u ∙ bl;
        }
