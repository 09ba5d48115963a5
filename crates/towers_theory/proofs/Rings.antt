-- Even and equal radices: a ring of m + 1 pegs.
use Rattle.std.specs.Prelude.{ℕ, zero, suc, ◌+◌, ◌-◌, ◌*◌, ◌/◌, ◌%◌, ◌≤◌, ◌<◌, ◌≡◌, refl, Bool, true, false, cond, not, List, [], ◌∷◌, eqb, length, get_or, set, replicate}
use Rattle.std.proofs.Common.{add_assoc, add-suc, mul-zero, mul-suc, div-add-mod', div-le_self, mod-lt, mod-eq_of_lt, arith, sym, ap, ◌∙◌, eq-eqb, ne_eqb}
use Rattle.std.proofs.Math.Nat.{zero-div, zero-mod, mod-one, mod-eq-sub-mod, mod-add-mod, add-mod_right, add-mul-mod_self_right, mul-mod_left}
use Rattle.std.proofs.Math.Decide.{dec_lt}
use Rattle.gray_theory.specs.Words.{even}
use Rattle.gray_theory.specs.Changes.{ruler}
use Rattle.gray_theory.proofs.Increments.{Increment, Increment.no_carry, Increment.carry, increment}
use Rattle.gray_theory.proofs.Rulers.{ruler_carry, ruler_no_carry, ruler_pos}
use Rattle.towers_theory.specs.Calls.{clockwise, anticlockwise, peg_after}
use Rattle.towers_theory.proofs.Stacks.{Stacked}

-- the peg of a disk that has made d moves from peg 0, clockwise or the other way: m steps clockwise are one step back
unfoldable pub turned_by : Bool → ℕ → ℕ → ℕ
turned_by false m d = d % suc m
turned_by true m d = m * d % suc m

-- the pegs of n disks at rank r, the first of which goes back or not: it has made r − r / m moves, and the others are those of
-- rank r / m
unfoldable pub pegs_at : Bool → ℕ → ℕ → ℕ → List ℕ
pegs_at back m zero r = []
pegs_at back m (suc n) r = turned_by back m (r - r / m) ∷ pegs_at (not back) m n (r / m)

-- ---- the peg after d moves
turned_start : (back : Bool) (m : ℕ) → turned_by back m 0 ≡ 0
unfolding turned_by
turned_start false m = zero-mod (suc m)
turned_start true m = ap (λ (n : ℕ). n % suc m) (mul-zero m) ∙ zero-mod (suc m)

turned_bound : (back : Bool) (m d : ℕ) → turned_by back m d ≤ m
unfolding turned_by
turned_bound false m d = let below : d % suc m < suc m = mod-lt d (omega arith) in omega arith
turned_bound true m d = let below : m * d % suc m < suc m = mod-lt (m * d) (omega arith) in omega arith

-- whole rounds do not count
turned_rounds : (back : Bool) (m d e : ℕ) → turned_by back m (d + e * suc m) ≡ turned_by back m d
unfolding turned_by
turned_rounds false m d e = add-mul-mod_self_right d e (suc m)
turned_rounds true m d e =
    let spread : m * (d + e * suc m) ≡ m * d + m * e * suc m = omega arith in
    ap (λ (n : ℕ). n % suc m) spread ∙ add-mul-mod_self_right (m * d) (m * e) (suc m)

-- m moves one way are one move the other way
turned_other_way : (back : Bool) (m d : ℕ) → turned_by (not back) m d ≡ turned_by back m (m * d)
unfolding turned_by
turned_other_way false m d = refl
turned_other_way true zero d = mod-one d ∙ sym (mod-one (0 * (0 * d)))
turned_other_way true (suc p) d =
    let square : suc p * (suc p * d) ≡ d + p * d * suc (suc p) = omega arith in
    sym (ap (λ (n : ℕ). n % suc (suc p)) square ∙ add-mul-mod_self_right d (p * d) (suc (suc p)))

-- one move more
abbrev next_peg : Bool → ℕ → ℕ → ℕ
next_peg back m peg = cond back (anticlockwise m peg) (clockwise m peg)

clockwise_is : (m x : ℕ) → Increment (suc m) x → suc x % suc m ≡ clockwise m (x % suc m)
clockwise_is m x (no_carry q b below) = rw (ne_eqb (x % suc m) m (λ z. omega arith)) (omega arith)
clockwise_is m x (carry q b whole) = rw (eq-eqb (x % suc m) m (omega arith)) b

-- a step back is m steps on, one short of a round
round_more : (m x : ℕ) → suc (x + m) % suc m ≡ x % suc m
round_more m x = ap (λ (n : ℕ). n % suc m) (sym (add-suc x m)) ∙ add-mod_right x (suc m)

anticlockwise_is : (m x : ℕ) → Increment (suc m) (x + m) → (x + m) % suc m ≡ anticlockwise m (x % suc m)
anticlockwise_is m x (no_carry q b below) =
    let same = round_more m x in rw (ne_eqb (x % suc m) 0 (λ z. omega arith)) (omega arith)
anticlockwise_is m x (carry q b whole) =
    let same = round_more m x in rw (eq-eqb (x % suc m) 0 (omega arith)) (omega arith)

turned_next : (back : Bool) (m d : ℕ) → turned_by back m (suc d) ≡ next_peg back m (turned_by back m d)
unfolding turned_by
turned_next false m d = clockwise_is m d (increment (suc m) d (omega arith))
turned_next true m d =
    ap (λ (n : ℕ). n % suc m) (mul-suc m d) ∙ anticlockwise_is m (m * d) (increment (suc m) (m * d + m) (omega arith))

-- fewer moves than a round lead to another peg
mod_differs : (k a d : ℕ) → 0 < d → d < k → (a + d) % k ≡ a % k → ⊥
mod_differs k a d pos short same =
    let below : a % k < k = mod-lt a (omega arith) in
    let shifted : (a % k + d) % k ≡ (a + d) % k = mod-add-mod a k d in
    elim (dec_lt (a % k + d) k) [
      | yes p ↦ let e : (a % k + d) % k ≡ a % k + d = mod-eq_of_lt p in omega arith
      | no q ↦
          let e : (a % k + d) % k ≡ (a % k + d - k) % k = mod-eq-sub-mod (omega arith) in
          let f : (a % k + d - k) % k ≡ a % k + d - k = mod-eq_of_lt (omega arith) in
          omega arith
    ]

-- d moves back and d moves clockwise lead to the peg of the start
back_and_forth : (m d : ℕ) → (m * d % suc m + d) % suc m ≡ 0
back_and_forth m d =
    let whole : m * d + d ≡ d * suc m = omega arith in
    mod-add-mod (m * d) (suc m) d ∙ ap (λ (n : ℕ). n % suc m) whole ∙ mul-mod_left d (suc m)

turned_differs : (back : Bool) (m a d : ℕ) → 0 < d → d < suc m → turned_by back m (a + d) ≡ turned_by back m a → ⊥
unfolding turned_by
turned_differs false m a d pos short same = mod_differs (suc m) a d pos short same
turned_differs true m a d pos short same =
    let s : ℕ = m * a % suc m in
    let there : (s + (a + d)) % suc m ≡ 0 = rw same at (back_and_forth m (a + d)) in
    let grouped : (s + a + d) % suc m ≡ (s + (a + d)) % suc m = ap (λ (n : ℕ). n % suc m) (add_assoc s a d) in
    mod_differs (suc m) (s + a) d pos short (grouped ∙ there ∙ sym (back_and_forth m a))

turned_short : (back : Bool) (m a d e : ℕ)
    → 0 < d
    → d < suc m
    → turned_by back m a ≡ turned_by back m (a + d + e * suc m)
    → ⊥
turned_short back m a d e pos short same = turned_differs back m a d pos short (sym (same ∙ turned_rounds back m (a + d) e))

-- ---- the pegs of all disks
pub length-pegs_at : (back : Bool) (m n r : ℕ) → length (pegs_at back m n r) ≡ n
unfolding pegs_at
length-pegs_at back m zero r = refl
length-pegs_at back m (suc n) r = ap suc (length-pegs_at (not back) m n (r / m))

-- all disks start on peg 0
pub pegs_at_start : (back : Bool) (m n : ℕ) → pegs_at back m n 0 ≡ replicate n 0
unfolding pegs_at
pegs_at_start back m zero = refl
pegs_at_start back m (suc n) = rw (zero-div m, turned_start back m, pegs_at_start (not back) m n)

pub pegs_at_bound : (back : Bool) (m n r i : ℕ) → get_or (pegs_at back m n r) i 0 ≤ m
unfolding pegs_at
pegs_at_bound back m zero r i = omega arith
pegs_at_bound back m (suc n) r zero = turned_bound back m (r - r / m)
pegs_at_bound back m (suc n) r (suc i) = pegs_at_bound (not back) m n (r / m) i

-- ---- the ruler function of equal radices
-- where the first digit carries, it names the disk that moves among the others
ruler_others : (m n r : ℕ)
    → suc r / m ≡ suc (r / m)
    → suc r % m ≡ 0
    → ruler (replicate (suc n) m) (suc r) ≡ suc (ruler (replicate n m) (suc (r / m)))
ruler_others m n r q b =
    ruler_carry m (replicate n m) (suc r) b ∙ ap (λ (j : ℕ). suc (ruler (replicate n m) j)) q

ruler_first : (m n r : ℕ) → suc r % m ≡ suc (r % m) → ruler (replicate (suc n) m) (suc r) ≡ 1
ruler_first m n r b = ruler_no_carry m (replicate n m) (suc r) (r % m) b

-- ---- the disk that moves
-- whether the disk at index i goes back: the disks go either way by turns
abbrev goes_back : Bool → ℕ → Bool
goes_back back i = cond back (even i) (even (suc i))

goes_back_next : (back : Bool) (i : ℕ) → goes_back back (suc i) ≡ goes_back (not back) i
goes_back_next false i = let e : suc (suc i) % 2 ≡ i % 2 = omega arith in ap (λ (n : ℕ). eqb n 0) e
goes_back_next true i = refl

goes_back_first : (back : Bool) → goes_back back 0 ≡ back
goes_back_first false = refl
goes_back_first true = refl

-- where the quotient stays the first disk has made one move more, and where it grows none
first_goes : (back : Bool) (m r : ℕ)
    → suc r / m ≡ r / m
    → turned_by back m (suc r - suc r / m) ≡ next_peg back m (turned_by back m (r - r / m))
first_goes back m r q =
    let fewer = div-le_self r m in
    let once : suc r - suc r / m ≡ suc (r - r / m) = omega arith in
    ap (turned_by back m) once ∙ turned_next back m (r - r / m)

first_stays : (back : Bool) (m r : ℕ)
    → suc r / m ≡ suc (r / m)
    → turned_by back m (suc r - suc r / m) ≡ turned_by back m (r - r / m)
first_stays back m r q = let never : suc r - suc r / m ≡ r - r / m = omega arith in ap (turned_by back m) never

-- the statement for first disks that go either way, so that it holds of the others too
abbrev Goes : Bool → ℕ → ℕ → ℕ → ℕ → Type 0
Goes back m n r i =
    set (pegs_at back m n r) i (next_peg (goes_back back i) m (get_or (pegs_at back m n r) i 0)) ≡ pegs_at back m n (suc r)

goes_next : (back : Bool) (m n r i : ℕ) → Increment m r
    → ((j : ℕ) → ruler (replicate n m) (suc (r / m)) ≡ suc j → j < n → Goes (not back) m n (r / m) j)
    → ruler (replicate (suc n) m) (suc r) ≡ suc i
    → i < suc n
    → Goes back m (suc n) r i
unfolding pegs_at
goes_next back m n r zero (no_carry q b below) others e h = rw (goes_back_first back, first_goes back m r q, q)
goes_next back m n r (suc i) (no_carry q b below) others e h = let one = ruler_first m n r b in absurd (omega arith)
goes_next back m n r zero (carry q b whole) others e h =
    let more = ruler_others m n r q b in
    let pos = ruler_pos (replicate n m) (suc (r / m)) in
    absurd (omega arith)
goes_next back m n r (suc i) (carry q b whole) others e h =
    let more = ruler_others m n r q b in
    let moved = others i (omega arith) (omega arith) in
    rw (goes_back_next back i, first_stays back m r q, q, moved)

goes : (back : Bool) (m n r i : ℕ) → 2 ≤ m → ruler (replicate n m) (suc r) ≡ suc i → i < n → Goes back m n r i
goes back m zero r i two e h = absurd (omega arith)
goes back m (suc n) r i two e h =
    goes_next back m n r i (increment m r (omega arith)) (λ j. goes (not back) m n (r / m) j two) e h

-- the disk that the ruler function names goes on by one peg, and no other moves
pub pegs_at-moves : (m n r i : ℕ)
    → 2 ≤ m
    → ruler (replicate n m) (suc r) ≡ suc i
    → i < n
    → set (pegs_at false m n r) i (peg_after m i (get_or (pegs_at false m n r) i 0)) ≡ pegs_at false m n (suc r)
pegs_at-moves m n r i two e h = goes false m n r i two e h

-- ---- the disks below the one that moves
-- the peg aside at rank r: all disks below the one that moves have come to it
abbrev pub ring_aside : ℕ → ℕ → ℕ
ring_aside m r = turned_by false m (2 * suc r)

-- where the first disk stays, it is on the peg aside, which is also the one of the other disks
first_aside : (back : Bool) (m r : ℕ) → suc (r % m) ≡ m → turned_by back m (r - r / m) ≡ turned_by back m (2 * suc r)
first_aside back m r whole =
    let split = div-add-mod' r m in
    let fewer = div-le_self r m in
    let rounds : 2 * suc r ≡ r - r / m + suc (r / m) * suc m = omega arith in
    sym (ap (turned_by back m) rounds ∙ turned_rounds back m (r - r / m) (suc (r / m)))

same_aside : (back : Bool) (m r : ℕ)
    → suc (r % m) ≡ m
    → turned_by (not back) m (2 * suc (r / m)) ≡ turned_by back m (2 * suc r)
same_aside back m r whole =
    let split = div-add-mod' r m in
    let times : m * (2 * suc (r / m)) ≡ 2 * suc r = omega arith in
    turned_other_way back m (2 * suc (r / m)) ∙ ap (turned_by back m) times

-- where it moves, it is short of the peg aside by less than a round, before the move and after it
first_free : (back : Bool) (m r : ℕ) → suc (r % m) < m → turned_by back m (r - r / m) ≡ turned_by back m (2 * suc r) → ⊥
first_free back m r below same =
    let split = div-add-mod' r m in
    let fewer = div-le_self r m in
    let short : 2 * suc r ≡ r - r / m + suc (suc (r % m)) + r / m * suc m = omega arith in
    turned_short back m (r - r / m) (suc (suc (r % m))) (r / m) (omega arith) (omega arith) (same ∙ ap (turned_by back m) short)

first_lands : (back : Bool) (m r : ℕ)
    → suc r / m ≡ r / m
    → suc (r % m) < m
    → turned_by back m (suc r - suc r / m) ≡ turned_by back m (2 * suc r)
    → ⊥
first_lands back m r q below same =
    let split = div-add-mod' r m in
    let fewer = div-le_self r m in
    let short : 2 * suc r ≡ suc r - suc r / m + suc (r % m) + r / m * suc m = omega arith in
    turned_short back m (suc r - suc r / m) (suc (r % m)) (r / m) (omega arith) (omega arith) (same ∙ ap (turned_by back m) short)

-- again for first disks that go either way
abbrev Rings : Bool → ℕ → ℕ → ℕ → Type 0
Rings back m n r = Stacked (replicate n m) (λ q k. get_or (pegs_at back m n q) k 0) r (turned_by back m (2 * suc r))

rings_next : (back : Bool) (m n r : ℕ) → Increment m r → Rings (not back) m n (r / m) → Rings back m (suc n) r
unfolding pegs_at
rings_next back m n r (no_carry q b below) others =
    let one = ruler_first m n r b in
    record {
      covered = λ k l h. absurd (omega arith);
      free = λ i e h same. let z : i ≡ 0 = omega arith in first_free back m r below (rw z at same);
      lands = λ i e h same. let z : i ≡ 0 = omega arith in first_lands back m r q below (rw z at same);
    }
rings_next back m n r (carry q b whole) others =
    let more = ruler_others m n r q b in
    let pos = ruler_pos (replicate n m) (suc (r / m)) in
    let aside = same_aside back m r whole in
    record {
      covered =
          elim [
            | zero ↦ λ l h. first_aside back m r whole
            | suc k ↦ λ l h. others.covered k (omega arith) (omega arith) ∙ aside
          ];
      free =
          elim [
            | zero ↦ λ e h same. absurd (omega arith)
            | suc i ↦ λ e h same. others.free i (omega arith) (omega arith) (same ∙ sym aside)
          ];
      lands =
          elim [
            | zero ↦ λ e h same. absurd (omega arith)
            | suc i ↦ λ e h same. others.lands i (omega arith) (omega arith) (rw q at same ∙ sym aside)
          ];
    }

rings : (back : Bool) (m n r : ℕ) → 2 ≤ m → Rings back m n r
rings back m zero r two =
    record {
      covered = λ k l h. absurd (omega arith);
      free = λ i e h same. absurd (omega arith);
      lands = λ i e h same. absurd (omega arith);
    }
rings back m (suc n) r two = rings_next back m n r (increment m r (omega arith)) (rings (not back) m n (r / m) two)

pub rings_stacked : (m n r : ℕ)
    → 2 ≤ m
    → Stacked (replicate n m) (λ q k. get_or (pegs_at false m n q) k 0) r (ring_aside m r)
rings_stacked m n r two = rings false m n r two
