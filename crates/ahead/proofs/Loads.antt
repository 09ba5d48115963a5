-- From a state to the arrays of a run, and back, over plain lists and numbers. Assumes nothing.
use Prim.Native.Nat.{ℕ, ◌+◌, ◌-◌, ◌≤◌, ◌<◌}
use native.Mathlib.Decide.{dec_lt, ℕ_discrete}
use native.Mathlib.Omega.{arith}
use mathlib.Core.Path.{◌≡◌, refl, sym, ap, subst, ◌∙◌}
use mathlib.Core.Bool.{Bool, true, false, cond}
use mathlib.Core.Logic.{inl, inr, ⊎_elim}
use mathlib.Core.List.{List, [], ◌∷◌}
use lib.ListN.{length, get_or, set, length-set, get_or-append}
use lib.Seq.{get_or-set_same, get_or-set_other, ext_get_or}
use Rattle.gray_theory.specs.MoveBytes.{move_byte, move_down}
use Rattle.gray_theory.proofs.Packing.{unpacked}
use Rattle.gray_theory.specs.Arrays.{filled}
use Rattle.gray_theory.proofs.Filled.{get_d_filled}
use Rattle.gray_theory.proofs.WordRanges.{digit_ranged}
use Rattle.gray_theory.proofs.Sizes.{radix_two}
use Rattle.gray_theory.proofs.Unlocked.{unlocked_two}
use Rattle.ahead_theory.specs.States.{Walk, survey, moving_radices, open_check, in_range, Arrays}
use Rattle.ahead_theory.proofs.InRange.{Ranged, range_says, moving_known, producer_says, last_is_two}
use Rattle.ahead_theory.specs.Locals.{ToGo, Notch, Numbered}
use Rattle.ahead_theory.proofs.LocalCalls.{numbered}
use Rattle.stretch.specs.declared.Stage.{Stage}
use Rattle.ahead.proofs.Ranges.{ranged_known, moving_most}
use Rattle.ahead.specs.Stretches.{Wide, Loadable, LoadedOne, Loaded, CounterBack, WordFits, Target, Pending, WordBack, Unloads, Unloadable}

-- ---- the counter
pub record CounterTo (last : ℕ) (tops rest before : List ℕ) (i : ℕ) (now : List ℕ) : Type 0 where
  pub within : i ≤ last
  pub each : (x : ℕ) → x < i → get_or now x 0 ≡ get_or tops (x + 1) 0 - get_or rest (x + 1) 0
  pub others : (x : ℕ) → i ≤ x → get_or now x 0 ≡ get_or before x 0
  pub long : length now ≡ length before

-- ---- the word
pub record WordTo (count : ℕ) (numbers tops left bytes word₀ : List ℕ) (downs₀ : List Bool) (i : ℕ) (word : List ℕ) (downs : List Bool) : Type 0 where
  pub within : i ≤ count
  pub word_long : length word ≡ 48
  pub downs_long : length downs ≡ 48
  pub pending : (word★ : List ℕ) (downs★ : List Bool)
      → Target count numbers tops left bytes word★ downs★
      → Pending word★ downs★ numbers count 0 word₀ downs₀
      → Pending word★ downs★ numbers count i word downs

module _ (count : ℕ) (numbers tops left bytes word₀ : List ℕ) (downs₀ : List Bool) (fits : WordFits count numbers tops left bytes word₀ downs₀) where
  pub word_more : (i : ℕ) (word : List ℕ) (downs : List Bool) (d v : ℕ) (down : Bool)
      → i < count
      → WordTo count numbers tops left bytes word₀ downs₀ i word downs
      → d ≡ get_or numbers i 0
      → down ≡ move_down (get_or bytes (i + 1) 0)
      → v ≡ cond down (get_or left (i + 1) 0) (get_or tops (i + 1) 0 - get_or left (i + 1) 0)
      → WordTo count numbers tops left bytes word₀ downs₀ (i + 1) (set word (d - 1) v) (set downs (d - 1) down)
  word_more i word downs d v down less s is-d is_down is-v =
      let wl = s.word_long in
      let dl = s.downs_long in
      let low = fits.from_one i less in
      let high = fits.within i less in
      record {
        within = omega arith;
        word_long = length-set word (d - 1) v ∙ wl;
        downs_long = length-set downs (d - 1) down ∙ dl;
        pending = λ w★ d★ t p.
            let same : d - 1 ≡ get_or numbers i 0 - 1 = ap (λ x. x - 1) is-d in
            record {
              each = λ x.
                  elim (ℕ_discrete x (d - 1)) [
                    | yes e ↦
                        inl
                        (rw e (
                          get_or-set_same word (d - 1) v 0 (omega arith) ∙ is-v
                              ∙ ap (λ b. cond b (get_or left (i + 1) 0) (get_or tops (i + 1) 0 - get_or left (i + 1) 0)) is_down
                              ∙ t.notch i less
                              ∙ ap (λ j. get_or w★ j 0) (sym same),
                          get_or-set_same downs (d - 1) down false (omega arith) ∙ is_down ∙ t.direction i less ∙ ap (λ j. get_or d★ j false) (sym same),
                        ))
                    | no n ↦
                        ⊎_elim
                        (λ same. inl (get_or-set_other word (d - 1) x v 0 n ∙ same.0, get_or-set_other downs (d - 1) x down false n ∙ same.1))
                        (λ still. inr (later w★ d★ x n same still))
                        ((s.pending w★ d★ t p).each x)
                  ];
            };
      }
    where
      later : (w★ : List ℕ) (d★ : List Bool) (x : ℕ) → (x ≡ d - 1 → ⊥) → d - 1 ≡ get_or numbers i 0 - 1
          → ((k : ℕ) × (i ≤ k) × (k < count) × (x ≡ get_or numbers k 0 - 1))
          → (k : ℕ) × (i + 1 ≤ k) × (k < count) × (x ≡ get_or numbers k 0 - 1)
      later w★ d★ x n same (k, low, high, is) =
          elim (ℕ_discrete k i) [
            | yes e ↦ absurd (n (is ∙ ap (λ j. get_or numbers j 0 - 1) e ∙ sym same))
            | no o ↦ (k, omega (arith, o), high, is)
          ]

  pub word_all : (i : ℕ) (word : List ℕ) (downs : List Bool) → count ≤ i → WordTo count numbers tops left bytes word₀ downs₀ i word downs → WordBack count numbers tops left bytes word₀ downs₀ word downs
  word_all i word downs all s w★ d★ t p =
      let q = s.pending w★ d★ t p in (
        ext_get_or 0 word w★ (s.word_long ∙ sym t.word_long) (λ x h. (done q x).0),
        ext_get_or false downs d★ (s.downs_long ∙ sym t.downs_long) (λ x h. (done q x).1),
      )
    where
      done : Pending w★ d★ numbers count i word downs → (x : ℕ) → (get_or word x 0 ≡ get_or w★ x 0) × (get_or downs x false ≡ get_or d★ x false)
      done q x = ⊎_elim (λ same. same) (λ still. never still) (q.each x)
        where
          never : ((k : ℕ) × (i ≤ k) × (k < count) × (x ≡ get_or numbers k 0 - 1)) → (get_or word x 0 ≡ get_or w★ x 0) × (get_or downs x false ≡ get_or d★ x false)
          never (k, low, high, is) = absurd (omega arith)

-- ---- loading
abbrev NotchAt : List ℕ → List ℕ → List Bool → List ℕ → List ℕ → List ℕ → ℕ → Type 0
NotchAt digits word downs tops left bytes x =
    Notch (get_or tops (x + 1) 0) (get_or left (x + 1) 0) (get_or bytes (x + 1) 0) (get_or digits x 0) (get_or word (get_or digits x 0 - 1) 0)
    (get_or downs (get_or digits x 0 - 1) false)

-- the first i of the digits that move are loaded
pub record LoadedTo (radices digits word : List ℕ) (downs : List Bool) (counter : List ℕ) (i : ℕ) (tops rest left bytes : List ℕ) : Type 0 where
  pub wide : Wide tops rest left bytes
  pub top : (x : ℕ) → x < i → get_or tops (x + 1) 0 + 1 ≡ get_or radices (get_or digits x 0 - 1) 0
  pub counts : (x : ℕ) → x < i → get_or rest (x + 1) 0 + get_or counter x 0 ≡ get_or tops (x + 1) 0
  pub notch : (x : ℕ) → x < i → NotchAt digits word downs tops left bytes x

to_go_by : (top a : ℕ) (down : Bool) → a ≤ top → ToGo top a down (cond down a (top - a))
to_go_by top a true h = omega arith
to_go_by top a false h = omega arith

-- the same of a state
abbrev pub WalkLoadedTo : Walk → ℕ → List ℕ → List ℕ → List ℕ → List ℕ → Type 0
WalkLoadedTo w i tops rest left bytes = LoadedTo w.directed.radices w.directed.moving.digits w.directed.word w.directed.downs w.producer.counter i tops rest left bytes

module _ (w : Walk) (ranged : in_range w ≡ true) (a : Arrays w) where
  s : Ranged w
  s = range_says w ranged

  pub counted : w.directed.moving.count ≡ length (moving_radices w)
  counted = (moving_known w s).count

  pub few : w.directed.moving.count ≤ 48
  few = moving_most w.directed a.directed (ranged_known w s)

  numbers : Numbered w.directed.moving.digits w.directed.radices (moving_radices w) w.directed.n
  numbers = numbered w s a

  module _ (i : ℕ) (inside : i < w.directed.moving.count) where
    abbrev d : ℕ
    d = get_or w.directed.moving.digits i 0

    pub number_fits : (1 ≤ d) × (d ≤ 48)
    number_fits =
        let n = counted in
        let most = s.word.most in
        let low = numbers.from_one i (omega arith) in
        let high = numbers.within i (omega arith) in
        (low, omega arith)

    -- the radix, and the counts and notches below it
    pub loadable : (e : ℕ)
        → e ≡ d
        → Loadable (i + 1) (get_or w.directed.radices (e - 1) 0) (get_or w.producer.counter i 0) (get_or w.directed.word (e - 1) 0)
    loadable e is =
        let n = counted in
        let f = few in
        let p = get_or-append (moving_radices w) (2 ∷ []) 0 i (omega arith) in
        let two = radix_two (moving_radices w) i (unlocked_two (survey w)) (omega arith) in
        let b = (producer_says (moving_radices w) w.capacity w.producer s.ahead).counts i (omega arith) in
        let (low, high) = number_fits in
        let hn = numbers.within i (omega arith) in
        let r = numbers.radix i (omega arith) in
        let below = (digit_ranged (open_check w.capacity) w.directed s.word (d - 1) (omega arith)).below in
        let same : get_or w.directed.word (e - 1) 0 ≡ get_or w.directed.word (d - 1) 0 = ap (λ x. get_or w.directed.word (x - 1) 0) is in
        let m : get_or w.directed.radices (e - 1) 0 ≡ get_or w.directed.radices (d - 1) 0 = ap (λ x. get_or w.directed.radices (x - 1) 0) is in
        record { inside = omega arith; some = omega arith; count = omega arith; notch = omega arith }

    module _
        (tops rest left bytes tops' rest' left' bytes' : List ℕ) (e : ℕ) (is : e ≡ d)
        (t : WalkLoadedTo w i tops rest left bytes)
        (one : LoadedOne (i + 1) (get_or w.directed.radices (e - 1) 0) (get_or w.producer.counter i 0) d (get_or w.directed.word (e - 1) 0)
        (get_or w.directed.downs (e - 1) false)
        tops
        rest
        left
        bytes
        tops'
        rest'
        left'
        bytes')
      where
        abbrev m : ℕ
        m = get_or w.directed.radices (e - 1) 0

        abbrev b : ℕ
        b = get_or w.producer.counter i 0

        abbrev u : ℕ
        u = cond (get_or w.directed.downs (e - 1) false) (get_or w.directed.word (e - 1) 0) (m - 1 - get_or w.directed.word (e - 1) 0)

        abbrev v : ℕ
        v = move_byte d (get_or w.directed.downs (e - 1) false)

        wide_now : Wide tops' rest' left' bytes'
        wide_now =
            let l = t.wide in
            record {
              tops_long = ap length one.tops_is ∙ length-set tops (i + 1) (m - 1) ∙ l.tops_long;
              rest_long = ap length one.rest_is ∙ length-set rest (i + 1) (m - 1 - b) ∙ l.rest_long;
              left_long = ap length one.left_is ∙ length-set left (i + 1) u ∙ l.left_long;
              bytes_long = ap length one.bytes_is ∙ length-set bytes (i + 1) v ∙ l.bytes_long;
            }

        top_now : get_or tops' (i + 1) 0 ≡ m - 1
        top_now =
            let f = few in
            let l = t.wide.tops_long in
            ap (λ g. get_or g (i + 1) 0) one.tops_is ∙ get_or-set_same tops (i + 1) (m - 1) 0 (omega arith)

        rest_now : get_or rest' (i + 1) 0 ≡ m - 1 - b
        rest_now =
            let f = few in
            let l = t.wide.rest_long in
            ap (λ g. get_or g (i + 1) 0) one.rest_is ∙ get_or-set_same rest (i + 1) (m - 1 - b) 0 (omega arith)

        left_now : get_or left' (i + 1) 0 ≡ u
        left_now =
            let f = few in
            let l = t.wide.left_long in
            ap (λ g. get_or g (i + 1) 0) one.left_is ∙ get_or-set_same left (i + 1) u 0 (omega arith)

        bytes_now : get_or bytes' (i + 1) 0 ≡ v
        bytes_now =
            let f = few in
            let l = t.wide.bytes_long in
            ap (λ g. get_or g (i + 1) 0) one.bytes_is ∙ get_or-set_same bytes (i + 1) v 0 (omega arith)

        -- the other places are as they were
        module _ (x : ℕ) (apart : x + 1 ≡ i + 1 → ⊥) where
          top_kept : get_or tops' (x + 1) 0 ≡ get_or tops (x + 1) 0
          top_kept = ap (λ g. get_or g (x + 1) 0) one.tops_is ∙ get_or-set_other tops (i + 1) (x + 1) (m - 1) 0 apart

          rest_kept : get_or rest' (x + 1) 0 ≡ get_or rest (x + 1) 0
          rest_kept = ap (λ g. get_or g (x + 1) 0) one.rest_is ∙ get_or-set_other rest (i + 1) (x + 1) (m - 1 - b) 0 apart

          left-kept : get_or left' (x + 1) 0 ≡ get_or left (x + 1) 0
          left-kept = ap (λ g. get_or g (x + 1) 0) one.left_is ∙ get_or-set_other left (i + 1) (x + 1) u 0 apart

          bytes-kept : get_or bytes' (x + 1) 0 ≡ get_or bytes (x + 1) 0
          bytes-kept = ap (λ g. get_or g (x + 1) 0) one.bytes_is ∙ get_or-set_other bytes (i + 1) (x + 1) v 0 apart

        notch_now : NotchAt w.directed.moving.digits w.directed.word w.directed.downs tops' left' bytes' i
        notch_now =
            let ok = loadable e is in
            let below = ok.notch in
            subst
            (λ j. Notch (get_or tops' (i + 1) 0) (get_or left' (i + 1) 0) (get_or bytes' (i + 1) 0) d (get_or w.directed.word (j - 1) 0) (get_or w.directed.downs (j - 1) false))
            is
            (rw (top_now, left_now, bytes_now)
            (record {
              shows = refl;
              to_go = to_go_by (m - 1) (get_or w.directed.word (e - 1) 0) (get_or w.directed.downs (e - 1) false) (omega arith);
            }))

        pub loaded_more : WalkLoadedTo w (i + 1) tops' rest' left' bytes'
        loaded_more =
            let ok = loadable e is in
            let n = counted in
            record {
              wide = wide_now;
              top = λ x h.
                  elim (ℕ_discrete x i) [
                    | yes q ↦
                        let now = top_now in
                        let some = ok.some in
                        let same : m ≡ get_or w.directed.radices (d - 1) 0 = ap (λ y. get_or w.directed.radices (y - 1) 0) is in
                        rw q (omega arith)
                    | no o ↦ let k = top_kept x (λ z. o (omega arith)) in let old = t.top x (omega (arith, o)) in omega arith
                  ];
              counts = λ x h.
                  elim (ℕ_discrete x i) [
                    | yes q ↦ let now = top_now in let r = rest_now in let less = ok.count in rw q (omega arith)
                    | no o ↦
                        let apart : x + 1 ≡ i + 1 → ⊥ = λ z. o (omega arith) in
                        let k = top_kept x apart in
                        let r = rest_kept x apart in
                        let old = t.counts x (omega (arith, o)) in
                        omega arith
                  ];
              notch = λ x h.
                  elim (ℕ_discrete x i) [
                    | yes q ↦ subst (λ j. NotchAt w.directed.moving.digits w.directed.word w.directed.downs tops' left' bytes' j) (sym q) notch_now
                    | no o ↦
                        let apart : x + 1 ≡ i + 1 → ⊥ = λ z. o (omega arith) in
                        rw (top_kept x apart, left-kept x apart, bytes-kept x apart) (t.notch x (omega (arith, o)))
                  ];
            }

  pub counter_last : (k : ℕ) → k ≡ w.directed.moving.count → get_or w.producer.counter k 0 ≤ 1
  counter_last k e =
      let n = counted in
      let b = (producer_says (moving_radices w) w.capacity w.producer s.ahead).counts (length (moving_radices w)) (omega arith) in
      let two = last_is_two (moving_radices w) in
      rw (e, n) (omega arith)

  -- the last place
  module _ (k i : ℕ) (tops rest left bytes : List ℕ) (e : k ≡ w.directed.moving.count) (all : k ≤ i) (t : WalkLoadedTo w i tops rest left bytes) where
    abbrev last : ℕ
    last = 1 - get_or w.producer.counter k 0

    pub loaded_all : Loaded w (set tops (k + 1) 1) (set rest (k + 1) last) left bytes
    loaded_all =
        let n = counted in
        let f = few in
        let tl = t.wide.tops_long in
        let rl = t.wide.rest_long in
        let b = counter_last k e in
        record {
          tops_are =
              record {
                long = length-set tops (k + 1) 1 ∙ tl;
                top = λ x less.
                    elim (ℕ_discrete x k) [
                      | yes q ↦
                          let last_place : x ≡ length (moving_radices w) = omega arith in
                          let z : x + 1 ≡ k + 1 = omega arith in
                          rw z (rw last_place (rw (get_or-set_same tops (k + 1) 1 0 (omega arith)) (sym (last_is_two (moving_radices w)))))
                      | no o ↦
                          let v = get_or-set_other tops (k + 1) (x + 1) 1 0 (λ z. o (omega arith)) in
                          let p = get_or-append (moving_radices w) (2 ∷ []) 0 x (omega (arith, o)) in
                          let q = t.top x (omega (arith, o)) in
                          let r = numbers.radix x (omega (arith, o)) in
                          rw (v, p) (q ∙ r)
                    ];
              };
          counts = λ x less.
              elim (ℕ_discrete x k) [
                | yes q ↦
                    let v = get_or-set_same tops (k + 1) 1 0 (omega arith) in
                    let u = get_or-set_same rest (k + 1) last 0 (omega arith) in
                    rw (q, v, u) (omega arith)
                | no o ↦
                    let apart : x + 1 ≡ k + 1 → ⊥ = λ z. o (omega arith) in
                    let v = get_or-set_other tops (k + 1) (x + 1) 1 0 apart in
                    let u = get_or-set_other rest (k + 1) (x + 1) last 0 apart in
                    rw (v, u) (t.counts x (omega (arith, o)))
              ];
          rest_long = length-set rest (k + 1) last ∙ rl;
          notches =
              record {
                each = λ x less.
                    let v = get_or-set_other tops (k + 1) (x + 1) 1 0 (λ z. absurd (omega arith)) in
                    rw v (t.notch x (omega arith));
                others = λ x. inl (refl, refl);
                left_long = t.wide.left_long;
                bytes_long = t.wide.bytes_long;
              };
        }

-- ---- unloading
notch_back : (top a left : ℕ) (down : Bool) → ToGo top a down left → cond down left (top - left) ≡ a
notch_back top a left true e = omega arith
notch_back top a left false e = omega arith

module _
    (w₀ : Walk) (tops rest left bytes entries : List ℕ) (at : Stage) (made : ℕ) (over : Bool)
    (ok : Unloadable w₀ tops rest left bytes entries at made over) (a : Arrays w₀) (long : length entries ≡ 32) (count : ℕ)
    (is : count ≡ w₀.directed.moving.count)
  where
    number_ok : (i : ℕ) → i < count → (1 ≤ get_or w₀.directed.moving.digits i 0) × (get_or w₀.directed.moving.digits i 0 ≤ 48)
    number_ok i h =
        let n = ok.counted in
        let most = ok.most in
        let low = ok.numbers.from_one i (omega arith) in
        let high = ok.numbers.within i (omega arith) in
        (low, omega arith)

    module _ (w : Walk) (t : Unloads w₀ tops rest left bytes entries at made over w) where
      down_is : (i : ℕ) → i < count → move_down (get_or bytes (i + 1) 0) ≡ get_or w.directed.downs (get_or w₀.directed.moving.digits i 0 - 1) false
      down_is i h =
          let (low, high) = number_ok i h in
          ap move_down (t.stands.notches.each i (omega arith)).shows
          ∙ (unpacked (get_or w₀.directed.moving.digits i 0) (get_or w.directed.downs (get_or w₀.directed.moving.digits i 0 - 1) false) (omega arith)).1

      target : Target count w₀.directed.moving.digits tops left bytes w.directed.word w.directed.downs
      target = record {
        word_long = t.arrays.directed.word;
        downs_long = t.arrays.directed.downs;
        notch = λ i h.
            ap (λ b. cond b (get_or left (i + 1) 0) (get_or tops (i + 1) 0 - get_or left (i + 1) 0)) (down_is i h)
            ∙ notch_back (get_or tops (i + 1) 0) (get_or w.directed.word (get_or w₀.directed.moving.digits i 0 - 1) 0) (get_or left (i + 1) 0)
            (get_or w.directed.downs (get_or w₀.directed.moving.digits i 0 - 1) false)
            (t.stands.notches.each i (omega arith)).to_go;
        direction = down_is;
      }

      pending : Pending w.directed.word w.directed.downs w₀.directed.moving.digits count 0 w₀.directed.word w₀.directed.downs
      pending = record {
        each = λ x.
            ⊎_elim (λ same. inl (sym same.0, sym same.1)) (λ (i, h, e). inr (i, omega arith, omega arith, e)) (t.stands.notches.others x);
      }

      left_fits : (i : ℕ) → i < count → move_down (get_or bytes (i + 1) 0) ≡ false → get_or left (i + 1) 0 ≤ get_or tops (i + 1) 0
      left_fits i h up =
          let g = ap (λ b. get_or left (i + 1) 0 + cond b 0 (get_or w.directed.word (get_or w₀.directed.moving.digits i 0 - 1) 0)) (sym (sym (down_is i h) ∙ up)) in
          let u = ap (λ b. cond b (get_or w.directed.word (get_or w₀.directed.moving.digits i 0 - 1) 0) (get_or tops (i + 1) 0)) (sym (sym (down_is i h) ∙ up)) in
          let go = (t.stands.notches.each i (omega arith)).to_go in
          let all : get_or left (i + 1) 0 + get_or w.directed.word (get_or w₀.directed.moving.digits i 0 - 1) 0 ≡ get_or tops (i + 1) 0 = g ∙ go ∙ sym u in
          omega arith

      same_counter : (counter : List ℕ) → CounterBack (count + 1) tops rest w₀.producer.counter counter → counter ≡ w.producer.counter
      same_counter counter b =
          let bl = b.long in
          let al = a.counter in
          let tl = t.arrays.counter in
          let n = ok.counted in
          ext_get_or 0 counter w.producer.counter (omega arith)
          (λ x h.
          elim (dec_lt x (count + 1)) [
            | yes less ↦ let c = t.stands.ahead.counts x (omega arith) in let v = b.each x less in omega arith
            | no more ↦ b.others x (omega arith) ∙ sym (t.stands.ahead.others x (omega arith))
          ])

      same_queue : entries ≡ w.producer.queue
      same_queue =
          let el = long in
          let ql = t.arrays.queue in
          ext_get_or 0 entries w.producer.queue (el ∙ sym ql)
          (λ x h.
          let z : 0 + x ≡ x = omega arith in
          sym (t.stands.ahead.entries x (omega arith) ∙ ap (λ j. get_or (filled 1056 0 entries) j 0) z ∙ get_d_filled 1056 0 entries x 0 h))

      pub unloaded_is : (word : List ℕ) (downs : List Bool) (counter : List ℕ)
          → WordBack count w₀.directed.moving.digits tops left bytes w₀.directed.word w₀.directed.downs word downs
          → CounterBack (count + 1) tops rest w₀.producer.counter counter
          → record {
            directed =
                record {
                  radices = w₀.directed.radices;
                  n = w₀.directed.n;
                  moving = w₀.directed.moving;
                  word = word;
                  downs = downs;
                };
            producer = record { counter = counter; place = at.place; queue = entries; queued = at.tail; steps = at.steps };
            capacity = w₀.capacity;
            moves = w₀.moves + made;
            ended = over;
          }
          ≡ w
      unloaded_is word downs counter wb cb =
          let (ew, ed) = wb w.directed.word w.directed.downs target pending in
          let tail = t.stands.ahead.tail_is in
          let queued : at.tail ≡ w.producer.queued = omega arith in
          let counts = same_counter counter cb in
          λ i.
          record {
            directed =
                record {
                  radices = sym t.stands.radices i;
                  n = sym t.stands.n i;
                  moving = sym t.stands.moving i;
                  word = ew i;
                  downs = ed i;
                };
            producer =
                record {
                  counter = counts i;
                  place = t.stands.ahead.place_is i;
                  queue = same_queue i;
                  queued = queued i;
                  steps = t.stands.ahead.steps_is i;
                };
            capacity = sym t.stands.capacity i;
            moves = sym t.moves i;
            ended = sym t.over_is i;
          }

    pub word_fits : WordFits count w₀.directed.moving.digits tops left bytes w₀.directed.word w₀.directed.downs
    word_fits =
        let f = ok.few in
        record {
          numbers_long = a.directed.moving;
          tops_long = ok.wide.tops_long;
          left_long = ok.wide.left_long;
          bytes_long = ok.wide.bytes_long;
          word_long = a.directed.word;
          downs_long = a.directed.downs;
          few = omega arith;
          from_one = λ i h. (number_ok i h).0;
          within = λ i h. (number_ok i h).1;
          less = left_fits ok.now ok.unloads;
        }
