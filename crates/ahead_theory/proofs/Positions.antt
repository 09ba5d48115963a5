-- The producer and the consumer in numbers: t entries removed, k queued, p carries made towards the next. Two invariants carry
-- demand 3: with enough places the useful steps keep ahead of every entry that is still to come, and at any capacity they are
-- not far ahead of the last.
use Rattle.std.specs.Prelude.{ℕ, suc, ◌+◌, ◌-◌, ◌*◌, ◌≤◌, ◌<◌, ◌≡◌, true, List, length}
use Rattle.std.proofs.Common.{eq-zero-or-pos, arith, sym, ap, ◌∙◌, ⊎_elim}
use Rattle.std.proofs.Math.Decide.{dec_lt}
use Rattle.gray_theory.specs.Radices.{size, all_from}
use Rattle.gray_theory.specs.Changes.{ruler}
use Rattle.gray_theory.specs.Costs.{cost}
use Rattle.gray_theory.proofs.Bounds.{entry_costs_ruler, cost_below_double, cost_burst}
use Rattle.gray_theory.proofs.Rulers.{ruler_pos, ruler_at_end}
use Rattle.gray_theory.proofs.Sizes.{all_from_weaker, size_pos}
use Rattle.ahead_theory.specs.Work.{Work, carry, append, idle}
use Rattle.gray_theory.specs.Capacities.{Openable}
use Rattle.gray_theory.specs.Locks.{unlocked}
use Rattle.gray_theory.proofs.Unlocked.{unlocked_two, unlocked_most}
use Rattle.ahead_theory.proofs.Entries.{cost_mono, cost_least, cost_from_N}
use Rattle.ahead_theory.specs.Positions.{Worked, Worked.carried, Worked.appended, Worked.idled, Worked.spent, gained}

-- what work steps need to know of the digits that they run over, and of the capacity
pub record Buffered (ms : List ℕ) (c : ℕ) : Type 0 where
  pub two : all_from 2 ms ≡ true
  pub most : length ms ≤ 48
  pub place : 1 ≤ c
  pub capacity : c ≤ 32

-- the digits of an open survey that move
pub buffered : {ms : List ℕ} {c : ℕ} → Openable ms c → Buffered (unlocked ms) c
buffered {ms} v =
    let few = unlocked_most ms in
    let most = v.survey.most in
    record { two = unlocked_two ms; most = omega arith; place = v.place; capacity = v.capacity }

-- entries t + 1 .. t + k are queued, in at most c places, and p of the carries of the next one are made. The counter holds
-- entries up to 2 N − 1
pub record Position (ms : List ℕ) (c t k p : ℕ) : Type 0 where
  pub fits : k ≤ c
  pub carries : p < ruler ms (suc (t + k))
  pub held : suc (t + k) ≤ 2 * size ms

-- the useful steps made by then
abbrev pub steps_at : List ℕ → ℕ → ℕ → ℕ → ℕ
steps_at ms t k p = cost ms (t + k) + p

pub one : (ms : List ℕ) → all_from 2 ms ≡ true → all_from 1 ms ≡ true
one ms e = all_from_weaker 2 1 ms (omega arith) e

-- ---- what a work step keeps
pub work_position : {ms : List ℕ} {c t k p : ℕ} {e : Work} {k' p' : ℕ}
    → Position ms c t k p
    → Worked ms c t k p e k' p'
    → Position ms c t k' p'
work_position {ms = ms} {t = t} {k = k} at (carried h) = record { fits = at.fits; carries = h; held = at.held }
work_position {ms = ms} {t = t} {k = k} at (appended h room more) =
    record { fits = room; carries = ruler_pos ms (suc (t + suc k)); held = omega arith }
work_position at (idled h full) = at
work_position at (spent h) = at

-- the cost of the next entry
next_cost : (ms : List ℕ) → all_from 2 ms ≡ true → (t k : ℕ) → cost ms (t + suc k) ≡ cost ms (t + k) + ruler ms (suc (t + k))
next_cost ms e t k =
    let s : t + suc k ≡ suc (t + k) = omega arith in
    ap (cost ms) s ∙ entry_costs_ruler ms (one ms e) (t + k)

pub gain_small : (e : Work) → gained e ≤ 1
unfolding gained
gain_small carry = omega arith
gain_small append = omega arith
gain_small idle = omega arith

pub work_steps : {ms : List ℕ} {c t k p : ℕ} {e : Work} {k' p' : ℕ}
    → all_from 2 ms ≡ true
    → Worked ms c t k p e k' p'
    → steps_at ms t k' p' ≡ steps_at ms t k p + gained e
unfolding gained
work_steps two (carried h) = omega arith
work_steps {ms = ms} {t = t} {k = k} two (appended h room more) = let n = next_cost ms two t k in omega arith
work_steps two (idled h full) = omega arith
work_steps two (spent h) = omega arith

-- the entries finished, by the steps: those up to t + k, and no more
pub steps_short : {ms : List ℕ} {c t k p : ℕ}
    → all_from 2 ms ≡ true
    → Position ms c t k p
    → steps_at ms t k p < cost ms (suc (t + k))
steps_short {ms} {c} {t} {k} {p} two at =
    let n = entry_costs_ruler ms (one ms two) (t + k) in
    let h = at.carries in
    omega arith

-- an entry whose cost has been paid is finished
pub paid : {ms : List ℕ} {c t k p : ℕ}
    → all_from 2 ms ≡ true
    → Position ms c t k p
    → (j : ℕ)
    → cost ms j ≤ steps_at ms t k p
    → j ≤ t + k
paid {ms} {c} {t} {k} {p} two at j h =
    elim (dec_lt (t + k) j) [
      | no q ↦ omega arith
      | yes q ↦
          let short = steps_short two at in
          let d = j - suc (t + k) in
          let e : suc (t + k) + d ≡ j = omega arith in
          let more : cost ms (suc (t + k)) ≤ cost ms j = rw e at (cost_mono ms (one ms two) (suc (t + k)) d) in
          absurd (omega arith)
    ]

-- ---- ahead
-- x work steps of the present call are made: each entry still to come, up to the last, costs at most two steps for each call that
-- there is before its removal
abbrev pub Ahead : List ℕ → ℕ → ℕ → ℕ → Type 0
Ahead ms t x s = (d : ℕ) → t + suc d ≤ size ms → cost ms (t + suc d) + x ≤ s + 2 * suc d

-- a fresh walk
pub ahead_fresh : (ms : List ℕ) → all_from 2 ms ≡ true → Ahead ms 0 0 0
ahead_fresh ms two d h = let b = cost_below_double ms two (0 + suc d) (omega arith) in omega arith

-- an entry that is queued has cost no more than the last of them
queued_cost : (ms : List ℕ) → all_from 2 ms ≡ true → (t k d : ℕ) → d < k → cost ms (t + suc d) ≤ cost ms (t + k)
queued_cost ms two t k d h =
    let e : t + suc d + (k - suc d) ≡ t + k = omega arith in
    rw e at (cost_mono ms (one ms two) (t + suc d) (k - suc d))

-- an idle step: c entries are queued, so that an entry further on has c more calls before its removal, and a burst of entries
-- costs no more than those allow
ahead_idle : (ms : List ℕ) (c t p x : ℕ)
    → Buffered ms c
    → length ms ≤ 2 * c
    → x ≤ 1
    → suc p ≡ ruler ms (suc (t + c))
    → (d : ℕ)
    → cost ms (t + suc d) + suc x ≤ steps_at ms t c p + 2 * suc d
ahead_idle ms c t p x v enough small last d =
    let n = entry_costs_ruler ms (one ms v.two) (t + c) in
    elim (dec_lt d c) [
      | yes q ↦ let m = queued_cost ms v.two t c d q in omega arith
      | no q ↦
          let f = d - c in
          let e : t + suc d ≡ suc (t + c) + f = omega arith in
          let same = ap (cost ms) e in
          let some = v.place in
          ⊎_elim
          (λ z.
          let g : suc (t + c) + f ≡ suc (t + c) = omega arith in
          let here = ap (cost ms) g in
          omega arith)
          (λ pos. let b = cost_burst ms v.two (suc (t + c)) f pos in omega arith)
          (eq-zero-or-pos f)
    ]

pub ahead_work : {ms : List ℕ} {c t k p : ℕ} {e : Work} {k' p' : ℕ} (x : ℕ)
    → Buffered ms c
    → length ms ≤ 2 * c
    → x ≤ 1
    → Worked ms c t k p e k' p'
    → Ahead ms t x (steps_at ms t k p)
    → Ahead ms t (suc x) (steps_at ms t k' p')
ahead_work x v enough small (carried h) a d within = let b = a d within in omega arith
ahead_work {ms} {t = t} {k = k} x v enough small (appended h room more) a d within =
    let b = a d within in let n = next_cost ms v.two t k in omega arith
ahead_work {ms} {c} {t} {k} {p} x v enough small (idled h full) a d within =
    let g : suc p ≡ ruler ms (suc (t + c)) = h ∙ ap (λ (j : ℕ). ruler ms (suc (t + j))) full in
    let same : steps_at ms t c p ≡ steps_at ms t k p = ap (λ (j : ℕ). steps_at ms t j p) (sym full) in
    let b = ahead_idle ms c t p x v enough small g d in
    omega arith
ahead_work {ms} {c} {t} {k} {p} x v enough small (spent h) a d within =
    let pos = size_pos ms (one ms v.two) in
    let m = queued_cost ms v.two t k d (omega arith) in
    omega arith

-- a removal
pub ahead_remove : (ms : List ℕ) (t s : ℕ) → Ahead ms t 2 s → Ahead ms (suc t) 0 s
ahead_remove ms t s a d within =
    let e : t + suc (suc d) ≡ suc t + suc d = omega arith in
    let b = a (suc d) (omega arith) in
    let same = ap (cost ms) e in
    omega arith

-- after two work steps the next entry is queued
pub ahead_queued : {ms : List ℕ} {c t k p : ℕ}
    → all_from 2 ms ≡ true
    → Position ms c t k p
    → t < size ms
    → Ahead ms t 2 (steps_at ms t k p)
    → 0 < k
ahead_queued {ms} {c} {t} {k} {p} two at below a =
    let b = a 0 (omega arith) in
    let e : t + 1 ≡ suc t = omega arith in
    let same = ap (cost ms) e in
    let f = paid two at (suc t) (omega arith) in
    omega arith

-- a full queue is ahead, whatever the rank, with places for half of the digits; and one that holds the last entry is at any capacity
pub ahead_full : (ms : List ℕ) (c t p : ℕ) → Buffered ms c → length ms ≤ 2 * c → Ahead ms t 0 (steps_at ms t c p)
ahead_full ms c t p v enough d within =
    elim (dec_lt d c) [
      | yes q ↦ let m = queued_cost ms v.two t c d q in omega arith
      | no q ↦
          let e : t + suc d ≡ t + c + suc (d - c) = omega arith in
          let same = ap (cost ms) e in
          let b = cost_burst ms v.two (t + c) (suc (d - c)) (omega arith) in
          omega arith
    ]

pub ahead_whole : (ms : List ℕ) (c t k p : ℕ) → Buffered ms c → size ms ≤ t + k → Ahead ms t 0 (steps_at ms t k p)
ahead_whole ms c t k p v whole d within = let m = queued_cost ms v.two t k d (omega arith) in omega arith

-- ---- behind
-- once all entries but the last are finished, at most 2 c + 1 useful steps are made before the call that removes the last one.
-- Here last is N − 1
abbrev pub Behind : List ℕ → ℕ → ℕ → ℕ → ℕ → ℕ → Type 0
Behind ms c last t x s = cost ms last ≤ s → s + 2 * suc last ≤ cost ms last + 2 * c + 1 + x + 2 * t

pub behind-fresh : (ms : List ℕ) (c last : ℕ) → 0 < c → Behind ms c last 0 0 0
behind-fresh ms c last pos h = let l = cost_least ms last in omega arith

-- the step that finishes the last entry but one: at most c entries are queued then
pub behind-work : {ms : List ℕ} {c t k p : ℕ} {e : Work} {k' p' : ℕ} (last x : ℕ)
    → all_from 2 ms ≡ true
    → Position ms c t k p
    → Worked ms c t k p e k' p'
    → Behind ms c last t x (steps_at ms t k p)
    → Behind ms c last t (suc x) (steps_at ms t k' p')
behind-work {ms} {c} {t} {k} {p} {e} {k'} {p'} last x two at w b h =
    let at' = work_position at w in
    let g = gain_small e in
    let n = work_steps two w in
    elim (dec_lt (steps_at ms t k p) (cost ms last)) [
      | no q ↦ let old = b (omega arith) in omega arith
      | yes q ↦
          let low = paid two at' last h in
          let fits = at'.fits in
          omega arith
    ]

pub behind_remove : (ms : List ℕ) (c last t s : ℕ) → Behind ms c last t 2 s → Behind ms c last (suc t) 0 s
behind_remove ms c last t s b h = let old = b h in omega arith

-- if the last entry is finished in time, there are places for half of the digits
pub behind_queued : {ms : List ℕ} {c t k p : ℕ} (last : ℕ)
    → all_from 2 ms ≡ true
    → Position ms c t k p
    → size ms ≡ suc last
    → t ≡ last
    → 0 < k
    → Behind ms c last t 2 (steps_at ms t k p)
    → length ms ≤ 2 * c
behind_queued {ms} {c} {t} {k} {p} last two at whole here some b =
    let end : ruler ms (suc last) ≡ suc (length ms) = ap (ruler ms) (sym whole) ∙ ruler_at_end ms (one ms two) in
    let n = entry_costs_ruler ms (one ms two) last in
    let e : suc last + (k - 1) ≡ t + k = omega arith in
    let m : cost ms (suc last) ≤ cost ms (t + k) = rw e at (cost_mono ms (one ms two) (suc last) (k - 1)) in
    let old = b (omega arith) in
    omega arith

-- ---- the counter does not run out
-- with at most 2 N − 1 useful steps made, fewer than 2 N − 1 entries are finished
pub counter_lasts : {ms : List ℕ} {c t k p : ℕ} → Buffered ms c
    → 0 < length ms
    → Position ms c t k p
    → steps_at ms t k p < 2 * size ms
    → suc (t + k) < 2 * size ms
counter_lasts {ms} {c} {t} {k} {p} v some at h =
    elim (dec_lt (suc (t + k)) (2 * size ms)) [
      | yes q ↦ q
      | no q ↦
          let pos = size_pos ms (one ms v.two) in
          let more = cost_from_N ms (one ms v.two) (t + k) some (omega arith) in
          absurd (omega arith)
    ]
