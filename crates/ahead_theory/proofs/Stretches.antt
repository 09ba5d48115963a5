-- What two work steps of a call on local arrays do, how the carries of a dry call are undone, and what every call keeps.
use Rattle.std.specs.Prelude.{ℕ, zero, suc, ◌+◌, ◌-◌, ◌≤◌, ◌≡◌, refl, List, length, get_or, set}
use Rattle.std.proofs.Math.Decide.{dec_lt, ℕ_discrete}
use native.Mathlib.Omega.{arith}
use Rattle.std.proofs.Common.{sym, ap, subst, ◌∙◌, get_or-set_same, get_or-set_other, ext_get_or}
use borrow.Author.Tests.{lt-ltb, le-ltb, eq-eqb, ne_eqb}
use Rattle.std.proofs.Math.ListN.{length-set}
use Rattle.ahead_theory.specs.Locals.{Fast, Called, FastRan, rest_at, carried, appended, fast_work, fast_twice, fast_call, fast_run}
use Rattle.ahead_theory.specs.Stretches.{Undone}

-- ---- what a work step does
data FastStep (tops : List ℕ) (last : ℕ) (f g : Fast) : Type 0 where
  carries : rest_at f ≡ 0 → g ≡ carried tops f → FastStep tops last f g
  appends : g ≡ appended f → FastStep tops last f g
  idles : g ≡ f → FastStep tops last f g

fast_step : (tops : List ℕ) (last bound : ℕ) (f : Fast) → FastStep tops last f (fast_work tops last bound f)
unfolding fast_work
fast_step tops last bound f =
    elim (ℕ_discrete (rest_at f) 0) [
      | yes z ↦
          elim (ℕ_discrete f.place last) [
            | yes e ↦ idles (rw (eq-eqb (rest_at f) 0 z, eq-eqb f.place last e))
            | no n ↦ carries z (rw (eq-eqb (rest_at f) 0 z, ne_eqb f.place last n))
          ]
      | no some ↦
          elim (dec_lt f.tail bound) [
            | yes l ↦ appends (rw (ne_eqb (rest_at f) 0 some, lt-ltb f.tail bound l))
            | no l ↦ idles (rw (ne_eqb (rest_at f) 0 some, le-ltb f.tail bound (omega arith)))
          ]
    ]

tail_grows : (tops : List ℕ) (last : ℕ) (f g : Fast) → FastStep tops last f g → f.tail ≤ g.tail
tail_grows tops last f g (carries z e) = rw e (omega arith)
tail_grows tops last f g (appends e) = rw e (omega arith)
tail_grows tops last f g (idles e) = rw e (omega arith)

set_back : (l : List ℕ) (i v : ℕ) → get_or l i 0 ≡ 0 → set (set l i v) i 0 ≡ l
set_back l i v z =
    ext_get_or 0 (set (set l i v) i 0) l (length-set (set l i v) i 0 ∙ length-set l i v)
    (λ x h.
    elim (ℕ_discrete x i) [
      | yes e ↦ let room = length-set (set l i v) i 0 in let room2 = length-set l i v in rw e (get_or-set_same (set l i v) i 0 0 (omega arith) ∙ sym z)
      | no n ↦ get_or-set_other (set l i v) i x 0 0 n ∙ get_or-set_other l i x v 0 n
    ])

set_back_twice : (l : List ℕ) (i j u v : ℕ) → (j ≡ i → ⊥) → get_or l i 0 ≡ 0 → get_or l j 0 ≡ 0 → set (set (set (set l i u) j v) i 0) j 0 ≡ l
set_back_twice l i j u v apart zi zj =
    ext_get_or 0 (set (set (set (set l i u) j v) i 0) j 0) l same
    (λ x h.
    elim (ℕ_discrete x j) [
      | yes e ↦ rw e (get_or-set_same (set (set (set l i u) j v) i 0) j 0 0 (omega (arith, same, three)) ∙ sym zj)
      | no n ↦
          get_or-set_other (set (set (set l i u) j v) i 0) j x 0 0 n
          ∙ elim (ℕ_discrete x i) [
            | yes e ↦ rw e (get_or-set_same (set (set l i u) j v) i 0 0 (omega (arith, same, two)) ∙ sym zi)
            | no o ↦ get_or-set_other (set (set l i u) j v) i x 0 0 o ∙ get_or-set_other (set l i u) j x v 0 n ∙ get_or-set_other l i x u 0 o
          ]
    ])
  where
    two : length (set (set l i u) j v) ≡ length l
    two = length-set (set l i u) j v ∙ length-set l i u

    three : length (set (set (set l i u) j v) i 0) ≡ length l
    three = length-set (set (set l i u) j v) i 0 ∙ two

    same : length (set (set (set (set l i u) j v) i 0) j 0) ≡ length l
    same = length-set (set (set (set l i u) j v) i 0) j 0 ∙ three

module _ (tops : List ℕ) (last bound : ℕ) (f : Fast) where
  abbrev g1 : Fast
  g1 = fast_work tops last bound f

  abbrev g2 : Fast
  g2 = fast_work tops last bound g1

  undone_none : g2 ≡ f → Undone f g2
  undone_none e = subst (Undone f) (sym e) (record { rest = rw (le-ltb f.place f.place (omega arith)); queue = refl; from = omega arith; steps = omega arith; short = omega arith })

  undone_one : rest_at f ≡ 0 → g2 ≡ carried tops f → Undone f g2
  undone_one z e =
      subst (Undone f) (sym e)
      (record {
        rest =
            rw (lt-ltb f.place (f.place + 1) (omega arith), le-ltb (f.place + 1) (f.place + 1) (omega arith))
            (set_back f.rest f.place (get_or tops f.place 0) z);
        queue = refl;
        from = omega arith;
        steps = omega arith;
        short = omega arith;
      })

  undone_two : rest_at f ≡ 0 → rest_at (carried tops f) ≡ 0 → g2 ≡ carried tops (carried tops f) → Undone f g2
  undone_two z y e =
      let apart : f.place + 1 ≡ f.place → ⊥ = λ x. absurd (omega arith) in
      let v = get_or tops f.place 0 in
      let there : get_or f.rest (f.place + 1) 0 ≡ 0 = sym (get_or-set_other f.rest f.place (f.place + 1) v 0 apart) ∙ y in
      subst (Undone f) (sym e)
      (record {
        rest =
            rw (lt-ltb f.place (f.place + 1 + 1) (omega arith), lt-ltb (f.place + 1) (f.place + 1 + 1) (omega arith))
            (set_back_twice f.rest f.place (f.place + 1) v (get_or tops (f.place + 1) 0) apart z there);
        queue = refl;
        from = omega arith;
        steps = omega arith;
        short = omega arith;
      })

  -- the tail never goes back
  tail_first : f.tail ≤ g2.tail
  tail_first =
      let one = tail_grows tops last f g1 (fast_step tops last bound f) in
      let two = tail_grows tops last g1 g2 (fast_step tops last bound g1) in
      omega arith

  -- neither work step appends
  pub dry_undone : g2.tail ≤ f.tail → Undone f g2
  dry_undone none = first (fast_step tops last bound f)
    where
      grown : g1.tail ≤ g2.tail
      grown = tail_grows tops last g1 g2 (fast_step tops last bound g1)

      second : rest_at f ≡ 0 → g1 ≡ carried tops f → FastStep tops last g1 g2 → Undone f g2
      second z e (carries y o) = undone_two z (sym (ap rest_at e) ∙ y) (o ∙ ap (carried tops) e)
      second z e (appends o) = let t = ap (λ (x : Fast). x.tail) o in let u = ap (λ (x : Fast). x.tail) e in absurd (omega arith)
      second z e (idles o) = undone_one z (o ∙ e)

      first : FastStep tops last f g1 → Undone f g2
      first (carries z e) = second z e (fast_step tops last bound g1)
      first (appends e) = let u = ap (λ (x : Fast). x.tail) e in absurd (omega (arith, grown))
      first (idles e) = undone_none (ap (fast_work tops last bound) e ∙ e)

-- ---- what work steps and calls keep
-- after n work steps: lengths, and the bounds of the numbers
pub record Kept (last n : ℕ) (f g : Fast) : Type 0 where
  pub rest_long : length g.rest ≡ length f.rest
  pub queue_long : length g.queue ≡ length f.queue
  pub to_last : g.place ≤ last
  pub behind : f.tail ≤ g.tail
  pub steps_few : g.steps ≤ f.steps + n

module _ (tops : List ℕ) (last bound : ℕ) (from_one : 1 ≤ last) where
  pub work-kept : (f : Fast) → f.place ≤ last → Kept last 1 f (fast_work tops last bound f)
  unfolding fast_work
  work-kept f within =
      elim (ℕ_discrete (rest_at f) 0) [
        | yes z ↦
            elim (ℕ_discrete f.place last) [
              | yes e ↦
                  rw (eq-eqb (rest_at f) 0 z, eq-eqb f.place last e)
                  (record { rest_long = refl; queue_long = refl; to_last = within; behind = omega arith; steps_few = omega arith })
              | no n ↦
                  rw (eq-eqb (rest_at f) 0 z, ne_eqb f.place last n)
                  (record {
                    rest_long = length-set f.rest f.place (get_or tops f.place 0);
                    queue_long = refl;
                    to_last = omega arith;
                    behind = omega arith;
                    steps_few = omega arith;
                  })
            ]
        | no some ↦
            elim (dec_lt f.tail bound) [
              | yes l ↦
                  rw (ne_eqb (rest_at f) 0 some, lt-ltb f.tail bound l)
                  (record {
                    rest_long = length-set f.rest f.place (rest_at f - 1);
                    queue_long = length-set f.queue f.tail f.place;
                    to_last = from_one;
                    behind = omega arith;
                    steps_few = omega arith;
                  })
              | no l ↦
                  rw (ne_eqb (rest_at f) 0 some, le-ltb f.tail bound (omega arith))
                  (record { rest_long = refl; queue_long = refl; to_last = within; behind = omega arith; steps_few = omega arith })
            ]
      ]

  pub twice-kept : (f : Fast) → f.place ≤ last → Kept last 2 f (fast_twice tops last bound f)
  twice-kept f within =
      let a = work-kept f within in
      let b = work-kept (fast_work tops last bound f) a.to_last in
      record {
        rest_long = b.rest_long ∙ a.rest_long;
        queue_long = b.queue_long ∙ a.queue_long;
        to_last = b.to_last;
        behind = omega arith;
        steps_few = omega arith;
      }

-- after a call: a tail that was not before the next entry to remove is not, unless the call was dry, before the one after it
pub record CallKept (last h : ℕ) (f : Fast) (left bytes : List ℕ) (r : Called) : Type 0 where
  pub rest_long : length r.fast.rest ≡ length f.rest
  pub queue_long : length r.fast.queue ≡ length f.queue
  pub left_long : length r.left ≡ length left
  pub bytes_long : length r.bytes ≡ length bytes
  pub to_last : r.fast.place ≤ last
  pub held : h ≤ r.fast.tail
  pub behind : (r.kind ≡ 2 → ⊥) → h + 1 ≤ r.fast.tail
  pub steps_few : r.fast.steps ≤ f.steps + 2

pub call_kept : (tops : List ℕ) (last c h : ℕ) (f : Fast) (left bytes : List ℕ) → 1 ≤ last → f.place ≤ last → h ≤ f.tail
    → CallKept last h f left bytes (fast_call tops last c h f left bytes)
unfolding fast_call
call_kept tops last c h f left bytes from_one within before =
    let g = fast_twice tops last (h + c) f in
    let e = get_or g.queue h 0 in
    let k = twice-kept tops last (h + c) from_one f within in
    elim (ℕ_discrete g.tail h) [
      | yes dry ↦
          rw (eq-eqb g.tail h dry)
          (record {
            rest_long = refl;
            queue_long = refl;
            left_long = refl;
            bytes_long = refl;
            to_last = within;
            held = before;
            behind = λ n. absurd (n refl);
            steps_few = omega arith;
          })
      | no some ↦
          elim (ℕ_discrete e last) [
            | yes end ↦
                rw (ne_eqb g.tail h some, eq-eqb e last end)
                (record {
                  rest_long = k.rest_long;
                  queue_long = k.queue_long;
                  left_long = refl;
                  bytes_long = refl;
                  to_last = k.to_last;
                  held = let t = k.behind in omega arith;
                  behind = λ n. let t = k.behind in omega arith;
                  steps_few = k.steps_few;
                })
            | no other ↦
                rw (ne_eqb g.tail h some, ne_eqb e last other)
                (record {
                  rest_long = k.rest_long;
                  queue_long = k.queue_long;
                  left_long = length-set left e _;
                  bytes_long = length-set bytes e _;
                  to_last = k.to_last;
                  held = let t = k.behind in omega arith;
                  behind = λ n. let t = k.behind in omega arith;
                  steps_few = k.steps_few;
                })
          ]
    ]

-- after at most `limit` calls
pub record RunKept (limit h : ℕ) (f : Fast) (r : FastRan) : Type 0 where
  pub queue_long : length r.fast.queue ≡ length f.queue
  pub few : r.taken ≤ h + limit
  pub behind : r.taken ≤ r.fast.tail

pub run-kept : (tops : List ℕ) (last c : ℕ) → 1 ≤ last → (limit h : ℕ) (f : Fast) (left bytes : List ℕ) → f.place ≤ last → h ≤ f.tail
    → RunKept limit h f (fast_run tops last c limit h f left bytes)
unfolding fast_run
run-kept tops last c from_one zero h f left bytes within before = record { queue_long = refl; few = omega arith; behind = before }
run-kept tops last c from_one (suc limit) h f left bytes within before =
    let r = fast_call tops last c h f left bytes in
    let k = call_kept tops last c h f left bytes from_one within before in
    elim (ℕ_discrete r.kind 2) [
      | yes dry ↦ rw (eq-eqb r.kind 2 dry) (record { queue_long = k.queue_long; few = omega arith; behind = k.held })
      | no moves ↦
          elim (ℕ_discrete r.kind 1) [
            | yes end ↦
                rw (ne_eqb r.kind 2 moves, eq-eqb r.kind 1 end)
                (record { queue_long = k.queue_long; few = omega arith; behind = k.behind moves })
            | no other ↦
                let m = run-kept tops last c from_one limit (h + 1) r.fast r.left r.bytes k.to_last (k.behind moves) in
                rw (ne_eqb r.kind 2 moves, ne_eqb r.kind 1 other)
                (record { queue_long = m.queue_long ∙ k.queue_long; few = let n = m.few in omega arith; behind = m.behind })
          ]
    ]
