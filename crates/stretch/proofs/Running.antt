-- The loop of a stretch: after k turns, the bytes of k calls that moved stand in the output, and what all calls leave is these
-- and what the calls from here on leave. And the whole stretch around it. Assumes nothing.
use Prim.Native.Nat.{ℕ, suc, ◌+◌, ◌-◌, ◌^◌, ◌≤◌, ◌<◌}
use native.Mathlib.Decide.{dec_lt}
use native.Mathlib.Omega.{arith}
use mathlib.Core.Path.{◌≡◌, refl, sym, ap, subst, ◌∙◌}
use mathlib.Core.Bool.{Bool, true, false, cond, false≢true, and-eq-true_iff}
use mathlib.Core.List.{List, [], ◌∷◌, ◌++◌, append-nil, append_assoc}
use borrow.Author.Tests.{ltb-true, leb-true, eqb-true, eq-eqb, ne_eqb}
use lib.Dec.{eqb}
use lib.ListN.{length, set, take, drop, length-append}
use Rattle.std.specs.Prelude.{None, Some}
use Rattle.gray_theory.specs.Arrays.{filled}
use Rattle.gray_theory.proofs.Filled.{length-filled}
use Rattle.gray_theory.specs.Places.{placed}
use Rattle.gray_theory.proofs.Places.{placed-none, placed-set}
use Rattle.ahead_theory.specs.Locals as theory
use Rattle.ahead_theory.specs.Locals.{Fast, FastRan, fast_call, fast_then, fast_run}
use Rattle.ahead_theory.proofs.Stretches.{CallKept, call_kept, run-kept}
use Rattle.stretch.specs.declared.Stage.{Stage}
use Rattle.stretch.specs.declared.Event.{Event}
use Rattle.stretch.specs.declared.Event.TheVariants as events
use Rattle.stretch.specs.declared.Event.TheVariants.{Moved}
use Rattle.stretch.specs.declared.Stop.TheVariants.{End, Dry, Misfit}
use Rattle.stretch.specs.declared.Ran.{Ran}
use Rattle.stretch.proofs.Paths.{fits_none, fits_some}
use Rattle.stretch.specs.Stages.{fast_of, called_as, kind_of, byte_of, Outcome, ran_as, ran_into, calls_by, stretch_as, from_oldest, fits_for, stretch_by, Long, Runnable}

-- ---- the loop
-- bytes of earlier calls, and what the later ones leave
abbrev after : List ℕ → FastRan → FastRan
after a r = record {
  written = a ++ r.written;
  taken = r.taken;
  stop = r.stop;
  fast = r.fast;
  left = r.left;
  bytes = r.bytes;
}

abbrev leaving : ℕ → FastRan → List ℕ → Outcome
leaving n r out = record { made = n; taken = r.taken; stop = r.stop; fast = r.fast; left = r.left; bytes = r.bytes; out = out }

-- a test that is known
cond_1 : (b : Bool) (x y : FastRan) → b ≡ true → cond b x y ≡ x
cond_1 b x y e = rw e

cond_2 : (b d : Bool) (x y z : FastRan) → b ≡ false → d ≡ true → cond b x (cond d y z) ≡ y
cond_2 b d x y z e o = rw (e, o)

cond_3 : (b d : Bool) (x y z : FastRan) → b ≡ false → d ≡ false → cond b x (cond d y z) ≡ z
cond_3 b d x y z e o = rw (e, o)

pub record Going (last c limit : ℕ) (tops rest₀ queue₀ left₀ bytes₀ : List ℕ) (at₀ : Stage) (done : ℕ) (before : List ℕ)
    (rest queue left bytes out : List ℕ) (at : Stage) (k : ℕ) : Type 0 where
  pub fits : Runnable last c limit tops rest queue left bytes at k done before
  pub small : length before < 2 ^ 64
  pub within : k ≤ limit
  pub behind : k ≤ at.tail
  pub sofar : List ℕ
  pub count : length sofar ≡ k
  pub holds : out ≡ placed done sofar before
  pub whole : calls_by last c limit tops rest₀ queue₀ left₀ bytes₀ at₀ done before
      ≡ ran_into (after sofar (fast_run tops last c (limit - k) k (fast_of rest queue at) left bytes)) done before

module _ (last c limit : ℕ) (tops rest₀ queue₀ left₀ bytes₀ : List ℕ) (at₀ : Stage) (done : ℕ) (before : List ℕ) where
  pub begun : Runnable last c limit tops rest₀ queue₀ left₀ bytes₀ at₀ 0 done before
      → length before < 2 ^ 64
      → Going last c limit tops rest₀ queue₀ left₀ bytes₀ at₀ done before rest₀ queue₀ left₀ bytes₀ before at₀ 0
  unfolding calls_by
  begun f small =
      let all : limit ≡ limit - 0 = omega arith in
      record {
        fits = f;
        small = small;
        within = omega arith;
        behind = omega arith;
        sofar = [];
        count = refl;
        holds = sym (placed-none done before);
        whole = ap (λ j. ran_into (fast_run tops last c j 0 (fast_of rest₀ queue₀ at₀) left₀ bytes₀) done before) all;
      }

  module _ (rest queue left bytes out : List ℕ) (at : Stage) (k : ℕ)
      (g : Going last c limit tops rest₀ queue₀ left₀ bytes₀ at₀ done before rest queue left bytes out at k) where
    abbrev f : Fast
    f = fast_of rest queue at

    -- nothing more is written
    finished : (r : FastRan) → r.written ≡ []
        → fast_run tops last c (limit - k) k f left bytes ≡ r
        → leaving k r out ≡ calls_by last c limit tops rest₀ queue₀ left₀ bytes₀ at₀ done before
    finished r none is =
        let same : g.sofar ≡ g.sofar ++ r.written = sym (append-nil g.sofar) ∙ ap (λ (l : List ℕ). g.sofar ++ l) (sym none) in
        ap (λ (n : ℕ). leaving n r out) (sym g.count)
        ∙ ap (λ (l : List ℕ). leaving (length g.sofar) r l) g.holds
        ∙ ap (λ (l : List ℕ). leaving (length l) r (placed done l before)) same
        ∙ ap (λ (x : FastRan). ran_into (after g.sofar x) done before) (sym is)
        ∙ sym g.whole

    -- all calls are made
    pub full : limit ≤ k
        → ran_as (record { made = limit; taken = limit; at = at; stop = None }) rest queue left bytes out
        ≡ calls_by last c limit tops rest₀ queue₀ left₀ bytes₀ at₀ done before
    unfolding fast_run
    full all =
        let within = g.within in
        let same : limit ≡ k = omega arith in
        let none : limit - k ≡ 0 = omega arith in
        ap (λ n. ran_as (record { made = n; taken = n; at = at; stop = None }) rest queue left bytes out) same
        ∙ finished (record { written = []; taken = k; stop = 0; fast = f; left = left; bytes = bytes }) refl
        (ap (λ j. fast_run tops last c j k f left bytes) none)

    module _ (less : k < limit) where
      module _ (at' : Stage) (said : Event) (rest' queue' left' bytes' : List ℕ)
          (is : called_as (at', said) rest' queue' left' bytes' ≡ fast_call tops last c k f left bytes) where
        abbrev a : theory.Called
        a = called_as (at', said) rest' queue' left' bytes'

        kept : CallKept last k f left bytes a
        kept =
            subst (CallKept last k f left bytes) (sym is)
            (call_kept tops last c k f left bytes g.fits.from_one g.fits.to_last g.behind)

        long : Long rest' queue' left' bytes'
        long =
            let b = g.fits.long in
            let n = kept in
            record {
              rest_long = n.rest_long ∙ b.rest_long;
              queue_long = n.queue_long ∙ b.queue_long;
              left_long = n.left_long ∙ b.left_long;
              bytes_long = n.bytes_long ∙ b.bytes_long;
            }

        -- this call, and then those that are left
        next : fast_run tops last c (limit - k) k f left bytes
            ≡ fast_then k a (fast_run tops last c (limit - (k + 1)) (k + 1) a.fast a.left a.bytes)
        unfolding fast_run
        next =
            let some : limit - k ≡ suc (limit - (k + 1)) = omega arith in
            ap (λ j. fast_run tops last c j k f left bytes) some
            ∙ ap
            (λ (x : theory.Called). fast_then k x (fast_run tops last c (limit - (k + 1)) (k + 1) x.fast x.left x.bytes))
            (sym is)

        pub ended_there : said ≡ events.End
            → ran_as (record { made = k; taken = k + 1; at = at'; stop = Some End }) rest' queue' left' bytes' out
            ≡ calls_by last c limit tops rest₀ queue₀ left₀ bytes₀ at₀ done before
        ended_there e =
            let one : a.kind ≡ 1 = ap kind_of e in
            finished (record { written = []; taken = k + 1; stop = 1; fast = a.fast; left = left'; bytes = bytes' }) refl
            (next ∙ cond_2 (eqb a.kind 2) (eqb a.kind 1) _ _ _ (ne_eqb a.kind 2 (λ two. absurd (omega arith))) (eq-eqb a.kind 1 one))

        pub dried : said ≡ events.Dry
            → ran_as (record { made = k; taken = k; at = at'; stop = Some Dry }) rest' queue' left' bytes' out
            ≡ calls_by last c limit tops rest₀ queue₀ left₀ bytes₀ at₀ done before
        dried e =
            let two : a.kind ≡ 2 = ap kind_of e in
            finished (record { written = []; taken = k; stop = 2; fast = a.fast; left = left'; bytes = bytes' }) refl
            (next ∙ cond_1 (eqb a.kind 2) _ _ (eq-eqb a.kind 2 two))

        pub again : (byte : ℕ) → said ≡ Moved byte
            → Going last c limit tops rest₀ queue₀ left₀ bytes₀ at₀ done before rest' queue' left' bytes' (set out (done + k) byte) at' (k + 1)
        again byte e =
            let zero : a.kind ≡ 0 = ap kind_of e in
            let not_two : a.kind ≡ 2 → ⊥ = λ two. absurd (omega arith) in
            let not_one : a.kind ≡ 1 → ⊥ = λ one. absurd (omega arith) in
            let b = g.fits in
            let n = kept in
            let room = b.room in
            let s = b.steps_few in
            let slow = n.steps_few in
            let count = g.count in
            let place : done + k ≡ done + length g.sofar = omega arith in
            let more = fast_run tops last c (limit - (k + 1)) (k + 1) a.fast left' bytes' in
            record {
              fits = record {
                long = long;
                tops_long = b.tops_long;
                from_one = b.from_one;
                most = b.most;
                to_last = n.to_last;
                small_c = b.small_c;
                calls = b.calls;
                steps_few = omega arith;
                room = b.room;
              };
              small = g.small;
              within = omega arith;
              behind = n.behind not_two;
              sofar = g.sofar ++ (byte ∷ []);
              count = length-append g.sofar (byte ∷ []) ∙ omega arith;
              holds =
                  ap (λ (x : List ℕ). set x (done + k) byte) g.holds
                  ∙ ap (λ (j : ℕ). set (placed done g.sofar before) j byte) place
                  ∙ placed-set done g.sofar before byte (omega arith);
              whole =
                  g.whole
                  ∙ ap (λ (x : FastRan). ran_into (after g.sofar x) done before)
                  (next ∙ cond_3 (eqb a.kind 2) (eqb a.kind 1) _ _ _ (ne_eqb a.kind 2 not_two) (ne_eqb a.kind 1 not_one)
                  ∙ ap (λ (y : Event). after (byte_of y ∷ []) more) e)
                  ∙ ap
                  (λ (x : List ℕ).
                  leaving (length x) more (placed done x before))
                  (sym (append_assoc g.sofar (byte ∷ []) more.written));
            }

-- ---- the whole stretch
module _ (last c limit : ℕ) (tops rest left bytes entries : List ℕ) (at : Stage) (done : ℕ) (out : List ℕ) where
  fit : fits_for last c limit tops rest left bytes at done out ≡ true
      → (queue : List ℕ)
      → length queue ≡ 1056
      → Runnable last c limit tops rest queue left bytes at 0 done out
  fit e queue long =
      elim (dec_lt (length out) done) [
        | yes l ↦ absurd (false≢true (fits_none last c limit tops rest left bytes at done out l ∙ e))
        | no l ↦
            let tests = fits_some last c limit tops rest left bytes at done out (omega arith) ∙ e in
            let (both, o) = (and-eq-true_iff _ _).0 tests in
            let (arrays, numbers) = (and-eq-true_iff _ _).0 both in
            let (t, a1) = (and-eq-true_iff _ _).0 arrays in
            let (r, a2) = (and-eq-true_iff _ _).0 a1 in
            let (f, b) = (and-eq-true_iff _ _).0 a2 in
            let (ends, n1) = (and-eq-true_iff _ _).0 numbers in
            let (l1, l2) = (and-eq-true_iff _ _).0 ends in
            let (p, n2) = (and-eq-true_iff _ _).0 n1 in
            let (c1, n3) = (and-eq-true_iff _ _).0 n2 in
            let (m, s) = (and-eq-true_iff _ _).0 n3 in
            let free = leb-true limit (length out - done) o in
            let few = leb-true at.steps (2 ^ 63) s in
            record {
              long = record {
                rest_long = eqb-true (length rest) 256 r;
                queue_long = long;
                left_long = eqb-true (length left) 256 f;
                bytes_long = eqb-true (length bytes) 256 b;
              };
              tops_long = eqb-true (length tops) 256 t;
              from_one = leb-true 1 last l1;
              most = let less = ltb-true last 256 l2 in omega arith;
              to_last = leb-true at.place last p;
              small_c = leb-true c 32 c1;
              calls = leb-true limit 1024 m;
              steps_few = omega arith;
              room = omega arith;
            }
      ]

  -- arrays and numbers that do not fit
  pub refuses : (ok : Bool)
      → ok ≡ fits_for last c limit tops rest left bytes at done out
      → ok ≡ false
      → stretch_as (record { made = 0; entries = entries; at = at; stop = Some Misfit }) rest left bytes out
      ≡ stretch_by last c limit tops rest left bytes entries at done out
  unfolding stretch_by
  refuses ok is refused = rw (sym is ∙ refused)

  module _
      (ok : Bool) (is : ok ≡ fits_for last c limit tops rest left bytes at done out) (accepted : ok ≡ true)
      (entries_long : length entries ≡ 32) (queue : List ℕ) (queue-is : queue ≡ filled 1056 0 entries)
    where
      says : fits_for last c limit tops rest left bytes at done out ≡ true
      says = sym is ∙ accepted

      pub runnable : Runnable last c limit tops rest queue left bytes at 0 done out
      runnable = fit says queue (ap length queue-is ∙ length-filled 1056 0 entries (omega (arith, entries_long)))

      module _
          (r : Ran) (rest' queue' left' bytes' out' : List ℕ)
          (ran : ran_as r rest' queue' left' bytes' out' ≡ calls_by last c limit tops rest queue left bytes at done out)
        where
          made_by : ran_as r rest' queue' left' bytes' out'
              ≡ ran_into (fast_run tops last c limit 0 (fast_of rest queue at) left bytes) done out
          unfolding calls_by
          made_by = ran

          -- the entries that are left stand in the queue
          pub window_fits : (r.taken ≤ r.at.tail) × (r.taken + 32 ≤ length queue')
          window_fits =
              let b = runnable in
              let k = run-kept tops last c b.from_one limit 0 (fast_of rest queue at) left bytes b.to_last (omega arith) in
              let taken = ap (λ (o : Outcome). o.taken) made_by in
              let tail = ap (λ (o : Outcome). o.fast.tail) made_by in
              let long = ap (λ (o : Outcome). length o.fast.queue) made_by in
              let whole = k.queue_long ∙ b.long.queue_long in
              let few = k.few in
              let behind = k.behind in
              let most = b.calls in
              (omega arith, omega arith)

          pub from_oldest_lem : (next : List ℕ)
              → next ≡ take 32 (drop r.taken queue')
              → stretch_as
              (record {
                made = r.made;
                entries = next;
                at = record { place = r.at.place; tail = r.at.tail - r.taken; steps = r.at.steps };
                stop = r.stop;
              })
              rest' left' bytes' out'
              ≡ stretch_by last c limit tops rest left bytes entries at done out
          unfolding stretch_by
          from_oldest_lem next next-is =
              ap
              (λ (l : List ℕ).
              stretch_as
              (record {
                made = r.made;
                entries = l;
                at = record { place = r.at.place; tail = r.at.tail - r.taken; steps = r.at.steps };
                stop = r.stop;
              })
              rest' left' bytes' out')
              next-is
              ∙ ap from_oldest ran
              ∙ ap (λ (q : List ℕ). from_oldest (calls_by last c limit tops rest q left bytes at done out)) queue-is
              ∙ rw says
