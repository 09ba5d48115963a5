-- What a call of a stretch asks of its stages and answers, over plain lists and numbers. Assumes nothing.
use Prim.Native.Nat.{ℕ, ◌+◌, ◌≤◌}
use native.Mathlib.Omega.{arith}
use mathlib.Core.Path.{◌≡◌, sym, ap, subst, ◌∙◌}
use mathlib.Core.List.{List}
use borrow.Author.Tests.{eq-eqb, ne_eqb}
use lib.ListN.{length, get_or}
use Rattle.ahead_theory.specs.Locals.{Fast, left_moved, bytes_moved, fast_work, fast_twice, fast_call}
use Rattle.ahead_theory.specs.Locals as theory
use Rattle.ahead_theory.specs.Stretches.{backed, Undone}
use Rattle.ahead_theory.proofs.Stretches.{dry_undone, Kept, work-kept, twice-kept}
use Rattle.stretch.specs.declared.Stage.{Stage}
use Rattle.stretch.specs.declared.Event.TheVariants.{Moved, End, Dry}
use Rattle.stretch.specs.Stages.{fast_of, called_as, FastWorkable, Moves, FastCallable}

abbrev answer : ℕ → ℕ → Fast → List ℕ → List ℕ → theory.Called
answer kind byte g left bytes = record { kind = kind; byte = byte; fast = g; left = left; bytes = bytes }

module _
    (last c k : ℕ) (tops rest queue left bytes : List ℕ) (at : Stage)
    (ok : FastCallable last c k tops rest queue left bytes at)
  where
    abbrev f : Fast
    f = fast_of rest queue at

    abbrev f2 : Fast
    f2 = fast_twice tops last (k + c) f

    -- the second work step can be made
    pub workable_again : (rest' queue' : List ℕ) (at' : Stage)
        → fast_of rest' queue' at' ≡ fast_work tops last (k + c) f
        → FastWorkable tops last (k + c) rest' queue' at'
    workable_again rest' queue' at' e =
        let kept : Kept last 1 f (fast_of rest' queue' at') =
        subst (Kept last 1 f) (sym e) (work-kept tops last (k + c) ok.from_one f ok.to_last) in
        let rest_is = kept.rest_long in
        let queue-is = kept.queue_long in
        let slow = kept.steps_few in
        let r = ok.rest_long in
        let q = ok.queue_long in
        let s = ok.small in
        let few = ok.small_c in
        let calls = ok.calls in
        record {
          tops_long = ok.tops_long;
          rest_long = omega arith;
          to_last = kept.to_last;
          most = ok.most;
          room = omega arith;
          few = omega arith;
          small = omega arith;
        }

    -- ---- after both
    module _ (rest' queue' : List ℕ) (at' : Stage) (is : fast_of rest' queue' at' ≡ f2) where
      both_kept : Kept last 2 f (fast_of rest' queue' at')
      both_kept = subst (Kept last 2 f) (sym is) (twice-kept tops last (k + c) ok.from_one f ok.to_last)

      pub back_fits : (length rest' ≡ 256) × (at'.place ≤ 256)
      back_fits =
          let b = both_kept in
          let l = b.to_last in
          let most = ok.most in
          (b.rest_long ∙ ok.rest_long, omega arith)

      -- dry
      pub runs_dry : at'.tail ≡ k → (back : List ℕ) → back ≡ backed rest' at.place at'.place
          → called_as (at, Dry) back queue' left bytes ≡ fast_call tops last c k f left bytes
      unfolding fast_call
      runs_dry none back e =
          let tail : f2.tail ≡ k = ap (λ (g : Fast). g.tail) (sym is) ∙ none in
          let behind = ok.behind in
          let u : Undone f (fast_of rest' queue' at') = subst (Undone f) (sym is) (dry_undone tops last (k + c) f (omega arith)) in
          let same : fast_of back queue' at ≡ f = rw (e, u.rest, u.queue) in
          rw (eq-eqb f2.tail k tail) (ap (λ (g : Fast). answer 2 0 g left bytes) same)

      -- an entry is removed
      module _ (some : at'.tail ≡ k → ⊥) (e : ℕ) (entry : e ≡ get_or queue' k 0) where
        more_there : f2.tail ≡ k → ⊥
        more_there x = some (ap (λ (g : Fast). g.tail) is ∙ x)

        e_is : e ≡ get_or f2.queue k 0
        e_is = entry ∙ ap (λ (g : Fast). get_or g.queue k 0) is

        pub comes_to_the_end : e ≡ last
            → called_as (at', End) rest' queue' left bytes ≡ fast_call tops last c k f left bytes
        unfolding fast_call
        comes_to_the_end at_last =
            rw (ne_eqb f2.tail k more_there, eq-eqb (get_or f2.queue k 0) last (sym e_is ∙ at_last))
            (ap (λ (g : Fast). answer 1 0 g left bytes) is)

        pub moves_one : (e ≡ last → ⊥) → (byte : ℕ) (left' bytes' : List ℕ) → Moves tops left bytes e byte left' bytes'
            → called_as (at', Moved byte) rest' queue' left' bytes' ≡ fast_call tops last c k f left bytes
        unfolding fast_call
        moves_one other byte left' bytes' m =
            rw (ne_eqb f2.tail k more_there, ne_eqb (get_or f2.queue k 0) last (λ x. other (e_is ∙ x)))
            (ap (λ (g : Fast). answer 0 byte g left' bytes') is
            ∙ ap (λ b. answer 0 b f2 left' bytes') (m.byte_is ∙ ap (λ x. get_or bytes x 0) e_is)
            ∙ ap (λ (l : List ℕ). answer 0 (get_or bytes (get_or f2.queue k 0) 0) f2 l bytes')
            (m.left_is ∙ ap (λ x. left_moved tops left x) e_is)
            ∙ ap (λ (l : List ℕ). answer 0 (get_or bytes (get_or f2.queue k 0) 0) f2 (left_moved tops left (get_or f2.queue k 0)) l)
            (m.bytes_is ∙ ap (λ x. bytes_moved left bytes x) e_is))
