-- `tides::calls::put_counts` meets its contract: behind i windows their counts are written. Assumes nothing.
use Prim.Native.Nat.{ℕ, ◌+◌, ◌*◌, ◌≤◌, ◌<◌}
use native.Mathlib.Omega.{arith}
use native.Mathlib.Nat.{add-zero}
use mathlib.Core.Path.{◌≡◌, refl, ap, ap₂, ◌∙◌}
use mathlib.Core.List.{[]}
use lib.ListN.{length, get_or, take, drop, length-set}
use Rattle.tides_theory.specs.Lines.{is_line}
use Rattle.tides_theory.specs.Windows.{moves_that_fit}
use Rattle.tides.specs.Stages.{tide_in}
use Rattle.tides.proofs.Cuts.{pairs_many, of_pair}
use Rattle.tides.proofs.Writing.{start, starts_at, put-none, Here, here, more_windows, put_more, put_all}
use Rattle.tides.proofs.calls.put_counts.Goals as goal
use Rattle.tides.proofs.calls.put_counts.Goals.{In-loop-i}

-- the next pair stands in the file: line j of it,
stand : (c : In-loop-i) (j place : ℕ) → j < 2 → place ≡ start c.args.file.now + 38 * c.loop-i.i + 19 * j
    → get_or (get_or c.as_chunks-2.result.0.now c.loop-i.i []) j [] ≡ take 19 (drop place c.args.file.now)
stand c j place two at =
    let many = pairs_many c.args.file.now _ _ _ c.as_chunks.ensures.front_len c.as_chunks-2.ensures.front_len in
    let begins = starts_at c.args.file.now _ _ c.first_high.ensures.found c.as_chunks.ensures.front in
    let more = c.loop-i-test.true in
    let here = c.as_chunks-2.ensures.front_len in
    of_pair c.args.file.now c.first_high.result c.loop-i.i j place c.as_chunks.result.0.now c.as_chunks-2.result.0.now
    c.as_chunks.ensures.front c.as_chunks-2.ensures.front (omega arith) (omega arith) two (omega arith)

-- and the whole of it
room : (c : In-loop-i) → start c.args.file.now + 38 * c.loop-i.i + 38 ≤ length c.args.file.now
room c =
    let many = pairs_many c.args.file.now _ _ _ c.as_chunks.ensures.front_len c.as_chunks-2.ensures.front_len in
    let begins = starts_at c.args.file.now _ _ c.first_high.ensures.found c.as_chunks.ensures.front in
    let more = c.loop-i-test.true in
    omega arith

pub loop-i-init : goal.loop-i-init
loop-i-init c = (rw add-zero (put-none c.args.file.now c.args.out.now c.requires.0), refl)

-- what they say
found : (c : In-loop-i) → Here c.args.file.now (start c.args.file.now + 38 * c.loop-i.i)
found c = here _ _ c.loop-i.out _ c.loop-i.i c.loop-i.invariant.0 (room c)

pub minute_of-requires : goal.minute_of-requires
minute_of-requires c =
    let at = (goal.at.minute_of-requires c).In-loop-i in
    ap is_line (stand at 0 (start c.args.file.now + 38 * c.loop-i.i) (omega arith) (omega arith)) ∙ (found at).high_line

pub minute_of-requires-in-loop-i : goal.minute_of-requires-in-loop-i
minute_of-requires-in-loop-i c =
    let at = (goal.at.minute_of-requires-in-loop-i c).In-loop-i in
    ap is_line (stand at 1 (start c.args.file.now + 38 * c.loop-i.i + 19) (omega arith) (omega arith)) ∙ (found at).low_line

pub moves-requires : goal.moves-requires
moves-requires c =
    let at = (goal.at.moves-requires c).In-loop-i in
    let h = found at in
    let high = h.high_bound in
    let low = h.low_bound in
    let first = c.minute_of.ensures ∙ ap (λ l. (tide_in l).at) (stand at 0 (start c.args.file.now + 38 * c.loop-i.i) (omega arith) (omega arith)) in
    let second = c.minute_of-in-loop-i.ensures ∙ ap (λ l. (tide_in l).at) (stand at 1 (start c.args.file.now + 38 * c.loop-i.i + 19) (omega arith) (omega arith)) in
    (omega arith, omega arith)

pub bounds-out-i : goal.bounds-out-i
bounds-out-i c =
    let at = (goal.at.bounds-out-i c).In-loop-i in
    let some = more_windows _ _ c.loop-i.out _ c.loop-i.i c.loop-i.invariant.0 (room at) in
    let room = c.requires.1 in
    let same = c.loop-i.invariant.1 in
    omega arith

pub loop-i-preserved : goal.loop-i-preserved
loop-i-preserved c =
    let at = (goal.at.loop-i-preserved c).In-loop-i in
    let some = more_windows _ _ c.loop-i.out _ c.loop-i.i c.loop-i.invariant.0 (room at) in
    let room_out = c.requires.1 in
    let first = c.minute_of.ensures ∙ ap (λ l. (tide_in l).at) (stand at 0 (start c.args.file.now + 38 * c.loop-i.i) (omega arith) (omega arith)) in
    let second = c.minute_of-in-loop-i.ensures ∙ ap (λ l. (tide_in l).at) (stand at 1 (start c.args.file.now + 38 * c.loop-i.i + 19) (omega arith) (omega arith)) in
    let moved = c.moves.ensures ∙ ap₂ (λ x y. moves_that_fit (record { from = x + 60; to = y })) first second in (
      put_more _ _ c.loop-i.out _ c.loop-i.i c.loop-i.invariant.0 (room at) _ c.moves.result (omega arith) (omega arith) moved,
      length-set c.loop-i.out c.loop-i.i c.moves.result ∙ c.loop-i.invariant.1,
    )

pub returns : goal.returns
returns c =
    let many = pairs_many c.args.file.now _ _ _ c.as_chunks.ensures.front_len c.as_chunks-2.ensures.front_len in
    let begins = starts_at c.args.file.now _ _ c.first_high.ensures.found c.as_chunks.ensures.front in
    let none = c.loop-i-test.false in
    let inside = c.first_high.ensures.inside.1 in
    let lines = c.as_chunks.ensures.front_len in
    put_all _ _ c.loop-i.out _ c.loop-i.i c.loop-i.invariant.0 (omega arith)
