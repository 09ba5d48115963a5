-- `walk::write_pages` meets its contract: a page's text is within the page. Assumes nothing.
use Rattle.std.proofs.Common.{arith, ◌≡◌, ◌≤◌, List, ℕ, length, sym, ap}
use Rattle.std.proofs.lemmas.List.{length-take-le}
use Rattle.pages.specs.declared.Printing.{Printing}
use Rattle.pages.specs.declared.Filled.{Filled}
use Rattle.pages.specs.Structs.{printing_as, filled_as}
use Rattle.pages_theory.specs.Pages as theory
use Rattle.pages_theory.specs.Pages.{filling}
use Rattle.pages_theory.proofs.PageLaws.{filling_fits}
use Rattle.walk.proofs.write_pages.Goals as goal

-- what a filling uses of a page is no more than the page
used_fits : (p : Printing) (old new : List ℕ) (filled : Filled)
    → filled_as filled new ≡ filling (printing_as p) old
    → length new ≡ length old
    → filled.used ≤ length new
used_fits p old new filled e same =
    let used = ap (λ (f : theory.Filled). f.used) e in
    omega (arith, used, filling_fits (printing_as p) old, same)

pub slice_bounds-write_all-end : goal.slice_bounds-write_all-end
slice_bounds-write_all-end g c =
    used_fits c.loop.printing c.loop.page _ c.fill-filled.result c.fill-filled.ensures c.fill-filled.auto.page

pub slice_bounds-write_all-end-in-loop : goal.slice_bounds-write_all-end-in-loop
slice_bounds-write_all-end-in-loop g c =
    sym
    (length-take-le _ _
    (used_fits c.loop.printing c.loop.page _ c.fill-filled.result c.fill-filled.ensures c.fill-filled.auto.page))
