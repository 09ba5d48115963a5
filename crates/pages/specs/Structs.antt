-- The structs as the theory's records, field by field.
use Rattle.std.specs.Prelude.{ℕ, List}
use Rattle.ahead.specs.Structs.{walk_as}
use Rattle.pages_theory.specs.Pages as theory
use Rattle.pages.specs.declared.Printing.{Printing}
use Rattle.pages.specs.declared.Filled.{Filled}

abbrev pub printing_as : Printing → theory.Printing
printing_as p = record { line = p.line; walk = walk_as p.walk }

-- what the filling of a page hands back, with the page as it leaves it
abbrev pub filled_as : Filled → List ℕ → theory.Filled
filled_as r page = record { rest = printing_as r.rest; used = r.used; last = r.last; page = page }
