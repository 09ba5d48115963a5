-- `ahead::work::shifted` meets its contract. Assumes nothing.
use native.Mathlib.Omega.{arith}
use mathlib.Core.Path.{◌≡◌, ap, ◌∙◌}
use mathlib.Core.List.{[], ◌∷◌, ◌++◌}
use borrow.Author.Rules.{rules}
use lib.ListN.{length, drop, length-drop}
use Rattle.std.proofs.lemmas.List.{take_all}
use Rattle.ahead.proofs.work.shifted.Goals as goal
use Rattle.ahead.proofs.work.shifted.Goals.{Start}

held : (c : Start) → length c.args.queue ≡ 32
held c = search rules

pub returns : goal.returns
returns c =
    let room = held (goal.at.returns c).Start in
    let long = length-drop 1 c.args.queue in
    ap (λ l. l ++ (0 ∷ [])) (c.copy_from_slice.ensures.after ∙ take_all 31 (drop 1 c.args.queue) (omega arith))
