-- `stretch::long_queue` meets its contract. Assumes nothing.
use Prim.Native.Nat.{ℕ, ◌-◌}
use mathlib.Core.Path.{◌≡◌, sym, ap, ◌∙◌}
use mathlib.Core.List.{List, ◌++◌}
use lib.ListN.{length, replicate}
use borrow.Author.Rules.{rules}
use Rattle.stretch.proofs.long_queue.Goals as goal
use Rattle.stretch.proofs.long_queue.Goals.{Start}

entries_long : (c : Start) → length c.args.entries ≡ 32
entries_long c = search rules

pub returns : goal.returns
returns c =
    ap (λ (l : List ℕ). l ++ replicate 1024 0) c.copy_from_slice.ensures.after
    ∙ ap (λ n. c.args.entries ++ replicate (1056 - n) 0) (sym (entries_long (goal.at.returns c).Start))
