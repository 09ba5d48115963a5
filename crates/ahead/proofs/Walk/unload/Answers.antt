-- `ahead::Walk::unload` meets its contract: each part is given back. Assumes nothing.
use mathlib.Core.Path.{◌≡◌}
use lib.ListN.{length}
use Rattle.gray_theory.specs.DirectedWords.{Rooms}
use Rattle.ahead_theory.specs.States.{Arrays}
use Rattle.ahead.specs.Structs.{walk_as}
use Rattle.ahead.proofs.Loads.{word_fits, unloaded_is}
use borrow.Author.Rules.{rules}
use Rattle.ahead.proofs.Walk.unload.Goals as goal
use Rattle.ahead.proofs.Walk.unload.Goals.{Start}

rooms : (c : Start) → Rooms (walk_as c.args.self).directed
rooms c = search rules

lengths : (c : Start) → Arrays (walk_as c.args.self)
lengths c = record { directed = rooms c; counter = search rules; queue = search rules }

queue_long : (c : Start) → length c.args.entries ≡ 32
queue_long c = search rules

pub word_back-requires : goal.word_back-requires
word_back-requires c =
    word_fits _ _ _ _ _ _ _ _ _ c.requires (lengths (goal.at.word_back-requires c).Start) (queue_long (goal.at.word_back-requires c).Start) _ c.from-count.ensures

pub returns : goal.returns
returns c =
    λ w s.
    unloaded_is _ _ _ _ _ _ _ _ _ c.requires (lengths (goal.at.returns c).Start) (queue_long (goal.at.returns c).Start) _ c.from-count.ensures w s _ _ _ c.word_back.ensures
    c.counter_back.ensures
