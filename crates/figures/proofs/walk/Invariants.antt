-- `figures::walk` meets its contract: no more words agree than have come. Assumes nothing.
use Rattle.std.proofs.Common.{◌+◌, ◌≤◌, ◌<◌, length}
use Rattle.std.specs.Slice.Iter.{chunks_exact_rest, chunks_exact_size}
use Rattle.figures.proofs.walk.Given as goal

abbrev pub invariant-loop-word : goal.invariant-loop-word
invariant-loop-word l = record {
  pieces : 0 < chunks_exact_size l.word-iterator;
  other_pieces : 0 < chunks_exact_size l.others;
  settings : l.walked.settings + length (chunks_exact_rest l.word-iterator) ≤ length l.words;
  moves : l.walked.moves + length (chunks_exact_rest l.word-iterator) ≤ length l.words;
}
