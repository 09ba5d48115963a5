-- `reader::Reader::read` meets its contract: what is left to read is what follows the first i bytes. Assumes nothing.
use Prim.Native.Nat.{ℕ, suc, ◌+◌, ◌≤◌, ◌<◌}
use mathlib.Core.Path.{◌≡◌, sym, ap, ◌∙◌}
use mathlib.Core.List.{List}
use native.Mathlib.Numerals.{add-one}
use lib.ListN.{length, get_or, drop, drop_of_length-le}
use lib.Seq.{drop-cons}
use Rattle.reader.specs.Readers.{read_in, read}
use Rattle.reader.specs.declared.Reader.{Reader}
use Rattle.reader.proofs.Reader.read.Goals as goal

next : (r s : Reader) (bytes : List ℕ) (i : ℕ) → i < length bytes → s ≡ read_in r.phase r (get_or bytes i 0)
    → read r (drop i bytes) ≡ read s (drop (i + 1) bytes)
unfolding read
next r s bytes i h e =
    rw (add-one i) (ap (read r) (drop-cons bytes i 0 h) ∙ ap (λ q. read q (drop (suc i) bytes)) (sym e))

done : (r s : Reader) (bytes : List ℕ) (i : ℕ) → length bytes ≤ i → read r bytes ≡ read s (drop i bytes) → s ≡ read r bytes
unfolding read
done r s bytes i h e = sym (e ∙ ap (read s) (drop_of_length-le bytes h))

pub loop-byte-preserved : goal.loop-byte-preserved
loop-byte-preserved c =
    c.loop-byte.invariant ∙ next _ _ c.args.bytes.now c.loop-byte.byte-index c.loop-byte-test.true c.one-reader.ensures

pub returns : goal.returns
returns c =
    done _ _ c.args.bytes.now c.loop-byte.byte-index c.loop-byte-test.false c.loop-byte.invariant
