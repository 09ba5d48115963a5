-- The two calls undo one another: the rank of what `word` writes is the rank that it was given, and what `word` writes for the
-- rank of a setting is the setting.
use Rattle.std.specs.Prelude.{ℕ, ◌≤◌, ◌<◌, ◌≡◌, true, not, List, leb, ltb, length}
use Rattle.std.proofs.Common.{sym, ap, ◌∙◌, leb-false, le-ltb}
use Rattle.std.proofs.lemmas.List.{reverse-reverse}
use Rattle.std.proofs.lemmas.Bool.{lt-leb, not-false}
use Rattle.gray_theory.specs.Answers.{given, refusing, fitting}
use Rattle.gray_theory.specs.Radices.{digits, bytes, size}
use Rattle.gray_theory.specs.Words.{member, is_word, rank}
use Rattle.gray_theory.specs.Calls.{rank_call, word_call}
use Rattle.gray_theory.proofs.Ranks.{rank_of_member, member_of_rank}
use Rattle.gray_theory.proofs.Refusals.{given_same, passed, radices_passed, radices_accepted}

-- what `word` writes has the rank that `word` was given
pub rank_of_written : (l w : List ℕ) (r room : ℕ) → word_call l r room ≡ given w → rank_call l w ≡ given r
unfolding word_call rank_call
rank_of_written l w r room e =
    let ms = digits l in
    let (size_is, rest) = radices_passed l (refusing 8 (leb (size ms) r) (fitting room (bytes (member ms r)))) w e in
    let (below, fits) = passed 8 (leb (size ms) r) (fitting room (bytes (member ms r))) w rest in
    let (roomy, written) = passed 9 (ltb room (length (bytes (member ms r)))) (given (bytes (member ms r))) w fits in
    let same : bytes (member ms r) ≡ w = given_same (bytes (member ms r)) w written in
    let back : digits w ≡ member ms r = ap digits (sym same) ∙ reverse-reverse (member ms r) in
    let (one, at) = rank_of_member ms r (leb-false (size ms) r below) in
    radices_accepted l (size ms) (refusing 8 (not (is_word ms (digits w))) (given (rank ms (digits w)))) size_is
    ∙ rw (back, one) (ap given at)

-- what `word` writes for the rank of a setting is the setting
pub word_of_ranked : (l w : List ℕ) (r room : ℕ) → rank_call l w ≡ given r → length w ≤ room → word_call l r room ≡ given w
unfolding word_call rank_call
word_of_ranked l w r room e fits =
    let ms = digits l in
    let (size_is, rest) = radices_passed l (refusing 8 (not (is_word ms (digits w))) (given (rank ms (digits w)))) r e in
    let (fine, given-rank) = passed 8 (not (is_word ms (digits w))) (given (rank ms (digits w))) r rest in
    let one : is_word ms (digits w) ≡ true = not-false (is_word ms (digits w)) fine in
    let at : rank ms (digits w) ≡ r = given_same (rank ms (digits w)) r given-rank in
    let (below, back) = member_of_rank ms (digits w) one in
    let small : r < size ms = rw at at below in
    let same : bytes (member ms r) ≡ w = ap (λ k. bytes (member ms k)) (sym at) ∙ ap bytes back ∙ reverse-reverse w in
    radices_accepted l (size ms) (refusing 8 (leb (size ms) r) (fitting room (bytes (member ms r)))) size_is
    ∙ rw (lt-leb (size ms) r small, same, le-ltb room (length w) fits)
