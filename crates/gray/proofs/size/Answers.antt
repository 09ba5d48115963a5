-- `gray::size` meets its contract: each stage's test is the check of document 01 in its place. Assumes nothing.
use mathlib.Core.Path.{sym, ◌∙◌}
use Rattle.gray.proofs.Laws.{count_refused, radix_refused, zero_refused, size_refused, size_given}
use Rattle.gray.proofs.size.Goals as goal

pub returns-then-n : goal.returns-then-n
returns-then-n c = count_refused _ c.if-n.true

pub returns-then-none_zero : goal.returns-then-none_zero
returns-then-none_zero c =
    let told = c in
    let made = told in
    size_refused _ made.if-n.false _ made.product_of-whole.ensures told.in_default.is
    (sym c.none_zero.ensures ∙ c.if-none_zero.true)

pub returns-in_default : goal.returns-in_default
returns-in_default c =
    let made = c in
    radix_refused _ made.if-n.false (sym c.none_zero.ensures ∙ c.if-none_zero.false)

pub returns-then-total-eq0 : goal.returns-then-total-eq0
returns-then-total-eq0 c =
    let told = c in
    let made = told in
    zero_refused _ made.if-n.false _ made.product_of-whole.ensures _ told.in-Some.is c.if-total-eq0.true

pub returns : goal.returns
returns c =
    let told = c in
    let made = told in
    size_given _ made.if-n.false _ made.product_of-whole.ensures _ told.in-Some.is c.if-total-eq0.false
