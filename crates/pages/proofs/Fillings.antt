-- Lines onto a page, one behind the other: what the loop of `fill` keeps, and what it comes to.
use Prim.Native.Nat.{ℕ, ◌+◌, ◌-◌, ◌≤◌, ◌<◌}
use native.Mathlib.Omega.{arith}
use native.Mathlib.Nat.{sub-zero}
use mathlib.Core.Path.{◌≡◌, refl, sym, ap, ap₂, ◌∙◌}
use mathlib.Core.Bool.{Bool, true, false}
use mathlib.Core.List.{List, [], ◌++◌, append_assoc, append-nil}
use borrow.Rule.Slice.PartMut.{mid_of, put_mid, put_same}
use lib.ListN.{length, take, drop, length-append, length-take, length-drop, take-append-drop, drop_of_length-le}
use lib.Seq.{take_all, take_at, drop_at, drop-drop, length-take-le}
use Rattle.gray_theory.specs.Answers.{Answer, given, refused, Wrote}
use Rattle.ahead_theory.specs.States.{setting}
use Rattle.text_theory.specs.Lines.{line_call}
use Rattle.text_theory.proofs.Fits.{LineWritten, line_written, line_refused}
use Rattle.pages_theory.specs.Pages.{Printing, text_of, is_last, behind, Page, joined, page_of, filling}
use Rattle.pages_theory.proofs.Lengths.{line_some}
use Rattle.pages_theory.proofs.PageLaws.{page_full, page_last, page_more}

-- ---- a line behind the first `used` bytes of a page
-- the part that is lent is all that is left
abbrev left : ℕ → List ℕ → List ℕ
left used page = mid_of used (length page - used) page

abbrev put : ℕ → List ℕ → List ℕ → List ℕ
put used page after = put_mid used (length page - used) page after

left_is : (used : ℕ) (page : List ℕ) → left used page ≡ drop used page
left_is used page = take_all (length page - used) (drop used page) (omega (arith, length-drop used page))

put_is : (used : ℕ) (page after : List ℕ) → put used page after ≡ take used page ++ after
put_is used page after =
    let short : length (drop used page) ≤ length page - used = omega (arith, length-drop used page) in
    let none : drop (length page - used) (drop used page) ≡ [] = drop_of_length-le (drop used page) short in
    ap (λ l. take used page ++ (after ++ l)) none ∙ ap (λ l. take used page ++ l) (append-nil after)

module _ (used : ℕ) (page text after : List ℕ) (k : ℕ) (within : used ≤ length page) (w : LineWritten text (left used page) after k) where
  so_much : used + k ≤ length page
  so_much =
      let long = w.long in
      let fits = w.fits in
      omega (arith, length-take (length page - used) (drop used page), length-drop used page)

  put_text : put used page after ≡ (take used page ++ text) ++ drop (used + k) page
  put_text =
      let rest : drop (length text) (left used page) ≡ drop (used + k) page =
      ap₂ (λ i l. drop i l) (sym w.long) (left_is used page) ∙ drop-drop k used page in
      put_is used page after
      ∙ ap (λ l. take used page ++ l) (w.leaves ∙ ap (λ l. text ++ l) rest)
      ∙ sym (append_assoc (take used page) text (drop (used + k) page))

  front_long : length (take used page ++ text) ≡ used + k
  front_long =
      let long = w.long in
      omega (arith, length-append (take used page) text, length-take-le used page within)

  put_front : take (used + k) (put used page after) ≡ take used page ++ text
  put_front = ap (take (used + k)) put_text ∙ take_at (take used page ++ text) (drop (used + k) page) (used + k) front_long

  put-past : drop (used + k) (put used page after) ≡ drop (used + k) page
  put-past = ap (drop (used + k)) put_text ∙ drop_at (take used page ++ text) (drop (used + k) page) (used + k) front_long

  put_long : length (put used page after) ≡ length page
  put_long =
      let enough = so_much in
      ap length put_text
      ∙ omega (arith, front_long, length-append (take used page ++ text) (drop (used + k) page), length-drop (used + k) page)

-- ---- the loop: the page holds the lines so far, what is past them is as it came, and the page that is owed is these lines and then
-- one of what is left
pub record FilledTo (p₀ : Printing) (page₀ : List ℕ) (p : Printing) (page : List ℕ) (used : ℕ) : Type 0 where
  pub within : used ≤ length page
  pub long : length page ≡ length page₀
  pub past : drop used page ≡ drop used page₀
  pub rest : page_of (length page₀) p₀ ≡ joined (take used page) (page_of (length page - used) p)

pub fill-begun : (p : Printing) (page : List ℕ) → FilledTo p page p page 0
fill-begun p page =
    record { within = omega arith; long = refl; past = refl; rest = ap (λ r. page_of r p) (sym (sub-zero (length page))) }

joined-twice : (a b : List ℕ) (page : Page) → joined (a ++ b) page ≡ joined a (joined b page)
joined-twice a b page = ap (λ t. record { text = t; rest = page.rest; last = page.last }) (append_assoc a b page.text)

-- what a page whose lines are known comes to
page_made : (p₀ p : Printing) (page₀ text : List ℕ) (used : ℕ) (last : Bool) → length text ≡ used
    → page_of (length page₀) p₀ ≡ record { text = text; rest = p; last = last }
    → filling p₀ page₀ ≡ record { rest = p; used = used; last = last; page = text ++ drop used page₀ }
unfolding filling
page_made p₀ p page₀ text used last long e =
    ap (λ (made : Page).
    record {
      rest = made.rest;
      used = length made.text;
      last = made.last;
      page = made.text ++ drop (length made.text) page₀;
    })
    e
    ∙ ap (λ n. record { rest = p; used = n; last = last; page = text ++ drop n page₀ }) long

module _ (p₀ p : Printing) (page₀ page : List ℕ) (used : ℕ) (f : FilledTo p₀ page₀ p page used) (answer : Answer ℕ) (after : List ℕ)
    (wrote : Wrote (line_call p.line (setting p.walk)) answer (left used page) after) where
  left_long : length (left used page) ≡ length page - used
  left_long = ap length (left_is used page) ∙ length-drop used page

  -- the next line does not fit
  pub fill-full : (k : ℕ) → answer ≡ refused k
      → record { rest = p; used = used; last = false; page = put used page after } ≡ filling p₀ page₀
  fill-full k e =
      let (short, same) = line_refused _ _ _ _ _ wrote k e in
      let made = f.rest ∙ ap (joined (take used page)) (page_full p (length page - used) (omega (arith, left_long))) in
      let text : take used page ++ [] ≡ take used page = append-nil (take used page) in
      let as_came : put used page after ≡ take used page ++ drop used page₀ =
      ap (put used page) same
      ∙ put_same used (length page - used) page
      ∙ sym (take-append-drop used page)
      ∙ ap (λ l. take used page ++ l) f.past in
      ap (λ l. record { rest = p; used = used; last = false; page = l }) as_came
      ∙ sym
      (page_made p₀ p page₀ (take used page) used false (length-take-le used page f.within)
      (made ∙ ap (λ l. record { text = l; rest = p; last = false }) text))

  module _ (k : ℕ) (e : answer ≡ given k) where
    w : LineWritten (text_of p) (left used page) after k
    w = line_written _ _ _ _ _ wrote k e

    fits : length (text_of p) ≤ length page - used
    fits =
        let room = w.fits in
        omega (arith, left_long)

    past₀ : drop (used + k) page ≡ drop (used + k) page₀
    past₀ = sym (drop-drop k used page) ∙ ap (drop k) f.past ∙ drop-drop k used page₀

    -- it fits and is the last
    pub fill_ended : is_last p.line ≡ true
        → record { rest = p; used = used + k; last = true; page = put used page after } ≡ filling p₀ page₀
    fill_ended last =
        let made = f.rest ∙ ap (joined (take used page)) (page_last p (length page - used) fits last) in
        let there : put used page after ≡ (take used page ++ text_of p) ++ drop (used + k) page₀ =
        put_text used page (text_of p) after k f.within w ∙ ap (λ l. (take used page ++ text_of p) ++ l) past₀ in
        ap (λ l. record { rest = p; used = used + k; last = true; page = l }) there
        ∙ sym
        (page_made p₀ p page₀ (take used page ++ text_of p) (used + k) true (front_long used page (text_of p) after k f.within w) made)

    -- it fits, and others come behind it
    pub fill_again : is_last p.line ≡ false → (q : Printing) → q ≡ behind p.line p.walk
        → FilledTo p₀ page₀ q (put used page after) (used + k)
    fill_again more q next =
        let long = put_long used page (text_of p) after k f.within w in
        let enough = so_much used page (text_of p) after k f.within w in
        let front = put_front used page (text_of p) after k f.within w in
        let made = f.rest ∙ ap (joined (take used page)) (page_more p (length page - used) fits more) in
        let same = w.long in
        let room : length page - used - length (text_of p) ≡ length (put used page after) - (used + k) = omega (arith, long) in
        record {
          within = omega (arith, long);
          long = long ∙ f.long;
          past = put-past used page (text_of p) after k f.within w ∙ past₀;
          rest =
              made
              ∙ sym (joined-twice (take used page) (text_of p) (page_of (length page - used - length (text_of p)) (behind p.line p.walk)))
              ∙ ap₂ (λ t r. joined t (page_of r (behind p.line p.walk))) (sym front) room
              ∙ ap (λ z. joined (take (used + k) (put used page after)) (page_of (length (put used page after) - (used + k)) z)) (sym next);
        }

    -- what is used is still within the page, and grows
    pub fill_within : used + k ≤ length page
    fill_within = so_much used page (text_of p) after k f.within w

    pub fill_grows : length page₀ - (used + k) < length page₀ - used
    fill_grows =
        let some = line_some p.line (setting p.walk) in
        let same = w.long in
        let within = fill_within in
        let all = f.long in
        omega arith
