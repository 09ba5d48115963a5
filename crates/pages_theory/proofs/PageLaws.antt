-- Pages one after the other: whole lines are put on a page while they fit, and the next page begins with the first that did
-- not.
use Prim.Native.Nat.{ℕ, zero, suc, ◌-◌, ◌≤◌, ◌<◌}
use Rattle.std.proofs.Common.{arith, sym, ap₂, ◌∙◌, subst, append_assoc, append-nil, lt-ltb, le-ltb}
use Rattle.std.proofs.Math.Decide.{dec_lt}
use Rattle.std.specs.Prelude.{◌≡◌, Bool, true, false, cond, List, [], ◌++◌, take, drop}
use Rattle.std.proofs.Math.Path.{refl, ap}
use Rattle.std.proofs.Math.ListN.{length, length-append, length-drop}
use Rattle.std.proofs.Math.Seq.{take_at}
use Rattle.gray_theory.specs.Bools.{impossible}
use Rattle.ahead_theory.specs.States.{Walk, setting}
use Rattle.text_theory.specs.declared.Line.{Line}
use Rattle.text_theory.specs.declared.Line.TheVariants.{Unread, Refused, Long, Sizes, Start, Moved, End}
use Rattle.pages_theory.specs.Pages.{Printing, text_of, is_last, behind, onward, HoldsLines, Page, full, joined, page_in, page_of, filling, written}
use Rattle.pages_theory.proofs.Lengths.{line_some}

-- what is printed from p on: k lines behind the one that comes next, the last of them a last line, none longer than `room`; and
-- their text
pub data Prints (room : ℕ) : ℕ → Printing → List ℕ → Type 0 where
  ends : {p : Printing} → is_last p.line ≡ true → length (text_of p) ≤ room → Prints room 0 p (text_of p)
  goes_on : {k : ℕ} {p : Printing} {text : List ℕ}
      → is_last p.line ≡ false
      → length (text_of p) ≤ room
      → Prints room k (behind p.line p.walk) text
      → Prints room (suc k) p (text_of p ++ text)

-- ---- how wide the lines are
-- it is printed in any room that holds its lines
pub prints_in : {most k room : ℕ} {p : Printing} {text : List ℕ} → Prints most k p text → HoldsLines room p → Prints room k p text
unfolding onward
prints_in (ends e short) holds = ends e (holds 0)
prints_in (goes_on e short more) holds = goes_on e (holds 0) (prints_in more (λ k. holds (suc k)))

-- behind a last line it stays
last_stays : (line : Line) (w : Walk) → is_last line ≡ true → behind line w ≡ record { line = line; walk = w }
last_stays Unread w e = refl
last_stays (Refused k) w e = refl
last_stays Long w e = refl
last_stays (Sizes n total) w e = impossible (cc)
last_stays Start w e = impossible (cc)
last_stays (Moved rank digit down) w e = impossible (cc)
last_stays (End last) w e = refl

last-onward : (k : ℕ) (p : Printing) → is_last p.line ≡ true → onward k p ≡ p
unfolding onward
last-onward zero p e = refl
last-onward (suc k) p e = ap (onward k) (last_stays p.line p.walk e) ∙ last-onward k p e

-- and none is longer than where it was seen to be printed
pub prints_hold : {most k : ℕ} {p : Printing} {text : List ℕ} → Prints most k p text → HoldsLines most p
unfolding onward
prints_hold (ends {p = p} e short) j = rw (last-onward j p e) short
prints_hold (goes_on e short more) zero = short
prints_hold (goes_on e short more) (suc j) = prints_hold more j

-- ---- one page
-- a page of that: all of it, or its first lines and fewer than `most` behind the next one
data Cut (room most : ℕ) (text : List ℕ) (page : Page) : Type 0 where
  whole : page.last ≡ true → page.text ≡ text → Cut room most text page
  part : {k : ℕ} {rest : List ℕ}
      → page.last ≡ false
      → k < most
      → Prints room k page.rest rest
      → page.text ++ rest ≡ text
      → Cut room most text page

cut_sooner : {room k l : ℕ} {text : List ℕ} {page : Page} → k ≤ l → Cut room k text page → Cut room l text page
cut_sooner h (whole e f) = whole e f
cut_sooner h (part {k = j} e few more f) = part {k = j} e (omega arith) more f

cut_same : {room k : ℕ} {text : List ℕ} {page other : Page} → other ≡ page → Cut room k text page → Cut room k text other
cut_same {room} {k} {text} e c = subst (λ (q : Page). Cut room k text q) (sym e) c

cut_joined : {room k : ℕ} {text : List ℕ} {page : Page} (line : List ℕ) → Cut room k text page → Cut room k (line ++ text) (joined line page)
cut_joined line (whole e f) = whole e (ap (λ t. line ++ t) f)
cut_joined {page = page} line (part {rest = rest} e few more f) =
    part e few more (append_assoc line page.text rest ∙ ap (λ t. line ++ t) f)

-- a line that fits is on it, and one that does not begins the next
pub line_too_long : (turns r : ℕ) (p : Printing) → r < length (text_of p) → page_in (suc turns) r p ≡ full p
unfolding page_in
line_too_long turns r p long = rw (lt-ltb r (length (text_of p)) long)

module _ (turns r : ℕ) (p : Printing) (fits : length (text_of p) ≤ r) where
  pub last_line : is_last p.line ≡ true → page_in (suc turns) r p ≡ record { text = text_of p; rest = p; last = true }
  unfolding page_in
  last_line e = rw (le-ltb r (length (text_of p)) fits, e)

  pub more_lines : is_last p.line ≡ false
      → page_in (suc turns) r p ≡ joined (text_of p) (page_in turns (r - length (text_of p)) (behind p.line p.walk))
  unfolding page_in
  more_lines e = rw (le-ltb r (length (text_of p)) fits, e)

module _ (room : ℕ) where
  -- how a page of so many turns is cut, wherever it begins
  Cuts : ℕ → Type 0
  Cuts turns = (r k : ℕ) (p : Printing) (text : List ℕ) → Prints room k p text → Cut room (suc k) text (page_in turns r p)

  cut_fits : (turns : ℕ) → Cuts turns → (r k : ℕ) (p : Printing) (text : List ℕ) → length (text_of p) ≤ r → Prints room k p text
      → Cut room k text (page_in (suc turns) r p)
  unfolding Cuts
  cut_fits turns later r k p text fits (ends e short) = cut_same (last_line turns r p fits e) (whole refl refl)
  cut_fits turns later r k p text fits (goes_on {k = l} {text = rest} e short more) =
      cut_same (more_lines turns r p fits e)
      (cut_joined (text_of p) (later (r - length (text_of p)) l (behind p.line p.walk) rest more))

  cut : (turns : ℕ) → Cuts turns
  unfolding Cuts page_in
  cut zero r k p text prints = part {k = k} refl (omega arith) prints refl
  cut (suc turns) r k p text prints =
      elim (dec_lt r (length (text_of p))) [
        | yes long ↦
            cut_same (line_too_long turns r p long)
            (part {k = k} refl (omega arith) prints refl)
        | no fits ↦ cut_sooner (omega arith) (cut_fits turns (cut turns) r k p text (omega arith) prints)
      ]

-- ---- all of them
-- the text of at most `turns` pages, one after the other, each of them into the same room
unfoldable pages_text : ℕ → ℕ → Printing → List ℕ
pages_text zero room p = []
pages_text (suc turns) room p =
    (page_of room p).text ++ cond (page_of room p).last [] (pages_text turns room (page_of room p).rest)

module _ (room : ℕ) where
  AllPrinted : ℕ → Type 0
  AllPrinted turns = (k : ℕ) (p : Printing) (text : List ℕ) → Prints (suc room) k p text → k < turns → pages_text turns (suc room) p ≡ text

-- so many pages as there are lines hold them all
pages_with : (room turns : ℕ) → AllPrinted room turns
    → (k : ℕ) (p : Printing) (text : List ℕ) → k ≤ turns → Cut (suc room) k text (page_of (suc room) p)
    → pages_text (suc turns) (suc room) p ≡ text
unfolding pages_text AllPrinted
pages_with room turns later k p text h (whole e f) =
    ap (λ b. (page_of (suc room) p).text ++ cond b [] (pages_text turns (suc room) (page_of (suc room) p).rest)) e
    ∙ append-nil (page_of (suc room) p).text
    ∙ f
pages_with room turns later k p text h (part {k = l} {rest = rest} e few more f) =
    ap (λ b. (page_of (suc room) p).text ++ cond b [] (pages_text turns (suc room) (page_of (suc room) p).rest)) e
    ∙ ap (λ t. (page_of (suc room) p).text ++ t) (later l (page_of (suc room) p).rest rest more (omega arith))
    ∙ f

pages_printed : (room turns : ℕ) → AllPrinted room turns
unfolding AllPrinted onward
pages_printed room zero k p text prints h = absurd (omega arith)
pages_printed room (suc turns) k p text prints h =
    pages_with room turns (pages_printed room turns) k p text (omega arith)
    (cut_fits (suc room) room (cut (suc room) room) (suc room) k p text (prints_hold prints 0) prints)

pages_print_the_lines : (room turns k : ℕ) (p : Printing) (text : List ℕ) → 0 < room → Prints room k p text → k < turns
    → pages_text turns room p ≡ text
unfolding AllPrinted
pages_print_the_lines zero turns k p text some prints h = absurd (omega arith)
pages_print_the_lines (suc room) turns k p text some prints h = pages_printed room turns k p text prints h

-- ---- a page without its turns: every line has a byte at least, so that there are always enough
SamePage : ℕ → Type 0
SamePage t = (u r : ℕ) (p : Printing) → r ≤ t → r ≤ u → page_in t r p ≡ page_in u r p

same_more : (b : Bool) (t u r : ℕ) (p : Printing) → SamePage t → is_last p.line ≡ b → length (text_of p) ≤ r → r ≤ suc t → r ≤ suc u
    → page_in (suc t) r p ≡ page_in (suc u) r p
unfolding SamePage
same_more true t u r p later e fits h i = last_line t r p fits e ∙ sym (last_line u r p fits e)
same_more false t u r p later e fits h i =
    let some = line_some p.line (setting p.walk) in
    more_lines t r p fits e
    ∙ ap (joined (text_of p)) (later u (r - length (text_of p)) (behind p.line p.walk) (omega arith) (omega arith))
    ∙ sym (more_lines u r p fits e)

-- no room, no line
no_room : (u : ℕ) (p : Printing) → full p ≡ page_in u 0 p
unfolding page_in
no_room zero p = refl
no_room (suc u) p = sym (line_too_long u 0 p (line_some p.line (setting p.walk)))

same_page : (t : ℕ) → SamePage t
unfolding SamePage page_in
same_page zero u r p h i =
    let none : r ≡ 0 = omega arith in
    no_room u p ∙ ap (λ k. page_in u k p) (sym none)
same_page (suc t) zero r p h i =
    let none : r ≡ 0 = omega arith in
    ap (λ k. page_in (suc t) k p) none ∙ sym (no_room (suc t) p)
same_page (suc t) (suc u) r p h i =
    elim (dec_lt r (length (text_of p))) [
      | yes long ↦ line_too_long t r p long ∙ sym (line_too_long u r p long)
      | no fits ↦ same_more (is_last p.line) t u r p (same_page t) refl (omega arith) h i
    ]

module _ (p : Printing) where
  -- a line that does not fit
  pub page_full : (r : ℕ) → r < length (text_of p) → page_of r p ≡ full p
  unfolding SamePage
  page_full r long = same_page r (suc r) r p (omega arith) (omega arith) ∙ line_too_long r r p long

  -- one that fits and is the last
  pub page_last : (r : ℕ) → length (text_of p) ≤ r → is_last p.line ≡ true → page_of r p ≡ record { text = text_of p; rest = p; last = true }
  unfolding SamePage
  page_last r fits e = same_page r (suc r) r p (omega arith) (omega arith) ∙ last_line r r p fits e

  -- and one that others come behind
  pub page_more : (r : ℕ) → length (text_of p) ≤ r → is_last p.line ≡ false
      → page_of r p ≡ joined (text_of p) (page_of (r - length (text_of p)) (behind p.line p.walk))
  unfolding SamePage
  page_more r fits e =
      let rest = r - length (text_of p) in
      same_page r (suc r) r p (omega arith) (omega arith)
      ∙ more_lines r r p fits e
      ∙ ap (joined (text_of p)) (same_page r rest rest (behind p.line p.walk) (omega arith) (omega arith))

-- ---- a page is never longer than its room
FitsIn : ℕ → Type 0
FitsIn turns = (r : ℕ) (p : Printing) → length (page_in turns r p).text ≤ r

fits_more : (b : Bool) (turns r : ℕ) (p : Printing) → FitsIn turns → is_last p.line ≡ b → length (text_of p) ≤ r
    → length (page_in (suc turns) r p).text ≤ r
unfolding FitsIn
fits_more true turns r p later e fits = rw (last_line turns r p fits e) fits
fits_more false turns r p later e fits =
    let rest = page_in turns (r - length (text_of p)) (behind p.line p.walk) in
    rw (more_lines turns r p fits e)
    (omega (arith, length-append (text_of p) rest.text, later (r - length (text_of p)) (behind p.line p.walk)))

page_fits : (turns : ℕ) → FitsIn turns
unfolding FitsIn page_in
page_fits zero r p = omega arith
page_fits (suc turns) r p =
    elim (dec_lt r (length (text_of p))) [
      | yes long ↦ rw (line_too_long turns r p long) (omega arith)
      | no fits ↦ fits_more (is_last p.line) turns r p (page_fits turns) refl (omega arith)
    ]

pub filling_fits : (p : Printing) (page : List ℕ) → (filling p page).used ≤ length page
unfolding filling FitsIn
filling_fits p page = page_fits (length page) (length page) p

-- ---- what is written is the text of the pages
module _ (p : Printing) (page : List ℕ) where
  -- the bytes that are used are the page's text
  used_text : take (filling p page).used (filling p page).page ≡ (page_of (length page) p).text
  unfolding filling
  used_text =
      let text = (page_of (length page) p).text in
      take_at text (drop (length text) page) (length text) refl

  -- the page stays as long as it is
  same_room : length (filling p page).page ≡ length page
  unfolding filling
  same_room =
      let text = (page_of (length page) p).text in
      omega (arith, filling_fits p page, length-append text (drop (length text) page), length-drop (length text) page)

written_pages : (turns : ℕ) (p : Printing) (page : List ℕ) → written turns p page ≡ pages_text turns (length page) p
unfolding written pages_text filling
written_pages zero p page = refl
written_pages (suc turns) p page =
    let f = filling p page in
    ap₂ (λ t rest. t ++ cond f.last [] rest) (used_text p page)
    (written_pages turns f.rest f.page ∙ ap (λ room. pages_text turns room f.rest) (same_room p page))

pub written_lines : (turns k : ℕ) (p : Printing) (text page : List ℕ) → 0 < length page → Prints (length page) k p text → k < turns
    → written turns p page ≡ text
written_lines turns k p text page some prints h =
    written_pages turns p page ∙ pages_print_the_lines (length page) turns k p text some prints h
