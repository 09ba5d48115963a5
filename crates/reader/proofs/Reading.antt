-- The reader, byte by byte and part by part, comes to what document 01 says of the whole input.
use Rattle.std.specs.Prelude.{ℕ, suc, ◌+◌, ◌≤◌, ◌<◌, min, ◌≡◌, refl, Bool, true, false, ◌&&◌, List, [], ◌∷◌, ◌++◌, map, eqb, length, take, set}
use Rattle.std.proofs.Common.{arith, add-one, sym, subst, ◌∙◌, append_assoc, append-nil, eq-eqb, ne_eqb, lt-ltb, le-ltb, eqb-true, length-append, length-set, take_all, take-suc-set}
use Rattle.std.proofs.Math.Decide.{dec_lt}
use Rattle.std.proofs.Math.Path.{ap}
use Rattle.std.proofs.Math.Bool.{cond, and-false}
use Rattle.std.proofs.lemmas.Bool.{lt-leb}
use Rattle.std.proofs.lemmas.List.{take-append-le}
use Rattle.gray_theory.specs.Bools.{impossible}
use Rattle.text_theory.specs.Decimals.{value}
use Rattle.text_theory.specs.Surveys.{Input, counts, unread, newline, space, first_line, has_newline, joined_to, fields, is_count, all_counts, line_as, input_as}
use Rattle.reader.specs.Readers.{fresh_reader, field_of, in_phase, byte_kept, byte_read, count_kept, field_read, line_read, more_read, read_in, read, found_in, input_in, reader_input, up_to49}
use Rattle.reader.specs.declared.Phase.{Phase}
use Rattle.reader.specs.declared.Phase.TheVariants.{More, Ended, Unread}
use Rattle.reader.specs.declared.Reader.{Reader}
use Rattle.reader.specs.declared.Found.TheVariants.{More as FoundMore, Counts}

-- an input that comes in two parts is read as one
pub parts_read_as_one : (r : Reader) (a b : List ℕ) → read (read r a) b ≡ read r (a ++ b)
unfolding read
parts_read_as_one r [] b = refl
parts_read_as_one r (x ∷ a) b = parts_read_as_one (read_in r.phase r x) a b

-- once a byte changes nothing, no later one does
stays : (r : Reader) (input : List ℕ) → ((b : ℕ) → read_in r.phase r b ≡ r) → read r input ≡ r
unfolding read
stays r [] h = refl
stays r (b ∷ input) h = ap (λ q. read q input) (h b) ∙ stays r input h

-- What has ended, or cannot be read, is not changed by any byte more: there is no need to read on.
pub read_no_further : (r : Reader) (input : List ℕ) → (found_in r.phase r.kept ≡ FoundMore → ⊥) → read r input ≡ r
read_no_further r input done = by r.phase refl
  where
    by : (p : Phase) → r.phase ≡ p → read r input ≡ r
    by More e = absurd (done (ap (λ p. found_in p r.kept) e))
    by Ended e = stays r input (λ b. ap (λ p. read_in p r b) e)
    by Unread e = stays r input (λ b. ap (λ p. read_in p r b) e)

-- ---- what is still to come
-- a field that has begun, and the fields of the rest of its line
abbrev front : List ℕ → List (List ℕ) → List (List ℕ)
front f [] = f ∷ []
front f (g ∷ gs) = (f ++ g) ∷ gs

abbrev none : List ℕ → Bool
none [] = true
none (x ∷ l) = false

abbrev answer : Bool → Bool → Bool → List ℕ → Input
answer ends silent all cs = cond ends (cond silent (counts []) (cond all (counts cs) unread)) unread

-- what the rest of the input says behind the counts cs and the bytes f of a field
abbrev says : List ℕ → List ℕ → List ℕ → Input
says cs f rest =
    answer (has_newline rest)
    (none cs && none f && none (first_line rest))
    (all_counts (front f (fields (first_line rest))))
    (cs ++ map value (front f (fields (first_line rest))))

-- ---- the fields of a line with a byte more
front_nothing : (t : Bool) (b : ℕ) (gs : List (List ℕ)) → front [] (cond t ([] ∷ gs) (joined_to b gs)) ≡ cond t ([] ∷ gs) (joined_to b gs)
front_nothing true b gs = refl
front_nothing false b [] = refl
front_nothing false b (g ∷ gs) = refl

no_field : (l : List ℕ) → front [] (fields l) ≡ fields l
unfolding fields
no_field [] = refl
no_field (b ∷ l) = front_nothing (eqb b space) b (fields l)

front_byte : (f : List ℕ) (b : ℕ) (gs : List (List ℕ)) → front f (joined_to b gs) ≡ front (f ++ (b ∷ [])) gs
front_byte f b [] = refl
front_byte f b (g ∷ gs) = ap (λ h. h ∷ gs) (sym (append_assoc f (b ∷ []) g))

-- a field of four bytes is no count
long_field : (f : List ℕ) → 3 < length f → is_count f ≡ false
unfolding is_count
long_field f h = rw (lt-leb (length f) 3 h) refl

long_front : (f : List ℕ) (b : ℕ) (gs : List (List ℕ)) → 3 ≤ length f → all_counts (front f (joined_to b gs)) ≡ false
unfolding all_counts
long_front f b [] h = rw (long_field (f ++ (b ∷ [])) (omega (arith, length-append f (b ∷ [])))) refl
long_front f b (g ∷ gs) h = rw (long_field (f ++ (b ∷ g)) (omega (arith, length-append f (b ∷ g)))) refl

-- ---- at the start it says what document 01 says of the input
line_all : (l : List ℕ)
    → cond (none l) (counts []) (cond (all_counts (front [] (fields l))) (counts (map value (front [] (fields l)))) unread) ≡ line_as l
unfolding line_as
line_all [] = refl
line_all (b ∷ l) =
    ap (λ gs. cond (all_counts gs) (counts (map value gs)) unread) (no_field (b ∷ l))

says_all : (input : List ℕ) → says [] [] input ≡ input_as input
unfolding input_as
says_all input = ap (λ i. cond (has_newline input) i unread) (line_all (first_line input))

-- ---- the reader behind counts and a part of a field
pub record Holds (cs f : List ℕ) (r : Reader) : Type 0 where
  pub goes_on : r.phase ≡ More
  pub keeps : r.kept ≡ min (length cs) 49
  pub first_counts : take r.kept r.counts ≡ take 49 cs
  pub counts_room : length r.counts ≡ 49
  pub bytes : r.digits ≡ length f
  pub has_field : field_of r ≡ f
  pub short : length f ≤ 3
  pub field_room : length r.field ≡ 3

holds_none : Holds [] [] fresh_reader
holds_none = record {
  goes_on = refl;
  keeps = refl;
  first_counts = refl;
  counts_room = refl;
  bytes = refl;
  has_field = refl;
  short = omega arith;
  field_room = refl;
}

-- one byte more in the field
holds_byte : (cs f : List ℕ) (r : Reader) (b : ℕ) → Holds cs f r → length f < 3 → Holds cs (f ++ (b ∷ [])) (byte_kept r b)
holds_byte cs f r b h few =
    let d = r.digits in
    let same = h.bytes in
    let all = h.field_room in
    let here : min d 3 ≡ d = omega arith in
    let next : min (d + 1) 3 ≡ suc d = omega arith in
    let before : take d r.field ≡ f = ap (λ k. take k r.field) (sym here) ∙ h.has_field in
    let long = length-append f (b ∷ []) in
    record {
      goes_on = h.goes_on;
      keeps = h.keeps;
      first_counts = h.first_counts;
      counts_room = h.counts_room;
      bytes = omega arith;
      has_field =
          ap (λ k. take k (set r.field d b)) next
          ∙ take-suc-set r.field d b (omega arith)
          ∙ ap (λ l. l ++ (b ∷ [])) before;
      short = omega arith;
      field_room = length-set r.field d b ∙ all;
    }

-- one count more
abbrev holding : List ℕ → ℕ → Reader → Reader
holding kept-counts n r = record { counts = kept-counts; kept = n; field = r.field; digits = 0; phase = More }

holds_count_few : (cs f : List ℕ) (r : Reader) (m : ℕ) → Holds cs f r → length cs < 49
    → Holds (cs ++ (m ∷ [])) [] (holding (set r.counts r.kept m) (r.kept + 1) r)
holds_count_few cs f r m h few =
    let k = r.kept in
    let same = h.keeps in
    let room = h.counts_room in
    let long = length-append cs (m ∷ []) in
    let next : k + 1 ≡ suc k = add-one k in
    record {
      goes_on = refl;
      keeps = omega arith;
      first_counts =
          ap (λ n. take n (set r.counts k m)) next
          ∙ take-suc-set r.counts k m (omega arith)
          ∙ ap (λ l. l ++ (m ∷ [])) (h.first_counts ∙ take_all 49 cs (omega arith))
          ∙ sym (take_all 49 (cs ++ (m ∷ [])) (omega arith));
      counts_room = length-set r.counts k m ∙ room;
      bytes = refl;
      has_field = refl;
      short = omega arith;
      field_room = h.field_room;
    }

holds_count_many : (cs f : List ℕ) (r : Reader) (m : ℕ) → Holds cs f r → 49 ≤ length cs
    → Holds (cs ++ (m ∷ [])) [] (holding r.counts r.kept r)
holds_count_many cs f r m h many =
    let same = h.keeps in
    let long = length-append cs (m ∷ []) in
    record {
      goes_on = refl;
      keeps = omega arith;
      first_counts = h.first_counts ∙ sym (take-append-le 49 cs (m ∷ []) many);
      counts_room = h.counts_room;
      bytes = refl;
      has_field = refl;
      short = omega arith;
      field_room = h.field_room;
    }

holds_count : (cs f : List ℕ) (r : Reader) (m : ℕ) → Holds cs f r → Holds (cs ++ (m ∷ [])) [] (count_kept r m More)
holds_count cs f r m h =
    let same = h.keeps in
    let k = r.kept in
    elim (dec_lt (length cs) 49) [
      | yes few ↦
          subst (λ (q : Reader). Holds (cs ++ (m ∷ [])) [] q)
          (sym (ap (λ t. holding (cond t (set r.counts k m) r.counts) (cond t (k + 1) k) r) (lt-ltb k 49 (omega arith))))
          (holds_count_few cs f r m h few)
      | no many ↦
          subst (λ (q : Reader). Holds (cs ++ (m ∷ [])) [] q)
          (sym (ap (λ t. holding (cond t (set r.counts k m) r.counts) (cond t (k + 1) k) r) (le-ltb k 49 (omega arith))))
          (holds_count_many cs f r m h (omega arith))
    ]

-- ---- one step of each kind
-- a field that ends is a count or it is not
module _ (cs f : List ℕ) (r : Reader) (h : Holds cs f r) where
  field_yes : (next : Phase) → is_count f ≡ true → field_read r next ≡ count_kept r (value f) next
  unfolding field_read
  field_yes next e =
      ap (λ g. cond (is_count g) (count_kept r (value g) next) (in_phase Unread r)) h.has_field
      ∙ ap (λ t. cond t (count_kept r (value f) next) (in_phase Unread r)) e

  field_no : (next : Phase) → is_count f ≡ false → field_read r next ≡ in_phase Unread r
  unfolding field_read
  field_no next e =
      ap (λ g. cond (is_count g) (count_kept r (value g) next) (in_phase Unread r)) h.has_field
      ∙ ap (λ t. cond t (count_kept r (value f) next) (in_phase Unread r)) e

  -- what has been read once the line ends with this field
  last_count : reader_input (count_kept r (value f) Ended) ≡ up_to49 (counts (cs ++ (value f ∷ [])))
  last_count =
      let g = holds_count cs f r (value f) h in
      let q = count_kept r (value f) More in
      let same = g.keeps in
      let few : min q.kept 49 ≡ q.kept = omega arith in
      ap (λ n. counts (take n q.counts)) few ∙ ap counts g.first_counts

-- the rest of the input plays no part then
unread_stays : (r : Reader) (rest : List ℕ) → read (in_phase Unread r) rest ≡ in_phase Unread r
unread_stays r rest = stays (in_phase Unread r) rest (λ b. refl)

-- nothing but an answer that cannot be read comes of a field that is no count
no_answer : (ends : Bool) (cs : List ℕ) → up_to49 (answer ends false false cs) ≡ unread
no_answer true cs = refl
no_answer false cs = refl

-- ---- a newline
ends_with : (t : Bool) (rest cs f : List ℕ) (r : Reader) → Holds cs f r → is_count f ≡ t
    → reader_input (read (field_read r Ended) rest) ≡ up_to49 (cond (t && true) (counts (cs ++ (value f ∷ []))) unread)
ends_with true rest cs f r h e =
    ap (λ q. reader_input (read q rest)) (field_yes cs f r h Ended e)
    ∙ ap reader_input (stays (count_kept r (value f) Ended) rest (λ b. refl))
    ∙ last_count cs f r h
ends_with false rest cs f r h e =
    ap (λ q. reader_input (read q rest)) (field_no cs f r h Ended e) ∙ ap reader_input (unread_stays r rest)

-- a line of which something has come
ends_some : (rest cs f : List ℕ) (r : Reader) → Holds cs f r → (none cs && none f) ≡ false
    → (eqb r.digits 0 && eqb r.kept 0) ≡ false
    → reader_input (read (more_read r 10) rest) ≡ up_to49 (says cs f (10 ∷ rest))
unfolding more_read line_read has_newline first_line fields all_counts
ends_some rest cs f r h some e =
    ap (λ t. reader_input (read (cond t (in_phase Ended r) (field_read r Ended)) rest)) e
    ∙ ends_with (is_count f) rest cs f r h refl
    ∙ ap (λ g. up_to49 (cond (is_count g && true) (counts (cs ++ (value g ∷ []))) unread)) (sym (append-nil f))
    ∙ ap (λ t. up_to49 (cond (t && true) (counts []) (cond (is_count (f ++ []) && true) (counts (cs ++ (value (f ++ []) ∷ []))) unread))) (sym some)

-- one of which nothing has come
ends-none : (rest : List ℕ) (r : Reader) → Holds [] [] r → reader_input (read (more_read r 10) rest) ≡ up_to49 (says [] [] (10 ∷ rest))
unfolding more_read line_read has_newline first_line
ends-none rest r h =
    let kept-none = h.keeps in
    let none_yet : (eqb r.digits 0 && eqb r.kept 0) ≡ true =
    ap (λ t. t && eqb r.kept 0) (eq-eqb r.digits 0 h.bytes) ∙ eq-eqb r.kept 0 kept-none in
    ap (λ t. reader_input (read (cond t (in_phase Ended r) (field_read r Ended)) rest)) none_yet
    ∙ ap reader_input (stays (in_phase Ended r) rest (λ b. refl))
    ∙ ap (λ k. counts (take (min k 49) r.counts)) kept-none

at_newline : (rest cs f : List ℕ) (r : Reader) → Holds cs f r → reader_input (read (more_read r 10) rest) ≡ up_to49 (says cs f (10 ∷ rest))
at_newline rest [] [] r h = ends-none rest r h
at_newline rest [] (a ∷ f) r h =
    let same = h.bytes in
    let more : eqb r.digits 0 ≡ false = ne_eqb r.digits 0 (λ z. omega arith) in
    ends_some rest [] (a ∷ f) r h refl (ap (λ t. t && eqb r.kept 0) more)
at_newline rest (c ∷ cs) f r h =
    let same = h.keeps in
    let more : eqb r.kept 0 ≡ false = ne_eqb r.kept 0 (λ z. omega arith) in
    ends_some rest (c ∷ cs) f r h refl (ap (λ t. eqb r.digits 0 && t) more ∙ and-false (eqb r.digits 0))

-- ---- a space, and any other byte, if the rest of the input is read as it should be
Read : List ℕ → Type 0
Read rest = (cs f : List ℕ) (r : Reader) → Holds cs f r → reader_input (read r rest) ≡ up_to49 (says cs f rest)

some_counts : (cs : List ℕ) (m : ℕ) → none (cs ++ (m ∷ [])) ≡ false
some_counts [] m = refl
some_counts (c ∷ cs) m = refl

-- the counts and the field of a space in front of the rest
space-says : (t : Bool) (rest cs f : List ℕ) → is_count f ≡ t
    → says cs f (32 ∷ rest)
    ≡ answer (has_newline rest) false (t && all_counts (fields (first_line rest)))
    (cs ++ (value f ∷ map value (fields (first_line rest))))
unfolding has_newline first_line fields all_counts
space-says t rest cs f e =
    let gs = fields (first_line rest) in
    ap (λ s. answer (has_newline rest) s (is_count (f ++ []) && all_counts gs) (cs ++ (value (f ++ []) ∷ map value gs)))
    (and-false (none cs && none f))
    ∙ ap (λ g. answer (has_newline rest) false (is_count g && all_counts gs) (cs ++ (value g ∷ map value gs))) (append-nil f)
    ∙ ap (λ t. answer (has_newline rest) false (t && all_counts gs) (cs ++ (value f ∷ map value gs))) e

-- behind one count more
next_says : (rest cs : List ℕ) (m : ℕ)
    → says (cs ++ (m ∷ [])) [] rest
    ≡ answer (has_newline rest) false (all_counts (fields (first_line rest))) (cs ++ (m ∷ map value (fields (first_line rest))))
next_says rest cs m =
    let gs = fields (first_line rest) in
    ap (λ s. answer (has_newline rest) (s && true && none (first_line rest)) (all_counts (front [] gs))
    ((cs ++ (m ∷ [])) ++ map value (front [] gs))) (some_counts cs m)
    ∙ ap (λ hs. answer (has_newline rest) false (all_counts hs) ((cs ++ (m ∷ [])) ++ map value hs)) (no_field (first_line rest))
    ∙ ap (λ l. answer (has_newline rest) false (all_counts gs) l) (append_assoc cs (m ∷ []) (map value gs))

space_with : (t : Bool) (rest : List ℕ) → Read rest → (cs f : List ℕ) (r : Reader) → Holds cs f r → is_count f ≡ t
    → reader_input (read (field_read r More) rest) ≡ up_to49 (says cs f (32 ∷ rest))
unfolding Read
space_with true rest ih cs f r h e =
    ap (λ q. reader_input (read q rest)) (field_yes cs f r h More e)
    ∙ ih (cs ++ (value f ∷ [])) [] (count_kept r (value f) More) (holds_count cs f r (value f) h)
    ∙ ap up_to49 (next_says rest cs (value f) ∙ sym (space-says true rest cs f e))
space_with false rest ih cs f r h e =
    ap (λ q. reader_input (read q rest)) (field_no cs f r h More e)
    ∙ ap reader_input (unread_stays r rest)
    ∙ sym (no_answer (has_newline rest) (cs ++ (value f ∷ map value (fields (first_line rest)))))
    ∙ ap up_to49 (sym (space-says false rest cs f e))

at_space : (rest : List ℕ) → Read rest → (cs f : List ℕ) (r : Reader) → Holds cs f r
    → reader_input (read (more_read r 32) rest) ≡ up_to49 (says cs f (32 ∷ rest))
unfolding more_read
at_space rest ih cs f r h = space_with (is_count f) rest ih cs f r h refl

-- another byte in front of the rest
byte_says : (b : ℕ) (rest cs f : List ℕ) → eqb b newline ≡ false → eqb b space ≡ false
    → says cs f (b ∷ rest)
    ≡ answer (has_newline rest) false (all_counts (front f (joined_to b (fields (first_line rest)))))
    (cs ++ map value (front f (joined_to b (fields (first_line rest)))))
unfolding has_newline first_line fields
byte_says b rest cs f n s = rw (n, s, and-false (none cs && none f)) refl

some_bytes : (f : List ℕ) (b : ℕ) → none (f ++ (b ∷ [])) ≡ false
some_bytes [] b = refl
some_bytes (a ∷ f) b = refl

-- behind one byte more of the field
more_says : (b : ℕ) (rest cs f : List ℕ)
    → says cs (f ++ (b ∷ [])) rest
    ≡ answer (has_newline rest) false (all_counts (front f (joined_to b (fields (first_line rest)))))
    (cs ++ map value (front f (joined_to b (fields (first_line rest)))))
more_says b rest cs f =
    let gs = fields (first_line rest) in
    let g = f ++ (b ∷ []) in
    ap (λ s. answer (has_newline rest) (none cs && s && none (first_line rest)) (all_counts (front g gs)) (cs ++ map value (front g gs)))
    (some_bytes f b)
    ∙ ap (λ s. answer (has_newline rest) (s && none (first_line rest)) (all_counts (front g gs)) (cs ++ map value (front g gs)))
    (and-false (none cs))
    ∙ ap (λ hs. answer (has_newline rest) false (all_counts hs) (cs ++ map value hs)) (sym (front_byte f b gs))

at_byte : (b : ℕ) (rest : List ℕ) → Read rest → (cs f : List ℕ) (r : Reader) → Holds cs f r → eqb b newline ≡ false → eqb b space ≡ false
    → reader_input (read (more_read r b) rest) ≡ up_to49 (says cs f (b ∷ rest))
unfolding more_read byte_read Read
at_byte b rest ih cs f r h n s =
    let same = h.bytes in
    let gs = fields (first_line rest) in
    let there : more_read r b ≡ byte_read r b = rw (n, s) refl in
    elim (dec_lt (length f) 3) [
      | yes few ↦
          ap (λ q. reader_input (read q rest))
          (there ∙ ap (λ t. cond t (byte_kept r b) (in_phase Unread r)) (lt-ltb r.digits 3 (omega arith)))
          ∙ ih cs (f ++ (b ∷ [])) (byte_kept r b) (holds_byte cs f r b h few)
          ∙ ap up_to49 (more_says b rest cs f ∙ sym (byte_says b rest cs f n s))
      | no full ↦
          ap (λ q. reader_input (read q rest))
          (there ∙ ap (λ t. cond t (byte_kept r b) (in_phase Unread r)) (le-ltb r.digits 3 (omega arith)))
          ∙ ap reader_input (unread_stays r rest)
          ∙ sym (no_answer (has_newline rest) (cs ++ map value (front f (joined_to b gs))))
          ∙ ap (λ t. up_to49 (answer (has_newline rest) false t (cs ++ map value (front f (joined_to b gs)))))
          (sym (long_front f b gs (omega arith)))
          ∙ ap up_to49 (sym (byte_says b rest cs f n s))
    ]

-- ---- the whole input
by_byte : (n s : Bool) (b : ℕ) (rest : List ℕ) → Read rest → (cs f : List ℕ) (r : Reader) → Holds cs f r → eqb b newline ≡ n → eqb b space ≡ s
    → reader_input (read (more_read r b) rest) ≡ up_to49 (says cs f (b ∷ rest))
by_byte true s b rest ih cs f r h e k =
    subst (λ (x : ℕ). reader_input (read (more_read r x) rest) ≡ up_to49 (says cs f (x ∷ rest))) (sym (eqb-true b 10 e))
    (at_newline rest cs f r h)
by_byte false true b rest ih cs f r h e k =
    subst (λ (x : ℕ). reader_input (read (more_read r x) rest) ≡ up_to49 (says cs f (x ∷ rest))) (sym (eqb-true b 32 k))
    (at_space rest ih cs f r h)
by_byte false false b rest ih cs f r h e k = at_byte b rest ih cs f r h e k

reads : (rest cs f : List ℕ) (r : Reader) → Holds cs f r → reader_input (read r rest) ≡ up_to49 (says cs f rest)
unfolding read has_newline Read
reads [] cs f r h = ap (λ p. input_in (found_in p r.kept) r.counts) h.goes_on
reads (b ∷ rest) cs f r h =
    ap (λ p. reader_input (read (read_in p r b) rest)) h.goes_on
    ∙ by_byte (eqb b newline) (eqb b space) b rest (λ cs f r h. reads rest cs f r h) cs f r h refl refl

-- what a reader has found after the whole input is what document 01 says of it, with no more than 49 counts
pub reader_reads_the_line : (input : List ℕ) → reader_input (read fresh_reader input) ≡ up_to49 (input_as input)
reader_reads_the_line input = reads input [] [] fresh_reader holds_none ∙ ap up_to49 (says_all input)

-- no more than 49 counts are found
pub few_counts : (p : Phase) (k n : ℕ) → found_in p k ≡ Counts n → n ≤ 49
few_counts More k n e = impossible (cc)
few_counts Ended k n e =
    let same : min k 49 ≡ n = cc in
    omega arith
few_counts Unread k n e = impossible (cc)
