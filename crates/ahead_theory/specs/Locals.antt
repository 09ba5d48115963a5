-- A run of moves on local arrays: the buffered engine's calls in a quicker form, for states in range. Each place of the counter holds
-- what is left to count there; each digit that moves, by its place among those, what is left to go in its direction and the byte of its
-- next move. The queue is a long list in which the state's own stands from place h on, where h is the number of removals. Places are
-- numbered from 1 and are the indexes of these lists, which have 256 elements, so that any byte is an index.
use Rattle.std.specs.Prelude.{ℕ, zero, suc, ◌+◌, ◌-◌, ◌≤◌, ◌<◌, ◌≡◌, Bool, false, cond, ◌⊎◌, List, [], ◌∷◌, eqb, leb, ltb, length, get_or, set}
use Rattle.gray_theory.specs.MoveBytes.{move_byte}
use Rattle.ahead_theory.specs.States.{Producer, Walk, moving_radices, places}

-- ---- work steps
pub record Fast : Type 0 where
  pub rest : List ℕ
  pub queue : List ℕ
  pub place : ℕ
  pub tail : ℕ
  pub steps : ℕ

abbrev pub rest_at : Fast → ℕ
rest_at f = get_or f.rest f.place 0

abbrev pub carried : List ℕ → Fast → Fast
carried tops f = record {
  rest = set f.rest f.place (get_or tops f.place 0);
  queue = f.queue;
  place = f.place + 1;
  tail = f.tail;
  steps = f.steps + 1;
}

abbrev pub appended : Fast → Fast
appended f = record {
  rest = set f.rest f.place (rest_at f - 1);
  queue = set f.queue f.tail f.place;
  place = 1;
  tail = f.tail + 1;
  steps = f.steps + 1;
}

-- a work step over `last` places, where an entry goes in below place `bound`
unfoldable pub fast_work : List ℕ → ℕ → ℕ → Fast → Fast
fast_work tops last bound f =
    cond (eqb (rest_at f) 0) (cond (eqb f.place last) f (carried tops f)) (cond (ltb f.tail bound) (appended f) f)

-- ---- moves
-- the byte of a move the other way
abbrev pub turned_byte : ℕ → ℕ
turned_byte b = cond (ltb b 128) (b + 128) (b - 128)

-- what is left to go, and the bytes, once the digit at place i has moved
abbrev pub left_moved : List ℕ → List ℕ → ℕ → List ℕ
left_moved tops left i = set left i (cond (leb (get_or left i 0) 1) (get_or tops i 0) (get_or left i 0 - 1))

abbrev pub bytes_moved : List ℕ → List ℕ → ℕ → List ℕ
bytes_moved left bytes i = set bytes i (cond (leb (get_or left i 0) 1) (turned_byte (get_or bytes i 0)) (get_or bytes i 0))

-- ---- one call
-- what it leaves: whether it moved (0), ended the walk (1) or was dry (2), the lists, and the byte of its move
pub record Called : Type 0 where
  pub kind : ℕ
  pub byte : ℕ
  pub fast : Fast
  pub left : List ℕ
  pub bytes : List ℕ

abbrev pub fast_twice : List ℕ → ℕ → ℕ → Fast → Fast
fast_twice tops last bound f = fast_work tops last bound (fast_work tops last bound f)

-- two work steps and the removal of the entry at place h; a dry call leaves all as it was
unfoldable pub fast_call : List ℕ → ℕ → ℕ → ℕ → Fast → List ℕ → List ℕ → Called
fast_call tops last c h f left bytes =
    let g = fast_twice tops last (h + c) f in
    let e = get_or g.queue h 0 in
    cond (eqb g.tail h) (record { kind = 2; byte = 0; fast = f; left = left; bytes = bytes })
    (cond (eqb e last) (record { kind = 1; byte = 0; fast = g; left = left; bytes = bytes })
    (record { kind = 0; byte = get_or bytes e 0; fast = g; left = left_moved tops left e; bytes = bytes_moved left bytes e }))

-- ---- calls one after another
-- what they leave: the bytes of those that moved, how many entries were removed in all, what stopped them (as above; 0 is nothing)
pub record FastRan : Type 0 where
  pub written : List ℕ
  pub taken : ℕ
  pub stop : ℕ
  pub fast : Fast
  pub left : List ℕ
  pub bytes : List ℕ

abbrev pub fast_then : ℕ → Called → FastRan → FastRan
fast_then h r rest =
    cond (eqb r.kind 2) (record { written = []; taken = h; stop = 2; fast = r.fast; left = r.left; bytes = r.bytes })
    (cond (eqb r.kind 1) (record { written = []; taken = h + 1; stop = 1; fast = r.fast; left = r.left; bytes = r.bytes })
    (record {
      written = r.byte ∷ rest.written;
      taken = rest.taken;
      stop = rest.stop;
      fast = rest.fast;
      left = rest.left;
      bytes = rest.bytes;
    }))

-- at most `limit` calls, up to the first that does not move, after h removals
unfoldable pub fast_run : List ℕ → ℕ → ℕ → ℕ → ℕ → Fast → List ℕ → List ℕ → FastRan
fast_run tops last c zero h f left bytes = record { written = []; taken = h; stop = 0; fast = f; left = left; bytes = bytes }
fast_run tops last c (suc limit) h f left bytes =
    let r = fast_call tops last c h f left bytes in
    fast_then h r (fast_run tops last c limit (h + 1) r.fast r.left r.bytes)

-- ---- what the lists stand for
-- the radices of the places, less 1
pub record TopsOf (ms tops : List ℕ) : Type 0 where
  pub long : length tops ≡ 256
  pub top : (i : ℕ) → i < length ms + 1 → get_or tops (i + 1) 0 + 1 ≡ get_or (places ms) i 0

-- the producer p, after h removals
pub record Ahead (ms tops counter₀ : List ℕ) (h : ℕ) (p : Producer) (f : Fast) : Type 0 where
  pub counts : (i : ℕ) → i < length ms + 1 → get_or f.rest (i + 1) 0 + get_or p.counter i 0 ≡ get_or tops (i + 1) 0
  pub others : (i : ℕ) → length ms + 1 ≤ i → get_or p.counter i 0 ≡ get_or counter₀ i 0
  pub place_is : f.place ≡ p.place
  pub place_small : p.place ≤ 49
  pub held : p.queued ≤ 32
  pub tail_is : f.tail ≡ h + p.queued
  pub steps_is : f.steps ≡ p.steps
  pub entries : (x : ℕ) → x < 32 → get_or p.queue x 0 ≡ get_or f.queue (h + x) 0
  pub clear : (x : ℕ) → 32 ≤ x → get_or f.queue (h + x) 0 ≡ 0
  pub rest_long : length f.rest ≡ 256
  pub queue_long : length f.queue ≡ 1056
  pub counter_long : length p.counter ≡ 49
  pub entries_long : length p.queue ≡ 32

-- a digit at notch a, and what it has left to go
abbrev pub ToGo : ℕ → ℕ → Bool → ℕ → Type 0
ToGo top a down left = left + cond down 0 a ≡ cond down a top

pub record Notch (top left byte d a : ℕ) (down : Bool) : Type 0 where
  pub shows : byte ≡ move_byte d down
  pub to_go : ToGo top a down left

-- the word and the directions: those of the digits that move by the lists, those of all others as they were
pub record Notches (digits : List ℕ) (count : ℕ) (tops word₀ : List ℕ) (downs₀ : List Bool) (word : List ℕ) (downs : List Bool) (left bytes : List ℕ) : Type 0 where
  pub each : (i : ℕ)
      → i < count
      → Notch (get_or tops (i + 1) 0) (get_or left (i + 1) 0) (get_or bytes (i + 1) 0) (get_or digits i 0) (get_or word (get_or digits i 0 - 1) 0)
      (get_or downs (get_or digits i 0 - 1) false)
  pub others : (x : ℕ)
      → ((get_or word x 0 ≡ get_or word₀ x 0) × (get_or downs x false ≡ get_or downs₀ x false)) ⊎ ((i : ℕ) × (i < count) × (x ≡ get_or digits i 0 - 1))
  pub left_long : length left ≡ 256
  pub bytes_long : length bytes ≡ 256

-- the numbers of the digits that move
pub record Numbered (digits radices ms : List ℕ) (n : ℕ) : Type 0 where
  pub from_one : (i : ℕ) → i < length ms → 1 ≤ get_or digits i 0
  pub within : (i : ℕ) → i < length ms → get_or digits i 0 ≤ n
  pub radix : (i : ℕ) → i < length ms → get_or radices (get_or digits i 0 - 1) 0 ≡ get_or ms i 0
  pub once : (i k : ℕ) → i < length ms → k < length ms → get_or digits i 0 ≡ get_or digits k 0 → i ≡ k

-- the state w, in a run from w₀
pub record Stands (w₀ w : Walk) (h : ℕ) (tops left bytes : List ℕ) (f : Fast) : Type 0 where
  pub radices : w.directed.radices ≡ w₀.directed.radices
  pub n : w.directed.n ≡ w₀.directed.n
  pub moving : w.directed.moving ≡ w₀.directed.moving
  pub capacity : w.capacity ≡ w₀.capacity
  pub ahead : Ahead (moving_radices w₀) tops w₀.producer.counter h w.producer f
  pub notches : Notches w₀.directed.moving.digits w₀.directed.moving.count tops w₀.directed.word w₀.directed.downs w.directed.word w.directed.downs left bytes
