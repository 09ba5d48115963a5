-- Arrays that hold a list and then the same value up to their end.
use Rattle.std.specs.Prelude.{ℕ, suc, ◌+◌, ◌-◌, ◌≤◌, ◌<◌, ◌≡◌, List, [], ◌∷◌, ◌++◌, length, get_or, take, drop, set, replicate}
use Rattle.std.proofs.Common.{add-one, arith, sym, ap, ◌∙◌, append_assoc, length-append, length-set, take_all, take-suc, length-take-le}
use Rattle.std.proofs.lemmas.List.{length-replicate, length-reverse, replicate-append-replicate, set_at, set-append_left}
use Rattle.std.proofs.Math.ListN.{get_or-append}
use Rattle.std.proofs.Math.Seq.{take-length, take-append_seam, set-append_seam, append_snoc}
use Rattle.gray_theory.specs.Radices.{digits}
use Rattle.gray_theory.specs.Arrays.{filled, digit_array}

module _ {A : Type 0} (room : ℕ) (z : A) where
  pub take-filled : (l : List A) → take (length l) (filled room z l) ≡ l
  take-filled l = take-append_seam l (replicate (room - length l) z)

  pub length-filled : (l : List A) → length l ≤ room → length (filled room z l) ≡ room
  length-filled l h = simp (length-append, length-replicate) (omega arith)

  pub filled_whole : (l : List A) → length l ≤ room → take room (filled room z l) ≡ filled room z l
  filled_whole l h = let long = length-filled l h in take_all room (filled room z l) (omega arith)

  pub get_d_filled : (l : List A) (i : ℕ) (d : A) → i < length l → get_or (filled room z l) i d ≡ get_or l i d
  get_d_filled l i d h = get_or-append l (replicate (room - length l) z) d i h

  pub set-filled : (l : List A) (i : ℕ) (a : A) → i < length l → set (filled room z l) i a ≡ filled room z (set l i a)
  set-filled l i a h =
      set-append_left l (replicate (room - length l) z) i a h
      ∙ ap (λ (n : ℕ). set l i a ++ replicate (room - n) z) (sym (length-set l i a))

  -- the first free place is taken
  pub filled-append : (l : List A) (a : A) → length l < room → set (filled room z l) (length l) a ≡ filled room z (l ++ (a ∷ []))
  filled-append l a h =
      let r = room - suc (length l) in
      let e : room - length l ≡ suc r = omega arith in
      let f : room - length (l ++ (a ∷ [])) ≡ r = simp length-append (omega arith) in
      ap (λ (n : ℕ). set (l ++ replicate n z) (length l) a) e
      ∙ set-append_seam l z (replicate r z) a
      ∙ sym (append_assoc l (a ∷ []) (replicate r z))
      ∙ ap (λ (n : ℕ). (l ++ (a ∷ [])) ++ replicate n z) (sym f)

  -- the first element goes, and the others move up
  pub filled-drop : (a : A) (l : List A) → length l < room → drop 1 (filled room z (a ∷ l)) ++ (z ∷ []) ≡ filled room z l
  filled-drop a l h =
      let r = room - suc (length l) in
      let e : r + 1 ≡ room - length l = omega arith in
      append_assoc l (replicate r z) (z ∷ [])
      ∙ ap (λ t. l ++ t) (replicate-append-replicate r 1 z ∙ ap (λ (n : ℕ). replicate n z) e)

  pub filled-replicate : (k : ℕ) → k ≤ room → filled room z (replicate k z) ≡ replicate room z
  filled-replicate k h =
      let e : k + (room - length (replicate k z)) ≡ room = simp length-replicate (omega arith) in
      replicate-append-replicate k (room - length (replicate k z)) z ∙ ap (λ (n : ℕ). replicate n z) e

  -- a loop fills the array from its start: one element more, and all of them
  part_more : (l rest : List A) (i : ℕ) → i < length l → take i l ++ get_or l i z ∷ rest ≡ take (i + 1) l ++ rest
  part_more l rest i h = rw (add-one i, take-suc l i z h) (sym (append_snoc (take i l) (get_or l i z) rest))

  pub fill_more : (l out : List A) (i : ℕ) (a : A)
      → i < room
      → i < length l
      → a ≡ get_or l i z
      → out ≡ take i l ++ replicate (room - i) z
      → set out i a ≡ take (i + 1) l ++ replicate (room - (i + 1)) z
  fill_more l out i a free h e f =
      let rest : List A = replicate (room - (i + 1)) z in
      let left : room - i ≡ suc (room - (i + 1)) = omega arith in
      let split : out ≡ take i l ++ z ∷ rest = f ∙ ap (λ n. take i l ++ replicate n z) left in
      let stored : set (take i l ++ z ∷ rest) i a ≡ take i l ++ a ∷ rest =
      set_at (take i l) z rest a i (length-take-le i l (omega arith)) in
      ap (λ t. set t i a) split ∙ stored ∙ rw e (part_more l rest i h)

  pub fill_all : (l out : List A) (i : ℕ) → i ≡ length l → out ≡ take i l ++ replicate (room - i) z → out ≡ filled room z l
  fill_all l out i e f =
      f ∙ ap (λ n. take n l ++ replicate (room - n) z) e ∙ ap (λ t. t ++ replicate (room - length l) z) (take-length l)

-- no digit of at most 48 is left out
pub digit_array_lem : (l : List ℕ) → length l ≤ 48 → digit_array l ≡ filled 48 0 (digits l)
digit_array_lem l h = let long = length-reverse l in filled_whole 48 0 (digits l) (omega arith)
