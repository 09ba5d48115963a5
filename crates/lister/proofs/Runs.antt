-- What `list` answers, and that the upward lister's words are what it owes.
use Prim.Native.Nat.{ℕ, ◌+◌, ◌*◌, ◌/◌, ◌^◌, ◌≤◌, ◌<◌}
use native.Mathlib.Nat.{zero-add, div-lt_iff_lt-mul, le-div_iff_mul-le}
use native.Mathlib.Omega.{arith}
use mathlib.Core.Path.{◌≡◌, sym, ap, ◌∙◌}
use mathlib.Core.Bool.{true, false}
use mathlib.Core.List.{List, [], ◌++◌, map, map-id, flatten}
use borrow.Author.Tests.{lt-ltb, le-ltb}
use lib.Dec.{ltb}
use lib.ListN.{length, drop}
use Rattle.gray_theory.specs.Answers.{given, refused, refusing, fitting, Wrote}
use Rattle.gray_theory.specs.Radices.{digits, bytes, size, all_from}
use Rattle.gray_theory.proofs.Reversals.{size-reverse}
use Rattle.gray_theory.specs.Words.{list}
use Rattle.gray_theory.specs.Calls.{size_call}
use Rattle.gray_theory.proofs.Refusals.{accepted, radices_accepted, survey-size, survey_one, wrote_bytes}
use Rattle.lister_theory.specs.Calls.{words_from, list_call}
use Rattle.lister_theory.specs.Listers.{listing}
use Rattle.gray_theory.specs.Places.{placed}
use Rattle.lister.specs.Outputs.{window, laid, Sized, Reached}
use Rattle.lister_theory.proofs.Reflections.{upward_lister_lists_the_list, length-listing}
use Rattle.lister.proofs.Windows.{window-map, length-window, each_window, each_listing, length-laid}

-- the bytes that are owed
abbrev pub run : List ℕ → ℕ → ℕ → List ℕ
run l r t = flatten (map bytes (words_from (digits l) r t))

-- the window of the upward lister is the run of settings
window_is_run : (l : List ℕ) (r t : ℕ) → window r t (listing false l) ≡ map bytes (words_from (digits l) r t)
unfolding window
window_is_run l r t = ap (window r t) (upward_lister_lists_the_list l) ∙ window-map bytes r t (list (digits l))

length_run : (l : List ℕ) (r t : ℕ) → r + t ≤ size (digits l) → length (run l r t) ≡ t * length l
length_run l r t h =
    let words = window r t (listing false l) in
    let all = length-listing false l in
    let whole = size-reverse l in
    let count : length words ≡ t = length-window r t (listing false l) ∙ omega arith in
    ap (λ ws. length (flatten ws)) (sym (window_is_run l r t) ∙ sym (map-id words))
    ∙ length-laid (length l) [] words (each_window (length l) r t (listing false l) (each_listing false l))
    ∙ rw (count, zero-add (length l))

-- what the table of block sizes is asked for
pub table_asked : (l : List ℕ) (total : ℕ) → size_call l ≡ given total → (length l ≤ 48) × (all_from 1 l ≡ true) × (size l ≤ 2 ^ 62)
table_asked l total sized =
    let (whole, limit) = survey-size l total sized in
    ((accepted l total sized).most, survey_one l total sized, omega arith)

module _ (l : List ℕ) (total : ℕ) (sized : size_call l ≡ given total) (r t room : ℕ) where
  -- the checks after those of the radices
  answered : list_call l r t room ≡ refusing 8 (ltb (size (digits l)) (r + t)) (fitting room (run l r t))
  unfolding list_call
  answered = radices_accepted l total _ sized

  pub run_refused_lem : total < r + t → list_call l r t room ≡ refused 8
  run_refused_lem h = let whole = (accepted l total sized).whole in answered ∙ rw (lt-ltb (size (digits l)) (r + t) (omega arith))

  module _ (within : r + t ≤ total) where
    fits : list_call l r t room ≡ fitting room (run l r t)
    fits = let whole = (accepted l total sized).whole in answered ∙ rw (le-ltb (size (digits l)) (r + t) (omega arith))

    run_length : length (run l r t) ≡ t * length l
    run_length = let whole = (accepted l total sized).whole in length_run l r t (omega arith)

    pub room_refused : room / length l < t → list_call l r t room ≡ refused 9
    room_refused h =
        let short : room < t * length l = (div-lt_iff_lt-mul (accepted l total sized).some).0 h in
        fits ∙ rw (run_length, lt-ltb room (t * length l) short)

    run_given : t ≤ room / length l → list_call l r t room ≡ given (run l r t)
    run_given h =
        let long : t * length l ≤ room = (le-div_iff_mul-le (accepted l total sized).some).0 h in
        fits ∙ rw (run_length, le-ltb room (t * length l) long)

    -- what the upward lister may rely on
    pub list_reached : (sizes word out : List ℕ) → Sized l sizes → length sizes ≡ 48 → length word ≡ 48 → 0 < t → room ≡ length out
        → t ≤ room / length l
        → (0 < length l) × Reached l sizes word 0 r t out 0
    list_reached sizes word out table long wide some same h =
        let (few, positive, limit) = table_asked l total sized in
        let (whole, _) = survey-size l total sized in
        let some_digit = (accepted l total sized).some in
        let fit : t * length l ≤ room = (le-div_iff_mul-le some_digit).0 h in (
          some_digit,
          record {
            few = few;
            inside = omega arith;
            whole = positive;
            table = long;
            sized = table;
            long = wide;
            begun = omega arith;
            some = some;
            short = omega arith;
            room = omega arith;
          },
        )

-- what the upward lister leaves at the start of an output is the run of settings and the bytes past it
laid-run : (l out : List ℕ) (r t : ℕ) → laid 0 [] (window r t (listing false l)) out ≡ run l r t ++ drop (length (run l r t)) out
unfolding laid placed
laid-run l out r t =
    let same : map (λ w. w) (window r t (listing false l)) ≡ map bytes (words_from (digits l) r t) =
    map-id (window r t (listing false l)) ∙ window_is_run l r t in
    rw (same, zero-add (length (run l r t)))

-- ---- what is owed where nothing is refused
module _ (l : List ℕ) (total : ℕ) (sized : size_call l ≡ given total) (r t : ℕ) (within : r + t ≤ total) (out : List ℕ)
    (h : t ≤ length out / length l) where
  pub run-written : (after : List ℕ) → after ≡ laid 0 [] (window r t (listing false l)) out
      → Wrote (list_call l r t) (given (t * length l)) out after
  run-written after e =
      let long : t * length l ≡ length (run l r t) = sym (run_length l total sized r t 0 within) in
      wrote_bytes (list_call l r t) (run l r t) out after (t * length l) (run_given l total sized r t (length out) within h) long
      (e ∙ laid-run l out r t ∙ ap (λ k. run l r t ++ drop k out) (sym long))

  -- no setting is no byte
  pub none_written : t ≡ 0 → Wrote (list_call l r t) (given 0) out out
  unfolding flatten
  none_written none =
      let nothing : run l r t ≡ [] = ap (run l r) none in
      wrote_bytes (list_call l r t) (run l r t) out out 0 (run_given l total sized r t (length out) within h) (sym (ap length nothing))
      (sym (ap (λ b. b ++ out) nothing))
