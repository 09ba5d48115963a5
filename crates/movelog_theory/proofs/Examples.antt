-- Cases that pin what no theorem says: refusals in their order, the part of a refused log, and the bytes of a large number.
use Rattle.std.specs.Prelude.{◌≡◌, refl, false, [], ◌∷◌, ◌++◌, map}
use Rattle.gray_theory.specs.Answers.{refused}
use Rattle.gray_theory.specs.Radices.{size, all_from}
use Rattle.gray_theory.specs.Words.{upward, downward, notches, through, list}
use Rattle.gray_theory.specs.Changes.{difference}
use Rattle.gray_theory.specs.MoveBytes.{move_byte}
use Rattle.movelog_theory.specs.Logs.{high_first, digit_records, moves_from, log_of}
use Rattle.movelog_theory.specs.Shapes.{moves_then_end, digits_then_moves, shaped, radices_of, count_moves, same_bytes}
use Rattle.movelog_theory.specs.Calls.{write_call, read_call, moves_call, moves_at, further}

-- the log of 2, 3 with c = 1, t = 5 (document 01), and one byte after its end
pub no_byte_follows_an_end : shaped (log_of (3 ∷ 2 ∷ []) 1 5 ++ (0 ∷ [])) ≡ false
unfolding shaped digits_then_moves moves_then_end log_of digit_records moves_from high_first size
no_byte_follows_an_end = refl

-- a digit record with no start before it is refused, and the empty part at its start is handed back
pub empty_part_at_the_start : moves_at (2 ∷ 1 ∷ 3 ∷ []) ≡ 0
unfolding moves_at read_call shaped
empty_part_at_the_start = refl

-- nor is a move handed back of a log that has one, and a capacity of 0
pub nothing_of_a_refused_log : moves_call (1 ∷ 1 ∷ 0 ∷ 2 ∷ 1 ∷ 2 ∷ 3 ∷ 1 ∷ []) ≡ []
unfolding moves_call read_call shaped digits_then_moves moves_then_end radices_of size all_from
nothing_of_a_refused_log = refl

-- the part of the log of 2, 3 with its moves begins behind a start and two digit records, of 3 bytes each
pub part_behind_the_digits : moves_at (log_of (3 ∷ 2 ∷ []) 1 5) ≡ 9
unfolding moves_at read_call shaped digits_then_moves moves_then_end radices_of count_moves same_bytes log_of digit_records moves_from high_first move_byte difference list through notches upward downward size all_from
part_behind_the_digits = refl

-- the lowest refusal that applies to a log: a record cut short and a capacity of 0 get 1; then a radix of 0 and a capacity of 0
-- get 3, a capacity of 0 and of 33 get 5
pub logs_are_refused_in_order :
    map read_call
    ((1 ∷ 1 ∷ 0 ∷ 2 ∷ 1 ∷ []) ∷ (1 ∷ 1 ∷ 0 ∷ 2 ∷ 1 ∷ 0 ∷ []) ∷ (1 ∷ 1 ∷ 0 ∷ 2 ∷ 1 ∷ 2 ∷ []) ∷ (1 ∷ 1 ∷ 33 ∷ 2 ∷ 1 ∷ 2 ∷ []) ∷ [])
    ≡ refused 1 ∷ refused 3 ∷ refused 5 ∷ refused 5 ∷ []
unfolding read_call shaped digits_then_moves moves_then_end radices_of size all_from
logs_are_refused_in_order = refl

-- the same where a log of 9 moves is to be written into no memory: a radix of 0, a capacity of 0, too many moves, and no room
pub writing_is_refused_in_order :
    write_call (0 ∷ []) 0 9 0 ∷ write_call (2 ∷ []) 0 9 0 ∷ write_call (2 ∷ []) 1 9 0 ∷ write_call (10 ∷ []) 1 9 0 ∷ []
    ≡ refused 3 ∷ refused 5 ∷ refused 8 ∷ refused 9 ∷ []
unfolding write_call log_of digit_records moves_from high_first size all_from
writing_is_refused_in_order = refl

-- 8 bytes of a number, high byte first
pub bytes_of_a_number : high_first 8 72623859790382856 ≡ 1 ∷ 2 ∷ 3 ∷ 4 ∷ 5 ∷ 6 ∷ 7 ∷ 8 ∷ []
unfolding high_first
bytes_of_a_number = refl

-- 3 bytes behind byte 4 of block 7 stands its byte 7
pub three_bytes-further : further 3 (7, 4) ≡ (7, 7)
three_bytes-further = refl
