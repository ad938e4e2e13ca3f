-- What stands at a place of the printed text: shown once, by a test of every byte that antt computes.
-- Assumes nothing.
use mathlib.Core.Path.{◌≡◌, refl}
use mathlib.Core.Bool.{Bool}
use Prim.Native.Nat.{ℕ, ◌+◌, ◌/◌, ◌%◌, ◌<◌}
use native.Mathlib.Omega.{arith}
use lib.Dec.{T, eqb, eqb→eq}
use lib.ListN.{length}
use Rattle.common.specs.Pick.{pick}
use Rattle.operations.specs.Answers.{forward_codes, reverse_codes, end_codes, supplied_codes, listed_codes}
use Rattle.operations.specs.Answers.{trailing_codes}
use Rattle.operations.specs.Answers.{clear_codes, is_in, answer_of}
use Rattle.operations.proofs.Table.{every, at}
use Rattle.table.specs.Text.{comma, line_feed, zero_digit, line_order, digits_from, parted, line_text, lines_text}
use Rattle.table.specs.Text.{table_text, operation_at, table_length, byte_at}

-- 64 bytes to a line: a digit at each even place, a comma behind it, and a line feed behind the last
unfoldable pub byte_of : ℕ → ℕ
byte_of place =
    pick (eqb (place % 64) 63) line_feed
    (pick (eqb (place % 64 % 2) 1) comma (zero_digit + answer_of (operation_at (place / 64)) (place % 64 / 2)))

right : ℕ → ℕ → Bool
right place byte = eqb byte (byte_of place)

every_byte : T (every right 0 table_text)
unfolding right byte_of table_text lines_text line_text parted digits_from line_order operation_at answer_of is_in
    listed_codes forward_codes reverse_codes
    end_codes supplied_codes trailing_codes clear_codes pick
every_byte = tt

pub whole : length table_text ≡ table_length
unfolding table_text lines_text line_text parted digits_from line_order
whole = refl

pub byte_there : (place : ℕ) → place < table_length → byte_at place ≡ byte_of place
unfolding right
byte_there place h =
    eqb→eq (byte_at place) (byte_of place) (at right 0 table_text every_byte place (omega (arith, whole)))
