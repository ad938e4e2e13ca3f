-- What a line of a wear log says: the first is a width in decimal, each other a record as the jobs program prints it,
-- CC:M:N, the code in two hexadecimal digits, motion and count in decimal. No paper has these lines; the view that is
-- made of them is that of document 02, request 11. A line is given without its #0A.
-- Assumes nothing.
use Rattle.std.specs.Prelude.{ℕ, ◌+◌, not, ◌&&◌, List, eqb, length, Option, None, Some}
use Rattle.common.specs.Pick.{pick}
use Rattle.text.specs.Limits.{byte_limit}
use Rattle.text.specs.Digits.{all_digits, is_byte, byte_of, is_decimal, decimal_of}
use Rattle.text.specs.Fields.{part_of, part_end, after}
use Rattle.text.specs.Characters.{colon}
use Rattle.views.specs.Limits.{width_limit}
use Rattle.status.specs.declared.words.ResultRecord.{ResultRecord}
use Rattle.wearlines.specs.Limits.{count_limit}

-- the code in two hexadecimal digits, motion and count in decimal: a motion has 8 bits, a count 32
unfoldable pub fields_line : List ℕ → List ℕ → List ℕ → Option ResultRecord
fields_line code motion count =
    pick (is_byte code && (is_decimal byte_limit motion && is_decimal count_limit count))
    (Some (record { code = byte_of code; motion = decimal_of motion; count = decimal_of count }))
    None

-- what comes after the first colon
unfoldable pub after_colon : List ℕ → List ℕ
after_colon s = after s (part_end colon s)

-- CC:M:N
unfoldable pub record_line : List ℕ → Option ResultRecord
record_line s = fields_line (part_of colon s) (part_of colon (after_colon s)) (after_colon (after_colon s))

-- a width: one digit or more. One above the limit is refused whatever it is, so it is read as the least of them.
unfoldable pub width_line : List ℕ → Option ℕ
width_line s =
    pick (not (eqb (length s) 0) && all_digits 10 s)
    (Some (pick (is_decimal width_limit s) (decimal_of s) (width_limit + 1)))
    None
