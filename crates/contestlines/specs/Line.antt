-- What a line of the contest program says: P,w,n,f from a proper gap or I,w,n,f from an improper one, the numbers
-- decimal from 0 to 255. A line is given without its #0A. Document 02 gives no format for it (request 12).
-- Assumes nothing.
use Rattle.std.specs.Prelude.{ℕ, ◌&&◌, List, ltb, eqb, length, drop, get_or, Option, None, Some}
use Rattle.common.specs.Pick.{pick}
use Rattle.contest.specs.declared.contest.Gap.{Gap}
use Rattle.contest.specs.declared.contest.Gap.TheVariants.{Proper, Improper}
use Rattle.contest.specs.declared.contest.Question.{Question}
use Rattle.text.specs.Limits.{byte_limit}
use Rattle.text.specs.Characters.{comma}
use Rattle.text.specs.Digits.{is_decimal, decimal_of}
use Rattle.text.specs.Fields.{field_of, after_fields}
use Rattle.contestlines.specs.Characters.{proper_letter, improper_letter}

-- three decimals, each from 0 to 255
unfoldable pub numbers_line : Gap → List ℕ → List ℕ → List ℕ → Option Question
numbers_line gap w n f =
    pick (is_decimal byte_limit w && (is_decimal byte_limit n && is_decimal byte_limit f))
    (Some (record { gap = gap; writes = decimal_of w; stores = decimal_of n; spoilings = decimal_of f }))
    None

-- w,n,f, behind the first comma
unfoldable pub fields_line : Gap → List ℕ → Option Question
fields_line gap s = numbers_line gap (field_of s) (field_of (after_fields 1 s)) (after_fields 2 s)

-- the gap's letter, and what comes after its comma
unfoldable pub gap_line : ℕ → List ℕ → Option Question
gap_line letter s =
    pick (eqb letter proper_letter) (fields_line Proper s)
    (pick (eqb letter improper_letter) (fields_line Improper s) None)

-- what a line says
unfoldable pub question_of : List ℕ → Option Question
question_of line =
    pick (ltb (length line) 2) None
    (pick (eqb (get_or line 1 0) comma) (gap_line (get_or line 0 0) (drop 2 line)) None)
