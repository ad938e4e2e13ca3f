-- What the program prints (document 02, request 9): "prints the core's table, twelve lines of 32 digits parted by
-- commas, none at a line's end". Each line ends with its #0A.
-- Assumes nothing.
use Rattle.std.specs.Prelude.{ℕ, zero, suc, ◌+◌, ◌*◌, List, [], ◌∷◌, ◌++◌, get_or}
use Rattle.operations.specs.declared.operation.Operation.{Operation}
use Rattle.operations.specs.declared.operation.Operation.TheVariants.{Read, CheckBytes, SuppliedCount, Write, Erase}
use Rattle.operations.specs.declared.operation.Operation.TheVariants.{Rewind, FastForward, SkipForward, SkipReverse}
use Rattle.operations.specs.declared.operation.Operation.TheVariants.{SearchForward, SearchReverse, WriteMark}
use Rattle.operations.specs.Operation.{number_of}
use Rattle.operations.specs.Answers.{answer_of}

abbrev pub comma : ℕ
comma = 44

abbrev pub line_feed : ℕ
line_feed = 10

abbrev pub zero_digit : ℕ
zero_digit = 48

-- "Operations run: read, check bytes, supplied count, write, erase, rewind, fast forward, skip forward, skip reverse,
-- search forward, search reverse, write mark."
unfoldable pub line_order : List Operation
line_order =
    Read ∷
    CheckBytes ∷
    SuppliedCount ∷
    Write ∷
    Erase ∷
    Rewind ∷
    FastForward ∷
    SkipForward ∷
    SkipReverse ∷
    SearchForward ∷
    SearchReverse ∷
    WriteMark ∷
    []

-- "Codes rise from 0 to 31." The digits of an operation, so many of them, from a code on; each is the core's entry
unfoldable pub digits_from : Operation → ℕ → ℕ → List ℕ
digits_from operation zero code = []
digits_from operation (suc n) code = (zero_digit + answer_of operation code) ∷ digits_from operation n (suc code)

-- "parted by commas": a comma before each but the first
unfoldable pub parted : List ℕ → List ℕ
parted [] = []
parted (digit ∷ []) = digit ∷ []
parted (digit ∷ (next ∷ rest)) = digit ∷ comma ∷ parted (next ∷ rest)

-- "32 digits parted by commas, none at a line's end"
unfoldable pub line_text : Operation → List ℕ
line_text operation = parted (digits_from operation 32 0) ++ (line_feed ∷ [])

-- the lines of some operations
unfoldable pub lines_text : List Operation → List ℕ
lines_text [] = []
lines_text (operation ∷ rest) = line_text operation ++ lines_text rest

-- "twelve lines"
unfoldable pub table_text : List ℕ
table_text = lines_text line_order

-- ---- by its places

-- the operation of a line, counted from 0; behind the last line nothing is printed
unfoldable pub operation_at : ℕ → Operation
operation_at line = get_or line_order line WriteMark

-- how long the text is: 12 lines of 64 bytes
abbrev pub table_length : ℕ
table_length = 768

-- one byte of it
abbrev pub byte_at : ℕ → ℕ
byte_at place = get_or table_text place 0

-- where the digit of an operation and a code stands: two bytes to a code, 64 to a line, and the lines are the rows of
-- the core's table
abbrev pub digit_place : Operation → ℕ → ℕ
digit_place operation code = 64 * number_of operation + 2 * code
