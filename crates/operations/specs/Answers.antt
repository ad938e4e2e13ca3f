-- The codes that a result may report (document 01, Records): "The .. answers, .. operations by 32 codes, stand in one
-- table: 0 never, 1 reported and no retry, 2 reported with retry. Code 0 is 1; others in the list are 2." Document 02,
-- request 1: "The table grows to 384 answers"; request 2: "The table's entries follow, and it stays the single place
-- for reported codes."
-- Assumes nothing.
use Rattle.std.specs.Prelude.{ℕ, Bool, false, ◌||◌, List, [], ◌∷◌, eqb}
use Rattle.common.specs.Pick.{pick}
use Rattle.operations.specs.declared.answers.Listing.{Listing}
use Rattle.operations.specs.declared.answers.Listing.TheVariants.{Never, Reported, WithRetry}
use Rattle.operations.specs.declared.operation.Operation.{Operation}
use Rattle.operations.specs.declared.operation.Operation.TheVariants.{Read, CheckBytes, SuppliedCount, Write}
use Rattle.operations.specs.declared.operation.Operation.TheVariants.{Erase, Rewind, FastForward, SkipForward}
use Rattle.operations.specs.declared.operation.Operation.TheVariants.{SkipReverse, SearchForward, SearchReverse}
use Rattle.operations.specs.declared.operation.Operation.TheVariants.{WriteMark}

-- "read, skip and search forward 7 8 9 A C D E F 10 11 12 13 17"
unfoldable pub forward_codes : List ℕ
forward_codes = 0x7 ∷ 0x8 ∷ 0x9 ∷ 0xA ∷ 0xC ∷ 0xD ∷ 0xE ∷ 0xF ∷ 0x10 ∷ 0x11 ∷ 0x12 ∷ 0x13 ∷ 0x17 ∷ []

-- "reverse moves 7 9 C D E 18"
unfoldable pub reverse_codes : List ℕ
reverse_codes = 0x7 ∷ 0x9 ∷ 0xC ∷ 0xD ∷ 0xE ∷ 0x18 ∷ []

-- "rewind, fast forward 6 7"
unfoldable pub end_codes : List ℕ
end_codes = 0x6 ∷ 0x7 ∷ []

-- of a supplied count, "reported codes are 0, 7, 8, 9, A, 13, 14 and 17"
unfoldable pub supplied_codes : List ℕ
supplied_codes = 0x7 ∷ 0x8 ∷ 0x9 ∷ 0xA ∷ 0x13 ∷ 0x14 ∷ 0x17 ∷ []

-- "write 7 8 9 B C D E F 10 11 12 13 14 17; write mark 7 8 9 B C D 17; .. erase 6 7 8 17; .. check bytes none"
unfoldable pub listed_codes : Operation → List ℕ
listed_codes Read = forward_codes
listed_codes CheckBytes = []
listed_codes SuppliedCount = supplied_codes
listed_codes Write = 0x7 ∷ 0x8 ∷ 0x9 ∷ 0xB ∷ 0xC ∷ 0xD ∷ 0xE ∷ 0xF ∷ 0x10 ∷ 0x11 ∷ 0x12 ∷ 0x13 ∷ 0x14 ∷ 0x17 ∷ []
listed_codes Erase = 0x6 ∷ 0x7 ∷ 0x8 ∷ 0x17 ∷ []
listed_codes Rewind = end_codes
listed_codes FastForward = end_codes
listed_codes SkipForward = forward_codes
listed_codes SkipReverse = reverse_codes
listed_codes SearchForward = forward_codes
listed_codes SearchReverse = reverse_codes
listed_codes WriteMark = 0x7 ∷ 0x8 ∷ 0x9 ∷ 0xB ∷ 0xC ∷ 0xD ∷ 0x17 ∷ []

-- "Codes 10, 11 and 12": of what trails a record
unfoldable pub trailing_codes : List ℕ
trailing_codes = 0x10 ∷ 0x11 ∷ 0x12 ∷ []

-- "Codes 10, 11 and 12 on a read, forward skip or forward search leave bit 2 clear. So do C, D and F on a forward skip"
unfoldable pub clear_codes : Operation → List ℕ
clear_codes Read = trailing_codes
clear_codes SkipForward = 0xC ∷ 0xD ∷ 0xF ∷ trailing_codes
clear_codes SearchForward = trailing_codes
clear_codes CheckBytes = []
clear_codes SuppliedCount = []
clear_codes Write = []
clear_codes Erase = []
clear_codes Rewind = []
clear_codes FastForward = []
clear_codes SkipReverse = []
clear_codes SearchReverse = []
clear_codes WriteMark = []

-- "0 never, 1 reported and no retry, 2 reported with retry"
abbrev pub never_reported : ℕ
never_reported = 0

abbrev pub asks_no_retry : ℕ
asks_no_retry = 1

abbrev pub asks_retry : ℕ
asks_retry = 2

-- what the code says by a value of its own, as a number
abbrev pub listing_number : Listing → ℕ
listing_number Never = never_reported
listing_number Reported = asks_no_retry
listing_number WithRetry = asks_retry

-- whether a code is in a list
unfoldable pub is_in : ℕ → List ℕ → Bool
is_in code [] = false
is_in code (listed ∷ rest) = eqb code listed || is_in code rest

-- the entry of an operation and a code; a code above 31 is never reported
unfoldable pub answer_of : Operation → ℕ → ℕ
answer_of operation code =
    pick (eqb code 0 || is_in code (clear_codes operation)) asks_no_retry
    (pick (is_in code (listed_codes operation)) asks_retry never_reported)
