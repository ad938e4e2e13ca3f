-- The operations (document 01, Stores; document 02, request 1).
-- Assumes nothing.
use Rattle.std.specs.Prelude.{ℕ, Bool, true, false, ◌||◌, List, [], ◌∷◌, eqb, get_or}
use Rattle.operations.specs.declared.operation.Operation.{Operation}
use Rattle.operations.specs.declared.operation.Operation.TheVariants.{Read, CheckBytes, SuppliedCount, Write}
use Rattle.operations.specs.declared.operation.Operation.TheVariants.{Erase, Rewind, FastForward, SkipForward}
use Rattle.operations.specs.declared.operation.Operation.TheVariants.{SkipReverse, SearchForward, SearchReverse}
use Rattle.operations.specs.declared.operation.Operation.TheVariants.{WriteMark}
use Rattle.operations.specs.declared.operation.Row.{Row}
use Rattle.operations.specs.declared.operation.Motion.{Motion}
use Rattle.operations.specs.declared.operation.Motion.TheVariants.{Still, Forward, Reverse, Rewinding, Winding}
use Rattle.operations.specs.declared.operation.Motion.TheVariants.{Writing, Erasing}

-- ---- a row for each operation

-- The first byte of its motion order, "operation (40, 50, 60 or the control value)", and of a supplied count, "The
-- order's first byte is 80", 0 where there is none; how it moves tape, "Forward moves are read, skip forward and search
-- forward; reverse moves are skip reverse and search reverse. Every operation but check bytes moves tape"; whether
-- "Past the test, read, skip and write set secondary to 0"; and whether it is of "Read, write and check bytes", which
-- "offer EOR". A supplied count: "in all else the store goes as a read".
abbrev pub row_of : Operation → Row
row_of Read = record { order = 0x40; motion = Forward; counts = true; ends = true }
row_of CheckBytes = record { order = 0x00; motion = Still; counts = false; ends = true }
row_of SuppliedCount = record { order = 0x80; motion = Forward; counts = true; ends = true }
row_of Write = record { order = 0x50; motion = Writing; counts = true; ends = true }
row_of Erase = record { order = 0x60; motion = Erasing; counts = false; ends = false }
row_of Rewind = record { order = 0x10; motion = Rewinding; counts = false; ends = false }
row_of FastForward = record { order = 0x11; motion = Winding; counts = false; ends = false }
row_of SkipForward = record { order = 0x20; motion = Forward; counts = true; ends = false }
row_of SkipReverse = record { order = 0x21; motion = Reverse; counts = true; ends = false }
row_of SearchForward = record { order = 0x22; motion = Forward; counts = false; ends = false }
row_of SearchReverse = record { order = 0x23; motion = Reverse; counts = false; ends = false }
row_of WriteMark = record { order = 0x24; motion = Writing; counts = false; ends = false }

-- its number, which is its row in the table of answers, operations by 32 codes, in the order of document 02, request 9
abbrev pub number_of : Operation → ℕ
number_of Read = 0
number_of CheckBytes = 1
number_of SuppliedCount = 2
number_of Write = 3
number_of Erase = 4
number_of Rewind = 5
number_of FastForward = 6
number_of SkipForward = 7
number_of SkipReverse = 8
number_of SearchForward = 9
number_of SearchReverse = 10
number_of WriteMark = 11

-- all of them in that order, and the operation of a number; from 11 on the last
abbrev pub all_operations : List Operation
all_operations =
    Read ∷ CheckBytes ∷ SuppliedCount ∷ Write ∷ Erase ∷ Rewind ∷
    FastForward ∷ SkipForward ∷ SkipReverse ∷ SearchForward ∷ SearchReverse ∷ WriteMark ∷ []

abbrev pub operation_of : ℕ → Operation
operation_of n = get_or all_operations n WriteMark

-- whether an operation is this one
abbrev pub same_operation : Operation → Operation → Bool
same_operation operation this = eqb (number_of operation) (number_of this)

-- the first byte of its motion order
abbrev pub order_byte : Operation → ℕ
order_byte operation = (row_of operation).order

-- how it moves tape
abbrev pub move_of : Operation → Motion
move_of operation = (row_of operation).motion

-- "read, skip and write set secondary to 0"
abbrev pub counts_bytes : Operation → Bool
counts_bytes operation = (row_of operation).counts

-- "Read, write and check bytes offer EOR"
abbrev pub offers_end : Operation → Bool
offers_end operation = (row_of operation).ends

-- ---- kinds of operations

-- "Every operation but check bytes moves tape"
unfoldable pub moves_tape : Motion → Bool
moves_tape Still = false
moves_tape Forward = true
moves_tape Reverse = true
moves_tape Rewinding = true
moves_tape Winding = true
moves_tape Writing = true
moves_tape Erasing = true

-- "Reading with a supplied count" (document 02, request 1)
abbrev pub supplies_count : Operation → Bool
supplies_count operation = same_operation operation SuppliedCount

-- a read of either kind, which delivers bytes of its image
abbrev pub is_read : Operation → Bool
is_read operation = same_operation operation Read || supplies_count operation

-- "a read or forward skip", whose image says its count
abbrev pub brings_record : Operation → Bool
brings_record operation = same_operation operation Read || same_operation operation SkipForward

-- "both skips"
unfoldable pub is_skip : Operation → Bool
is_skip operation = same_operation operation SkipForward || same_operation operation SkipReverse

-- "a search"
unfoldable pub is_search : Operation → Bool
is_search operation = same_operation operation SearchForward || same_operation operation SearchReverse

-- "in a read, skip or search"; with a supplied count, "No mark flag is allowed."
unfoldable pub takes_mark : Operation → Bool
takes_mark operation = brings_record operation || (same_operation operation SkipReverse || is_search operation)
