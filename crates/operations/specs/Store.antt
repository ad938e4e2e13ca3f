-- A store: its address and its operand (document 01, Stores). "Address: bit 0 asks an interrupt, 1-3 are the operation,
-- bit 4 names a drive, 5-7 its number."
-- Assumes nothing.
use Rattle.std.specs.Prelude.{ℕ, ◌+◌, ◌*◌, ◌/◌, ◌%◌, Bool, ◌&&◌, leb, eqb}
use Rattle.common.specs.Pick.{pick}
use Rattle.operations.specs.declared.store.Store.{Store}
use Rattle.operations.specs.declared.operation.Operation.{Operation}
use Rattle.operations.specs.declared.decode.Decoded.{Decoded}
use Rattle.operations.specs.Operation.{supplies_count}
use Rattle.operations.specs.Decode.{decode_of, in_density}

-- "bit 0 asks an interrupt"
unfoldable pub asks_interrupt : Store → Bool
asks_interrupt store = leb 128 store.address

-- "bit 4 names a drive"
unfoldable pub names_drive : Store → Bool
names_drive store = eqb (store.address / 8 % 2) 1

-- "5-7 its number"
unfoldable pub named_drive : Store → ℕ
named_drive store = store.address % 8

-- "a named drive above 3"
unfoldable pub names_unknown : Store → Bool
names_unknown store = names_drive store && leb 4 (named_drive store)

-- "else select it": the drive that is named; without one, selection stays
unfoldable pub selected_by : Store → ℕ → ℕ
selected_by store selected = pick (names_drive store) (named_drive store) selected

-- "1-3 are the operation"
unfoldable pub asked_for : Store → Decoded
asked_for store = decode_of (store.address / 16 % 8) store.first store.fourth

-- "decode", for the drive that the store selects: by its density
abbrev pub asked_in : Store → ℕ → Decoded
asked_in store density = in_density density (asked_for store)

-- of a write, "second operand byte: host bytes thrown away"
unfoldable pub thrown_away : Store → ℕ
thrown_away store = store.second

-- ".. last two: count"; "the count in the last two"
unfoldable pub held_count : Store → ℕ
held_count store = store.third * 256 + store.fourth

-- the count that is supplied for an operation, and 0 where none is: what a supplied 0 counts as too, "exactly if that
-- is nonzero"
unfoldable pub supplied_count : Operation → Store → ℕ
supplied_count operation store = pick (supplies_count operation) (held_count store) 0
