-- The rules that a digit is worked out from (document 02, request 9): "a program that works each one out from the
-- listed rules". They are those of the operations' `Answers`, by which the core's table is proved too.
-- Assumes nothing.
use Rattle.std.specs.Prelude.{ℕ, Bool}
use Rattle.operations.specs.declared.operation.Operation.{Operation}
use Rattle.operations.specs.Answers.{listed_codes, clear_codes, is_in}

-- document 01, Records: "Reported codes, with 0 always"; of those the ones in an operation's list
abbrev pub is_listed : Operation → ℕ → Bool
is_listed operation code = is_in code (listed_codes operation)

-- document 02, request 2: those that "leave bit 2 clear"
abbrev pub is_clear : Operation → ℕ → Bool
is_clear operation code = is_in code (clear_codes operation)
