-- Limits of fields and of printed numbers.
-- Assumes nothing.
use Rattle.std.specs.Prelude.{ℕ, ◌+◌}

-- a byte in decimal: "Drive, late (both 0-255)" (document 01, Loads, restorer, session)
abbrev pub byte_limit : ℕ
byte_limit = 255

-- above every limit of a field: where the code stops counting
abbrev pub field_cap : ℕ
field_cap = 4294967296

-- ten digits hold each number of 32 bits
abbrev pub decimal_most : ℕ
decimal_most = 10

-- the number of a refusal has at most two digits
abbrev pub refusal_most : ℕ
refusal_most = 2

-- CC:M:N
abbrev pub record_most : ℕ
record_most = 2 + 1 + decimal_most + 1 + decimal_most
