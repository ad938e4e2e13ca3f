-- The characters of the session's lines and answers, each by its number as a byte (document 01, Loads, restorer,
-- session), beyond those that all programs share.
-- Assumes nothing.
use Rattle.std.specs.Prelude.{ℕ}

-- ---- the first letter of a line: "B,byte; T; X (broken); S,drive,byte; D,host; R,..; K; Z (reset)"

-- B
abbrev pub byte_letter : ℕ
byte_letter = 66

-- T
abbrev pub taken_letter : ℕ
taken_letter = 84

-- X
abbrev pub broken_letter : ℕ
broken_letter = 88

-- S
abbrev pub report_letter : ℕ
report_letter = 83

-- D
abbrev pub data_letter : ℕ
data_letter = 68

-- R
abbrev pub result_letter : ℕ
result_letter = 82

-- K
abbrev pub tick_letter : ℕ
tick_letter = 75

-- Z
abbrev pub reset_letter : ℕ
reset_letter = 90

-- ---- the second field of an answer: "action (- none, A byte, P string, M order)"

-- A
abbrev pub byte_sign : ℕ
byte_sign = 65

-- P
abbrev pub string_sign : ℕ
string_sign = 80

-- M
abbrev pub order_sign : ℕ
order_sign = 77
