-- The characters of the contest program's lines and answers, each by its number as a byte, beyond those of the session
-- program. Document 02 gives none.
-- Assumes nothing.
use Rattle.std.specs.Prelude.{ℕ}

-- ---- the first letter of a line: the gap

-- P
abbrev pub proper_letter : ℕ
proper_letter = 80

-- I
abbrev pub improper_letter : ℕ
improper_letter = 73

-- ---- the second field of an answer

-- Y
abbrev pub yes_sign : ℕ
yes_sign = 89

-- N
abbrev pub no_sign : ℕ
no_sign = 78

-- ---- the third

-- W
abbrev pub write_sign : ℕ
write_sign = 87

-- S
abbrev pub skip_sign : ℕ
skip_sign = 83
