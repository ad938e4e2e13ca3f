-- The longest texts that the contest program prints for a line, which bound what an answer needs of the space.
-- Assumes nothing.
use Rattle.std.specs.Prelude.{ℕ, ◌+◌}

-- a refusal of two digits, two fields of one character, each behind a comma, and #0A
abbrev pub contest_most : ℕ
contest_most = 2 + 2 + 2 + 1

-- ?,-,- and #0A
abbrev pub contest_unreadable_length : ℕ
contest_unreadable_length = 6
