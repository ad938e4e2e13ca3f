-- The characters that lines and answers share, each by its number as a byte (document 01, Loads, restorer, session).
-- Assumes nothing.
use Rattle.std.specs.Prelude.{ℕ}

-- , between two fields
abbrev pub comma : ℕ
comma = 44

-- #0A at the end of a line
abbrev pub line_feed : ℕ
line_feed = 10

-- : inside a record
abbrev pub colon : ℕ
colon = 58

-- - for none
abbrev pub none_sign : ℕ
none_sign = 45

-- ? for a line that cannot be read
abbrev pub unreadable_sign : ℕ
unreadable_sign = 63

-- ---- digits: "in hexadecimal .. letters capital"

-- 0
abbrev pub zero_digit : ℕ
zero_digit = 48

-- 9
abbrev pub nine_digit : ℕ
nine_digit = 57

-- A, which is ten
abbrev pub ten_digit : ℕ
ten_digit = 65

-- F, which is fifteen
abbrev pub fifteen_digit : ℕ
fifteen_digit = 70
