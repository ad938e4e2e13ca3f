-- The limits of a wear log's line, and of the text that is printed of its view.
-- Assumes nothing.
use Rattle.std.specs.Prelude.{ℕ, ◌+◌, ◌*◌}
use Rattle.text.specs.Limits.{decimal_most}

-- a count has 32 bits
abbrev pub count_limit : ℕ
count_limit = 4294967295

-- the longest line that is printed: three numbers, each with its comma or #0A
abbrev pub text_most : ℕ
text_most = 3 * decimal_most + 3

-- 0,0,- and #0A
abbrev pub no_stretch_length : ℕ
no_stretch_length = 6
