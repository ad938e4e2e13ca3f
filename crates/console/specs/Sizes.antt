-- The sizes of a console's buffers. No paper gives a number for them.
-- Assumes nothing.
use Rattle.std.specs.Prelude.{ℕ, ◌-◌}

-- the input's buffer
abbrev pub input_size : ℕ
input_size = 65536

-- a line with its #0A fits there: one that is longer is too long to be read
abbrev pub line_limit : ℕ
line_limit = input_size - 1

-- the answers that wait
abbrev pub output_size : ℕ
output_size = 65536

-- no answer is longer than this
abbrev pub answer_limit : ℕ
answer_limit = 40960

-- with no more text than this waiting, an answer still fits
abbrev pub room : ℕ
room = output_size - answer_limit
