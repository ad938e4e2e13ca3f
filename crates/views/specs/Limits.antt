-- The limits of a moving view (document 02, request 11).
-- Assumes nothing.
use Rattle.std.specs.Prelude.{ℕ}

-- "a width of 1 to 64"
abbrev pub width_limit : ℕ
width_limit = 64

-- "Take up to 65,535 result records"
abbrev pub run_limit : ℕ
run_limit = 65535

-- "For each full stretch .. write three bytes"
abbrev pub stretch_bytes : ℕ
stretch_bytes = 3
