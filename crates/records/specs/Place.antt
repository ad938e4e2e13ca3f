-- Host parity errors (document 02, request 6): the place of the byte that came with bad parity, "counted from 0 over
-- all bytes handed in", and what is then written of a record.
-- Assumes nothing.
use Rattle.std.specs.Prelude.{ℕ, ◌+◌, Bool, ◌||◌, List, ltb, eqb, length, take, drop}
use Rattle.common.specs.Pick.{pick}
use Rattle.common.specs.Space.{filled}

-- "or 65,535 plus 256 for none": behind the last byte that a store can need, 255 thrown away and 65,535 counted
abbrev pub no_place : ℕ
no_place = 65791

-- a place "in the host bytes", or "the value for none"
unfoldable pub is_place : ℕ → ℕ → Bool
is_place handed place = ltb place handed || eqb place no_place

-- how many of the bytes handed in are written as they came: "The byte itself is written as it came", and those before
-- it
unfoldable pub as_came : ℕ → ℕ → ℕ
as_came handed place = pick (ltb place handed) (place + 1) handed

-- The bytes that are written of a record of this count, so many of those handed in being thrown away before it: "every
-- record byte after it is zero"; "A bad byte among those thrown away makes the whole record zeros"; and "zeros fill"
-- where the host ran out.
unfoldable pub written_bytes : List ℕ → ℕ → ℕ → ℕ → List ℕ
written_bytes bytes place thrown count =
    filled (take count (drop thrown (take (as_came (length bytes) place) bytes))) count
