-- What stands in digits that were read as a string of bytes (document 01, Loads, restorer, session: "bytes and codes in
-- hexadecimal").
-- Assumes nothing.
use Rattle.std.specs.Prelude.{ℕ, List, Option, None, Some}
use Rattle.text.specs.Digits.{bytes_of}
use Rattle.text.specs.declared.read.Hex.{Hex}

-- the bytes that the digits spell
abbrev pub hex_bytes : {most : ℕ} → Hex most → List ℕ
hex_bytes h = bytes_of h.digits.now

-- and those of a field that was read, or nothing
abbrev pub hex_read : {most : ℕ} → Option (Hex most) → Option (List ℕ)
hex_read None = None
hex_read (Some h) = Some (hex_bytes h)
