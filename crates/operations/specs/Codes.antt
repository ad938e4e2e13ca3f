-- The codes that the controller itself gives (document 01, Stores; Records); the others come with a result. Their names
-- are those of source document 001.
-- Assumes nothing.
use Rattle.std.specs.Prelude.{ℕ}

-- "a named drive above 3 is code 01"
abbrev pub illegal_drive : ℕ
illegal_drive = 0x01

-- "1, 2, 7: code 02"; "others code 02"; a supplied count "needs GCR, otherwise code 02"
abbrev pub illegal_store : ℕ
illegal_store = 0x02

-- "04-07 code 03"
abbrev pub illegal_track : ℕ
illegal_track = 0x03

-- "Code 04 unless: .."
abbrev pub illegal_motion : ℕ
illegal_motion = 0x04

-- "A write offers GO; a no is code 05"
abbrev pub no_go : ℕ
no_go = 0x05

-- "none is installed, code 7 replaces the code"
abbrev pub offline : ℕ
offline = 0x07

-- "A supplied count of 0 .. ends as 13" (document 02, request 1)
abbrev pub blockette_number_wrong : ℕ
blockette_number_wrong = 0x13

-- "At most one of each parity: code 15"
abbrev pub recoverable : ℕ
recoverable = 0x15

-- "Else 16"
abbrev pub unrecoverable : ℕ
unrecoverable = 0x16
