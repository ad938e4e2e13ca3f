-- The restorer: "GCR image and marks to c bytes" (document 01, Loads, restorer, session).
-- Assumes nothing.
use Rattle.std.specs.Prelude.{ℕ, ◌+◌, ◌-◌, ◌*◌, List, ◌++◌, ltb, eqb, length, take, drop}
use Rattle.common.specs.Pick.{pick}
use Rattle.common.specs.Space.{overwrite}
use Rattle.common.specs.Refusals.{done, space_short, unrestorable}
use Rattle.blockettes.specs.Blockettes.{blockette_length, others_of}
use Rattle.marks.specs.Scan.{scan_marks}
use Rattle.records.specs.Count.{count_of}
use Rattle.records.specs.Image.{blockette_count}
use Rattle.records.specs.Whole.{whole_refusal}

-- "9, 10" of a GCR image; "11 .. the restorer's output space, short; 12 restorer: two bad of one parity", lowest first
unfoldable pub restore_refusal : List ℕ → List ℕ → ℕ → ℕ
restore_refusal image marks space =
    pick (eqb (whole_refusal image marks 1) done)
    (pick (ltb space (count_of image)) space_short
    (pick (ltb (scan_marks marks).stop (length marks)) unrestorable done))
    (whole_refusal image marks 1)

-- a string with another written over it from a start, as far as it goes
unfoldable pub written_at : List ℕ → ℕ → List ℕ → List ℕ
written_at bytes start new = take start bytes ++ (take (length bytes - start) new ++ drop (start + length new) bytes)

-- Bytes whose blockette at a place is made from the others of its parity, check blockette included; a place at n or
-- above is that of a check blockette, or none, and leaves the bytes as they are.
unfoldable pub mend_at : List ℕ → ℕ → ℕ → List ℕ → List ℕ
mend_at blockettes n place bytes =
    pick (ltb place n) (written_at bytes (blockette_length * place) (others_of blockettes (n + 2) place)) bytes

-- c bytes from the blockettes of a record, n of data, with the blockettes at two places restored
abbrev pub restored_of : List ℕ → ℕ → ℕ → ℕ → ℕ → List ℕ
restored_of blockettes n odd even c = mend_at blockettes n even (mend_at blockettes n odd (take c blockettes))

-- "GCR image and marks to c bytes": the bad odd and the bad even blockette are restored
unfoldable pub restored_bytes : List ℕ → List ℕ → List ℕ
restored_bytes image marks =
    restored_of (drop 2 image) (blockette_count (count_of image)) (scan_marks marks).odd (scan_marks marks).even
    (count_of image)

-- the output space afterwards: as it was where the call is refused
unfoldable pub restore_into : List ℕ → List ℕ → List ℕ → List ℕ
restore_into image marks space =
    pick (eqb (restore_refusal image marks (length space)) done) (overwrite (restored_bytes image marks) space) space
