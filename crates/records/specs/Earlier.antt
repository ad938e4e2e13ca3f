-- The records of before the limit was raised (document 02, request 3): "Tapes written before read the same, because the
-- count was 16 bits and a blockette number one byte from the start." The image of a record (`image_of`), its length and
-- its marks never looked at the limit, and do not look at it now. What the C functions answered did, in one test; here
-- it is as it was, with the limit of before.
-- Assumes nothing.
use Rattle.std.specs.Prelude.{ℕ, List, ltb, eqb, length}
use Rattle.common.specs.Pick.{pick}
use Rattle.common.specs.Space.{overwrite}
use Rattle.common.specs.Refusals.{done, wrong_length, space_short, unrestorable}
use Rattle.marks.specs.Scan.{scan_marks}
use Rattle.records.specs.Count.{count_of}
use Rattle.records.specs.Image.{image_of, image_length}
use Rattle.records.specs.Whole.{layout_refusal}
use Rattle.records.specs.Restore.{restored_bytes}

-- "records that are longer than 16,384 bytes"
abbrev pub earlier_limit : ℕ
earlier_limit = 16384

-- the builder: its refusal, and the space afterwards
abbrev pub earlier_build_refusal : ℕ → ℕ → ℕ → ℕ
earlier_build_refusal c density space =
    pick (ltb earlier_limit c) wrong_length (pick (ltb space (image_length c density)) space_short done)

abbrev pub earlier_build_into : List ℕ → ℕ → List ℕ → List ℕ
earlier_build_into bytes density space =
    pick (eqb (earlier_build_refusal (length bytes) density (length space)) done)
    (overwrite (image_of bytes density) space) space

-- the restorer: the test of its image, its refusal, and the space afterwards
abbrev pub earlier_whole_refusal : List ℕ → List ℕ → ℕ
earlier_whole_refusal image marks =
    pick (ltb (length image) 2) wrong_length
    (pick (ltb earlier_limit (count_of image)) wrong_length (layout_refusal image marks (count_of image) 1))

abbrev pub earlier_restore_refusal : List ℕ → List ℕ → ℕ → ℕ
earlier_restore_refusal image marks space =
    pick (eqb (earlier_whole_refusal image marks) done)
    (pick (ltb space (count_of image)) space_short
    (pick (ltb (scan_marks marks).stop (length marks)) unrestorable done))
    (earlier_whole_refusal image marks)

abbrev pub earlier_restore_into : List ℕ → List ℕ → List ℕ → List ℕ
earlier_restore_into image marks space =
    pick (eqb (earlier_restore_refusal image marks (length space)) done)
    (overwrite (restored_bytes image marks) space) space
