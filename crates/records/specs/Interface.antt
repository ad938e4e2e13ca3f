-- What the C functions answer where document 01 leaves it to us.
-- Assumes nothing.
use Rattle.std.specs.Prelude.{ℕ, List, [], ◌∷◌, ltb, eqb, length}
use Rattle.common.specs.Pick.{pick}
use Rattle.common.specs.Space.{overwrite}
use Rattle.common.specs.Refusals.{done, space_short}
use Rattle.marks.specs.Scan.{Defect, findings_of}
use Rattle.records.specs.Count.{limit, count_of}
use Rattle.records.specs.Image.{image_length, mark_count}

-- the length of an image, 0 where no image has the count
unfoldable pub image_length_within : ℕ → ℕ → ℕ
image_length_within c density = pick (ltb limit c) 0 (image_length c density)

-- the number of marks, 0 where no image has the count
unfoldable pub mark_count_within : ℕ → ℕ → ℕ
mark_count_within c density = pick (ltb limit c) 0 (mark_count c density)

-- what is no count: one more than 16 bits hold
abbrev pub no_count : ℕ
no_count = 65536

-- the count of an image, and no count where two bytes are not there
unfoldable pub image_count : List ℕ → ℕ
image_count image = pick (ltb (length image) 2) no_count (count_of image)

-- the bytes of a report
abbrev pub report_length : ℕ
report_length = 9

-- what is told of an error, as three bytes
abbrev pub defect_report : Defect → List ℕ
defect_report defect = defect.mark ∷ defect.kind ∷ defect.number ∷ []

-- what the scan finds, as nine bytes: mark, kind and number of the first odd error, of the first even one, and of the
-- stopping one
unfoldable pub scan_report : List ℕ → List ℕ
scan_report marks =
    let found = findings_of marks in
    found.odd.mark ∷ found.odd.kind ∷ found.odd.number
    ∷ found.even.mark ∷ found.even.kind ∷ found.even.number ∷ found.stop.mark
    ∷ found.stop.kind
    ∷ found.stop.number
    ∷ []

-- "11 .. short" where the report does not fit
unfoldable pub scan_refusal : ℕ → ℕ
scan_refusal space = pick (ltb space report_length) space_short done

-- the space afterwards: as it was where the call is refused
unfoldable pub scan_into : List ℕ → List ℕ → List ℕ
scan_into marks space = pick (eqb (scan_refusal (length space)) done) (overwrite (scan_report marks) space) space
