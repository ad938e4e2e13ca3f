-- The test of a whole image and its marks as they are handed in (document 01, Turned back, 9 and 10).
-- Assumes nothing.
use Rattle.std.specs.Prelude.{ℕ, not, List, ltb, eqb, length}
use Rattle.common.specs.Pick.{pick}
use Rattle.common.specs.Refusals.{done, wrong_length, mark_value}
use Rattle.marks.specs.Marks.{legal_marks}
use Rattle.records.specs.Count.{count_of}
use Rattle.records.specs.Image.{image_length, mark_count}

-- An image with this count: "9 .. wrong length of image or marks; 10 mark value".
unfoldable pub layout_refusal : List ℕ → List ℕ → ℕ → ℕ → ℕ
layout_refusal image marks c density =
    pick (not (eqb (length image) (image_length c density))) wrong_length
    (pick (not (eqb (length marks) (mark_count c density))) wrong_length (pick (legal_marks marks) done mark_value))

-- A whole image, with the count that it says. An image of less than two bytes has a wrong length.
unfoldable pub whole_refusal : List ℕ → List ℕ → ℕ → ℕ
whole_refusal image marks density =
    pick (ltb (length image) 2) wrong_length (layout_refusal image marks (count_of image) density)
