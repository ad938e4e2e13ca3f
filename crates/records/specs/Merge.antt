-- One record out of two passes (document 02, request 5): "Take two GCR images and their marks and write one image and
-- one list of marks."
-- Assumes nothing.
use Rattle.std.specs.Prelude.{ℕ, Bool, not, ◌||◌, List, ◌++◌, ltb, eqb, length, take, drop}
use Rattle.common.specs.Pick.{pick}
use Rattle.common.specs.Space.{overwrite}
use Rattle.common.specs.Refusals.{done, wrong_length, mark_value, space_short, counts_differ, blockettes_unlike}
use Rattle.passes.specs.Passes.{clashes, merged_marks, merged_blockettes}
use Rattle.records.specs.Count.{count_of}
use Rattle.records.specs.Whole.{whole_refusal}

-- a pass: a GCR image and its marks
pub record Pass : Type 0 where
  pub image : List ℕ
  pub marks : List ℕ

-- of these two
abbrev pub pass_of : List ℕ → List ℕ → Pass
pass_of image marks = record { image = image; marks = marks }

-- its own refusal, 9 or 10
abbrev pub pass_refusal : Pass → ℕ
pass_refusal p = whole_refusal p.image p.marks 1

-- whether either pass is refused with this number
unfoldable pub either_refused : Pass → Pass → ℕ → Bool
either_refused first second number = eqb (pass_refusal first) number || eqb (pass_refusal second) number

-- "13 the counts differ, 14 a blockette is good in both and unlike": of two passes that are whole
unfoldable pub pair_refusal : Pass → Pass → ℕ
pair_refusal first second =
    pick (not (eqb (count_of first.image) (count_of second.image))) counts_differ
    (pick (clashes (drop 2 first.image) first.marks (drop 2 second.image) second.marks)
    blockettes_unlike done)

-- 11 for either space: the merged image and its marks are as long as those of a pass
abbrev pub room_refusal : Pass → ℕ → ℕ → ℕ
room_refusal first image_space marks_space =
    pick (ltb image_space (length first.image) || ltb marks_space (length first.marks)) space_short done

-- "9, 10, 13, 14, then 11, in that order", each over both passes before the next
unfoldable pub merge_refusal : Pass → Pass → ℕ → ℕ → ℕ
merge_refusal first second image_space marks_space =
    pick (either_refused first second wrong_length) wrong_length
    (pick (either_refused first second mark_value) mark_value
    (pick (not (eqb (pair_refusal first second) done)) (pair_refusal first second)
    (room_refusal first image_space marks_space)))

-- the merged image: the count that both say, and the merged blockettes
unfoldable pub merged_image : Pass → Pass → List ℕ
merged_image first second =
    take 2 first.image
    ++ merged_blockettes (drop 2 first.image) first.marks (drop 2 second.image) second.marks

-- both spaces afterwards: "leaves the rest of it as it was", and all of it where the call is refused
unfoldable pub merge_image_into : Pass → Pass → List ℕ → ℕ → List ℕ
merge_image_into first second image marks_space =
    pick (eqb (merge_refusal first second (length image) marks_space) done)
    (overwrite (merged_image first second) image) image

unfoldable pub merge_marks_into : Pass → Pass → ℕ → List ℕ → List ℕ
merge_marks_into first second image_space marks =
    pick (eqb (merge_refusal first second image_space (length marks)) done)
    (overwrite (merged_marks first.marks second.marks) marks) marks
