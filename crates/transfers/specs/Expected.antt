-- What a result brings, and the test of it (document 01, Records, "Result"; Turned back, 9 and 10; document 02,
-- request 1).
-- Assumes nothing.
use Rattle.std.specs.Prelude.{ℕ, Bool, not, ◌&&◌, ◌||◌, List, eqb, length}
use Rattle.common.specs.Pick.{pick}
use Rattle.common.specs.Refusals.{done, wrong_length}
use Rattle.records.specs.Whole.{layout_refusal, whole_refusal}
use Rattle.status.specs.Drives.{mfm, gcr}
use Rattle.operations.specs.declared.operation.Operation.{Operation}
use Rattle.operations.specs.declared.operation.Operation.TheVariants.{SkipReverse}
use Rattle.operations.specs.declared.store.Store.{Store}
use Rattle.operations.specs.Operation.{same_operation, supplies_count, brings_record}
use Rattle.operations.specs.Store.{held_count}
use Rattle.transfers.specs.declared.expected.Expected.{Expected}
use Rattle.transfers.specs.declared.expected.Expected.TheVariants.{Whole, Supplied, Count, Nothing}

-- "code 0, 10, 11 or 12"
unfoldable pub whole_code : ℕ → Bool
whole_code code = eqb code 0 || (eqb code 0x10 || (eqb code 0x11 || eqb code 0x12))

-- "The image is whole for a read or forward skip with code 0, 10, 11 or 12 and no mark"
unfoldable pub expected_whole : ℕ → ℕ → Bool → Expected
expected_whole density code mark = pick (whole_code code && not mark) (Whole density) Nothing

-- of a supplied count: "With code 0 the image and marks have the length which the supplied count gives"; "A supplied
-- count of 0 takes an empty image"
unfoldable pub expected_supplied : ℕ → ℕ → Expected
expected_supplied count code = pick (eqb code 0 && not (eqb count 0)) (Supplied count) Nothing

-- "..; two count bytes for a GCR reverse skip with code 0 and no mark"
abbrev pub expected_count : ℕ → ℕ → Bool → Expected
expected_count density code mark = pick (not (eqb density mfm) && (eqb code 0 && not mark)) Count Nothing

-- "..; else image and marks are empty."
unfoldable pub expected_of : Operation → Store → ℕ → ℕ → Bool → Expected
expected_of operation store density code mark =
    pick (brings_record operation) (expected_whole density code mark)
    (pick (supplies_count operation) (expected_supplied (held_count store) code)
    (pick (same_operation operation SkipReverse) (expected_count density code mark) Nothing))

-- an image of this length, and no marks: "9 .. wrong length of image or marks"
unfoldable pub unmarked_refusal : List ℕ → List ℕ → ℕ → ℕ
unmarked_refusal image marks n =
    pick (not (eqb (length image) n)) wrong_length (pick (eqb (length marks) 0) done wrong_length)

-- what is expected decides: with a supplied count, "the image's own count is not looked at"; "two count bytes", and no
-- marks; "image and marks are empty"
unfoldable pub image_refusal : List ℕ → List ℕ → Expected → ℕ
image_refusal image marks (Whole density) = whole_refusal image marks density
image_refusal image marks (Supplied count) = layout_refusal image marks count gcr
image_refusal image marks Count = unmarked_refusal image marks 2
image_refusal image marks Nothing = unmarked_refusal image marks 0
