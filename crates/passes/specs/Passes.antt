-- One record out of two passes (document 02, request 5), blockette by blockette: "Worn cartridges are read twice, and
-- different blockettes fail." A place counts from 0 in tape order, check blockettes included; a pass is the bytes of
-- its blockettes and their marks.
-- Assumes nothing.
use Rattle.std.specs.Prelude.{ℕ, zero, suc, Bool, true, false, not, ◌&&◌, ◌||◌, List, [], ◌∷◌, ◌++◌, eqb, length}
use Rattle.std.specs.Prelude.{get_or}
use Rattle.common.specs.Pick.{pick}
use Rattle.blockettes.specs.Blockettes.{blockette_at}
use Rattle.marks.specs.Marks.{is_error}

-- two strings of the same bytes
unfoldable pub same_bytes : List ℕ → List ℕ → Bool
same_bytes [] [] = true
same_bytes [] (y ∷ ys) = false
same_bytes (x ∷ xs) [] = false
same_bytes (x ∷ xs) (y ∷ ys) = eqb x y && same_bytes xs ys

-- two blockettes, of which the opposite is "unlike"
abbrev pub same_blockettes : List ℕ → List ℕ → Bool
same_blockettes a b = same_bytes a b

-- whether a test holds at any of the first n places
unfoldable pub any_place : (ℕ → Bool) → ℕ → Bool
any_place test zero = false
any_place test (suc n) = any_place test n || test n

-- "14 a blockette is good in both and unlike", at a place
unfoldable pub clash_at : List ℕ → List ℕ → List ℕ → List ℕ → ℕ → Bool
clash_at first first_marks second second_marks place =
    not (is_error (get_or first_marks place 0))
    && (not (is_error (get_or second_marks place 0))
    && not (same_blockettes (blockette_at first place) (blockette_at second place)))

-- at any
unfoldable pub clashes : List ℕ → List ℕ → List ℕ → List ℕ → Bool
clashes first first_marks second second_marks =
    any_place (clash_at first first_marks second second_marks) (length first_marks)

-- "A blockette comes from the first pass if that marks it good, else from the second if that does, else from the first
-- with its mark.": by the two marks, whether it comes from the second
unfoldable pub takes_second : ℕ → ℕ → Bool
takes_second first_mark second_mark = is_error first_mark && not (is_error second_mark)

-- its mark
unfoldable pub merged_mark : ℕ → ℕ → ℕ
merged_mark first_mark second_mark = pick (takes_second first_mark second_mark) second_mark first_mark

-- the parts at the first n places, one behind the other
unfoldable pub joined : (ℕ → List ℕ) → ℕ → List ℕ
joined part zero = []
joined part (suc n) = joined part n ++ part n

-- all marks
unfoldable pub merged_marks : List ℕ → List ℕ → List ℕ
merged_marks first_marks second_marks =
    joined (λ place. merged_mark (get_or first_marks place 0) (get_or second_marks place 0) ∷ []) (length first_marks)

-- its bytes, of those of the first and of the second
abbrev pub merged_blockette : ℕ → ℕ → List ℕ → List ℕ → List ℕ
merged_blockette first_mark second_mark first second = pick (takes_second first_mark second_mark) second first

-- its bytes, at a place
unfoldable pub merged_at : List ℕ → ℕ → List ℕ → ℕ → ℕ → List ℕ
merged_at first first_mark second second_mark place =
    merged_blockette first_mark second_mark (blockette_at first place) (blockette_at second place)

-- all blockettes
unfoldable pub merged_blockettes : List ℕ → List ℕ → List ℕ → List ℕ → List ℕ
merged_blockettes first first_marks second second_marks =
    joined (λ place. merged_at first (get_or first_marks place 0) second (get_or second_marks place 0) place)
    (length first_marks)
