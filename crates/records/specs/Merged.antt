-- What merging two passes leaves, blockette by blockette (document 02, request 5): "A blockette comes from the first
-- pass if that marks it good, else from the second if that does, else from the first with its mark." A place counts
-- from 0 in tape order, check blockettes included: the blockette at it has the 256 bytes behind the two count bytes and
-- the blockettes before it, and the mark at that place; 15 is good.
-- Assumes nothing.
use Rattle.std.specs.Prelude.{◌≡◌, ℕ, ◌+◌, ◌*◌, ◌<◌, List, length, take, drop, get_or}
use Rattle.records.specs.Merge.{Pass}

-- a blockette of the merged image, with its mark, is that of a pass
abbrev pub ComesFrom : Pass → ℕ → List ℕ → List ℕ → Type 0
ComesFrom p place image marks =
    (take 256 (drop (2 + 256 * place) image) ≡ take 256 (drop (2 + 256 * place) p.image))
    × (get_or marks place 0 ≡ get_or p.marks place 0)

-- both spaces as they were lent, and as they are left
pub record Merged (first second : Pass) (image_before marks_before image marks : List ℕ) : Type 0 where
  -- both passes say one count
  pub count : take 2 image ≡ take 2 first.image
  -- "from the first pass if that marks it good"
  pub first_good : (place : ℕ) → place < length first.marks → get_or first.marks place 0 ≡ 15
      → ComesFrom first place image marks
  -- "else from the second if that does"
  pub second_good : (place : ℕ) → place < length first.marks → (get_or first.marks place 0 ≡ 15 → ⊥)
      → get_or second.marks place 0 ≡ 15 → ComesFrom second place image marks
  -- "else from the first with its mark"
  pub neither_good : (place : ℕ) → place < length first.marks → (get_or first.marks place 0 ≡ 15 → ⊥)
      → (get_or second.marks place 0 ≡ 15 → ⊥) → ComesFrom first place image marks
  -- "leaves the rest of it as it was"
  pub image_rest : drop (length first.image) image ≡ drop (length first.image) image_before
  pub marks_rest : drop (length first.marks) marks ≡ drop (length first.marks) marks_before
