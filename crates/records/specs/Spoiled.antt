-- An image that was built in GCR and has been spoiled since: demand 2's condition for what the restorer gives back.
-- Assumes nothing.
use Rattle.std.specs.Prelude.{ℕ, ◌+◌, ◌*◌, ◌<◌, ◌≡◌, true, List, ◌++◌, length, take, drop, get_or}
use Rattle.blockettes.specs.Blockettes.{blockette_length, blockette_at}
use Rattle.marks.specs.Marks.{legal_marks, Once}
use Rattle.records.specs.Restore.{written_at}

-- An image as it was built, as it is read now, and its marks: "the built count", and "the built bytes in every
-- blockette that it marks good" (document 02, request 5). A blockette's place counts from 0 in tape order behind the
-- two count bytes.
pub record Shown (built image marks : List ℕ) : Type 0 where
  -- nothing is lost
  pub whole : length image ≡ length built
  -- it still says "the built count"
  pub count : take 2 image ≡ take 2 built
  -- one mark for each blockette
  pub marked : length built ≡ 2 + blockette_length * length marks
  -- "1-9 an error, 15 good"
  pub legal : legal_marks marks ≡ true
  -- "the built bytes in every blockette that it marks good"
  pub good : (place : ℕ) → place < length marks → get_or marks place 0 ≡ 15
      → blockette_at (drop 2 image) place ≡ blockette_at (drop 2 built) place

-- Some blockettes hold other bytes, those alone are marked, and "At most one of each parity".
pub record Spoiled (built image marks : List ℕ) : Type 0 where
  pub shown : Shown built image marks
  pub once : Once marks

-- an image with other bytes in place of one of its blockettes
unfoldable pub spoiled_at : List ℕ → ℕ → List ℕ → List ℕ
spoiled_at image place bytes = take 2 image ++ written_at (drop 2 image) (blockette_length * place) bytes
