-- A GCR record that was built and spoiled is restored to the bytes that it was built from: what the definitions of
-- builder and restorer come to.
-- Assumes nothing.
use mathlib.Core.Path.{◌≡◌, ap, sym, ◌∙◌}
use mathlib.Core.List.{List}
use Prim.Native.Nat.{ℕ, ◌≤◌}
use native.Mathlib.Omega.{arith}
use lib.ListN.{length}
use Rattle.common.specs.Space.{overwrite}
use Rattle.marks.specs.Marks.{Once}
use Rattle.records.specs.Count.{limit, count_bytes, count_of}
use Rattle.records.specs.Image.{image_of, image_length, mark_count}
use Rattle.records.specs.Whole.{whole_refusal}
use Rattle.records.specs.Restore.{restore_refusal, restored_bytes, restore_into}
use Rattle.records.specs.Spoiled.{Shown, Spoiled}
use Rattle.records.proofs.ImageLaws.{limit_16, count_said_lem, image_length_lem, image_holds, marks_fill}
use Rattle.records.proofs.Restoring.{whole_accepted, restored_bytes_lem, restorer_accepts, restorer_gives}

-- an image that shows what was built
module _ (bytes image marks : List ℕ) (fits : length bytes ≤ limit) (s : Shown (image_of bytes 1) image marks) where
  -- the image says the count of the bytes
  pub said : count_of image ≡ length bytes
  unfolding image_of count_bytes
  said = count_said_lem image (length bytes) (omega (arith, limit_16)) s.count

  -- its length is that of its count
  long : length image ≡ image_length (length bytes) 1
  long = s.whole ∙ image_length_lem bytes 1

  -- and so is the number of its marks
  marked : length marks ≡ mark_count (length bytes) 1
  marked = omega (arith, sym s.marked ∙ image_length_lem bytes 1 ∙ marks_fill (length bytes))

  -- it passes the test
  pub shown_accepted : whole_refusal image marks 1 ≡ 0
  shown_accepted = whole_accepted image marks (rw said long) (rw said marked) s.legal

  -- with at most one error of each parity the restorer does not refuse
  accepted : Once marks → (space : ℕ) → length bytes ≤ space → restore_refusal image marks space ≡ 0
  accepted once space room =
      restorer_accepts image marks (rw said long) (rw said marked) s.legal once space (rw said room)

  -- and the restored bytes are those that it was built from
  pub restored_are_the_bytes : Once marks → restored_bytes image marks ≡ bytes
  restored_are_the_bytes once =
      restored_bytes_lem bytes image marks said (omega (arith, long, image_holds (length bytes) 1)) marked once s.good

-- The restorer does not refuse, and gives the bytes at the start of the space.
pub built_records_are_restored :
    (bytes image marks space : List ℕ) → length bytes ≤ limit → Spoiled (image_of bytes 1) image marks
    → length bytes ≤ length space
    → (restore_refusal image marks (length space) ≡ 0) × (restore_into image marks space ≡ overwrite bytes space)
built_records_are_restored bytes image marks space fits s room =
    let none = accepted bytes image marks fits s.shown s.once (length space) room in (
      none,
      restorer_gives image marks space none
          ∙ ap (λ (l : List ℕ). overwrite l space) (restored_are_the_bytes bytes image marks fits s.shown s.once),
    )
