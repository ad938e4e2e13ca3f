-- A built record with some blockettes spoiled is restored to its bytes, and the restorer accepts it: what
-- `BuiltRecordsAreRestored` rests on.
-- Assumes nothing.
use mathlib.Core.Path.{◌≡◌, refl, sym, ap, ◌∙◌}
use mathlib.Core.Bool.{true, not}
use mathlib.Core.List.{List}
use Prim.Native.Nat.{ℕ, ◌+◌, ◌*◌, ◌/◌, ◌%◌, ◌≤◌, ◌<◌}
use native.Mathlib.Nat.{le_of_eq}
use native.Mathlib.Decide.{ℕ_discrete}
use native.Mathlib.Omega.{arith}
use lib.ListN.{length, take, drop, get_or, length-drop}
use lib.Seq.{get_or-take, length-take-le, ext_get_or}
use borrow.Author.Tests.{eq-eqb, le-ltb}
use Rattle.common.specs.Space.{overwrite, filled}
use Rattle.common.proofs.PickLaws.{pick_yes, pick_no, where_done}
use Rattle.blockettes.specs.Blockettes.{blockette_at, others_of}
use Rattle.blockettes.proofs.Others.{others_same}
use Rattle.blockettes.proofs.Checked.{blockette_at_lem, others_are_it}
use Rattle.marks.specs.Marks.{legal_marks, Once}
use Rattle.marks.specs.Scan.{scan_marks}
use Rattle.marks.proofs.ScanLaws.{Found, ScannedOnce, scanned_once, beside_good, not_found_good}
use Rattle.records.specs.Count.{count_of}
use Rattle.records.specs.Image.{blockette_count, blockettes_of, image_of, image_length, mark_count}
use Rattle.records.specs.Whole.{layout_refusal, whole_refusal}
use Rattle.records.specs.Restore.{mend_at, restore_refusal, restored_bytes, restore_into}
use Rattle.records.proofs.ImageLaws.{blockettes_tight, whole_blockettes, marks_of, body_is, body_front}
use Rattle.records.proofs.ImageLaws.{image_holds}
use Rattle.records.proofs.Mending.{mended_length, mended_here, mended_elsewhere}

-- ---- a record whose blockettes are spoiled where they are marked

module _ (bytes built blockettes marks : List ℕ) (n : ℕ) (count : n ≡ blockette_count (length bytes))
    (front : (i : ℕ) → i < length bytes → get_or built i 0 ≡ get_or bytes i 0)
    (each : (place : ℕ) → place < n + 2 → others_of built (n + 2) place ≡ blockette_at built place)
    (marked : length marks ≡ n + 2)
    (once : ScannedOnce marks)
    (good : (place : ℕ) → place < length marks → get_or marks place 0 ≡ 15
    → blockette_at blockettes place ≡ blockette_at built place) where
  -- the others of an error that is found restore its blockette as it was built
  others_restore : (parity place : ℕ) → Found marks parity (length marks) place → place < n
      → others_of blockettes (n + 2) place ≡ blockette_at built place
  others_restore parity place found below =
      others_same blockettes built (n + 2) place (omega arith)
      (λ j inside same other.
      let within : j < length marks = omega arith in
      good j within (beside_good marks parity place found (omega arith) j within (rw marked same) other))
      ∙ each place (omega arith)

  -- a byte of a place that is so restored
  byte_mended : (place : ℕ) (old : List ℕ) (i : ℕ) → i < length bytes → length old ≡ length bytes → i / 256 ≡ place
      → others_of blockettes (n + 2) place ≡ blockette_at built place
      → get_or (mend_at blockettes n place old) i 0 ≡ get_or bytes i 0
  unfolding blockette_count
  byte_mended place old i inside as_long here restored =
      mended_here blockettes n place old i (omega arith) here (omega arith)
      ∙ ap (λ (l : List ℕ). get_or l (i % 256) 0) (restored ∙ ap (blockette_at built) (sym here))
      ∙ blockette_at_lem built i ∙ front i inside

  -- a byte of a place that is good
  byte_good : (i : ℕ) → i < length bytes → get_or marks (i / 256) 0 ≡ 15 → get_or blockettes i 0 ≡ get_or bytes i 0
  unfolding blockette_count
  byte_good i inside fine =
      sym (blockette_at_lem blockettes i)
      ∙ ap (λ (l : List ℕ). get_or l (i % 256) 0) (good (i / 256) (omega arith) fine)
      ∙ blockette_at_lem built i
      ∙ front i inside

  -- a byte, after the odd and then the even error are mended
  byte_restored : (old : List ℕ) → length old ≡ length bytes
      → ((i : ℕ) → i < length bytes → get_or old i 0 ≡ get_or blockettes i 0) → (i : ℕ)
      → i < length bytes
      → get_or (mend_at blockettes n (scan_marks marks).even (mend_at blockettes n (scan_marks marks).odd old)) i 0
      ≡ get_or bytes i 0
  unfolding blockette_count
  byte_restored old as_long same i inside =
      let odd = (scan_marks marks).odd in
      let even = (scan_marks marks).even in
      let half = mend_at blockettes n odd old in
      let kept : length half ≡ length bytes = mended_length blockettes n odd old (omega arith) ∙ as_long in
      let place : i / 256 < n = omega arith in
      elim (ℕ_discrete (i / 256) even) [
        | yes here ↦ byte_mended even half i inside kept here (others_restore 0 even once.even (omega arith))
        | no not_even ↦
            mended_elsewhere blockettes n even half i (omega arith) not_even
            ∙ elim (ℕ_discrete (i / 256) odd) [
              | yes here ↦ byte_mended odd old i inside as_long here (others_restore 1 odd once.odd (omega arith))
              | no not_odd ↦
                  mended_elsewhere blockettes n odd old i (omega arith) not_odd ∙ same i inside
                  ∙ byte_good i inside (not_found_good marks once (i / 256) (omega arith) not_odd not_even)
            ]
      ]

-- ---- the restorer

-- each blockette of a GCR image is what the others of its parity restore
pub body_others : (bytes : List ℕ) → 0 < length bytes → (place : ℕ) → place < blockette_count (length bytes) + 2
    → others_of (drop 2 (image_of bytes 1)) (blockette_count (length bytes) + 2) place
    ≡ blockette_at (drop 2 (image_of bytes 1)) place
unfolding blockettes_of
body_others bytes some place h =
    let n = blockette_count (length bytes) in
    rw (body_is bytes some) (others_are_it (filled bytes (256 * n)) n (whole_blockettes bytes) place h)

-- the bytes that it makes
pub restored_bytes_lem : (bytes image marks : List ℕ) → count_of image ≡ length bytes → 2 + length bytes ≤ length image
    → length marks ≡ mark_count (length bytes) 1 → Once marks
    → ((place : ℕ) → place < length marks → get_or marks place 0 ≡ 15
    → blockette_at (drop 2 image) place ≡ blockette_at (drop 2 (image_of bytes 1)) place)
    → restored_bytes image marks ≡ bytes
unfolding restored_bytes
restored_bytes_lem bytes image marks said long marked once good =
    let blocks = drop 2 image in
    let c = length bytes in
    let n = blockette_count c in
    let old = take c blocks in
    let odd = (scan_marks marks).odd in
    let even = (scan_marks marks).even in
    let half = mend_at blocks n odd old in
    let as_long : length old ≡ c = length-take-le c blocks (simp length-drop (omega arith)) in
    let few : 256 * n < c + 256 = blockettes_tight c in
    let kept : length half ≡ c = mended_length blocks n odd old (rw as_long few) ∙ as_long in
    let done : length (mend_at blocks n even half) ≡ c = mended_length blocks n even half (rw kept few) ∙ kept in
    ap (λ (k : ℕ). mend_at blocks (blockette_count k) even (mend_at blocks (blockette_count k) odd (take k blocks)))
    said
    ∙ ext_get_or 0 (mend_at blocks n even half) bytes done
    (λ i inside.
    let below : i < c = omega arith in
    let some : 0 < c = omega arith in
    byte_restored bytes (drop 2 (image_of bytes 1)) blocks marks n refl (body_front bytes some) (body_others bytes some)
    (marked ∙ marks_of c some)
    (scanned_once marks once) good old as_long (λ j h. get_or-take c blocks j 0 h) i below)

module _ (image marks : List ℕ) (long : length image ≡ image_length (count_of image) 1)
    (marked : length marks ≡ mark_count (count_of image) 1) (legal : legal_marks marks ≡ true) where
  -- the test passes
  pub whole_accepted : whole_refusal image marks 1 ≡ 0
  unfolding whole_refusal layout_refusal
  whole_accepted =
      let two : 2 ≤ length image = omega (arith, image_holds (count_of image) 1) in
      pick_no 9 _ (le-ltb (length image) 2 two)
      ∙ pick_no 9 _ (ap not (eq-eqb (length image) (image_length (count_of image) 1) long))
      ∙ pick_no 9 _ (ap not (eq-eqb (length marks) (mark_count (count_of image) 1) marked))
      ∙ pick_yes 0 10 legal

  -- and the restorer answers 0
  pub restorer_accepts : Once marks → (space : ℕ) → count_of image ≤ space → restore_refusal image marks space ≡ 0
  unfolding restore_refusal
  restorer_accepts once space room =
      pick_yes _ _ (eq-eqb (whole_refusal image marks 1) 0 whole_accepted)
      ∙ pick_no 11 _ (le-ltb space (count_of image) room)
      ∙ pick_no 12 0 (le-ltb (scan_marks marks).stop (length marks) (le_of_eq (sym (scanned_once marks once).stop)))

-- what it leaves in the space where it answers 0
pub restorer_gives : (image marks space : List ℕ) → restore_refusal image marks (length space) ≡ 0
    → restore_into image marks space ≡ overwrite (restored_bytes image marks) space
unfolding restore_into
restorer_gives image marks space accepted =
    where_done (restore_refusal image marks (length space)) (overwrite (restored_bytes image marks) space)
    space accepted
