-- A GCR record that was built and read in two passes, of which each shows what was built, is merged and restored to the
-- bytes that it was built from.
-- Assumes nothing.
use mathlib.Core.Path.{◌≡◌, sym, ap, ap₂, ◌∙◌}
use mathlib.Core.Bool.{false, not, ◌||◌}
use mathlib.Core.List.{List}
use Prim.Native.Nat.{ℕ, ◌+◌, ◌*◌, ◌≤◌, ◌<◌}
use native.Mathlib.Omega.{arith}
use lib.Dec.{eqb}
use lib.ListN.{length, take, drop, get_or, length-append, length-drop}
use lib.Seq.{take_at, drop_at, length-take-le}
use borrow.Author.Tests.{eq-eqb, le-ltb}
use Rattle.common.specs.Space.{overwrite}
use Rattle.common.proofs.PickLaws.{pick_no}
use Rattle.blockettes.specs.Blockettes.{blockette_at}
use Rattle.passes.specs.Passes.{clashes, merged_marks, merged_blockettes}
use Rattle.passes.proofs.MergedLaws.{marks_length, mark_at, merged_legal, merged_good, blockettes_length, merged_at_lem}
use Rattle.passes.proofs.MergedLaws.{none_clash}
use Rattle.marks.specs.Marks.{Once}
use Rattle.records.specs.Count.{limit, count_of}
use Rattle.records.specs.Image.{image_of}
use Rattle.records.specs.Restore.{restore_refusal, restore_into}
use Rattle.records.specs.Merge.{Pass, pass_refusal, either_refused, pair_refusal, merge_refusal, merged_image}
use Rattle.records.specs.Spoiled.{Shown}
use Rattle.records.proofs.BuiltRecordsAreRestored.{said, shown_accepted, built_records_are_restored}

-- a pass that shows what was built
abbrev pub Shows : List ℕ → Pass → Type 0
Shows built p = Shown built p.image p.marks

-- ---- two passes over one image

module _ (built : List ℕ) (first second : Pass) (one : Shows built first) (two : Shows built second) where
  as_many : length second.marks ≡ length first.marks
  as_many = omega (arith, one.marked, two.marked)

  body_long : (p : Pass) → Shows built p → length (drop 2 p.image) ≡ 256 * length first.marks
  body_long p shows = simp length-drop (omega (arith, one.marked, shows.whole))

  front : length (take 2 first.image) ≡ 2
  front = length-take-le 2 first.image (omega (arith, one.whole, one.marked))

  abbrev body : List ℕ
  body = merged_blockettes (drop 2 first.image) first.marks (drop 2 second.image) second.marks

  abbrev marks : List ℕ
  marks = merged_marks first.marks second.marks

  -- no blockette is good in both and unlike
  pub agree : clashes (drop 2 first.image) first.marks (drop 2 second.image) second.marks ≡ false
  agree = none_clash _ _ _ _ (drop 2 built) one.good (λ place below. two.good place (omega (arith, as_many)))

  -- the merged image shows what was built
  pub merged_shows : Shown built (merged_image first second) marks
  unfolding merged_image
  merged_shows =
      let long = blockettes_length (drop 2 first.image) first.marks (drop 2 second.image) second.marks
      (body_long first one) (body_long second two) in
      let so_many = marks_length first.marks second.marks in
      record {
        whole = length-append (take 2 first.image) body ∙ ap₂ ◌+◌ front long ∙ sym one.marked;
        count = take_at (take 2 first.image) body 2 front ∙ one.count;
        marked = one.marked ∙ ap (λ (n : ℕ). 2 + 256 * n) (sym so_many);
        legal = merged_legal first.marks second.marks as_many one.legal two.legal;
        good = λ place within fine.
            let below : place < length first.marks = omega (arith, so_many) in
            ap (λ (l : List ℕ). blockette_at l place) (drop_at (take 2 first.image) body 2 front)
            ∙ merged_at_lem (drop 2 first.image) first.marks (drop 2 second.image) second.marks
            (body_long first one) (body_long second two) place below
            ∙ merged_good (drop 2 first.image) (drop 2 second.image) (blockette_at (drop 2 built) place)
            (get_or first.marks place 0) (get_or second.marks place 0) place
            (sym (mark_at first.marks second.marks place below) ∙ fine)
            (one.good place below)
            (two.good place (omega (arith, as_many)));
      }

-- ---- of a built record

module _ (bytes : List ℕ) (first second : Pass) (fits : length bytes ≤ limit) (one : Shows (image_of bytes 1) first)
    (two : Shows (image_of bytes 1) second) where
  -- merging is not refused where both spaces have room
  pub merging_is_accepted : (image_space marks_space : ℕ) → length first.image ≤ image_space
      → length first.marks ≤ marks_space
      → merge_refusal first second image_space marks_space ≡ 0
  unfolding merge_refusal either_refused pair_refusal
  merging_is_accepted image_space marks_space image_room marks_room =
      let one_whole : pass_refusal first ≡ 0 = shown_accepted bytes first.image first.marks fits one in
      let two_whole : pass_refusal second ≡ 0 = shown_accepted bytes second.image second.marks fits two in
      let one_count : count_of first.image ≡ count_of second.image =
      said bytes first.image first.marks fits one ∙ sym (said bytes second.image second.marks fits two)
      in
      let pair : pair_refusal first second ≡ 0 =
      pick_no 13 _ (ap not (eq-eqb _ _ one_count)) ∙ pick_no 14 0 (agree (image_of bytes 1) first second one two)
      in
      pick_no 9 _ (ap₂ (λ (a b : ℕ). eqb a 9 || eqb b 9) one_whole two_whole)
      ∙ pick_no 10 _ (ap₂ (λ (a b : ℕ). eqb a 10 || eqb b 10) one_whole two_whole)
      ∙ pick_no _ _ (ap not (eq-eqb _ 0 pair))
      ∙ pick_no 11 0 (ap₂ ◌||◌ (le-ltb _ _ image_room) (le-ltb _ _ marks_room))

  -- and restoring what it gives is the record
  pub merged_records_are_restored : Once (merged_marks first.marks second.marks) → (space : List ℕ)
      → length bytes ≤ length space
      → (restore_refusal (merged_image first second) (merged_marks first.marks second.marks) (length space) ≡ 0)
      × (restore_into (merged_image first second) (merged_marks first.marks second.marks) space
      ≡ overwrite bytes space)
  merged_records_are_restored once space room =
      built_records_are_restored bytes (merged_image first second) (merged_marks first.marks second.marks)
      space fits
      (record { shown = merged_shows (image_of bytes 1) first second one two; once = once }) room
