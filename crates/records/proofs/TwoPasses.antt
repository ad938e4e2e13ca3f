-- Two passes there are of which neither can be restored alone, and which can be merged and restored: over every record
-- of three blockettes of data.
-- Assumes nothing.
use mathlib.Core.Path.{◌≡◌, refl, sym, subst, ◌∙◌}
use mathlib.Core.Bool.{true}
use mathlib.Core.List.{List, [], ◌∷◌}
use Prim.Native.Nat.{ℕ, ◌≤◌, ◌<◌}
use native.Mathlib.Omega.{arith}
use lib.Dec.{ltb}
use lib.ListN.{length, drop, set, replicate}
use borrow.Author.Tests.{eq-eqb, le-ltb}
use Rattle.common.specs.Pick.{pick}
use Rattle.common.proofs.PickLaws.{pick_yes, pick_no}
use Rattle.blockettes.specs.Blockettes.{blockette_at}
use Rattle.marks.specs.Marks.{is_error, Once}
use Rattle.marks.specs.Scan.{scan_from, scan_marks}
use Rattle.marks.proofs.ScanLaws.{good_once}
use Rattle.passes.specs.Passes.{joined, takes_second, merged_mark, merged_marks}
use Rattle.records.specs.Count.{limit}
use Rattle.records.specs.Image.{image_of, mark_count}
use Rattle.records.specs.Restore.{restore_refusal}
use Rattle.records.specs.Merge.{Pass, pass_of}
use Rattle.records.specs.Spoiled.{Shown, spoiled_at}
use Rattle.records.proofs.BuiltRecordsAreRestored.{said, shown_accepted}
use Rattle.records.proofs.MergedRecordsAreRestored.{Shows}
use Rattle.records.proofs.Spoiling.{IsBad, another, another_full, no_error, shown_more, once_more}
use Rattle.records.proofs.Spoiling.{spoiled_nowhere}

-- blockettes 2 and 0 and check blockette 0 are bad in the first, 1 and both check blockettes in the second
abbrev pub first_marks : List ℕ
first_marks = 6 ∷ 15 ∷ 4 ∷ 15 ∷ 5 ∷ []

abbrev pub second_marks : List ℕ
second_marks = 15 ∷ 9 ∷ 15 ∷ 3 ∷ 7 ∷ []

-- so that check blockette 0 alone stays bad, with the mark of the first
abbrev pub both_marks : List ℕ
both_marks = 15 ∷ 15 ∷ 15 ∷ 15 ∷ 5 ∷ []

pub both_marks_lem : merged_marks first_marks second_marks ≡ both_marks
unfolding merged_marks joined merged_mark takes_second is_error pick
both_marks_lem = refl

-- ---- what they hold

-- a mark of an error
bad : (mark : ℕ) → 1 ≤ mark → mark ≤ 9 → IsBad mark
bad mark low high = record { low = low; high = high }

-- an image with bytes that were not built, in each of these places
unfoldable pub spoilings : List ℕ → List ℕ → List ℕ
spoilings built [] = built
spoilings built (place ∷ places) =
    spoiled_at (spoilings built places) place (another (blockette_at (drop 2 built) place))

-- as it is in each pass
abbrev pub first_pass : List ℕ → Pass
first_pass bytes = pass_of (spoilings (image_of bytes 1) (4 ∷ 2 ∷ 0 ∷ [])) first_marks

abbrev pub second_pass : List ℕ → Pass
second_pass bytes = pass_of (spoilings (image_of bytes 1) (4 ∷ 3 ∷ 1 ∷ [])) second_marks

module _ (bytes : List ℕ) (five : mark_count (length bytes) 1 ≡ 5) where
  abbrev built : List ℕ
  built = image_of bytes 1

  unspoiled : Shown built built (replicate 5 15)
  unspoiled = subst (λ (n : ℕ). Shown built built (replicate n 15)) five (spoiled_nowhere bytes).shown

  -- one place more
  worse : (places : List ℕ) (marks : List ℕ) (place mark : ℕ) → IsBad mark → place < length marks
      → Shown built (spoilings built places) marks
      → Shown built (spoilings built (place ∷ places)) (set marks place mark)
  unfolding spoilings
  worse places marks place mark is_bad below shown =
      shown_more built (spoilings built places) marks (another (blockette_at (drop 2 built) place)) place mark shown
      (another_full _) is_bad below

  pub first_shows : Shows built (first_pass bytes)
  unfolding spoilings
  first_shows =
      worse (2 ∷ 0 ∷ []) (6 ∷ 15 ∷ 4 ∷ 15 ∷ 15 ∷ []) 4 5 (bad 5 (omega arith) (omega arith)) (omega arith)
      (worse (0 ∷ []) (6 ∷ 15 ∷ 15 ∷ 15 ∷ 15 ∷ []) 2 4 (bad 4 (omega arith) (omega arith)) (omega arith)
      (worse [] (replicate 5 15) 0 6 (bad 6 (omega arith) (omega arith)) (omega arith) unspoiled))

  pub second_shows : Shows built (second_pass bytes)
  unfolding spoilings
  second_shows =
      worse (3 ∷ 1 ∷ []) (15 ∷ 9 ∷ 15 ∷ 3 ∷ 15 ∷ []) 4 7 (bad 7 (omega arith) (omega arith)) (omega arith)
      (worse (1 ∷ []) (15 ∷ 9 ∷ 15 ∷ 15 ∷ 15 ∷ []) 3 3 (bad 3 (omega arith) (omega arith)) (omega arith)
      (worse [] (replicate 5 15) 1 9 (bad 9 (omega arith) (omega arith)) (omega arith) unspoiled))

  -- ---- neither alone, and both together

  module _ (fits : length bytes ≤ limit) (space : ℕ) (room : length bytes ≤ space) where
    -- a pass that shows what was built and has two errors of one parity
    alone : (p : Pass) → Shows built p → ltb (scan_marks p.marks).stop (length p.marks) ≡ true
        → restore_refusal p.image p.marks space ≡ 12
    unfolding restore_refusal
    alone p shows stopped =
        pick_yes _ _ (eq-eqb _ 0 (shown_accepted bytes p.image p.marks fits shows))
        ∙ pick_no 11 _ (le-ltb space _ (rw (said bytes p.image p.marks fits shows) room))
        ∙ pick_yes 12 0 stopped

    pub first_alone : restore_refusal (first_pass bytes).image first_marks space ≡ 12
    unfolding scan_marks scan_from is_error pick
    first_alone = alone (first_pass bytes) first_shows refl

    pub second_alone : restore_refusal (second_pass bytes).image second_marks space ≡ 12
    unfolding scan_marks scan_from is_error pick
    second_alone = alone (second_pass bytes) second_shows refl

-- one error is left
pub both_once : Once (merged_marks first_marks second_marks)
both_once =
    subst Once (sym both_marks_lem) (once_more (replicate 5 15) 4 5 (good_once 5) (λ j h e same. no_error 5 j h e))
