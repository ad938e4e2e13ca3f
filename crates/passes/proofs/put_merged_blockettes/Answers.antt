-- `passes::put_merged_blockettes` meets its contract: before each turn the merged blockettes of the earlier places
-- stand before those of the first pass.
-- Assumes nothing.
use mathlib.Core.Path.{◌≡◌, ap, ap₂, ◌∙◌}
use mathlib.Core.List.{List, ◌++◌}
use Prim.Native.Nat.{ℕ, ◌+◌, ◌-◌, ◌*◌, ◌≤◌, ◌<◌}
use native.Mathlib.Omega.{arith}
use lib.ListN.{length, get_or, take, drop, length-append, length-take, length-drop}
use lib.Seq.{drop_at}
use borrow.Rule.Slice.PartMut.{put_mid}
use Rattle.common.specs.Pick.{pick}
use Rattle.blockettes.specs.Blockettes.{blockette_at}
use Rattle.passes.specs.Passes.{takes_second, joined, merged_at}
use Rattle.passes.proofs.PassLaws.{joined_length, part_put, merged_length}
use Rattle.passes.proofs.put_merged_blockettes.Invariants.{parts}
use Rattle.passes.proofs.put_merged_blockettes.Goals as goal

blockette_long : (pass : List ℕ) (n place : ℕ) → length pass ≡ 256 * n → place < n
    → length (blockette_at pass place) ≡ 256
unfolding blockette_at
blockette_long pass n place long below = simp (length-take, length-drop) (omega arith)

module _ (first first_marks second second_marks : List ℕ) (one : length first ≡ 256 * length first_marks)
    (two : length second ≡ 256 * length first_marks) where
  abbrev bytes : ℕ → List ℕ
  bytes = joined (parts first first_marks second second_marks)

  bytes_long : (n : ℕ) → n ≤ length first_marks → length (bytes n) ≡ 256 * n
  bytes_long n few =
      joined_length (parts first first_marks second second_marks) 256 n
      (λ place below.
      let within : place < length first_marks = omega arith in
      merged_length first second _ _ place (blockette_long first (length first_marks) place one within)
      (blockette_long second (length first_marks) place two within))

  -- ---- one turn

  module _ (image new : List ℕ) (at : ℕ) (below : at < length first_marks)
      (image_is : image ≡ bytes at ++ drop (256 * at) first)
      (new_is : new
      ≡ pick (takes_second (get_or first_marks at 0) (get_or second_marks at 0)) (blockette_at second at)
      (take (256 * at + 256 - 256 * at) (drop (256 * at) image))) where
    abbrev put : List ℕ
    put = put_mid (256 * at) (256 * at + 256 - 256 * at) image new

    size : 256 * at + 256 - 256 * at ≡ 256
    size = omega arith

    -- what is there is the first pass's
    there : take (256 * at + 256 - 256 * at) (drop (256 * at) image) ≡ blockette_at first at
    unfolding blockette_at
    there =
        ap₂ (λ (k : ℕ) (l : List ℕ). take k (drop (256 * at) l)) size image_is
        ∙ ap (take 256) (drop_at (bytes at) (drop (256 * at) first) (256 * at) (bytes_long at (omega arith)))

    new_part : new ≡ parts first first_marks second second_marks at
    unfolding merged_at
    new_part =
        new_is
        ∙ ap (pick (takes_second (get_or first_marks at 0) (get_or second_marks at 0)) (blockette_at second at)) there

    put_is : put ≡ bytes (at + 1) ++ drop (256 * (at + 1)) first
    put_is =
        let next : 256 * at + 256 ≡ 256 * (at + 1) = omega arith in
        ap₂ (λ (l x : List ℕ). put_mid (256 * at) (256 * at + 256 - 256 * at) l x) image_is new_part
        ∙ ap (λ (k : ℕ). put_mid (256 * at) k (bytes at ++ drop (256 * at) first)
        (parts first first_marks second second_marks at)) size
        ∙ part_put (parts first first_marks second second_marks) first at (256 * at) 256 (bytes_long at (omega arith))
        ∙ ap (λ (k : ℕ). bytes (at + 1) ++ drop k first) next

    put_long : length put ≡ length first
    put_long =
        ap (λ (l : List ℕ). length l) put_is
        ∙ simp (length-append, length-drop, bytes_long (at + 1) (omega arith)) (omega arith)

pub loop-at-preserved : goal.loop-at-preserved
loop-at-preserved c =
    let l = c.loop-at in
    let a = c.args in
    let two = a.second.now.whole ∙ ap (λ (n : ℕ). 256 * n) c.requires.second_marks_len in
    let wide = c.requires.image_len in
    let below : l.at < length a.first_marks.now = omega arith in
    put_is a.image.now a.first_marks.now a.second.now.bytes.now a.second.now.marks.now wide two l.image _ l.at below
    c.loop-at.invariant c.put_merged_blockette.ensures
