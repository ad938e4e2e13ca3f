-- What merging leaves at each place, where it is not refused.
-- Assumes nothing.
use mathlib.Core.Path.{◌≡◌, sym, ap, ap₂, ◌∙◌}
use Prim.Native.Nat.{ℕ, ◌+◌, ◌*◌, ◌≤◌, ◌<◌}
use native.Mathlib.Omega.{arith}
use mathlib.Core.Bool.{true, false}
use mathlib.Core.List.{List, ◌++◌, append_assoc}
use lib.ListN.{length, take, drop, get_or, length-append, length-drop, get_or-append}
use lib.Seq.{take_at, drop_at, drop-drop, length-take-le, take-append-le, drop-append-le}
use borrow.Author.Tests.{ne_eqb}
use Rattle.common.specs.Space.{overwrite}
use Rattle.common.proofs.PickLaws.{pick_yes, pick_no}
use Rattle.blockettes.specs.Blockettes.{blockette_at}
use Rattle.marks.specs.Marks.{is_error}
use Rattle.passes.specs.Passes.{takes_second, merged_mark, merged_marks, merged_at, merged_blockettes}
use Rattle.passes.proofs.MergedLaws.{marks_length, mark_at, blockettes_length, merged_at_lem}
use Rattle.records.specs.Merge.{Pass, merged_image}
use Rattle.records.specs.Merged.{ComesFrom, Merged}
use Rattle.records.proofs.MergeLaws.{IsMergeable, pass_two, pass_long, body_long, marks_alike}

-- ---- which pass a blockette comes from

module _ (one other : ℕ) where
  first_if_good : one ≡ 15 → takes_second one other ≡ false
  unfolding takes_second is_error
  first_if_good good = rw good

  second_if_good : (one ≡ 15 → ⊥) → other ≡ 15 → takes_second one other ≡ true
  unfolding takes_second is_error
  second_if_good bad good = rw (ne_eqb one 15 bad, good)

  first_if_neither : (one ≡ 15 → ⊥) → (other ≡ 15 → ⊥) → takes_second one other ≡ false
  unfolding takes_second is_error
  first_if_neither bad bad_too = rw (ne_eqb one 15 bad, ne_eqb other 15 bad_too)

-- ---- two passes that are merged

module _ (first second : Pass) (image_before marks_before : List ℕ)
    (ok : IsMergeable first second (length image_before) (length marks_before)) where
  abbrev f : List ℕ
  f = drop 2 first.image

  abbrev s : List ℕ
  s = drop 2 second.image

  abbrev body : List ℕ
  body = merged_blockettes f first.marks s second.marks

  abbrev marks : List ℕ
  marks = merged_marks first.marks second.marks

  abbrev image_left : List ℕ
  image_left = overwrite (merged_image first second) image_before

  abbrev marks_left : List ℕ
  marks_left = overwrite marks marks_before

  front : length (take 2 first.image) ≡ 2
  front = length-take-le 2 first.image (pass_two first ok.first_whole)

  f_long : length f ≡ 256 * length first.marks
  f_long = body_long first ok.first_whole

  s_long : length s ≡ 256 * length first.marks
  s_long =
      body_long second ok.second_whole
      ∙ ap (λ (n : ℕ). 256 * n) (marks_alike first second ok.first_whole ok.second_whole ok.one_count)

  long : length body ≡ 256 * length first.marks
  long = blockettes_length f first.marks s second.marks f_long s_long

  merged_long : length (merged_image first second) ≡ length first.image
  unfolding merged_image
  merged_long =
      length-append (take 2 first.image) body ∙ ap₂ ◌+◌ front long ∙ sym (pass_long first ok.first_whole)

  -- the image is the count, the blockettes and the rest
  in_three : image_left ≡ take 2 first.image ++ (body ++ drop (length (merged_image first second)) image_before)
  unfolding overwrite merged_image
  in_three = append_assoc (take 2 first.image) body _

  module _ (place : ℕ) (below : place < length first.marks) where
    abbrev one : ℕ
    one = get_or first.marks place 0

    abbrev other : ℕ
    other = get_or second.marks place 0

    bytes_at : take 256 (drop (2 + 256 * place) image_left) ≡ merged_at f one s other place
    unfolding blockette_at
    bytes_at =
        let rest = drop (length (merged_image first second)) image_before in
        let start : 256 * place ≤ length body = omega (arith, long, below) in
        let room : 256 ≤ length (drop (256 * place) body) = simp length-drop (omega (arith, long, below)) in
        ap (take 256) (sym (drop-drop (256 * place) 2 image_left))
        ∙ ap (λ (l : List ℕ). take 256 (drop (256 * place) (drop 2 l))) in_three
        ∙ ap (λ (l : List ℕ). take 256 (drop (256 * place) l)) (drop_at (take 2 first.image) (body ++ rest) 2 front)
        ∙ ap (take 256) (drop-append-le (256 * place) body rest start)
        ∙ take-append-le 256 (drop (256 * place) body) rest room
        ∙ merged_at_lem f first.marks s second.marks f_long s_long place below

    mark_left : get_or marks_left place 0 ≡ merged_mark one other
    unfolding overwrite
    mark_left =
        get_or-append marks _ 0 place (omega (arith, marks_length first.marks second.marks, below))
        ∙ mark_at first.marks second.marks place below

    own_bytes : (p : Pass) → blockette_at (drop 2 p.image) place ≡ take 256 (drop (2 + 256 * place) p.image)
    unfolding blockette_at
    own_bytes p = ap (take 256) (drop-drop (256 * place) 2 p.image)

    from_first : takes_second one other ≡ false → ComesFrom first place image_left marks_left
    unfolding merged_at merged_mark
    from_first kept = (
      bytes_at ∙ pick_no _ _ kept ∙ own_bytes first,
      mark_left ∙ pick_no other one kept,
    )

    from_second : takes_second one other ≡ true → ComesFrom second place image_left marks_left
    unfolding merged_at merged_mark
    from_second taken = (
      bytes_at ∙ pick_yes _ _ taken ∙ own_bytes second,
      mark_left ∙ pick_yes other one taken,
    )

  pub merged_blockettes_lem : Merged first second image_before marks_before image_left marks_left
  unfolding overwrite
  merged_blockettes_lem =
      record {
        count = ap (take 2) in_three ∙ take_at (take 2 first.image) _ 2 front;
        first_good = λ place below good. from_first place below (first_if_good _ _ good);
        second_good = λ place below bad good. from_second place below (second_if_good _ _ bad good);
        neither_good = λ place below bad bad_too. from_first place below (first_if_neither _ _ bad bad_too);
        image_rest =
            drop_at (merged_image first second) _ (length first.image) merged_long
            ∙ ap (λ (n : ℕ). drop n image_before) merged_long;
        marks_rest =
            let so_many = marks_length first.marks second.marks in
            drop_at marks _ (length first.marks) so_many ∙ ap (λ (n : ℕ). drop n marks_before) so_many;
      }
