-- What is known of two passes that are whole.
-- Assumes nothing.
use mathlib.Core.Path.{◌≡◌, refl, sym, ap, ◌∙◌}
use Prim.Native.Nat.{ℕ, ◌+◌, ◌*◌, ◌≤◌}
use native.Mathlib.Omega.{arith}
use mathlib.Core.Bool.{Bool, true, false, not, ◌||◌, false≢true}
use lib.Dec.{ltb, eqb}
use lib.ListN.{length, drop, length-drop}
use borrow.Author.Tests.{ltb-false, eqb-true, eqb-false, not-false}
use Rattle.common.proofs.PickLaws.{by_test, pick_yes, pick_no, pick_by, not_refused_lem}
use Rattle.marks.specs.Marks.{legal_marks}
use Rattle.records.specs.Count.{count_of}
use Rattle.records.specs.Image.{image_length, mark_count}
use Rattle.records.specs.Whole.{layout_refusal, whole_refusal}
use Rattle.passes.specs.Passes.{clashes}
use Rattle.records.specs.Merge.{Pass, pass_refusal, either_refused, pair_refusal, merge_refusal}
use Rattle.records.proofs.ImageLaws.{marks_fill}
use Rattle.records.proofs.WholeLaws.{IsWhole, whole}

-- a pass is refused with 9, with 10, or not at all
pub pass_numbers : (p : Pass) → (pass_refusal p ≡ 9 → ⊥) → (pass_refusal p ≡ 10 → ⊥) → pass_refusal p ≡ 0
unfolding whole_refusal layout_refusal
pass_numbers p =
    let P : ℕ → Type 0 = λ (n : ℕ). (n ≡ 9 → ⊥) → (n ≡ 10 → ⊥) → n ≡ 0 in
    let nine : P 9 = λ not_9 not_10. absurd (not_9 refl) in
    pick_by P (ltb (length p.image) 2) (λ short. nine)
    (λ two. pick_by P (not (eqb (length p.image) (image_length (count_of p.image) 1))) (λ wrong. nine)
    (λ long. pick_by P (not (eqb (length p.marks) (mark_count (count_of p.image) 1))) (λ wrong. nine)
    (λ marked. pick_by P (legal_marks p.marks) (λ legal not_9 not_10. refl)
    (λ wrong not_9 not_10. absurd (not_10 refl)))))

module _ (p : Pass) (good : pass_refusal p ≡ 0) where
  abbrev is_whole : IsWhole p.image p.marks 1
  is_whole = whole p.image p.marks 1 good

  pub pass_two : 2 ≤ length p.image
  pass_two = is_whole.two

  pub pass_long : length p.image ≡ 2 + 256 * length p.marks
  pass_long = is_whole.long ∙ marks_fill (count_of p.image) ∙ ap (λ (n : ℕ). 2 + 256 * n) (sym is_whole.marked)

  -- its blockettes
  pub body_long : length (drop 2 p.image) ≡ 256 * length p.marks
  body_long = length-drop 2 p.image ∙ simp pass_long (omega arith)

-- two with one count have as many marks
pub marks_alike :
    (first second : Pass)
    → pass_refusal first ≡ 0
    → pass_refusal second ≡ 0
    → count_of first.image ≡ count_of second.image
    → length second.marks ≡ length first.marks
marks_alike first second one two same =
    (whole second.image second.marks 1 two).marked ∙ ap (λ (n : ℕ). mark_count n 1) (sym same)
    ∙ sym (whole first.image first.marks 1 one).marked

-- two tests of which neither holds
pub neither : (a b : Bool) → (a || b) ≡ false → (a ≡ false) × (b ≡ false)
neither false b e = (refl, e)
neither true b e = absurd (false≢true (sym e))

-- what is known where the call is not refused
pub record IsMergeable (first second : Pass) (image_space marks_space : ℕ) : Type 0 where
  pub first_whole : pass_refusal first ≡ 0
  pub second_whole : pass_refusal second ≡ 0
  pub one_count : count_of first.image ≡ count_of second.image
  pub no_clash : clashes (drop 2 first.image) first.marks (drop 2 second.image) second.marks ≡ false
  pub image_fits : length first.image ≤ image_space
  pub marks_fit : length first.marks ≤ marks_space

-- two passes with one count, of which no blockette is good in both and unlike
pub pair_agrees :
    (first second : Pass)
    → pair_refusal first second ≡ 0
    → (count_of first.image ≡ count_of second.image)
    × (clashes (drop 2 first.image) first.marks (drop 2 second.image) second.marks ≡ false)
unfolding pair_refusal
pair_agrees first second e =
    let counts = not_refused_lem _ _ _ (λ r. omega arith) e in
    let unlike = not_refused_lem _ _ _ (λ r. omega arith) counts.1 in
    (eqb-true _ _ (not-false _ counts.0), unlike.0)

pub mergeable :
    (first second : Pass) (image_space marks_space : ℕ)
    → merge_refusal first second image_space marks_space ≡ 0
    → IsMergeable first second image_space marks_space
unfolding merge_refusal either_refused
mergeable first second image_space marks_space e =
    let nine = not_refused_lem _ _ _ (λ r. omega arith) e in
    let ten = not_refused_lem _ _ _ (λ r. omega arith) nine.1 in
    let (one_9, other_9) = neither _ _ nine.0 in
    let (one_10, other_10) = neither _ _ ten.0 in
    by_test (eqb (pair_refusal first second) 0)
    (λ agrees.
    let pair = pair_agrees first second (eqb-true _ _ agrees) in
    let room = not_refused_lem _ _ _ (λ r. omega arith) (sym (pick_no _ _ (ap not agrees)) ∙ ten.1) in
    let (image_room, marks_room) = neither _ _ room.0 in
    record {
      first_whole = pass_numbers first (eqb-false _ _ one_9) (eqb-false _ _ one_10);
      second_whole = pass_numbers second (eqb-false _ _ other_9) (eqb-false _ _ other_10);
      one_count = pair.0;
      no_clash = pair.1;
      image_fits = ltb-false _ _ image_room;
      marks_fit = ltb-false _ _ marks_room;
    })
    (λ fails. absurd (eqb-false _ _ fails (sym (pick_yes _ _ (ap not fails)) ∙ ten.1)))
