-- What is known of an image and marks that pass the test, and where the restorer does not refuse.
-- Assumes nothing.
use mathlib.Core.Path.{◌≡◌, sym, ◌∙◌}
use Prim.Native.Nat.{ℕ, ◌≤◌}
use native.Mathlib.Omega.{arith}
use mathlib.Core.Bool.{true}
use mathlib.Core.List.{List}
use lib.ListN.{length}
use lib.Dec.{eqb}
use borrow.Author.Tests.{ltb-false, eqb-true, eqb-false, not-false}
use Rattle.common.proofs.PickLaws.{by_test, pick_yes, pick_no, not_refused_lem, passed}
use Rattle.marks.specs.Marks.{legal_marks}
use Rattle.records.specs.Count.{count_of}
use Rattle.records.specs.Image.{image_length, mark_count}
use Rattle.records.specs.Whole.{layout_refusal, whole_refusal}
use Rattle.records.specs.Restore.{restore_refusal}

-- an image with this count, and its marks
pub record IsLaid (image marks : List ℕ) (c density : ℕ) : Type 0 where
  pub long : length image ≡ image_length c density
  pub marked : length marks ≡ mark_count c density
  pub legal : legal_marks marks ≡ true

pub laid : (image marks : List ℕ) (c density : ℕ) → layout_refusal image marks c density ≡ 0
    → IsLaid image marks c density
unfolding layout_refusal
laid image marks c density e =
    let i = not_refused_lem _ _ _ (λ r. omega arith) e in
    let m = not_refused_lem _ _ _ (λ r. omega arith) i.1 in
    record {
      long = eqb-true _ _ (not-false _ i.0);
      marked = eqb-true _ _ (not-false _ m.0);
      legal = passed _ _ (λ r. omega arith) m.1;
    }

-- one with the count that it says
pub record IsWhole (image marks : List ℕ) (density : ℕ) : Type 0 where
  pub two : 2 ≤ length image
  pub long : length image ≡ image_length (count_of image) density
  pub marked : length marks ≡ mark_count (count_of image) density
  pub legal : legal_marks marks ≡ true

pub whole : (image marks : List ℕ) (density : ℕ) → whole_refusal image marks density ≡ 0 → IsWhole image marks density
unfolding whole_refusal
whole image marks density e =
    let t = not_refused_lem _ _ _ (λ r. omega arith) e in
    let lies = laid image marks (count_of image) density t.1 in
    record { two = ltb-false _ _ t.0; long = lies.long; marked = lies.marked; legal = lies.legal }

-- the restorer does not refuse: the test is passed, and the bytes fit
pub restorable : (image marks : List ℕ) (space : ℕ) → restore_refusal image marks space ≡ 0
    → IsWhole image marks 1 × (count_of image ≤ space)
unfolding restore_refusal
restorable image marks space e =
    by_test (eqb (whole_refusal image marks 1) 0)
    (λ passes.
    let fits = not_refused_lem _ _ _ (λ r. omega arith) (sym (pick_yes _ _ passes) ∙ e) in
    (whole image marks 1 (eqb-true _ _ passes), ltb-false _ _ fits.0))
    (λ fails. absurd (eqb-false _ _ fails (sym (pick_no _ _ fails) ∙ e)))
