-- What the test of the check blockettes answers: of an image of the right length, and in the words of `Refused.antt`.
-- Assumes nothing.
use mathlib.Core.Path.{◌≡◌, sym, ap, ap₂, ◌∙◌}
use mathlib.Core.Bool.{Bool, true, false, not}
use mathlib.Core.List.{List}
use Prim.Native.Nat.{ℕ, ◌+◌, ◌-◌, ◌≤◌}
use native.Mathlib.Omega.{arith}
use lib.Dec.{ltb}
use lib.ListN.{length, drop}
use borrow.Author.Tests.{le-ltb, eq-eqb, ne_eqb}
use Rattle.common.specs.Pick.{pick}
use Rattle.common.proofs.PickLaws.{by_test, pick_yes, pick_no, pick_both}
use Rattle.blockettes.specs.Blockettes.{blockette_at, check_of}
use Rattle.passes.specs.Passes.{same_bytes}
use Rattle.passes.proofs.MergedLaws.{same_itself}
use Rattle.passes.proofs.ClashLaws.{same_true}
use Rattle.records.specs.Count.{count_of}
use Rattle.records.specs.Image.{blockette_count, image_length}
use Rattle.records.specs.Verify.{unfit_even, unfit_odd, check_fits, unfit_checks, verify}
use Rattle.records.proofs.ImageLaws.{length_two}

-- an image of the right length
module _ (image : List ℕ) (long : length image ≡ image_length (count_of image) 1) where
  two : 2 ≤ length image
  two = omega (arith, length_two (count_of image) 1)

  -- with check blockettes, and without
  pub verified : (count_of image ≡ 0 → ⊥)
      → verify image ≡ unfit_checks (drop 2 image) (blockette_count (count_of image))
  unfolding verify
  verified some =
      pick_no 9 _ (le-ltb (length image) 2 two)
      ∙ pick_no 9 _ (ap not (eq-eqb (length image) (image_length (count_of image) 1) long))
      ∙ pick_no 0 _ (ne_eqb (count_of image) 0 some)

  pub verified_empty : count_of image ≡ 0 → verify image ≡ 0
  unfolding verify
  verified_empty none =
      pick_no 9 _ (le-ltb (length image) 2 two)
      ∙ pick_no 9 _ (ap not (eq-eqb (length image) (image_length (count_of image) 1) long))
      ∙ pick_yes 0 _ (eq-eqb (count_of image) 0 none)

-- and of another
pub verified_wrong : (image : List ℕ) → (length image ≡ image_length (count_of image) 1 → ⊥) → verify image ≡ 9
unfolding verify
verified_wrong image wrong =
    let short = ltb (length image) 2 in
    ap (λ (r : ℕ). pick short 9 r)
    (pick_yes 9 _ (ap not (ne_eqb (length image) (image_length (count_of image) 1) wrong)))
    ∙ pick_both short 9

-- by the tests of both parities
pub unfit_by : (blockettes : List ℕ) (n : ℕ) (even odd : Bool) → check_fits blockettes n 0 ≡ even
    → check_fits blockettes n 1 ≡ odd → unfit_checks blockettes n ≡ pick even 0 unfit_even + pick odd 0 unfit_odd
unfolding unfit_checks
unfit_by blockettes n even odd e o = ap₂ (λ (a b : Bool). pick a 0 unfit_even + pick b 0 unfit_odd) e o

-- a check blockette that fits is the check, and one that does not is not
module _ (blockettes : List ℕ) (n parity : ℕ) where
  abbrev pub Fits : Type 0
  Fits = check_of blockettes n parity ≡ blockette_at blockettes (n + 1 - parity)

  pub fits_is : check_fits blockettes n parity ≡ true → Fits
  unfolding check_fits
  fits_is fits = same_true _ _ fits

  pub is_fits : Fits → check_fits blockettes n parity ≡ true
  unfolding check_fits
  is_fits same = ap (same_bytes (check_of blockettes n parity)) (sym same) ∙ same_itself (check_of blockettes n parity)

  pub is_unfit : (Fits → ⊥) → check_fits blockettes n parity ≡ false
  is_unfit other =
      by_test (check_fits blockettes n parity) (λ fits. absurd (other (fits_is fits))) (λ unfit. unfit)
