-- The check blockettes of a GCR record that was built fit its data; and where one blockette is another than was built,
-- its parity alone does not.
-- Assumes nothing.
use mathlib.Core.Path.{◌≡◌, refl, sym, ap, ap₂, ◌∙◌}
use mathlib.Core.Bool.{true, false}
use mathlib.Core.List.{List, []}
use Prim.Native.Nat.{ℕ, suc, ◌+◌, ◌-◌, ◌*◌, ◌/◌, ◌%◌, ◌≤◌, ◌<◌}
use native.Mathlib.Decide.{ℕ_discrete}
use native.Mathlib.Omega.{arith}
use lib.Dec.{ltb, eqb}
use lib.ListN.{length, take, drop, replicate, length-drop}
use borrow.Author.Tests.{ne_eqb, ltb-true, ltb-false}
use Rattle.common.specs.Pick.{pick}
use Rattle.common.proofs.PickLaws.{by_test, pick_no}
use Rattle.blockettes.specs.Xor.{◌⊕◌, xor_all}
use Rattle.blockettes.specs.Blockettes.{blockette_at, numbered, of_parity, fold_parity, check_of, others_of}
use Rattle.blockettes.proofs.XorLaws.{⊕-nil, ⊕-twice, zeros-⊕, xor_all_first, xor_all_same}
use Rattle.blockettes.proofs.Others.{others_by_check, others_same}
use Rattle.blockettes.proofs.Checked.{blockette_length_lem}
use Rattle.records.specs.Count.{limit, count_bytes, count_of}
use Rattle.records.specs.Image.{blockette_count, has_blockettes, image_of, image_length, mark_count}
use Rattle.records.specs.Refused.{number_at, OneUnfit}
use Rattle.records.specs.Spoiled.{spoiled_at}
use Rattle.records.specs.Verify.{check_fits, unfit_checks, verify}
use Rattle.records.proofs.ImageLaws.{limit_16, count_said_lem, image_length_lem, marks_fill, marks_of}
use Rattle.records.proofs.VerifyLaws.{verified, verified_empty, unfit_by, fits_is, is_fits}
use Rattle.records.proofs.Restoring.{body_others}
use Rattle.records.proofs.Spoiling.{spoiled_front, spoiled_length, spoiled_here, spoiled_elsewhere}

-- a record of 0 bytes has no marks
no_marks : (c : ℕ) → c ≡ 0 → mark_count c 1 ≡ 0
unfolding mark_count has_blockettes pick
no_marks c none = simp none

-- ---- n blockettes of data and the two behind them

-- a number among the data is two less than among all
two_further : (n t parity : ℕ) → n + 2 - 1 - (2 * suc t + parity) ≡ n - 1 - (2 * t + parity)
two_further n t parity = omega arith

-- the parity of the blockette at a place
abbrev parity_at : ℕ → ℕ → ℕ
parity_at n place = (n + 2 - 1 - place) % 2

-- it is that of its number
number_parity : (n place : ℕ) → place < n + 2 → number_at n place % 2 ≡ parity_at n place
unfolding number_at pick
number_parity n place below =
    by_test (ltb place n) (λ of_data. simp of_data (omega (arith, ltb-true place n of_data)))
    (λ of_check. simp of_check (omega (arith, ltb-false place n of_check)))

module _ (blockettes : List ℕ) (n : ℕ) (full : length blockettes ≡ 256 * (n + 2)) where
  abbrev others : ℕ → List ℕ
  others place = others_of blockettes (n + 2) place

  -- the check of a parity is what restores its check blockette
  check_restores : (parity : ℕ) → parity < 2 → others (n + 1 - parity) ≡ check_of blockettes n parity
  unfolding others_of check_of fold_parity numbered of_parity pick
  check_restores parity small =
      let zeros : List ℕ = replicate 256 0 in
      let count = (n + 1 - parity) / 2 in
      let all : ℕ → ℕ → ℕ → List ℕ = λ turn odd t.
      pick (eqb t turn) [] (blockette_at blockettes (n + 2 - 1 - (2 * t + odd))) in
      let turn : (n + 2 - 1 - (n + 1 - parity)) / 2 ≡ 0 = omega arith in
      let odd : (n + 2 - 1 - (n + 1 - parity)) % 2 ≡ parity = omega arith in
      let more : (n + 2 + 1 - parity) / 2 ≡ suc count = omega arith in
      ap₂ (λ (k p : ℕ). xor_all zeros (all k p) ((n + 2 + 1 - p) / 2)) turn odd
      ∙ ap (xor_all zeros (all 0 parity)) more
      ∙ xor_all_first (all 0 parity) zeros count
      ∙ ap (λ (x : List ℕ). xor_all x (λ t. all 0 parity (suc t)) count) (⊕-nil zeros)
      ∙ xor_all_same (λ t. all 0 parity (suc t)) (λ t. blockette_at blockettes (n - 1 - (2 * t + parity))) zeros count
      (λ t below. pick_no [] _ (ne_eqb (suc t) 0 (λ first. omega arith))
      ∙ ap (blockette_at blockettes) (two_further n t parity))

  is_full : (place : ℕ) → place < n + 2 → length (blockette_at blockettes place) ≡ 256
  is_full place below = blockette_length_lem blockettes place (omega arith)

  -- all of a parity and one of them once more are its others
  all_and_one : (place : ℕ) → place < n + 2
      → fold_parity (replicate 256 0) blockettes (n + 2) (parity_at n place) ⊕ blockette_at blockettes place
      ≡ others place
  unfolding check_of
  all_and_one place below = others_by_check blockettes (n + 2) place below

  -- where one of a parity is what its others restore, so is each
  each_restored : (one another : ℕ) → one < n + 2 → another < n + 2 → parity_at n one ≡ parity_at n another
      → others one ≡ blockette_at blockettes one
      → others another ≡ blockette_at blockettes another
  each_restored one another one_below another_below same restored =
      let zeros : List ℕ = replicate 256 0 in
      let it = blockette_at blockettes one in
      let all : ℕ → List ℕ = λ parity. fold_parity zeros blockettes (n + 2) parity in
      let none : all (parity_at n one) ≡ zeros =
      sym (⊕-twice (all (parity_at n one)) it)
      ∙ ap (λ (x : List ℕ). x ⊕ it)
      (all_and_one one one_below ∙ restored ∙ sym (zeros-⊕ it 256 (is_full one one_below)))
      ∙ ⊕-twice zeros it
      in
      sym (all_and_one another another_below)
      ∙ ap (λ (x : List ℕ). x ⊕ blockette_at blockettes another) (sym (ap all same) ∙ none)
      ∙ zeros-⊕ (blockette_at blockettes another) 256 (is_full another another_below)

  module _ (place : ℕ) (below : place < n + 2) where
    behind : n + 1 - parity_at n place < n + 2
    behind = omega arith

    same_parity : parity_at n (n + 1 - parity_at n place) ≡ parity_at n place
    same_parity = omega arith

    -- a check blockette that fits, and one that its others restore
    fit_restored : check_fits blockettes n (parity_at n place) ≡ true → others place ≡ blockette_at blockettes place
    fit_restored fits =
        each_restored (n + 1 - parity_at n place) place behind below same_parity
        (check_restores (parity_at n place) (omega arith) ∙ fits_is blockettes n (parity_at n place) fits)

    restored_fits : others place ≡ blockette_at blockettes place → check_fits blockettes n (parity_at n place) ≡ true
    restored_fits restored =
        is_fits blockettes n (parity_at n place)
        (sym (check_restores (parity_at n place) (omega arith))
        ∙ each_restored place (n + 1 - parity_at n place) below behind (sym same_parity) restored)

-- ---- a record of at least one byte

module _ (bytes : List ℕ) (within : length bytes ≤ limit) (some : 0 < length bytes) where
  abbrev built : List ℕ
  built = image_of bytes 1

  abbrev n : ℕ
  n = blockette_count (length bytes)

  built_length : length built ≡ 2 + 256 * (n + 2)
  built_length =
      image_length_lem bytes 1 ∙ marks_fill (length bytes)
      ∙ ap (λ (k : ℕ). 2 + 256 * k) (marks_of (length bytes) some)

  -- an image of its length that says its count
  module _ (image : List ℕ) (long : length image ≡ length built) (count : take 2 image ≡ take 2 built) where
    body_full : length (drop 2 image) ≡ 256 * (n + 2)
    body_full = simp length-drop (omega (arith, built_length))

    answer : verify image ≡ unfit_checks (drop 2 image) n
    unfolding image_of count_bytes
    answer =
        let said : count_of image ≡ length bytes =
        count_said_lem image (length bytes) (omega (arith, limit_16)) count in
        verified image (long ∙ image_length_lem bytes 1 ∙ ap (λ (k : ℕ). image_length k 1) (sym said))
        (λ none. omega (arith, some, said))
        ∙ ap (λ (k : ℕ). unfit_checks (drop 2 image) (blockette_count k)) said

  -- as it was built
  fits_as_built : (parity : ℕ) → parity < 2 → check_fits (drop 2 built) n parity ≡ true
  fits_as_built parity small =
      let place = n + 1 - parity in
      let below : place < n + 2 = omega arith in
      let same : parity_at n place ≡ parity = omega arith in
      sym (ap (check_fits (drop 2 built) n) same)
      ∙ restored_fits (drop 2 built) n (body_full built refl refl) place below (body_others bytes some place below)

  -- with one blockette changed
  module _ (new : List ℕ) (place : ℕ) (full : length new ≡ 256) (below : place < n + 2)
      (differs : new ≡ blockette_at (drop 2 built) place → ⊥) where
    abbrev changed : List ℕ
    changed = spoiled_at built place new

    inside : (k : ℕ) → k < n + 2 → 2 + (256 * k + 256) ≤ length built
    inside k h = omega (arith, built_length)

    changed_long : length changed ≡ length built
    changed_long = spoiled_length built new place full (inside place below)

    changed_count : take 2 changed ≡ take 2 built
    changed_count = spoiled_front built new place full (inside place below)

    kept : (k : ℕ) → k < n + 2 → (k ≡ place → ⊥)
        → blockette_at (drop 2 changed) k ≡ blockette_at (drop 2 built) k
    kept k h other = spoiled_elsewhere built new place full (inside place below) k other (inside k h)

    -- the check of its parity does not fit
    unfit_here : check_fits (drop 2 changed) n (parity_at n place) ≡ false
    unfit_here =
        by_test (check_fits (drop 2 changed) n (parity_at n place))
        (λ fits. absurd (differs
        (sym (spoiled_here built new place full (inside place below))
        ∙ sym (fit_restored (drop 2 changed) n (body_full changed changed_long changed_count) place below fits)
        ∙ others_same (drop 2 changed) (drop 2 built) (n + 2) place below (λ k h same other. kept k h other)
        ∙ body_others bytes some place below)))
        (λ unfit. unfit)

    -- and that of the other one does
    fits_there : (parity : ℕ) → parity < 2 → (parity ≡ parity_at n place → ⊥)
        → check_fits (drop 2 changed) n parity ≡ true
    fits_there parity small other =
        let there = n + 1 - parity in
        let there_below : there < n + 2 = omega arith in
        let same : parity_at n there ≡ parity = omega arith in
        let apart : (k : ℕ) → k < n + 2 → parity_at n k ≡ parity_at n there → k ≡ place → ⊥ =
        λ k h alike it. other (sym same ∙ sym alike ∙ ap (parity_at n) it)
        in
        sym (ap (check_fits (drop 2 changed) n) same)
        ∙ restored_fits (drop 2 changed) n (body_full changed changed_long changed_count) there there_below
        (others_same (drop 2 changed) (drop 2 built) (n + 2) there there_below
        (λ k h alike not_there. kept k h (apart k h alike))
        ∙ body_others bytes some there there_below
        ∙ sym (kept there there_below (apart there there_below refl)))

    changed_told : OneUnfit n place (verify changed)
    unfolding pick
    changed_told =
        let number : number_at n place % 2 ≡ parity_at n place = number_parity n place below in
        record {
          even = λ even.
              let is_even : parity_at n place ≡ 0 = sym number ∙ even in
              answer changed changed_long changed_count
              ∙ unfit_by (drop 2 changed) n false true
              (sym (ap (check_fits (drop 2 changed) n) is_even) ∙ unfit_here)
              (fits_there 1 (omega arith) (λ odd. omega arith));
          odd = λ odd.
              let is_odd : parity_at n place ≡ 1 = sym number ∙ odd in
              answer changed changed_long changed_count
              ∙ unfit_by (drop 2 changed) n true false
              (fits_there 0 (omega arith) (λ even. omega arith))
              (sym (ap (check_fits (drop 2 changed) n) is_odd) ∙ unfit_here);
        }

-- ---- every record

-- As it was built, both check blockettes fit.
pub built_records_fit : (bytes : List ℕ) → length bytes ≤ limit → verify (image_of bytes 1) ≡ 0
unfolding image_of count_bytes pick
built_records_fit bytes within =
    elim (ℕ_discrete (length bytes) 0) [
      | yes none ↦
          let said : count_of (image_of bytes 1) ≡ length bytes =
          count_said_lem (image_of bytes 1) (length bytes) (omega (arith, limit_16)) refl in
          verified_empty (image_of bytes 1) (image_length_lem bytes 1 ∙ ap (λ (k : ℕ). image_length k 1) (sym said))
          (said ∙ none)
      | no has ↦
          let some : 0 < length bytes = omega (arith, has) in
          answer bytes within some (image_of bytes 1) refl refl
          ∙ unfit_by (drop 2 (image_of bytes 1)) (blockette_count (length bytes)) true true
          (fits_as_built bytes within some 0 (omega arith)) (fits_as_built bytes within some 1 (omega arith))
    ]

-- With one blockette changed, its parity alone does not.
pub changed_records_do_not_fit :
    (bytes new : List ℕ) (place : ℕ) → length bytes ≤ limit → place < mark_count (length bytes) 1
    → length new ≡ 256
    → (new ≡ blockette_at (drop 2 (image_of bytes 1)) place → ⊥)
    → OneUnfit (mark_count (length bytes) 1 - 2) place (verify (spoiled_at (image_of bytes 1) place new))
changed_records_do_not_fit bytes new place within below full differs =
    elim (ℕ_discrete (length bytes) 0) [
      | yes none ↦ absurd (omega (arith, no_marks (length bytes) none))
      | no has ↦
          let some : 0 < length bytes = omega (arith, has) in
          let marks = marks_of (length bytes) some in
          let n : mark_count (length bytes) 1 - 2 ≡ blockette_count (length bytes) = omega (arith, marks) in
          rw n (changed_told bytes within some new place full (omega (arith, marks)) differs)
    ]
