-- Laws of the result: what is known of one that is not refused, the final code, and as many bytes as fit.
-- Assumes nothing.
use borrow.Author.Tests.{eqb-true, eqb-false, not-true, not-false}
use mathlib.Core.Path.{◌≡◌, sym, ap, subst, ◌∙◌}
use mathlib.Core.Bool.{Bool, true, false, not, ◌&&◌, ◌||◌, true≢false}
use mathlib.Core.List.{List}
use Prim.Native.Nat.{ℕ, ◌+◌, ◌-◌, ◌≤◌, min}
use native.Mathlib.Omega.{arith}
use lib.Dec.{eqb}
use lib.ListN.{length, take, length-take}
use Rattle.common.proofs.Parts.{part_min}
use Rattle.common.proofs.PickLaws.{by_test, by_either, both_hold, pick_yes, pick_no, pick_by, not_refused_lem, passed}
use Rattle.marks.specs.Marks.{most_marks}
use Rattle.marks.specs.Scan.{Findings}
use Rattle.marks.specs.Scan.{is_found}
use Rattle.records.specs.Count.{count_of}
use Rattle.records.specs.Image.{image_length}
use Rattle.records.proofs.ImageLaws.{image_holds, blockettes_few, marks_most}
use Rattle.records.proofs.WholeLaws.{laid, whole}
use Rattle.status.specs.declared.drives.Drive.{Drive}
use Rattle.operations.specs.declared.operation.Operation.{Operation}
use Rattle.operations.specs.declared.operation.Operation.TheVariants.{Read, SuppliedCount, SkipForward}
use Rattle.operations.specs.declared.store.Store.{Store}
use Rattle.operations.specs.Operation.{number_of, same_operation, supplies_count, is_read, brings_record}
use Rattle.operations.specs.Store.{held_count}
use Rattle.transfers.specs.declared.expected.Expected.{Expected}
use Rattle.transfers.specs.declared.expected.Expected.TheVariants.{Whole, Supplied, Count, Nothing}
use Rattle.transfers.specs.Results.{Verdict}
use Rattle.operations.specs.Codes.{offline, blockette_number_wrong, recoverable, unrecoverable}
use Rattle.status.specs.Drives.{gcr, is_gcr}
use Rattle.transfers.specs.Data.{check_store}
use Rattle.transfers.specs.Expected.{whole_code, expected_whole, expected_supplied, expected_of, unmarked_refusal}
use Rattle.transfers.specs.Expected.{image_refusal}
use Rattle.transfers.specs.Results.{Result, result_refusal, is_gone, code_reported, final_code, reads_gcr, record_count}
use Rattle.transfers.specs.Results.{used_count, verdict_of, fitting}
use Rattle.transfers.proofs.DataLaws.{gcr_alike}

-- ---- a result that is not refused

unmarked : (image marks : List ℕ) (n : ℕ) → unmarked_refusal image marks n ≡ 0 → (length image ≡ n) × (length marks ≡ 0)
unfolding unmarked_refusal
unmarked image marks n e =
    let l = not_refused_lem _ _ _ (λ z. omega arith) e in
    (eqb-true _ _ (not-false _ l.0), eqb-true _ _ (passed _ _ (λ z. omega arith) l.1))

-- an image that passes its test, where there is one, has two bytes or more
two_bytes : (image marks : List ℕ) (expected : Expected) → image_refusal image marks expected ≡ 0
    → (length image ≡ 0 → ⊥) → 2 ≤ length image
unfolding image_refusal
two_bytes image marks (Whole density) e some = (whole image marks density e).two
two_bytes image marks (Supplied count) e some =
    omega (arith, (laid image marks count gcr e).long, image_holds count gcr)
two_bytes image marks Count e some = omega (arith, (unmarked image marks 2 e).0)
two_bytes image marks Nothing e some = absurd (some (unmarked image marks 0 e).0)

-- the image of a read or a forward skip is whole, where there is one
abbrev LongFor : List ℕ → List ℕ → ℕ → Expected → Type 0
LongFor image marks density expected =
    image_refusal image marks expected ≡ 0 → (length image ≡ 0 → ⊥)
    → length image ≡ image_length (count_of image) density

whole_long : (image marks : List ℕ) (density code : ℕ) (mark : Bool)
    → LongFor image marks density (expected_whole density code mark)
unfolding expected_whole image_refusal
whole_long image marks density code mark =
    pick_by (LongFor image marks density) (whole_code code && not mark)
    (λ brought e some. (whole image marks density e).long)
    (λ none e some. absurd (some (unmarked image marks 0 e).0))

-- that of a supplied count has its length, and its marks
record Fits (image marks : List ℕ) (count : ℕ) : Type 0 where
  long : (length image ≡ 0 → ⊥) → length image ≡ image_length count gcr
  few : count ≤ 65535 → length marks ≤ most_marks
  none : count ≡ 0 → length image ≡ 0

supplied_fits : (image marks : List ℕ) (count code : ℕ) → image_refusal image marks (expected_supplied count code) ≡ 0
    → Fits image marks count
unfolding expected_supplied image_refusal
supplied_fits image marks count code =
    pick_by (λ (x : Expected). image_refusal image marks x ≡ 0 → Fits image marks count)
    (eqb code 0 && not (eqb count 0))
    (λ brought e.
    let lies = laid image marks count gcr e in
    record {
      long = λ some. lies.long;
      few = λ within. omega (arith, lies.marked, marks_most count gcr, blockettes_few count within);
      none =
          λ zero. absurd (eqb-false count 0 (not-true _ (both_hold (eqb code 0) (not (eqb count 0)) brought).1) zero);
    })
    (λ none e.
    let l = unmarked image marks 0 e in
    record { long = λ some. absurd (some l.0); few = λ within. omega (arith, l.1); none = λ zero. l.0 })

module _ (drive : Drive) (r : Result) (operation : Operation) (store : Store) where
  abbrev Passes : Type 0
  Passes = image_refusal r.image r.marks (expected_of operation store drive.density r.code r.mark) ≡ 0

  record_long : Passes → brings_record operation ≡ true → (length r.image ≡ 0 → ⊥)
      → length r.image ≡ image_length (count_of r.image) drive.density
  unfolding expected_of
  record_long e brings =
      whole_long r.image r.marks drive.density r.code r.mark
      (subst (λ (x : Expected). image_refusal r.image r.marks x ≡ 0) (pick_yes _ _ brings) e)

  -- a supplied count is none that the image says
  supplied_alone : supplies_count operation ≡ true → brings_record operation ≡ false
  supplied_alone supplies =
      ap (λ (n : ℕ). eqb n (number_of Read) || eqb n (number_of SkipForward))
      (eqb-true (number_of operation) (number_of SuppliedCount) supplies)

  record_fits : Passes → supplies_count operation ≡ true → Fits r.image r.marks (held_count store)
  unfolding expected_of
  record_fits e supplies =
      supplied_fits r.image r.marks (held_count store) r.code
      (subst (λ (x : Expected). image_refusal r.image r.marks x ≡ 0)
      (pick_no _ _ (supplied_alone supplies) ∙ pick_yes _ _ supplies) e)

  -- ---- by the verdict

  abbrev verdict : Verdict
  verdict = verdict_of drive operation store r

  -- an image that is used is not empty, and its count is the verdict's
  used_some : verdict.used ≡ true → length r.image ≡ 0 → ⊥
  unfolding verdict_of
  used_some used = eqb-false _ _ (not-true _ (both_hold (not (is_gone drive operation)) _ used).1)

  used_own : supplies_count operation ≡ false → verdict.used ≡ true → verdict.count ≡ count_of r.image
  unfolding verdict_of used_count record_count
  used_own own used = pick_yes _ _ used ∙ pick_no _ _ own

  used_supplied : supplies_count operation ≡ true → verdict.used ≡ true → verdict.count ≡ held_count store
  unfolding verdict_of used_count record_count
  used_supplied supplies used = pick_yes _ _ used ∙ pick_yes _ _ supplies

  -- in GCR its last blockettes are the check blockettes
  checked_long : Passes → verdict.renews ≡ true → verdict.used ≡ true
      → length r.image ≡ image_length verdict.count 1
  unfolding verdict_of reads_gcr
  checked_long e renews used =
      by_test (supplies_count operation)
      (λ supplies. (record_fits e supplies).long (used_some used)
      ∙ sym (ap (λ (n : ℕ). image_length n 1) (used_supplied supplies used)))
      (λ own.
      let both = both_hold (brings_record operation) (is_gcr drive)
      (sym (ap (λ (t : Bool). t || (brings_record operation && is_gcr drive)) own) ∙ renews) in
      record_long e both.0 (used_some used) ∙ gcr_alike drive _ both.1
      ∙ sym (ap (λ (n : ℕ). image_length n 1) (used_own own used)))

  read_long : Passes → is_read operation ≡ true → verdict.used ≡ true → 2 + verdict.count ≤ length r.image
  read_long e reads used =
      by_test (supplies_count operation)
      (λ supplies. omega (
        arith,
        (record_fits e supplies).long (used_some used),
        image_holds (held_count store)
            gcr,
        used_supplied supplies used,
      ))
      (λ own.
      let plain : same_operation operation Read
      ≡ true = by_either (same_operation operation Read) (supplies_count operation) (λ plain. plain)
      (λ supplies. absurd (true≢false (sym supplies ∙ own))) reads in
      let long = record_long e (ap (λ (b : Bool). b || same_operation operation SkipForward) plain) (used_some used) in
      omega (arith, long, image_holds (count_of r.image) drive.density, used_own own used))

  module _ (check : ℕ) where
    pub record Passed : Type 0 where
      pub lent : check ≡ check_store
      pub two : (length r.image ≡ 0 → ⊥) → 2 ≤ length r.image
      pub few : supplies_count operation ≡ true → held_count store ≤ 65535 → length r.marks ≤ most_marks
      pub checked : verdict.renews ≡ true → verdict.used ≡ true → length r.image ≡ image_length verdict.count 1
      pub read : is_read operation ≡ true → verdict.used ≡ true → 2 + verdict.count ≤ length r.image

    passed_image : result_refusal drive operation store r check ≡ 0 → (check ≡ check_store) × Passes
    unfolding result_refusal
    passed_image e =
        let s = not_refused_lem _ _ _ (λ z. omega arith) e in
        let l = not_refused_lem _ _ _ (λ z. omega arith) s.1 in
        (eqb-true _ _ (not-false _ s.0), (not_refused_lem _ _ _ (λ z. omega arith) l.1).1)

    -- with a supplied count of 0 there is no image
    pub supplied_none : result_refusal drive operation store r check ≡ 0 → supplies_count operation ≡ true
        → held_count store ≡ 0 → length r.image ≡ 0
    supplied_none e supplies = (record_fits (passed_image e).1 supplies).none

    pub result_passed : result_refusal drive operation store r check ≡ 0 → Passed
    result_passed e =
        let (lent, passes) = passed_image e in
        record {
          lent = lent;
          two = two_bytes r.image r.marks _ passes;
          few = λ supplies. (record_fits passes supplies).few;
          checked = checked_long passes;
          read = read_long passes;
        }

-- ---- the final code

-- it is 0 only where the tape is there and the code was 0
pub final_zero : (gone : Bool) (code : ℕ) (found : Findings) → final_code gone code found ≡ 0
    → (gone ≡ false) × (code ≡ 0)
unfolding final_code
final_zero gone code found e =
    let (there, told) = not_refused_lem gone offline _ (λ z. omega arith) e in
    let (passed, mended) = not_refused_lem (is_found found.stop) unrecoverable _ (λ z. omega arith) told in
    (there, (not_refused_lem (is_found found.odd || is_found found.even) recoverable code (λ z. omega arith) mended).1)

-- the code that counts is 0 only where 0 was reported
pub reported_zero : (operation : Operation) (store : Store) (code : ℕ) → code_reported operation store code ≡ 0
    → code ≡ 0
unfolding code_reported
reported_zero operation store code e = (not_refused_lem _ blockette_number_wrong code (λ z. omega arith) e).1

-- ---- as many bytes as fit

module _ (bytes : List ℕ) (k n : ℕ) (e : n ≡ min (length bytes) k) where
  pub fitting_part : take n bytes ≡ fitting bytes k
  unfolding fitting
  fitting_part =
      let end : n ≡ min (length bytes) (0 + k) = omega arith in
      let all : n - 0 ≡ n = omega arith in
      sym (ap (λ (m : ℕ). take m bytes) all) ∙ part_min bytes 0 k n end (omega arith)

  pub fitting_length : n ≡ length (fitting bytes k)
  unfolding fitting
  fitting_length = simp length-take (omega arith)
