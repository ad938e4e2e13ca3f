-- What the contracts of the C functions that are lent space allow, as the toolchain reads them (`Post`): of the strings
-- handed in, the refusal, and what the space holds afterwards, with slices at any place and of any lifetime. And the
-- functions meet their contracts (`Meet`).
-- Assumes nothing.
use mathlib.Core.Path.{◌≡◌, refl, sym, ap, ap₂, subst, ◌∙◌}
use mathlib.Core.Bool.{true, not}
use mathlib.Core.List.{List, []}
use contract.Lifetimes.{Lfts}
use denote.Ref.{Bor, MutBor, at_last}
use Prim.Native.Nat.{ℕ, ◌≤◌}
use native.Mathlib.Omega.{arith}
use lib.ListN.{length, take}
use lib.Seq.{take_at}
use borrow.Author.Tests.{le-ltb, ltb-false}
use Rattle.common.specs.Space.{overwrite}
use Rattle.common.proofs.PickLaws.{pick_no, not_refused_lem, where_done}
use Rattle.passes.specs.Passes.{merged_marks}
use Rattle.passes.proofs.MergedLaws.{marks_length}
use Rattle.records.specs.Count.{limit}
use Rattle.records.specs.Image.{image_of, image_length}
use Rattle.records.specs.Place.{is_place}
use Rattle.records.specs.Build.{build_refusal, built_bytes, build_into}
use Rattle.records.specs.Restore.{restore_refusal, restore_into}
use Rattle.records.specs.Merge.{Pass, pass_of, merge_refusal, merged_image, merge_image_into, merge_marks_into}
use Rattle.records.specs.Verify.{verify}
use Rattle.records.specs.Interface.{image_count, scan_refusal, scan_into}
use Rattle.records.proofs.ImageLaws.{image_length_lem, image_alike}
use Rattle.records.proofs.PlaceLaws.{written_length}
use Rattle.records.proofs.interface.ctc_build.Reads as build-reads
use Rattle.records.proofs.interface.ctc_restore.Reads as restore-reads
use Rattle.records.proofs.interface.ctc_merge.Reads as merge-reads
use Rattle.records.proofs.interface.ctc_scan.Reads as scan-reads
use Rattle.records.proofs.interface.ctc_image_length.Reads as length-reads
use Rattle.records.proofs.interface.ctc_mark_count.Reads as marks-reads
use Rattle.records.proofs.interface.ctc_image_count.Reads as count-reads
use Rattle.records.proofs.interface.ctc_verify.Reads as verify-reads
use Rattle.records.proofs.interface.ctc_build.Met as build-met
use Rattle.records.proofs.interface.ctc_build.Statement as build-statement
use Rattle.records.proofs.interface.ctc_restore.Met as restore-met
use Rattle.records.proofs.interface.ctc_restore.Statement as restore-statement
use Rattle.records.proofs.interface.ctc_merge.Met as merge-met
use Rattle.records.proofs.interface.ctc_merge.Statement as merge-statement
use Rattle.records.proofs.interface.ctc_image_length.Met as length-met
use Rattle.records.proofs.interface.ctc_image_length.Statement as length-statement
use Rattle.records.proofs.interface.ctc_mark_count.Met as marks-met
use Rattle.records.proofs.interface.ctc_mark_count.Statement as marks-statement
use Rattle.records.proofs.interface.ctc_image_count.Met as count-met
use Rattle.records.proofs.interface.ctc_image_count.Statement as count-statement
use Rattle.records.proofs.interface.ctc_scan.Met as scan-met
use Rattle.records.proofs.interface.ctc_scan.Statement as scan-statement
use Rattle.records.proofs.interface.ctc_verify.Met as verify-met
use Rattle.records.proofs.interface.ctc_verify.Statement as verify-statement

-- ---- what the contracts allow

pub record BuildAllows (bytes : List ℕ) (density place : ℕ) (space : List ℕ) (refusal : ℕ)
    (after : List ℕ) : Type 0 where
  pub lifetimes : Lfts 2
  pub bytes_slice : Bor (List ℕ)
  pub space_slice : MutBor (List ℕ)
  pub holds_bytes : bytes_slice.now ≡ bytes
  pub holds_space : space_slice.now ≡ space
  pub promise :
      build-reads.Post lifetimes (bytes_slice, (density, (place, (space_slice, tt)))) refusal
      (bytes_slice, (density, (place, (at_last space_slice after, tt))))

pub record RestoreAllows (image marks space : List ℕ) (refusal : ℕ) (after : List ℕ) : Type 0 where
  pub lifetimes : Lfts 3
  pub image_slice : Bor (List ℕ)
  pub marks_slice : Bor (List ℕ)
  pub space_slice : MutBor (List ℕ)
  pub holds_image : image_slice.now ≡ image
  pub holds_marks : marks_slice.now ≡ marks
  pub holds_space : space_slice.now ≡ space
  pub promise :
      restore-reads.Post lifetimes (image_slice, (marks_slice, (space_slice, tt))) refusal
      (image_slice, (marks_slice, (at_last space_slice after, tt)))

-- two passes, and both spaces before and after
pub record MergeAllows (first second : Pass) (image marks : List ℕ) (refusal : ℕ)
    (image_after marks_after : List ℕ) : Type 0 where
  pub lifetimes : Lfts 6
  pub first_slice : Bor (List ℕ)
  pub first_marks_slice : Bor (List ℕ)
  pub second_slice : Bor (List ℕ)
  pub second_marks_slice : Bor (List ℕ)
  pub image_slice : MutBor (List ℕ)
  pub marks_slice : MutBor (List ℕ)
  pub holds_first : pass_of first_slice.now first_marks_slice.now ≡ first
  pub holds_second : pass_of second_slice.now second_marks_slice.now ≡ second
  pub holds_image : image_slice.now ≡ image
  pub holds_marks : marks_slice.now ≡ marks
  pub promise :
      merge-reads.Post lifetimes
      (first_slice, (first_marks_slice, (second_slice, (second_marks_slice, (image_slice, (marks_slice, tt))))))
      refusal (
        first_slice,
        (
          first_marks_slice,
          (
            second_slice,
            (second_marks_slice, (at_last image_slice image_after, (at_last marks_slice marks_after, tt))),
          ),
        ),
      )

pub record ScanAllows (marks space : List ℕ) (refusal : ℕ) (after : List ℕ) : Type 0 where
  pub lifetimes : Lfts 2
  pub marks_slice : Bor (List ℕ)
  pub space_slice : MutBor (List ℕ)
  pub holds_marks : marks_slice.now ≡ marks
  pub holds_space : space_slice.now ≡ space
  pub promise : scan-reads.Post lifetimes (marks_slice, (space_slice, tt)) refusal
      (marks_slice, (at_last space_slice after, tt))

-- what is told of a count, and of an image
abbrev pub LengthAllows : ℕ → ℕ → ℕ → Type 0
LengthAllows count density told = length-reads.Post tt (count, (density, tt)) told (count, (density, tt))

abbrev pub MarksAllows : ℕ → ℕ → ℕ → Type 0
MarksAllows count density told = marks-reads.Post tt (count, (density, tt)) told (count, (density, tt))

pub record CountAllows (image : List ℕ) (told : ℕ) : Type 0 where
  pub lifetimes : Lfts 1
  pub image_slice : Bor (List ℕ)
  pub holds_image : image_slice.now ≡ image
  pub promise : count-reads.Post lifetimes (image_slice, tt) told (image_slice, tt)

pub record VerifyAllows (image : List ℕ) (told : ℕ) : Type 0 where
  pub lifetimes : Lfts 1
  pub image_slice : Bor (List ℕ)
  pub holds_image : image_slice.now ≡ image
  pub promise : verify-reads.Post lifetimes (image_slice, tt) told (image_slice, tt)

-- an allowed answer is that of the definitions
pub builds_are_defined : (bytes : List ℕ) (density place : ℕ) (space : List ℕ) (refusal : ℕ) (after : List ℕ)
    → BuildAllows bytes density place space refusal after
    → (refusal ≡ build_refusal (length bytes) density place (length space))
    × (after ≡ build_into bytes density place space)
builds_are_defined bytes density place space refusal after allowed = (
  allowed.promise.0
      ∙ ap₂ (λ (b s : List ℕ). build_refusal (length b) density place (length s)) allowed.holds_bytes
      allowed.holds_space,
  allowed.promise.1
      ∙ ap₂ (λ (b s : List ℕ). build_into b density place s) allowed.holds_bytes allowed.holds_space,
)

pub restores_are_defined : (image marks space : List ℕ) (refusal : ℕ) (after : List ℕ)
    → RestoreAllows image marks space refusal after
    → (refusal ≡ restore_refusal image marks (length space)) × (after ≡ restore_into image marks space)
restores_are_defined image marks space refusal after allowed =
    let i = allowed.holds_image in
    let s = allowed.holds_space in (
      allowed.promise.0
          ∙ ap₂ (λ (m o : List ℕ). restore_refusal allowed.image_slice.now m (length o)) allowed.holds_marks s
          ∙ ap (λ (l : List ℕ). restore_refusal l marks (length space)) i,
      allowed.promise.1
          ∙ ap₂ (λ (m o : List ℕ). restore_into allowed.image_slice.now m o) allowed.holds_marks s
          ∙ ap (λ (l : List ℕ). restore_into l marks space) i,
    )

pub record MergeDefined (first second : Pass) (image marks : List ℕ) (refusal : ℕ)
    (image_after marks_after : List ℕ) : Type 0 where
  pub answer : refusal ≡ merge_refusal first second (length image) (length marks)
  pub image_after_lem : image_after ≡ merge_image_into first second image (length marks)
  pub marks_after_lem : marks_after ≡ merge_marks_into first second (length image) marks

pub merges_are_defined : (first second : Pass) (image marks : List ℕ) (refusal : ℕ) (image_after marks_after : List ℕ)
    → MergeAllows first second image marks refusal image_after marks_after
    → MergeDefined first second image marks refusal image_after marks_after
merges_are_defined first second image marks refusal image_after marks_after allowed =
    let i = allowed.holds_image in
    let m = allowed.holds_marks in
    let one = allowed.holds_first in
    let two = allowed.holds_second in
    let f = pass_of allowed.first_slice.now allowed.first_marks_slice.now in
    let s = pass_of allowed.second_slice.now allowed.second_marks_slice.now in
    record {
      answer = allowed.promise.0
          ∙ ap₂ (λ (i m : List ℕ). merge_refusal f s (length i) (length m)) i m
          ∙ ap₂ (λ (x y : Pass). merge_refusal x y (length image) (length marks)) one two;
      image_after_lem = allowed.promise.1.0
          ∙ ap₂ (λ (i m : List ℕ). merge_image_into f s i (length m)) i m
          ∙ ap₂ (λ (x y : Pass). merge_image_into x y image (length marks)) one two;
      marks_after_lem = allowed.promise.1.1
          ∙ ap₂ (λ (i m : List ℕ). merge_marks_into f s (length i) m) i m
          ∙ ap₂ (λ (x y : Pass). merge_marks_into x y (length image) marks) one two;
    }

pub scans_are_defined : (marks space : List ℕ) (refusal : ℕ) (after : List ℕ) → ScanAllows marks space refusal after
    → (refusal ≡ scan_refusal (length space)) × (after ≡ scan_into marks space)
scans_are_defined marks space refusal after allowed = (
  allowed.promise.0 ∙ ap (λ (s : List ℕ). scan_refusal (length s)) allowed.holds_space,
  allowed.promise.1 ∙ ap₂ scan_into allowed.holds_marks allowed.holds_space,
)

pub counts_are_defined : (image : List ℕ) (told : ℕ) → CountAllows image told → told ≡ image_count image
counts_are_defined image told allowed = allowed.promise ∙ ap image_count allowed.holds_image

pub verifies_are_defined : (image : List ℕ) (told : ℕ) → VerifyAllows image told → told ≡ verify image
verifies_are_defined image told allowed = allowed.promise ∙ ap verify allowed.holds_image

-- and that answer is allowed
abbrev shown : List ℕ → Bor (List ℕ)
shown bytes = record { ref_ptr = (0, 0); now = bytes }

abbrev somewhere : List ℕ → MutBor (List ℕ)
somewhere bytes = record { ref_ptr = (0, 0); ghost_name = 0; now = bytes }

pub builds_are_allowed : (bytes : List ℕ) (density place : ℕ) (space : List ℕ)
    → BuildAllows bytes density place space (build_refusal (length bytes) density place (length space))
    (build_into bytes density place space)
builds_are_allowed bytes density place space =
    record {
      lifetimes = ([], ([], tt));
      bytes_slice = shown bytes;
      space_slice = somewhere space;
      holds_bytes = refl;
      holds_space = refl;
      promise = (refl, refl);
    }

pub restores_are_allowed : (image marks space : List ℕ)
    → RestoreAllows image marks space (restore_refusal image marks (length space)) (restore_into image marks space)
restores_are_allowed image marks space =
    record {
      lifetimes = ([], ([], ([], tt)));
      image_slice = shown image;
      marks_slice = shown marks;
      space_slice = somewhere space;
      holds_image = refl;
      holds_marks = refl;
      holds_space = refl;
      promise = (refl, refl);
    }

pub merges_are_allowed : (first second : Pass) (image marks : List ℕ)
    → MergeAllows first second image marks (merge_refusal first second (length image) (length marks))
    (merge_image_into first second image (length marks))
    (merge_marks_into first second (length image) marks)
merges_are_allowed first second image marks =
    record {
      lifetimes = ([], ([], ([], ([], ([], ([], tt))))));
      first_slice = shown first.image;
      first_marks_slice = shown first.marks;
      second_slice = shown second.image;
      second_marks_slice = shown second.marks;
      image_slice = somewhere image;
      marks_slice = somewhere marks;
      holds_first = refl;
      holds_second = refl;
      holds_image = refl;
      holds_marks = refl;
      promise = (refl, (refl, refl));
    }

pub verifies_are_allowed : (image : List ℕ) → VerifyAllows image (verify image)
verifies_are_allowed image =
    record { lifetimes = ([], tt); image_slice = shown image; holds_image = refl; promise = refl }

-- ---- the builder's answer 0

-- what is known of it in GCR, of the record that is written
module _ (bytes : List ℕ) (density place : ℕ) (space after : List ℕ) (gcr : density ≡ 0 → ⊥)
    (allowed : BuildAllows bytes density place space 0 after) where
  pub built_within : length (built_bytes bytes place) ≤ limit
  unfolding build_refusal
  built_within =
      let few = ltb-false _ _
      (not_refused_lem _ _ _ (λ r. omega arith)
      (sym (builds_are_defined bytes density place space 0 after allowed).0)).0 in
      rw (written_length bytes place 0 (length bytes)) few

  -- its image stands at the start of the space
  pub built_image : take (image_length (length bytes) density) after ≡ image_of (built_bytes bytes place) 1
  unfolding build_into overwrite
  built_image =
      let promised = builds_are_defined bytes density place space 0 after allowed in
      let long = image_length_lem (built_bytes bytes place) density
      ∙ ap (λ (n : ℕ). image_length n density) (written_length bytes place 0 (length bytes)) in
      ap (λ (l : List ℕ). take (image_length (length bytes) density) l)
      (promised.1 ∙ where_done _ _ _ (sym promised.0))
      ∙ take_at (image_of (built_bytes bytes place) density) _ (image_length (length bytes) density) long
      ∙ image_alike density gcr (built_bytes bytes place)

-- and it gives that answer where the bytes are within the limit, the image fits, and the place is one of theirs or none
pub builds_within : (bytes : List ℕ) (density place : ℕ) (space : List ℕ) → length bytes ≤ limit
    → image_length (length bytes) density ≤ length space
    → is_place (length bytes) place ≡ true
    → BuildAllows bytes density place space 0 (build_into bytes density place space)
unfolding build_refusal
builds_within bytes density place space within room is_a_place =
    let c = length bytes in
    let accepted : build_refusal c density place (length space) ≡ 0 =
    pick_no 9 _ (le-ltb limit c within) ∙ pick_no 11 _ (le-ltb (length space) (image_length c density) room)
    ∙ pick_no 15 0 (ap not is_a_place)
    in
    subst (λ (r : ℕ). BuildAllows bytes density place space r (build_into bytes density place space)) accepted
    (builds_are_allowed bytes density place space)

-- ---- merging's answer 0

module _ (first second : Pass) (image marks image_after marks_after : List ℕ)
    (allowed : MergeAllows first second image marks 0 image_after marks_after) where
  -- the merged marks stand at the start of their space
  pub marks_left : marks_after ≡ overwrite (merged_marks first.marks second.marks) marks
  unfolding merge_marks_into
  marks_left =
      let promised = merges_are_defined first second image marks 0 image_after marks_after allowed in
      promised.marks_after_lem ∙ where_done _ _ _ (sym promised.answer)

  -- the merged image at the start of its own
  pub image_left : image_after ≡ overwrite (merged_image first second) image
  unfolding merge_image_into
  image_left =
      let promised = merges_are_defined first second image marks 0 image_after marks_after allowed in
      promised.image_after_lem ∙ where_done _ _ _ (sym promised.answer)

  pub merged_marks_left : take (length first.marks) marks_after ≡ merged_marks first.marks second.marks
  unfolding overwrite
  merged_marks_left =
      ap (λ (l : List ℕ). take (length first.marks) l) marks_left
      ∙ take_at (merged_marks first.marks second.marks) _ (length first.marks)
      (marks_length first.marks second.marks)

  pub merged_image_left : length (merged_image first second) ≡ length first.image
      → take (length first.image) image_after ≡ merged_image first second
  unfolding overwrite
  merged_image_left long =
      ap (λ (l : List ℕ). take (length first.image) l) image_left
      ∙ take_at (merged_image first second) _ (length first.image) long

-- ---- the functions

-- each C function meets its contract
pub record Meet (M : Type 1) : Type 2 where
  pub build : build-statement.statement M
  pub restore : restore-statement.statement M
  pub merge : merge-statement.statement M
  pub image_length_lem : length-statement.statement M
  pub mark_count_lem : marks-statement.statement M
  pub image_count_lem : count-statement.statement M
  pub scan : scan-statement.statement M
  pub verify : verify-statement.statement M

pub all_met : {M : Type 1} → Meet M
all_met =
    record {
      build = build-met.met;
      restore = restore-met.met;
      merge = merge-met.met;
      image_length_lem = length-met.met;
      mark_count_lem = marks-met.met;
      image_count_lem = count-met.met;
      scan = scan-met.met;
      verify = verify-met.met;
    }
