-- The theorems of the records, of the C functions themselves. 1: `calls_meet_their_contracts`,
-- `refused_calls_change_nothing`, and with which number they are refused: `refusals_are_the_first_that_hold`. 2:
-- `calls_restore_what_was_built`: what `ctc_build` leaves, spoiled as demand 2 says, `ctc_restore` gives back; and that
-- this speaks of something: `every_record_can_be_spoiled_and_restored`. Of two passes:
-- `merged_blockettes_come_from_a_pass`, `calls_merge_bad_only_where_both_are` and `calls_restore_what_two_passes_show`,
-- and that this speaks of something: `two_passes_are_restored_where_neither_is`. Of the check blockettes:
-- `built_images_are_verified` and `one_changed_blockette_is_told`, and that this speaks of something:
-- `every_blockette_can_be_changed`. And of records within the limit of before: `earlier_tapes_read_the_same`.
-- Assumes nothing.
pub mod Contracts
use mathlib.Core.Path.{◌≡◌, sym, ap, ap₂, subst, ◌∙◌}
use mathlib.Core.Bool.{true, false, not, ◌&&◌}
use mathlib.Core.List.{List}
use Prim.Native.Nat.{ℕ, ◌-◌, ◌≤◌, ◌<◌}
use native.Mathlib.Omega.{arith}
use lib.Dec.{ltb, eqb}
use borrow.Author.Tests.{le-ltb}
use lib.ListN.{length, take, drop, get_or, get_or-append}
use Rattle.common.specs.Pick.{pick}
use Rattle.common.specs.Space.{overwrite}
use Rattle.common.proofs.PickLaws.{by_test, pick_no, where_refused}
use Rattle.blockettes.specs.Blockettes.{blockette_at}
use Rattle.marks.specs.Marks.{is_error, Once}
use Rattle.marks.specs.Scan.{scan_marks}
use Rattle.passes.specs.Passes.{merged_marks}
use Rattle.passes.proofs.MergedLaws.{marks_length, mark_at, mark_bad}
use Rattle.records.specs.Count.{limit, count_of}
use Rattle.records.specs.Image.{image_of, image_length, mark_count}
use Rattle.records.specs.Place.{no_place, is_place}
use Rattle.records.specs.Build.{build_refusal, built_bytes, build_into}
use Rattle.records.specs.Whole.{whole_refusal}
use Rattle.records.specs.Restore.{restore_refusal, restored_bytes, restore_into}
use Rattle.records.specs.Merge.{Pass, merge_image_into, merge_marks_into}
use Rattle.records.specs.Earlier.{earlier_limit, earlier_build_refusal, earlier_build_into, earlier_whole_refusal}
use Rattle.records.specs.Earlier.{earlier_restore_refusal, earlier_restore_into}
use Rattle.records.specs.Spoiled.{Spoiled, spoiled_at}
use Rattle.records.specs.Verify.{verify}
use Rattle.records.specs.Interface.{scan_refusal, scan_into}
use Rattle.records.specs.Refused.{BuildRefused, RestoreRefused, MergeRefused, ScanRefused, LengthTold, MarksTold}
use Rattle.records.specs.Refused.{CountTold, VerifyTold, OneUnfit}
use Rattle.records.specs.Merged.{Merged}
use Rattle.records.proofs.ImageLaws.{image_length_lem}
use Rattle.records.proofs.PlaceLaws.{written_length, built_as_came}
use Rattle.records.proofs.MergeLaws.{mergeable}
use Rattle.records.proofs.RefusedCalls.{build_refused, restore_refused, merge_refused, scan_refused, length_told}
use Rattle.records.proofs.RefusedCalls.{marks_told, count_told, verify_told}
use Rattle.records.proofs.MergedBlockettes.{merged_blockettes_lem}
use Rattle.records.proofs.BuiltRecordsAreRestored.{built_records_are_restored}
use Rattle.records.proofs.BuiltRecordsFit.{built_records_fit, changed_records_do_not_fit}
use Rattle.records.proofs.MergedRecordsAreRestored.{Shows, merged_shows, merging_is_accepted}
use Rattle.records.proofs.MergedRecordsAreRestored.{merged_records_are_restored}
use Rattle.records.proofs.Spoiling.{IsBad, two_bad, ReallySpoiled, records_are_spoiled, another, another_full}
use Rattle.records.proofs.Spoiling.{another_differs}
use Rattle.records.proofs.TwoPasses.{first_pass, second_pass, first_shows, second_shows, first_alone, second_alone}
use Rattle.records.proofs.TwoPasses.{both_once}
use Rattle.records.proofs.Demands.Contracts.{BuildAllows, RestoreAllows, MergeAllows, ScanAllows}
use Rattle.records.proofs.Demands.Contracts.{LengthAllows, MarksAllows, CountAllows, counts_are_defined}
use Rattle.records.proofs.Demands.Contracts.{builds_are_defined, restores_are_defined, merges_are_defined}
use Rattle.records.proofs.Demands.Contracts.{marks_left, image_left, merged_marks_left, merged_image_left}
use Rattle.records.proofs.Demands.Contracts.{scans_are_defined, VerifyAllows, verifies_are_defined}
use Rattle.records.proofs.Demands.Contracts.{verifies_are_allowed}
use Rattle.records.proofs.Demands.Contracts.{restores_are_allowed, merges_are_allowed, built_within, built_image}
use Rattle.records.proofs.Demands.Contracts.{builds_within, Meet, all_met}

-- ---- demand 1

-- Each C function meets its contract, which has no `requires`; so it returns and does nothing undefined, whatever it is
-- handed.
pub calls_meet_their_contracts : {M : Type 1} → Meet M
calls_meet_their_contracts = all_met

-- "buffers unchanged": where an answer that the contract allows is a refusal, the lent space is as it was
pub record RefusedCallsChangeNothing : Type 0 where
  pub build : (bytes : List ℕ) (density place : ℕ) (space : List ℕ) (refusal : ℕ) (after : List ℕ)
      → BuildAllows bytes density place space refusal after → (refusal ≡ 0 → ⊥) → after ≡ space
  pub restore : (image marks space : List ℕ) (refusal : ℕ) (after : List ℕ)
      → RestoreAllows image marks space refusal after → (refusal ≡ 0 → ⊥) → after ≡ space
  pub merge : (first second : Pass) (image marks : List ℕ) (refusal : ℕ) (image_after marks_after : List ℕ)
      → MergeAllows first second image marks refusal image_after marks_after → (refusal ≡ 0 → ⊥)
      → (image_after ≡ image) × (marks_after ≡ marks)
  pub scan : (marks space : List ℕ) (refusal : ℕ) (after : List ℕ) → ScanAllows marks space refusal after
      → (refusal ≡ 0 → ⊥) → after ≡ space

pub refused_calls_change_nothing : RefusedCallsChangeNothing
unfolding build_into restore_into merge_image_into merge_marks_into scan_refusal scan_into pick
refused_calls_change_nothing =
    record {
      build = λ bytes density place space refusal after allowed some.
          let promised = builds_are_defined bytes density place space refusal after allowed in
          promised.1 ∙ where_refused _ _ _ (λ none. some (promised.0 ∙ none));
      restore = λ image marks space refusal after allowed some.
          let promised = restores_are_defined image marks space refusal after allowed in
          promised.1 ∙ where_refused _ _ _ (λ none. some (promised.0 ∙ none));
      merge = λ first second image marks refusal image_after marks_after allowed some.
          let promised = merges_are_defined first second image marks refusal image_after marks_after allowed in (
            promised.image_after_lem ∙ where_refused _ _ _ (λ none. some (promised.answer ∙ none)),
            promised.marks_after_lem ∙ where_refused _ _ _ (λ none. some (promised.answer ∙ none)),
          );
      scan = λ marks space refusal after allowed some.
          let promised = scans_are_defined marks space refusal after allowed in
          by_test (ltb (length space) 9) (λ short. promised.1 ∙ simp short)
          (λ room. absurd (some (promised.0 ∙ simp room)));
    }

-- The refusal is the first number of the papers' order whose condition holds, and 0 where none does; and what is told
-- of a count or an image is the number that the papers give it.
pub record RefusalsAreTheFirstThatHold : Type 0 where
  pub build : (bytes : List ℕ) (density place : ℕ) (space : List ℕ) (refusal : ℕ) (after : List ℕ)
      → BuildAllows bytes density place space refusal after
      → BuildRefused (length bytes) density place (length space) refusal
  pub restore : (image marks space : List ℕ) (refusal : ℕ) (after : List ℕ)
      → RestoreAllows image marks space refusal after → RestoreRefused image marks (length space) refusal
  pub merge : (first second : Pass) (image marks : List ℕ) (refusal : ℕ) (image_after marks_after : List ℕ)
      → MergeAllows first second image marks refusal image_after marks_after
      → MergeRefused first second (length image) (length marks) refusal
  pub scan : (marks space : List ℕ) (refusal : ℕ) (after : List ℕ) → ScanAllows marks space refusal after
      → ScanRefused (length space) refusal
  pub image_length_lem : (count density told : ℕ) → LengthAllows count density told → LengthTold count density told
  pub mark_count_lem : (count density told : ℕ) → MarksAllows count density told → MarksTold count density told
  pub image_count_lem : (image : List ℕ) (told : ℕ) → CountAllows image told → CountTold image told
  pub verify : (image : List ℕ) (told : ℕ) → VerifyAllows image told → VerifyTold image told

pub refusals_are_the_first_that_hold : RefusalsAreTheFirstThatHold
refusals_are_the_first_that_hold =
    record {
      build = λ bytes density place space refusal after allowed.
          subst (BuildRefused (length bytes) density place (length space))
          (sym (builds_are_defined bytes density place space refusal after allowed).0)
          (build_refused (length bytes) density place (length space));
      restore = λ image marks space refusal after allowed.
          subst (RestoreRefused image marks (length space))
          (sym (restores_are_defined image marks space refusal after allowed).0)
          (restore_refused image marks (length space));
      merge = λ first second image marks refusal image_after marks_after allowed.
          subst (MergeRefused first second (length image) (length marks))
          (sym (merges_are_defined first second image marks refusal image_after marks_after allowed).answer)
          (merge_refused first second (length image) (length marks));
      scan = λ marks space refusal after allowed.
          subst (ScanRefused (length space)) (sym (scans_are_defined marks space refusal after allowed).0)
          (scan_refused (length space));
      image_length_lem = λ count density told allowed.
          subst (LengthTold count density) (sym allowed) (length_told count density);
      mark_count_lem = λ count density told allowed.
          subst (MarksTold count density) (sym allowed) (marks_told count density);
      image_count_lem = λ image told allowed.
          subst (CountTold image) (sym (counts_are_defined image told allowed)) (count_told image);
      verify = λ image told allowed.
          subst (VerifyTold image) (sym (verifies_are_defined image told allowed)) (verify_told image);
    }

-- ---- demand 2

-- "a record's own bytes in demand 2 are those written" (document 02, request 6): all that came, or those up to the bad
-- one and then zeros. Of bytes that the builder made an image of in GCR, the image at the start of the space that it
-- left, spoiled with at most one odd and one even blockette bad and those alone marked: of image and marks the
-- restorer, with room for the bytes, answers 0 and gives those written at the start of its space, and leaves the rest
-- of it as it was.
pub calls_restore_what_was_built :
    (bytes : List ℕ) (density place : ℕ) (space built : List ℕ) → (density ≡ 0 → ⊥)
    → BuildAllows bytes density place space 0 built
    → (image marks : List ℕ) → Spoiled (take (image_length (length bytes) density) built) image marks
    → (out : List ℕ) (refusal : ℕ) (after : List ℕ) → length bytes ≤ length out
    → RestoreAllows image marks out refusal after
    → (refusal ≡ 0) × (after ≡ overwrite (built_bytes bytes place) out)
calls_restore_what_was_built bytes density place space built gcr builds image marks spoiled out refusal after
    room restores =
    let written = built_bytes bytes place in
    let promised = restores_are_defined image marks out refusal after restores in
    let same = subst (λ (l : List ℕ). Spoiled l image marks) (built_image bytes density place space built gcr builds)
    spoiled in
    let room' : length written ≤ length out = rw (written_length bytes place 0 (length bytes)) room in
    let restored = built_records_are_restored written image marks out
    (built_within bytes density place space built gcr builds) same room' in
    (promised.0 ∙ restored.0, promised.1 ∙ restored.1)

-- Where no byte is bad, those written are the bytes themselves.
pub without_a_bad_byte_all_are_written : (bytes : List ℕ) → length bytes ≤ limit → built_bytes bytes no_place ≡ bytes
unfolding limit
without_a_bad_byte_all_are_written bytes within = built_as_came bytes no_place (omega arith)

-- All this can happen: to every record of at least one byte within the limit, built in GCR with any place and restored
-- in any spaces with room for it, with an odd and an even blockette that hold other bytes than were built and have any
-- marks of an error.
pub record BuiltSpoiledRestored (bytes : List ℕ) (density place : ℕ) (space marks out : List ℕ) : Type 0 where
  pub built : List ℕ
  pub image : List ℕ
  pub after : List ℕ
  pub builds : BuildAllows bytes density place space 0 built
  pub spoiled : ReallySpoiled (take (image_length (length bytes) density) built) image marks
  pub restores : RestoreAllows image marks out 0 after

pub every_record_can_be_spoiled_and_restored :
    (bytes : List ℕ) (density place : ℕ) (space out : List ℕ) (mark₁ mark₂ : ℕ) → (density ≡ 0 → ⊥) → 0 < length bytes
    → length bytes ≤ limit
    → is_place (length bytes) place ≡ true → image_length (length bytes) density ≤ length space
    → length bytes ≤ length out → IsBad mark₁ → IsBad mark₂
    → BuiltSpoiledRestored bytes density place space (two_bad (built_bytes bytes place) mark₁ mark₂) out
every_record_can_be_spoiled_and_restored bytes density place space out mark₁ mark₂ gcr some within is_a_place
    fits room bad₁ bad₂ =
    let written = built_bytes bytes place in
    let long = written_length bytes place 0 (length bytes) in
    let some' : 0 < length written = rw long some in
    let within' : length written ≤ limit = rw long within in
    let room' : length written ≤ length out = rw long room in
    let built = build_into bytes density place space in
    let made = builds_within bytes density place space within fits is_a_place in
    let marks = two_bad written mark₁ mark₂ in
    let found = records_are_spoiled written mark₁ mark₂ some' bad₁ bad₂ in
    let image = found.0 in
    let answer = (built_records_are_restored written image marks out within' found.1.spoiled room').0 in
    record {
      built = built;
      image = image;
      after = restore_into image marks out;
      builds = made;
      spoiled =
          subst (λ (l : List ℕ). ReallySpoiled l image marks)
          (sym (built_image bytes density place space built gcr made)) found.1;
      restores =
          subst (λ (r : ℕ). RestoreAllows image marks out r (restore_into image marks out)) answer
          (restores_are_allowed image marks out);
    }

-- ---- one record out of two passes

-- Bytes that the builder made an image of in GCR, and two passes over it, each of which shows the built count and the
-- built bytes in every blockette that it marks good: with room for both, merging answers 0. If the merged marks hold at
-- most one error of each parity, then of what it leaves at the start of its spaces the restorer, with room for the
-- bytes, answers 0 and gives those written.
pub calls_restore_what_two_passes_show :
    (bytes : List ℕ) (density place : ℕ) (space built : List ℕ) → (density ≡ 0 → ⊥)
    → BuildAllows bytes density place space 0 built
    → (first second : Pass) → Shows (take (image_length (length bytes) density) built) first
    → Shows (take (image_length (length bytes) density) built) second
    → (image marks : List ℕ) (refusal : ℕ) (image_after marks_after : List ℕ) → length first.image ≤ length image
    → length first.marks ≤ length marks
    → MergeAllows first second image marks refusal image_after marks_after
    → (refusal ≡ 0)
    × (Once (take (length first.marks) marks_after) → (out : List ℕ) (answer : ℕ) (after : List ℕ)
    → length bytes ≤ length out
    → RestoreAllows (take (length first.image) image_after) (take (length first.marks) marks_after) out answer after
    → (answer ≡ 0) × (after ≡ overwrite (built_bytes bytes place) out))
calls_restore_what_two_passes_show
    bytes density place space built gcr builds first second one two image marks refusal image_after marks_after
    image_room marks_room merges =
    let written = built_bytes bytes place in
    let within = built_within bytes density place space built gcr builds in
    let is_image = built_image bytes density place space built gcr builds in
    let one' = subst (λ (l : List ℕ). Shows l first) is_image one in
    let two' = subst (λ (l : List ℕ). Shows l second) is_image two in
    let none = (merges_are_defined first second image marks refusal image_after marks_after merges).answer
    ∙ merging_is_accepted written first second within one' two' (length image) (length marks) image_room marks_room
    in
    let done = subst (λ (r : ℕ). MergeAllows first second image marks r image_after marks_after) none merges in
    let shows = merged_shows (image_of written 1) first second one' two' in
    let merged_image = merged_image_left first second image marks image_after marks_after done
    (shows.whole ∙ sym one'.whole) in
    let marks_merged = merged_marks_left first second image marks image_after marks_after done in (
      none,
      λ once out answer after room restores.
          let given_back = restores_are_defined _ _ out answer after restores in
          let room' : length written ≤ length out = rw (written_length bytes place 0 (length bytes)) room in
          let restored = merged_records_are_restored written first second within one' two'
          (subst Once marks_merged once) out room' in (
            given_back.0 ∙ ap₂ (λ (i m : List ℕ). restore_refusal i m (length out)) merged_image marks_merged
                ∙ restored.0,
            given_back.1 ∙ ap₂ (λ (i m : List ℕ). restore_into i m out) merged_image marks_merged ∙ restored.1,
          ),
    )

-- "A blockette comes from the first pass if that marks it good, else from the second if that does, else from the first
-- with its mark.": its bytes and its mark at each place, where merging answers 0; and the count bytes.
pub merged_blockettes_come_from_a_pass :
    (first second : Pass) (image marks image_after marks_after : List ℕ)
    → MergeAllows first second image marks 0 image_after marks_after
    → Merged first second image marks image_after marks_after
merged_blockettes_come_from_a_pass first second image marks image_after marks_after merges =
    let answer = (merges_are_defined first second image marks 0 image_after marks_after merges).answer in
    let ok = mergeable first second (length image) (length marks) (sym answer) in
    rw (
      image_left first second image marks image_after marks_after merges,
      marks_left first second image marks image_after marks_after merges,
    ) (merged_blockettes_lem first second image marks ok)

-- "A merged blockette is bad only if both passes had it bad", and is good exactly if one had it good: at each place,
-- where merging answers 0.
pub calls_merge_bad_only_where_both_are :
    (first second : Pass) (image marks image_after marks_after : List ℕ)
    → MergeAllows first second image marks 0 image_after marks_after
    → (place : ℕ) → place < length first.marks
    → is_error (get_or marks_after place 0)
    ≡ (is_error (get_or first.marks place 0) && is_error (get_or second.marks place 0))
unfolding overwrite
calls_merge_bad_only_where_both_are first second image marks image_after marks_after merges place below =
    let merged = merged_marks first.marks second.marks in
    let within : place < length merged = omega (arith, marks_length first.marks second.marks) in
    ap (λ (l : List ℕ). is_error (get_or l place 0))
    (marks_left first second image marks image_after marks_after merges)
    ∙ ap is_error (get_or-append merged _ 0 place within ∙ mark_at first.marks second.marks place below)
    ∙ mark_bad (get_or first.marks place 0) (get_or second.marks place 0)

-- All this can happen: to every record of three blockettes of data, built in GCR, with two passes over it of which the
-- restorer refuses each with 12, and gives the bytes from what merging leaves of both.
pub record TwoPassesRestored (bytes : List ℕ) (density place : ℕ) (space image marks out : List ℕ) : Type 0 where
  pub built : List ℕ
  pub first : Pass
  pub second : Pass
  pub image_after : List ℕ
  pub marks_after : List ℕ
  pub builds : BuildAllows bytes density place space 0 built
  pub first_shows : Shows (take (image_length (length bytes) density) built) first
  pub second_shows : Shows (take (image_length (length bytes) density) built) second
  pub first_alone : RestoreAllows first.image first.marks out 12 out
  pub second_alone : RestoreAllows second.image second.marks out 12 out
  pub merges : MergeAllows first second image marks 0 image_after marks_after
  pub restores : RestoreAllows (take (length first.image) image_after) (take (length first.marks) marks_after) out 0
      (overwrite (built_bytes bytes place) out)

-- an answer of the restorer by its equations
restores_so : (image marks out : List ℕ) (answer : ℕ) (after : List ℕ) {answer' : ℕ} {after' : List ℕ}
    → answer ≡ answer' → after ≡ after'
    → RestoreAllows image marks out answer after → RestoreAllows image marks out answer' after'
restores_so image marks out answer after {answer'} {after'} a b allowed =
    subst (λ (l : List ℕ). RestoreAllows image marks out answer' l) b
    (subst (λ (r : ℕ). RestoreAllows image marks out r after) a allowed)

refused_alone : (image marks out : List ℕ) → restore_refusal image marks (length out) ≡ 12
    → RestoreAllows image marks out 12 out
unfolding restore_into
refused_alone image marks out refused =
    restores_so image marks out _ _ refused
    (where_refused (restore_refusal image marks (length out)) _ out (λ none. omega arith))
    (restores_are_allowed image marks out)

pub two_passes_are_restored_where_neither_is :
    (bytes : List ℕ) (density place : ℕ) (space image marks out : List ℕ) → (density ≡ 0 → ⊥)
    → mark_count (length bytes) 1 ≡ 5 → length bytes ≤ limit
    → is_place (length bytes) place ≡ true → image_length (length bytes) density ≤ length space
    → image_length (length bytes) 1 ≤ length image
    → 5 ≤ length marks → length bytes ≤ length out → TwoPassesRestored bytes density place space image marks out
two_passes_are_restored_where_neither_is bytes density place space image marks out gcr five within is_a_place
    fits image_room marks_room room =
    let written = built_bytes bytes place in
    let long = written_length bytes place 0 (length bytes) in
    let five' : mark_count (length written) 1 ≡ 5 = rw long five in
    let within' : length written ≤ limit = rw long within in
    let room' : length written ≤ length out = rw long room in
    let first = first_pass written in
    let second = second_pass written in
    let one = first_shows written five' in
    let two = second_shows written five' in
    let made = builds_within bytes density place space within fits is_a_place in
    let built = build_into bytes density place space in
    let is_image = sym (built_image bytes density place space built gcr made) in
    let one' = subst (λ (l : List ℕ). Shows l first) is_image one in
    let two' = subst (λ (l : List ℕ). Shows l second) is_image two in
    let image_room' : image_length (length written) 1 ≤ length image = rw long image_room in
    let first_room : length first.image ≤ length image = omega (arith, one.whole, image_length_lem written 1) in
    let none = merging_is_accepted written first second within' one two (length image) (length marks)
    first_room marks_room in
    let image_after = merge_image_into first second image (length marks) in
    let marks_after = merge_marks_into first second (length image) marks in
    let merges = subst (λ (r : ℕ). MergeAllows first second image marks r image_after marks_after) none
    (merges_are_allowed first second image marks) in
    let once = subst Once (sym (merged_marks_left first second image marks image_after marks_after merges)) both_once in
    let given_back = restores_are_allowed (take (length first.image) image_after)
    (take (length first.marks) marks_after) out in
    let restored =
    (calls_restore_what_two_passes_show bytes density place space built gcr made first second one' two' image marks 0
    image_after marks_after first_room marks_room
    merges
    ).1 once out _ _ room given_back
    in
    record {
      built = built;
      first = first;
      second = second;
      image_after = image_after;
      marks_after = marks_after;
      builds = made;
      first_shows = one';
      second_shows = two';
      first_alone =
          refused_alone first.image first.marks out (first_alone written five' within' (length out) room');
      second_alone =
          refused_alone second.image second.marks out (second_alone written five' within' (length out) room');
      merges = merges;
      restores = restores_so _ _ out _ _ restored.0 restored.1 given_back;
    }

-- ---- the check blockettes

-- Bytes that the builder made an image of in GCR, with any place of a bad byte: of that image both check blockettes
-- fit.
pub built_images_are_verified :
    (bytes : List ℕ) (density place : ℕ) (space built : List ℕ) → (density ≡ 0 → ⊥)
    → BuildAllows bytes density place space 0 built
    → (told : ℕ) → VerifyAllows (take (image_length (length bytes) density) built) told
    → told ≡ 0
built_images_are_verified bytes density place space built gcr builds told allowed =
    verifies_are_defined _ told allowed
    ∙ ap verify (built_image bytes density place space built gcr builds)
    ∙ built_records_fit (built_bytes bytes place) (built_within bytes density place space built gcr builds)

-- And where any one of its blockettes, of data or of check, holds other bytes, the answer is that its parity does not
-- fit, and the other one does.
pub one_changed_blockette_is_told :
    (bytes : List ℕ) (density place : ℕ) (space built : List ℕ) → (density ≡ 0 → ⊥)
    → BuildAllows bytes density place space 0 built
    → (other : ℕ) (new : List ℕ) → other < mark_count (length bytes) 1 → length new ≡ 256
    → (new ≡ blockette_at (drop 2 (take (image_length (length bytes) density) built)) other → ⊥)
    → (told : ℕ) → VerifyAllows (spoiled_at (take (image_length (length bytes) density) built) other new) told
    → OneUnfit (mark_count (length bytes) 1 - 2) other told
one_changed_blockette_is_told bytes density place space built gcr builds other new below full differs told allowed =
    let written = built_bytes bytes place in
    let is_image = built_image bytes density place space built gcr builds in
    let long = written_length bytes place 0 (length bytes) in
    let differs' = subst (λ (l : List ℕ). new ≡ blockette_at (drop 2 l) other → ⊥) is_image differs in
    let below' : other < mark_count (length written) 1 = rw long below in
    let right = changed_records_do_not_fit written new other
    (built_within bytes density place space built gcr builds) below' full differs' in
    let is_told : verify (spoiled_at (image_of written 1) other new) ≡ told =
    sym (verifies_are_defined _ told allowed ∙ ap (λ (l : List ℕ). verify (spoiled_at l other new)) is_image)
    in
    subst (λ (k : ℕ). OneUnfit (mark_count k 1 - 2) other told) long
    (subst (OneUnfit (mark_count (length written) 1 - 2) other) is_told right)

-- This can happen: to every blockette of every record within the limit, built in GCR with any place.
pub record ChangedAndTold (bytes : List ℕ) (density place : ℕ) (space : List ℕ) (other : ℕ) : Type 0 where
  pub built : List ℕ
  pub new : List ℕ
  pub told : ℕ
  pub builds : BuildAllows bytes density place space 0 built
  pub full : length new ≡ 256
  pub differs : new ≡ blockette_at (drop 2 (take (image_length (length bytes) density) built)) other → ⊥
  pub verifies : VerifyAllows (spoiled_at (take (image_length (length bytes) density) built) other new) told

pub every_blockette_can_be_changed :
    (bytes : List ℕ) (density place : ℕ) (space : List ℕ) (other : ℕ) → length bytes ≤ limit
    → is_place (length bytes) place ≡ true
    → image_length (length bytes) density ≤ length space → ChangedAndTold bytes density place space other
every_blockette_can_be_changed bytes density place space other within is_a_place fits =
    let built = build_into bytes density place space in
    let was = blockette_at (drop 2 (take (image_length (length bytes) density) built)) other in
    record {
      built = built;
      new = another was;
      told = verify (spoiled_at (take (image_length (length bytes) density) built) other (another was));
      builds = builds_within bytes density place space within fits is_a_place;
      full = another_full was;
      differs = another_differs was;
      verifies = verifies_are_allowed _;
    }

-- ---- tapes written before the limit was raised

-- a count that was within the limit is within it now, so that neither test refuses it
within_both : (c rest : ℕ) → c ≤ earlier_limit → pick (ltb limit c) 9 rest ≡ pick (ltb earlier_limit c) 9 rest
unfolding limit
within_both c rest h = pick_no 9 rest (le-ltb limit c (omega arith)) ∙ sym (pick_no 9 rest (le-ltb earlier_limit c h))

none_is_a_place : (handed : ℕ) → not (is_place handed no_place) ≡ false
unfolding is_place
none_is_a_place handed = by_test (ltb no_place handed) (λ inside. simp inside) (λ behind. simp behind)

whole_as_before : (image marks : List ℕ) → count_of image ≤ earlier_limit
    → whole_refusal image marks 1 ≡ earlier_whole_refusal image marks
unfolding whole_refusal
whole_as_before image marks h =
    ap (λ (n : ℕ). pick (ltb (length image) 2) 9 n) (sym (pick_no 9 _ (le-ltb earlier_limit (count_of image) h)))

-- Of a record of at most 16,384 bytes with no bad byte, and of an image that says such a count, builder and restorer
-- answer and leave what they did before.
pub record EarlierTapesReadTheSame : Type 0 where
  pub build : (bytes : List ℕ) (density : ℕ) (space : List ℕ) (refusal : ℕ) (after : List ℕ)
      → BuildAllows bytes density no_place space refusal after → length bytes ≤ earlier_limit
      → (refusal ≡ earlier_build_refusal (length bytes) density (length space))
      × (after ≡ earlier_build_into bytes density space)
  pub restore : (image marks space : List ℕ) (refusal : ℕ) (after : List ℕ)
      → RestoreAllows image marks space refusal after → count_of image ≤ earlier_limit
      → (refusal ≡ earlier_restore_refusal image marks (length space))
      × (after ≡ earlier_restore_into image marks space)

pub earlier_tapes_read_the_same : EarlierTapesReadTheSame
unfolding build_refusal build_into restore_refusal restore_into
earlier_tapes_read_the_same =
    record {
      build = λ bytes density space refusal after allowed few.
          let promised = builds_are_defined bytes density no_place space refusal after allowed in
          let short = ltb (length space) (image_length (length bytes) density) in
          let same = ap (λ (n : ℕ). pick (ltb limit (length bytes)) 9 (pick short 11 n))
          (pick_no 15 0 (none_is_a_place (length bytes)))
          ∙ within_both (length bytes) (pick short 11 0) few in
          let all : built_bytes bytes no_place ≡ bytes = built_as_came bytes no_place (omega arith) in (
            promised.0 ∙ same,
            promised.1
                ∙ ap₂ (λ (n : ℕ) (b : List ℕ). pick (eqb n 0) (overwrite (image_of b density) space) space) same all,
          );
      restore = λ image marks space refusal after allowed few.
          let promised = restores_are_defined image marks space refusal after allowed in
          let same = ap
          (λ (n : ℕ). pick (eqb n 0)
          (pick (ltb (length space) (count_of image)) 11 (pick (ltb (scan_marks marks).stop (length marks)) 12 0)) n)
          (whole_as_before image marks few) in (
            promised.0 ∙ same,
            promised.1
                ∙ ap (λ (n : ℕ). pick (eqb n 0) (overwrite (restored_bytes image marks) space) space) same,
          );
    }
