-- For each of the eight C functions, two wrong answers that its contract does not allow. The contract is `Post`, as the
-- toolchain reads it: what is handed in, what is returned, and what the lent space holds afterwards.
-- Assumes nothing.
use mathlib.Core.Path.{◌≡◌, sym, ap, ◌∙◌}
use mathlib.Core.Bool.{true, not, false≢true}
use mathlib.Core.List.{List, [], ◌∷◌}
use contract.Lifetimes.{Lfts}
use denote.Ref.{Bor, MutBor, at_last}
use Prim.Native.Nat.{ℕ, ◌+◌, ◌-◌, ◌*◌, ◌%◌, ◌≤◌, ◌<◌}
use native.Mathlib.Decide.{ℕ_discrete}
use native.Mathlib.Omega.{arith}
use lib.Dec.{ltb, eqb}
use lib.ListN.{length, drop, get_or}
use lib.Seq.{drop_at}
use borrow.Author.Tests.{eqb-false, lt-ltb, le-ltb, ne_eqb}
use Rattle.common.specs.Pick.{pick}
use Rattle.common.specs.Space.{overwrite, filled}
use Rattle.common.proofs.PickLaws.{by_test, pick_by, pick_yes, pick_no, pick_both, not_refused_lem, where_done}
use Rattle.blockettes.specs.Blockettes.{blockette_at}
use Rattle.marks.specs.Marks.{is_error}
use Rattle.marks.specs.Scan.{scan_from, scan_marks, kind_of, number_of, defect_at, findings_of}
use Rattle.passes.specs.Passes.{clashes, merged_marks}
use Rattle.passes.proofs.MergedLaws.{marks_length}
use Rattle.records.specs.Count.{limit, rotated, count_bytes, unrotated, count_of}
use Rattle.records.specs.Image.{blockette_count, has_blockettes, body_of, image_of, image_length, mark_count}
use Rattle.records.specs.Whole.{whole_refusal}
use Rattle.records.specs.Place.{is_place, as_came, written_bytes}
use Rattle.records.specs.Build.{build_refusal, built_bytes, build_into}
use Rattle.records.specs.Restore.{restore_refusal}
use Rattle.records.specs.Merge.{Pass, pass_of, merge_marks_into}
use Rattle.records.specs.Interface.{image_length_within, mark_count_within, image_count, scan_report, scan_refusal}
use Rattle.records.specs.Interface.{scan_into}
use Rattle.records.specs.Spoiled.{Spoiled, spoiled_at}
use Rattle.records.specs.Refused.{number_at}
use Rattle.records.specs.Verify.{verify}
use Rattle.records.proofs.ImageLaws.{image_length_lem}
use Rattle.records.proofs.PlaceLaws.{written_length}
use Rattle.records.proofs.MergeLaws.{mergeable}
use Rattle.records.proofs.BuiltRecordsAreRestored.{built_records_are_restored}
use Rattle.records.proofs.BuiltRecordsFit.{changed_records_do_not_fit}
use Rattle.records.proofs.VerifyLaws.{verified_wrong}
use Rattle.records.proofs.interface.ctc_build.Reads as build-reads
use Rattle.records.proofs.interface.ctc_restore.Reads as restore-reads
use Rattle.records.proofs.interface.ctc_merge.Reads as merge-reads
use Rattle.records.proofs.interface.ctc_image_length.Reads as length-reads
use Rattle.records.proofs.interface.ctc_mark_count.Reads as marks-reads
use Rattle.records.proofs.interface.ctc_image_count.Reads as count-reads
use Rattle.records.proofs.interface.ctc_scan.Reads as scan-reads
use Rattle.records.proofs.interface.ctc_verify.Reads as verify-reads

-- ---- ctc_build

module _ (κs : Lfts 2) (bytes : Bor (List ℕ)) (image : MutBor (List ℕ)) (density place r : ℕ) (after : List ℕ)
    (allowed : build-reads.Post κs (bytes, (density, (place, (image, tt)))) r
    (bytes, (density, (place, (at_last image after, tt))))) where
  -- more than 65,535 bytes are taken
  pub build_takes_too_many_bytes : limit < length bytes.now → r ≡ 0 → ⊥
  unfolding build_refusal
  build_takes_too_many_bytes many done =
      let right : r ≡ 9 = allowed.0 ∙ pick_yes _ _ (lt-ltb _ _ many) in omega arith

  -- a byte behind the image is changed
  pub build_writes_behind_the_image :
      r ≡ 0 → (drop (image_length (length bytes.now) density) after
      ≡ drop (image_length (length bytes.now) density) image.now → ⊥) → ⊥
  unfolding build_into overwrite
  build_writes_behind_the_image done wrong =
      let made = image_of (built_bytes bytes.now place) density in
      let needed = image_length (length bytes.now) density in
      let long : length made ≡ needed =
      image_length_lem (built_bytes bytes.now place) density
      ∙ ap (λ (n : ℕ). image_length n density) (written_length bytes.now place 0 (length bytes.now))
      in
      wrong
      (ap (λ (s : List ℕ). drop needed s) (allowed.1 ∙ where_done _ _ _ (sym allowed.0 ∙ done))
      ∙ drop_at made (drop (length made) image.now) needed long
      ∙ ap (λ (n : ℕ). drop n image.now) long)

  -- a place that is not in the bytes, and is not 65,791, is taken
  pub build_takes_a_place_behind_the_bytes : length bytes.now ≤ place → (place ≡ 65791 → ⊥) → r ≡ 0 → ⊥
  unfolding build_refusal is_place
  build_takes_a_place_behind_the_bytes behind some done =
      let few = not_refused_lem _ _ _ (λ z. omega arith) (sym allowed.0 ∙ done) in
      let room = not_refused_lem _ _ _ (λ z. omega arith) few.1 in
      let found = not_refused_lem _ _ _ (λ z. omega arith) room.1 in
      let lost : not (is_place (length bytes.now) place)
      ≡ true = simp (le-ltb place (length bytes.now) behind, ne_eqb place 65791 some) in
      false≢true (sym found.0 ∙ lost)

  -- of two bytes of an MFM record, the first of which is bad
  module _ (a b : ℕ) (two : bytes.now ≡ a ∷ b ∷ []) (mfm : density ≡ 0) (first : place ≡ 0) (done : r ≡ 0) where
    one_came : after ≡ overwrite (0 ∷ 1 ∷ a ∷ 0 ∷ []) image.now
    unfolding build_into image_of body_of has_blockettes count_bytes rotated written_bytes as_came filled pick
    one_came =
        let made : image_of (built_bytes bytes.now place) density ≡ 0 ∷ 1 ∷ a ∷ 0 ∷ [] = simp (two, mfm, first) in
        allowed.1 ∙ where_done _ _ _ (sym allowed.0 ∙ done) ∙ ap (λ (i : List ℕ). overwrite i image.now) made

    -- the bad byte itself is zeroed
    pub build_zeroes_the_bad_byte : (get_or after 2 0 ≡ a → ⊥) → ⊥
    unfolding overwrite
    build_zeroes_the_bad_byte wrong = wrong (ap (λ (s : List ℕ). get_or s 2 0) one_came)

    -- the byte after it is written as it came
    pub build_keeps_what_follows_the_bad_byte : (b ≡ 0 → ⊥) → get_or after 3 0 ≡ b → ⊥
    unfolding overwrite
    build_keeps_what_follows_the_bad_byte some wrong = some (sym wrong ∙ ap (λ (s : List ℕ). get_or s 3 0) one_came)

-- ---- ctc_restore

module _ (κs : Lfts 3) (image marks : Bor (List ℕ)) (out : MutBor (List ℕ)) (r : ℕ) (after : List ℕ)
    (allowed : restore-reads.Post κs (image, (marks, (out, tt))) r (image, (marks, (at_last out after, tt)))) where
  -- two bad blockettes of one parity are taken for restored
  pub restore_gives_what_cannot_be_restored : ltb (scan_marks marks.now).stop (length marks.now) ≡ true → r ≡ 0 → ⊥
  unfolding restore_refusal
  restore_gives_what_cannot_be_restored stopped done =
      pick_by (λ (n : ℕ). r ≡ n → ⊥) (eqb (whole_refusal image.now marks.now 1) 0)
      (λ whole. pick_by (λ (n : ℕ). r ≡ n → ⊥) (ltb (length out.now) (count_of image.now)) (λ short e. omega arith)
      (λ room. pick_by (λ (n : ℕ). r ≡ n → ⊥) (ltb (scan_marks marks.now).stop (length marks.now))
      (λ stop e. omega arith)
      (λ through. absurd (false≢true (sym through ∙ stopped)))))
      (λ other e. eqb-false _ _ other (sym e ∙ done)) allowed.0

  -- a record that was built, with at most one odd and one even blockette spoiled and marked, comes back with other
  -- bytes
  pub restore_gives_other_bytes :
      (bytes : List ℕ) → length bytes ≤ limit → Spoiled (image_of bytes 1) image.now marks.now
      → length bytes ≤ length out.now
      → (after ≡ overwrite bytes out.now → ⊥) → ⊥
  restore_gives_other_bytes bytes fits spoiled room wrong =
      wrong (allowed.1 ∙ (built_records_are_restored bytes image.now marks.now out.now fits spoiled room).1)

-- ---- ctc_merge

module _ (κs : Lfts 6) (first first_marks second second_marks : Bor (List ℕ)) (image marks : MutBor (List ℕ)) (r : ℕ)
    (image_after_lem marks_after_lem : List ℕ)
    (allowed : merge-reads.Post κs (first, (first_marks, (second, (second_marks, (image, (marks, tt)))))) r (
      first,
      (first_marks, (second, (second_marks, (at_last image image_after_lem, (at_last marks marks_after_lem, tt))))),
    ))
  where
    abbrev one : Pass
    one = pass_of first.now first_marks.now

    abbrev other : Pass
    other = pass_of second.now second_marks.now

    -- a blockette that is good in both and unlike is taken
    pub merge_takes_unlike_blockettes :
        clashes (drop 2 first.now) first_marks.now (drop 2 second.now) second_marks.now ≡ true → r ≡ 0 → ⊥
    merge_takes_unlike_blockettes unlike done =
        false≢true
        (sym (mergeable one other (length image.now) (length marks.now) (sym allowed.0 ∙ done)).no_clash
        ∙ unlike)

    -- a byte behind the marks is changed
    pub merge_writes_behind_the_marks : r ≡ 0
        → (drop (length first_marks.now) marks_after_lem ≡ drop (length first_marks.now) marks.now → ⊥) → ⊥
    unfolding merge_marks_into overwrite
    merge_writes_behind_the_marks done wrong =
        let merged = merged_marks first_marks.now second_marks.now in
        let long = marks_length first_marks.now second_marks.now in
        wrong
        (ap (λ (s : List ℕ). drop (length first_marks.now) s)
        (allowed.1.1 ∙ where_done _ _ _ (sym allowed.0 ∙ done))
        ∙ drop_at merged (drop (length merged) marks.now) (length first_marks.now) long
        ∙ ap (λ (n : ℕ). drop n marks.now) long)

-- ---- ctc_image_length

module _ (count density r : ℕ) (allowed : length-reads.Post tt (count, (density, tt)) r (count, (density, tt))) where
  -- the check blockettes are not counted
  pub length_without_check_blockettes : 1 ≤ count → count ≤ limit → (density ≡ 0 → ⊥)
      → r ≡ 2 + 256 * blockette_count count → ⊥
  unfolding image_length_within image_length has_blockettes pick
  length_without_check_blockettes some fits gcr e =
      let has : (count ≡ 0 → ⊥) = λ none. omega arith in
      let right : r
      ≡ 2 + 256 * (blockette_count count + 2) = allowed
      ∙ simp (le-ltb limit count fits, ne_eqb density 0 gcr, ne_eqb count 0 has) in
      omega arith

  -- a count above the limit has a length
  pub length_above_the_limit : limit < count → (r ≡ 0 → ⊥) → ⊥
  unfolding image_length_within
  length_above_the_limit many wrong = wrong (allowed ∙ pick_yes _ _ (lt-ltb limit count many))

-- ---- ctc_mark_count

module _ (count density r : ℕ) (allowed : marks-reads.Post tt (count, (density, tt)) r (count, (density, tt))) where
  -- the check blockettes have no marks
  pub marks_without_check_blockettes : 1 ≤ count → count ≤ limit → (density ≡ 0 → ⊥) → r ≡ blockette_count count → ⊥
  unfolding mark_count_within mark_count has_blockettes pick
  marks_without_check_blockettes some fits gcr e =
      let has : (count ≡ 0 → ⊥) = λ none. omega arith in
      let right : r
      ≡ blockette_count count + 2 = allowed
      ∙ simp (le-ltb limit count fits, ne_eqb density 0 gcr, ne_eqb count 0 has) in
      omega arith

  -- an MFM record has marks
  pub marks_in_mfm : density ≡ 0 → (r ≡ 0 → ⊥) → ⊥
  unfolding mark_count_within mark_count has_blockettes pick
  marks_in_mfm mfm wrong =
      wrong (allowed ∙ ap (λ (d : ℕ). mark_count_within count d) mfm ∙ pick_both (ltb limit count) 0)

-- ---- ctc_image_count

module _ (κs : Lfts 1) (image : Bor (List ℕ)) (r : ℕ) (allowed : count-reads.Post κs (image, tt) r (image, tt)) where
  -- an image too short for a count has one
  pub count_of_a_short_image : length image.now < 2 → r < 65536 → ⊥
  unfolding image_count
  count_of_a_short_image short within =
      let right : r ≡ 65536 = allowed ∙ pick_yes _ _ (lt-ltb _ _ short) in omega arith

  -- the two bytes are taken as they stand: 80 02 is 5
  pub count_not_rotated : (rest : List ℕ) → image.now ≡ 0x80 ∷ 0x02 ∷ rest → r ≡ 0x8002 → ⊥
  unfolding image_count count_of unrotated
  count_not_rotated rest starts e =
      let long : 2 ≤ length (0x80 ∷ 0x02 ∷ rest) = omega arith in
      let right : r ≡ 5 = allowed ∙ ap image_count starts ∙ pick_no _ _ (le-ltb _ _ long) in
      omega arith

-- ---- ctc_scan

module _ (κs : Lfts 2) (marks : Bor (List ℕ)) (report : MutBor (List ℕ)) (r : ℕ) (after : List ℕ)
    (allowed : scan-reads.Post κs (marks, (report, tt)) r (marks, (at_last report after, tt))) where
  -- a bad check blockette does not stop the scan, though blockette 0, of its parity, is bad too
  pub scan_passes_a_check_blockette : marks.now ≡ 9 ∷ 15 ∷ 3 ∷ [] → r ≡ 0 → get_or after 6 0 ≡ 0 → ⊥
  unfolding scan_refusal scan_into overwrite scan_report findings_of defect_at kind_of number_of scan_marks scan_from
      is_error pick
  scan_passes_a_check_blockette bad done e =
      by_test (ltb (length report.now) 9)
      (λ short. let right : r ≡ 11 = allowed.0 ∙ simp short in omega arith)
      (λ room.
      let full : scan_into marks.now report.now ≡ overwrite (scan_report marks.now) report.now = simp room in
      let holds = allowed.1 ∙ full ∙ ap (λ (l : List ℕ). overwrite (scan_report l) report.now) bad in
      let right : get_or after 6 0 ≡ 3 = ap (λ (l : List ℕ). get_or l 6 0) holds in
      omega arith)

  -- nine bytes are given in less space
  pub scan_in_too_little_space : length report.now < 9 → r ≡ 0 → ⊥
  unfolding scan_refusal
  scan_in_too_little_space short done =
      let right : r ≡ 11 = allowed.0 ∙ pick_yes _ _ (lt-ltb _ _ short) in omega arith

-- ---- ctc_verify

module _ (κs : Lfts 1) (image : Bor (List ℕ)) (r : ℕ) (allowed : verify-reads.Post κs (image, tt) r (image, tt)) where
  -- a built image with one blockette changed passes
  pub verify_passes_a_changed_blockette :
      (bytes new : List ℕ) (place : ℕ) → length bytes ≤ limit → place < mark_count (length bytes) 1 → length new ≡ 256
      → (new ≡ blockette_at (drop 2 (image_of bytes 1)) place → ⊥)
      → image.now ≡ spoiled_at (image_of bytes 1) place new → r ≡ 0 → ⊥
  verify_passes_a_changed_blockette bytes new place within below full differs holds passes =
      let n = mark_count (length bytes) 1 - 2 in
      let right = changed_records_do_not_fit bytes new place within below full differs in
      let told = sym (allowed ∙ ap verify holds) ∙ passes in
      elim (ℕ_discrete (number_at n place % 2) 0) [
        | yes even ↦ omega (arith, told, right.even even)
        | no odd ↦ omega (arith, told, right.odd (omega (arith, odd)))
      ]

  -- an image of a wrong length is taken
  pub verify_takes_a_wrong_length : (length image.now ≡ image_length (count_of image.now) 1 → ⊥) → r ≡ 0 → ⊥
  verify_takes_a_wrong_length wrong passes =
      let right : r ≡ 9 = allowed ∙ verified_wrong image.now wrong in omega arith
