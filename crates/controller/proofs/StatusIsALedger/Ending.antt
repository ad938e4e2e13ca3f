-- The words that a result leaves are those that the papers' numbers give (`ended_words`).
-- Assumes nothing.
use mathlib.Core.Path.{◌≡◌, refl, sym, ap, ap₂, ◌∙◌}
use Prim.Native.Nat.{ℕ, ◌/◌, ◌%◌, ◌≤◌}
use native.Mathlib.Omega.{arith}
use mathlib.Core.Bool.{Bool, true, false, not, ◌&&◌, ◌||◌}
use mathlib.Core.List.{List, [], ◌∷◌}
use lib.Dec.{eqb}
use lib.ListN.{length, drop, length-drop}
use lib.Seq.{length-take-le}
use Rattle.common.specs.Pick.{pick}
use Rattle.common.proofs.PickLaws.{pick_by, pick_yes}
use Rattle.marks.specs.Scan.{Findings}
use Rattle.marks.specs.Scan.{is_found, findings_of}
use Rattle.records.specs.Count.{unrotated, count_of}
use Rattle.records.specs.Image.{blockette_count}
use Rattle.status.specs.declared.drives.Drive.{Drive}
use Rattle.status.specs.declared.words.Outcome.{Outcome}
use Rattle.status.specs.declared.words.Word.{Word}
use Rattle.status.specs.Drives.{reports}
use Rattle.status.specs.Words.{any_bit, digits_of, tertiary_of, quintary_of}
use Rattle.operations.specs.declared.operation.Operation.{Operation}
use Rattle.operations.specs.declared.operation.Operation.TheVariants.{CheckBytes}
use Rattle.operations.specs.declared.store.Store.{Store}
use Rattle.operations.specs.Operation.{order_byte, move_of, same_operation, supplies_count, is_read}
use Rattle.operations.specs.After.{motion_of, retry_of}
use Rattle.operations.specs.Store.{held_count, supplied_count}
use Rattle.transfers.specs.Results.{Verdict}
use Rattle.transfers.specs.declared.after.Words.{Words}
use Rattle.transfers.specs.Results.{Result, result_refusal, is_gone, marks_read, findings_read, code_reported}
use Rattle.transfers.specs.Results.{final_code}
use Rattle.transfers.specs.Results.{reads_gcr, record_count, used_count, verdict_of, read_count, read_bytes}
use Rattle.transfers.specs.Results.{delivered_bytes}
use Rattle.transfers.specs.Results.{delivered, result_tertiary, result_quintary, wrote_well, result_count}
use Rattle.transfers.specs.Results.{result_bits, with_retry, result_words}
use Rattle.transfers.proofs.ReadLaws.{read_length}
use Rattle.transfers.proofs.ResultLaws.{result_passed}
use Rattle.controller.specs.OnTape.{count_said}
use Rattle.controller.specs.Ledger.{among, Tape}
use Rattle.controller.specs.Shown.{Scanned, scan_of, first_torn, tape_gone, code_told, code_left}
use Rattle.controller.specs.Shown.{count_passed, image_used, count_supplied, count_left, count_valid, bytes_given}
use Rattle.controller.specs.Shown.{bit_retries, bits_ended, retry_ended, words_renewed, tertiary_ended}
use Rattle.controller.specs.Shown.{quintary_ended, final_left, words_left}
use Rattle.controller.proofs.StatusIsALedger.Scanning.{alike, as_findings, scan_said, torn_said}
use Rattle.controller.proofs.StatusIsALedger.Numbers.{numbered, retry_said}

abbrev pub words_of_lem : Outcome → Word → Word → Words
words_of_lem o tertiary quintary = record { outcome = o; tertiary = tertiary; quintary = quintary }

-- a choice made twice
chosen : {A : Type 0} (t : Bool) (x y z : A) → pick t (pick t x y) z ≡ pick t x z
unfolding pick
chosen true x y z = refl
chosen false x y z = refl

supplied_test : (supplies : Bool) (count : ℕ) → not (eqb (pick supplies count 0) 0) ≡ (supplies && not (eqb count 0))
unfolding pick
supplied_test true count = refl
supplied_test false count = refl

module _ (drive : Drive) (operation : Operation) (store : Store) (r : Result) where
  abbrev pub order : ℕ
  order = order_byte operation

  abbrev pub count : ℕ
  count = held_count store

  abbrev pub gone : Bool
  gone = tape_gone order drive.report

  abbrev pub scan : Scanned
  scan = scan_of order r.marks

  abbrev pub used : Bool
  used = image_used gone r.image

  abbrev pub final : ℕ
  final = final_left order count drive.report r

  pub gone_said : is_gone drive operation ≡ gone
  unfolding is_gone tape_gone reports
  gone_said = ap (λ (t : Bool). t && not (eqb (drive.report / 32 % 2) 1)) (numbered operation).moves

  pub found_said : findings_read operation r.marks ≡ as_findings scan
  unfolding marks_read
  found_said =
      ap₂ (λ (t : Bool) (marks : List ℕ). findings_of (pick t marks r.marks)) (numbered operation).supplies
      (sym (torn_said r.marks))
      ∙ sym (scan_said (pick (eqb order 0x80) (first_torn r.marks) r.marks))

  told_said : code_reported operation store r.code ≡ code_told order count r.code
  unfolding code_reported code_told
  told_said =
      ap (λ (t : Bool). pick (t && (eqb count 0 && eqb r.code 0)) 0x13 r.code) (numbered operation).supplies

  final_said : final_code (is_gone drive operation) (code_reported operation store r.code)
      (findings_read operation r.marks) ≡ final
  unfolding final_left final_code code_left is_found
  final_said =
      ap (λ (t : Bool). final_code t (code_reported operation store r.code) (findings_read operation r.marks))
      gone_said
      ∙ ap₂ (final_code gone) told_said found_said

  passed_said : record_count operation store r.image ≡ count_passed order count r.image
  unfolding record_count count_passed count_said count_of unrotated
  passed_said = ap (λ (t : Bool). pick t count (count_said r.image)) (numbered operation).supplies

  supplied_said : not (eqb (supplied_count operation store) 0) ≡ count_supplied order count
  unfolding supplied_count count_supplied
  supplied_said =
      supplied_test (supplies_count operation) count
      ∙ ap (λ (t : Bool). t && not (eqb count 0)) (numbered operation).supplies

  renews_said : reads_gcr drive operation ≡ words_renewed order drive.density
  unfolding reads_gcr words_renewed
  renews_said =
      ap₂ (λ (t u : Bool). t || (u && not (eqb drive.density 0))) (numbered operation).supplies
      (numbered operation).brings

  -- the verdict, in the papers' numbers
  abbrev pub said : Verdict
  said =
      record {
        gone = gone;
        used = used;
        supplied = count_supplied order count;
        renews = words_renewed order drive.density;
        code = final;
        count = pick used (count_passed order count r.image) 0;
        found = as_findings scan;
      }

  pub verdict_said : verdict_of drive operation store r ≡ said
  unfolding verdict_of used_count image_used
  verdict_said = rw (final_said, found_said, gone_said, passed_said, supplied_said, renews_said)

  -- ---- the bytes that are delivered

  module _ (check : List ℕ) (good : result_refusal drive operation store r (length check) ≡ 0) where
    within : (c : ℕ) (found : Findings) → read_count c found ≤ c
    unfolding read_count
    within c found =
        pick_by (λ (n : ℕ). n ≤ c) (is_found found.stop) (λ stops. omega arith) (λ ends. omega arith)

    abbrev verdict : Verdict
    verdict = verdict_of drive operation store r

    read_all : is_read operation ≡ true → verdict.used ≡ true
        → length (read_bytes r.image verdict.count verdict.found) ≡ read_count verdict.count verdict.found
    unfolding read_bytes
    read_all reads uses =
        let long = (result_passed drive r operation store (length check) good).read reads uses in
        let few = within verdict.count verdict.found in
        length-take-le (read_count verdict.count verdict.found) (drop 2 r.image)
        (simp length-drop (omega arith))

    -- how many, by the verdict
    abbrev many_by : Verdict → ℕ
    many_by v =
        pick (is_read operation) (pick v.used (read_count v.count v.found) 0)
        (pick (same_operation operation CheckBytes) 512 0)

    many : length (delivered drive operation store r check) ≡ many_by verdict
    unfolding delivered_bytes
    many =
        read_length operation (delivered_bytes verdict operation r.image check)
        ∙ alike length (λ (n : ℕ). n) (is_read operation)
        (λ reads. alike length (λ (n : ℕ). n) verdict.used (read_all reads) (λ none. refl))
        (λ other. alike length (λ (n : ℕ). n) (same_operation operation CheckBytes)
        (λ checks. (result_passed drive r operation store (length check) good).lent)
        (λ none. refl))

    given_said : length (delivered drive operation store r check)
        ≡ bytes_given order used (count_passed order count r.image) scan
    unfolding bytes_given read_count blockette_count is_found
    given_said =
        many ∙ ap many_by verdict_said
        ∙ ap₂
        (λ (t u : Bool). pick t
        (pick used (read_count (pick used (count_passed order count r.image) 0) (as_findings scan)) 0) (pick u 512 0))
        (numbered operation).reads (numbered operation).checks
        ∙ ap (λ (n : ℕ). pick (among order (0x40 ∷ 0x80 ∷ [])) n (pick (eqb order 0) 512 0))
        (alike (λ (n : ℕ). n) (λ (n : ℕ). n) used
        (λ uses. ap (λ (c : ℕ). read_count c (as_findings scan)) (pick_yes _ _ uses)) (λ none. refl))

  -- ---- the words

  wrote_said : (code : ℕ) → wrote_well operation code ≡ (eqb order 0x50 && eqb code 0)
  unfolding wrote_well
  wrote_said code = ap (λ (t : Bool). t && eqb code 0) (numbered operation).writes

  left_said : (before : ℕ) → result_count said operation store before
      ≡ count_left order count final used r.image before
  unfolding result_count count_left
  left_said before =
      ap (λ (t : Bool). pick (count_supplied order count) count
      (pick used (pick used (count_passed order count r.image) 0) (pick t count before)))
      (wrote_said final)
      ∙ ap (pick (count_supplied order count) count)
      (chosen used (count_passed order count r.image) 0 (pick (eqb order 0x50 && eqb final 0) count before))

  bits_said :
      (o : Outcome) (motion bytes space : ℕ)
      → motion_of (move_of operation) final ≡ motion
      → bytes ≡ bytes_given order used (count_passed order count r.image) scan
      → result_bits said o operation store r.mark r.late bytes space
      ≡ bits_ended o order count motion gone scan r final space
  unfolding result_bits bits_ended count_valid
  bits_said o motion bytes space moved given = rw (moved, given, left_said o.result.count, wrote_said final)

  pub retried : (o : Outcome) → with_retry o operation (as_findings scan) ≡ retry_ended o order scan
  unfolding with_retry retry_ended retry_of any_bit bit_retries
  retried o = rw (retry_said o.result.code scan operation, (numbered operation).skips)

  pub ended_words :
      (w : Words) (t : Tape) (motion space : ℕ) (check : List ℕ)
      → result_refusal drive operation store r (length check) ≡ 0
      → drive.report ≡ t.report
      → drive.density ≡ t.density
      → motion_of (move_of operation) final ≡ motion
      → result_words w (verdict_of drive operation store r) operation store r.mark r.late
      (length (delivered drive operation store r check)) space
      ≡ words_left w t order count final motion r space
  unfolding result_words words_left result_tertiary result_quintary tertiary_ended quintary_ended tertiary_of
      quintary_of digits_of
  ended_words w t motion space check good reported dense moved =
      let tertiary = tertiary_ended order drive.density gone scan w.tertiary in
      let quintary = quintary_ended order drive.density gone scan w.quintary in
      ap
      (λ (v : Verdict). result_words w v operation store r.mark r.late
      (length (delivered drive operation store r check)) space)
      verdict_said
      ∙ ap
      (λ (o : Outcome). words_of_lem (with_retry o operation (as_findings scan)) tertiary quintary)
      (bits_said w.outcome motion _ space moved (given_said check good))
      ∙ ap (λ (o : Outcome). words_of_lem o tertiary quintary) (retried _)
      ∙ ap₂
      (λ (n d : ℕ). words_left w (record { report = n; track = 0; density = d; gap = 0; guard = false }) order count
      final motion r space)
      reported dense
