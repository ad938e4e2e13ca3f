-- What a data call and a result leave is in range: the words, the gap, and how many bytes are given; and their
-- refusals.
-- Assumes nothing.
use mathlib.Core.Path.{◌≡◌, refl, sym, ◌∙◌}
use Prim.Native.Nat.{ℕ, ◌≤◌, ◌<◌}
use native.Mathlib.Omega.{arith}
use mathlib.Core.Bool.{Bool, true, false, not, ◌&&◌, ◌||◌, false≢true}
use mathlib.Core.List.{List, [], ◌∷◌}
use lib.Dec.{eqb, leb, ltb}
use lib.ListN.{length, get_or, length-take, get_or-eq_default}
use borrow.Author.Tests.{eqb-true, leb-true, leb-false, ltb-true, ltb-false, not-false}
use Rattle.common.specs.Pick.{pick}
use Rattle.common.proofs.PickLaws.{by_test, by_either, both_hold, pick_by, not_refused_lem}
use Rattle.marks.specs.Scan.{Defect}
use Rattle.marks.specs.Scan.{Findings}
use Rattle.marks.specs.Marks.{legal_marks}
use Rattle.marks.specs.Scan.{number_of, defect_at, findings_of, scan_marks, is_found}
use Rattle.records.specs.Count.{limit, count_of}
use Rattle.records.specs.Place.{is_place}
use Rattle.records.specs.Image.{has_blockettes, image_length, mark_count}
use Rattle.records.specs.Whole.{layout_refusal, whole_refusal}
use Rattle.records.proofs.ImageLaws.{blockettes_few}
use Rattle.status.specs.declared.drives.Drive.{Drive}
use Rattle.status.specs.declared.words.Word.{Word}
use Rattle.status.specs.Drives.{is_gcr, with_gap}
use Rattle.status.specs.Words.{digits_of, zero_word, tertiary_of, quintary_of}
use Rattle.operations.specs.declared.operation.Operation.{Operation}
use Rattle.operations.specs.declared.operation.Operation.TheVariants.{Read, CheckBytes, SuppliedCount, Write, Erase}
use Rattle.operations.specs.declared.operation.Operation.TheVariants.{Rewind, FastForward, SkipForward, SkipReverse}
use Rattle.operations.specs.declared.operation.Operation.TheVariants.{SearchForward, SearchReverse, WriteMark}
use Rattle.operations.specs.declared.operation.Motion.{Motion}
use Rattle.operations.specs.declared.operation.Motion.TheVariants.{Still, Forward, Reverse, Rewinding, Winding}
use Rattle.operations.specs.declared.operation.Motion.TheVariants.{Writing, Erasing}
use Rattle.operations.specs.declared.store.Store.{Store}
use Rattle.operations.specs.Answers.{forward_codes, reverse_codes, end_codes, supplied_codes, listed_codes}
use Rattle.operations.specs.Answers.{trailing_codes}
use Rattle.operations.specs.Answers.{clear_codes, is_in, answer_of}
use Rattle.operations.specs.Operation.{same_operation, supplies_count, is_read, move_of}
use Rattle.operations.specs.After.{loses_tape, usual_motion, motion_of, gap_of, gap_after}
use Rattle.operations.specs.Store.{held_count}
use Rattle.transfers.specs.declared.after.Words.{Words}
use Rattle.transfers.specs.declared.after.After.{After}
use Rattle.transfers.specs.declared.expected.Expected.{Expected}
use Rattle.transfers.specs.declared.expected.Expected.TheVariants.{Whole, Supplied, Count, Nothing}
use Rattle.transfers.specs.Results.{Verdict}
use Rattle.transfers.specs.Expected.{unmarked_refusal, image_refusal, expected_of}
use Rattle.transfers.specs.Data.{check_store, Host, write_image, data_refusal, data_words}
use Rattle.transfers.specs.Results.{Result, mark_against, result_refusal, code_reported, final_code, findings_read}
use Rattle.transfers.specs.Results.{is_gone}
use Rattle.transfers.specs.Results.{record_count, used_count, verdict_of, wrote_well, result_tertiary, result_quintary}
use Rattle.transfers.specs.Results.{result_count, result_bits, with_retry, result_words, result_gap, read_count}
use Rattle.transfers.specs.Results.{read_bytes}
use Rattle.transfers.specs.Results.{delivered_bytes, fitting, settle_result}
use Rattle.transfers.proofs.DataLaws.{data_ready, record_image_length}
use Rattle.transfers.proofs.ReadLaws.{read_length}
use Rattle.link.specs.declared.state.Body.{Body}
use Rattle.link.specs.State.{current_drive}
use Rattle.controller.specs.Records.{words_of, with_status, with_after}
use Rattle.controller.specs.InRange.{ResultInRange, WordInRange, BodyInRange, StoreInRange, Bytes}
use Rattle.controller.proofs.LongCounts.{operand_within, image_within}
use Rattle.controller.proofs.StaysInRange.Linking.{drive_of_lem, drive_set, zeros}

-- ---- the status words of a transfer

pub record WordsInRange (w : Words) : Type 0 where
  pub result : ResultInRange w.outcome.result
  pub tertiary : WordInRange w.tertiary
  pub quintary : WordInRange w.quintary

pub status_set : (b : Body) (w : Words) → BodyInRange b → WordsInRange w → BodyInRange (with_status b w)
status_set b w whole words =
    record {
      drives = whole.drives;
      selected = whole.selected;
      result = words.result;
      tertiary = words.tertiary;
      quintary = words.quintary;
    }

pub words_of_lem : (b : Body) → BodyInRange b → WordsInRange (words_of b)
words_of_lem b whole = record { result = whole.result; tertiary = whole.tertiary; quintary = whole.quintary }

-- ---- a data call

word_or : (test : Bool) (one other : Word) → WordInRange one → WordInRange other → WordInRange (pick test one other)
word_or test one other low too = pick_by (λ (w : Word). WordInRange w) test (λ yes. low) (λ no. too)

pub data_words_lem : (w : Words) (drive : Drive) (store : Store) (host : Host) → WordsInRange w
    → WordsInRange (data_words w drive store host)
unfolding data_words
data_words_lem w drive store host words =
    record {
      result = words.result;
      tertiary = word_or (is_gcr drive) zero_word _ zeros words.tertiary;
      quintary = word_or (is_gcr drive) zero_word _ zeros words.quintary;
    }

-- "11 the data call's .. image space .. short": what is given fits
pub data_fits : (drive : Drive) (store : Store) (host : Host) (space check : ℕ)
    → data_refusal drive store (length host.bytes) host.place space check ≡ 0
    → length (write_image store host drive.density) ≤ space
data_fits drive store host space check done =
    let ready = (data_ready drive store (length host.bytes) host.place space check done).1 in
    let long = record_image_length store host drive.density in
    omega arith

-- ---- the codes of a result

-- none that is listed is above 31
abbrev all_low : List ℕ → Bool
all_low [] = true
all_low (code ∷ codes) = leb code 31 && all_low codes

listed_low : (operation : Operation) → (all_low (listed_codes operation) && all_low (clear_codes operation)) ≡ true
unfolding listed_codes clear_codes forward_codes reverse_codes end_codes supplied_codes trailing_codes
listed_low Read = refl
listed_low CheckBytes = refl
listed_low SuppliedCount = refl
listed_low Write = refl
listed_low Erase = refl
listed_low Rewind = refl
listed_low FastForward = refl
listed_low SkipForward = refl
listed_low SkipReverse = refl
listed_low SearchForward = refl
listed_low SearchReverse = refl
listed_low WriteMark = refl

in_low : (code : ℕ) (codes : List ℕ) → all_low codes ≡ true → is_in code codes ≡ true → code ≤ 31
unfolding is_in
in_low code [] low is = absurd (false≢true is)
in_low code (listed ∷ codes) low is =
    let (first, others) = both_hold (leb listed 31) (all_low codes) low in
    by_either (eqb code listed) (is_in code codes)
    (λ same. let few = leb-true listed 31 first in let e = eqb-true code listed same in omega arith)
    (in_low code codes others) is

reported_low : (operation : Operation) (code : ℕ) → eqb (answer_of operation code) 0 ≡ false → code ≤ 31
unfolding answer_of pick
reported_low operation code told =
    let (listed, clear) = both_hold (all_low (listed_codes operation)) (all_low (clear_codes operation))
    (listed_low operation) in
    by_test (eqb code 0 || is_in code (clear_codes operation))
    (λ none. by_either (eqb code 0) (is_in code (clear_codes operation))
    (λ zero. let e = eqb-true code 0 zero in omega arith)
    (in_low code (clear_codes operation) clear) none)
    (λ some. by_test (is_in code (listed_codes operation)) (in_low code (listed_codes operation) listed)
    (λ never. absurd (false≢true (sym told ∙ rw (some, never)))))

final_low : (gone : Bool) (operation : Operation) (store : Store) (code : ℕ) (found : Findings) → code ≤ 31
    → final_code gone (code_reported operation store code) found ≤ 31
unfolding final_code code_reported
final_low gone operation store code found low =
    pick_by (λ (n : ℕ). n ≤ 31) gone (λ yes. omega arith)
    (λ there. pick_by (λ (n : ℕ). n ≤ 31) (is_found found.stop) (λ stop. omega arith)
    (λ all. pick_by (λ (n : ℕ). n ≤ 31) (is_found found.odd || is_found found.even) (λ one. omega arith)
    (λ none. pick_by (λ (n : ℕ). n ≤ 31) (supplies_count operation && (eqb (held_count store) 0 && eqb code 0))
    (λ wrong. omega arith) (λ right. low))))

-- ---- motion and gap

usual_low : (move : Motion) → usual_motion move ≤ 3
usual_low Still = omega arith
usual_low Forward = omega arith
usual_low Reverse = omega arith
usual_low Rewinding = omega arith
usual_low Winding = omega arith
usual_low Writing = omega arith
usual_low Erasing = omega arith

motion_low : (move : Motion) (code : ℕ) → motion_of move code ≤ 3
unfolding motion_of
motion_low move code = pick_by (λ (n : ℕ). n ≤ 3) (loses_tape code) (λ lost. omega arith) (λ known. usual_low move)

either_low : (test : Bool) (one other : ℕ) → one ≤ 3 → other ≤ 3 → pick test one other ≤ 3
either_low test one other low too = pick_by (λ (n : ℕ). n ≤ 3) test (λ yes. low) (λ no. too)

gap_of_low : (move : Motion) (code : ℕ) → gap_of move code ≤ 3
unfolding gap_of
gap_of_low Still code = either_low (eqb code 0) 0 1 (omega arith) (omega arith)
gap_of_low Forward code = either_low (eqb code 0) 0 1 (omega arith) (omega arith)
gap_of_low Reverse code = omega arith
gap_of_low Rewinding code = omega arith
gap_of_low Winding code = omega arith
gap_of_low Writing code = either_low (eqb code 0) 0 2 (omega arith) (omega arith)
gap_of_low Erasing code = either_low (eqb code 0) 0 1 (omega arith) (omega arith)

gap_low : (move : Motion) (code gap : ℕ) → gap ≤ 3 → gap_after move code gap ≤ 3
unfolding gap_after
gap_low move code gap low =
    either_low (eqb (motion_of move code) 0) gap _ low
    (either_low (eqb (motion_of move code) 3) 3 _ (omega arith) (gap_of_low move code))

-- ---- what the scan found

digits_byte : (defect : Defect) → digits_of defect < 256
unfolding digits_of
digits_byte defect = omega arith

number_byte : (after : ℕ) → number_of after < 256
unfolding number_of
number_byte after =
    pick_by (λ (n : ℕ). n < 256) (leb 2 after) (λ record_place. omega arith)
    (λ check. let few = leb-false 2 after check in omega arith)

defect_byte : (marks : List ℕ) (place : ℕ) → (defect_at marks place).number < 256
unfolding defect_at
defect_byte marks place =
    pick_by (λ (d : Defect). d.number < 256) (ltb place (length marks)) (λ there. number_byte _) (λ none. omega arith)

-- the words by what was found in the marks
module _ (marks : List ℕ) where
  abbrev found : Findings
  found = findings_of marks

  tertiary_bytes : WordInRange (tertiary_of found.odd found.even)
  unfolding tertiary_of findings_of
  tertiary_bytes =
      record {
        b0 = digits_byte _;
        b1 = defect_byte marks (scan_marks marks).odd;
        b2 = digits_byte _;
        b3 = defect_byte marks (scan_marks marks).even;
      }

  quintary_bytes : WordInRange (quintary_of found.stop)
  unfolding quintary_of findings_of
  quintary_bytes =
      record {
        b0 = omega arith;
        b1 = omega arith;
        b2 = digits_byte _;
        b3 = defect_byte marks (scan_marks marks).stop;
      }

-- ---- counts

held_most : (store : Store) → StoreInRange store → held_count store ≤ 65535
unfolding held_count limit
held_most store held = operand_within store.third store.fourth (held.third, held.fourth)

-- a place behind the last is a 0
byte_at : (bytes : List ℕ) (i : ℕ) → Bytes bytes → get_or bytes i 0 < 256
byte_at bytes i all =
    by_test (ltb i (length bytes)) (λ inside. all i (ltb-true i (length bytes) inside))
    (λ outside. rw (get_or-eq_default bytes 0 (ltb-false i (length bytes) outside)) (omega arith))

image_most : (image : List ℕ) → Bytes image → count_of image ≤ 65535
unfolding limit
image_most image all = image_within image (byte_at image 0 all, byte_at image 1 all)

used_most : (used : Bool) (operation : Operation) (store : Store) (image : List ℕ) → StoreInRange store → Bytes image
    → used_count used operation store image ≤ 65535
unfolding used_count record_count
used_most used operation store image held all =
    pick_by (λ (n : ℕ). n ≤ 65535) used
    (λ uses. pick_by (λ (n : ℕ). n ≤ 65535) (supplies_count operation) (λ supplies. held_most store held)
    (λ own. image_most image all))
    (λ none. omega arith)

count_most : (v : Verdict) (operation : Operation) (store : Store) (before : ℕ) → StoreInRange store
    → v.count ≤ 65535 → before ≤ 65535 → result_count v operation store before ≤ 65535
unfolding result_count
count_most v operation store before held most low =
    pick_by (λ (n : ℕ). n ≤ 65535) v.supplied (λ supplied. held_most store held)
    (λ own. pick_by (λ (n : ℕ). n ≤ 65535) v.used (λ uses. most)
    (λ none. pick_by (λ (n : ℕ). n ≤ 65535) (wrote_well operation v.code) (λ wrote. held_most store held)
    (λ no. low)))

-- ---- how many bytes are given

-- "n = c/256 rounded up blockettes", and two more
image_length_most : (count density : ℕ) → count ≤ 65535 → image_length count density ≤ 66050
unfolding image_length
image_length_most count density most =
    let few = blockettes_few count most in
    pick_by (λ (n : ℕ). n ≤ 66050) (has_blockettes count density) (λ some. omega arith) (λ none. omega arith)

pub data_most : (drive : Drive) (store : Store) (host : Host) → StoreInRange store
    → length (write_image store host drive.density) ≤ 66050
data_most drive store host held =
    let long = record_image_length store host drive.density in
    let most = image_length_most (held_count store) drive.density (held_most store held) in
    omega arith

read_count_most : (count : ℕ) (found : Findings) → read_count count found ≤ count
unfolding read_count
read_count_most count found =
    pick_by (λ (n : ℕ). n ≤ count) (is_found found.stop) (λ stop. omega arith) (λ all. omega arith)

read_most : (image : List ℕ) (count : ℕ) (found : Findings) → length (read_bytes image count found) ≤ count
unfolding read_bytes
read_most image count found = simp length-take (omega (arith, read_count_most count found))

-- ---- a result

module _ (drive : Drive) (operation : Operation) (store : Store) (r : Result) (space : ℕ) (check : List ℕ)
    (held : StoreInRange store) (image : Bytes r.image)
    (done : result_refusal drive operation store r (length check) ≡ 0) where
  abbrev verdict : Verdict
  verdict = verdict_of drive operation store r

  checks_lent : length check ≡ check_store
  unfolding result_refusal
  checks_lent = eqb-true _ _ (not-false _ (not_refused_lem _ _ _ (λ z. omega arith) done).0)

  listed : eqb (answer_of operation r.code) 0 ≡ false
  unfolding result_refusal
  listed =
      let lent = not_refused_lem _ _ _ (λ z. omega arith) done in
      (not_refused_lem _ _ _ (λ z. omega arith) lent.1).0

  verdict_code : verdict.code ≤ 31
  unfolding verdict_of
  verdict_code =
      final_low (is_gone drive operation) operation store r.code (findings_read operation r.marks)
      (reported_low operation r.code listed)

  verdict_count : verdict.count ≤ 65535
  unfolding verdict_of
  verdict_count = used_most _ operation store r.image held image

  verdict_tertiary : (before : Word) → WordInRange before → WordInRange (result_tertiary verdict before)
  unfolding result_tertiary verdict_of
  verdict_tertiary before bytes =
      word_or verdict.renews _ before (word_or verdict.gone zero_word _ zeros (tertiary_bytes _)) bytes

  verdict_quintary : (before : Word) → WordInRange before → WordInRange (result_quintary verdict before)
  unfolding result_quintary verdict_of
  verdict_quintary before bytes =
      word_or verdict.renews _ before (word_or verdict.gone zero_word _ zeros (quintary_bytes _)) bytes

  pub result_words_lem : (w : Words) → WordsInRange w
      → WordsInRange (settle_result w drive operation store r space check).words
  unfolding settle_result result_words with_retry result_bits
  result_words_lem w words =
      record {
        result =
            record {
              code = verdict_code;
              motion = motion_low (move_of operation) verdict.code;
              count =
                  count_most verdict operation store w.outcome.result.count held verdict_count
                  words.result.count;
            };
        tertiary = verdict_tertiary w.tertiary words.tertiary;
        quintary = verdict_quintary w.quintary words.quintary;
      }

  pub result_gap_lem : (w : Words) → drive.gap ≤ 3 → (settle_result w drive operation store r space check).gap ≤ 3
  unfolding settle_result result_gap
  result_gap_lem w low = gap_low (move_of operation) verdict.code drive.gap low

  -- a record's bytes, or those of the check store
  delivered_most : length (delivered_bytes verdict operation r.image check) ≤ 66050
  unfolding delivered_bytes
  delivered_most =
      pick_by (λ (l : List ℕ). length l ≤ 66050) (is_read operation)
      (λ reads. pick_by (λ (l : List ℕ). length l ≤ 66050) verdict.used
      (λ used. omega (arith, verdict_count, read_most r.image verdict.count verdict.found))
      (λ none. omega arith))
      (λ other. pick_by (λ (l : List ℕ). length l ≤ 66050) (same_operation operation CheckBytes)
      (λ checks. omega (arith, checks_lent)) (λ none. omega arith))

  pub result_most : (w : Words) → (settle_result w drive operation store r space check).bytes ≤ 66050
  unfolding settle_result fitting
  result_most w =
      let many = read_length operation (delivered_bytes verdict operation r.image check) in
      simp length-take (omega (arith, many, delivered_most))

  pub result_fits : (w : Words) → (settle_result w drive operation store r space check).bytes ≤ space
  unfolding settle_result fitting
  result_fits w = simp length-take (omega arith)

pub after_set : (b : Body) (a : After) → BodyInRange b → WordsInRange a.words → a.gap ≤ 3
    → BodyInRange (with_after b a)
after_set b a whole words low =
    let one = drive_of_lem b.drives b.selected whole.drives in
    drive_set (with_status b a.words) (with_gap (current_drive b) a.gap) (status_set b a.words whole words)
    (record {
      report = one.report;
      reviewed = one.reviewed;
      track = one.track;
      density = one.density;
      gap = low;
    })

-- ---- their refusals

-- numbered 0 or 2 to 15
pub record Refusal (n : ℕ) : Type 0 where
  pub most : n ≤ 15
  pub other : n ≡ 1 → ⊥

pub refusal_is : (n : ℕ) → n ≤ 15 → (n ≡ 1 → ⊥) → Refusal n
refusal_is n most other = record { most = most; other = other }

refusal_or : (test : Bool) (one other : ℕ) → Refusal one → Refusal other → Refusal (pick test one other)
refusal_or test one other low too = pick_by Refusal test (λ yes. low) (λ no. too)

abbrev numbered : (n : ℕ) → 1 < n → n ≤ 15 → Refusal n
numbered n some most = record { most = most; other = λ e. omega arith }

none : Refusal 0
none = record { most = omega arith; other = λ e. omega arith }

pub data_refusal_lem : (drive : Drive) (store : Store) (handed place space check : ℕ)
    → Refusal (data_refusal drive store handed place space check)
unfolding data_refusal
data_refusal_lem drive store handed place space check =
    refusal_or (not (eqb check check_store)) 6 _ (numbered 6 (omega arith) (omega arith))
    (refusal_or (ltb space (image_length (held_count store) drive.density)) 11 _
    (numbered 11 (omega arith) (omega arith))
    (refusal_or (not (is_place handed place)) 15 0 (numbered 15 (omega arith) (omega arith)) none))

nine : Refusal 9
nine = numbered 9 (omega arith) (omega arith)

layout_refusal_lem : (image marks : List ℕ) (c density : ℕ) → Refusal (layout_refusal image marks c density)
unfolding layout_refusal
layout_refusal_lem image marks c density =
    refusal_or (not (eqb (length image) (image_length c density))) 9 _ nine
    (refusal_or (not (eqb (length marks) (mark_count c density))) 9 _ nine
    (refusal_or (legal_marks marks) 0 10 none (numbered 10 (omega arith) (omega arith))))

unmarked_refusal_lem : (image marks : List ℕ) (n : ℕ) → Refusal (unmarked_refusal image marks n)
unfolding unmarked_refusal
unmarked_refusal_lem image marks n =
    refusal_or (not (eqb (length image) n)) 9 _ nine (refusal_or (eqb (length marks) 0) 0 9 none nine)

image_refusal_lem : (image marks : List ℕ) (expected : Expected) → Refusal (image_refusal image marks expected)
unfolding image_refusal whole_refusal
image_refusal_lem image marks (Whole density) =
    refusal_or (ltb (length image) 2) 9 _ nine (layout_refusal_lem image marks (count_of image) density)
image_refusal_lem image marks (Supplied count) = layout_refusal_lem image marks count 1
image_refusal_lem image marks Count = unmarked_refusal_lem image marks 2
image_refusal_lem image marks Nothing = unmarked_refusal_lem image marks 0

pub result_refusal_lem : (drive : Drive) (operation : Operation) (store : Store) (r : Result) (check : ℕ)
    → Refusal (result_refusal drive operation store r check)
unfolding result_refusal
result_refusal_lem drive operation store r check =
    refusal_or (not (eqb check check_store)) 6 _ (numbered 6 (omega arith) (omega arith))
    (refusal_or (eqb (answer_of operation r.code) 0) 7 _ (numbered 7 (omega arith) (omega arith))
    (refusal_or (mark_against operation r.code r.mark || leb 4 r.late) 8 _
    (numbered 8 (omega arith) (omega arith))
    (image_refusal_lem r.image r.marks (expected_of operation store drive.density r.code r.mark))))
