-- The result (document 01, Records; document 02, requests 1 and 2), as far as it concerns one drive: its refusals, the
-- verdict on it, and what is told by that: the bytes that are delivered, the check store, the status words and the gap.
-- Assumes nothing.
use Rattle.std.specs.Prelude.{ℕ, ◌*◌, ◌/◌, ◌%◌, min, Bool, not, ◌&&◌, ◌||◌, List, [], ◌++◌, leb, ltb, eqb, length, take}
use Rattle.std.specs.Prelude.{drop, replicate, Option, Some, None, is_some}
use Rattle.common.specs.Pick.{pick}
use Rattle.common.specs.Space.{overwrite}
use Rattle.common.specs.Refusals.{check_store_length, code_not_listed, flags_against_rule}
use Rattle.blockettes.specs.Blockettes.{blockette_length}
use Rattle.marks.specs.Scan.{Findings}
use Rattle.marks.specs.Marks.{torn_marks}
use Rattle.marks.specs.Scan.{is_found, told_findings, findings_of, checks_alone}
use Rattle.records.specs.Count.{count_of}
use Rattle.records.specs.Image.{blockette_count}
use Rattle.status.specs.declared.drives.Drive.{Drive}
use Rattle.status.specs.declared.words.Outcome.{Outcome}
use Rattle.status.specs.declared.words.Word.{Word}
use Rattle.status.specs.Drives.{installed, reports}
use Rattle.status.specs.Words.{zero_word, any_bit, tertiary_of, quintary_of}
use Rattle.operations.specs.declared.operation.Operation.{Operation}
use Rattle.operations.specs.declared.operation.Operation.TheVariants.{CheckBytes, Write}
use Rattle.operations.specs.declared.store.Store.{Store}
use Rattle.operations.specs.Operation.{same_operation, move_of}
use Rattle.operations.specs.Answers.{never_reported, answer_of}
use Rattle.operations.specs.After.{motion_of, gap_after, retry_of}
use Rattle.operations.specs.Store.{held_count, supplied_count}
use Rattle.transfers.specs.declared.verdict.TapeResult.{TapeResult}
use Rattle.transfers.specs.declared.verdict.Verdict.{Verdict as Decided}
use Rattle.transfers.specs.declared.after.Words.{Words}
use Rattle.transfers.specs.declared.after.After.{After}
use Rattle.operations.specs.Codes.{offline, blockette_number_wrong, recoverable, unrecoverable}
use Rattle.status.specs.Drives.{is_gcr}
use Rattle.operations.specs.Operation.{supplies_count, is_read, brings_record, is_skip, is_search, takes_mark}
use Rattle.operations.specs.Operation.{moves_tape}
use Rattle.transfers.specs.Data.{check_store, check_bytes}
use Rattle.transfers.specs.Expected.{expected_of, image_refusal}

-- "Result: code, mark flag, late flags 0-3 (..), image, marks, .."
pub record Result : Type 0 where
  pub code : ℕ
  pub mark : Bool
  pub late : ℕ
  pub image : List ℕ
  pub marks : List ℕ

-- a result of these parts
abbrev pub result_of : ℕ → Bool → ℕ → List ℕ → List ℕ → Result
result_of code mark late image marks = record { code = code; mark = mark; late = late; image = image; marks = marks }

-- one whose parts come together
abbrev pub result_with : TapeResult → Result
result_with tape = result_of tape.code tape.mark tape.late tape.image.now tape.marks.now

-- ---- refusals

-- "The mark flag needs code 0 in a read, skip or search; a search with code 0 needs it."
unfoldable pub mark_against : Operation → ℕ → Bool → Bool
mark_against operation code mark =
    (mark && not (takes_mark operation && eqb code 0)) || (is_search operation && (eqb code 0 && not mark))

-- "6 check store not 512; 7 code not listed; 8 mark flag against its rule, or late flags above 3; 9 ..; 10 mark value"
unfoldable pub result_refusal : Drive → Operation → Store → Result → ℕ → ℕ
result_refusal drive operation store r check =
    pick (not (eqb check check_store)) check_store_length
    (pick (eqb (answer_of operation r.code) never_reported) code_not_listed
    (pick (mark_against operation r.code r.mark || leb 4 r.late) flags_against_rule
    (image_refusal r.image r.marks (expected_of operation store drive.density r.code r.mark))))

-- ---- the verdict

-- what is decided of a result
pub record Verdict : Type 0 where
  pub gone : Bool
  pub used : Bool
  pub supplied : Bool
  pub renews : Bool
  pub code : ℕ
  pub count : ℕ
  pub found : Findings

-- the count of an image that is used, 0 where none is
abbrev pub count_in : Option ℕ → ℕ
count_in None = 0
count_in (Some count) = count

-- and as the program has it
abbrev pub told_verdict : Decided → Verdict
told_verdict v =
    record {
      gone = v.gone;
      used = is_some v.used;
      supplied = v.supplied;
      renews = v.renews;
      code = v.code;
      count = count_in v.used;
      found = told_findings v.found;
    }

-- "If the operation moves tape and none is installed, code 7 replaces the code, and mark and image go unused."
unfoldable pub is_gone : Drive → Operation → Bool
is_gone drive operation = moves_tape (move_of operation) && not (reports drive.report installed)

-- the marks as the operation reads them; with a supplied count, "The first blockette counts as a data error with mark
-- 0, whichever legal mark came for it"
unfoldable pub marks_read : Operation → List ℕ → List ℕ
marks_read operation marks = pick (supplies_count operation) (torn_marks marks) marks

-- what the scan finds in them
abbrev pub findings_read : Operation → List ℕ → Findings
findings_read operation marks = findings_of (marks_read operation marks)

-- "A supplied count of 0 takes an empty image, and a reported code 0 then ends as 13"
unfoldable pub code_reported : Operation → Store → ℕ → ℕ
code_reported operation store code =
    pick (supplies_count operation && (eqb (held_count store) 0 && eqb code 0)) blockette_number_wrong code

-- ".. code 7 replaces the code"; "None: no change. At most one of each parity: code 15, in place of 0, 10, 11 or 12.
-- Else 16"
unfoldable pub final_code : Bool → ℕ → Findings → ℕ
final_code gone code found =
    pick gone offline
    (pick (is_found found.stop) unrecoverable (pick (is_found found.odd || is_found found.even) recoverable code))

-- "For a GCR read or forward skip"; a supplied count "counts as GCR whatever the density"
unfoldable pub reads_gcr : Drive → Operation → Bool
reads_gcr drive operation = supplies_count operation || (brings_record operation && is_gcr drive)

-- an image that is used: there is one, and not ".. mark and image go unused"
abbrev pub uses_image : Bool → List ℕ → Bool
uses_image gone image = not gone && not (eqb (length image) 0)

-- the count of one: the image's own, but with a supplied count "the image's own count is not looked at"
unfoldable pub record_count : Operation → Store → List ℕ → ℕ
record_count operation store image = pick (supplies_count operation) (held_count store) (count_of image)

-- "Used images .. set bit 22 and secondary = c."
unfoldable pub used_count : Bool → Operation → Store → List ℕ → ℕ
used_count used operation store image = pick used (record_count operation store image) 0

-- what is decided of a result before any of it is told
unfoldable pub verdict_of : Drive → Operation → Store → Result → Verdict
verdict_of drive operation store r =
    record {
      gone = is_gone drive operation;
      used = uses_image (is_gone drive operation) r.image;
      supplied = not (eqb (supplied_count operation store) 0);
      renews = reads_gcr drive operation;
      code =
          final_code (is_gone drive operation) (code_reported operation store r.code)
          (findings_read operation r.marks);
      count = used_count (uses_image (is_gone drive operation) r.image) operation store r.image;
      found = findings_read operation r.marks;
    }

-- ---- bytes

-- "A read delivers c bytes ..; for 16, the lesser of c and 256 for each data blockette before the stop."
unfoldable pub read_count : ℕ → Findings → ℕ
read_count c found = pick (is_found found.stop) (min c (blockette_length * min found.place (blockette_count c))) c

-- ".. as the image has them", behind its count
unfoldable pub read_bytes : List ℕ → ℕ → Findings → List ℕ
read_bytes image c found = take (read_count c found) (drop 2 image)

-- "A read delivers ..; Check bytes deliver the 512 of the check store."
unfoldable pub delivered_bytes : Verdict → Operation → List ℕ → List ℕ → List ℕ
delivered_bytes verdict operation image check =
    pick (is_read operation) (pick verdict.used (read_bytes image verdict.count verdict.found) [])
    (pick (same_operation operation CheckBytes) check [])

-- bytes whose first blockette is torn: "its bytes are delivered as zeros"
unfoldable pub torn_bytes : List ℕ → List ℕ
torn_bytes bytes = replicate (min (length bytes) blockette_length) 0 ++ drop blockette_length bytes

-- the bytes as the operation reads them
unfoldable pub bytes_read : Operation → List ℕ → List ℕ
bytes_read operation bytes = pick (supplies_count operation) (torn_bytes bytes) bytes

-- "Host space too short: as many as fit"
unfoldable pub fitting : List ℕ → ℕ → List ℕ
fitting bytes space = take space bytes

-- at the start of the space: "the rest of the lent space keeps its bytes"
abbrev pub fitting_into : List ℕ → List ℕ → List ℕ
fitting_into bytes space = overwrite (fitting bytes (length space)) space

-- "check store .. zeroed first; check store then takes both check blockettes"
unfoldable pub result_check : Verdict → List ℕ → List ℕ → List ℕ
result_check verdict image check =
    pick verdict.renews (pick verdict.used (check_bytes image verdict.count) (replicate check_store 0)) check

-- ---- words

-- a word that is made anew: the one that the scan tells, or zero where the image goes unused
abbrev pub renewed : Verdict → Word → Word → Word
renewed verdict told before = pick verdict.renews (pick verdict.gone zero_word told) before

-- "tertiary, quintary and check store are zeroed first": they stay zero where the image goes unused or the scan finds
-- nothing
unfoldable pub result_tertiary : Verdict → Word → Word
result_tertiary verdict before =
    pick verdict.renews (pick verdict.gone zero_word (tertiary_of verdict.found.odd verdict.found.even))
    before

-- quintary in the same way
unfoldable pub result_quintary : Verdict → Word → Word
result_quintary verdict before =
    pick verdict.renews (pick verdict.gone zero_word (quintary_of verdict.found.stop)) before

-- "writes with code 0"
unfoldable pub wrote_well : Operation → ℕ → Bool
wrote_well operation code = same_operation operation Write && eqb code 0

-- "Used images, and writes with code 0, set bit 22 and secondary = c."; of a supplied count, "A result .. makes
-- secondary the count exactly if that is nonzero, whatever the code"
unfoldable pub result_count : Verdict → Operation → Store → ℕ → ℕ
result_count verdict operation store before =
    pick verdict.supplied (held_count store)
    (pick verdict.used verdict.count (pick (wrote_well operation verdict.code) (held_count store) before))

-- bits 17, 19, 20, 21 and 22 are set, "(1 sets bit 19, 2 bit 20)", "Host space too short: .. bit 17", "A result sets
-- bits 21 and 22 .. exactly if that is nonzero"; mark is assigned, and the record of final code, motion and count
unfoldable pub result_bits : Verdict → Outcome → Operation → Store → Bool → ℕ → ℕ → ℕ → Outcome
result_bits verdict outcome operation store mark late bytes space =
    record {
      retry = outcome.retry;
      mark = mark && not verdict.gone;
      result =
          record {
            code = verdict.code;
            motion = motion_of (move_of operation) verdict.code;
            count = result_count verdict operation store outcome.result.count;
          };
      parity = outcome.parity;
      overflow = outcome.overflow || ltb space bytes;
      underflow = outcome.underflow;
      wdl = outcome.wdl || eqb (late % 2) 1;
      rdl = outcome.rdl || eqb (late / 2 % 2) 1;
      supplied = outcome.supplied || verdict.supplied;
      counted = outcome.counted || (verdict.supplied || (verdict.used || wrote_well operation verdict.code));
    }

-- "Bit 2 (retry)": by the final code and what the scan found, or any of bits 16-20; "Bit 19, the late flag 1, leaves it
-- clear in both skips. Another bit among 16-20 still sets it." (document 02, request 2)
unfoldable pub with_retry : Outcome → Operation → Findings → Outcome
with_retry outcome operation found =
    record {
      retry = retry_of operation outcome.result.code (checks_alone found) (any_bit outcome (not (is_skip operation)));
      mark = outcome.mark;
      result = outcome.result;
      parity = outcome.parity;
      overflow = outcome.overflow;
      underflow = outcome.underflow;
      wdl = outcome.wdl;
      rdl = outcome.rdl;
      supplied = outcome.supplied;
      counted = outcome.counted;
    }

-- all words, where `bytes` are to be delivered and `space` fit: primary by its bits and its record, which has
-- "secondary = c", tertiary and quintary
unfoldable pub result_words : Words → Verdict → Operation → Store → Bool → ℕ → ℕ → ℕ → Words
result_words words verdict operation store mark late bytes space =
    record {
      outcome =
          with_retry (result_bits verdict words.outcome operation store mark late bytes space) operation
          verdict.found;
      tertiary = result_tertiary verdict words.tertiary;
      quintary = result_quintary verdict words.quintary;
    }

-- ---- the whole

-- the drive's gap, by the final code
unfoldable pub result_gap : Drive → Operation → ℕ → ℕ
result_gap drive operation code = gap_after (move_of operation) code drive.gap

-- the bytes that are to be delivered, and the host space and the check store afterwards
abbrev pub delivered : Drive → Operation → Store → Result → List ℕ → List ℕ
delivered drive operation store r check =
    bytes_read operation (delivered_bytes (verdict_of drive operation store r) operation r.image check)

abbrev pub result_into : Drive → Operation → Store → Result → List ℕ → List ℕ → List ℕ
result_into drive operation store r space check = fitting_into (delivered drive operation store r check) space

abbrev pub result_check_into : Drive → Operation → Store → Result → List ℕ → List ℕ
result_check_into drive operation store r check = result_check (verdict_of drive operation store r) r.image check

-- the words, the gap, and how many bytes fit
unfoldable pub settle_result : Words → Drive → Operation → Store → Result → ℕ → List ℕ → After
settle_result words drive operation store r space check =
    record {
      words =
          result_words words (verdict_of drive operation store r) operation store r.mark r.late
          (length (delivered drive operation store r check)) space;
      gap = result_gap drive operation (verdict_of drive operation store r).code;
      bytes = length (fitting (delivered drive operation store r check) space);
    }
