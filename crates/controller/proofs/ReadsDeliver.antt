-- At every result of a list that is not refused, a read delivers what its image holds, by its marks, and a read with a
-- supplied count the same with its first blockette as zeros (`reads_deliver`, over the definitions).
-- Assumes nothing.
use mathlib.Core.Path.{◌≡◌, refl, sym, ap, ap₂, subst, ◌∙◌}
use Prim.Native.Nat.{ℕ, ◌+◌, ◌*◌, ◌/◌, ◌%◌, ◌≤◌, ◌<◌, min}
use native.Mathlib.Decide.{dec_le}
use native.Mathlib.Nat.{lt_of_not-le}
use native.Mathlib.Omega.{arith}
use mathlib.Core.Bool.{Bool, true, false, not, ◌&&◌, ◌||◌, or-true}
use mathlib.Core.List.{List, [], ◌∷◌, ◌++◌}
use lib.Dec.{ltb, eqb}
use lib.ListN.{length, take, drop, length-take, drop_of_length-le}
use lib.Seq.{take_all, take-nil}
use borrow.Author.Tests.{eqb-true, eq-eqb, ne_eqb, not-false}
use Rattle.common.specs.Pick.{pick}
use Rattle.common.specs.Space.{overwrite}
use Rattle.common.proofs.PickLaws.{pick_by, pick_yes, pick_no, not_refused_lem}
use Rattle.marks.specs.Scan.{Findings}
use Rattle.marks.specs.Scan.{is_found, findings_of}
use Rattle.records.specs.Image.{blockette_count}
use Rattle.records.proofs.ImageLaws.{count_said_lem, marks_of}
use Rattle.records.proofs.WholeLaws.{IsLaid, laid}
use Rattle.status.specs.declared.drives.Drive.{Drive}
use Rattle.status.specs.declared.words.Outcome.{Outcome}
use Rattle.status.specs.Drives.{reports, copy_report}
use Rattle.operations.specs.declared.operation.Operation.{Operation}
use Rattle.operations.specs.declared.operation.Operation.TheVariants.{Read, SuppliedCount}
use Rattle.operations.specs.declared.decode.Decoded.TheVariants.{Operate}
use Rattle.operations.specs.declared.store.Store.{Store}
use Rattle.operations.specs.Operation.{moves_tape, move_of, offers_end}
use Rattle.operations.specs.Decode.{decode_of, read_of}
use Rattle.operations.specs.Store.{asked_for, held_count, supplied_count}
use Rattle.link.specs.declared.state.Body.{Body}
use Rattle.link.specs.State.{Transition}
use Rattle.link.specs.State.{current_drive}
use Rattle.transfers.specs.declared.expected.Expected.{Expected}
use Rattle.transfers.specs.Results.{Verdict}
use Rattle.transfers.specs.Expected.{expected_supplied, expected_of, unmarked_refusal, image_refusal}
use Rattle.transfers.specs.Results.{Result, result_refusal, is_gone, marks_read, code_reported, final_code}
use Rattle.transfers.specs.Results.{record_count}
use Rattle.transfers.specs.Results.{used_count, verdict_of, read_count, read_bytes, delivered_bytes, torn_bytes}
use Rattle.transfers.specs.Results.{bytes_read}
use Rattle.transfers.specs.Results.{fitting, delivered, wrote_well, result_count, result_bits, with_retry, result_words}
use Rattle.transfers.specs.Results.{settle_result}
use Rattle.transfers.proofs.ResultLaws.{result_passed, supplied_none}
use Rattle.controller.specs.Controller.{fresh}
use Rattle.controller.specs.Stores.{end_operation}
use Rattle.controller.specs.Records.{Answer, words_of, result_done}
use Rattle.controller.specs.Machine.{Call, run}
use Rattle.controller.specs.Ledger.{Ledger, tape_now, operation_of}
use Rattle.controller.specs.OnTape.{count_on_tape, body_on_tape, image_on_tape}
use Rattle.controller.specs.Marked.{NoneBad}
use Rattle.controller.specs.Delivered.{outcome_left, Given, Delivered, ByMarks, ReadDelivers, first_as_zeros}
use Rattle.controller.specs.Delivered.{SuppliedDelivers, ResultDelivers, ReadsDeliver}
use Rattle.controller.proofs.DrivesAreALedger.{told}
use Rattle.controller.proofs.OnTapeLaws.{count_is, body_front}
use Rattle.controller.proofs.MarkedLaws.{good_unstopped, good_unfound, mended_unstopped, mended_found}
use Rattle.controller.proofs.MarkedLaws.{stopped_there, stopped_found, torn_is, torn_bad, torn_alone}
use Rattle.controller.proofs.EachCall.{current_is, at_transfers}

-- ---- by what the scan found

module _ (code : ℕ) (found : Findings) where
  final_good : is_found found.stop ≡ false → (is_found found.odd || is_found found.even) ≡ false
      → final_code false code found ≡ code
  unfolding final_code pick
  final_good on none = pick_no _ _ on ∙ pick_no _ _ none

  final_mended : is_found found.stop ≡ false → (is_found found.odd || is_found found.even) ≡ true
      → final_code false code found ≡ 0x15
  unfolding final_code pick
  final_mended on some = pick_no _ _ on ∙ pick_yes _ _ some

  final_stopped : is_found found.stop ≡ true → final_code false code found ≡ 0x16
  unfolding final_code pick
  final_stopped halts = pick_yes _ _ halts

module _ (c : ℕ) (found : Findings) where
  read_all : is_found found.stop ≡ false → read_count c found ≡ c
  unfolding read_count
  read_all on = pick_no _ _ on

  read_stopped : (stop : ℕ) → is_found found.stop ≡ true → found.place ≡ stop
      → read_count c found ≡ min c (256 * min stop ((c + 255) / 256))
  unfolding read_count blockette_count
  read_stopped stop halts there =
      pick_yes _ _ halts ∙ ap (λ (n : ℕ). min c (256 * min n ((c + 255) / 256))) there

-- ---- what is left of a space

kept_bytes : (bytes space : List ℕ) → drop (length (take (length space) bytes)) space ≡ drop (length bytes) space
kept_bytes bytes space =
    elim (dec_le (length bytes) (length space)) [
      | yes fits ↦ ap (λ (l : List ℕ). drop (length l) space) (take_all (length space) bytes fits)
      | no over ↦
          let past : length space < length bytes = lt_of_not-le over in
          let all : length space ≤ length (take (length space) bytes) = simp length-take (omega arith) in
          let beyond : length space ≤ length bytes = omega arith in
          drop_of_length-le space all ∙ sym (drop_of_length-le space beyond)
    ]

-- ---- the answer, of either read

module _ (b : Body) (operation : Operation) (held : Store) (r : Result) (space check : List ℕ)
    (ends : offers_end operation ≡ true) (clear : b.outcome.overflow ≡ false) where
  abbrev drive : Drive
  drive = current_drive b

  abbrev verdict : Verdict
  verdict = verdict_of drive operation held r

  abbrev answer : Answer
  answer = result_done b drive operation held r space check

  abbrev got : List ℕ
  got = delivered drive operation held r check

  outcome_is : outcome_left answer
      ≡ (settle_result (words_of b) drive operation held r (length space) check).words.outcome
  unfolding result_done end_operation
  outcome_is = ap (λ (t : Transition). t.body.outcome) (pick_yes _ _ ends)

  pub given_is : (bytes : List ℕ) → got ≡ bytes → Given bytes space answer
  unfolding result_done settle_result result_words with_retry result_bits fitting overwrite
  given_is bytes same =
      let turned : min (length space) (length bytes) ≡ min (length bytes) (length space) = omega arith in
      record {
        number =
            ap (λ (l : List ℕ). length (take (length space) l)) same ∙ length-take (length space) bytes ∙ turned;
        there =
            ap (λ (l : List ℕ). take (length space) l ++ drop (length (take (length space) l)) space) same
            ∙ ap (λ (l : List ℕ). take (length space) bytes ++ l) (kept_bytes bytes space);
        bit17 =
            ap (λ (o : Outcome). o.overflow) outcome_is
            ∙ ap₂ (λ (t : Bool) (l : List ℕ). t || ltb (length space) (length l)) clear same;
      }

  -- where the image is used
  module _ (used : verdict.used ≡ true) where
    delivered_is : (bytes : List ℕ) (c code : ℕ) → got ≡ bytes
        → result_count verdict operation held b.outcome.result.count ≡ c
        → verdict.code ≡ code → Delivered bytes space c code answer
    unfolding settle_result result_words with_retry result_bits
    delivered_is bytes c code same counts final =
        record {
          given = given_is bytes same;
          bit22 =
              ap (λ (o : Outcome). o.counted) outcome_is
              ∙ ap (λ (t : Bool). b.outcome.counted
              || (verdict.supplied || (t || wrote_well operation verdict.code))) used
              ∙ ap (λ (t : Bool). b.outcome.counted || t) (or-true verdict.supplied)
              ∙ or-true b.outcome.counted;
          secondary = ap (λ (o : Outcome). o.result.count) outcome_is ∙ counts;
          final = ap (λ (o : Outcome). o.result.code) outcome_is ∙ final;
        }

    -- by what the scan finds in marks, of so many bytes, shown in some way
    module _ (shown : List ℕ → List ℕ) (marks : List ℕ) (c : ℕ) (long : 2 + c ≤ length r.image)
        (counts : result_count verdict operation held b.outcome.result.count ≡ c)
        (bytes_of : (k : ℕ) → read_count c (findings_of marks) ≡ k → got ≡ shown (take k (drop 2 r.image)))
        (code_of_lem : (code : ℕ) → final_code false r.code (findings_of marks) ≡ code → verdict.code ≡ code) where
      by_found : ByMarks shown marks r.image space c r.code answer
      by_found =
          let found = findings_of marks in
          record {
            long = long;
            good = λ none.
                delivered_is _ c r.code (bytes_of c (read_all c found (good_unstopped marks none))) counts
                (code_of_lem r.code (final_good r.code found (good_unstopped marks none) (good_unfound marks none)));
            mended = λ place bad most.
                let on = mended_unstopped marks place bad most in
                delivered_is _ c 0x15 (bytes_of c (read_all c found on)) counts
                (code_of_lem 0x15 (final_mended r.code found on (mended_found marks place bad most)));
            stopped = λ stop stops.
                let halts = stopped_found marks stop stops in
                delivered_is _ c 0x16 (bytes_of _ (read_stopped c found stop halts (stopped_there marks stop stops)))
                counts
                (code_of_lem 0x16 (final_stopped r.code found halts));
          }

-- the tape is there, or not, by bit 32
module _ (d : Drive) (operation : Operation) (moves : moves_tape (move_of operation) ≡ true) where
  there_is : d.report / 32 % 2 ≡ 1 → is_gone d operation ≡ false
  unfolding is_gone reports
  there_is one = ap₂ (λ (t : Bool) (n : ℕ). t && not (eqb n 1)) moves one

  gone_is : d.report / 32 % 2 ≡ 0 → is_gone d operation ≡ true
  unfolding is_gone reports
  gone_is none = ap₂ (λ (t : Bool) (n : ℕ). t && not (eqb n 1)) moves none

  used_is : (held : Store) (r : Result) → is_gone d operation ≡ false → (length r.image ≡ 0 → ⊥)
      → (verdict_of d operation held r).used ≡ true
  unfolding verdict_of
  used_is held r there some =
      ap₂ (λ (t u : Bool). not t && not u) there (ne_eqb (length r.image) 0 some)

  unused_is : (held : Store) (r : Result) → is_gone d operation ≡ true → (verdict_of d operation held r).used ≡ false
  unfolding verdict_of
  unused_is held r gone = ap (λ (t : Bool). not t && not (eqb (length r.image) 0)) gone

  empty_is : (held : Store) (r : Result) → length r.image ≡ 0 → (verdict_of d operation held r).used ≡ false
  unfolding verdict_of
  empty_is held r none =
      ap (λ (t : Bool). not (is_gone d operation) && not t) (eq-eqb (length r.image) 0 none)
      ∙ and_none (not (is_gone d operation))
    where
      and_none : (t : Bool) → (t && false) ≡ false
      and_none true = refl
      and_none false = refl

-- ---- a read

read_moves : moves_tape (move_of Read) ≡ true
unfolding moves_tape
read_moves = refl

supplied_moves : moves_tape (move_of SuppliedCount) ≡ true
unfolding moves_tape
supplied_moves = refl

module _ (b : Body) (held : Store) (r : Result) (space check : List ℕ) (clear : b.outcome.overflow ≡ false)
    (good : result_refusal (current_drive b) Read held r (length check) ≡ 0) where
  abbrev its : Drive
  its = current_drive b

  abbrev read_verdict : Verdict
  read_verdict = verdict_of its Read held r

  abbrev read_answer : Answer
  read_answer = result_done b its Read held r space check

  abbrev read_got : List ℕ
  read_got = delivered its Read held r check

  unused_read : read_verdict.used ≡ false → Given [] space read_answer
  unfolding delivered_bytes bytes_read pick
  unused_read unused = given_is b Read held r space check refl clear [] (pick_no _ _ unused)

  module _ (there : is_gone its Read ≡ false) (c : ℕ) (within : c ≤ 65535)
      (says : take 2 r.image ≡ count_on_tape c) where
    two : 2 ≤ length r.image
    unfolding count_on_tape
    two = omega (arith, sym (length-take 2 r.image) ∙ ap length says)

    read_used : read_verdict.used ≡ true
    read_used = used_is its Read read_moves held r there (λ none. omega (arith, two))

    count_read : read_verdict.count ≡ c
    unfolding verdict_of used_count record_count pick
    count_read = pick_yes _ _ read_used ∙ count_said_lem r.image c within (says ∙ count_is c)

    counts : result_count read_verdict Read held b.outcome.result.count ≡ c
    unfolding result_count verdict_of supplied_count pick
    counts = pick_yes _ _ read_used ∙ count_read

    bytes_read_lem : (k : ℕ) → read_count c (findings_of r.marks) ≡ k → read_got ≡ take k (drop 2 r.image)
    unfolding delivered_bytes read_bytes bytes_read verdict_of marks_read pick
    bytes_read_lem k reads =
        pick_yes _ _ read_used
        ∙ ap (λ (n : ℕ). take (read_count n (findings_of r.marks)) (drop 2 r.image)) count_read
        ∙ ap (λ (n : ℕ). take n (drop 2 r.image)) reads

    code_read : (code : ℕ) → final_code false r.code (findings_of r.marks) ≡ code → read_verdict.code ≡ code
    unfolding verdict_of code_reported marks_read pick
    code_read code final =
        ap (λ (t : Bool). final_code t r.code (findings_of r.marks)) there ∙ final

    by_marks : ByMarks (λ bytes. bytes) r.marks r.image space c r.code read_answer
    by_marks =
        by_found b Read held r space check refl clear read_used (λ bytes. bytes) r.marks c
        (omega (arith, count_read, (result_passed its r Read held (length check) good).read refl read_used))
        counts bytes_read_lem code_read

  -- an image that holds bytes
  holds : is_gone its Read ≡ false → (bytes : List ℕ) → length bytes ≤ 65535
      → r.image ≡ image_on_tape bytes its.density → NoneBad r.marks
      → Delivered bytes space (length bytes) r.code read_answer
  unfolding image_on_tape count_on_tape
  holds there bytes within same none =
      let says : take 2 r.image ≡ count_on_tape (length bytes) = ap (take 2) same in
      let front : take (length bytes) (drop 2 r.image) ≡ bytes =
      ap (λ (l : List ℕ). take (length bytes) (drop 2 l)) same ∙ body_front bytes its.density in
      subst (λ (l : List ℕ). Delivered l space (length bytes) r.code read_answer) front
      ((by_marks there (length bytes) within says).good none)

-- ---- a read with a supplied count

-- a length that is tested to be 0
empty_of : (n rest : ℕ) → pick (not (eqb n 0)) 9 rest ≡ 0 → n ≡ 0
empty_of n rest e = eqb-true n 0 (not-false (eqb n 0) (not_refused_lem (not (eqb n 0)) 9 rest (λ z. omega arith) e).0)

-- its image and marks have the length which the supplied count gives
brought_laid : (image marks : List ℕ) (count code : ℕ) → image_refusal image marks (expected_supplied count code) ≡ 0
    → (length image ≡ 0 → ⊥) → IsLaid image marks count 1
unfolding expected_supplied image_refusal unmarked_refusal
brought_laid image marks count code =
    pick_by (λ (x : Expected). image_refusal image marks x ≡ 0 → (length image ≡ 0 → ⊥) → IsLaid image marks count 1)
    (eqb code 0 && not (eqb count 0)) (λ brought passes some. laid image marks count 1 passes)
    (λ none passes some. absurd (some (empty_of (length image) _ passes)))

supplied_brought : (d : Drive) (held : Store) (r : Result)
    → image_refusal r.image r.marks (expected_of SuppliedCount held d.density r.code r.mark) ≡ 0
    → (length r.image ≡ 0 → ⊥) → IsLaid r.image r.marks (held_count held) 1
unfolding expected_of pick
supplied_brought d held r = brought_laid r.image r.marks (held_count held) r.code

supplied_laid : (d : Drive) (held : Store) (r : Result) (check : ℕ) → result_refusal d SuppliedCount held r check ≡ 0
    → (length r.image ≡ 0 → ⊥) → IsLaid r.image r.marks (held_count held) 1
unfolding result_refusal
supplied_laid d held r check good =
    let (lent, listed) = not_refused_lem _ _ _ (λ z. omega arith) good in
    let (known, flags) = not_refused_lem _ _ _ (λ z. omega arith) listed in
    let (ruled, image) = not_refused_lem _ _ _ (λ z. omega arith) flags in
    supplied_brought d held r image

module _ (b : Body) (held : Store) (r : Result) (space check : List ℕ) (clear : b.outcome.overflow ≡ false)
    (good : result_refusal (current_drive b) SuppliedCount held r (length check) ≡ 0) where
  abbrev own : Drive
  own = current_drive b

  abbrev supplied_verdict : Verdict
  supplied_verdict = verdict_of own SuppliedCount held r

  abbrev supplied_answer : Answer
  supplied_answer = result_done b own SuppliedCount held r space check

  abbrev supplied_got : List ℕ
  supplied_got = delivered own SuppliedCount held r check

  unused_supplied : supplied_verdict.used ≡ false → Given [] space supplied_answer
  unfolding delivered_bytes bytes_read torn_bytes pick
  unused_supplied unused =
      given_is b SuppliedCount held r space check refl clear []
      (ap (λ (l : List ℕ). first_as_zeros l) (pick_no _ _ unused))

  bit21_set : (held_count held ≡ 0 → ⊥) → (outcome_left supplied_answer).supplied ≡ true
  unfolding settle_result result_words with_retry result_bits verdict_of supplied_count pick
  bit21_set some =
      ap (λ (o : Outcome). o.supplied) (outcome_is b SuppliedCount held r space check refl clear)
      ∙ ap (λ (t : Bool). b.outcome.supplied || not t) (ne_eqb (held_count held) 0 some)
      ∙ or-true b.outcome.supplied

  module _ (there : is_gone own SuppliedCount ≡ false) (some : length r.image ≡ 0 → ⊥) where
    supplied_used : supplied_verdict.used ≡ true
    supplied_used = used_is own SuppliedCount supplied_moves held r there some

    -- the count is not 0, and so there are marks
    counted_some : held_count held ≡ 0 → ⊥
    counted_some zero = some (supplied_none own r SuppliedCount held (length check) good refl zero)

    marked_some : length r.marks ≡ 0 → ⊥
    marked_some none =
        let lies = supplied_laid own held r (length check) good some in
        let many : 0 < held_count held = positive (held_count held) counted_some in
        omega (arith, lies.marked, marks_of (held_count held) many)
      where
        positive : (n : ℕ) → (n ≡ 0 → ⊥) → 0 < n
        positive n other = omega arith

    abbrev torn : List ℕ
    torn = 0 ∷ drop 1 r.marks

    found_is : supplied_verdict.found ≡ findings_of torn
    unfolding verdict_of marks_read pick
    found_is = ap findings_of (torn_is r.marks marked_some)

    count_supplied_lem : supplied_verdict.count ≡ held_count held
    unfolding verdict_of used_count record_count pick
    count_supplied_lem = pick_yes _ _ supplied_used

    counts_supplied : result_count supplied_verdict SuppliedCount held b.outcome.result.count ≡ held_count held
    unfolding result_count
    counts_supplied =
        pick_by (λ (n : ℕ). n ≡ held_count held) supplied_verdict.supplied (λ is. refl)
        (λ none. pick_yes _ _ supplied_used ∙ count_supplied_lem)

    bytes_supplied : (k : ℕ) → read_count (held_count held) (findings_of torn) ≡ k
        → supplied_got ≡ first_as_zeros (take k (drop 2 r.image))
    unfolding delivered_bytes read_bytes bytes_read torn_bytes pick
    bytes_supplied k reads =
        ap (λ (l : List ℕ). first_as_zeros l)
        (pick_yes _ _ supplied_used
        ∙ ap₂ (λ (n : ℕ) (f : Findings). take (read_count n f) (drop 2 r.image)) count_supplied_lem found_is
        ∙ ap (λ (n : ℕ). take n (drop 2 r.image)) reads)

    code_supplied : (code : ℕ) → final_code false r.code (findings_of torn) ≡ code → supplied_verdict.code ≡ code
    unfolding verdict_of code_reported
    code_supplied code final =
        let own_code : pick (eqb (held_count held) 0 && eqb r.code 0) 0x13 r.code ≡ r.code =
        pick_no _ _ (ap (λ (t : Bool). t && eqb r.code 0) (ne_eqb (held_count held) 0 counted_some)) in
        ap₂ (λ (t : Bool) (n : ℕ). final_code t n supplied_verdict.found) there own_code
        ∙ ap (final_code false r.code) found_is ∙ final

    by_torn_marks : ByMarks (λ bytes. first_as_zeros bytes) torn r.image space (held_count held) r.code
        supplied_answer
    by_torn_marks =
        by_found b SuppliedCount held r space check refl clear supplied_used (λ bytes. first_as_zeros bytes) torn
        (held_count held)
        (omega (
          arith,
          count_supplied_lem,
          (result_passed own r SuppliedCount held (length check) good).read refl supplied_used,
        ))
        counts_supplied bytes_supplied code_supplied

  -- an image whose blockettes hold bytes
  holds_supplied : is_gone own SuppliedCount ≡ false → (bytes : List ℕ) → (length bytes ≡ 0 → ⊥)
      → length bytes ≡ held_count held → drop 2 r.image ≡ body_on_tape bytes 1 → NoneBad (drop 1 r.marks)
      → Delivered (first_as_zeros bytes) space (length bytes) 0x15 supplied_answer
  holds_supplied there bytes full counted same none =
      let front : take (length bytes) (drop 2 r.image) ≡ bytes =
      ap (take (length bytes)) same ∙ body_front bytes 1 in
      let some : length r.image ≡ 0 → ⊥ =
      λ empty. full (sym (ap length front)
      ∙ ap (λ (l : List ℕ). length (take (length bytes) l))
      (drop_of_length-le r.image (let few : length r.image ≤ 2 = omega arith in few))
      ∙ ap length (take-nil (length bytes))) in
      subst (λ (l : List ℕ). Delivered (first_as_zeros l) space (length bytes) 0x15 supplied_answer) front
      (subst
      (λ (c : ℕ). Delivered (first_as_zeros (take c (drop 2 r.image))) space c 0x15 supplied_answer)
      (sym counted)
      ((by_torn_marks there some).mended 0 (torn_bad (drop 1 r.marks)) (torn_alone (drop 1 r.marks) none)))

-- ---- over every list

pub operate_same : (one two : Operation) → Operate one ≡ Operate two → one ≡ two
operate_same one two same = cc

-- a store to operation 4 asks for a read by its first operand byte
asks_read : (store : Store) (operation : Operation) → asked_for store ≡ Operate operation → operation_of store ≡ 4
    → store.first ≡ 0x00 → operation ≡ Read
unfolding asked_for decode_of read_of pick
asks_read store operation asks four plain =
    operate_same operation Read
    (sym asks ∙ ap₂ (λ (o f : ℕ). decode_of o f store.fourth) four plain)

asks_supplied : (store : Store) (operation : Operation) → asked_for store ≡ Operate operation → operation_of store ≡ 4
    → store.first ≡ 0x80 → operation ≡ SuppliedCount
unfolding asked_for decode_of read_of pick
asks_supplied store operation asks four supplies =
    operate_same operation SuppliedCount
    (sym asks ∙ ap₂ (λ (o f : ℕ). decode_of o f store.fourth) four supplies)

module _ (l : Ledger) (b : Body) (held : Store) (r : Result) (space check : List ℕ)
    (current : copy_report (current_drive b) ≡ told (tape_now l)) (same : held ≡ l.store)
    (clear : b.outcome.overflow ≡ false) where
  reported : (current_drive b).report ≡ (tape_now l).report
  reported = ap (λ (d : Drive). d.report) current

  dense : (current_drive b).density ≡ (tape_now l).density
  dense = ap (λ (d : Drive). d.density) current

  bit32 : (n : ℕ) → (tape_now l).report / 32 % 2 ≡ n → (current_drive b).report / 32 % 2 ≡ n
  bit32 n set = ap (λ (bits : ℕ). bits / 32 % 2) reported ∙ set

  read_delivers : result_refusal (current_drive b) Read held r (length check) ≡ 0
      → ReadDelivers (tape_now l) r space (result_done b (current_drive b) Read held r space check)
  read_delivers good =
      let d = current_drive b in
      record {
        nothing = λ none. unused_read b held r space check clear good (empty_is d Read read_moves held r none);
        gone = λ zero.
            unused_read b held r space check clear good
            (unused_is d Read read_moves held r (gone_is d Read read_moves (bit32 0 zero)));
        marked = λ one. by_marks b held r space check clear good (there_is d Read read_moves (bit32 1 one));
        held = λ one bytes within image.
            holds b held r space check clear good (there_is d Read read_moves (bit32 1 one)) bytes within
            (image ∙ ap (image_on_tape bytes) (sym dense));
      }

  supplied_delivers : result_refusal (current_drive b) SuppliedCount held r (length check) ≡ 0
      → SuppliedDelivers held (tape_now l) r space (result_done b (current_drive b) SuppliedCount held r space check)
  unfolding held_count
  supplied_delivers good =
      let d = current_drive b in
      record {
        nothing = λ none.
            unused_supplied b held r space check clear good (empty_is d SuppliedCount supplied_moves held r none);
        gone = λ zero.
            unused_supplied b held r space check clear good
            (unused_is d SuppliedCount supplied_moves held r (gone_is d SuppliedCount supplied_moves (bit32 0 zero)));
        bit21 = bit21_set b held r space check clear good;
        marked = λ one.
            by_torn_marks b held r space check clear good (there_is d SuppliedCount supplied_moves (bit32 1 one));
        held = λ one.
            holds_supplied b held r space check clear good (there_is d SuppliedCount supplied_moves (bit32 1 one));
      }

results_deliver :
    (l : Ledger) (b : Body) (operation : Operation) (held : Store) (r : Result) (space check : List ℕ)
    → copy_report (current_drive b) ≡ told (tape_now l)
    → asked_for l.store ≡ Operate operation
    → held ≡ l.store
    → b.outcome.overflow ≡ false
    → result_refusal (current_drive b) operation held r (length check) ≡ 0
    → ResultDelivers l r space (result_done b (current_drive b) operation held r space check)
results_deliver l b operation held r space check current asks same clear good =
    record {
      read = λ four plain.
          let is = sym (asks_read l.store operation asks four plain) in
          subst
          (λ (o : Operation). result_refusal (current_drive b) o held r (length check) ≡ 0
          → ReadDelivers (tape_now l) r space (result_done b (current_drive b) o held r space check)) is
          (read_delivers l b held r space check current same clear) good;
      supplied = λ four supplies.
          let is = sym (asks_supplied l.store operation asks four supplies) in
          subst
          (λ (s : Store). SuppliedDelivers s (tape_now l) r space
          (result_done b (current_drive b) operation held r space check)) same
          (subst
          (λ (o : Operation). result_refusal (current_drive b) o held r (length check) ≡ 0
          → SuppliedDelivers held (tape_now l) r space (result_done b (current_drive b) o held r space check)) is
          (supplied_delivers l b held r space check current same clear) good);
    }

pub reads_deliver : (calls : List Call) → ReadsDeliver (run fresh calls)
reads_deliver =
    at_transfers (λ l answer host space check. Unit) (λ l answer r space check. ResultDelivers l r space answer)
    (λ l b held host space check agrees same good. tt)
    (λ l b operation held r space check agrees. results_deliver l b operation held r space check
    (current_is l b agrees))
