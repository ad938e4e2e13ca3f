-- An example of job order (document 02, request 13), by computing: a write on drive 0 and a guard for drive 1 complete
-- in both orders, and are the same stores.
-- Assumes nothing.
use mathlib.Core.Path.{◌≡◌, refl}
use mathlib.Core.Bool.{true, false}
use mathlib.Core.List.{List, [], ◌∷◌}
use Prim.Native.Nat.{ℕ}
use lib.ListN.{replicate}
use Rattle.common.specs.Pick.{pick}
use Rattle.common.specs.Space.{overwrite, filled}
use Rattle.blockettes.specs.Xor.{◌⊕◌, xor_all}
use Rattle.blockettes.specs.Blockettes.{blockette_at, numbered, of_parity, fold_parity, check_of}
use Rattle.marks.specs.Marks.{legal_mark, legal_marks, is_error, torn_marks}
use Rattle.marks.specs.Scan.{scan_from, scan_marks, kind_of, number_of, defect_at, is_found, findings_of, checks_alone}
use Rattle.records.specs.Count.{limit, rotated, count_bytes, unrotated, count_of}
use Rattle.records.specs.Image.{blockette_count, has_blockettes, blockettes_of, body_of, image_of, image_length}
use Rattle.records.specs.Image.{mark_count}
use Rattle.records.specs.Place.{no_place, is_place, as_came, written_bytes}
use Rattle.records.specs.Whole.{layout_refusal, whole_refusal}
use Rattle.transfers.specs.Expected.{whole_code, expected_whole, expected_supplied, expected_of, unmarked_refusal}
use Rattle.transfers.specs.Expected.{image_refusal}
use Rattle.operations.specs.Operation.{moves_tape, is_skip, is_search, takes_mark}
use Rattle.operations.specs.Decode.{control_of, read_of, decode_of, in_density}
use Rattle.operations.specs.Test.{may_move}
use Rattle.operations.specs.Answers.{forward_codes, reverse_codes, end_codes, supplied_codes, listed_codes}
use Rattle.operations.specs.Answers.{trailing_codes}
use Rattle.operations.specs.Answers.{clear_codes, is_in, answer_of}
use Rattle.operations.specs.After.{loses_tape, motion_of, gap_of, gap_after, own_retry, code_retry, retry_of}
use Rattle.status.specs.Drives.{reports, with_track, drive_of, with_drive, with_report, any_differs, copy_reports}
use Rattle.status.specs.Drives.{fresh_drives, reset_drives}
use Rattle.status.specs.Words.{bit_of, no_outcome, any_bit, primary_of, secondary_word, digits_of, tertiary_of}
use Rattle.status.specs.Words.{quintary_of}
use Rattle.status.specs.Words.{reports_word}
use Rattle.link.specs.Frames.{string_of, order_of}
use Rattle.controller.specs.declared.controller.Controller.{Controller}
use Rattle.link.specs.State.{store_of, offered, start_body, reset_state, review, idle}
use Rattle.link.specs.Completion.{primary_now, send_word, send_interrupt, complete}
use Rattle.operations.specs.Store.{asks_interrupt, names_drive, named_drive, names_unknown, selected_by, asked_for}
use Rattle.operations.specs.Store.{thrown_away, held_count, supplied_count}
use Rattle.operations.specs.Course.{test_of, course_of}
use Rattle.link.specs.Link.{whole_length, append_byte, load_xor, is_good_string, first_byte, last_byte, next_byte}
use Rattle.link.specs.Link.{yes_to_send}
use Rattle.link.specs.Link.{give_up, no_to_send, collect_byte, answer_to_send, tick_after_review, idle_tick}
use Rattle.link.specs.Loads.{load_word, carry_out_load}
use Rattle.controller.specs.Controller.{fresh, is_idle_in}
use Rattle.controller.specs.Stores.{end_with, settle, end_operation, motion_order, past_test, order_move, begin}
use Rattle.controller.specs.Stores.{follow, clear_outcome, carry_out_on, carry_out, no_to_go, yes_to_go, answer_to_go}
use Rattle.transfers.specs.Data.{host_of, check_bytes, needed_bytes, bad_byte, runs_short, data_refusal, data_words}
use Rattle.transfers.specs.Data.{settle_data}
use Rattle.transfers.specs.Results.{Result, mark_against, result_refusal, is_gone, marks_read, code_reported}
use Rattle.transfers.specs.Results.{final_code}
use Rattle.transfers.specs.Results.{reads_gcr, record_count, used_count, verdict_of, read_count, read_bytes}
use Rattle.transfers.specs.Results.{delivered_bytes}
use Rattle.transfers.specs.Results.{torn_bytes, bytes_read, fitting, result_check, result_tertiary, result_quintary}
use Rattle.transfers.specs.Results.{wrote_well, result_count, result_bits, with_retry, result_words, result_gap}
use Rattle.transfers.specs.Results.{settle_result}
use Rattle.controller.specs.Records.{data_done, result_done}
use Rattle.link.specs.Damaged.{sound_drive, sound_drives, sound_body, sound_lead, sound_part, sound_string, sound_phase}
use Rattle.link.specs.Damaged.{is_sound}
use Rattle.controller.specs.Machine.{byte_in, broken_in, tick_in, byte_call, broken_call, tick_call, carry_out_string}
use Rattle.controller.specs.Machine.{taken_in, taken_call, report_call, reset_call, data_for, result_for}
use Rattle.controller.specs.Machine.{data_in, data_call, result_in, result_call, hand_in, hand_call, Call, Exchange}
use Rattle.controller.specs.Machine.{step, run}
use Rattle.controller.specs.Machine.Call.{byte, report, host_data, result, hand}
use Rattle.controller.specs.Lists as lists
use Rattle.controller.specs.Lists.{not_refused, holds_store, brings_store, store_brought, carries_out, last_store}
use Rattle.controller.specs.Separation.{is_of, store_event, awaits_go, event_of, events_of, history_from, asks_reset}
use Rattle.controller.specs.Separation.{resets, is_reset, admits, admitted_from}
use Rattle.controller.specs.JobOrder.{stores_from, first_of, is_report, reports_fixed, without_length}
use Rattle.controller.specs.JobOrder.{without_lengths, completed_by, all_of, AllComplete, completed_stores, own_stores}
use Rattle.controller.specs.JobOrder.{SameOwnOrder, drive_after}
use Rattle.controller.proofs.OrderIsFree.{runs}
use Rattle.status.proofs.DriveLaws.{by_four}

-- a tape in drive 0 and one in drive 1
abbrev taped : Controller
taped = lists.after fresh (run fresh (report 0 0x22 ∷ report 1 0x22 ∷ []))

abbrev well_done : Result
well_done = record { code = 0; mark = false; late = 0; image = []; marks = [] }

-- a write of two bytes on drive 0, with the host's answer to EOR and what the data call's space holds
abbrev write_on_zero : ℕ → ℕ → List Call
write_on_zero answer content =
    hand (record { address = 0x58; first = 0x00; second = 0x00; third = 0x00; fourth = 0x02 })
    ∷ byte 0x06
    ∷ host_data (host_of (0x4F ∷ 0x4B ∷ []) no_place) (replicate 4 content) (replicate 512 content)
    ∷ result well_done [] (replicate 512 content)
    ∷ byte answer
    ∷ []

-- a guard for drive 1
abbrev guard_on_one : List Call
guard_on_one = hand (record { address = 0x39; first = 0x00; second = 0x00; third = 0x00; fourth = 0x0B }) ∷ []

abbrev in_one_order : List (List Exchange)
in_one_order = runs taped (write_on_zero 0x06 0 ∷ guard_on_one ∷ [])

abbrev in_the_other : List (List Exchange)
in_the_other = runs taped (guard_on_one ∷ write_on_zero 0x15 9 ∷ [])

pub record JobOrderCase : Type 0 where
  pub completed : AllComplete taped in_one_order
  pub completed_too : AllComplete taped in_the_other
  pub own_order : SameOwnOrder (completed_stores taped in_one_order) (completed_stores taped in_the_other)
  -- both drives were changed
  pub gap : (drive_after 0 taped in_the_other).gap ≡ 0
  pub guard : (drive_after 1 taped in_the_other).guard ≡ true

pub job_order_case : JobOrderCase
unfolding pick overwrite filled ◌⊕◌ xor_all blockette_at numbered of_parity fold_parity check_of legal_mark legal_marks
    is_error torn_marks scan_from scan_marks kind_of
    number_of defect_at limit rotated count_bytes unrotated count_of blockette_count has_blockettes blockettes_of
    body_of image_of image_length mark_count layout_refusal whole_refusal unmarked_refusal image_refusal control_of
    read_of decode_of in_density may_move forward_codes reverse_codes end_codes supplied_codes listed_codes
    trailing_codes clear_codes is_in answer_of loses_tape motion_of gap_of gap_after own_retry code_retry retry_of
    reports drive_of with_drive with_report any_differs copy_reports fresh_drives reset_drives bit_of no_outcome any_bit
    primary_of secondary_word digits_of tertiary_of quintary_of reports_word string_of order_of start_body fresh
    reset_state review idle primary_now send_word send_interrupt complete whole_length append_byte load_xor
    is_good_string first_byte last_byte next_byte yes_to_send give_up no_to_send asks_interrupt no_to_go yes_to_go
    collect_byte answer_to_send answer_to_go tick_after_review idle_tick load_word carry_out_load store_of names_drive
    named_drive asked_for end_with settle with_track motion_order past_test order_move begin clear_outcome names_unknown
    selected_by test_of course_of follow carry_out_on carry_out check_bytes thrown_away held_count supplied_count
    is_place as_came written_bytes needed_bytes bad_byte runs_short data_refusal data_done data_for result_for
    takes_mark is_skip is_search mark_against whole_code expected_whole expected_supplied expected_of result_refusal
    moves_tape is_gone marks_read code_reported final_code reads_gcr result_tertiary result_quintary result_check
    read_bytes fitting wrote_well result_count result_bits with_retry end_operation result_done is_found findings_of
    checks_alone data_words settle_data record_count used_count verdict_of read_count delivered_bytes torn_bytes
    bytes_read result_words result_gap settle_result sound_drive sound_drives sound_body sound_lead sound_part
    sound_string sound_phase is_sound byte_in broken_in tick_in byte_call broken_call tick_call carry_out_string
    taken_in taken_call report_call reset_call data_in data_call result_in result_call step hand_in hand_call run
    lists.after runs AllComplete completed_stores completed_by all_of own_stores stores_from first_of is_report
    reports_fixed without_length without_lengths is_idle_in not_refused holds_store brings_store store_brought
    carries_out last_store is_of store_event awaits_go event_of events_of history_from asks_reset resets is_reset admits
    admitted_from offered
job_order_case =
    record {
      completed = (
        record { one = refl; admitted = refl; fixed = refl; ends = refl },
        (record { one = refl; admitted = refl; fixed = refl; ends = refl }, tt),
      );
      completed_too = (
        record { one = refl; admitted = refl; fixed = refl; ends = refl },
        (record { one = refl; admitted = refl; fixed = refl; ends = refl }, tt),
      );
      own_order =
          by_four
          (λ d. own_stores d (completed_stores taped in_one_order)
          ≡ own_stores d (completed_stores taped in_the_other))
          refl refl refl refl;
      gap = refl;
      guard = refl;
    }
