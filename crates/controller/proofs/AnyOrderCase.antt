-- An example of transactions in any order, by computing: a transaction with a tick before it that sends an interrupt in
-- one order alone.
-- Assumes nothing.
use mathlib.Core.Path.{◌≡◌, refl}
use mathlib.Core.Bool.{true, false}
use mathlib.Core.List.{List, [], ◌∷◌}
use Prim.Native.Nat.{ℕ, zero, suc}
use native.Mathlib.Omega.{arith}
use lib.Dec.{eqb}
use borrow.Author.Tests.{ne_eqb}
use lib.ListN.{replicate}
use Rattle.common.specs.Pick.{pick}
use Rattle.common.specs.Space.{overwrite, filled}
use Rattle.blockettes.specs.Xor.{◌⊕◌, xor_all}
use Rattle.blockettes.specs.Blockettes.{blockette_at, numbered, of_parity, fold_parity, check_of}
use Rattle.marks.specs.Marks.{legal_mark, legal_marks, is_error, torn_marks}
use Rattle.marks.specs.Scan.{scan_from, scan_marks, kind_of, number_of, defect_at, is_found, findings_of, checks_alone}
use Rattle.records.specs.Count.{limit, rotated, count_bytes, unrotated, count_of}
use Rattle.records.specs.Image.{blockette_count, has_blockettes, blockettes_of, body_of, image_of, image_length}
use Rattle.records.specs.Image.{mark_count}
use Rattle.records.specs.Place.{no_place, is_place, as_came, written_bytes}
use Rattle.records.specs.Whole.{layout_refusal, whole_refusal}
use Rattle.transfers.specs.Expected.{whole_code, expected_whole, expected_supplied, expected_of, unmarked_refusal}
use Rattle.transfers.specs.Expected.{image_refusal}
use Rattle.operations.specs.Operation.{moves_tape, is_skip, is_search, takes_mark}
use Rattle.operations.specs.Decode.{control_of, read_of, decode_of, in_density}
use Rattle.operations.specs.Test.{may_move}
use Rattle.operations.specs.Answers.{forward_codes, reverse_codes, end_codes, supplied_codes, listed_codes}
use Rattle.operations.specs.Answers.{trailing_codes}
use Rattle.operations.specs.Answers.{clear_codes, is_in, answer_of}
use Rattle.operations.specs.After.{loses_tape, motion_of, gap_of, gap_after, own_retry, code_retry, retry_of}
use Rattle.status.specs.Drives.{reports, with_track, drive_of, with_drive, with_report, any_differs, copy_reports}
use Rattle.status.specs.Drives.{fresh_drives, reset_drives}
use Rattle.status.specs.Words.{bit_of, no_outcome, any_bit, primary_of, secondary_word, digits_of, tertiary_of}
use Rattle.status.specs.Words.{quintary_of}
use Rattle.status.specs.Words.{reports_word}
use Rattle.link.specs.Frames.{string_of, order_of}
use Rattle.controller.specs.declared.controller.Controller.{Controller}
use Rattle.link.specs.State.{store_of, offered, start_body, reset_state, review, idle}
use Rattle.link.specs.Completion.{primary_now, send_word, send_interrupt, complete}
use Rattle.operations.specs.declared.store.Store.{Store}
use Rattle.operations.specs.Store.{asks_interrupt, names_drive, named_drive, names_unknown, selected_by, asked_for}
use Rattle.operations.specs.Store.{thrown_away, held_count, supplied_count}
use Rattle.operations.specs.Course.{test_of, course_of}
use Rattle.link.specs.Link.{whole_length, append_byte, load_xor, is_good_string, first_byte, last_byte, next_byte}
use Rattle.link.specs.Link.{yes_to_send}
use Rattle.link.specs.Link.{give_up, no_to_send, collect_byte, answer_to_send, tick_after_review, idle_tick}
use Rattle.link.specs.Loads.{load_word, carry_out_load}
use Rattle.controller.specs.Controller.{fresh, is_idle_in, is_idle}
use Rattle.controller.specs.Stores.{end_with, settle, end_operation, motion_order, past_test, order_move, begin}
use Rattle.controller.specs.Stores.{follow, clear_outcome, carry_out_on, carry_out, no_to_go, yes_to_go, answer_to_go}
use Rattle.transfers.specs.Data.{host_of, check_bytes, needed_bytes, bad_byte, runs_short, data_refusal, data_words}
use Rattle.transfers.specs.Data.{settle_data}
use Rattle.transfers.specs.Results.{mark_against, result_refusal, is_gone, marks_read, code_reported, final_code}
use Rattle.transfers.specs.Results.{reads_gcr}
use Rattle.transfers.specs.Results.{record_count, used_count, verdict_of, read_count, read_bytes, delivered_bytes}
use Rattle.transfers.specs.Results.{torn_bytes}
use Rattle.transfers.specs.Results.{bytes_read, fitting, result_check, result_tertiary, result_quintary, wrote_well}
use Rattle.transfers.specs.Results.{result_count, result_bits, with_retry, result_words, result_gap, settle_result}
use Rattle.controller.specs.Records.{data_done, result_done}
use Rattle.link.specs.Damaged.{sound_drive, sound_drives, sound_body, sound_lead, sound_part, sound_string, sound_phase}
use Rattle.link.specs.Damaged.{is_sound}
use Rattle.controller.specs.Machine.{byte_in, broken_in, tick_in, byte_call, broken_call, tick_call, carry_out_string}
use Rattle.controller.specs.Machine.{taken_in, taken_call, report_call, reset_call, data_for, result_for, data_in}
use Rattle.controller.specs.Machine.{data_call, result_in, result_call, hand_in, hand_call, Call, step, run}
use Rattle.controller.specs.Machine.Call.{report, tick, hand}
use Rattle.controller.specs.Lists as lists
use Rattle.controller.specs.Lists.{not_refused, holds_store, brings_store, store_brought, carries_out, last_store}
use Rattle.controller.specs.Separation.{is_of, store_event, awaits_go, event_of, events_of, history_from, asks_reset}
use Rattle.controller.specs.Separation.{resets, is_reset, admits, admitted_from}
use Rattle.controller.specs.JobOrder.{stores_from, first_of, is_report, reports_fixed}
use Rattle.controller.specs.AnyOrder.{is_own, all_own, Sound, SameInOrder}
use Rattle.controller.specs.Scripts.{Script, answer_in, play, pause, Scheduled, entries_of, AllScriptsDone}
use Rattle.controller.specs.Scripts.{own_scripts}
use Rattle.controller.proofs.TicksRest.{scripts_in_any_order}

-- a tape in drive 0 and one in drive 1
abbrev pub taped : Controller
taped = lists.after fresh (run fresh (report 0 0x22 ∷ report 1 0x22 ∷ []))

-- with a yes to GO, two bytes of data and a good result, where it asks for them
abbrev script_of : Store → Script
script_of store =
    record {
      store = store;
      go = 0x06;
      host = host_of (0x4F ∷ 0x4B ∷ []) no_place;
      image_space = replicate 4 0;
      data_check = replicate 512 0;
      result = record { code = 0; mark = false; late = 0; image = []; marks = [] };
      host_space = [];
      result_check = replicate 512 0;
    }

abbrev pub alone : ℕ → ℕ → Script
alone address value =
    script_of (record { address = address; first = 0x00; second = 0x00; third = 0x00; fourth = value })

-- enable is set by a store for drive 0, a guard by one for drive 1, and two bytes are written on drive 0
abbrev pub enable_on_zero : Script
enable_on_zero = alone 0x38 0x09

abbrev pub guard_on_one : Script
guard_on_one = alone 0x39 0x0B

abbrev pub write_on_zero : Script
write_on_zero = alone 0xD8 0x02

-- with a tick before it, or without
abbrev ticked : Script → Scheduled
ticked script = record { ticks = true; script = script }

abbrev unticked : Script → Scheduled
unticked script = record { ticks = false; script = script }

-- the tick before the guard sends an interrupt if it comes behind the enable, and only then
abbrev pub in_one_order : List Scheduled
in_one_order = ticked guard_on_one ∷ unticked enable_on_zero ∷ unticked write_on_zero ∷ []

abbrev in_the_other : List Scheduled
in_the_other = unticked enable_on_zero ∷ ticked guard_on_one ∷ unticked write_on_zero ∷ []

-- how a call is refused behind others
abbrev refusal_after : List Call → Call → ℕ
refusal_after calls call = (step (lists.after taped (run taped calls)) call).reply.refusal

pub record AnyOrderCase : Type 0 where
  pub done : AllScriptsDone taped in_one_order
  pub idle : is_idle taped ≡ true
  pub sound : Sound taped
  -- without the host's answer to the interrupt the guard's store is refused with 4: so a tick may not stand among a
  -- transaction's calls, and a call of a store may be refused in one order alone
  pub refused : refusal_after (hand enable_on_zero.store ∷ tick ∷ []) (hand guard_on_one.store) ≡ 4
  -- in the other order, with the same tick, it is not
  pub not_refused_lem : refusal_after (tick ∷ []) (hand guard_on_one.store) ≡ 0

pub any_order_case : AnyOrderCase
unfolding pick overwrite filled ◌⊕◌ xor_all blockette_at numbered of_parity fold_parity check_of legal_mark legal_marks
    is_error torn_marks scan_from scan_marks kind_of number_of defect_at limit rotated count_bytes unrotated count_of
    blockette_count has_blockettes blockettes_of body_of image_of image_length mark_count layout_refusal whole_refusal
    unmarked_refusal image_refusal control_of read_of decode_of in_density may_move forward_codes reverse_codes
    end_codes supplied_codes listed_codes trailing_codes clear_codes is_in answer_of loses_tape motion_of gap_of
    gap_after own_retry code_retry retry_of reports drive_of with_drive with_report any_differs copy_reports
    fresh_drives reset_drives bit_of no_outcome any_bit primary_of secondary_word digits_of tertiary_of quintary_of
    reports_word string_of order_of start_body fresh reset_state review idle primary_now send_word send_interrupt
    complete whole_length append_byte load_xor is_good_string first_byte last_byte next_byte yes_to_send give_up
    no_to_send asks_interrupt no_to_go yes_to_go collect_byte answer_to_send answer_to_go tick_after_review idle_tick
    load_word carry_out_load store_of names_drive named_drive asked_for end_with settle with_track motion_order
    past_test order_move begin clear_outcome names_unknown selected_by test_of course_of follow carry_out_on carry_out
    check_bytes thrown_away held_count supplied_count is_place as_came written_bytes needed_bytes bad_byte runs_short
    data_refusal data_done data_for result_for takes_mark is_skip is_search mark_against whole_code expected_whole
    expected_supplied expected_of result_refusal moves_tape is_gone marks_read code_reported final_code reads_gcr
    result_tertiary result_quintary result_check read_bytes fitting wrote_well result_count result_bits with_retry
    end_operation result_done is_found findings_of checks_alone data_words settle_data record_count used_count
    verdict_of read_count delivered_bytes torn_bytes bytes_read result_words result_gap settle_result sound_drive
    sound_drives sound_body sound_lead sound_part sound_string sound_phase is_sound byte_in broken_in tick_in byte_call
    broken_call tick_call carry_out_string taken_in taken_call report_call reset_call data_in data_call result_in
    result_call step hand_in hand_call run lists.after stores_from first_of is_report reports_fixed is_idle_in
    not_refused holds_store brings_store store_brought carries_out last_store is_of store_event awaits_go event_of
    events_of history_from asks_reset resets is_reset admits admitted_from offered is_own all_own answer_in play pause
    AllScriptsDone
any_order_case =
    record {
      done = (
        record { names = refl; keeps = refl },
        (
          record {
            own = refl;
            completes = record { one = refl; admitted = refl; fixed = refl; ends = refl };
            names = refl;
            sound = refl;
          },
          (
            record { names = refl; keeps = refl },
            (
              record {
                own = refl;
                completes = record { one = refl; admitted = refl; fixed = refl; ends = refl };
                names = refl;
                sound = refl;
              },
              (
                record { names = refl; keeps = refl },
                (
                  record {
                    own = refl;
                    completes = record { one = refl; admitted = refl; fixed = refl; ends = refl };
                    names = refl;
                    sound = refl;
                  },
                  tt,
                ),
              ),
            ),
          ),
        ),
      );
      idle = refl;
      sound = refl;
      refused = refl;
      not_refused_lem = refl;
    }

own_order : (d : ℕ) → own_scripts d in_one_order ≡ own_scripts d in_the_other
unfolding own_scripts named_drive pick
own_order zero = refl
own_order (suc zero) = refl
own_order (suc (suc d)) =
    let zeroth : eqb 0 (suc (suc d)) ≡ false = ne_eqb 0 (suc (suc d)) (λ e. omega arith) in
    let first : eqb 1 (suc (suc d)) ≡ false = ne_eqb 1 (suc (suc d)) (λ e. omega arith) in
    rw (zeroth, first)

-- so they are done in the other order too
pub done_in_the_other : SameInOrder taped (entries_of in_one_order) (entries_of in_the_other)
done_in_the_other =
    scripts_in_any_order taped in_one_order in_the_other any_order_case.idle any_order_case.sound
    any_order_case.done own_order
