-- The claim of reads speaks of something: a read of five bytes in MFM, from a fresh controller, is of its kind, and so
-- delivers them (`five_bytes_are_read`).
-- Assumes nothing.
use mathlib.Core.Path.{refl}
use Prim.Native.Nat.{ℕ}
use native.Mathlib.Omega.{arith}
use mathlib.Core.Bool.{false}
use mathlib.Core.List.{List, [], ◌∷◌}
use lib.ListN.{replicate}
use Rattle.common.specs.Pick.{pick}
use Rattle.marks.specs.Marks.{legal_marks}
use Rattle.records.specs.Count.{unrotated, count_of}
use Rattle.records.specs.Image.{has_blockettes, image_length, mark_count}
use Rattle.records.specs.Whole.{layout_refusal, whole_refusal}
use Rattle.status.specs.Drives.{reports, drive_of, with_drive, with_report, fresh_drives}
use Rattle.status.specs.Words.{no_outcome}
use Rattle.operations.specs.declared.store.Store.{Store}
use Rattle.operations.specs.Operation.{is_search, takes_mark}
use Rattle.operations.specs.Decode.{read_of, decode_of, in_density}
use Rattle.operations.specs.Test.{may_move}
use Rattle.operations.specs.Answers.{forward_codes, end_codes, listed_codes, trailing_codes, clear_codes, is_in}
use Rattle.operations.specs.Answers.{answer_of}
use Rattle.operations.specs.Store.{names_drive, named_drive, names_unknown, selected_by, asked_for}
use Rattle.operations.specs.Course.{test_of, course_of}
use Rattle.link.specs.State.{start_body}
use Rattle.link.specs.Damaged.{sound_drive, sound_drives, sound_body, sound_part, sound_phase, is_sound}
use Rattle.transfers.specs.Expected.{whole_code, expected_whole, expected_of, image_refusal}
use Rattle.transfers.specs.Results.{mark_against, result_refusal}
use Rattle.controller.specs.declared.controller.Controller.{Controller}
use Rattle.controller.specs.Controller.{fresh}
use Rattle.controller.specs.Stores.{past_test, order_move, begin, follow, clear_outcome, carry_out_on, carry_out}
use Rattle.controller.specs.Records.{result_done}
use Rattle.controller.specs.Machine.{hand_in, hand_call, report_call, result_for, result_in, result_call, Call, step}
use Rattle.controller.specs.Machine.{run}
use Rattle.controller.specs.Machine.Call.{report, result, hand}
use Rattle.controller.specs.Lists.{not_refused}
use Rattle.controller.specs.Ledger.{entered}
use Rattle.controller.specs.Ledger.{tape_reported, tape_stored, ledger_stored, ledger_carried, ledger_call}
use Rattle.controller.specs.Ledger.{ledger_after}
use Rattle.controller.specs.Ledger.{EachFrom}
use Rattle.controller.specs.OnTape.{count_on_tape, body_on_tape, image_on_tape}
use Rattle.controller.specs.Delivered.{Delivered}
use Rattle.controller.proofs.ReadsDeliver.{reads_deliver}

abbrev five : List ℕ
five = 1 ∷ 2 ∷ 3 ∷ 4 ∷ 5 ∷ []

-- a read on drive 0, and its result
abbrev store : Store
store = record { address = 0x48; first = 0; second = 0; third = 0; fourth = 0 }

abbrev its : Call
its =
    result (record { code = 0; mark = false; late = 0; image = 0x80 ∷ 0x02 ∷ five; marks = [] }) (replicate 7 9)
    (replicate 512 0)

abbrev calls : List Call
calls = report 0 0x22 ∷ hand store ∷ its ∷ []

-- the state that awaits it
abbrev awaiting : Controller
awaiting = (step (step fresh (report 0 0x22)).reply.controller (hand store)).reply.controller

pub five_bytes_are_read : Delivered five (replicate 7 9) 5 0 (step awaiting its)
unfolding pick legal_marks unrotated count_of has_blockettes image_length mark_count layout_refusal whole_refusal
    reports drive_of with_drive with_report fresh_drives no_outcome is_search takes_mark read_of decode_of in_density
    may_move forward_codes end_codes listed_codes trailing_codes clear_codes is_in answer_of names_drive named_drive
    names_unknown selected_by asked_for test_of course_of start_body sound_drive sound_drives sound_body sound_part
    sound_phase is_sound whole_code expected_whole expected_of image_refusal mark_against result_refusal fresh past_test
    order_move begin follow clear_outcome carry_out_on carry_out result_done hand_in hand_call report_call result_for
    result_in result_call step run not_refused entered tape_reported tape_stored ledger_stored ledger_carried
    ledger_call ledger_after EachFrom count_on_tape body_on_tape image_on_tape
five_bytes_are_read =
    (((reads_deliver calls).1.1.0 refl).read refl refl).held refl five (omega arith) refl
    (λ place bad. omega (arith, bad.0))
