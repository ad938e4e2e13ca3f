-- Bench cases of four jobs (document 02, request 8), as one group over the definitions, each by computing. A job's
-- stores are for the drive of its number, so that the drive selected tells which job was served.
-- Assumes nothing.
use mathlib.Core.Path.{◌≡◌, refl}
use mathlib.Core.List.{List, [], ◌∷◌, ◌++◌}
use Prim.Native.Nat.{ℕ, ◌+◌}
use lib.ListN.{replicate}
use Rattle.common.specs.Pick.{pick}
use Rattle.status.specs.Drives.{reports, with_track, drive_of, with_drive, with_report, any_differs, copy_reports}
use Rattle.status.specs.Drives.{fresh_drives, reset_drives}
use Rattle.status.specs.Words.{no_outcome}
use Rattle.operations.specs.declared.store.Store.{Store}
use Rattle.operations.specs.Operation.{moves_tape}
use Rattle.operations.specs.Decode.{control_of, read_of, decode_of, in_density}
use Rattle.operations.specs.Test.{may_move}
use Rattle.operations.specs.After.{loses_tape, motion_of, own_retry, code_retry, retry_of}
use Rattle.operations.specs.Store.{asks_interrupt, names_drive, named_drive, names_unknown, selected_by, asked_for}
use Rattle.operations.specs.Course.{test_of, course_of}
use Rattle.link.specs.declared.state.Action.{Action}
use Rattle.link.specs.declared.state.Action.TheVariants.{Nothing, Order}
use Rattle.link.specs.Frames.{order_of}
use Rattle.link.specs.State.{start_body, reset_state, review, idle}
use Rattle.link.specs.Completion.{complete}
use Rattle.link.specs.Link.{whole_length, append_byte, first_byte, next_byte, collect_byte}
use Rattle.link.specs.Damaged.{sound_drive, sound_drives, sound_body, sound_lead, sound_part, sound_string, sound_phase}
use Rattle.link.specs.Damaged.{is_sound}
use Rattle.controller.specs.Controller.{fresh, is_idle_in}
use Rattle.controller.specs.Stores.{end_with, settle, motion_order, past_test, order_move, begin, follow, clear_outcome}
use Rattle.controller.specs.Stores.{carry_out_on, carry_out}
use Rattle.controller.specs.Machine as machine
use Rattle.controller.specs.Separation.{asks_reset}
use Rattle.queues.specs.Jobs.{fresh_queues, queue_of, with_queue, are_sound, waits, turn_of, queued, next_store, served}
use Rattle.dispatcher.specs.Dispatcher.{fresh_dispatcher, is_whole, is_reset_store, queue_refusal, queue_call}
use Rattle.dispatcher.specs.Dispatcher.{hand_over}
use Rattle.dispatcher.specs.Dispatcher.{hand_turn, hand_call, passed_answer}
use Rattle.dispatcher.specs.Lists.{Call, Exchange, step, run}
use Rattle.dispatcher.specs.Lists.Call.{queue, hand, passed}

-- a job queues a store that sets this track of the drive of its number: it is completed at once
abbrev track : ℕ → ℕ → Call
track job chosen =
    queue job (record { address = 0x38 + job; first = 0; second = 0; third = 0; fourth = chosen })

abbrev reading : ℕ → Call
reading job = queue job (record { address = 0x48 + job; first = 0; second = 0; third = 0; fourth = 0 })

-- of any address
abbrev store_at : ℕ → Store
store_at address = record { address = address; first = 0; second = 0; third = 0; fourth = 0 }

-- every job queues one, the last first
abbrev round : ℕ → List Call
round chosen = track 3 chosen ∷ track 2 chosen ∷ track 1 chosen ∷ track 0 chosen ∷ []

abbrev handings : ℕ → List Call
handings n = replicate n hand

-- a number at each handing
abbrev at_hand : Call → ℕ → List ℕ → List ℕ
at_hand hand n others = n ∷ others
at_hand (queue job store) n others = others
at_hand (passed call) n others = others

-- the drives that are selected after each handing of a list, and the tracks of drive 0 then
abbrev selections : List Exchange → List ℕ
selections [] = []
selections (x ∷ xs) = at_hand x.call x.answer.reply.dispatcher.controller.body.selected (selections xs)

abbrev tracks : List Exchange → List ℕ
tracks [] = []
tracks (x ∷ xs) = at_hand x.call x.answer.reply.dispatcher.controller.body.drives.zero.track (tracks xs)

-- all refusals
abbrev refusals : List Exchange → List ℕ
refusals [] = []
refusals (x ∷ xs) = x.answer.reply.refusal ∷ refusals xs

-- the last action
abbrev last_action : Action → List Exchange → Action
last_action last [] = last
last_action last (x ∷ xs) = last_action x.answer.reply.action xs

abbrev played : List Call → List Exchange
played = run fresh_dispatcher

pub record BenchCases : Type 0 where
  -- "job 0 comes first at the start", and then the jobs in turn
  pub in_turn_lem : selections (played (round 1 ++ round 2 ++ handings 8)) ≡ 0 ∷ 1 ∷ 2 ∷ 3 ∷ 0 ∷ 1 ∷ 2 ∷ 3 ∷ []
  -- "passing over empty queues"
  pub passed_over : selections (played (track 3 1 ∷ track 1 1 ∷ track 3 2 ∷ track 1 2 ∷ handings 4))
      ≡ 1 ∷ 3 ∷ 1 ∷ 3 ∷ []
  -- "from the one after the last served"
  pub after_last : selections (played (track 2 1 ∷ hand ∷ round 1 ++ handings 4)) ≡ 2 ∷ 3 ∷ 0 ∷ 1 ∷ 2 ∷ []
  -- a job's stores in the order in which they were queued
  pub in_order : tracks (played (track 0 2 ∷ track 0 1 ∷ track 0 3 ∷ handings 3)) ≡ 2 ∷ 1 ∷ 3 ∷ []
  -- "up to eight stores"; "17 that job's queue holds eight"; "A handed-over store's place is free for its job."
  pub ninth : refusals (played (replicate 9 (track 0 1) ++ hand ∷ track 0 1 ∷ track 0 1 ∷ []))
      ≡ replicate 8 0 ++ 17 ∷ 0 ∷ 0 ∷ 17 ∷ []
  -- another job's queue has room
  pub another : refusals (played (replicate 8 (track 0 1) ++ track 1 1 ∷ [])) ≡ replicate 9 0
  -- "A reset keeps the queues and the last job served."
  pub kept : selections (played (round 1 ++ handings 2 ++ track 1 2 ∷ passed machine.reset ∷ handings 3))
      ≡ 0 ∷ 1 ∷ 2 ∷ 3 ∷ 1 ∷ []
  -- "16 a job above 3, a store naming no drive or a reset store"
  pub not_taken :
      refusals (played (track 4 1 ∷ queue 0 (store_at 0x31) ∷ queue 0 (store_at 0x08) ∷ [])) ≡ 16 ∷ 16 ∷ 16 ∷ []
  -- "A handing when not idle is refused as 4; with nothing queued it does nothing."
  pub busy :
      refusals (played (hand ∷ track 0 1 ∷ passed (machine.byte 0x64) ∷ hand ∷ passed machine.broken ∷ hand ∷ []))
      ≡ 0 ∷ 0 ∷ 0 ∷ 4 ∷ 0 ∷ 0 ∷ []
  -- a read of drive 1, carried out as if its ACK had just been taken: the order, and the next handing is refused
  pub ordered : last_action Nothing (played (passed (machine.report 1 0x22) ∷ reading 1 ∷ hand ∷ []))
      ≡ Order (record { b0 = 0x40; b1 = 1; b2 = 0; b3 = 0; b4 = 0; b5 = 0 })
  pub awaited : refusals (played (passed (machine.report 1 0x22) ∷ reading 1 ∷ track 2 1 ∷ hand ∷ hand ∷ []))
      ≡ 0 ∷ 0 ∷ 0 ∷ 0 ∷ 4 ∷ []

pub bench_cases : BenchCases
unfolding pick reports with_track drive_of with_drive with_report any_differs copy_reports fresh_drives reset_drives
    no_outcome moves_tape control_of read_of decode_of in_density may_move loses_tape motion_of own_retry code_retry
    retry_of asks_interrupt names_drive named_drive names_unknown selected_by asked_for test_of course_of order_of
    start_body reset_state review idle complete whole_length append_byte first_byte next_byte collect_byte sound_drive
    sound_drives sound_body sound_lead sound_part sound_string sound_phase is_sound fresh is_idle_in end_with settle
    motion_order past_test order_move begin follow clear_outcome carry_out_on carry_out machine.byte_in
    machine.broken_in machine.byte_call machine.broken_call machine.report_call machine.reset_call machine.hand_in
    machine.hand_call machine.step asks_reset fresh_queues queue_of with_queue are_sound waits turn_of queued next_store
    served fresh_dispatcher is_whole is_reset_store queue_refusal queue_call hand_over hand_turn hand_call passed_answer
    step run
bench_cases =
    record {
      in_turn_lem = refl;
      passed_over = refl;
      after_last = refl;
      in_order = refl;
      ninth = refl;
      another = refl;
      kept = refl;
      not_taken = refl;
      busy = refl;
      ordered = refl;
      awaited = refl;
    }
