-- An example of job order among drives (document 02, request 13), by computing: two dispatchers whose jobs queue the
-- same stores of drives 0 and 1, one the other way about; what they send completes these stores, in either order.
-- Assumes nothing.
use mathlib.Core.Path.{◌≡◌, refl}
use mathlib.Core.List.{List, [], ◌∷◌}
use Rattle.common.specs.Pick.{pick}
use Rattle.status.specs.Drives.{reports, with_track, drive_of, with_drive, any_differs, copy_reports, fresh_drives}
use Rattle.status.specs.Words.{no_outcome}
use Rattle.status.proofs.DriveLaws.{by_four}
use Rattle.operations.specs.declared.store.Store.{Store}
use Rattle.operations.specs.Decode.{control_of, decode_of, in_density}
use Rattle.operations.specs.Store.{asks_interrupt, names_drive, named_drive, names_unknown, selected_by, asked_for}
use Rattle.operations.specs.Course.{test_of, course_of}
use Rattle.link.specs.State.{start_body, review, idle}
use Rattle.link.specs.Completion.{complete}
use Rattle.link.specs.Damaged.{sound_drive, sound_drives, sound_body, sound_part, sound_phase, is_sound}
use Rattle.controller.specs.Controller.{fresh, is_idle_in}
use Rattle.controller.specs.Stores.{end_with, settle, follow, clear_outcome, carry_out_on, carry_out}
use Rattle.controller.specs.Machine as machine
use Rattle.controller.specs.Lists as lists
use Rattle.controller.specs.Separation.{is_of, store_event, event_of, events_of, history_from, asks_reset, resets}
use Rattle.controller.specs.Separation.{is_reset}
use Rattle.controller.specs.Separation.{admits, admitted_from}
use Rattle.controller.specs.JobOrder.{stores_from, first_of, is_report, reports_fixed, without_length, without_lengths}
use Rattle.controller.specs.JobOrder.{completed_by, all_of, AllComplete, completed_stores, own_stores, SameOwnOrder}
use Rattle.controller.specs.Ledger.{entered}
use Rattle.controller.proofs.OrderIsFree.{runs}
use Rattle.queues.specs.Jobs.{fresh_queues, queue_of, with_queue, are_sound, waits, turn_of, queued, next_store, served}
use Rattle.dispatcher.specs.Dispatcher.{fresh_dispatcher, is_whole, is_reset_store, queue_refusal, queue_call}
use Rattle.dispatcher.specs.Dispatcher.{hand_over}
use Rattle.dispatcher.specs.Dispatcher.{hand_turn, hand_call}
use Rattle.dispatcher.specs.Lists.{Exchange, step, run, after, not_refused}
use Rattle.dispatcher.specs.Lists.Call.{queue, hand}
use Rattle.dispatcher.specs.JobLedger as ledger
use Rattle.dispatcher.specs.JobLedger.{fresh_ledger}
use Rattle.dispatcher.specs.Separation.{sent_at, sent_by, sent_from}
use Rattle.dispatcher.specs.JobOrder.{Completes, drive_left}

-- track 1 of drive 0, and track 2 of drive 1
abbrev on_zero : Store
on_zero = record { address = 0x38; first = 0; second = 0; third = 0; fourth = 1 }

abbrev on_one : Store
on_one = record { address = 0x39; first = 0; second = 0; third = 0; fourth = 2 }

-- jobs 0 and 1 queue one each, and both are handed over
abbrev jobs_of : Store → Store → List Exchange
jobs_of first second = run fresh_dispatcher (queue 0 first ∷ queue 1 second ∷ hand ∷ hand ∷ [])

-- the controller's own stores, each completed at once
abbrev stores_of : Store → Store → List (List machine.Exchange)
stores_of first second = runs fresh ((machine.hand first ∷ []) ∷ (machine.hand second ∷ []) ∷ [])

pub record JobOrderCase : Type 0 where
  pub completed : Completes fresh_ledger fresh_dispatcher (jobs_of on_zero on_one) (stores_of on_zero on_one)
  pub completed_too : Completes fresh_ledger fresh_dispatcher (jobs_of on_one on_zero) (stores_of on_one on_zero)
  pub own_order :
      SameOwnOrder (completed_stores fresh (stores_of on_zero on_one))
      (completed_stores fresh (stores_of on_one on_zero))
  -- both drives were changed
  pub zero : (drive_left 0 fresh_dispatcher (jobs_of on_one on_zero)).track ≡ 1
  pub one : (drive_left 1 fresh_dispatcher (jobs_of on_one on_zero)).track ≡ 2

pub job_order_case : JobOrderCase
unfolding pick reports with_track drive_of with_drive any_differs copy_reports fresh_drives no_outcome control_of
    decode_of in_density asks_interrupt names_drive named_drive names_unknown selected_by asked_for test_of course_of
    start_body review idle complete sound_drive sound_drives sound_body sound_part sound_phase is_sound fresh is_idle_in
    end_with settle follow clear_outcome carry_out_on carry_out machine.hand_in machine.hand_call machine.step
    machine.run lists.after lists.not_refused lists.brings_store lists.store_brought lists.carries_out lists.last_store
    is_of store_event event_of events_of history_from asks_reset resets is_reset admits admitted_from stores_from
    first_of is_report reports_fixed without_length without_lengths completed_by all_of AllComplete completed_stores
    own_stores entered runs fresh_queues queue_of with_queue are_sound waits turn_of queued next_store served
    fresh_dispatcher is_whole is_reset_store queue_refusal queue_call hand_over hand_turn hand_call step run after
    not_refused ledger.first_waiting ledger.first_of ledger.ledger_served ledger.ledger_call ledger.ledger_after sent_at
    sent_by sent_from
job_order_case =
    record {
      completed =
          record {
            sends = refl;
            all = (
              record { one = refl; admitted = refl; fixed = refl; ends = refl },
              (record { one = refl; admitted = refl; fixed = refl; ends = refl }, tt),
            );
          };
      completed_too =
          record {
            sends = refl;
            all = (
              record { one = refl; admitted = refl; fixed = refl; ends = refl },
              (record { one = refl; admitted = refl; fixed = refl; ends = refl }, tt),
            );
          };
      own_order =
          by_four (λ d. own_stores d (completed_stores fresh (stores_of on_zero on_one))
          ≡ own_stores d (completed_stores fresh (stores_of on_one on_zero)))
          refl refl refl refl;
      zero = refl;
      one = refl;
    }
