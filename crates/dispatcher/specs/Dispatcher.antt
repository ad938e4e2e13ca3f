-- The dispatcher (document 02, request 8): "A dispatcher hands over the next store whenever the last has completed,
-- taking jobs in turn from the one after the last served and passing over empty queues". Its calls, over the machine's.
-- Assumes nothing.
use Rattle.std.specs.Prelude.{ℕ, Bool, not, ◌&&◌, ◌||◌, List, leb, eqb}
use Rattle.std.specs.Prelude.{Result as Step}
use Rattle.common.specs.Pick.{pick}
use Rattle.common.specs.declared.refusals.Refusal.{Refusal}
use Rattle.common.specs.Refusals.{done, state_damaged, not_idle, store_not_taken, queue_full}
use Rattle.operations.specs.declared.store.Store.{Store}
use Rattle.operations.specs.Store.{names_drive, asked_for}
use Rattle.link.specs.declared.state.Action.TheVariants.{Nothing}
use Rattle.std.specs.Prelude.{None}
use Rattle.transfers.specs.Data.{Host}
use Rattle.transfers.specs.Results.{Result}
use Rattle.controller.specs.declared.controller.Given.{Given}
use Rattle.controller.specs.declared.controller.Reply.{Reply as Replied}
use Rattle.controller.specs.Told.{Reply, Transfer}
use Rattle.controller.specs.Controller.{fresh, is_idle}
use Rattle.controller.specs.Records as records
use Rattle.controller.specs.Machine as machine
use Rattle.controller.specs.Separation.{asks_reset}
use Rattle.queues.specs.declared.jobs.Queues.{Queues}
use Rattle.queues.specs.Jobs.{Turn}
use Rattle.std.specs.Prelude.{None, Some}
use Rattle.queues.specs.Queue.{queue_limit}
use Rattle.queues.specs.Jobs.{jobs, fresh_queues, are_sound, queue_of, turn_of, queued, next_store, served}
use Rattle.dispatcher.specs.declared.dispatcher.Dispatcher.{Dispatcher}
use Rattle.dispatcher.specs.Told.{Dispatched}
use Rattle.dispatcher.specs.Told.{DispatchedTransfer, told_transfer, told_transfer_of}

-- "job 0 comes first at the start"
unfoldable pub fresh_dispatcher : Dispatcher
fresh_dispatcher = record { controller = fresh; queues = fresh_queues }

-- ---- what a call leaves

-- all as it is: refused, or nothing is done
abbrev pub unchanged : ℕ → Dispatcher → Dispatched
unchanged refusal d = record { dispatcher = d; action = Nothing; refusal = refusal; handed = None }

-- the controller's reply, beside these queues
abbrev pub with_queues : Queues → Reply → Dispatched
with_queues queues reply =
    record {
      dispatcher = record { controller = reply.controller; queues = queues };
      action = reply.action;
      refusal = reply.refusal;
      handed = reply.handed;
    }

-- a call's answer: its reply, how many bytes of the lent space it gives, and what it leaves in that space and in the
-- check store
pub record Answer : Type 0 where
  pub reply : Dispatched
  pub bytes : ℕ
  pub space : List ℕ
  pub check : List ℕ

-- of the calls that are lent space
abbrev pub unchanged_transfer : ℕ → Dispatcher → DispatchedTransfer
unchanged_transfer refusal d = record { reply = unchanged refusal d; bytes = 0 }

abbrev pub transfer_with_queues : Queues → Transfer → DispatchedTransfer
transfer_with_queues queues transfer = record { reply = with_queues queues transfer.reply; bytes = transfer.bytes }

-- the answer that this is, with what the call left in the lent space and in the check store
abbrev pub answer_with : DispatchedTransfer → List ℕ → List ℕ → Answer
answer_with t space check = record { reply = t.reply; bytes = t.bytes; space = space; check = check }

-- the answer that a call's result is
abbrev pub answered : Replied Dispatcher Given → List ℕ → List ℕ → Answer
answered r space check = answer_with (told_transfer r) space check

-- and that of a call in place, which leaves this state
abbrev pub answered_in : Dispatcher → Step Given Refusal → List ℕ → List ℕ → Answer
answered_in d result space check = answer_with (told_transfer_of d result) space check

-- the controller's answer, beside these queues
abbrev pub answer_with_queues : Queues → records.Answer → Answer
answer_with_queues queues a =
    record { reply = with_queues queues a.reply; bytes = a.bytes; space = a.space; check = a.check }

-- ---- queueing and handing

-- "Refusal 1 gains a queue's length, 0-8, and the last job served, 0-3"
unfoldable pub is_whole : Dispatcher → Bool
is_whole d = are_sound d.queues && not (machine.is_damaged d.controller)

-- "a reset store": one of operation 0
unfoldable pub is_reset_store : Store → Bool
is_reset_store store = asks_reset (asked_for store)

-- "Refused: 16 a job above 3, a store naming no drive or a reset store; 17 that job's queue holds eight; in this order,
-- after 15."
unfoldable pub queue_refusal : Dispatcher → ℕ → Store → ℕ
queue_refusal d job store =
    pick (not (is_whole d)) state_damaged
    (pick ((leb jobs job || not (names_drive store)) || is_reset_store store) store_not_taken
    (pick (leb queue_limit (queue_of d.queues job).length) queue_full done))

-- a job queues a store
unfoldable pub queue_call : Dispatcher → ℕ → Store → Dispatched
queue_call d job store =
    pick (eqb (queue_refusal d job store) done)
    (unchanged done (record { controller = d.controller; queues = queued d.queues job store }))
    (unchanged (queue_refusal d job store) d)

-- "A store handed over is carried out as if its ACK had just been taken."; "A handed-over store's place is free for its
-- job."
unfoldable pub hand_over : Dispatcher → ℕ → Dispatched
hand_over d job = with_queues (served d.queues job) (machine.hand_call d.controller (next_store d.queues job))

-- by whose turn it is; "with nothing queued it does nothing"
unfoldable pub hand_turn : Dispatcher → Turn → Dispatched
hand_turn d None = unchanged done d
hand_turn d (Some job) = hand_over d job

-- "A handing when not idle is refused as 4"
unfoldable pub hand_call : Dispatcher → Dispatched
hand_call d =
    pick (is_whole d) (pick (is_idle d.controller) (hand_turn d (turn_of d.queues)) (unchanged not_idle d))
    (unchanged state_damaged d)

-- ---- the eight calls, passed on: "A reset keeps the queues and the last job served."

-- a call that is lent nothing
unfoldable pub pass_on : Dispatcher → Reply → Dispatched
pass_on d reply = pick (are_sound d.queues) (with_queues d.queues reply) (unchanged state_damaged d)

abbrev pub byte_call : Dispatcher → ℕ → Dispatched
byte_call d byte = pass_on d (machine.byte_call d.controller byte)

abbrev pub taken_call : Dispatcher → Dispatched
taken_call d = pass_on d (machine.taken_call d.controller)

abbrev pub broken_call : Dispatcher → Dispatched
broken_call d = pass_on d (machine.broken_call d.controller)

abbrev pub report_call : Dispatcher → ℕ → ℕ → Dispatched
report_call d drive report = pass_on d (machine.report_call d.controller drive report)

abbrev pub tick_call : Dispatcher → Dispatched
tick_call d = pass_on d (machine.tick_call d.controller)

abbrev pub reset_call : Dispatcher → Dispatched
reset_call d = pass_on d (machine.reset_call d.controller)

-- and one that is
unfoldable pub passed_answer : Dispatcher → records.Answer → List ℕ → List ℕ → Answer
passed_answer d a space check =
    pick (are_sound d.queues) (answer_with_queues d.queues a)
    (answer_with (unchanged_transfer state_damaged d) space check)

abbrev pub data_call : Dispatcher → Host → List ℕ → List ℕ → Answer
data_call d host space check = passed_answer d (machine.data_call d.controller host space check) space check

abbrev pub result_call : Dispatcher → Result → List ℕ → List ℕ → Answer
result_call d r space check = passed_answer d (machine.result_call d.controller r space check) space check
