-- The functions for C: each is the dispatcher's own call on the state that its bytes hold.
-- Assumes nothing.
use Rattle.std.specs.Prelude.{ℕ, Bool, not, List, [], Result as Outcome, Ok, Err, eqb}
use Rattle.common.specs.declared.refusals.Refusal.{Refusal}
use Rattle.common.specs.Pick.{pick}
use Rattle.common.specs.Told.{number_of}
use Rattle.common.specs.Refusals.{done, state_damaged}
use Rattle.operations.specs.declared.store.Store.{Store}
use Rattle.transfers.specs.Data.{Host}
use Rattle.transfers.specs.Results.{Result}
use Rattle.controller.specs.declared.controller.Controller.{Controller}
use Rattle.controller.specs.declared.controller.Answer.{Answer as Told}
use Rattle.controller.specs.declared.controller.Given.{Given}
use Rattle.controller.specs.Told.{Reply, told_transfer_of}
use Rattle.controller.specs.Machine as machine
use Rattle.dispatcher.specs.Told.{Dispatched}
use Rattle.dispatcher.specs.Dispatcher.{Answer, fresh_dispatcher, with_queues}
use Rattle.dispatcher.specs.Lists.{Call, step}
use Rattle.dispatcher.specs.Lists.Call.{queue, hand, passed}
use Rattle.dispatcher.specs.Refused.{lent_space, lent_check}
use Rattle.layout.specs.Reading.{queues_of, state_of, is_state}
use Rattle.layout.specs.Writing.{state_bytes}
use Rattle.layout.specs.Answers.{answer_bytes}

-- ---- what a call leaves

-- its refusal or 0, the state's bytes and the answer's
pub record Ended : Type 0 where
  pub refusal : ℕ
  pub state : List ℕ
  pub answer : List ℕ

abbrev pub ended : ℕ → List ℕ → List ℕ → Ended
ended refusal state answer = record { refusal = refusal; state = state; answer = answer }

-- and the lent space and the check store
pub record Left : Type 0 where
  pub ended : Ended
  pub space : List ℕ
  pub check : List ℕ

abbrev pub left : Ended → List ℕ → List ℕ → Left
left e space check = record { ended = e; space = space; check = check }

-- of a call that is lent nothing
abbrev pub plainly : ℕ → List ℕ → List ℕ → Left
plainly refusal state answer = left (ended refusal state answer) [] []

-- ---- a call

-- a refused call leaves state and answer as they were; any other leaves the next state and its answer, with how many
-- bytes are given
unfoldable pub end_call : Dispatched → ℕ → List ℕ → List ℕ → Ended
end_call reply given state answer =
    pick (eqb reply.refusal done)
    (ended done (state_bytes reply.dispatcher) (answer_bytes reply.action reply.handed given))
    (ended reply.refusal state answer)

-- of a call that is passed on, by the controller's own reply: the queues stay as they stand in the state's bytes
abbrev pub end_passed : Reply → ℕ → List ℕ → List ℕ → Ended
end_passed reply given state answer = end_call (with_queues (queues_of state) reply) given state answer

-- by what the program hands back, with the bytes of its next state
abbrev pub end_stored : List ℕ → Outcome Given Refusal → List ℕ → List ℕ → Ended
end_stored next (Ok g) state answer = ended done next (answer_bytes g.answer.action g.answer.handed g.bytes)
end_stored next (Err e) state answer = ended (number_of e) state answer

-- and of a call that is passed on
abbrev pub end_given : Controller → Outcome Given Refusal → List ℕ → List ℕ → Ended
end_given c a state answer =
    let t = told_transfer_of c a in
    end_passed t.reply t.bytes state answer

-- the answer of a call that is lent no space: it gives no bytes of any
abbrev pub giving_none : Outcome Told Refusal → Outcome Given Refusal
giving_none (Ok a) = Ok (record { answer = a; bytes = 0 })
giving_none (Err e) = Err e

-- what the dispatcher's answer leaves
abbrev pub left_by : Answer → List ℕ → List ℕ → Left
left_by a state answer = left (end_call a.reply a.bytes state answer) a.space a.check

-- the dispatcher's call on the state that the bytes hold; bytes that are no state's are refused as 1, and then nothing
-- is changed
unfoldable pub called : Call → List ℕ → List ℕ → Left
called call state answer =
    pick (is_state state) (left_by (step (state_of state) call) state answer)
    (left (ended state_damaged state answer) (lent_space call) (lent_check call))

-- ---- the functions

-- the bytes of a fresh state
unfoldable pub ctc_fresh : List ℕ
ctc_fresh = state_bytes fresh_dispatcher

abbrev pub ctc_byte : ℕ → List ℕ → List ℕ → Left
ctc_byte byte = called (passed (machine.byte byte))

abbrev pub ctc_taken : List ℕ → List ℕ → Left
ctc_taken = called (passed machine.taken)

abbrev pub ctc_broken : List ℕ → List ℕ → Left
ctc_broken = called (passed machine.broken)

abbrev pub ctc_report : ℕ → ℕ → List ℕ → List ℕ → Left
ctc_report drive report = called (passed (machine.report drive report))

abbrev pub ctc_data : Host → List ℕ → List ℕ → List ℕ → List ℕ → Left
ctc_data host space check = called (passed (machine.host_data host space check))

abbrev pub ctc_result : Result → List ℕ → List ℕ → List ℕ → List ℕ → Left
ctc_result r space check = called (passed (machine.result r space check))

-- a flag from C: any value but 0 is set
abbrev pub is_set : ℕ → Bool
is_set flag = not (eqb flag 0)

abbrev pub ctc_tick : List ℕ → List ℕ → Left
ctc_tick = called (passed machine.tick)

abbrev pub ctc_reset : List ℕ → List ℕ → Left
ctc_reset = called (passed machine.reset)

-- a store of these bytes
abbrev pub store_of : ℕ → ℕ → ℕ → ℕ → ℕ → Store
store_of address first second third fourth =
    record { address = address; first = first; second = second; third = third; fourth = fourth }

abbrev pub ctc_queue : ℕ → Store → List ℕ → List ℕ → Left
ctc_queue job store = called (queue job store)

abbrev pub ctc_hand : List ℕ → List ℕ → Left
ctc_hand = called hand
