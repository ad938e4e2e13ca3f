-- Lists of the dispatcher's calls: one step of it, a run, and the calls that reach its controller.
-- Assumes nothing.
use Rattle.std.specs.Prelude.{ℕ, ◌-◌, Bool, List, [], ◌∷◌, ◌++◌, eqb, length, take}
use Rattle.common.specs.Pick.{pick}
use Rattle.operations.specs.declared.store.Store.{Store}
use Rattle.controller.specs.Machine as machine
use Rattle.controller.specs.Refused.{lent_space, lent_check}
use Rattle.queues.specs.Queue.{waiting_in}
use Rattle.queues.specs.Jobs.{queue_of}
use Rattle.dispatcher.specs.declared.dispatcher.Dispatcher.{Dispatcher}
use Rattle.dispatcher.specs.Told.{Dispatched}
use Rattle.dispatcher.specs.Dispatcher.{Answer, queue_call, hand_call, passed_answer}

-- a call with all its inputs: a job queues a store, a handing, or a call of the controller that is passed on
pub data Call : Type 0 where
  queue : ℕ → Store → Call
  hand : Call
  passed : machine.Call → Call

-- an answer of a call that is lent nothing
abbrev pub plain : Dispatched → Answer
plain r = record { reply = r; bytes = 0; space = []; check = [] }

-- one call
unfoldable pub step : Dispatcher → Call → Answer
step d (queue job store) = plain (queue_call d job store)
step d hand = plain (hand_call d)
step d (passed call) = passed_answer d (machine.step d.controller call) (lent_space call) (lent_check call)

-- a call and its answer
pub record Exchange : Type 0 where
  pub call : Call
  pub answer : Answer

-- "each call gets the state that the last one handed back": the calls with their answers, in order
unfoldable pub run : Dispatcher → List Call → List Exchange
run d [] = []
run d (call ∷ calls) = record { call = call; answer = step d call } ∷ run (step d call).reply.dispatcher calls

-- the state after a list
unfoldable pub after : Dispatcher → List Exchange → Dispatcher
after d [] = d
after d (x ∷ xs) = after x.answer.reply.dispatcher xs

-- the call is carried out
unfoldable pub not_refused : Exchange → Bool
not_refused x = eqb x.answer.reply.refusal 0

-- ---- the stores of a job

-- those that it queued
unfoldable pub queued_by : ℕ → Call → List Store
queued_by job (queue k store) = pick (eqb k job) (store ∷ []) []
queued_by job hand = []
queued_by job (passed call) = []

-- those of a job that wait, the one that came first in front
abbrev pub line : ℕ → Dispatcher → List Store
line job d = waiting_in (queue_of d.queues job)

-- those that a handing hands over: those in front that wait no more
unfoldable pub handed_by : List Store → List Store → Call → List Store
handed_by before after hand = take (length before - length after) before
handed_by before after (queue job store) = []
handed_by before after (passed call) = []

-- in a list, in order; a refused call neither queues nor hands over
unfoldable pub queued_in : ℕ → List Exchange → List Store
queued_in job [] = []
queued_in job (x ∷ xs) = pick (not_refused x) (queued_by job x.call) [] ++ queued_in job xs

unfoldable pub handed_in : ℕ → Dispatcher → List Exchange → List Store
handed_in job d [] = []
handed_in job d (x ∷ xs) =
    pick (not_refused x) (handed_by (line job d) (line job x.answer.reply.dispatcher) x.call) []
    ++ handed_in job x.answer.reply.dispatcher xs
