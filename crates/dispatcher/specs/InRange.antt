-- Every field of the dispatcher's state in its range, and every byte that comes or goes a byte. Document 02, request 8:
-- "Refusal 1 gains a queue's length, 0-8, and the last job served, 0-3; a queued store's bytes may have any value."
-- That a byte is below 256 no paper says. Numbers alone: no definition of the dispatcher is cited for a range.
-- Assumes nothing.
use Rattle.std.specs.Prelude.{◌≡◌, List, [], ◌∷◌, ℕ, ◌≤◌, ◌<◌, length, get_or}
use Rattle.operations.specs.declared.store.Store.{Store}
use Rattle.controller.specs.InRange as controller-range
use Rattle.controller.specs.InRange.{StoreInRange, ActionInRange, HandedInRange}
use Rattle.queues.specs.declared.queue.Queue.{Queue}
use Rattle.queues.specs.declared.jobs.Queues.{Queues}
use Rattle.dispatcher.specs.declared.dispatcher.Dispatcher.{Dispatcher}
use Rattle.dispatcher.specs.Dispatcher.{Answer}
use Rattle.dispatcher.specs.Lists.{Call, Exchange, after}
use Rattle.dispatcher.specs.Lists.Call.{queue, hand, passed}
use Rattle.dispatcher.specs.Refused.{lent_space}

-- "each queue up to eight stores, each given as its address and four operand bytes": eight places, those that hold no
-- store that waits included
pub record QueueInRange (q : Queue) : Type 0 where
  pub places : length q.stores ≡ 8
  pub waiting : q.length ≤ 8
  pub stores : (i : ℕ) (other : Store) → i < 8 → StoreInRange (get_or q.stores i other)

-- "a queue's length, 0-8, and the last job served, 0-3"
pub record QueuesInRange (queues : Queues) : Type 0 where
  pub q0 : QueueInRange queues.jobs.zero
  pub q1 : QueueInRange queues.jobs.one
  pub q2 : QueueInRange queues.jobs.two
  pub q3 : QueueInRange queues.jobs.three
  pub last : queues.last ≤ 3

pub record InRange (d : Dispatcher) : Type 0 where
  pub controller : controller-range.InRange d.controller
  pub queues : QueuesInRange d.queues

-- the inputs of a call are bytes; a job's number may be anything
unfoldable pub BytesIn : Call → Type 0
BytesIn (queue job store) = StoreInRange store
BytesIn hand = Unit
BytesIn (passed call) = controller-range.BytesIn call

-- of an answer; the refusals are numbered 0, done, to 17; the bytes that it gives fit into the space that was lent, and
-- are at most 66,050
pub record AnswerInRange (call : Call) (answer : Answer) : Type 0 where
  pub state : InRange answer.reply.dispatcher
  pub action : ActionInRange answer.reply.action
  pub handed : HandedInRange answer.reply.handed
  pub refusal : answer.reply.refusal ≤ 17
  pub undamaged : answer.reply.refusal ≡ 1 → ⊥
  pub bytes : answer.bytes ≤ length (lent_space call)
  pub most : answer.bytes ≤ 66050

-- the claim of one call
abbrev pub StaysInRange : Dispatcher → Call → Answer → Type 0
StaysInRange d call answer = InRange d → BytesIn call → AnswerInRange call answer

-- of a list of calls
unfoldable pub AllBytesIn : List Exchange → Type 0
AllBytesIn [] = Unit
AllBytesIn (x ∷ xs) = BytesIn x.call × AllBytesIn xs

unfoldable pub AllAnswersInRange : List Exchange → Type 0
AllAnswersInRange [] = Unit
AllAnswersInRange (x ∷ xs) = AnswerInRange x.call x.answer × AllAnswersInRange xs

-- every answer is in range, none is refused with 1, and the state that the list leaves is in range
pub record ListInRange (d : Dispatcher) (xs : List Exchange) : Type 0 where
  pub each : AllAnswersInRange xs
  pub ends : InRange (after d xs)

abbrev pub ListStaysInRange : Dispatcher → List Exchange → Type 0
ListStaysInRange d xs = InRange d → AllBytesIn xs → ListInRange d xs
