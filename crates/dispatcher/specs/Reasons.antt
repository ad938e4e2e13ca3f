-- Why a call of the dispatcher is refused (document 02, request 8): for each of its ten calls the numbers that may
-- refuse it, each with its condition, written out from the state and from what the call is handed; those that are
-- passed on by the controller's table. "Lowest number first" (document 01). No definition of the machine, of the queues
-- or of the dispatcher says here what a sound state, room in a queue or a reset store is. Of any call, in any state.
-- Assumes nothing.
use Rattle.std.specs.Prelude.{ℕ, Bool, not, ◌&&◌, ◌||◌, List, [], ◌∷◌, leb, eqb}
use Rattle.common.specs.Pick.{pick}
use Rattle.controller.specs.Ledger.{names, operation_of}
use Rattle.controller.specs.Reasons as controller-reasons
use Rattle.controller.specs.Reasons.{IsLowest, idle_phase}
use Rattle.queues.specs.declared.jobs.Queues.{Queues}
use Rattle.dispatcher.specs.declared.dispatcher.Dispatcher.{Dispatcher}
use Rattle.dispatcher.specs.Dispatcher.{Answer}
use Rattle.dispatcher.specs.Lists.{Call}
use Rattle.dispatcher.specs.Lists.Call.{queue, hand, passed}

-- "Refusal 1 gains a queue's length, 0-8, and the last job served, 0-3; a queued store's bytes may have any value."
unfoldable pub queues_in_range : Queues → Bool
queues_in_range q =
    (((leb q.jobs.zero.length 8 && leb q.jobs.one.length 8) && leb q.jobs.two.length 8) && leb q.jobs.three.length 8)
    && leb q.last 3

unfoldable pub in_range : Dispatcher → Bool
in_range d = queues_in_range d.queues && controller-reasons.in_range d.controller

-- how many stores "that job's queue holds"
unfoldable pub queue_length : Queues → ℕ → ℕ
queue_length q job =
    pick (eqb job 0) q.jobs.zero.length
    (pick (eqb job 1) q.jobs.one.length (pick (eqb job 2) q.jobs.two.length q.jobs.three.length))

-- What refuses a call in a sound state: "A handing when not idle is refused as 4"; "16 a job above 3, a store naming no
-- drive or a reset store", which is one of operation 0; "17 that job's queue holds eight"
unfoldable pub own_conditions : Dispatcher → Call → List (ℕ × Bool)
own_conditions d (queue job store) =
    (16, leb 4 job || (not (names store) || eqb (operation_of store) 0))
    ∷ (17, leb 8 (queue_length d.queues job))
    ∷ []
own_conditions d hand = (4, not (idle_phase d.controller.phase)) ∷ []
own_conditions d (passed call) = controller-reasons.own_conditions d.controller call

-- and of any: "1 a field out of range"
unfoldable pub conditions_of : Dispatcher → Call → List (ℕ × Bool)
conditions_of d call = (1, not (in_range d)) ∷ own_conditions d call

-- the claim, of an answer
abbrev pub RefusedByLowest : Dispatcher → Call → Answer → Type 0
RefusedByLowest d call answer = IsLowest answer.reply.refusal (conditions_of d call)
