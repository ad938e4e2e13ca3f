-- The queues of the four jobs, and whose turn it is (document 02, request 8).
-- Assumes nothing.
use Rattle.std.specs.Prelude.{ℕ, ◌+◌, ◌%◌, Bool, ◌&&◌, Option, None, Some, leb, ltb}
use Rattle.common.specs.Pick.{pick}
use Rattle.common.specs.Four.{one_of, with_one}
use Rattle.operations.specs.declared.store.Store.{Store}
use Rattle.queues.specs.declared.queue.Queue.{Queue}
use Rattle.queues.specs.declared.jobs.Queues.{Queues}
use Rattle.queues.specs.Queue.{queue_limit, empty_queue, with_store, first_store, without_first}

-- "four jobs"
abbrev pub jobs : ℕ
jobs = 4

-- "job 0 comes first at the start (last served 3)"
unfoldable pub fresh_queues : Queues
fresh_queues =
    record {
      jobs = record { zero = empty_queue; one = empty_queue; two = empty_queue; three = empty_queue };
      last = 3;
    }

-- the queue of a job
unfoldable pub queue_of : Queues → ℕ → Queue
queue_of queues job = one_of queues.jobs job

-- the queues with another one for a job
unfoldable pub with_queue : Queues → ℕ → Queue → Queues
with_queue queues job queue = record { jobs = with_one queues.jobs job queue; last = queues.last }

-- "Refusal 1 gains a queue's length, 0-8, and the last job served, 0-3; a queued store's bytes may have any value."
unfoldable pub are_sound : Queues → Bool
are_sound queues =
    (((leb queues.jobs.zero.length queue_limit && leb queues.jobs.one.length queue_limit)
    && leb queues.jobs.two.length queue_limit)
    && leb queues.jobs.three.length queue_limit)
    && ltb queues.last jobs

-- whether a job has a store queued
unfoldable pub waits : Queues → ℕ → Bool
waits queues job = ltb 0 (queue_of queues job).length

-- whose turn it is: a job's, or nobody's where nothing is queued
abbrev pub Turn : Type 0
Turn = Option ℕ

-- "taking jobs in turn from the one after the last served and passing over empty queues"
unfoldable pub turn_of : Queues → Turn
turn_of queues =
    pick (waits queues ((queues.last + 1) % jobs)) (Some ((queues.last + 1) % jobs))
    (pick (waits queues ((queues.last + 2) % jobs)) (Some ((queues.last + 2) % jobs))
    (pick (waits queues ((queues.last + 3) % jobs)) (Some ((queues.last + 3) % jobs))
    (pick (waits queues queues.last) (Some queues.last) None)))

-- a job queues a store
unfoldable pub queued : Queues → ℕ → Store → Queues
queued queues job store = with_queue queues job (with_store (queue_of queues job) store)

-- the store that a job hands over next
unfoldable pub next_store : Queues → ℕ → Store
next_store queues job = first_store (queue_of queues job)

-- the queues with another job served last
abbrev pub with_last : Queues → ℕ → Queues
with_last queues last = record { jobs = queues.jobs; last = last }

-- once a job's store is handed over, "the last served" is that job
unfoldable pub served : Queues → ℕ → Queues
served queues job = with_last (with_queue queues job (without_first (queue_of queues job))) job
