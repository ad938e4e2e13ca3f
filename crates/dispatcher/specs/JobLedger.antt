-- The jobs as a ledger of the list (document 02, request 8): which stores of each job wait, and which job was served
-- last, worked out from the calls and which of them were refused alone; and so whose turn it is. No definition of the
-- machine says here whose turn it is, which store goes next or what a call leaves waiting.
-- Assumes nothing.
use Rattle.std.specs.Prelude.{◌≡◌, List, [], ◌∷◌, ◌++◌, ℕ, ◌+◌, ◌%◌, ◌≤◌, eqb, length, take, drop}
use Rattle.common.specs.Pick.{pick}
use Rattle.operations.specs.declared.store.Store.{Store}
use Rattle.controller.specs.Ledger.{entered}
use Rattle.queues.specs.declared.queue.Queue.{Queue}
use Rattle.queues.specs.declared.jobs.Queues.{Queues}
use Rattle.dispatcher.specs.Lists.{Call, Exchange, not_refused}
use Rattle.dispatcher.specs.Lists.Call.{queue, hand, passed}

-- the stores of each job that wait, the one that came first in front, and the last job served
pub record JobLedger : Type 0 where
  pub waiting : ℕ → List Store
  pub last : ℕ

-- "job 0 comes first at the start (last served 3)"
abbrev pub fresh_ledger : JobLedger
fresh_ledger = record { waiting = λ job. []; last = 3 }

-- ---- whose turn it is

-- the four jobs, "taking jobs in turn from the one after the last served"
abbrev pub from_last : ℕ → List ℕ
from_last last = (last + 1) % 4 ∷ (last + 2) % 4 ∷ (last + 3) % 4 ∷ (last + 4) % 4 ∷ []

-- the first of these jobs that has a store waiting, or none: "passing over empty queues"
unfoldable pub first_waiting : (ℕ → List Store) → List ℕ → List ℕ
first_waiting waiting [] = []
first_waiting waiting (job ∷ jobs) = pick (eqb (length (waiting job)) 0) (first_waiting waiting jobs) (job ∷ [])

-- the job whose turn it is, or none
abbrev pub in_turn : JobLedger → List ℕ
in_turn l = first_waiting l.waiting (from_last l.last)

-- its store that came first
unfoldable pub first_of : (ℕ → List Store) → List ℕ → List Store
first_of waiting [] = []
first_of waiting (job ∷ jobs) = take 1 (waiting job)

-- the store that is handed over next, or none
abbrev pub next : JobLedger → List Store
next l = first_of l.waiting (in_turn l)

-- ---- the ledger of a list

-- a store that a job queues waits behind its others
abbrev pub ledger_queued : JobLedger → ℕ → Store → JobLedger
ledger_queued l job store =
    record { waiting = entered l.waiting job (l.waiting job ++ (store ∷ [])); last = l.last }

-- the store handed over waits no more, and its job is the last served; "with nothing queued it does nothing"
unfoldable pub ledger_served : JobLedger → List ℕ → JobLedger
ledger_served l [] = l
ledger_served l (job ∷ jobs) = record { waiting = entered l.waiting job (drop 1 (l.waiting job)); last = job }

-- a call not refused; "A reset keeps the queues and the last job served.", and so does every other call passed on
unfoldable pub ledger_call : JobLedger → Call → JobLedger
ledger_call l (queue job store) = ledger_queued l job store
ledger_call l hand = ledger_served l (in_turn l)
ledger_call l (passed call) = l

-- a refused call changes nothing
unfoldable pub ledger_after : JobLedger → Exchange → JobLedger
ledger_after l x = pick (not_refused x) (ledger_call l x.call) l

unfoldable pub ledger_from : JobLedger → List Exchange → JobLedger
ledger_from l [] = l
ledger_from l (x ∷ xs) = ledger_from (ledger_after l x) xs

-- ---- the queues of a state

-- "a queue's length, 0-8", of an array of eight
pub record SoundQueue (queue : Queue) : Type 0 where
  pub places : length queue.stores ≡ 8
  pub within : queue.length ≤ 8

-- "Refusal 1 gains a queue's length, 0-8, and the last job served, 0-3"
pub record SoundQueues (queues : Queues) : Type 0 where
  pub q0 : SoundQueue queues.jobs.zero
  pub q1 : SoundQueue queues.jobs.one
  pub q2 : SoundQueue queues.jobs.two
  pub q3 : SoundQueue queues.jobs.three
  pub last : queues.last ≤ 3

-- the claim: in each queue waits what the ledger has of its job, and the last job served is the ledger's
pub record IsLedger (queues : Queues) (l : JobLedger) : Type 0 where
  pub q0 : take queues.jobs.zero.length queues.jobs.zero.stores ≡ l.waiting 0
  pub q1 : take queues.jobs.one.length queues.jobs.one.stores ≡ l.waiting 1
  pub q2 : take queues.jobs.two.length queues.jobs.two.stores ≡ l.waiting 2
  pub q3 : take queues.jobs.three.length queues.jobs.three.stores ≡ l.waiting 3
  pub last : queues.last ≡ l.last
