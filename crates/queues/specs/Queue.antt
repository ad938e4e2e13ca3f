-- A job's queue (document 02, request 8): "The buyer's four jobs each queue up to eight stores, each given as its
-- address and four operand bytes."
-- Assumes nothing.
use Rattle.std.specs.Prelude.{ℕ, ◌+◌, ◌-◌, List, [], ◌∷◌, get_or, set, take}
use Rattle.operations.specs.declared.store.Store.{Store}
use Rattle.queues.specs.declared.queue.Queue.{Queue}

-- "up to eight stores"
abbrev pub queue_limit : ℕ
queue_limit = 8

-- a store of zeros, which names no drive
abbrev pub no_store : Store
no_store = record { address = 0; first = 0; second = 0; third = 0; fourth = 0 }

-- nothing waits
abbrev pub empty_queue : Queue
empty_queue =
    record {
      stores = no_store ∷ no_store ∷ no_store ∷ no_store ∷ no_store ∷ no_store ∷ no_store ∷ no_store ∷ [];
      length = 0;
    }

-- the stores that wait, the one that came first in front
unfoldable pub waiting_in : Queue → List Store
waiting_in queue = take queue.length queue.stores

-- a store more, behind the others
abbrev pub with_store : Queue → Store → Queue
with_store queue store = record { stores = set queue.stores queue.length store; length = queue.length + 1 }

-- the one that came first
abbrev pub first_store : Queue → Store
first_store queue = get_or queue.stores 0 no_store

-- the store at a place
abbrev placed : Queue → ℕ → Store
placed queue place = get_or queue.stores place no_store

-- "A handed-over store's place is free for its job.": the others move up
abbrev pub without_first : Queue → Queue
without_first queue =
    record {
      stores =
          placed queue 1 ∷ placed queue 2 ∷ placed queue 3 ∷ placed queue 4
          ∷ placed queue 5 ∷ placed queue 6 ∷ placed queue 7 ∷ placed queue 7 ∷ [];
      length = queue.length - 1;
    }
