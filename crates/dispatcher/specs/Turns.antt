-- The dispatcher works: "A dispatcher hands over the next store whenever the last has completed, taking jobs in turn
-- from the one after the last served and passing over empty queues"; "A store handed over is carried out as if its ACK
-- had just been taken." (document 02, request 8). At every call of a list, by the ledger of the jobs, from every state
-- whose queues are sound. When a call is refused with 1, "a field out of range", is no part of it.
-- Assumes nothing.
use Rattle.std.specs.Prelude.{◌≡◌, List, [], ◌∷◌, ℕ, ◌/◌, ◌%◌, ◌≤◌, ◌<◌, length}
use Rattle.operations.specs.declared.store.Store.{Store}
use Rattle.link.specs.declared.state.Collected.{Collected}
use Rattle.link.specs.declared.state.Phase.TheVariants.{Collecting, AckOffered}
use Rattle.controller.specs.declared.controller.Controller.{Controller}
use Rattle.controller.specs.Machine as machine
use Rattle.dispatcher.specs.declared.dispatcher.Dispatcher.{Dispatcher}
use Rattle.dispatcher.specs.Dispatcher.{Answer}
use Rattle.dispatcher.specs.Lists.{Call, Exchange}
use Rattle.dispatcher.specs.Lists.Call.{queue, hand, passed}
use Rattle.dispatcher.specs.Refused.{Unchanged}
use Rattle.dispatcher.specs.Separation.{own_answer}
use Rattle.dispatcher.specs.JobLedger.{JobLedger, next, ledger_after}

-- "idle .. (nothing collected)"
pub record Idle (c : Controller) : Type 0 where
  pub string : Collected
  pub collecting : c.phase ≡ Collecting string
  pub nothing : string.length ≡ 0

-- ---- a job queues a store

-- "Every store must name a drive"; "Refused: 16 a job above 3, a store naming no drive or a reset store": one that is
-- none of these, by "bit 4 names a drive" and "1-3 are the operation", "0: reset"
pub record Legal (job : ℕ) (store : Store) : Type 0 where
  pub low : job ≤ 3
  pub names : store.address / 8 % 2 ≡ 1
  pub keeps : store.address / 16 % 8 ≡ 0 → ⊥

-- "The buyer's four jobs each queue up to eight stores": a legal one is taken while fewer than eight of its job wait;
-- "17 that job's queue holds eight"
pub record TakesUpToEight (l : JobLedger) (job : ℕ) (store : Store) (a : Answer) : Type 0 where
  pub room : Legal job store → length (l.waiting job) < 8 → (a.reply.refusal ≡ 1 → ⊥) → a.reply.refusal ≡ 0
  pub full : Legal job store → 8 ≤ length (l.waiting job) → (a.reply.refusal ≡ 1 → ⊥) → a.reply.refusal ≡ 17

-- ---- a handing

-- the controller with the ACK of this store offered: "Store: lead, address, four operand bytes (high first), unused,
-- check.", with the lead #64
abbrev pub offering : Controller → Store → ℕ → ℕ → Controller
offering c store unused check =
    record {
      body = c.body;
      phase =
          AckOffered
          (record {
            length = 8;
            c0 = 0x64;
            c1 = store.address;
            c2 = store.first;
            c3 = store.second;
            c4 = store.third;
            c5 = store.fourth;
            c6 = unused;
            c7 = check;
          });
    }

-- "carried out as if its ACK had just been taken": the answer of the controller's taken, all of it
abbrev pub AsTaken : Controller → Store → Answer → Type 0
AsTaken c store a = (unused check : ℕ) → own_answer a ≡ machine.step (offering c store unused check) machine.taken

-- refused to no idle dispatcher but with 1; "with nothing queued it does nothing"; else the store of the job whose turn
-- it is is carried out
pub record HandsInTurn (l : JobLedger) (d : Dispatcher) (a : Answer) : Type 0 where
  pub accepted : Idle d.controller → (a.reply.refusal ≡ 1 → ⊥) → a.reply.refusal ≡ 0
  pub nothing : a.reply.refusal ≡ 0 → next l ≡ [] → Unchanged d hand a
  pub served : a.reply.refusal ≡ 0 → (store : Store) → next l ≡ store ∷ [] → AsTaken d.controller store a

-- ---- every list

unfoldable pub WorksAt : JobLedger → Dispatcher → Answer → Call → Type 0
WorksAt l d a (queue job store) = TakesUpToEight l job store a
WorksAt l d a hand = HandsInTurn l d a
WorksAt l d a (passed call) = Unit

-- at every call of a list, by the ledger before it
unfoldable pub WorksFrom : JobLedger → Dispatcher → List Exchange → Type 0
WorksFrom l d [] = Unit
WorksFrom l d (x ∷ xs) =
    WorksAt l d x.answer x.call × WorksFrom (ledger_after l x) x.answer.reply.dispatcher xs
