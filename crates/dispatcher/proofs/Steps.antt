-- The kinds of the dispatcher's calls: refused, passed on, a store queued, nothing to hand over, and a store handed
-- over.
-- Assumes nothing.
use mathlib.Core.Path.{◌≡◌, refl}
use mathlib.Core.Bool.{true, false}
use Prim.Native.Nat.{ℕ}
use lib.Dec.{eqb}
use borrow.Author.Tests.{eqb-true}
use Rattle.common.proofs.PickLaws.{pick_by}
use Rattle.operations.specs.declared.store.Store.{Store}
use Rattle.controller.specs.Machine as machine
use Rattle.queues.specs.Jobs.{Turn}
use Rattle.std.specs.Prelude.{None, Some}
use Rattle.queues.specs.Jobs.{are_sound, turn_of, queued}
use Rattle.queues.proofs.JobLaws.{Served, turn_served}
use Rattle.dispatcher.specs.declared.dispatcher.Dispatcher.{Dispatcher}
use Rattle.dispatcher.specs.Told.{Dispatched}
use Rattle.dispatcher.specs.Dispatcher.{Answer, unchanged}
use Rattle.dispatcher.specs.Dispatcher.{is_whole, queue_refusal, queue_call, hand_over, hand_turn}
use Rattle.dispatcher.specs.Dispatcher.{hand_call, passed_answer}
use Rattle.controller.specs.Controller.{is_idle}
use Rattle.dispatcher.specs.Lists.{Call, Exchange, plain, step}
use Rattle.dispatcher.specs.Lists.Call.{queue, hand, passed}
use Rattle.dispatcher.proofs.Laws.{whole_ranges}

-- what is claimed of a call in a state, with its answer
abbrev pub Claim : Type 1
Claim = Dispatcher → Exchange → Type 0

abbrev pub exchanged : Call → Answer → Exchange
exchanged call answer = record { call = call; answer = answer }

-- a call of the dispatcher's own
pub data IsOwn : Call → Type 0 where
  queueing : (job : ℕ) (store : Store) → IsOwn (queue job store)
  handing : IsOwn hand

-- refused
abbrev pub OfRefusals : Claim → Type 0
OfRefusals P =
    (d : Dispatcher) (call : Call) (number : ℕ) → IsOwn call → eqb number 0 ≡ false
    → P d (exchanged call (plain (unchanged number d)))

-- a call that is passed on
abbrev pub OfPassed : Claim → Type 0
OfPassed P = (d : Dispatcher) (call : machine.Call) → P d (exchanged (passed call) (step d (passed call)))

-- it leaves the queues, refused or not
pub passed_queues : (d : Dispatcher) (call : machine.Call) → (step d (passed call)).reply.dispatcher.queues ≡ d.queues
unfolding step passed_answer
passed_queues d call =
    pick_by (λ (a : Answer). a.reply.dispatcher.queues ≡ d.queues) (are_sound d.queues) (λ sound. refl)
    (λ hurt. refl)

-- a job queues a store
abbrev pub OfQueueing : Claim → Type 0
OfQueueing P =
    (d : Dispatcher) (job : ℕ) (store : Store) → queue_refusal d job store ≡ 0
    → P d (exchanged (queue job store)
    (plain (unchanged 0 (record { controller = d.controller; queues = queued d.queues job store }))))

-- a handing with nothing queued
abbrev pub OfNothing : Claim → Type 0
OfNothing P = (d : Dispatcher) → turn_of d.queues ≡ None → P d (exchanged hand (plain (unchanged 0 d)))

-- a handing of the store whose turn it is
abbrev pub OfHandings : Claim → Type 0
OfHandings P =
    (d : Dispatcher) (job : ℕ) → is_whole d ≡ true → is_idle d.controller ≡ true → turn_of d.queues ≡ Some job
    → Served d.queues job
    → P d (exchanged hand (plain (hand_over d job)))

pub record Kinds (P : Claim) : Type 0 where
  pub refusals : OfRefusals P
  pub passes : OfPassed P
  pub queues : OfQueueing P
  pub nothing : OfNothing P
  pub hands : OfHandings P

module _ (P : Claim) (kinds : Kinds P) (d : Dispatcher) where
  hand_turn_lem : is_whole d ≡ true → is_idle d.controller ≡ true → (t : Turn) → turn_of d.queues ≡ t
      → P d (exchanged hand (plain (hand_turn d t)))
  unfolding hand_turn
  hand_turn_lem whole idle None is = kinds.nothing d is
  hand_turn_lem whole idle (Some job) is =
      kinds.hands d job whole idle is (turn_served d.queues (whole_ranges d whole).last job is)

  -- each call is of one of these kinds
  pub by_step : (call : Call) → P d (exchanged call (step d call))
  unfolding step queue_call hand_call
  by_step (queue job store) =
      pick_by (λ (r : Dispatched). P d (exchanged (queue job store) (plain r))) (eqb (queue_refusal d job store) 0)
      (λ good. kinds.queues d job store (eqb-true _ 0 good))
      (λ bad. kinds.refusals d (queue job store) (queue_refusal d job store) (queueing job store) bad)
  by_step hand =
      pick_by (λ (r : Dispatched). P d (exchanged hand (plain r))) (is_whole d)
      (λ whole. pick_by (λ (r : Dispatched). P d (exchanged hand (plain r))) (is_idle d.controller)
      (λ idle. hand_turn_lem whole idle (turn_of d.queues) refl) (λ busy. kinds.refusals d hand 4 handing refl))
      (λ hurt. kinds.refusals d hand 1 handing refl)
  by_step (passed call) = kinds.passes d call
