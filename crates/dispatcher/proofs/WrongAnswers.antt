-- Wrong answers that the contracts of the dispatcher's calls rule out, two for each: no answer that the contract of
-- either of the call's functions allows, by value or in place, is wrong in that way.
-- Assumes nothing.
use mathlib.Core.Path.{◌≡◌, refl, sym, ap, subst, ◌∙◌}
use mathlib.Core.Bool.{false, false≢true}
use mathlib.Core.List.{[]}
use Prim.Native.Nat.{ℕ, ◌≤◌}
use native.Mathlib.Omega.{arith}
use lib.Dec.{eqb}
use borrow.Author.Tests.{eqb-true, eqb-false}
use Rattle.common.proofs.PickLaws.{pick_by, pick_no}
use Rattle.operations.specs.declared.store.Store.{Store}
use Rattle.controller.specs.Machine as machine
use Rattle.queues.specs.Jobs.{Turn}
use Rattle.std.specs.Prelude.{None}
use Rattle.queues.specs.Jobs.{fresh_queues, are_sound, queue_of, turn_of}
use Rattle.queues.proofs.WaitingLaws.{waiting, fresh_waiting}
use Rattle.dispatcher.specs.declared.dispatcher.Dispatcher.{Dispatcher}
use Rattle.dispatcher.specs.Told.{Dispatched}
use Rattle.dispatcher.specs.Dispatcher.{Answer, fresh_dispatcher, is_whole, queue_refusal, queue_call, hand_turn}
use Rattle.dispatcher.specs.Dispatcher.{hand_call, passed_answer}
use Rattle.controller.specs.Controller.{is_idle}
use Rattle.dispatcher.specs.Lists.{Call, step}
use Rattle.dispatcher.specs.Lists.Call.{queue, hand, passed}
use Rattle.dispatcher.proofs.Laws.{queue_room}
use Rattle.dispatcher.proofs.Steps.{passed_queues}
use Rattle.dispatcher.proofs.Demands.Contracts.{Allows, answers_are_steps}
use Rattle.dispatcher.proofs.dispatcher.Dispatcher.fresh.Reads as fresh-reads

-- no allowed answer is wrong
abbrev Excludes : Dispatcher → Call → (Answer → Type 0) → Type 0
Excludes d call Wrong = (answer : Answer) → Allows d call answer → Wrong answer → ⊥

-- since that of the step is not
excluded : (d : Dispatcher) (call : Call) (Wrong : Answer → Type 0) → (Wrong (step d call) → ⊥) → Excludes d call Wrong
excluded d call Wrong never answer allowed =
    subst (λ (a : Answer). Wrong a → ⊥) (sym (answers_are_steps d call answer allowed)) never

-- ---- queue

-- a ninth store is taken
pub queue_takes_a_ninth_store : (d : Dispatcher) (job : ℕ) (store : Store) → (queue_of d.queues job).length ≡ 8
    → Excludes d (queue job store) (λ a. a.reply.refusal ≡ 0)
unfolding step queue_call
queue_takes_a_ninth_store d job store full =
    excluded _ _ _
    (pick_by (λ (r : Dispatched). r.refusal ≡ 0 → ⊥) (eqb (queue_refusal d job store) 0)
    (λ good done. let room = queue_room d job store (eqb-true _ 0 good) in omega arith)
    (λ bad done. eqb-false _ 0 bad done))

-- queueing moves the controller
pub queue_moves_the_controller : (d : Dispatcher) (job : ℕ) (store : Store)
    → Excludes d (queue job store) (λ a. a.reply.dispatcher.controller ≡ d.controller → ⊥)
unfolding step queue_call
queue_moves_the_controller d job store =
    excluded _ _ _
    (λ wrong. wrong
    (pick_by (λ (r : Dispatched). r.dispatcher.controller ≡ d.controller) (eqb (queue_refusal d job store) 0)
    (λ good. refl) (λ bad. refl)))

-- ---- hand

-- a store is handed over to a controller that is not idle
pub hand_while_busy : (d : Dispatcher) → is_idle d.controller ≡ false → Excludes d hand (λ a. a.reply.refusal ≡ 0)
unfolding step hand_call
hand_while_busy d busy =
    excluded _ _ _
    (pick_by (λ (r : Dispatched). r.refusal ≡ 0 → ⊥) (is_whole d)
    (λ whole. pick_by (λ (r : Dispatched). r.refusal ≡ 0 → ⊥) (is_idle d.controller)
    (λ idle. absurd (false≢true (sym busy ∙ idle))) (λ no done. omega arith))
    (λ hurt done. omega arith))

-- with nothing queued something is done
pub hand_with_nothing_queued : (d : Dispatcher) → turn_of d.queues ≡ None
    → Excludes d hand (λ a. a.reply.dispatcher ≡ d → ⊥)
unfolding step hand_call hand_turn
hand_with_nothing_queued d nobody =
    excluded _ _ _
    (λ wrong. wrong
    (pick_by (λ (r : Dispatched). r.dispatcher ≡ d) (is_whole d)
    (λ whole. pick_by (λ (r : Dispatched). r.dispatcher ≡ d) (is_idle d.controller)
    (λ idle. ap (λ (t : Turn). (hand_turn d t).dispatcher) nobody) (λ no. refl))
    (λ hurt. refl)))

-- ---- the eight that are passed on

-- one of them changes the queues
pub passed_call_changes_the_queues : (d : Dispatcher) (call : machine.Call)
    → Excludes d (passed call) (λ a. a.reply.dispatcher.queues ≡ d.queues → ⊥)
passed_call_changes_the_queues d call = excluded _ _ _ (λ wrong. wrong (passed_queues d call))

-- it is carried out though a queue, or the last job served, is out of range
pub passed_call_with_queues_out_of_range : (d : Dispatcher) (call : machine.Call) → are_sound d.queues ≡ false
    → Excludes d (passed call) (λ a. a.reply.refusal ≡ 0)
unfolding step passed_answer
passed_call_with_queues_out_of_range d call hurt =
    excluded _ _ _
    (λ done. let right : (step d (passed call)).reply.refusal
    ≡ 1 = ap (λ (a : Answer). a.reply.refusal) (pick_no _ _ hurt) in omega arith)

-- ---- fresh_dispatcher

-- something is queued
pub fresh_with_a_store_queued : (d : Dispatcher) → fresh-reads.Post tt tt d tt → (job : ℕ) → job ≤ 3
    → (waiting d.queues job ≡ [] → ⊥) → ⊥
unfolding fresh_dispatcher
fresh_with_a_store_queued d allowed job low wrong =
    wrong (ap (λ (x : Dispatcher). waiting x.queues job) allowed ∙ fresh_waiting job low)

-- another job than 0 comes first
pub fresh_serves_another_job_first : (d : Dispatcher) → fresh-reads.Post tt tt d tt → (d.queues.last ≡ 3 → ⊥) → ⊥
unfolding fresh_dispatcher fresh_queues
fresh_serves_another_job_first d allowed wrong = wrong (ap (λ (x : Dispatcher). x.queues.last) allowed)
