-- Each answer of a step is told by one of the program: by a call that is carried out, or by a refusal of its own.
-- Assumes nothing.
use Rattle.std.specs.Prelude.{◌≡◌, ℕ, List, Result, Ok, Err, Some, None, eqb, refl}
use mathlib.Core.Path.{sym, ap, ◌∙◌, subst}
use Rattle.common.specs.Pick.{pick}
use Rattle.common.proofs.PickLaws.{pick_by}
use Rattle.common.proofs.RefusalLaws.{refused_not_done}
use Rattle.common.specs.declared.refusals.Refusal.{Refusal}
use Rattle.common.specs.declared.refusals.Refusal.TheVariants.{StateDamaged, NotIdle, StoreNotTaken, QueueFull}
use Rattle.common.specs.Told.{number_of, refusal_number}
use Rattle.operations.specs.declared.store.Store.{Store}
use Rattle.link.specs.declared.state.Action.TheVariants.{Nothing}
use Rattle.transfers.specs.Data.{Host}
use Rattle.transfers.specs.Results.{Result as Outcome}
use Rattle.controller.specs.declared.controller.Answer.{Answer as Told}
use Rattle.controller.specs.declared.controller.Given.{Given}
use Rattle.controller.specs.declared.controller.Reply.{Reply as Replied}
use Rattle.controller.specs.Told.{Reply}
use Rattle.controller.specs.Controller.{is_idle}
use Rattle.controller.specs.Records as records
use Rattle.controller.proofs.ToldAnswers as alone
use Rattle.queues.specs.declared.jobs.Queues.{Queues}
use Rattle.queues.specs.Jobs.{Turn, are_sound, next_store, turn_of, queued}
use Rattle.dispatcher.specs.declared.dispatcher.Dispatcher.{Dispatcher}
use Rattle.dispatcher.specs.Told.{Dispatched, told}
use Rattle.dispatcher.specs.Dispatcher.{Answer, answered, unchanged, with_queues, answer_with_queues}
use Rattle.dispatcher.specs.Dispatcher.{is_whole, queue_refusal, queue_call, hand_over, hand_turn, hand_call, pass_on}
use Rattle.dispatcher.specs.Dispatcher.{passed_answer, data_call, result_call}
use Rattle.dispatcher.proofs.ToldLaws.{told_beside, given_beside}

pub record ToldBy (r : Dispatched) : Type 0 where
  pub reply : Replied Dispatcher Told
  pub same : told reply ≡ r

done_told : (d : Dispatcher) → ToldBy (unchanged 0 d)
done_told d =
    record {
      reply = record { state = d; answer = Ok (record { action = Nothing; handed = None }) };
      same = refl;
    }

refused_told : (e : Refusal) (d : Dispatcher) → ToldBy (unchanged (number_of e) d)
refused_told e d = record { reply = record { state = d; answer = Err e }; same = refl }

-- the controller's, beside queues
with_told : (queues : Queues) (r : Reply) → alone.ToldBy r → ToldBy (with_queues queues r)
with_told queues _ by =
    let r = by.reply in
    record {
      reply = record { state = record { controller = r.state; queues = queues }; answer = r.answer };
      same = told_beside queues r.state r.answer ∙ ap (with_queues queues) by.same;
    }

pub passed_told : (d : Dispatcher) (r : Reply) → alone.ToldBy r → ToldBy (pass_on d r)
unfolding pass_on
passed_told d r by =
    pick_by ToldBy (are_sound d.queues) (λ sound. with_told d.queues r by) (λ hurt. refused_told StateDamaged d)

-- ---- a job queues a store

-- a number that is 0 or a refusal's
record Named (n : ℕ) : Type 0 where
  answer : Result Unit Refusal
  is : refusal_number answer ≡ n

named : (e : Refusal) → Named (number_of e)
named e = record { answer = Err e; is = refl }

queue_named : (d : Dispatcher) (job : ℕ) (store : Store) → Named (queue_refusal d job store)
unfolding queue_refusal
queue_named d job store =
    pick_by Named _ (λ hurt. named StateDamaged)
    (λ whole. pick_by Named _ (λ wrong. named StoreNotTaken)
    (λ right. pick_by Named _ (λ full. named QueueFull) (λ room. record { answer = Ok tt; is = refl })))

by_answer : (d next : Dispatcher) (a : Result Unit Refusal)
    → ToldBy (pick (eqb (refusal_number a) 0) (unchanged 0 next) (unchanged (refusal_number a) d))
unfolding pick
by_answer d next (Ok x) = done_told next
by_answer d next (Err e) = rw (refused_not_done e) (refused_told e d)

pub queue_told : (d : Dispatcher) (job : ℕ) (store : Store) → ToldBy (queue_call d job store)
unfolding queue_call
queue_told d job store =
    let n = queue_named d job store in
    let next : Dispatcher = record { controller = d.controller; queues = queued d.queues job store } in
    subst (λ (m : ℕ). ToldBy (pick (eqb m 0) (unchanged 0 next) (unchanged m d))) n.is (by_answer d next n.answer)

-- ---- the store whose turn it is is handed over

turn_told : (d : Dispatcher) (turn : Turn) → ToldBy (hand_turn d turn)
unfolding hand_turn hand_over
turn_told d None = done_told d
turn_told d (Some job) = with_told _ _ (alone.hand_told d.controller (next_store d.queues job))

pub hand_told : (d : Dispatcher) → ToldBy (hand_call d)
unfolding hand_call
hand_told d =
    pick_by ToldBy (is_whole d)
    (λ whole. pick_by ToldBy (is_idle d.controller) (λ idle. turn_told d (turn_of d.queues))
    (λ busy. refused_told NotIdle d))
    (λ hurt. refused_told StateDamaged d)

-- ---- calls that are lent space

pub record GivenBy (answer : Answer) : Type 0 where
  pub reply : Replied Dispatcher Given
  pub same : answer ≡ answered reply answer.space answer.check

passed_given : (d : Dispatcher) (a : records.Answer) (space check : List ℕ) → alone.GivenBy a
    → GivenBy (passed_answer d a space check)
unfolding passed_answer
passed_given d a space check by =
    pick_by GivenBy (are_sound d.queues)
    (λ sound. let r = by.reply in
    record {
      reply = record { state = record { controller = r.state; queues = d.queues }; answer = r.answer };
      same =
          ap (answer_with_queues d.queues) by.same ∙ sym (given_beside d.queues r.state r.answer a.space a.check);
    })
    (λ hurt. record { reply = record { state = d; answer = Err StateDamaged }; same = refl })

pub data_told : (d : Dispatcher) (host : Host) (space check : List ℕ) → GivenBy (data_call d host space check)
data_told d host space check = passed_given d _ space check (alone.data_told d.controller host space check)

pub result_told : (d : Dispatcher) (r : Outcome) (space check : List ℕ) → GivenBy (result_call d r space check)
result_told d r space check = passed_given d _ space check (alone.result_told d.controller r space check)
