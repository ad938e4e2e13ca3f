-- A call of the dispatcher whose inputs are bytes leaves a state in range in range, its queues included, hands out what
-- is in range, and is not refused for a field out of range (`stays_in_range`); and so does every list of such calls
-- (`list_stays_in_range`), from a fresh dispatcher on (`fresh_in_range`).
-- Assumes nothing.
use mathlib.Core.Path.{◌≡◌, refl, sym, subst, ◌∙◌}
use mathlib.Core.Bool.{Bool, true, not, ◌||◌}
use mathlib.Core.List.{List, [], ◌∷◌}
use Prim.Native.Nat.{ℕ, zero, suc, ◌≤◌, ◌<◌}
use native.Mathlib.Omega.{arith}
use lib.Dec.{leb, eqb}
use lib.ListN.{length, get_or, set, length-set}
use lib.Seq.{get_or-set_same, get_or-set_other}
use borrow.Author.Tests.{eqb-true, eqb-false, le-leb, lt-ltb}
use Rattle.common.specs.Pick.{pick}
use Rattle.common.proofs.PickLaws.{by_test, pick_by, pick_yes}
use Rattle.operations.specs.declared.store.Store.{Store}
use Rattle.operations.specs.Store.{names_drive}
use Rattle.controller.specs.InRange as controller-range
use Rattle.controller.specs.InRange.{StoreInRange, ActionInRange, HandedInRange}
use Rattle.controller.specs.Controller.{is_idle}
use Rattle.controller.specs.Machine as machine
use Rattle.controller.proofs.StaysInRange as controller-stays
use Rattle.queues.specs.declared.queue.Queue.{Queue}
use Rattle.common.specs.declared.four.Four.{Four}
use Rattle.queues.specs.declared.jobs.Queues.{Queues}
use Rattle.queues.specs.Jobs.{Turn}
use Rattle.std.specs.Prelude.{None, Some}
use Rattle.queues.specs.Queue.{no_store, empty_queue, with_store, without_first}
use Rattle.queues.specs.Jobs.{fresh_queues, are_sound, queue_of, with_queue, turn_of, queued, next_store, served}
use Rattle.queues.proofs.JobLaws.{turn_served}
use Rattle.dispatcher.specs.declared.dispatcher.Dispatcher.{Dispatcher}
use Rattle.dispatcher.specs.Told.{Dispatched}
use Rattle.dispatcher.specs.Dispatcher.{fresh_dispatcher, unchanged, is_whole, is_reset_store, queue_refusal}
use Rattle.dispatcher.specs.Dispatcher.{queue_call, hand_over, hand_turn, hand_call, passed_answer}
use Rattle.dispatcher.specs.Lists.{Call, plain, step, run, after}
use Rattle.dispatcher.specs.Lists.Call.{queue, hand, passed}
use Rattle.dispatcher.specs.Refused.{lent_space}
use Rattle.dispatcher.specs.InRange.{QueueInRange, QueuesInRange, InRange, BytesIn, AnswerInRange, AllBytesIn}
use Rattle.dispatcher.specs.InRange.{AllAnswersInRange, ListStaysInRange}
use Rattle.dispatcher.proofs.Laws.{queue_room}

-- ---- one queue

by_eight : (P : ℕ → Type 0) → P 0 → P 1 → P 2 → P 3 → P 4 → P 5 → P 6 → P 7 → (n : ℕ) → n < 8 → P n
by_eight P a b c d e f g h zero low = a
by_eight P a b c d e f g h (suc zero) low = b
by_eight P a b c d e f g h (suc (suc zero)) low = c
by_eight P a b c d e f g h (suc (suc (suc zero))) low = d
by_eight P a b c d e f g h (suc (suc (suc (suc zero)))) low = e
by_eight P a b c d e f g h (suc (suc (suc (suc (suc zero))))) low = f
by_eight P a b c d e f g h (suc (suc (suc (suc (suc (suc zero)))))) low = g
by_eight P a b c d e f g h (suc (suc (suc (suc (suc (suc (suc zero))))))) low = h
by_eight P a b c d e f g h (suc (suc (suc (suc (suc (suc (suc (suc n)))))))) low = absurd (omega arith)

no_bytes : StoreInRange no_store
no_bytes =
    record {
      address = omega arith;
      first = omega arith;
      second = omega arith;
      third = omega arith;
      fourth = omega arith;
    }

empty_in_range : QueueInRange empty_queue
empty_in_range =
    record {
      places = refl;
      waiting = omega arith;
      stores =
          λ i other.
          by_eight (λ n. StoreInRange (get_or empty_queue.stores n other)) no_bytes no_bytes no_bytes no_bytes no_bytes
          no_bytes no_bytes no_bytes i;
    }

set_at : (stores : List Store) (place : ℕ) (store : Store) (i : ℕ) (other : Store) → i < length stores
    → StoreInRange store
    → StoreInRange (get_or stores i other)
    → StoreInRange (get_or (set stores place store) i other)
set_at stores place store i other inside new old =
    by_test (eqb i place)
    (λ same. let e = eqb-true i place same in
    subst (λ (n : ℕ). StoreInRange (get_or (set stores n store) i other)) e
    (subst (λ (s : Store). StoreInRange s) (sym (get_or-set_same stores i store other inside)) new))
    (λ differ. subst (λ (s : Store). StoreInRange s)
    (sym (get_or-set_other stores place i store other (eqb-false i place differ))) old)

module _ (q : Queue) (fine : QueueInRange q) where
  more_in_range : (store : Store) → StoreInRange store → q.length < 8 → QueueInRange (with_store q store)
  more_in_range store bytes room =
      let places = fine.places in
      record {
        places = length-set q.stores q.length store ∙ places;
        waiting = omega arith;
        stores =
            λ i other low.
            set_at q.stores q.length store i other (omega arith) bytes (fine.stores i other low);
      }

  less_in_range : QueueInRange (without_first q)
  less_in_range =
      let few = fine.waiting in
      let at : (i : ℕ) → i < 8 → StoreInRange (get_or q.stores i no_store) = λ i. fine.stores i no_store in
      record {
        places = refl;
        waiting = omega arith;
        stores =
            λ i other.
            by_eight (λ n. StoreInRange (get_or (without_first q).stores n other)) (at 1 (omega arith))
            (at 2 (omega arith)) (at 3 (omega arith)) (at 4 (omega arith)) (at 5 (omega arith)) (at 6 (omega arith))
            (at 7 (omega arith)) (at 7 (omega arith)) i;
      }

-- ---- the queues

queue_of_lem : (queues : Queues) (job : ℕ) → QueuesInRange queues → QueueInRange (queue_of queues job)
unfolding queue_of
queue_of_lem queues job all =
    pick_by (λ (q : Queue). QueueInRange q) (eqb job 0) (λ e. all.q0)
    (λ e. pick_by (λ (q : Queue). QueueInRange q) (eqb job 1) (λ f. all.q1)
    (λ f. pick_by (λ (q : Queue). QueueInRange q) (eqb job 2) (λ g. all.q2) (λ g. all.q3)))

with_queue_lem : (queues : Queues) (job : ℕ) (q : Queue) → QueuesInRange queues → QueueInRange q
    → QueuesInRange (with_queue queues job q)
unfolding with_queue
with_queue_lem queues job q all one =
    let With : Four Queue → Type 0 = λ jobs. QueuesInRange (record { jobs = jobs; last = queues.last }) in
    pick_by With (eqb job 0)
    (λ e. record { q0 = one; q1 = all.q1; q2 = all.q2; q3 = all.q3; last = all.last })
    (λ e. pick_by With (eqb job 1)
    (λ f. record { q0 = all.q0; q1 = one; q2 = all.q2; q3 = all.q3; last = all.last })
    (λ f. pick_by With (eqb job 2)
    (λ g. record { q0 = all.q0; q1 = all.q1; q2 = one; q3 = all.q3; last = all.last })
    (λ g. record { q0 = all.q0; q1 = all.q1; q2 = all.q2; q3 = one; last = all.last })))

queued_in_range : (queues : Queues) (job : ℕ) (store : Store) → QueuesInRange queues → StoreInRange store
    → (queue_of queues job).length < 8
    → QueuesInRange (queued queues job store)
unfolding queued
queued_in_range queues job store all bytes room =
    with_queue_lem queues job _ all (more_in_range (queue_of queues job) (queue_of_lem queues job all) store bytes room)

served_in_range : (queues : Queues) (job : ℕ) → QueuesInRange queues → job ≤ 3 → QueuesInRange (served queues job)
unfolding served
served_in_range queues job all low =
    let left = with_queue_lem queues job _ all (less_in_range (queue_of queues job) (queue_of_lem queues job all)) in
    record { q0 = left.q0; q1 = left.q1; q2 = left.q2; q3 = left.q3; last = low }

next_in_range : (queues : Queues) (job : ℕ) → QueuesInRange queues → StoreInRange (next_store queues job)
unfolding next_store
next_in_range queues job all = (queue_of_lem queues job all).stores 0 no_store (omega arith)

-- ---- a state in range is not damaged

sound_queues : (queues : Queues) → QueuesInRange queues → are_sound queues ≡ true
unfolding are_sound
sound_queues queues all =
    let low = all.last in
    simp (
      le-leb queues.jobs.zero.length 8 all.q0.waiting,
      le-leb queues.jobs.one.length 8 all.q1.waiting,
      le-leb queues.jobs.two.length 8 all.q2.waiting,
      le-leb queues.jobs.three.length 8 all.q3.waiting,
      lt-ltb queues.last 4 (omega arith),
    )

pub in_range_whole : (d : Dispatcher) → InRange d → is_whole d ≡ true
unfolding is_whole
in_range_whole d fine =
    simp (sound_queues d.queues fine.queues, controller-stays.in_range_sound d.controller fine.controller)

-- ---- what a call leaves

record Kept (r : Dispatched) : Type 0 where
  state : InRange r.dispatcher
  action : ActionInRange r.action
  handed : HandedInRange r.handed
  most : r.refusal ≤ 17
  other : r.refusal ≡ 1 → ⊥

unchanged_kept : (n : ℕ) (d : Dispatcher) → n ≤ 17 → (n ≡ 1 → ⊥) → InRange d → Kept (unchanged n d)
unfolding ActionInRange HandedInRange
unchanged_kept n d most other fine = record { state = fine; action = tt; handed = tt; most = most; other = other }

module _ (d : Dispatcher) (fine : InRange d) where
  whole : is_whole d ≡ true
  whole = in_range_whole d fine

  queue_refusal_lem : (job : ℕ) (store : Store) → (queue_refusal d job store ≤ 17) × (queue_refusal d job store ≡ 1 → ⊥)
  unfolding queue_refusal pick
  queue_refusal_lem job store =
      let P : ℕ → Type 0 = λ n. (n ≤ 17) × (n ≡ 1 → ⊥) in
      subst (λ (t : Bool). P (pick (not t) 1
      (pick ((leb 4 job || not (names_drive store)) || is_reset_store store) 16
      (pick (leb 8 (queue_of d.queues job).length) 17 0)))) (sym whole)
      (pick_by P ((leb 4 job || not (names_drive store)) || is_reset_store store)
      (λ bad. (omega arith, λ e. omega arith))
      (λ good. pick_by P (leb 8 (queue_of d.queues job).length) (λ full. (omega arith, λ e. omega arith))
      (λ room. (omega arith, λ e. omega arith))))

  queue_kept : (job : ℕ) (store : Store) → StoreInRange store → Kept (queue_call d job store)
  unfolding queue_call
  queue_kept job store bytes =
      pick_by Kept (eqb (queue_refusal d job store) 0)
      (λ done. unchanged_kept 0 _ (omega arith) (λ e. omega arith)
      (record {
        controller = fine.controller;
        queues =
            queued_in_range d.queues job store fine.queues bytes
            (queue_room d job store (eqb-true _ 0 done));
      }))
      (λ some. let number = queue_refusal_lem job store in
      unchanged_kept (queue_refusal d job store) d number.0 number.1 fine)

  handed_over : (job : ℕ) → job ≤ 3 → Kept (hand_over d job)
  unfolding hand_over machine.step controller-range.BytesIn
  handed_over job low =
      let own = controller-stays.stays_in_range d.controller fine.controller
      (machine.Call.hand (next_store d.queues job)) (next_in_range d.queues job fine.queues) in
      let most = own.refusal in
      record {
        state =
            record {
              controller = own.state;
              queues = served_in_range d.queues job fine.queues low;
            };
        action = own.action;
        handed = own.handed;
        most = omega arith;
        other = own.undamaged;
      }

  turn_kept : (t : Turn) → turn_of d.queues ≡ t → Kept (hand_turn d t)
  unfolding hand_turn
  turn_kept None is = unchanged_kept 0 d (omega arith) (λ e. omega arith) fine
  turn_kept (Some job) is =
      let low = fine.queues.last in
      let due = (turn_served d.queues (omega arith) job is).low in
      handed_over job (omega arith)

  hand_kept : Kept (hand_call d)
  unfolding hand_call
  hand_kept =
      subst Kept (sym (pick_yes _ _ whole))
      (pick_by Kept (is_idle d.controller) (λ idle. turn_kept (turn_of d.queues) refl)
      (λ busy. unchanged_kept 4 d (omega arith) (λ e. omega arith) fine))

  plainly : (call : Call) (r : Dispatched) → Kept r → AnswerInRange call (plain r)
  plainly call r kept =
      record {
        state = kept.state;
        action = kept.action;
        handed = kept.handed;
        refusal = kept.most;
        undamaged = kept.other;
        bytes = omega arith;
        most = omega arith;
      }

  -- a call that is passed on leaves the queues
  passed_on : (call : machine.Call) → controller-range.BytesIn call → AnswerInRange (passed call) (step d (passed call))
  unfolding step passed_answer lent_space
  passed_on call bytes =
      let own = controller-stays.stays_in_range d.controller fine.controller call bytes in
      let most = own.refusal in
      subst (AnswerInRange (passed call)) (sym (pick_yes _ _ (sound_queues d.queues fine.queues)))
      (record {
        state = record { controller = own.state; queues = fine.queues };
        action = own.action;
        handed = own.handed;
        refusal = omega arith;
        undamaged = own.undamaged;
        bytes = own.bytes;
        most = own.most;
      })

  pub stays_in_range : (call : Call) → BytesIn call → AnswerInRange call (step d call)
  unfolding step BytesIn
  stays_in_range (queue job store) bytes = plainly _ _ (queue_kept job store bytes)
  stays_in_range hand none = plainly _ _ hand_kept
  stays_in_range (passed call) bytes = passed_on call bytes

-- ---- every list

pub list_stays_in_range : (d : Dispatcher) (calls : List Call) → ListStaysInRange d (run d calls)
unfolding run after AllBytesIn AllAnswersInRange
list_stays_in_range d [] fine bytes = record { each = tt; ends = fine }
list_stays_in_range d (call ∷ calls) fine (low, others) =
    let first = stays_in_range d fine call low in
    let rest = list_stays_in_range (step d call).reply.dispatcher calls first.state others in
    record { each = (first, rest.each); ends = rest.ends }

pub fresh_in_range : InRange fresh_dispatcher
unfolding fresh_dispatcher fresh_queues
fresh_in_range =
    record {
      controller = controller-stays.fresh_in_range;
      queues =
          record {
            q0 = empty_in_range;
            q1 = empty_in_range;
            q2 = empty_in_range;
            q3 = empty_in_range;
            last = omega arith;
          };
    }
