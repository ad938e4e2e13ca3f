-- The theorems of the functions for C, by their contracts. Of each, whatever bytes it is handed for a state:
-- `functions_meet_their_contracts`, `refused_functions_change_nothing`, `functions_are_the_dispatchers_calls`,
-- `functions_refuse_what_is_no_state` and `functions_refuse_by_the_lowest_number`; on a state in range
-- `functions_answer_as_the_dispatcher` and `functions_keep_the_state_in_range`. Of lists of them from `ctc_fresh`:
-- `functions_refine_the_dispatcher`, and what the dispatcher's theorems then say: `drives_do_not_interfere`,
-- `functions_hand_over_in_order` and `no_function_finds_a_damaged_state`; from any state in range
-- `functions_go_as_the_dispatcher`, `functions_hand_over_in_time`, `jobs_are_a_ledger`, `functions_hand_over_in_turn`,
-- `stores_on_different_drives_commute` and `stores_complete_in_every_order`; and every claim of the controller over
-- lists, by its name there.
-- Assumes nothing.
pub mod Contracts
use mathlib.Core.Path.{◌≡◌, refl, sym, ap, subst, ◌∙◌}
use mathlib.Core.Bool.{true, false}
use mathlib.Core.List.{List, [], ◌∷◌}
use contract.Lifetimes.{Lfts}
use denote.Ref.{MutBor, at_last}
use Prim.Native.Nat.{ℕ}
use lib.Dec.{eqb}
use borrow.Author.Tests.{eqb-true}
use Rattle.common.proofs.PickLaws.{by_test, pick_yes, pick_no, where_refused}
use Rattle.transfers.specs.Results.{Result}
use Rattle.controller.specs.declared.controller.Controller.{Controller}
use Rattle.controller.specs.Machine as machine
use Rattle.controller.specs.Machine.Call.{result}
use Rattle.controller.specs.Reasons.{IsLowest}
use Rattle.controller.specs.Retry.{RetryTrusted}
use Rattle.controller.specs.AnyOrder.{all_calls}
use Rattle.controller.specs.Scripts.{Scheduled, entries_of, StoresComplete}
use Rattle.controller.specs.Counts.{CountsAreOwn}
use Rattle.controller.specs.OneOrder.{OneOrderEach}
use Rattle.controller.specs.Handed.{RecordsAreHanded}
use Rattle.controller.specs.Ledger.{DrivesAreALedger, OrdersAreAllowed}
use Rattle.controller.specs.Shown.{StatusIsALedger}
use Rattle.controller.specs.Settled.{RecordsAreSettled}
use Rattle.controller.specs.ContestMoves.{ContestMoves}
use Rattle.controller.specs.Received.{CarriedOutAsReceived}
use Rattle.controller.specs.Sent.{FlagsAreALedger, StringsAreTold}
use Rattle.controller.specs.Delivered.{ReadsDeliver}
use Rattle.controller.specs.Recorded.{WritesRecord}
use Rattle.controller.specs.CheckStore.{ChecksAreKept}
use Rattle.controller.proofs.Demands as controller-demands
use Rattle.queues.specs.declared.queue.Queue.{Queue}
use Rattle.queues.specs.declared.jobs.Queues.{Queues}
use Rattle.dispatcher.specs.declared.dispatcher.Dispatcher.{Dispatcher}
use Rattle.dispatcher.specs.Dispatcher.{Answer, fresh_dispatcher}
use Rattle.dispatcher.specs.Lists as dispatcher
use Rattle.dispatcher.specs.Lists.{Call, step, run, after}
use Rattle.dispatcher.specs.Lists.Call.{passed}
use Rattle.dispatcher.specs.Refused.{lent_space, lent_check}
use Rattle.dispatcher.specs.Reasons.{in_range, conditions_of}
use Rattle.dispatcher.specs.Order.{InOrder}
use Rattle.dispatcher.specs.Fairness.{Fair}
use Rattle.dispatcher.specs.JobLedger.{JobLedger, fresh_ledger, ledger_from, SoundQueue, SoundQueues, IsLedger}
use Rattle.dispatcher.specs.Turns.{WorksFrom}
use Rattle.dispatcher.specs.JobOrder.{OrderIsFree}
use Rattle.dispatcher.specs.Separation.{own_answer, sent_from, sent, Separate}
use Rattle.dispatcher.specs.InRange as range
use Rattle.dispatcher.specs.InRange.{QueueInRange, QueuesInRange, InRange, BytesIn, AnswerInRange, ListInRange}
use Rattle.dispatcher.proofs.RefusedCalls.{steps_refused_unchanged}
use Rattle.dispatcher.proofs.StaysInRange.{fresh_in_range}
use Rattle.dispatcher.proofs.JobsAreALedger.{fresh_is_ledger}
use Rattle.controller.proofs.Demands.Contracts.{Form}
use Rattle.controller.proofs.Demands.Contracts.Form.{in_place}
use Rattle.dispatcher.proofs.Demands as demands
use Rattle.dispatcher.proofs.Demands.Contracts as contracts
use Rattle.layout.specs.Reading.{state_of, is_state}
use Rattle.layout.specs.Writing.{state_bytes}
use Rattle.firmware.specs.Calls.{Ended, Left, ended, left, left_by, end_call, called, ctc_fresh}
use Rattle.firmware.specs.Lists.{Exchange, seen_answer, seen_in, AllFromC, Unchanged}
use Rattle.firmware.proofs.CallLaws.{called_on_none, called_on_state}
use Rattle.firmware.proofs.Seen.{bytes_left, seen_is_answer}
use Rattle.firmware.proofs.interface.ctc_fresh.Reads as fresh-reads
use Rattle.firmware.proofs.Demands.Contracts.{Allows, Meet, all_met, answers_are_called, called_is_allowed}
use Rattle.firmware.proofs.Demands.Contracts.{allowed_is_call}

-- ---- each function

-- Each meets its contract, which has no `requires`: it returns and does nothing undefined, whatever it is handed.
pub functions_meet_their_contracts : {M : Type 1} → Meet M
functions_meet_their_contracts = all_met

-- A refused call changes nothing, whatever bytes it is handed for a state: state, answer, lent space and check store
-- are as they were.
refusal_told : (a : Answer) (state answer : List ℕ) → (left_by a state answer).ended.refusal ≡ a.reply.refusal
unfolding end_call
refusal_told a state answer =
    by_test (eqb a.reply.refusal 0)
    (λ good. ap (λ (e : Ended). e.refusal) (pick_yes _ _ good) ∙ sym (eqb-true _ 0 good))
    (λ bad. ap (λ (e : Ended). e.refusal) (pick_no _ _ bad))

ended_refused : (a : Answer) (state answer : List ℕ) → (a.reply.refusal ≡ 0 → ⊥)
    → end_call a.reply a.bytes state answer ≡ ended a.reply.refusal state answer
unfolding end_call
ended_refused a state answer some = where_refused _ _ _ some

abbrev Kept : List ℕ → Call → List ℕ → Left → Type 0
Kept state call answer l = (l.ended.refusal ≡ 0 → ⊥) → Unchanged state call answer l

kept_by_step : (state : List ℕ) (call : Call) (answer : List ℕ)
    → Kept state call answer (left_by (step (state_of state) call) state answer)
kept_by_step state call answer refused =
    let a = step (state_of state) call in
    let some : a.reply.refusal ≡ 0 → ⊥ = λ none. refused (refusal_told a state answer ∙ none) in
    let same = steps_refused_unchanged (state_of state) call some in
    let kept = ended_refused a state answer some in
    record {
      state_same = ap (λ (e : Ended). e.state) kept;
      answer_same = ap (λ (e : Ended). e.answer) kept;
      space_same = same.space;
      check_same = same.check;
    }

kept_by_call : (state : List ℕ) (call : Call) (answer : List ℕ) → Kept state call answer (called call state answer)
kept_by_call state call answer =
    by_test (is_state state)
    (λ is. subst (Kept state call answer) (called_on_state call state answer (step (state_of state) call) is refl)
    (kept_by_step state call answer))
    (λ none. subst (Kept state call answer) (called_on_none call state answer none)
    (λ refused. record { state_same = refl; answer_same = refl; space_same = refl; check_same = refl }))

pub refused_functions_change_nothing : (state : List ℕ) (call : Call) (answer : List ℕ) (l : Left)
    → Allows state call answer l
    → (l.ended.refusal ≡ 0 → ⊥)
    → Unchanged state call answer l
refused_functions_change_nothing state call answer l allowed =
    subst (Kept state call answer) (sym (answers_are_called state call answer l allowed))
    (kept_by_call state call answer)

-- Each function is the dispatcher's own call on the state that its bytes hold, whatever that state is: its refusal, the
-- bytes of the next state and of the answer, and what it leaves in the lent space and in the check store.
pub functions_are_the_dispatchers_calls : (state : List ℕ) (call : Call) (answer : List ℕ) (l : Left)
    → Allows state call answer l
    → is_state state ≡ true
    → l ≡ left_by (step (state_of state) call) state answer
functions_are_the_dispatchers_calls state call answer l allowed is =
    answers_are_called state call answer l allowed
    ∙ sym (called_on_state call state answer (step (state_of state) call) is refl)

-- Bytes that no state has are refused with 1, and nothing is changed.
pub functions_refuse_what_is_no_state : (state : List ℕ) (call : Call) (answer : List ℕ) (l : Left)
    → Allows state call answer l
    → is_state state ≡ false
    → l ≡ left (ended 1 state answer) (lent_space call) (lent_check call)
functions_refuse_what_is_no_state state call answer l allowed none =
    answers_are_called state call answer l allowed ∙ sym (called_on_none call state answer none)

module _ (state : List ℕ) (call : Call) (answer : List ℕ) (l : Left) (allowed : Allows state call answer l)
    (is : is_state state ≡ true) where
  own_refusal : l.ended.refusal ≡ (step (state_of state) call).reply.refusal
  own_refusal =
      ap (λ (x : Left). x.ended.refusal) (functions_are_the_dispatchers_calls state call answer l allowed is)
      ∙ refusal_told (step (state_of state) call) state answer

  own_allowed : contracts.Allows (state_of state) call (step (state_of state) call)
  own_allowed =
      record {
        form = in_place;
        by =
            contracts.steps_are_allowed in_place (state_of state) call (allowed_is_call state call answer l allowed);
      }

  -- A call is refused by the lowest number whose condition holds of that state, and carried out where none does.
  pub functions_refuse_by_the_lowest_number : IsLowest l.ended.refusal (conditions_of (state_of state) call)
  functions_refuse_by_the_lowest_number =
      subst (λ (n : ℕ). IsLowest n (conditions_of (state_of state) call)) (sym own_refusal)
      (demands.calls_refuse_by_the_lowest_number (state_of state) call _ own_allowed)

  -- So a state with a field out of range is refused with 1 by every function.
  pub a_damaged_state_is_refused_by_every_function : in_range (state_of state) ≡ false → l.ended.refusal ≡ 1
  a_damaged_state_is_refused_by_every_function damaged =
      own_refusal ∙ demands.a_damaged_state_is_refused_by_every_call (state_of state) call _ own_allowed damaged

-- ---- on the bytes of a state in range

module _ (d : Dispatcher) (fine : InRange d) (call : Call) (bytes : BytesIn call) (answer : List ℕ) (l : Left)
    (allowed : Allows (state_bytes d) call answer l) where
  -- What is seen of a function is the dispatcher's own answer.
  pub functions_answer_as_the_dispatcher : seen_answer l ≡ step d call
  functions_answer_as_the_dispatcher =
      ap seen_answer (answers_are_called (state_bytes d) call answer l allowed)
      ∙ seen_is_answer d fine call answer bytes

  seen_allowed_by : (form : Form) → contracts.AllowsBy form d call (seen_answer l)
  seen_allowed_by form =
      subst (contracts.AllowsBy form d call) (sym functions_answer_as_the_dispatcher)
      (contracts.steps_are_allowed form d call (allowed_is_call (state_bytes d) call answer l allowed))

  seen_allowed : contracts.Allows d call (seen_answer l)
  seen_allowed = record { form = in_place; by = seen_allowed_by in_place }

  -- The state that is left is again in range, in every field, with eight places in each queue, and so is what is handed
  -- out; and no such call is refused with 1.
  pub functions_keep_the_state_in_range : AnswerInRange call (seen_answer l)
  functions_keep_the_state_in_range =
      demands.calls_keep_the_state_in_range d call (seen_answer l) seen_allowed fine bytes

  -- and its bytes are those of that state
  next_bytes : l.ended.state ≡ state_bytes (seen_answer l).reply.dispatcher
  next_bytes =
      ap (λ (x : Left). x.ended.state) (answers_are_called (state_bytes d) call answer l allowed)
      ∙ bytes_left d fine call answer
      ∙ ap (λ (a : Answer). state_bytes a.reply.dispatcher) (sym functions_answer_as_the_dispatcher)

-- Of any result, on the bytes of any state in range.
pub calls_ask_trusted_retries : (d : Dispatcher) → InRange d → (r : Result) (space check : List ℕ)
    → BytesIn (passed (result r space check))
    → (answer : List ℕ) (l : Left)
    → Allows (state_bytes d) (passed (result r space check)) answer l
    → RetryTrusted d.controller r (own_answer (seen_answer l))
calls_ask_trusted_retries d fine r space check bytes answer l allowed =
    demands.calls_ask_trusted_retries d r space check (seen_answer l)
    (seen_allowed d fine (passed (result r space check)) bytes answer l allowed)

-- ---- lists

-- each call gets the bytes that the last one left
unfoldable pub Made : List ℕ → List Exchange → Type 0
Made state [] = Unit
Made state (x ∷ xs) = Allows state x.call x.before x.left × Made x.left.ended.state xs

-- What is seen of a list of the functions, from the bytes of any state in range, is a list of the dispatcher's own
-- calls from that state, by value and in place alike.
pub functions_go_as_the_dispatcher : (form : Form) (d : Dispatcher) (xs : List Exchange) → InRange d
    → Made (state_bytes d) xs
    → AllFromC xs
    → demands.MadeBy form d (seen_in xs)
unfolding Made seen_in range.AllBytesIn demands.MadeOf
functions_go_as_the_dispatcher form d [] fine made from = tt
functions_go_as_the_dispatcher form d (x ∷ xs) fine (allowed, others) (one, rest) = (
  seen_allowed_by d fine x.call one x.before x.left allowed form,
  functions_go_as_the_dispatcher form (seen_answer x.left).reply.dispatcher xs
      (functions_keep_the_state_in_range d fine x.call one x.before x.left allowed).state
      (subst (λ (s : List ℕ). Made s xs) (next_bytes d fine x.call one x.before x.left allowed) others)
      rest,
)

-- so a list of which the dispatcher's theorems speak
seen_made : (d : Dispatcher) (xs : List Exchange) → InRange d → Made (state_bytes d) xs → AllFromC xs
    → demands.Made d (seen_in xs)
seen_made d xs fine made from =
    demands.made_by_made in_place d (seen_in xs) (functions_go_as_the_dispatcher in_place d xs fine made from)

-- from a state that ctc_fresh made
pub record FromFresh (xs : List Exchange) : Type 0 where
  pub lifetimes : Lfts 1
  pub array : MutBor (List ℕ)
  pub refusal : ℕ
  pub start : List ℕ
  pub begins : fresh-reads.Post lifetimes (array, tt) refusal (at_last array start, tt)
  pub goes : Made start xs

-- a fresh state's bytes
fresh_bytes : (xs : List Exchange) (made : FromFresh xs) → made.start ≡ state_bytes fresh_dispatcher
unfolding ctc_fresh
fresh_bytes xs made = made.begins.1

fresh_goes : (xs : List Exchange) → FromFresh xs → Made (state_bytes fresh_dispatcher) xs
fresh_goes xs made = subst (λ (s : List ℕ). Made s xs) (fresh_bytes xs made) made.goes

seen_from_fresh : (xs : List Exchange) → FromFresh xs → AllFromC xs → demands.FromFresh (seen_in xs)
seen_from_fresh xs made from =
    record {
      start = fresh_dispatcher;
      begins = refl;
      goes = seen_made fresh_dispatcher xs fresh_in_range (fresh_goes xs made) from;
    }

-- What is seen of a list of the functions from ctc_fresh, each getting the bytes that the last one left, is the
-- dispatcher's own list of the same calls from a fresh dispatcher.
pub functions_refine_the_dispatcher : (xs : List Exchange) → FromFresh xs → AllFromC xs
    → seen_in xs ≡ run fresh_dispatcher (demands.calls_of (seen_in xs))
functions_refine_the_dispatcher xs made from =
    demands.calls_refine_the_dispatcher (seen_in xs) (seen_from_fresh xs made from)

-- and such a list there is for all calls that the dispatcher has, so the theorems speak of something; the answer's
-- bytes may be any before a call
unfoldable pub run_bytes : List ℕ → List Call → List Exchange
run_bytes state [] = []
run_bytes state (call ∷ calls) =
    record { call = call; before = []; left = called call state [] }
    ∷ run_bytes (called call state []).ended.state calls

runs_are_made : (state : List ℕ) (calls : List Call) → demands.AreCalls calls → Made state (run_bytes state calls)
unfolding Made run_bytes demands.AreCalls
runs_are_made state [] are = tt
runs_are_made state (call ∷ calls) (is, are) =
    (called_is_allowed state call [] is, runs_are_made (called call state []).ended.state calls are)

pub runs_are_from_fresh : (calls : List Call) → demands.AreCalls calls → FromFresh (run_bytes ctc_fresh calls)
runs_are_from_fresh calls are =
    record {
      lifetimes = ([], tt);
      array = record { ref_ptr = (0, 0); ghost_name = 0; now = [] };
      refusal = 0;
      start = ctc_fresh;
      begins = (refl, refl);
      goes = runs_are_made ctc_fresh calls are;
    }

-- ---- so the dispatcher's theorems hold of them

-- The drives are separate, whatever comes by the link and by hand.
pub drives_do_not_interfere : (xs ys : List Exchange) → FromFresh xs → AllFromC xs → FromFresh ys → AllFromC ys
    → Separate (seen_in xs) (seen_in ys)
drives_do_not_interfere xs ys one from_one two from_two =
    demands.drives_do_not_interfere (seen_in xs) (seen_in ys) (seen_from_fresh xs one from_one)
    (seen_from_fresh ys two from_two)

-- The stores of a job are handed over in the order in which they were queued, each once, and none is lost.
pub functions_hand_over_in_order : (xs : List Exchange) → FromFresh xs → AllFromC xs → InOrder (seen_in xs)
functions_hand_over_in_order xs made from =
    demands.calls_hand_over_in_order (seen_in xs) (seen_from_fresh xs made from)

-- No call of a list is refused with 1, and every state and answer of it is in range.
pub no_function_finds_a_damaged_state : (xs : List Exchange) → FromFresh xs → AllFromC xs
    → ListInRange fresh_dispatcher (seen_in xs)
no_function_finds_a_damaged_state xs made from =
    demands.no_call_finds_a_damaged_state (seen_in xs) (seen_from_fresh xs made from) from

-- ---- from any state in range

queue_sound : (q : Queue) → QueueInRange q → SoundQueue q
queue_sound q one = record { places = one.places; within = one.waiting }

queues_sound : (queues : Queues) → QueuesInRange queues → SoundQueues queues
queues_sound queues all =
    record {
      q0 = queue_sound queues.jobs.zero all.q0;
      q1 = queue_sound queues.jobs.one all.q1;
      q2 = queue_sound queues.jobs.two all.q2;
      q3 = queue_sound queues.jobs.three all.q3;
      last = all.last;
    }

-- A store that waits in it is handed over in time.
pub functions_hand_over_in_time : (d : Dispatcher) (xs : List Exchange) → InRange d → Made (state_bytes d) xs
    → AllFromC xs
    → Fair d (seen_in xs)
functions_hand_over_in_time d xs fine made from =
    demands.calls_hand_over_in_time d (seen_in xs) (queues_sound d.queues fine.queues)
    (seen_made d xs fine made from)

-- a list from the bytes of a state in range, whose queues are those of this ledger
pub record MadeFrom (l : JobLedger) (d : Dispatcher) (xs : List Exchange) : Type 0 where
  pub fine : InRange d
  pub is : IsLedger d.queues l
  pub made : Made (state_bytes d) xs
  pub from : AllFromC xs

pub fresh_is_made : (xs : List Exchange) → FromFresh xs → AllFromC xs → MadeFrom fresh_ledger fresh_dispatcher xs
fresh_is_made xs made from =
    record { fine = fresh_in_range; is = fresh_is_ledger; made = fresh_goes xs made; from = from }

seen_from : (l : JobLedger) (d : Dispatcher) (xs : List Exchange) → MadeFrom l d xs → demands.MadeFrom l d (seen_in xs)
seen_from l d xs from =
    record {
      sound = queues_sound d.queues from.fine.queues;
      is = from.is;
      made = seen_made d xs from.fine from.made from.from;
    }

-- What waits in each queue, and the last job served, are those of the ledger of the list.
pub jobs_are_a_ledger : (l : JobLedger) (d : Dispatcher) (xs : List Exchange) → MadeFrom l d xs
    → IsLedger (after d (seen_in xs)).queues (ledger_from l (seen_in xs))
jobs_are_a_ledger l d xs from = demands.jobs_are_a_ledger l d (seen_in xs) (seen_from l d xs from)

-- The first job with a store waiting after the last served is served, and a legal store is queued where there is room.
pub functions_hand_over_in_turn : (l : JobLedger) (d : Dispatcher) (xs : List Exchange) → MadeFrom l d xs
    → WorksFrom l d (seen_in xs)
functions_hand_over_in_turn l d xs from = demands.calls_hand_over_in_turn l d (seen_in xs) (seen_from l d xs from)

-- Two states with one idle controller may serve their jobs in any order that keeps each drive's own.
pub stores_on_different_drives_commute : (k : JobLedger) (d : Dispatcher) (xs : List Exchange)
    (l : JobLedger) (e : Dispatcher) (ys : List Exchange)
    → MadeFrom k d xs
    → MadeFrom l e ys
    → OrderIsFree k d (seen_in xs) l e (seen_in ys)
stores_on_different_drives_commute k d xs l e ys one two =
    demands.stores_on_different_drives_commute k d (seen_in xs) l e (seen_in ys) (seen_from k d xs one)
    (seen_from l e ys two)

-- Stores that were completed from one are completed from the other in every such order.
pub stores_complete_in_every_order : (c : Controller) (scripts others : List Scheduled)
    (k : JobLedger) (one : Queues) (xs : List Exchange) (l : JobLedger) (other : Queues) (ys : List Exchange)
    → MadeFrom k (record { controller = c; queues = one }) xs
    → controller-demands.calls_of (sent_from k (seen_in xs)) ≡ all_calls c (entries_of scripts)
    → MadeFrom l (record { controller = c; queues = other }) ys
    → controller-demands.calls_of (sent_from l (seen_in ys)) ≡ all_calls c (entries_of others)
    → StoresComplete c scripts others (sent_from k (seen_in xs)) (sent_from l (seen_in ys))
stores_complete_in_every_order c scripts others k one xs l other ys here first there second =
    demands.stores_complete_in_every_order c scripts others k one (seen_in xs) l other (seen_in ys)
    (seen_from k _ xs here) first (seen_from l _ ys there) second

-- ---- and the controller's, of what is sent

of_what_is_sent :
    (P : List machine.Exchange → Type 0)
    → ((ys : List dispatcher.Exchange) → demands.FromFresh ys → P (sent ys))
    → (xs : List Exchange)
    → FromFresh xs
    → AllFromC xs
    → P (sent (seen_in xs))
of_what_is_sent P shown xs made from = shown (seen_in xs) (seen_from_fresh xs made from)

pub calls_count_their_own_record : (xs : List Exchange) → FromFresh xs → AllFromC xs
    → CountsAreOwn (sent (seen_in xs))
calls_count_their_own_record =
    of_what_is_sent CountsAreOwn demands.calls_count_their_own_record

pub each_store_orders_once : (xs : List Exchange) → FromFresh xs → AllFromC xs
    → OneOrderEach (sent (seen_in xs))
each_store_orders_once =
    of_what_is_sent OneOrderEach demands.each_store_orders_once

pub calls_hand_back_each_record : (xs : List Exchange) → FromFresh xs → AllFromC xs
    → RecordsAreHanded (sent (seen_in xs))
calls_hand_back_each_record =
    of_what_is_sent RecordsAreHanded demands.calls_hand_back_each_record

pub drives_are_a_ledger : (xs : List Exchange) → FromFresh xs → AllFromC xs
    → DrivesAreALedger (sent (seen_in xs))
drives_are_a_ledger =
    of_what_is_sent DrivesAreALedger demands.drives_are_a_ledger

pub orders_are_allowed_by_the_ledger : (xs : List Exchange) → FromFresh xs → AllFromC xs
    → OrdersAreAllowed (sent (seen_in xs))
orders_are_allowed_by_the_ledger =
    of_what_is_sent OrdersAreAllowed demands.orders_are_allowed_by_the_ledger

pub status_is_a_ledger : (xs : List Exchange) → FromFresh xs → AllFromC xs
    → StatusIsALedger (sent (seen_in xs))
status_is_a_ledger =
    of_what_is_sent StatusIsALedger demands.status_is_a_ledger

pub records_are_settled_by_the_ledger : (xs : List Exchange) → FromFresh xs → AllFromC xs
    → RecordsAreSettled (sent (seen_in xs))
records_are_settled_by_the_ledger =
    of_what_is_sent RecordsAreSettled demands.records_are_settled_by_the_ledger

pub drives_make_the_moves_of_the_contest : (xs : List Exchange) → FromFresh xs → AllFromC xs
    → ContestMoves (sent (seen_in xs))
drives_make_the_moves_of_the_contest =
    of_what_is_sent ContestMoves demands.drives_make_the_moves_of_the_contest

pub what_is_carried_out_is_what_came : (xs : List Exchange) → FromFresh xs → AllFromC xs
    → CarriedOutAsReceived (sent (seen_in xs))
what_is_carried_out_is_what_came =
    of_what_is_sent CarriedOutAsReceived demands.what_is_carried_out_is_what_came

pub flags_are_a_ledger : (xs : List Exchange) → FromFresh xs → AllFromC xs
    → FlagsAreALedger (sent (seen_in xs))
flags_are_a_ledger =
    of_what_is_sent (λ (l : List machine.Exchange). FlagsAreALedger l) demands.flags_are_a_ledger

pub strings_say_what_the_ledger_says : (xs : List Exchange) → FromFresh xs → AllFromC xs
    → StringsAreTold (sent (seen_in xs))
strings_say_what_the_ledger_says =
    of_what_is_sent StringsAreTold demands.strings_say_what_the_ledger_says

pub reads_deliver_what_the_image_holds : (xs : List Exchange) → FromFresh xs → AllFromC xs
    → ReadsDeliver (sent (seen_in xs))
reads_deliver_what_the_image_holds =
    of_what_is_sent ReadsDeliver demands.reads_deliver_what_the_image_holds

pub writes_record_what_was_sent : (xs : List Exchange) → FromFresh xs → AllFromC xs
    → WritesRecord (sent (seen_in xs))
writes_record_what_was_sent =
    of_what_is_sent WritesRecord demands.writes_record_what_was_sent

pub check_bytes_are_the_last_transfers : (xs : List Exchange) → FromFresh xs → AllFromC xs
    → ChecksAreKept (sent (seen_in xs))
check_bytes_are_the_last_transfers =
    of_what_is_sent ChecksAreKept demands.check_bytes_are_the_last_transfers
