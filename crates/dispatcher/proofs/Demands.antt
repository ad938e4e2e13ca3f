-- The theorems of the dispatcher, of its calls themselves, by value and in place. Demand 1:
-- `calls_meet_their_contracts`, `refused_calls_change_nothing`, `calls_refuse_by_the_lowest_number` and
-- `calls_keep_the_state_in_range`. 2: `calls_refine_the_dispatcher`. 3: `drives_do_not_interfere`. And of every list:
-- `calls_hand_over_in_time` and `calls_hand_over_in_order`; by the ledger of the list `jobs_are_a_ledger` and
-- `calls_hand_over_in_turn`; and by `sent_is_from_fresh` every theorem of the controller over lists, of what is sent.
-- Assumes nothing.
pub mod Contracts
use mathlib.Core.Path.{◌≡◌, refl, sym, ap, ap₂, subst, subst₂, ◌∙◌}
use mathlib.Core.Bool.{false}
use mathlib.Core.List.{List, [], ◌∷◌}
use Prim.Native.Nat.{ℕ}
use native.Mathlib.Omega.{arith}
use Rattle.common.proofs.PickLaws.{pick_by}
use Rattle.status.specs.Drives.{drive_of}
use Rattle.transfers.specs.Results.{Result}
use Rattle.controller.specs.declared.controller.Controller.{Controller}
use Rattle.controller.specs.Machine as machine
use Rattle.controller.specs.Machine.Call.{result}
use Rattle.controller.specs.Lists as controller-lists
use Rattle.controller.specs.Separation.{EndsAlike}
use Rattle.controller.specs.JobOrder.{AllComplete, completed_stores, SameOwnOrder}
use Rattle.controller.specs.AnyOrder.{all_calls}
use Rattle.controller.specs.Scripts.{Scheduled, entries_of, StoresComplete}
use Rattle.controller.specs.Counts.{CountsAreOwn}
use Rattle.controller.specs.OneOrder.{OneOrderEach}
use Rattle.controller.specs.Handed.{RecordsAreHanded}
use Rattle.controller.specs.Ledger.{DrivesAreALedger, OrdersAreAllowed}
use Rattle.controller.specs.Shown.{StatusIsALedger}
use Rattle.controller.specs.Settled.{RecordsAreSettled}
use Rattle.controller.specs.ContestMoves.{ContestMoves}
use Rattle.controller.specs.Received.{CarriedOutAsReceived}
use Rattle.controller.specs.Sent.{FlagsAreALedger, StringsAreTold}
use Rattle.controller.specs.Delivered.{ReadsDeliver}
use Rattle.controller.specs.Recorded.{WritesRecord}
use Rattle.controller.specs.CheckStore.{ChecksAreKept}
use Rattle.controller.specs.Reasons.{holds_at}
use Rattle.controller.specs.Retry.{RetryTrusted}
use Rattle.controller.proofs.RetriesAreTrusted.{retries_are_trusted}
use Rattle.controller.proofs.Demands as controller-demands
use Rattle.controller.proofs.Demands.Contracts.{Form}
use Rattle.controller.proofs.Demands.Contracts.Form.{in_place}
use Rattle.queues.specs.declared.jobs.Queues.{Queues}
use Rattle.queues.specs.Jobs.{are_sound}
use Rattle.dispatcher.specs.declared.dispatcher.Dispatcher.{Dispatcher}
use Rattle.dispatcher.specs.Dispatcher.{Answer, fresh_dispatcher, passed_answer}
use Rattle.dispatcher.specs.Lists.{Call, Exchange, step, run, after}
use Rattle.dispatcher.specs.Lists.Call.{passed}
use Rattle.dispatcher.specs.Refused.{RefusedUnchanged}
use Rattle.dispatcher.specs.Reasons.{in_range, conditions_of, RefusedByLowest}
use Rattle.dispatcher.specs.InRange.{StaysInRange, AllBytesIn, ListInRange, ListStaysInRange}
use Rattle.dispatcher.specs.Order.{InOrder}
use Rattle.dispatcher.specs.Fairness.{Fair}
use Rattle.dispatcher.specs.JobLedger.{JobLedger, fresh_ledger, ledger_from, SoundQueues, IsLedger}
use Rattle.dispatcher.specs.Separation.{own_answer, sent_from, sent, Separate}
use Rattle.dispatcher.specs.Turns.{WorksFrom}
use Rattle.dispatcher.specs.JobOrder.{OrderIsFree}
use Rattle.dispatcher.proofs.RefusedCalls.{steps_refused_unchanged}
use Rattle.dispatcher.proofs.ReasonsAreLowest.{steps_refused_by_lowest}
use Rattle.dispatcher.proofs.StaysInRange.{stays_in_range, list_stays_in_range, fresh_in_range}
use Rattle.dispatcher.proofs.InOrder.{in_order}
use Rattle.dispatcher.proofs.Fair.{fair}
use Rattle.dispatcher.proofs.JobsAreALedger.{agrees, is_ledger, sound_kept, kept_sound_queues, fresh_sound}
use Rattle.dispatcher.proofs.JobsAreALedger.{fresh_is_ledger, kept_after, ledger_kept, sent_run}
use Rattle.dispatcher.proofs.InTurn.{works}
use Rattle.dispatcher.proofs.DrivesAreSeparate.{drives_are_separate}
use Rattle.dispatcher.proofs.dispatcher.Dispatcher.fresh.Reads as fresh-reads
use Rattle.dispatcher.proofs.Demands.Contracts.{Allows, AllowsBy, IsCall, Meet, all_met, answers_are_steps}
use Rattle.dispatcher.proofs.Demands.Contracts.{steps_are_allowed}

-- ---- demand 1

-- Each call's own function, by value and in place, and the one that makes a fresh dispatcher, meets its contract, which
-- has no `requires`; so it returns and does nothing undefined, whatever it is handed.
pub calls_meet_their_contracts : {M : Type 1} → Meet M
calls_meet_their_contracts = all_met

-- A refused call changes nothing: whatever state it is handed, damaged ones included, the state with its queues comes
-- back as it was, nothing is to be done, no byte is given, and the lent space and the check store are as they were
-- lent.
pub refused_calls_change_nothing : (d : Dispatcher) (call : Call) (answer : Answer) → Allows d call answer
    → RefusedUnchanged d call answer
refused_calls_change_nothing d call answer allowed =
    subst (RefusedUnchanged d call) (sym (answers_are_steps d call answer allowed)) (steps_refused_unchanged d call)

-- ---- refusals

-- Every call is refused by the lowest number whose condition holds, and carried out where none does: of any call,
-- whatever state and whatever else it is handed.
pub calls_refuse_by_the_lowest_number : (d : Dispatcher) (call : Call) (answer : Answer) → Allows d call answer
    → RefusedByLowest d call answer
calls_refuse_by_the_lowest_number d call answer allowed =
    subst (RefusedByLowest d call) (sym (answers_are_steps d call answer allowed)) (steps_refused_by_lowest d call)

-- So a state with a field out of range, of the queues or of the controller, is refused as 1, whatever the call.
pub a_damaged_state_is_refused_by_every_call : (d : Dispatcher) (call : Call) (answer : Answer) → Allows d call answer
    → in_range d ≡ false → answer.reply.refusal ≡ 1
unfolding conditions_of holds_at
a_damaged_state_is_refused_by_every_call d call answer allowed damaged =
    let by_1 = (calls_refuse_by_the_lowest_number d call answer allowed).lowest 1 (rw damaged) in
    omega (arith, by_1.0, by_1.1)

-- ---- lists of calls, and demand 2

-- "each call gets the state that the last one handed back", and each answer is allowed in this sense
unfoldable pub MadeOf : (Dispatcher → Call → Answer → Type 0) → Dispatcher → List Exchange → Type 0
MadeOf Allowed d [] = Unit
MadeOf Allowed d (x ∷ xs) = Allowed d x.call x.answer × MadeOf Allowed x.answer.reply.dispatcher xs

-- each by the contract of either of its call's functions
abbrev pub Made : Dispatcher → List Exchange → Type 0
Made = MadeOf Allows

-- or all by those of one form
abbrev pub MadeBy : Form → Dispatcher → List Exchange → Type 0
MadeBy form = MadeOf (AllowsBy form)

-- a list from a fresh dispatcher, as its own function makes it
pub record FromFreshOf (Allowed : Dispatcher → Call → Answer → Type 0) (xs : List Exchange) : Type 0 where
  pub start : Dispatcher
  pub begins : fresh-reads.Post tt tt start tt
  pub goes : MadeOf Allowed start xs

abbrev pub FromFresh : List Exchange → Type 0
FromFresh = FromFreshOf Allows

abbrev pub FromFreshBy : Form → List Exchange → Type 0
FromFreshBy form = FromFreshOf (AllowsBy form)

-- so whatever holds of the lists in which the forms are mixed holds of those of one form
pub made_by_made : (form : Form) (d : Dispatcher) (xs : List Exchange) → MadeBy form d xs → Made d xs
unfolding MadeOf
made_by_made form d [] made = tt
made_by_made form d (x ∷ xs) (allowed, others) =
    (record { form = form; by = allowed }, made_by_made form x.answer.reply.dispatcher xs others)

pub from_fresh_by_from_fresh : (form : Form) (xs : List Exchange) → FromFreshBy form xs → FromFresh xs
from_fresh_by_from_fresh form xs made =
    record { start = made.start; begins = made.begins; goes = made_by_made form made.start xs made.goes }

unfoldable pub calls_of : List Exchange → List Call
calls_of [] = []
calls_of (x ∷ xs) = x.call ∷ calls_of xs

made_runs : (d : Dispatcher) (xs : List Exchange) → Made d xs → xs ≡ run d (calls_of xs)
unfolding MadeOf calls_of run
made_runs d [] made = refl
made_runs d (x ∷ xs) (allowed, others) =
    let answer = answers_are_steps d x.call x.answer allowed in
    ap₂ (λ (y : Exchange) (ys : List Exchange). y ∷ ys)
    (ap (λ (a : Answer). record { call = x.call; answer = a }) answer)
    (made_runs x.answer.reply.dispatcher xs others
    ∙ ap (λ (a : Answer). run a.reply.dispatcher (calls_of xs)) answer)

-- Every answer, state and buffer is that of the dispatcher in document 02, over the machine of document 01.
pub calls_refine_the_dispatcher : (xs : List Exchange) → FromFresh xs → xs ≡ run fresh_dispatcher (calls_of xs)
calls_refine_the_dispatcher xs made =
    made_runs made.start xs made.goes ∙ ap (λ (d : Dispatcher). run d (calls_of xs)) made.begins

-- and such a list there is, in each form, for all calls that the dispatcher has, so the theorems speak of something
unfoldable pub AreCalls : List Call → Type 0
AreCalls [] = Unit
AreCalls (call ∷ calls) = IsCall call × AreCalls calls

runs_are_made : (form : Form) (d : Dispatcher) (calls : List Call) → AreCalls calls → MadeBy form d (run d calls)
unfolding MadeOf run AreCalls
runs_are_made form d [] are = tt
runs_are_made form d (call ∷ calls) (is, are) =
    (steps_are_allowed form d call is, runs_are_made form (step d call).reply.dispatcher calls are)

pub runs_are_from_fresh : (form : Form) (calls : List Call) → AreCalls calls
    → FromFreshBy form (run fresh_dispatcher calls)
runs_are_from_fresh form calls are =
    record { start = fresh_dispatcher; begins = refl; goes = runs_are_made form fresh_dispatcher calls are }

-- ---- demand 3

-- The drives are separate, whatever comes by the link and by hand.
pub drives_do_not_interfere : (xs ys : List Exchange) → FromFresh xs → FromFresh ys → Separate xs ys
drives_do_not_interfere xs ys one two =
    subst₂ Separate (sym (calls_refine_the_dispatcher xs one)) (sym (calls_refine_the_dispatcher ys two))
    (drives_are_separate (calls_of xs) (calls_of ys))

-- ---- the jobs

-- The stores of a job are handed over in the order in which they were queued, each once, and none is lost.
pub calls_hand_over_in_order : (xs : List Exchange) → FromFresh xs → InOrder xs
calls_hand_over_in_order xs made = subst InOrder (sym (calls_refine_the_dispatcher xs made)) (in_order (calls_of xs))

-- Whatever is called in a state whose queues are sound, a store that waits in it is handed over in time: also in
-- states that no list from a fresh dispatcher leaves.
pub calls_hand_over_in_time : (d : Dispatcher) (xs : List Exchange) → SoundQueues d.queues → Made d xs → Fair d xs
calls_hand_over_in_time d xs sound made =
    subst (Fair d) (sym (made_runs d xs made)) (fair d (calls_of xs) (sound_kept d.queues sound))

-- Sound queues stay so, whatever is called.
pub calls_keep_the_queues_sound : (d : Dispatcher) (xs : List Exchange) → SoundQueues d.queues → Made d xs
    → SoundQueues (after d xs).queues
calls_keep_the_queues_sound d xs sound made =
    subst (λ (l : List Exchange). SoundQueues (after d l).queues) (sym (made_runs d xs made))
    (kept_sound_queues _ (kept_after (calls_of xs) d (sound_kept d.queues sound)))

-- ---- it works

-- a list from a state whose queues are sound, and are those of this ledger, each answer allowed in this sense
pub record MadeFromOf (Allowed : Dispatcher → Call → Answer → Type 0) (l : JobLedger) (d : Dispatcher)
    (xs : List Exchange) : Type 0 where
  pub sound : SoundQueues d.queues
  pub is : IsLedger d.queues l
  pub made : MadeOf Allowed d xs

abbrev pub MadeFrom : JobLedger → Dispatcher → List Exchange → Type 0
MadeFrom = MadeFromOf Allows

abbrev pub MadeFromBy : Form → JobLedger → Dispatcher → List Exchange → Type 0
MadeFromBy form = MadeFromOf (AllowsBy form)

fresh_is_made_of :
    (Allowed : Dispatcher → Call → Answer → Type 0)
    (xs : List Exchange)
    → FromFreshOf Allowed xs
    → MadeFromOf Allowed fresh_ledger fresh_dispatcher xs
fresh_is_made_of Allowed xs made =
    record {
      sound = fresh_sound;
      is = fresh_is_ledger;
      made = subst (λ (d : Dispatcher). MadeOf Allowed d xs) made.begins made.goes;
    }

-- the ledger of a fresh dispatcher has nothing waiting, and job 3 served last
pub fresh_is_made : (xs : List Exchange) → FromFresh xs → MadeFrom fresh_ledger fresh_dispatcher xs
fresh_is_made = fresh_is_made_of Allows

-- also of a list that is all of one form, which stays one
pub fresh_is_made_by : (form : Form) (xs : List Exchange) → FromFreshBy form xs
    → MadeFromBy form fresh_ledger fresh_dispatcher xs
fresh_is_made_by form = fresh_is_made_of (AllowsBy form)

-- In each queue waits what its job queued and was not handed over yet, in order, and the last job served is that of the
-- last handing with a store waiting: by the calls and which of them were refused alone.
pub jobs_are_a_ledger : (l : JobLedger) (d : Dispatcher) (xs : List Exchange) → MadeFrom l d xs
    → IsLedger (after d xs).queues (ledger_from l xs)
jobs_are_a_ledger l d xs from =
    subst (λ (ys : List Exchange). IsLedger (after d ys).queues (ledger_from l ys)) (sym (made_runs d xs from.made))
    (is_ledger _ _
    (ledger_kept (calls_of xs) l d (sound_kept d.queues from.sound) (agrees d.queues l from.is)))

-- By the ledger of the list, which has the stores of each job that wait and the last job served: an idle dispatcher
-- refuses no handing, but with 1; "with nothing queued it does nothing"; else the first job with a store waiting after
-- the last served is served, and the controller does what it would had the ACK of that job's first store just been
-- taken. A legal store is taken while fewer than eight of its job wait. From every state whose queues are sound.
pub calls_hand_over_in_turn : (l : JobLedger) (d : Dispatcher) (xs : List Exchange) → MadeFrom l d xs → WorksFrom l d xs
calls_hand_over_in_turn l d xs from =
    subst (WorksFrom l d) (sym (made_runs d xs from.made))
    (works (calls_of xs) l d (sound_kept d.queues from.sound) (agrees d.queues l from.is))

-- ---- what reaches the controller

-- What a list sends to the controller is a list of the controller's own calls, each answered as its contract allows, by
-- value and in place alike, which leaves the controller that the dispatcher has.
pub record SentIsMade (l : JobLedger) (d : Dispatcher) (xs : List Exchange) : Type 0 where
  pub made_by : (form : Form) → controller-demands.MadeBy form d.controller (sent_from l xs)
  pub left : controller-lists.after d.controller (sent_from l xs) ≡ (after d xs).controller

pub sent_is_made : (l : JobLedger) (d : Dispatcher) (xs : List Exchange) → MadeFrom l d xs → SentIsMade l d xs
sent_is_made l d xs from =
    let own = sent_run (calls_of xs) l d (sound_kept d.queues from.sound) (agrees d.queues l from.is) in
    subst (SentIsMade l d) (sym (made_runs d xs from.made))
    (record {
      made_by =
          λ form.
          subst (controller-demands.MadeBy form d.controller) (sym own.runs)
          (controller-demands.runs_are_made form d.controller own.calls);
      left = own.ends;
    })

-- so a list in which the forms are mixed, of which the controller's theorems speak
sent_made : (l : JobLedger) (d : Dispatcher) (xs : List Exchange) → MadeFrom l d xs
    → controller-demands.Made d.controller (sent_from l xs)
sent_made l d xs from =
    controller-demands.made_by_made in_place d.controller (sent_from l xs) ((sent_is_made l d xs from).made_by in_place)

-- So every theorem of the controller over lists from Fresh holds of what a list from a fresh dispatcher sends.
pub sent_is_from_fresh : (form : Form) (xs : List Exchange) → FromFresh xs
    → controller-demands.FromFreshBy form (sent xs)
unfolding fresh_dispatcher
sent_is_from_fresh form xs made =
    record {
      start = fresh_dispatcher.controller;
      begins = refl;
      goes = (sent_is_made fresh_ledger fresh_dispatcher xs (fresh_is_made xs made)).made_by form;
    }

of_what_is_sent :
    (P : List machine.Exchange → Type 0)
    → ((ys : List machine.Exchange) → controller-demands.FromFresh ys → P ys)
    → (xs : List Exchange)
    → FromFresh xs
    → P (sent xs)
of_what_is_sent P shown xs made =
    shown (sent xs)
    (controller-demands.from_fresh_by_from_fresh in_place (sent xs) (sent_is_from_fresh in_place xs made))

pub calls_count_their_own_record : (xs : List Exchange) → FromFresh xs → CountsAreOwn (sent xs)
calls_count_their_own_record = of_what_is_sent CountsAreOwn controller-demands.calls_count_their_own_record

pub each_store_orders_once : (xs : List Exchange) → FromFresh xs → OneOrderEach (sent xs)
each_store_orders_once = of_what_is_sent OneOrderEach controller-demands.each_store_orders_once

pub calls_hand_back_each_record : (xs : List Exchange) → FromFresh xs → RecordsAreHanded (sent xs)
calls_hand_back_each_record = of_what_is_sent RecordsAreHanded controller-demands.calls_hand_back_each_record

pub drives_are_a_ledger : (xs : List Exchange) → FromFresh xs → DrivesAreALedger (sent xs)
drives_are_a_ledger = of_what_is_sent DrivesAreALedger controller-demands.drives_are_a_ledger

pub orders_are_allowed_by_the_ledger : (xs : List Exchange) → FromFresh xs → OrdersAreAllowed (sent xs)
orders_are_allowed_by_the_ledger = of_what_is_sent OrdersAreAllowed controller-demands.orders_are_allowed_by_the_ledger

pub status_is_a_ledger : (xs : List Exchange) → FromFresh xs → StatusIsALedger (sent xs)
status_is_a_ledger = of_what_is_sent StatusIsALedger controller-demands.status_is_a_ledger

pub records_are_settled_by_the_ledger : (xs : List Exchange) → FromFresh xs → RecordsAreSettled (sent xs)
records_are_settled_by_the_ledger =
    of_what_is_sent RecordsAreSettled controller-demands.records_are_settled_by_the_ledger

pub drives_make_the_moves_of_the_contest : (xs : List Exchange) → FromFresh xs → ContestMoves (sent xs)
drives_make_the_moves_of_the_contest =
    of_what_is_sent ContestMoves controller-demands.drives_make_the_moves_of_the_contest

pub what_is_carried_out_is_what_came : (xs : List Exchange) → FromFresh xs → CarriedOutAsReceived (sent xs)
what_is_carried_out_is_what_came =
    of_what_is_sent CarriedOutAsReceived controller-demands.what_is_carried_out_is_what_came

pub flags_are_a_ledger : (xs : List Exchange) → FromFresh xs → FlagsAreALedger (sent xs)
flags_are_a_ledger =
    of_what_is_sent (λ (l : List machine.Exchange). FlagsAreALedger l) controller-demands.flags_are_a_ledger

pub strings_say_what_the_ledger_says : (xs : List Exchange) → FromFresh xs → StringsAreTold (sent xs)
strings_say_what_the_ledger_says = of_what_is_sent StringsAreTold controller-demands.strings_say_what_the_ledger_says

pub reads_deliver_what_the_image_holds : (xs : List Exchange) → FromFresh xs → ReadsDeliver (sent xs)
reads_deliver_what_the_image_holds = of_what_is_sent ReadsDeliver controller-demands.reads_deliver_what_the_image_holds

pub writes_record_what_was_sent : (xs : List Exchange) → FromFresh xs → WritesRecord (sent xs)
writes_record_what_was_sent = of_what_is_sent WritesRecord controller-demands.writes_record_what_was_sent

pub check_bytes_are_the_last_transfers : (xs : List Exchange) → FromFresh xs → ChecksAreKept (sent xs)
check_bytes_are_the_last_transfers = of_what_is_sent ChecksAreKept controller-demands.check_bytes_are_the_last_transfers

-- Of any result that is passed on, in any state.
pub calls_ask_trusted_retries : (d : Dispatcher) (r : Result) (space check : List ℕ) (answer : Answer)
    → Allows d (passed (result r space check)) answer → RetryTrusted d.controller r (own_answer answer)
unfolding step machine.step passed_answer
calls_ask_trusted_retries d r space check answer allowed =
    let c = d.controller in
    subst (λ (a : Answer). RetryTrusted c r (own_answer a)) (sym (answers_are_steps d _ answer allowed))
    (pick_by (λ (a : Answer). RetryTrusted c r (own_answer a)) (are_sound d.queues)
    (λ sound. retries_are_trusted c r space check) (λ hurt done. absurd (omega arith)))

-- ---- ranges

-- A call whose inputs are bytes leaves a state in range in range, whatever state in range it is handed: the
-- controller's fields, each queue's eight places and length, 0-8, the last job served, 0-3, and every byte below 256.
-- What it hands out is in range too, and it is not refused with 1.
pub calls_keep_the_state_in_range : (d : Dispatcher) (call : Call) (answer : Answer) → Allows d call answer
    → StaysInRange d call answer
calls_keep_the_state_in_range d call answer allowed =
    subst (StaysInRange d call) (sym (answers_are_steps d call answer allowed)) (λ fine. stays_in_range d fine call)

-- and so does every list of such calls
pub lists_keep_the_state_in_range : (d : Dispatcher) (xs : List Exchange) → Made d xs → ListStaysInRange d xs
lists_keep_the_state_in_range d xs made =
    subst (ListStaysInRange d) (sym (made_runs d xs made)) (list_stays_in_range d (calls_of xs))

-- No call of a list of calls of bytes from a fresh dispatcher is refused with 1, and every state and answer of the list
-- is in range.
pub no_call_finds_a_damaged_state : (xs : List Exchange) → FromFresh xs → AllBytesIn xs
    → ListInRange fresh_dispatcher xs
no_call_finds_a_damaged_state xs made bytes =
    subst (ListStaysInRange fresh_dispatcher) (sym (calls_refine_the_dispatcher xs made))
    (list_stays_in_range fresh_dispatcher (calls_of xs))
    fresh_in_range bytes

-- ---- job order among drives

-- Two dispatchers with one idle controller may serve their jobs in any order that keeps each drive's own: all four
-- tracks, densities, gaps and guards end alike.
pub stores_on_different_drives_commute : (k : JobLedger) (d : Dispatcher) (xs : List Exchange)
    (l : JobLedger) (e : Dispatcher) (ys : List Exchange)
    → MadeFrom k d xs
    → MadeFrom l e ys
    → OrderIsFree k d xs l e ys
stores_on_different_drives_commute k d xs l e ys one two stores others is idle done done_too same n low =
    let here = sent_is_made k d xs one in
    let there = sent_is_made l e ys two in
    let c = d.controller in
    let first = ap (controller-lists.after c) (sym done.sends) ∙ here.left in
    let second = ap₂ controller-lists.after (sym is) (sym done_too.sends) ∙ there.left in
    let made = subst (controller-demands.Made c) done.sends (sent_made k d xs one) in
    let made_too = subst₂ controller-demands.Made is done_too.sends (sent_made l e ys two) in
    subst₂ (λ (a b : Controller). EndsAlike (drive_of a.body.drives n) (drive_of b.body.drives n)) first second
    (controller-demands.stores_on_different_drives_commute c stores others made made_too idle done.all
    (subst (λ (k : Controller). AllComplete k others) is done_too.all)
    (subst (λ (k : Controller). SameOwnOrder (completed_stores c stores) (completed_stores k others)) is same) n low)

-- Stores that one dispatcher completed are completed by the other in every order that keeps each drive's own.
pub stores_complete_in_every_order : (c : Controller) (scripts others : List Scheduled)
    (k : JobLedger) (one : Queues) (xs : List Exchange) (l : JobLedger) (other : Queues) (ys : List Exchange)
    → MadeFrom k (record { controller = c; queues = one }) xs
    → controller-demands.calls_of (sent_from k xs) ≡ all_calls c (entries_of scripts)
    → MadeFrom l (record { controller = c; queues = other }) ys
    → controller-demands.calls_of (sent_from l ys) ≡ all_calls c (entries_of others)
    → StoresComplete c scripts others (sent_from k xs) (sent_from l ys)
stores_complete_in_every_order c scripts others k one xs l other ys here first there second =
    controller-demands.stores_complete_in_every_order c scripts others (sent_from k xs) (sent_from l ys)
    (sent_made k _ xs here) first (sent_made l _ ys there) second
