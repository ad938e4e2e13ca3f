-- The theorems of the controller, of the calls themselves: of any call in any state by any answer that the contract of
-- either of its own functions allows, by value or in place, or of every list of such exchanges from a fresh controller.
-- Demand 1: `calls_meet_their_contracts`, `refused_calls_change_nothing`, `calls_refuse_by_the_lowest_number`; of calls
-- of bytes `calls_keep_the_state_in_range`.
-- Demand 2: `calls_refine_the_machine`. In the papers' own numbers: `drives_are_a_ledger`,
-- `orders_are_allowed_by_the_ledger`, `each_store_orders_once`, `status_is_a_ledger`,
-- `records_are_settled_by_the_ledger`, `calls_hand_back_each_record`, `calls_count_their_own_record`,
-- `calls_ask_trusted_retries`, `flags_are_a_ledger`, `strings_say_what_the_ledger_says`,
-- `what_is_carried_out_is_what_came`, `reads_deliver_what_the_image_holds`, `writes_record_what_was_sent`,
-- `what_the_host_sent_is_restored`, `check_bytes_are_the_last_transfers`, `drives_make_the_moves_of_the_contest`.
-- Demand 3: `drives_do_not_interfere`. Job order: `stores_on_different_drives_commute`,
-- `stores_complete_in_every_order`, `six_answers_suffice`, `stores_by_the_link_go_as_handed_over`,
-- `stores_complete_wherever_they_stand`.
-- Assumes nothing.
pub mod Contracts
pub mod Restored
use mathlib.Core.Path.{◌≡◌, refl, sym, ap, ap₂, subst, subst₂, ◌∙◌}
use Prim.Native.Nat.{ℕ}
use native.Mathlib.Omega.{arith}
use mathlib.Core.Bool.{true, false}
use mathlib.Core.List.{List, [], ◌∷◌, ◌++◌}
use Rattle.status.specs.Drives.{drive_of}
use Rattle.controller.specs.declared.controller.Controller.{Controller}
use Rattle.controller.specs.Controller.{fresh, is_idle}
use Rattle.controller.specs.Records.{Answer}
use Rattle.controller.specs.Machine.{Call, Exchange, step, run}
use Rattle.controller.specs.Machine.Call.{taken, result, hand}
use Rattle.transfers.specs.Results.{Result}
use Rattle.controller.specs.Refused.{RefusedUnchanged}
use Rattle.controller.specs.Lists.{after}
use Rattle.controller.specs.Separation.{EndsAlike, Separate}
use Rattle.controller.specs.JobOrder.{all_of, OrderIsFree}
use Rattle.controller.specs.AnyOrder.{Entry, after_all, all_calls}
use Rattle.controller.specs.Scripts.{Script, script_calls, none_refused, Scheduled, entries_of, SixSuffice}
use Rattle.controller.specs.Scripts.{StoresComplete}
use Rattle.controller.specs.Counts.{CountsAreOwn}
use Rattle.controller.specs.OneOrder.{OneOrderEach}
use Rattle.controller.specs.Shown.{StatusIsALedger}
use Rattle.controller.specs.Ledger.{DrivesAreALedger, OrdersAreAllowed, Each}
use Rattle.controller.specs.Delivered.{ReadsDeliver}
use Rattle.controller.specs.Recorded.{WritesRecord}
use Rattle.controller.specs.CheckStore.{ChecksAreKept}
use Rattle.controller.specs.Settled.{RecordsAreSettled}
use Rattle.controller.specs.ContestMoves.{ContestMoves}
use Rattle.controller.specs.Received.{CarriedOutAsReceived}
use Rattle.controller.specs.Sent.{FlagsAreALedger, StringsAreTold}
use Rattle.controller.specs.Retry.{RetryTrusted}
use Rattle.controller.specs.Handed.{RecordsAreHanded}
use Rattle.controller.specs.Reasons.{holds_at, in_range, conditions_of, RefusedByLowest}
use Rattle.controller.specs.InRange.{StaysInRange, AllBytesIn, ListInRange, ListStaysInRange}
use Rattle.controller.specs.Arrivals.{link_calls, AsHandedOver, Arrival, arrivals_of, StoresCompleteAnywhere}
use Rattle.controller.specs.LongCounts.{bears_count, step_tested, CountsWithin, CountsOfBytes}
use Rattle.controller.specs.LongCounts.{with_count, with_string_count, SettledAlike}
use Rattle.controller.proofs.RefusedCalls.{steps_refused_unchanged}
use Rattle.controller.proofs.DrivesAreSeparate.{drives_are_separate}
use Rattle.controller.proofs.OrderIsFree.{runs, order_is_free}
use Rattle.controller.proofs.TicksRest.{scripts_in_any_order, all_calls_after, all_done_idle}
use Rattle.controller.proofs.SixAnswers.{six_suffice}
use Rattle.controller.proofs.CountsAreOwn.{counts_are_own}
use Rattle.controller.proofs.OneOrderEach.{one_order_each}
use Rattle.controller.proofs.DrivesAreALedger.{ledger_is_kept, orders_are_allowed}
use Rattle.controller.proofs.StatusIsALedger.{status_is_kept}
use Rattle.controller.proofs.RecordsAreSettled.{records_are_settled}
use Rattle.controller.proofs.ContestMoves.{contest_moves}
use Rattle.controller.proofs.ReceivedStrings.{carried_out_as_received}
use Rattle.controller.proofs.StringsAreTold.{flags_are_kept, strings_are_told}
use Rattle.controller.proofs.ReadsDeliver.{reads_deliver}
use Rattle.controller.proofs.WritesRecord.{writes_record}
use Rattle.controller.proofs.ChecksAreKept.{checks_are_kept}
use Rattle.controller.proofs.RetriesAreTrusted.{retries_are_trusted}
use Rattle.controller.proofs.RecordsAreHanded.{records_are_handed}
use Rattle.controller.proofs.ReasonsAreLowest.{steps_refused_by_lowest}
use Rattle.controller.proofs.StaysInRange.{stays_in_range, list_stays_in_range, fresh_in_range}
use Rattle.controller.proofs.ByLink.{as_handed_over}
use Rattle.controller.proofs.Arrivals.{arrivals_in_any_order}
use Rattle.controller.proofs.LongCounts.{answers_as_tested, bytes_within}
use Rattle.controller.proofs.CountsDecideNothing.{handed_alike, taken_alike}
use Rattle.operations.specs.declared.store.Store.{Store}
use Rattle.link.specs.declared.state.Collected.{Collected}
use Rattle.link.specs.declared.state.Phase.TheVariants.{AckOffered}
use Rattle.link.specs.declared.state.Body.{Body}
use Rattle.link.specs.State.{store_of}
use Rattle.records.specs.Count.{limit}
use Rattle.controller.proofs.controller.Controller.fresh.Reads as fresh-reads
use Rattle.controller.proofs.Demands.Restored.{RestoredAt, recorded_is_restored}
use Rattle.controller.proofs.Demands.Contracts.{Form, Allows, AllowsBy, Meet, all_met, answers_are_steps}
use Rattle.controller.proofs.Demands.Contracts.{steps_are_allowed}

-- ---- demand 1

-- Each call's own function, by value and in place, and the one that makes a fresh controller, meets its contract, which
-- has no `requires`; so it returns and does nothing undefined, whatever it is handed.
pub calls_meet_their_contracts : {M : Type 1} → Meet M
calls_meet_their_contracts = all_met

-- A refused call changes nothing: whatever state it is handed, damaged ones included, the state comes back as it was,
-- nothing is to be done, no byte is given, and the lent space and the check store are as they were lent.
pub refused_calls_change_nothing : (c : Controller) (call : Call) (answer : Answer) → Allows c call answer
    → RefusedUnchanged c call answer
refused_calls_change_nothing c call answer allowed =
    subst (RefusedUnchanged c call) (sym (answers_are_steps c call answer allowed)) (steps_refused_unchanged c call)

-- ---- lists of calls, and demand 2

-- "each call gets the state that the last one handed back", and each answer is allowed in this sense
unfoldable pub MadeOf : (Controller → Call → Answer → Type 0) → Controller → List Exchange → Type 0
MadeOf Allowed c [] = Unit
MadeOf Allowed c (x ∷ xs) = Allowed c x.call x.answer × MadeOf Allowed x.answer.reply.controller xs

-- each by the contract of either of its call's functions
abbrev pub Made : Controller → List Exchange → Type 0
Made = MadeOf Allows

-- or all by those of one form
abbrev pub MadeBy : Form → Controller → List Exchange → Type 0
MadeBy form = MadeOf (AllowsBy form)

-- a list from a fresh controller, as its own function makes it
pub record FromFreshOf (Allowed : Controller → Call → Answer → Type 0) (xs : List Exchange) : Type 0 where
  pub start : Controller
  pub begins : fresh-reads.Post tt tt start tt
  pub goes : MadeOf Allowed start xs

abbrev pub FromFresh : List Exchange → Type 0
FromFresh = FromFreshOf Allows

abbrev pub FromFreshBy : Form → List Exchange → Type 0
FromFreshBy form = FromFreshOf (AllowsBy form)

-- so whatever holds of the lists in which the forms are mixed holds of those of one form
pub made_by_made : (form : Form) (c : Controller) (xs : List Exchange) → MadeBy form c xs → Made c xs
unfolding MadeOf
made_by_made form c [] made = tt
made_by_made form c (x ∷ xs) (allowed, others) =
    (record { form = form; by = allowed }, made_by_made form x.answer.reply.controller xs others)

pub from_fresh_by_from_fresh : (form : Form) (xs : List Exchange) → FromFreshBy form xs → FromFresh xs
from_fresh_by_from_fresh form xs made =
    record { start = made.start; begins = made.begins; goes = made_by_made form made.start xs made.goes }

unfoldable pub calls_of : List Exchange → List Call
calls_of [] = []
calls_of (x ∷ xs) = x.call ∷ calls_of xs

made_runs : (c : Controller) (xs : List Exchange) → Made c xs → xs ≡ run c (calls_of xs)
unfolding MadeOf calls_of run
made_runs c [] made = refl
made_runs c (x ∷ xs) (allowed, others) =
    let answer = answers_are_steps c x.call x.answer allowed in
    ap₂ (λ (y : Exchange) (ys : List Exchange). y ∷ ys)
    (ap (λ (a : Answer). record { call = x.call; answer = a }) answer)
    (made_runs x.answer.reply.controller xs others
    ∙ ap (λ (a : Answer). run a.reply.controller (calls_of xs)) answer)

-- Every answer, state and buffer is the machine's.
pub calls_refine_the_machine : (xs : List Exchange) → FromFresh xs → xs ≡ run fresh (calls_of xs)
calls_refine_the_machine xs made =
    made_runs made.start xs made.goes ∙ ap (λ (c : Controller). run c (calls_of xs)) made.begins

-- and the machine's run is such a list, in each form, so the demands speak of something
pub runs_are_made : (form : Form) (c : Controller) (calls : List Call) → MadeBy form c (run c calls)
unfolding MadeOf run
runs_are_made form c [] = tt
runs_are_made form c (call ∷ calls) =
    (steps_are_allowed form c call, runs_are_made form (step c call).reply.controller calls)

pub runs_are_from_fresh : (form : Form) (calls : List Call) → FromFreshBy form (run fresh calls)
runs_are_from_fresh form calls = record { start = fresh; begins = refl; goes = runs_are_made form fresh calls }

-- ---- demand 3

-- The drives are separate.
pub drives_do_not_interfere : (xs ys : List Exchange) → FromFresh xs → FromFresh ys → Separate xs ys
drives_do_not_interfere xs ys one two =
    subst₂ Separate (sym (calls_refine_the_machine xs one)) (sym (calls_refine_the_machine ys two))
    (drives_are_separate (calls_of xs) (calls_of ys))

-- ---- job order among drives

-- the calls of two lists, one after the other
made_append : (c : Controller) (xs ys : List Exchange) → Made c (xs ++ ys) → Made c xs × Made (after c xs) ys
unfolding MadeOf after
made_append c [] ys made = (tt, made)
made_append c (x ∷ xs) ys (allowed, made) =
    let (first, others) = made_append x.answer.reply.controller xs ys made in ((allowed, first), others)

unfoldable calls_of_all : List (List Exchange) → List (List Call)
calls_of_all [] = []
calls_of_all (xs ∷ others) = calls_of xs ∷ calls_of_all others

made_all_run : (c : Controller) (stores : List (List Exchange)) → Made c (all_of stores)
    → stores ≡ runs c (calls_of_all stores)
unfolding all_of runs calls_of_all
made_all_run c [] made = refl
made_all_run c (xs ∷ others) made =
    let (first, rest) = made_append c xs (all_of others) made in
    let one = made_runs c xs first in
    ap₂ (λ (l : List Exchange) (m : List (List Exchange)). l ∷ m) one
    (made_all_run (after c xs) others rest ∙ ap (λ (l : List Exchange). runs (after c l) (calls_of_all others)) one)

-- Stores of different drives may be carried out in any order: all four tracks, densities, gaps and guards end alike.
-- From any idle state.
pub stores_on_different_drives_commute : (c : Controller) (stores others : List (List Exchange))
    → Made c (all_of stores)
    → Made c (all_of others)
    → OrderIsFree c stores others
stores_on_different_drives_commute c stores others one two =
    subst₂ (OrderIsFree c) (sym (made_all_run c stores one)) (sym (made_all_run c others two))
    (order_is_free c (calls_of_all stores) (calls_of_all others))

-- the state that calls of transactions leave, one after the other
made_after : (c : Controller) (entries : List Entry) (xs : List Exchange)
    → Made c xs → calls_of xs ≡ all_calls c entries
    → after_all c entries ≡ after c xs
made_after c entries xs made same =
    sym (all_calls_after c entries)
    ∙ sym (ap (after c) (made_runs c xs made ∙ ap (run c) same))

-- Stores that were completed in one order are completed in every other that keeps each drive's own, and the drives end
-- alike: nothing is assumed of the other list but that it has the same stores, with the same answers. From any idle and
-- undamaged state.
pub stores_complete_in_every_order : (c : Controller) (scripts others : List Scheduled) (xs ys : List Exchange)
    → Made c xs
    → calls_of xs ≡ all_calls c (entries_of scripts)
    → Made c ys
    → calls_of ys ≡ all_calls c (entries_of others)
    → StoresComplete c scripts others xs ys
stores_complete_in_every_order c scripts others xs ys one first two second idle sound done own =
    let both = scripts_in_any_order c scripts others idle sound done own in
    let here = made_after c (entries_of scripts) xs one first in
    let there = made_after c (entries_of others) ys two second in
    record {
      done = both.done;
      idle =
          subst (λ (k : Controller). is_idle k ≡ true) there
          (all_done_idle c (entries_of others) idle both.done);
      ends =
          λ d low.
          subst₂ (λ (k l : Controller). EndsAlike (drive_of k.body.drives d) (drive_of l.body.drives d))
          here there
          (both.ends d low);
    }

-- A store of which no call is refused ends idle within the six answers of its script: whatever state it begins in.
pub six_answers_suffice : (c : Controller) (script : Script) (xs : List Exchange) → Made c xs
    → calls_of xs ≡ script_calls script c → SixSuffice c xs
six_answers_suffice c script xs made same =
    subst (SixSuffice c) (sym (made_runs c xs made ∙ ap (run c) same)) (six_suffice c script)

-- A store that comes by the link, as eight bytes whose ACK is taken, is answered as one that is handed over, and leaves
-- the same state: from any idle and undamaged state.
pub stores_by_the_link_go_as_handed_over : (c : Controller) (store : Store) (unused : ℕ) (xs : List Exchange)
    (handed : Answer)
    → Made c xs
    → calls_of xs ≡ link_calls store unused
    → Allows c (hand store) handed
    → AsHandedOver c xs handed
stores_by_the_link_go_as_handed_over c store unused xs handed made same allowed =
    subst₂ (AsHandedOver c) (sym (made_runs c xs made ∙ ap (run c) same))
    (sym (answers_are_steps c (hand store) handed allowed)) (as_handed_over c store unused)

-- Stores of bytes of which no call is refused in one order are completed, with no call refused, in every other that
-- keeps the order of each of the four drives, and the drives end alike: whichever of them come by the link and
-- whichever by hand in each list, and wherever stores stand that name drive 4-7. From any idle state in range; no other
-- state need be known to be undamaged.
pub stores_complete_wherever_they_stand : (c : Controller) (arrivals others : List Arrival) (xs ys : List Exchange)
    → Made c xs
    → calls_of xs ≡ all_calls c (arrivals_of arrivals)
    → Made c ys
    → calls_of ys ≡ all_calls c (arrivals_of others)
    → StoresCompleteAnywhere c arrivals others xs ys
stores_complete_wherever_they_stand c arrivals others xs ys one first two second idle fine names too bytes none own =
    let these = made_runs c xs one ∙ ap (run c) first in
    let those = made_runs c ys two ∙ ap (run c) second in
    let both = arrivals_in_any_order c arrivals others idle fine names too bytes
    (subst (λ (l : List Exchange). none_refused l ≡ true) these none) own in
    let here = made_after c (arrivals_of arrivals) xs one first in
    let there = made_after c (arrivals_of others) ys two second in
    record {
      unrefused = subst (λ (l : List Exchange). none_refused l ≡ true) (sym those) both.unrefused;
      completed = both.completed;
      idle = subst (λ (k : Controller). is_idle k ≡ true) there both.idle;
      ends =
          λ d low.
          subst₂ (λ (k l : Controller). EndsAlike (drive_of k.body.drives d) (drive_of l.body.drives d))
          here there
          (both.ends d low);
    }

-- ---- claims over every list, resets and stores that name no drive included

-- Wherever bit 22 is set, secondary is the count of the record that the last store carried out itself passed or wrote,
-- or that it supplied; none is valid where no tape was installed and code 7 replaced the code, but a supplied one.
pub calls_count_their_own_record : (xs : List Exchange) → FromFresh xs → CountsAreOwn xs
calls_count_their_own_record xs made =
    subst CountsAreOwn (sym (calls_refine_the_machine xs made)) (counts_are_own (calls_of xs))

-- Every motion order is of a store that was carried out and has not ended, and no store gives two. Which six bytes it
-- is, and that the drive's report, guard and gap allowed it, is `orders_are_allowed_by_the_ledger`.
pub each_store_orders_once : (xs : List Exchange) → FromFresh xs → OneOrderEach xs
each_store_orders_once xs made =
    subst OneOrderEach (sym (calls_refine_the_machine xs made)) (one_order_each (calls_of xs))

-- The record of code, motion and count is handed back once for each store that ended, and is what primary and secondary
-- then show; nothing else hands one back, and none is lost.
pub calls_hand_back_each_record : (xs : List Exchange) → FromFresh xs → RecordsAreHanded xs
calls_hand_back_each_record xs made =
    subst RecordsAreHanded (sym (calls_refine_the_machine xs made)) (records_are_handed (calls_of xs))

-- ---- claims in the papers' own numbers, over every list

-- Each drive's report, track, density, gap and guard are what its reports, stores and results give it: "A report
-- without 32 makes that gap 3."; "A new track sets the gap to 0 if BOT is reported, else 3"; "Gap: 00 keeps it, 11
-- gives 3; ..".
pub drives_are_a_ledger : (xs : List Exchange) → FromFresh xs → DrivesAreALedger xs
drives_are_a_ledger xs made =
    subst (λ (l : List Exchange). DrivesAreALedger l) (sym (calls_refine_the_machine xs made))
    (ledger_is_kept (calls_of xs))

-- Every motion order was allowed by the drive's report, guard and gap in that ledger when its store was carried out: an
-- order 50, 24 or 60 by a report with 32 and 2 and none of 4, 8 and 128, and by a guard that is clear, a gap 0 or a
-- report with 16; every other by its own line.
pub orders_are_allowed_by_the_ledger : (xs : List Exchange) → FromFresh xs → OrdersAreAllowed xs
orders_are_allowed_by_the_ledger xs made =
    subst OrdersAreAllowed (sym (calls_refine_the_machine xs made)) (orders_are_allowed (calls_of xs))

-- Bits 2 and 8-22 of primary, secondary, tertiary and quintary are what the stores, the answers to GO, the data calls
-- and the results give them: the code that ends a store at once, the final code, motion and count of a result, when a
-- retry is asked for, and what the scan of the marks tells.
pub status_is_a_ledger : (xs : List Exchange) → FromFresh xs → StatusIsALedger xs
status_is_a_ledger xs made =
    subst StatusIsALedger (sym (calls_refine_the_machine xs made)) (status_is_kept (calls_of xs))

-- A record that is handed back has code 04 only where the drive's report, guard and gap did not allow the store's order
-- when it was carried out; its motion is that of the store and the final code of its result, and 00 without a result.
pub records_are_settled_by_the_ledger : (xs : List Exchange) → FromFresh xs → RecordsAreSettled xs
records_are_settled_by_the_ledger xs made =
    subst RecordsAreSettled (sym (calls_refine_the_machine xs made)) (records_are_settled (calls_of xs))

-- The moves of the contest: a write with code 0 leaves gap 0 and one with another code does not, a skip reverse that
-- does not lose the tape leaves gap 0, and a drive whose guard is set is written from gap 0 alone, but for BOT warning.
pub drives_make_the_moves_of_the_contest : (xs : List Exchange) → FromFresh xs → ContestMoves xs
drives_make_the_moves_of_the_contest xs made =
    subst ContestMoves (sym (calls_refine_the_machine xs made)) (contest_moves (calls_of xs))

-- A store that is carried out is the last eight bytes that came, #64 first, and a load the last four, #62 first; "All
-- bytes XOR to 0".
pub what_is_carried_out_is_what_came : (xs : List Exchange) → FromFresh xs → CarriedOutAsReceived xs
what_is_carried_out_is_what_came xs made =
    subst CarriedOutAsReceived (sym (calls_refine_the_machine xs made)) (carried_out_as_received (calls_of xs))

-- Changed and enable are what the list gives them: "Review sets changed if any report differs from its copy, then
-- copies all four."; "08/09 clear/set enable"; changed is cleared by an interrupt that is accepted and by nothing else.
pub flags_are_a_ledger : (xs : List Exchange) → FromFresh xs → FlagsAreALedger xs
flags_are_a_ledger xs made =
    subst (λ (l : List Exchange). FlagsAreALedger l) (sym (calls_refine_the_machine xs made))
    (flags_are_kept (calls_of xs))

-- A string goes out where document 01 says that one is sent and nowhere else, and says, byte for byte, what the list
-- gives: #66 with the word of the load that was taken, #68 with secondary, #69 with primary, or the same six bytes
-- again; their XOR is 0.
pub strings_say_what_the_ledger_says : (xs : List Exchange) → FromFresh xs → StringsAreTold xs
strings_say_what_the_ledger_says xs made =
    subst StringsAreTold (sym (calls_refine_the_machine xs made)) (strings_are_told (calls_of xs))

-- A read whose image holds bytes in the drive's density, nothing being marked bad, delivers those bytes, or as many as
-- fit with bit 17, and counts them; of any image and marks, "c bytes as the image has them", and "for 16, the lesser of
-- c and 256 for each data blockette before the stop". A read with a supplied count delivers the same, with its first
-- blockette as zeros.
pub reads_deliver_what_the_image_holds : (xs : List Exchange) → FromFresh xs → ReadsDeliver xs
reads_deliver_what_the_image_holds xs made =
    subst ReadsDeliver (sym (calls_refine_the_machine xs made)) (reads_deliver (calls_of xs))

-- A data call gives the image of the bytes that the host sent, as they are written: those behind the ones thrown away,
-- up to a bad one, and zeros.
pub writes_record_what_was_sent : (xs : List Exchange) → FromFresh xs → WritesRecord xs
writes_record_what_was_sent xs made =
    subst WritesRecord (sym (calls_refine_the_machine xs made)) (writes_record (calls_of xs))

-- That image is the one that the contract of `ctc_build` gives of those bytes; and spoiled in GCR, with at most one odd
-- and one even blockette bad and those alone marked, it is restored to them by any answer that the contract of
-- `ctc_restore` allows.
pub what_the_host_sent_is_restored : (xs : List Exchange) → FromFresh xs → Each RestoredAt xs
what_the_host_sent_is_restored xs made = recorded_is_restored xs _ fresh (writes_record_what_was_sent xs made)

-- After a GCR transfer the check store holds the two check blockettes of its image, "or zeros for c = 0", and zeros
-- where the image of a read or forward skip went unused; any other call leaves it. "Check bytes deliver the 512 of the
-- check store."
pub check_bytes_are_the_last_transfers : (xs : List Exchange) → FromFresh xs → ChecksAreKept xs
check_bytes_are_the_last_transfers xs made =
    subst ChecksAreKept (sym (calls_refine_the_machine xs made)) (checks_are_kept (calls_of xs))

-- ---- the retry bit

-- Bit 2 is set exactly where the final code asks for a retry, or any of bits 16-20 that counts: of any result that is
-- not refused, whatever state it is handed.
pub calls_ask_trusted_retries : (c : Controller) (r : Result) (space check : List ℕ) (answer : Answer)
    → Allows c (result r space check) answer → RetryTrusted c r answer
unfolding step
calls_ask_trusted_retries c r space check answer allowed =
    subst (RetryTrusted c r) (sym (answers_are_steps c (result r space check) answer allowed))
    (retries_are_trusted c r space check)

-- ---- refusals

-- Every call is refused by the lowest number whose condition holds, and carried out where none does: of any call,
-- whatever state and whatever else it is handed.
pub calls_refuse_by_the_lowest_number : (c : Controller) (call : Call) (answer : Answer) → Allows c call answer
    → RefusedByLowest c call answer
calls_refuse_by_the_lowest_number c call answer allowed =
    subst (RefusedByLowest c call) (sym (answers_are_steps c call answer allowed)) (steps_refused_by_lowest c call)

-- So a state with a field out of range is refused as 1, whatever the call.
pub a_damaged_state_is_refused_by_every_call : (c : Controller) (call : Call) (answer : Answer) → Allows c call answer
    → in_range c ≡ false → answer.reply.refusal ≡ 1
unfolding conditions_of holds_at
a_damaged_state_is_refused_by_every_call c call answer allowed damaged =
    let by_1 = (calls_refuse_by_the_lowest_number c call answer allowed).lowest 1 (rw damaged) in
    omega (arith, by_1.0, by_1.1)

-- ---- ranges

-- A call whose inputs are bytes leaves a state in range in range, whatever state in range it is handed: "track, gap,
-- selected drive, motion 0-3; density 0-1; code 0-31; noes so far 0-4; secondary 0-65,535", a string's lead and length,
-- and every byte below 256. What it hands out is in range too, and it is not refused with 1.
pub calls_keep_the_state_in_range : (c : Controller) (call : Call) (answer : Answer) → Allows c call answer
    → StaysInRange c call answer
calls_keep_the_state_in_range c call answer allowed =
    subst (StaysInRange c call) (sym (answers_are_steps c call answer allowed)) (λ fine. stays_in_range c fine call)

-- and so does every list of such calls
pub lists_keep_the_state_in_range : (c : Controller) (xs : List Exchange) → Made c xs → ListStaysInRange c xs
lists_keep_the_state_in_range c xs made =
    subst (ListStaysInRange c) (sym (made_runs c xs made)) (list_stays_in_range c (calls_of xs))

-- No call of a list of calls of bytes from a fresh controller is refused with 1, "a field out of range", and every
-- state and answer of the list is in range.
pub no_call_finds_a_damaged_state : (xs : List Exchange) → FromFresh xs → AllBytesIn xs → ListInRange fresh xs
no_call_finds_a_damaged_state xs made bytes =
    subst (ListStaysInRange fresh) (sym (calls_refine_the_machine xs made)) (list_stays_in_range fresh (calls_of xs))
    fresh_in_range bytes

-- ---- counts above the limit

-- "Since 65,535 is the limit, no 16-bit count is above it. Show that, then remove the test, ..; every call answers as
-- before." (document 02, request 10): with the test put back, every call answers the same, in any state and of any call
-- in which the bytes that say a count are bytes.
pub calls_answer_as_with_the_test : (c : Controller) (call : Call) (answer : Answer) → Allows c call answer
    → CountsOfBytes c call → answer ≡ step_tested 65535 c call
unfolding limit
calls_answer_as_with_the_test c call answer allowed of_bytes =
    answers_are_steps c call answer allowed ∙ answers_as_tested 65535 c call (bytes_within c call of_bytes)

-- "Tapes written before read the same" (document 02, request 3): of records of at most 16,384 bytes every call answers
-- as it did when that was the limit. What a data call builds, and what a result delivers, tells and refuses, is the
-- same, and so is what becomes of a store.
pub earlier_tapes_read_the_same : (c : Controller) (call : Call) (answer : Answer) → Allows c call answer
    → CountsWithin 16384 c call → answer ≡ step_tested 16384 c call
earlier_tapes_read_the_same c call answer allowed within =
    answers_are_steps c call answer allowed ∙ answers_as_tested 16384 c call within

-- And no count of a write, nor one that is supplied, decides what becomes of its store: with any other two bytes for
-- the count a handing is refused alike, leaves the same state but for its phase, which holds the store, and hands back
-- the same record; and so does a taken.
pub counts_decide_nothing_of_a_handing : (c : Controller) (store : Store) (high low : ℕ) (one other : Answer)
    → bears_count store ≡ true
    → Allows c (hand store) one
    → Allows c (hand (with_count store high low)) other
    → SettledAlike one other
counts_decide_nothing_of_a_handing c store high low one other bears first second =
    subst₂ SettledAlike (sym (answers_are_steps c (hand store) one first))
    (sym (answers_are_steps c (hand (with_count store high low)) other second))
    (handed_alike store high low bears c)

pub counts_decide_nothing_of_a_taken : (b : Body) (s : Collected) (high low : ℕ) (one other : Answer)
    → bears_count (store_of s) ≡ true
    → Allows (record { body = b; phase = AckOffered s }) taken one
    → Allows (record { body = b; phase = AckOffered (with_string_count s high low) }) taken other
    → SettledAlike one other
counts_decide_nothing_of_a_taken b s high low one other bears first second =
    let here : Controller = record { body = b; phase = AckOffered s } in
    let there : Controller = record { body = b; phase = AckOffered (with_string_count s high low) } in
    subst₂ SettledAlike (sym (answers_are_steps here taken one first))
    (sym (answers_are_steps there taken other second))
    (taken_alike b s high low bears)
