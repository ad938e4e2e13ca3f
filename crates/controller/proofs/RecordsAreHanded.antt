-- The record of code, motion and count is handed back once for each store that ended, and for nothing else
-- (`records_are_handed`, over the definitions).
-- Assumes nothing.
use mathlib.Core.Path.{◌≡◌, refl, sym, ap, subst, ◌∙◌}
use Prim.Native.Nat.{ℕ, ◌/◌, ◌%◌}
use mathlib.Core.Bool.{Bool, true, false, not, ◌&&◌}
use mathlib.Core.List.{List, [], ◌∷◌}
use lib.Dec.{eqb}
use lib.ListN.{length}
use Rattle.common.specs.Pick.{pick}
use Rattle.common.proofs.PickLaws.{pick_yes, pick_no}
use Rattle.status.specs.declared.drives.Drive.{Drive}
use Rattle.status.specs.declared.words.Outcome.{Outcome}
use Rattle.status.specs.declared.words.ResultRecord.{ResultRecord}
use Rattle.status.specs.Drives.{with_track, with_density, with_guard}
use Rattle.operations.specs.declared.operation.Operation.{Operation}
use Rattle.operations.specs.declared.decode.Decoded.{Decoded}
use Rattle.operations.specs.declared.decode.Decoded.TheVariants.{Reset, Code, Track, Enable, Guard, Density, Operate}
use Rattle.operations.specs.declared.store.Store.{Store}
use Rattle.operations.specs.Codes.{illegal_drive, illegal_motion}
use Rattle.operations.specs.Store.{asks_interrupt, names_drive, named_drive, names_unknown, asked_for, asked_in}
use Rattle.operations.specs.Course.{course_of}
use Rattle.operations.proofs.DensityLaws.{by_density}
use Rattle.link.specs.declared.state.Phase.{Phase}
use Rattle.link.specs.declared.state.Phase.TheVariants.{DataAwaited, ResultAwaited}
use Rattle.link.specs.State.{Handed}
use Rattle.std.specs.Prelude.{None, Some}
use Rattle.link.specs.declared.state.Body.{Body}
use Rattle.link.specs.State.{Transition}
use Rattle.link.specs.State.{store_of, offered, with_flags, with_outcome, with_current_drive, current_drive}
use Rattle.link.specs.State.{reset_state}
use Rattle.operations.specs.After.{with_code}
use Rattle.transfers.specs.Results.{Result, settle_result}
use Rattle.transfers.specs.Data.{Host}
use Rattle.controller.specs.declared.controller.Controller.{Controller}
use Rattle.controller.specs.Told.{Reply}
use Rattle.controller.specs.Controller.{fresh, carried}
use Rattle.controller.specs.Stores.{settle, end_with, end_operation, order_move, begin, follow, clear_outcome}
use Rattle.controller.specs.Stores.{carry_out_on, carry_out, no_to_go, yes_to_go}
use Rattle.controller.specs.Records.{words_of, with_after, data_done, result_done}
use Rattle.controller.specs.Machine.{data_in, result_in, Call, Exchange, plain, step, run}
use Rattle.controller.specs.Machine.Call.{byte, taken, broken, host_data, result, tick}
use Rattle.controller.specs.Lists.{not_refused, holds_store, held_store}
use Rattle.controller.specs.Separation.{asks_reset}
use Rattle.controller.specs.Handed.{resets_all, owed_after, owes, holds_store_in, Due, owed_still, DueFrom}
use Rattle.controller.specs.Handed.{RecordsAreHanded}
use Rattle.controller.proofs.Asking.{Asks, by_asked}
use Rattle.controller.proofs.Courses.{decoded, by_test_of, by_beginning}
use Rattle.controller.proofs.DrivesAreALedger.{ended_hands}
use Rattle.controller.proofs.RetriesAreTrusted.{completed_outcome, ended_outcome}
use Rattle.controller.proofs.Steps.Resting.{by_free, Free, Rests, settled_rests, ending_rests}
use Rattle.controller.proofs.Steps.LinkCall.{byte_came, ticked, load_taken}
use Rattle.controller.proofs.Steps.SaysNo.{byte_refused}
use Rattle.controller.proofs.Steps.{stated, exchanged, LinkCall, SaysNo, OfRefusals, OfLink, OfStores}
use Rattle.controller.proofs.Steps.{OfHandings, OfNo, OfData, OfResults, Kinds, data_for_lem, result_for_lem, by_step}

-- ---- what is kept from call to call: a record is owed where a store is in hand

abbrev Dues : Controller → Exchange → Type 0
Dues c x =
    (owed : Bool) → owed ≡ holds_store_in c.phase → Due (owes owed c x) x.answer.reply x.answer.reply.handed

free_holds : (phase : Phase) → Free phase → holds_store_in phase ≡ false
unfolding holds_store_in
free_holds =
    by_free (λ (phase : Phase). holds_store_in phase ≡ false) (λ s. refl) (λ s. refl) (λ s. refl) (λ interrupt. refl)

-- a turn that hands nothing back
none_due : (owed : Bool) (t : Transition) → t.handed ≡ None → owed ≡ holds_store_in t.phase
    → Due owed (carried t) t.handed
unfolding Due
none_due owed t none same = subst (Due owed (carried t)) (sym none) same

-- a turn that settles a code
one_due : (owed : Bool) (t : Transition) (final : ResultRecord) → t.handed ≡ Some final → owed ≡ true
    → final ≡ t.body.outcome.result → Free t.phase → Due owed (carried t) t.handed
unfolding Due
one_due owed t final one due shown free =
    subst (Due owed (carried t)) (sym one) (due, shown, free_holds t.phase free)

-- ---- a store

-- a reset is asked for by operation 0
resets_said : Asks (λ (operation f l : ℕ) (asked : Decoded). asks_reset asked ≡ eqb operation 0)
unfolding asks_reset
resets_said =
    record {
      resets = λ f l. refl;
      track = λ f l low. refl;
      no_track = λ f l past low. refl;
      disables = λ f. refl;
      enables = λ f. refl;
      unguards = λ f. refl;
      guards = λ f. refl;
      mfm = λ f. refl;
      gcr = λ f. refl;
      rewind = λ f. refl;
      fast_forward = λ f. refl;
      skip_forward = λ f. refl;
      skip_reverse = λ f. refl;
      search_forward = λ f. refl;
      search_reverse = λ f. refl;
      write_mark = λ f. refl;
      no_control = λ f l high no_a no_b no_c no_d. refl;
      read = λ l. refl;
      check_bytes = λ l. refl;
      supplied_count = λ l. refl;
      no_read = λ f l. refl;
      write = λ f l. refl;
      erase = λ f l. refl;
      none = λ operation f l no_0 no_3. sym no_0;
    }

pub reset_said : (store : Store) → asks_reset (asked_for store) ≡ eqb (store.address / 16 % 8) 0
unfolding asked_for
reset_said store = by_asked _ resets_said (store.address / 16 % 8) store.first store.fourth

module _ (store : Store) where
  settled_due : (b : Body) (owed : Bool) → owed ≡ true → Due owed (carried (settle b store)) (settle b store).handed
  unfolding settle
  settled_due b owed due =
      one_due owed (settle b store) b.outcome.result refl due
      (sym (ap (λ (o : Outcome). o.result) (completed_outcome b (asks_interrupt store))))
      (settled_rests b store).free

  coded_due : (b : Body) (code : ℕ) (owed : Bool) → owed ≡ true
      → Due owed (carried (end_with b store code)) (end_with b store code).handed
  unfolding end_with
  coded_due b code = settled_due (with_outcome b (with_code b.outcome code))

  begun_due : (b : Body) (operation : Operation)
      → Due true (carried (begin b operation store)) (begin b operation store).handed
  unfolding order_move Due holds_store_in
  begun_due b =
      by_beginning (λ operation t. Due true (carried t) t.handed) b store (λ o same. refl) refl
      (λ operation o same ordered. refl)

  decoded_due : (b : Body) (decode : Decoded)
      → Due (not (asks_reset decode)) (carried (decoded b store decode)) (decoded b store decode).handed
  unfolding follow course_of asks_reset reset_state Due holds_store_in
  decoded_due b Reset = refl
  decoded_due b (Code code) = coded_due b code true refl
  decoded_due b (Track track) = settled_due (with_current_drive b (with_track (current_drive b) track)) true refl
  decoded_due b (Enable enable) = settled_due (with_flags b b.changed enable) true refl
  decoded_due b (Guard guard) = settled_due (with_current_drive b (with_guard (current_drive b) guard)) true refl
  decoded_due b (Density density) =
      settled_due (with_current_drive b (with_density (current_drive b) density)) true refl
  decoded_due b (Operate operation) =
      by_test_of (λ (t : Transition). Due true (carried t) t.handed) b store operation (begun_due b operation)
      (coded_due b illegal_motion true refl)

  -- a store that selects a drive, whatever density decides: a reset is asked for in any
  selecting_due : (b : Body) (n : ℕ)
      → Due (not (asks_reset (asked_for store))) (carried (carry_out_on b store n)) (carry_out_on b store n).handed
  unfolding carry_out_on asks_reset
  selecting_due b n =
      subst (λ (t : Bool). Due (not t) (carried (carry_out_on b store n)) (carry_out_on b store n).handed)
      (by_density (λ (x : Decoded). asks_reset x ≡ asks_reset (asked_for store)) _ (asked_for store) refl
      (λ operation is. sym (ap asks_reset is)))
      (decoded_due _ (asked_in store _))

  -- or none where it names drive 4-7
  choose_due :
      (unknown : Bool) (ended turned : Transition)
      → Due true (carried ended) ended.handed
      → Due (not (asks_reset (asked_for store))) (carried turned) turned.handed
      → Due (not (not unknown && asks_reset (asked_for store))) (carried (pick unknown ended turned))
      (pick unknown ended turned).handed
  unfolding pick
  choose_due true ended turned ends turns = ends
  choose_due false ended turned ends turns = turns

  pub carried_due : (b : Body) → Due (not (resets_all store)) (carried (carry_out b store)) (carry_out b store).handed
  unfolding carry_out resets_all names_unknown names_drive named_drive
  carried_due b =
      subst
      (λ (t : Bool). Due (not (not (names_unknown store) && t)) (carried (carry_out b store))
      (carry_out b store).handed)
      (reset_said store)
      (choose_due (names_unknown store) _ _ (coded_due (clear_outcome b) illegal_drive true refl)
      (selecting_due (clear_outcome b) _))

stores_case : OfStores Dues
unfolding owes owed_after not_refused holds_store offered pick
stores_case b s lead owed same =
    let store = store_of s in
    subst (λ (later : Bool). Due later (carried (carry_out b store)) (carry_out b store).handed)
    (sym (pick_yes (not (resets_all store)) owed (ap not lead)))
    (carried_due store b)

handings_case : OfHandings Dues
unfolding owes owed_after not_refused pick
handings_case b s store owed same = carried_due store b

-- ---- the other calls

refusals_case : OfRefusals Dues
unfolding owes not_refused Due
refusals_case c call number space check some at_space at_check owed same =
    pick_no (owed_after owed c call) owed some ∙ same

-- nothing is in hand before or after
link_due :
    (c : Controller) (call : Call) (t : Transition) (owed : Bool)
    → owes owed c (exchanged call (plain (carried t))) ≡ owed
    → Free c.phase → Rests c.body t → t.handed ≡ None → owed ≡ holds_store_in c.phase
    → Due (owes owed c (exchanged call (plain (carried t)))) (carried t) t.handed
link_due c call t owed kept free rests none same =
    none_due _ t none (kept ∙ same ∙ free_holds c.phase free ∙ sym (free_holds t.phase rests.free))

link_case : OfLink Dues
unfolding owes owed_after not_refused holds_store pick
link_case c call t (byte_came value) free rests strings none owed same =
    link_due c (byte value) t owed refl free rests none same
link_case c call t LinkCall.link_broke free rests strings none owed same =
    link_due c broken t owed refl free rests none same
link_case c call t ticked free rests strings none owed same = link_due c tick t owed refl free rests none same
link_case c call t (load_taken load) free rests strings none owed same =
    link_due c taken t owed (pick_no (not (resets_all (held_store c))) owed (ap not load)) free rests none same

no_case : OfNo Dues
unfolding owes owed_after not_refused no_to_go Due holds_store_in pick
no_case b held call (byte_refused value refuses) owed same = (same, refl, refl)
no_case b held call SaysNo.link_broke owed same = (same, refl, refl)

-- whatever drive is written
written :
    (b : Body) (held : Store) (drive : Drive) (host : Host) (space check : List ℕ)
    → Dues (stated b (DataAwaited held))
    (exchanged (host_data host space check) (data_done b drive held host space check))
unfolding data_done order_move owes owed_after not_refused Due holds_store_in pick
written b held drive host space check owed same = same

writes_case : OfData Dues
unfolding data_in
writes_case b held host space check =
    data_for_lem Dues refusals_case b held _ host space check (written b held _ host space check)

-- whatever drive moved
ended :
    (b : Body) (operation : Operation) (held : Store) (drive : Drive) (r : Result) (space check : List ℕ)
    → Dues (stated b (ResultAwaited operation held))
    (exchanged (result r space check) (result_done b drive operation held r space check))
unfolding result_done owes owed_after not_refused holds_store_in pick
ended b operation held drive r space check owed same =
    let body = with_after b (settle_result (words_of b) drive operation held r (length space) check) in
    one_due owed (end_operation body operation held) body.outcome.result (ended_hands body operation held) same
    (sym (ap (λ (o : Outcome). o.result) (ended_outcome body operation held))) (ending_rests body operation held).free

results_case : OfResults Dues
unfolding result_in
results_case b operation held r space check =
    result_for_lem Dues refusals_case b held _ operation r space check (λ good. ended b operation held _ r space check)

-- ---- every call, and every list

dues : Kinds Dues
unfolding yes_to_go reset_state owes owed_after not_refused Due holds_store_in pick
dues =
    record {
      refusals = refusals_case;
      link = link_case;
      stores = stores_case;
      handings = handings_case;
      reports = λ c n r within owed same. same;
      yes = λ b held value accepts owed same. same;
      no = no_case;
      writes = writes_case;
      results = results_case;
      resets = λ c owed same. refl;
    }

-- a record is owed then where a store is in hand
still_holds : (owed : Bool) (c : Controller) (handed : Handed) (answer : Reply) → answer.controller ≡ c
    → Due owed answer handed → owed_still owed handed ≡ holds_store_in c.phase
unfolding Due owed_still
still_holds owed c (Some final) answer is (due, shown, gone) =
    sym gone ∙ ap (λ (x : Controller). holds_store_in x.phase) is
still_holds owed c None answer is due = due ∙ ap (λ (x : Controller). holds_store_in x.phase) is

due_from : (calls : List Call) (owed : Bool) (c : Controller) → owed ≡ holds_store_in c.phase
    → DueFrom owed c (run c calls)
unfolding run DueFrom
due_from [] owed c same = tt
due_from (call ∷ calls) owed c same =
    let due = by_step Dues dues c call owed same in (
      due,
      due_from calls _ (step c call).reply.controller
          (still_holds _ _ (step c call).reply.handed (step c call).reply refl due),
    )

pub records_are_handed : (calls : List Call) → RecordsAreHanded (run fresh calls)
unfolding fresh holds_store_in
records_are_handed calls = due_from calls false fresh refl
