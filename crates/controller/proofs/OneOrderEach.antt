-- Every motion order is of a store that was carried out and has not ended, and no store gives two (`one_order_each`,
-- over the definitions).
-- Assumes nothing.
use mathlib.Core.Path.{◌≡◌, refl, sym, ap, subst}
use Prim.Native.Nat.{ℕ, ◌/◌, ◌%◌}
use mathlib.Core.Bool.{Bool, true, false, not, ◌&&◌}
use mathlib.Core.List.{List, [], ◌∷◌}
use lib.Dec.{eqb}
use lib.ListN.{length}
use Rattle.common.specs.Pick.{pick}
use Rattle.common.proofs.PickLaws.{pick_yes, pick_no}
use Rattle.status.specs.declared.drives.Drive.{Drive}
use Rattle.status.specs.Drives.{with_track, with_density, with_guard}
use Rattle.operations.specs.declared.operation.Operation.{Operation}
use Rattle.operations.specs.declared.decode.Decoded.{Decoded}
use Rattle.operations.specs.declared.decode.Decoded.TheVariants.{Reset, Code, Track, Enable, Guard, Density, Operate}
use Rattle.operations.specs.declared.store.Store.{Store}
use Rattle.operations.specs.Codes.{illegal_drive, illegal_motion}
use Rattle.operations.specs.Store.{names_drive, named_drive, names_unknown, selected_by, asked_for, asked_in}
use Rattle.operations.specs.Course.{course_of}
use Rattle.operations.proofs.DensityLaws.{by_density}
use Rattle.link.specs.declared.state.Phase.{Phase}
use Rattle.link.specs.declared.state.Phase.TheVariants.{DataAwaited, ResultAwaited}
use Rattle.link.specs.declared.state.Action.{Action}
use Rattle.link.specs.declared.state.Action.TheVariants.{Nothing, Byte, Text, Order}
use Rattle.link.specs.State.{Handed}
use Rattle.link.specs.declared.state.Body.{Body}
use Rattle.link.specs.State.{Transition}
use Rattle.link.specs.State.{store_of, offered, when_in_hand, with_flags, with_current_drive, current_drive}
use Rattle.link.specs.State.{reset_state}
use Rattle.transfers.specs.Results.{Result, settle_result}
use Rattle.transfers.specs.Data.{Host}
use Rattle.controller.specs.declared.controller.Controller.{Controller}
use Rattle.controller.specs.Controller.{fresh, refused}
use Rattle.controller.specs.Stores.{order_move, begin, follow, clear_outcome}
use Rattle.controller.specs.Stores.{carry_out_on, carry_out, yes_to_go}
use Rattle.controller.specs.Records.{words_of, with_after, data_done, result_done}
use Rattle.controller.specs.Machine.{data_in, result_in, Call, Exchange, step, run}
use Rattle.controller.specs.Machine.Call.{host_data, result}
use Rattle.controller.specs.Lists.{not_refused, holds_store}
use Rattle.controller.specs.Separation.{asks_reset}
use Rattle.controller.specs.Handed.{resets_all}
use Rattle.controller.specs.OneOrder.{may_order_after, may_order, unordered, may_still, OrderedOnce, OnceFrom}
use Rattle.controller.specs.OneOrder.{OneOrderEach}
use Rattle.controller.proofs.Courses.{decoded, by_test_of, by_beginning}
use Rattle.controller.proofs.RecordsAreHanded.{reset_said}
use Rattle.controller.proofs.Steps.Resting.{by_free, Free, NoOrder, Rests, settled_rests, ended_rests}
use Rattle.controller.proofs.Steps.Resting.{go_refused_rests, ending_rests}
use Rattle.controller.proofs.Steps.LinkCall.{byte_came, ticked, load_taken}
use Rattle.controller.proofs.Steps.{stated, exchanged, turn_of, LinkCall, OfRefusals, OfLink, OfStores}
use Rattle.controller.proofs.Steps.{OfHandings, OfNo, OfData, OfResults, Kinds, data_for_lem, result_for_lem, by_step}

-- ---- what is kept from call to call: a write whose order has not gone out may give it

unfoldable Ready : Bool → Phase → Type 0
Ready may = when_in_hand (λ store. may ≡ true) (λ store. may ≡ true) (λ operation store. Unit) Unit

record KeptBy (may : Bool) (t : Transition) : Type 0 where
  pub once : OrderedOnce may t.handed t.action
  pub ready : Ready (may_still may t.action t.handed) t.phase

abbrev Keeps : Controller → Exchange → Type 0
Keeps c x = (may : Bool) → Ready may c.phase → KeptBy (may_order may c x) (turn_of x.answer.reply)

free_ready : (may : Bool) (phase : Phase) → Free phase → Ready may phase
unfolding Ready
free_ready may = by_free (Ready may) (λ s. tt) (λ s. tt) (λ s. tt) (λ interrupt. tt)

quiet_once : (may : Bool) (handed : Handed) (action : Action) → NoOrder action → OrderedOnce may handed action
unfolding NoOrder OrderedOnce
quiet_once may handed Nothing none = tt
quiet_once may handed (Byte value) none = tt
quiet_once may handed (Text string) none = tt
quiet_once may handed (Order order) none = absurd none

rests_keep : (may : Bool) (b : Body) (t : Transition) → Rests b t → KeptBy may t
rests_keep may b t rests =
    record {
      once = quiet_once may t.handed t.action rests.quiet;
      ready = free_ready _ t.phase rests.free;
    }

-- ---- a store

module _ (store : Store) where
  begun_keeps : (b : Body) (operation : Operation) → KeptBy true (begin b operation store)
  unfolding order_move OrderedOnce Ready may_still unordered
  begun_keeps b =
      by_beginning (λ operation t. KeptBy true t) b store (λ o same. record { once = tt; ready = refl })
      (record { once = tt; ready = tt }) (λ operation o same ordered. record { once = (refl, refl); ready = tt })

  decoded_keeps : (b : Body) (decode : Decoded) → KeptBy (not (asks_reset decode)) (decoded b store decode)
  unfolding follow course_of asks_reset reset_state OrderedOnce Ready
  decoded_keeps b Reset = record { once = tt; ready = tt }
  decoded_keeps b (Code code) = rests_keep true b _ (ended_rests b store code)
  decoded_keeps b (Track track) =
      rests_keep true _ _ (settled_rests (with_current_drive b (with_track (current_drive b) track)) store)
  decoded_keeps b (Enable enable) = rests_keep true _ _ (settled_rests (with_flags b b.changed enable) store)
  decoded_keeps b (Guard guard) =
      rests_keep true _ _ (settled_rests (with_current_drive b (with_guard (current_drive b) guard)) store)
  decoded_keeps b (Density density) =
      rests_keep true _ _ (settled_rests (with_current_drive b (with_density (current_drive b) density)) store)
  decoded_keeps b (Operate operation) =
      by_test_of (KeptBy true) b store operation (begun_keeps b operation)
      (rests_keep true b _ (ended_rests b store illegal_motion))

  -- a store that selects a drive, whatever density decides: a reset is asked for in any
  selecting_keeps : (b : Body) (n : ℕ) → KeptBy (not (asks_reset (asked_for store))) (carry_out_on b store n)
  unfolding carry_out_on asks_reset
  selecting_keeps b n =
      subst (λ (t : Bool). KeptBy (not t) (carry_out_on b store n))
      (by_density (λ (x : Decoded). asks_reset x ≡ asks_reset (asked_for store)) _ (asked_for store) refl
      (λ operation is. sym (ap asks_reset is)))
      (decoded_keeps _ (asked_in store _))

  -- or none where it names drive 4-7
  choose_keeps :
      (unknown resets : Bool) (ended turned : Transition) → KeptBy true ended → KeptBy (not resets) turned
      → KeptBy (not (not unknown && resets)) (pick unknown ended turned)
  unfolding pick
  choose_keeps true resets ended turned ends turns = ends
  choose_keeps false resets ended turned ends turns = turns

  carried_keeps : (b : Body) → KeptBy (not (resets_all store)) (carry_out b store)
  unfolding carry_out resets_all names_unknown names_drive named_drive
  carried_keeps b =
      let chosen = carry_out_on (clear_outcome b) store (selected_by store b.selected) in
      choose_keeps (names_unknown store) (eqb (store.address / 16 % 8) 0) _ chosen
      (rests_keep true (clear_outcome b) _ (ended_rests (clear_outcome b) store illegal_drive))
      (subst (λ (t : Bool). KeptBy (not t) chosen) (reset_said store) (selecting_keeps (clear_outcome b) _))

stores_case : OfStores Keeps
unfolding may_order may_order_after not_refused holds_store offered pick
stores_case b s lead may ready =
    let store = store_of s in
    subst (λ (later : Bool). KeptBy later (carry_out b store))
    (sym (pick_yes (not (resets_all store)) may (ap not lead)))
    (carried_keeps store b)

handings_case : OfHandings Keeps
unfolding may_order may_order_after not_refused pick
handings_case b s store may ready = carried_keeps store b

-- ---- the other calls

refusals_case : OfRefusals Keeps
unfolding may_order not_refused OrderedOnce may_still unordered
refusals_case c call number space check some at_space at_check may ready =
    subst (λ (later : Bool). KeptBy later (turn_of (refused number c)))
    (sym (pick_no (may_order_after may c call) may some))
    (record { once = tt; ready = ready })

link_case : OfLink Keeps
unfolding may_order may_order_after not_refused holds_store pick
link_case c call t (byte_came value) free rests strings none may ready = rests_keep may c.body t rests
link_case c call t LinkCall.link_broke free rests strings none may ready = rests_keep may c.body t rests
link_case c call t ticked free rests strings none may ready = rests_keep may c.body t rests
link_case c call t (load_taken load) free rests strings none may ready = rests_keep _ c.body t rests

no_case : OfNo Keeps
no_case b held call says may ready = rests_keep _ b _ (go_refused_rests b held)

-- whatever drive is written
written :
    (b : Body) (held : Store) (drive : Drive) (host : Host) (space check : List ℕ)
    → Keeps (stated b (DataAwaited held))
    (exchanged (host_data host space check) (data_done b drive held host space check))
unfolding data_done order_move may_order may_order_after not_refused OrderedOnce Ready pick
written b held drive host space check may ready = record { once = (ready, refl); ready = tt }

writes_case : OfData Keeps
unfolding data_in
writes_case b held host space check =
    data_for_lem Keeps refusals_case b held _ host space check (written b held _ host space check)

-- whatever drive moved
ended :
    (b : Body) (operation : Operation) (held : Store) (drive : Drive) (r : Result) (space check : List ℕ)
    → Keeps (stated b (ResultAwaited operation held))
    (exchanged (result r space check) (result_done b drive operation held r space check))
unfolding result_done
ended b operation held drive r space check may ready =
    rests_keep _ _ _
    (ending_rests (with_after b (settle_result (words_of b) drive operation held r (length space) check))
    operation held)

results_case : OfResults Keeps
unfolding result_in
results_case b operation held r space check =
    result_for_lem Keeps refusals_case b held _ operation r space check (λ good. ended b operation held _ r space check)

-- ---- every call, and every list

keeping : Kinds Keeps
unfolding yes_to_go reset_state may_order may_order_after not_refused OrderedOnce Ready may_still unordered pick
keeping =
    record {
      refusals = refusals_case;
      link = link_case;
      stores = stores_case;
      handings = handings_case;
      reports = λ c n r within may ready. record { once = tt; ready = ready };
      yes = λ b held value accepts may ready. record { once = tt; ready = ready };
      no = no_case;
      writes = writes_case;
      results = results_case;
      resets = λ c may ready. record { once = tt; ready = tt };
    }

once_from : (calls : List Call) (may : Bool) (c : Controller) → Ready may c.phase → OnceFrom may c (run c calls)
unfolding run OnceFrom
once_from [] may c ready = tt
once_from (call ∷ calls) may c ready =
    let goes = by_step Keeps keeping c call may ready in
    (goes.once, once_from calls _ (step c call).reply.controller goes.ready)

pub one_order_each : (calls : List Call) → OneOrderEach (run fresh calls)
unfolding fresh Ready
one_order_each calls = once_from calls false fresh tt
