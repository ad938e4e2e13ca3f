-- While a store is in hand bit 17 is clear: its carrying out cleared the bit, and its result alone sets it
-- (`clearing`).
-- Assumes nothing.
use mathlib.Core.Path.{◌≡◌, refl}
use mathlib.Core.Bool.{false}
use mathlib.Core.List.{List}
use Prim.Native.Nat.{ℕ}
use Rattle.common.proofs.PickLaws.{pick_by}
use Rattle.operations.specs.declared.operation.Operation.{Operation}
use Rattle.operations.specs.declared.operation.Operation.TheVariants.{Write, CheckBytes}
use Rattle.operations.specs.declared.decode.Decoded.{Decoded}
use Rattle.operations.specs.declared.decode.Decoded.TheVariants.{Reset, Code, Track, Enable, Guard, Density, Operate}
use Rattle.operations.specs.declared.store.Store.{Store}
use Rattle.operations.specs.Operation.{counts_bytes, same_operation}
use Rattle.operations.specs.Codes.{illegal_drive, illegal_motion}
use Rattle.operations.specs.Course.{course_of}
use Rattle.operations.specs.Store.{asked_in, names_unknown}
use Rattle.status.specs.declared.drives.Drive.{Drive}
use Rattle.status.specs.Drives.{with_track, with_guard, with_density}
use Rattle.status.specs.Words.{no_outcome}
use Rattle.link.specs.declared.state.Body.{Body}
use Rattle.link.specs.declared.state.Phase.{Phase}
use Rattle.link.specs.declared.state.Phase.TheVariants.{DataAwaited}
use Rattle.link.specs.State.{Transition}
use Rattle.link.specs.State.{store_of, reset_state, start_body, current_drive, with_current_drive, with_flags}
use Rattle.link.specs.State.{note_report}
use Rattle.link.specs.State.{when_in_hand}
use Rattle.link.proofs.PhaseLaws.{each_phase}
use Rattle.transfers.specs.Data.{Host, data_words, settle_data}
use Rattle.controller.specs.declared.controller.Controller.{Controller}
use Rattle.controller.specs.Controller.{fresh}
use Rattle.controller.specs.Stores.{order_move, past_test, begin, follow, clear_outcome, carry_out_on, carry_out}
use Rattle.controller.specs.Stores.{yes_to_go}
use Rattle.controller.specs.Records.{data_done, result_done}
use Rattle.controller.specs.Machine.{data_in, result_in, Exchange}
use Rattle.controller.specs.Machine.Call.{host_data}
use Rattle.controller.proofs.Courses.{decoded, by_test_of}
use Rattle.controller.proofs.Steps.Resting.{Free, Rests, by_free, ended_rests, settled_rests, go_refused_rests}
use Rattle.controller.proofs.Steps.Resting.{ending_rests}
use Rattle.controller.proofs.Steps.{stated, exchanged, OfRefusals, OfData, OfResults, Kinds, data_for_lem}
use Rattle.controller.proofs.Steps.{result_for_lem}

abbrev IsClear : Body → Type 0
IsClear b = b.outcome.overflow ≡ false

unfoldable pub Cleared : Body → Phase → Type 0
Cleared b = when_in_hand (λ held. IsClear b) (λ held. IsClear b) (λ operation held. IsClear b) Unit

abbrev pub ClearedIn : Controller → Type 0
ClearedIn c = Cleared c.body c.phase

abbrev ClearedBy : Transition → Type 0
ClearedBy t = Cleared t.body t.phase

abbrev pub Clears : Controller → Exchange → Type 0
Clears c x = ClearedIn c → ClearedIn x.answer.reply.controller

-- with nothing in hand
free_clear : (b : Body) (phase : Phase) → Free phase → Cleared b phase
unfolding Cleared
free_clear b = by_free (Cleared b) (λ s. tt) (λ s. tt) (λ s. tt) (λ interrupt. tt)

rests_clear : (b : Body) (t : Transition) → Rests b t → ClearedBy t
rests_clear b t rests = free_clear t.body t.phase rests.free

reset_clear : (b : Body) → ClearedBy (reset_state b)
unfolding reset_state Cleared
reset_clear b = tt

-- by the bit alone
clear_by : (b later : Body) → later.outcome.overflow ≡ b.outcome.overflow → (phase : Phase) → Cleared b phase
    → Cleared later phase
unfolding Cleared
clear_by b later same =
    each_phase (λ (phase : Phase). Cleared b phase → Cleared later phase) (λ s known. tt) (λ s known. tt)
    (λ s known. tt) (λ held known. rw same known) (λ held known. rw same known) (λ operation held known. rw same known)
    (λ interrupt known. tt)

-- ---- a store is carried out

module _ (store : Store) where
  begun_clear : (b : Body) (operation : Operation) → IsClear b → ClearedBy (begin b operation store)
  unfolding begin past_test order_move Cleared
  begun_clear b operation clear =
      let past : IsClear (past_test b operation)
      = pick_by (λ (later : Body). IsClear later) (counts_bytes operation) (λ counts. clear) (λ none. clear) in
      pick_by (λ (t : Transition). ClearedBy t) (same_operation operation Write) (λ writes. past)
      (λ other. pick_by (λ (t : Transition). ClearedBy t) (same_operation operation CheckBytes) (λ checks. past)
      (λ moves. past))

  decoded_clear : (b : Body) (decode : Decoded) → IsClear b → ClearedBy (decoded b store decode)
  unfolding follow course_of
  decoded_clear b Reset clear = reset_clear b
  decoded_clear b (Code code) clear = rests_clear _ _ (ended_rests b store code)
  decoded_clear b (Track track) clear =
      rests_clear _ _ (settled_rests (with_current_drive b (with_track (current_drive b) track)) store)
  decoded_clear b (Enable enable) clear =
      rests_clear _ _ (settled_rests (with_flags b b.changed enable) store)
  decoded_clear b (Guard guard) clear =
      rests_clear _ _ (settled_rests (with_current_drive b (with_guard (current_drive b) guard)) store)
  decoded_clear b (Density density) clear =
      rests_clear _ _ (settled_rests (with_current_drive b (with_density (current_drive b) density)) store)
  decoded_clear b (Operate operation) clear =
      by_test_of (λ (t : Transition). ClearedBy t) b store operation (begun_clear b operation clear)
      (rests_clear _ _ (ended_rests b store illegal_motion))

  carried_clear : (b : Body) → ClearedBy (carry_out b store)
  unfolding carry_out carry_out_on clear_outcome no_outcome
  carried_clear b =
      pick_by (λ (t : Transition). ClearedBy t) (names_unknown store)
      (λ unknown. rests_clear _ _ (ended_rests _ store illegal_drive))
      (λ drive. decoded_clear _ (asked_in store _) refl)

-- ---- every call

refusals_case : OfRefusals Clears
refusals_case c call number space check some at_space at_check before = before

-- whatever drive is written
written :
    (b : Body) (held : Store) (drive : Drive) (host : Host) (space check : List ℕ)
    → Clears (stated b (DataAwaited held)) (exchanged (host_data host space check)
    (data_done b drive held host space check))
unfolding data_done settle_data data_words order_move Cleared
written b held drive host space check before = before

writes_case : OfData Clears
unfolding data_in
writes_case b held host space check =
    data_for_lem Clears refusals_case b held _ host space check (written b held _ host space check)

results_case : OfResults Clears
unfolding result_in result_done
results_case b operation held r space check =
    result_for_lem Clears refusals_case b held _ operation r space check
    (λ good before. rests_clear _ _ (ending_rests _ operation held))

pub clearing : Kinds Clears
unfolding yes_to_go Cleared
clearing =
    record {
      refusals = refusals_case;
      link = λ c call t came free rests strings none before. rests_clear c.body t rests;
      stores = λ b s lead before. carried_clear (store_of s) b;
      handings = λ b s store before. carried_clear store b;
      reports = λ c n r within before. clear_by c.body (note_report c.body n r) refl c.phase before;
      yes = λ b held value accepts before. before;
      no = λ b held call says before. rests_clear _ _ (go_refused_rests b held);
      writes = writes_case;
      results = results_case;
      resets = λ c before. reset_clear c.body;
    }

pub fresh_clear : ClearedIn fresh
unfolding fresh start_body Cleared
fresh_clear = tt
