-- Each of the eight calls is followed by the machine of one drive.
-- Assumes nothing.
use mathlib.Core.Path.{◌≡◌, refl, sym, ap, subst, ◌∙◌}
use Prim.Native.Nat.{ℕ, ◌≤◌}
use mathlib.Core.Bool.{Bool, true, false, not, ◌&&◌, false≢true}
use mathlib.Core.List.{[], ◌∷◌}
use lib.Dec.{eqb}
use borrow.Author.Tests.{not-true}
use Rattle.common.specs.Pick.{pick}
use Rattle.common.proofs.PickLaws.{both_hold, pick_yes, pick_no}
use Rattle.operations.specs.declared.store.Store.{Store}
use Rattle.operations.specs.Store.{names_drive}
use Rattle.link.specs.declared.state.Phase.{Phase}
use Rattle.link.specs.declared.state.Phase.TheVariants.{Collecting, AckOffered}
use Rattle.link.specs.State.{Transition}
use Rattle.controller.specs.declared.controller.Controller.{Controller}
use Rattle.link.specs.Bytes.{ack}
use Rattle.controller.specs.Controller.{carried}
use Rattle.link.specs.State.{store_of, offered}
use Rattle.controller.specs.Stores.{carry_out}
use Rattle.controller.specs.Records.{data_done, result_done}
use Rattle.controller.specs.Machine.{data_in, result_in, Call, Exchange, plain, step}
use Rattle.controller.specs.Machine.Call.{byte, taken, broken, tick, hand}
use Rattle.controller.specs.Lists.{not_refused, holds_store, brings_store, store_brought, carries_out, last_store}
use Rattle.controller.specs.Separation.{is_of, store_event, awaits_go, event_of, bytes_given, transfer_of, is_reset}
use Rattle.controller.specs.Separation.{resets, admits}
use Rattle.controller.specs.Separation.Event.{go_answered}
use Rattle.controller.proofs.Steps.Resting.{by_free, Free, Rests}
use Rattle.controller.proofs.Steps.LinkCall.{byte_came, ticked, load_taken}
use Rattle.controller.proofs.Steps.SaysNo.{byte_refused}
use Rattle.controller.proofs.Steps.{stated, exchanged, LinkCall, SaysNo, OfRefusals, OfLink, OfStores}
use Rattle.controller.proofs.Steps.{OfHandings, OfNo, OfData, OfResults, OfResets, Kinds, data_for_lem, result_for_lem}
use Rattle.controller.proofs.Steps.{by_step}
use Rattle.controller.proofs.DrivesAreSeparate.Views.{view_of, InHand, free_held, free_view, rests_view, none_for}
use Rattle.controller.proofs.DrivesAreSeparate.Views.{Follows, refused_follows, passes_follows}
use Rattle.controller.proofs.DrivesAreSeparate.Stores.{carried_event, carried_follows}
use Rattle.controller.proofs.DrivesAreSeparate.Calls.{report_follows, go_taken_follows, go_refused_follows}
use Rattle.controller.proofs.DrivesAreSeparate.Calls.{data_follows, result_follows}

-- with nothing in hand no answer to GO is awaited
free_goes : (phase : Phase) → Free phase → awaits_go phase ≡ false
unfolding awaits_go
free_goes = by_free (λ (phase : Phase). awaits_go phase ≡ false) (λ s. refl) (λ s. refl) (λ s. refl) (λ interrupt. refl)

module _ (d : ℕ) (low : d ≤ 3) where
  -- what is claimed of a call: it is followed, whatever store came last
  abbrev Followed : Controller → Exchange → Type 0
  Followed c x =
      (last : Store) → InHand last c.body.selected c.phase → admits c x ≡ true
      → Follows d (view_of d last c) (last_store last c x) c x

  -- a call that carries out no store
  kept :
      (c : Controller) (x : Exchange) (last : Store)
      → carries_out c x ≡ false
      → Follows d (view_of d last c) last c x
      → Follows d (view_of d last c) (last_store last c x) c x
  unfolding last_store
  kept c x last none =
      subst (λ (next : Store). Follows d (view_of d last c) next c x)
      (sym (pick_no (store_brought c x.call) last none))

  refusals_case : OfRefusals Followed
  unfolding carries_out not_refused
  refusals_case c call number space check some at_space at_check last held admitted =
      kept c _ last (ap (λ (t : Bool). t && brings_store c call) some)
      (refused_follows d last c call number 0 space check some held)

  -- with nothing in hand before and after, a call is no event of the drive
  rest_follows :
      (c : Controller) (call : Call) (t : Transition) (last : Store)
      → Free c.phase
      → Rests c.body t
      → event_of d last c call ≡ []
      → transfer_of d last [] call ≡ []
      → Follows d (view_of d last c) last c (exchanged call (plain (carried t)))
  unfolding bytes_given
  rest_follows c call t last free rests made nothing =
      passes_follows d last c _ _ made
      (record {
        view = rests_view d low last c.body t rests ∙ sym (free_view d last c free);
        transfer = nothing;
        quiet = none_for d t.action rests.quiet;
      })
      (free_held last _ _ rests.free)

  link_case : OfLink Followed
  unfolding event_of transfer_of holds_store last_store carries_out brings_store store_brought not_refused pick
  link_case c call t (byte_came value) free rests strings none last held admitted =
      rest_follows c (byte value) t last free rests
      (pick_no (go_answered (eqb value ack) ∷ []) []
      (ap (λ (go : Bool). go && is_of d last) (free_goes c.phase free))) refl
  link_case c call t LinkCall.link_broke free rests strings none last held admitted =
      rest_follows c broken t last free rests
      (pick_no (go_answered false ∷ []) [] (ap (λ (go : Bool). go && is_of d last) (free_goes c.phase free))) refl
  link_case c call t ticked free rests strings none last held admitted = rest_follows c tick t last free rests refl refl
  link_case c call t (load_taken load) free rests strings none last held admitted =
      let x : Exchange = exchanged taken (plain (carried t)) in
      let none = ap not load in
      kept c x last none
      (rest_follows c taken t last free rests
      (pick_no (store_event last ∷ []) [] (ap (λ (t : Bool). t && is_of d last) none)) refl)

  stores_case : OfStores Followed
  unfolding last_store carries_out brings_store store_brought not_refused holds_store offered admits Free transfer_of
  stores_case b s lead last held admitted =
      let c = stated b (AckOffered s) in
      let taking = store_of s in
      let x : Exchange = exchanged taken (plain (carried (carry_out b taking))) in
      let holds = ap not lead in
      let (names, keeps) = both_hold (names_drive taking) (not (resets taking)) (sym (pick_yes _ _ holds) ∙ admitted) in
      subst (λ (next : Store). Follows d (view_of d last c) next c x) (sym (pick_yes taking last holds))
      (subst (λ v. Follows d v taking c x) (sym (free_view d last c tt))
      (carried_follows d low c taking taken (carried_event d taking c holds) (λ bytes. refl) names
      (not-true (resets taking) keeps)))

  handings_case : OfHandings Followed
  unfolding last_store carries_out brings_store store_brought not_refused admits Free event_of transfer_of pick
  handings_case b s store last held admitted =
      let c = stated b (Collecting s) in
      let x : Exchange = exchanged (hand store) (plain (carried (carry_out b store))) in
      let (names, keeps) = both_hold (names_drive store) (not (resets store)) admitted in
      subst (λ v. Follows d v store c x) (sym (free_view d last c tt))
      (carried_follows d low c store (hand store) refl (λ bytes. refl) names (not-true (resets store) keeps))

  no_case : OfNo Followed
  unfolding InHand event_of awaits_go transfer_of last_store carries_out brings_store store_brought not_refused pick
  no_case b held call (byte_refused value refuses) last mine admitted =
      go_refused_follows d low last b held (byte value) (eqb value ack) refl refl refuses
  no_case b held call SaysNo.link_broke last mine admitted =
      go_refused_follows d low last b held broken false refl refl refl

  writes_case : OfData Followed
  unfolding data_in data_done InHand last_store carries_out brings_store store_brought not_refused pick
  writes_case b held host space check =
      data_for_lem Followed refusals_case b held _ host space check
      (λ last mine admitted. data_follows d last b held host space check mine)

  results_case : OfResults Followed
  unfolding result_in result_done InHand last_store carries_out brings_store store_brought not_refused pick
  results_case b operation held r space check =
      result_for_lem Followed refusals_case b held _ operation r space check
      (λ good last mine admitted. result_follows d low last b operation held r space check mine)

  -- a reset is not admitted
  resets_case : OfResets Followed
  unfolding admits carries_out brings_store store_brought not_refused is_reset pick
  resets_case c last held admitted = absurd (false≢true admitted)

  followed : Kinds Followed
  unfolding last_store carries_out brings_store store_brought not_refused InHand pick
  followed =
      record {
        refusals = refusals_case;
        link = link_case;
        stores = stores_case;
        handings = handings_case;
        reports = λ c n r within last held admitted. report_follows d low last c n r within held;
        yes = λ b held value yes last mine admitted. go_taken_follows d low last b held value yes mine;
        no = no_case;
        writes = writes_case;
        results = results_case;
        resets = resets_case;
      }

  pub step_follows : (c : Controller) (call : Call) → Followed c (exchanged call (step c call))
  step_follows = by_step Followed followed
