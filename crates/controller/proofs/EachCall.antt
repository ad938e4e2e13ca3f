-- A claim of each call of a list by the ledger before it, from the claim of a data call and of a result that are
-- carried out (`at_transfers`): the ledger agrees with the controller, and what is in hand is the last store's.
-- Assumes nothing.
use mathlib.Core.Path.{◌≡◌, sym, ap, ◌∙◌}
use Prim.Native.Nat.{ℕ}
use mathlib.Core.Bool.{true, false, false≢true}
use mathlib.Core.List.{List, [], ◌∷◌}
use lib.Dec.{eqb}
use lib.ListN.{length}
use borrow.Author.Tests.{eqb-true}
use Rattle.common.proofs.PickLaws.{pick_by}
use Rattle.status.specs.Drives.{copy_report}
use Rattle.operations.specs.declared.operation.Operation.{Operation}
use Rattle.operations.specs.declared.decode.Decoded.TheVariants.{Operate}
use Rattle.operations.specs.declared.store.Store.{Store}
use Rattle.operations.specs.Store.{asked_for}
use Rattle.link.specs.declared.state.Body.{Body}
use Rattle.link.specs.declared.state.Phase.TheVariants.{DataAwaited}
use Rattle.link.specs.State.{current_drive}
use Rattle.transfers.specs.Data.{Host, data_refusal}
use Rattle.transfers.specs.Results.{Result, result_refusal}
use Rattle.controller.specs.declared.controller.Controller.{Controller}
use Rattle.controller.specs.Controller.{fresh}
use Rattle.controller.specs.Records.{Answer, data_done, result_done}
use Rattle.controller.specs.Machine.{data_for, data_in, result_in, Call, Exchange, when_lent, step, run}
use Rattle.controller.specs.Machine.Call.{host_data}
use Rattle.controller.specs.Lists.{not_refused}
use Rattle.controller.specs.Ledger.{Ledger, ledger_fresh, EachFrom, Each, tape_now}
use Rattle.controller.proofs.Cleared.{Cleared, ClearedIn, Clears, clearing, fresh_clear}
use Rattle.controller.proofs.DrivesAreALedger.{told, Agreeing, InHand, Kept, Keeps, keeping}
use Rattle.controller.proofs.DrivesAreALedger.{fresh_kept}
use Rattle.controller.proofs.Steps.LinkCall.{byte_came, ticked, load_taken}
use Rattle.controller.proofs.Steps.SaysNo.{byte_refused}
use Rattle.controller.proofs.Steps.{stated, exchanged, LinkCall, SaysNo, OfRefusals, OfLink, OfNo, OfData}
use Rattle.controller.proofs.Steps.{OfResults, Kinds, result_for_lem, by_step}

-- the drive selected is the ledger's
pub current_is : (l : Ledger) (b : Body) → Agreeing l b → copy_report (current_drive b) ≡ told (tape_now l)
current_is l b agrees =
    agrees.drive b.selected agrees.low ∙ ap (λ (n : ℕ). told (l.tape n)) agrees.selected

module _ (AtData : Ledger → Answer → Host → List ℕ → List ℕ → Type 0)
    (AtResult : Ledger → Answer → Result → List ℕ → List ℕ → Type 0) where
  abbrev pub Lent : Ledger → Exchange → Type 0
  Lent l x = not_refused x ≡ true → when_lent (AtData l x.answer) (AtResult l x.answer) Unit x.call

  abbrev Knows : Controller → Exchange → Type 0
  Knows c x = (l : Ledger) → Kept l c.body c.phase → ClearedIn c → Lent l x

  abbrev pub OfDataCalls : Type 0
  OfDataCalls =
      (l : Ledger) (b : Body) (held : Store) (host : Host) (space check : List ℕ)
      → Agreeing l b
      → held ≡ l.store
      → data_refusal (current_drive b) held (length host.bytes) host.place (length space) (length check) ≡ 0
      → AtData l (data_done b (current_drive b) held host space check) host space check

  abbrev pub OfResultCalls : Type 0
  OfResultCalls =
      (l : Ledger) (b : Body) (operation : Operation) (held : Store) (r : Result) (space check : List ℕ)
      → Agreeing l b
      → asked_for l.store ≡ Operate operation
      → held ≡ l.store
      → b.outcome.overflow ≡ false
      → result_refusal (current_drive b) operation held r (length check) ≡ 0
      → AtResult l (result_done b (current_drive b) operation held r space check) r space check

  module _ (writes : OfDataCalls) (results : OfResultCalls) where
    refusals_case : OfRefusals Knows
    unfolding not_refused
    refusals_case c call number space check some at_space at_check l kept clear carried =
        absurd (false≢true (sym some ∙ carried))

    link_case : OfLink Knows
    link_case c call t (byte_came value) free rests strings none l kept clear carried = tt
    link_case c call t LinkCall.link_broke free rests strings none l kept clear carried = tt
    link_case c call t ticked free rests strings none l kept clear carried = tt
    link_case c call t (load_taken load) free rests strings none l kept clear carried = tt

    no_case : OfNo Knows
    no_case b held call (byte_refused value refuses) l kept clear carried = tt
    no_case b held call SaysNo.link_broke l kept clear carried = tt

    writes_case : OfData Knows
    unfolding data_in data_for not_refused InHand
    writes_case b held host space check =
        pick_by
        (λ (answer : Answer). Knows (stated b (DataAwaited held)) (exchanged (host_data host space check) answer))
        (eqb (data_refusal (current_drive b) held (length host.bytes) host.place (length space) (length check)) 0)
        (λ good l kept clear carried.
        writes l b held host space check kept.agrees kept.hand.same (eqb-true _ 0 good))
        (λ some l kept clear carried. absurd (false≢true (sym some ∙ carried)))

    results_case : OfResults Knows
    unfolding result_in InHand Cleared
    results_case b operation held r space check =
        result_for_lem Knows refusals_case b held (current_drive b) operation r space check
        (λ good l kept clear carried.
        results l b operation held r space check kept.agrees kept.hand.0 kept.hand.1 clear good)

    knowing : Kinds Knows
    knowing =
        record {
          refusals = refusals_case;
          link = link_case;
          stores = λ b s lead l kept clear carried. tt;
          handings = λ b s store l kept clear carried. tt;
          reports = λ c n r within l kept clear carried. tt;
          yes = λ b held value accepts l kept clear carried. tt;
          no = no_case;
          writes = writes_case;
          results = results_case;
          resets = λ c l kept clear carried. tt;
        }

    each_from : (calls : List Call) (l : Ledger) (c : Controller) → Kept l c.body c.phase → ClearedIn c
        → EachFrom Lent l c (run c calls)
    unfolding run EachFrom
    each_from [] l c kept clear = tt
    each_from (call ∷ calls) l c kept clear = (
      by_step Knows knowing c call l kept clear,
      each_from calls _ (step c call).reply.controller (by_step Keeps keeping c call l kept).kept
          (by_step Clears clearing c call clear),
    )

    pub at_transfers : (calls : List Call) → Each Lent (run fresh calls)
    at_transfers calls = each_from calls ledger_fresh fresh fresh_kept fresh_clear
