-- Bit 2 is as the papers' rule has it after any result that is not refused, in any state (`retries_are_trusted`, over
-- the definitions).
-- Assumes nothing.
use mathlib.Core.Path.{◌≡◌, refl, sym, subst}
use Prim.Native.Nat.{ℕ}
use native.Mathlib.Omega.{arith}
use mathlib.Core.Bool.{Bool}
use mathlib.Core.List.{List}
use lib.Dec.{eqb}
use lib.ListN.{length}
use borrow.Author.Tests.{eqb-false}
use Rattle.common.proofs.PickLaws.{pick_by}
use Rattle.marks.specs.Scan.{Findings}
use Rattle.status.specs.declared.drives.Drive.{Drive}
use Rattle.status.specs.declared.words.Outcome.{Outcome}
use Rattle.operations.specs.declared.operation.Operation.{Operation}
use Rattle.operations.specs.declared.operation.Operation.TheVariants.{Read, CheckBytes, SuppliedCount, Write, Erase}
use Rattle.operations.specs.declared.operation.Operation.TheVariants.{Rewind, FastForward, SkipForward, SkipReverse}
use Rattle.operations.specs.declared.operation.Operation.TheVariants.{SearchForward, SearchReverse, WriteMark}
use Rattle.operations.specs.declared.store.Store.{Store}
use Rattle.operations.specs.Operation.{order_byte, offers_end}
use Rattle.operations.specs.Store.{asks_interrupt}
use Rattle.link.specs.declared.state.Phase.{Phase}
use Rattle.link.proofs.PhaseLaws.{each_phase}
use Rattle.link.specs.declared.state.Body.{Body}
use Rattle.link.specs.State.{Transition}
use Rattle.link.specs.State.{current_drive, review, idle}
use Rattle.link.specs.Completion.{send_word, send_interrupt, complete}
use Rattle.link.specs.Damaged.{is_sound}
use Rattle.transfers.specs.Results.{Result, result_refusal, findings_read, verdict_of, result_bits, with_retry}
use Rattle.transfers.specs.Results.{result_words}
use Rattle.transfers.specs.Results.{settle_result}
use Rattle.controller.specs.declared.controller.Controller.{Controller}
use Rattle.controller.specs.Stores.{settle, end_operation}
use Rattle.controller.specs.Records.{Answer, words_of, with_after, result_done}
use Rattle.controller.specs.Machine.{result_for, result_in, result_call}
use Rattle.controller.specs.Shown.{retry_ended}
use Rattle.controller.specs.Retry.{order_number, RetryIs, TrustedRetry, TrustedIn, RetryTrusted}
use Rattle.controller.proofs.StatusIsALedger.Ending.{found_said, retried}

-- ---- the end of an operation

-- its end leaves the outcome
pub completed_outcome : (b : Body) (asked : Bool) → (complete b asked).body.outcome ≡ b.outcome
unfolding complete send_interrupt send_word idle review
completed_outcome b asked =
    pick_by (λ (t : Transition). t.body.outcome ≡ b.outcome) asked
    (λ asks. pick_by (λ (t : Transition). t.body.outcome ≡ b.outcome) b.outcome.counted (λ counted. refl)
    (λ none. refl))
    (λ none. refl)

pub ended_outcome : (b : Body) (operation : Operation) (store : Store)
    → (end_operation b operation store).body.outcome ≡ b.outcome
unfolding end_operation settle
ended_outcome b operation store =
    pick_by (λ (t : Transition). t.body.outcome ≡ b.outcome) (offers_end operation) (λ offers. refl)
    (λ none. completed_outcome b (asks_interrupt store))

-- ---- the rule

ordered : (operation : Operation) → order_byte operation ≡ order_number operation
unfolding order_number
ordered Read = refl
ordered CheckBytes = refl
ordered SuppliedCount = refl
ordered Write = refl
ordered Erase = refl
ordered Rewind = refl
ordered FastForward = refl
ordered SkipForward = refl
ordered SkipReverse = refl
ordered SearchForward = refl
ordered SearchReverse = refl
ordered WriteMark = refl

-- the rule does not look at the bit itself
ruled : (drive : Drive) (operation : Operation) (store : Store) (r : Result) (o : Outcome)
    → RetryIs (order_byte operation) r.marks (with_retry o operation (findings_read operation r.marks))
unfolding retry_ended
ruled drive operation store r o =
    subst (λ (found : Findings). RetryIs (order_byte operation) r.marks (with_retry o operation found))
    (sym (found_said drive operation store r))
    (subst (RetryIs (order_byte operation) r.marks) (sym (retried drive operation store r o)) refl)

-- whatever drive moved
ended :
    (b : Body) (drive : Drive) (operation : Operation) (store : Store) (r : Result) (space check : List ℕ)
    → TrustedRetry operation r.marks (result_done b drive operation store r space check).reply.controller.body
unfolding result_done settle_result result_words verdict_of
ended b drive operation store r space check =
    let body = with_after b (settle_result (words_of b) drive operation store r (length space) check) in
    subst (RetryIs (order_number operation) r.marks) (sym (ended_outcome body operation store))
    (subst (λ (order : ℕ). RetryIs order r.marks body.outcome) (ordered operation)
    (ruled drive operation store r
    (result_bits (verdict_of drive operation store r) b.outcome operation store r.mark r.late _
    (length space))))

in_phase :
    (c : Controller) (b : Body) (r : Result) (space check : List ℕ) (phase : Phase)
    → (result_in c b r space check phase).reply.refusal ≡ 0
    → TrustedIn phase r (result_in c b r space check phase).reply.controller.body
unfolding result_in result_for TrustedIn
in_phase c b r space check =
    each_phase
    (λ (phase : Phase). (result_in c b r space check phase).reply.refusal ≡ 0
    → TrustedIn phase r (result_in c b r space check phase).reply.controller.body)
    (λ s zero. tt) (λ s zero. tt) (λ send zero. tt) (λ store zero. tt) (λ store zero. tt)
    (λ operation store.
    let drive = current_drive b in
    pick_by (λ (a : Answer). a.reply.refusal ≡ 0
    → TrustedRetry operation r.marks a.reply.controller.body)
    (eqb (result_refusal drive operation store r (length check)) 0)
    (λ good zero. ended b drive operation store r space check)
    (λ some zero. absurd (eqb-false _ 0 some zero)))
    (λ interrupt zero. tt)

pub retries_are_trusted : (c : Controller) (r : Result) (space check : List ℕ)
    → RetryTrusted c r (result_call c r space check)
unfolding result_call
retries_are_trusted c r space check =
    pick_by (RetryTrusted c r) (is_sound c.body c.phase) (λ sane. in_phase c c.body r space check c.phase)
    (λ hurt zero. absurd (omega arith))
