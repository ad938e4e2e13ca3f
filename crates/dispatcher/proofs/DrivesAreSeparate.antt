-- The separation of the drives for what the dispatcher sends (`drives_are_separate`, over the definitions): the
-- controller's list in a list of the dispatcher's is a run of the machine, and is admitted where what is passed on is,
-- since every store that waits names a drive and resets nothing.
-- Assumes nothing.
use mathlib.Core.Path.{◌≡◌, refl, sym, ap, subst, subst₂, ◌∙◌}
use mathlib.Core.Bool.{Bool, true, false, not, ◌&&◌, ◌||◌, false≢true, and-false}
use mathlib.Core.List.{List, [], ◌∷◌, ◌++◌}
use Prim.Native.Nat.{ℕ, ◌≤◌}
use native.Mathlib.Omega.{arith}
use lib.Dec.{eqb, leb}
use lib.ListN.{drop}
use borrow.Author.Tests.{eqb-true, eqb-false}
use Rattle.common.proofs.PickLaws.{by_test, pick_by, pick_yes, both_hold, not_refused_lem}
use Rattle.operations.specs.declared.store.Store.{Store}
use Rattle.operations.specs.Store.{names_drive, named_drive, asked_for}
use Rattle.controller.specs.declared.controller.Controller.{Controller}
use Rattle.controller.specs.Records as records
use Rattle.controller.specs.Machine as machine
use Rattle.controller.specs.Lists as lists
use Rattle.controller.specs.Separation as controller-separation
use Rattle.controller.proofs.DrivesAreSeparate as controller-drives
use Rattle.queues.specs.declared.jobs.Queues.{Queues}
use Rattle.queues.specs.Jobs.{fresh_queues, queued, next_store, served}
use Rattle.queues.proofs.WaitingLaws.{waiting, AllKept, fresh_kept, kept_sound, fresh_waiting, queued_same}
use Rattle.queues.proofs.WaitingLaws.{queued_other, next_first, served_same, served_other}
use Rattle.dispatcher.specs.declared.dispatcher.Dispatcher.{Dispatcher}
use Rattle.dispatcher.specs.Dispatcher.{Answer, answer_with_queues, passed_answer, fresh_dispatcher}
use Rattle.dispatcher.specs.Dispatcher.{is_reset_store, queue_refusal, hand_over}
use Rattle.dispatcher.specs.Lists.{Call, Exchange, plain, step, run, not_refused}
use Rattle.dispatcher.specs.Lists.Call.{hand, passed}
use Rattle.dispatcher.specs.JobLedger.{JobLedger, fresh_ledger, ledger_after}
use Rattle.dispatcher.specs.Separation.{own_answer, sent_by, sent_from, admits_own}
use Rattle.dispatcher.specs.Separation.{admitted_from, admitted, Separate}
use Rattle.dispatcher.proofs.Laws.{neither, queue_room, queue_low}
use Rattle.dispatcher.proofs.Steps.{exchanged, OfRefusals, OfPassed, OfQueueing, OfNothing, OfHandings}
use Rattle.dispatcher.proofs.Steps.{Kinds, by_step}
use Rattle.dispatcher.proofs.InOrder.{kept_by}
use Rattle.dispatcher.proofs.JobsAreALedger.{Agrees, agrees, fresh_is_ledger, Sends, sent_of, follows}
use Rattle.dispatcher.proofs.JobsAreALedger.Sends.{none, one}
use Rattle.dispatcher.proofs.JobsAreALedger.{refused_sends, nothing_sends, hand_sends, sent_run}

-- ---- the stores that wait

-- one that the dispatcher takes
record Fit (store : Store) : Type 0 where
  names : names_drive store ≡ true
  keeps : is_reset_store store ≡ false

unfoldable AllFit : List Store → Type 0
AllFit [] = Unit
AllFit (store ∷ stores) = Fit store × AllFit stores

fit_more : (stores : List Store) (store : Store) → AllFit stores → Fit store → AllFit (stores ++ (store ∷ []))
unfolding AllFit
fit_more [] store all fit = (fit, tt)
fit_more (s ∷ stores) store (first, all) fit = (first, fit_more stores store all fit)

fit_first : (store : Store) (stores : List Store) → AllFit (store ∷ stores) → Fit store
unfolding AllFit
fit_first store stores (first, all) = first

fit_rest : (stores : List Store) → AllFit stores → AllFit (drop 1 stores)
unfolding AllFit
fit_rest [] all = tt
fit_rest (s ∷ stores) (first, all) = all

-- of every job
abbrev Waiting : Queues → Type 0
Waiting queues = (job : ℕ) → job ≤ 3 → AllFit (waiting queues job)

-- a store that is not refused
taken_fit : (d : Dispatcher) (job : ℕ) (store : Store) → queue_refusal d job store ≡ 0 → Fit store
unfolding queue_refusal
taken_fit d job store e =
    let whole = not_refused_lem _ _ _ (λ z. omega arith) e in
    let taken = not_refused_lem _ _ _ (λ z. omega arith) whole.1 in
    let (named, keeps) = neither (leb 4 job || not (names_drive store)) (is_reset_store store) taken.0 in
    let (low, names) = neither (leb 4 job) (not (names_drive store)) named in
    record { names = not_not (names_drive store) names; keeps = keeps }
  where
    not_not : (b : Bool) → not b ≡ false → b ≡ true
    not_not true e = refl
    not_not false e = absurd (false≢true (sym e))

-- ---- what a call leaves

-- every list that is sent is admitted where what is passed on is
abbrev all_admitted : Controller → List machine.Exchange → Bool
all_admitted = controller-separation.admitted_from

record Leaves (l : JobLedger) (d : Dispatcher) (x : Exchange) : Type 0 where
  fit : Waiting x.answer.reply.dispatcher.queues
  admits : admits_own d.controller x.answer x.call ≡ true → all_admitted d.controller (sent_of l x) ≡ true

abbrev Leaving : Dispatcher → Exchange → Type 0
Leaving d x = (l : JobLedger) → AllKept d.queues → Agrees d.queues l → Waiting d.queues → Leaves l d x

-- nothing is sent
quiet : (l : JobLedger) (d : Dispatcher) (x : Exchange) → sent_of l x ≡ []
    → Waiting x.answer.reply.dispatcher.queues → Leaves l d x
unfolding controller-separation.admitted_from
quiet l d x nothing fit = record { fit = fit; admits = λ own. ap (all_admitted d.controller) nothing }

refusals_case : OfRefusals Leaving
refusals_case d call number own some l kept same fit = quiet l d _ (refused_sends l d call number own some) fit

nothing_case : OfNothing Leaving
nothing_case d is l kept same fit = quiet l d _ (nothing_sends l d kept same is) fit

queueing_case : OfQueueing Leaving
unfolding not_refused sent_by
queueing_case d k store good l kept same fit =
    let low = queue_low d k store good in
    let room = queue_room d k store good in
    quiet l d _ refl
    (λ job within.
    by_test (eqb k job)
    (λ same.
    subst (λ (n : ℕ). AllFit (waiting (queued d.queues k store) n)) (eqb-true k job same)
    (subst AllFit (sym (queued_same d.queues kept k low store room))
    (fit_more (waiting d.queues k) store (fit k low) (taken_fit d k store good))))
    (λ differ. subst AllFit (sym (queued_other d.queues kept k low store room job within (eqb-false k job differ)))
    (fit job within)))

-- a call that the controller answers, admitted or not
passed_case : OfPassed Leaving
unfolding sent_by step passed_answer admits_own controller-separation.admitted_from
passed_case d call l kept same fit =
    let is : step d (passed call) ≡ answer_with_queues d.queues (machine.step d.controller call) =
    pick_yes _ _ (kept_sound d.queues kept) in
    subst (λ (a : Answer). Leaves l d (exchanged (passed call) a)) (sym is)
    (record { fit = fit; admits = λ admitted. ap (λ (t : Bool). t && true) admitted })

-- what is handed over is admitted
hand_admitted : (c : Controller) (store : Store) (answer : records.Answer) → Fit store
    → controller-separation.admits c (record { call = machine.hand store; answer = answer }) ≡ true
unfolding controller-separation.admits controller-separation.is_reset controller-separation.resets is_reset_store
    lists.carries_out lists.brings_store lists.store_brought
hand_admitted c store answer fit =
    let x : machine.Exchange = record { call = machine.hand store; answer = answer } in
    let above = leb 4 (named_drive store) in
    let keeps : not (not above && controller-separation.asks_reset (asked_for store))
    ≡ true = rw fit.keeps (ap not (and-false (not above))) in
    pick_by (λ (t : Bool). t ≡ true) (lists.carries_out c x) (λ carried. rw (fit.names, keeps) refl)
    (λ refused. ap not (and-false (lists.not_refused x)))

hands_case : OfHandings Leaving
unfolding hand_over machine.step controller-separation.admitted_from
hands_case d k whole idle is served_now l kept same fit =
    let queues = d.queues in
    let c = d.controller in
    let low : k ≤ 3 = omega (arith, served_now.low) in
    let some = served_now.some in
    let store = next_store queues k in
    let x = exchanged hand (plain (hand_over d k)) in
    let first = next_first queues kept k low some in
    let its = fit_first store (drop 1 (waiting queues k)) (subst AllFit first (fit k low)) in
    record {
      fit = λ job within.
          by_test (eqb k job)
          (λ same.
          subst (λ (n : ℕ). AllFit (waiting (served queues k) n)) (eqb-true k job same)
          (subst AllFit (sym (served_same queues kept k low some)) (fit_rest (waiting queues k) (fit k low))))
          (λ differ. subst AllFit (sym (served_other queues kept k low some job within (eqb-false k job differ)))
          (fit job within));
      admits =
          λ own. ap (all_admitted c) (hand_sends l d kept same k whole idle is served_now)
          ∙ ap (λ (t : Bool). t && true) (hand_admitted c store (own_answer x.answer) its);
    }

leaving : Kinds Leaving
leaving =
    record {
      refusals = refusals_case;
      passes = passed_case;
      queues = queueing_case;
      nothing = nothing_case;
      hands = hands_case;
    }

-- ---- every list

-- a call more is admitted
add_admitted : (l : JobLedger) (d : Dispatcher) (x : Exchange) (xs : List Exchange)
    → Sends d.controller (sent_of l x) x
    → all_admitted d.controller (sent_of l x) ≡ true
    → all_admitted x.answer.reply.dispatcher.controller (sent_from (ledger_after l x) xs) ≡ true
    → all_admitted d.controller (sent_from l (x ∷ xs)) ≡ true
unfolding sent_from controller-separation.admitted_from
add_admitted l d x xs (none nothing same) own others =
    let rest = sent_from (ledger_after l x) xs in
    ap (λ (sent : List machine.Exchange). all_admitted d.controller (sent ++ rest)) nothing
    ∙ subst (λ (c : Controller). all_admitted c rest ≡ true) same others
add_admitted l d x xs (one call is same) own others =
    let c = d.controller in
    let rest = sent_from (ledger_after l x) xs in
    let first : machine.Exchange = record { call = call; answer = machine.step c call } in
    let this = (both_hold (controller-separation.admits c first) true (sym (ap (all_admitted c) is) ∙ own)).0 in
    ap (λ (sent : List machine.Exchange). all_admitted c (sent ++ rest)) is
    ∙ ap (λ (t : Bool). t && all_admitted (machine.step c call).reply.controller rest) this
    ∙ subst (λ (c : Controller). all_admitted c rest ≡ true) same others

-- the controller's list is admitted
sent_admitted : (calls : List Call) (l : JobLedger) (d : Dispatcher) → AllKept d.queues → Agrees d.queues l
    → Waiting d.queues → admitted_from d (run d calls) ≡ true
    → all_admitted d.controller (sent_from l (run d calls)) ≡ true
unfolding run sent_from admitted_from controller-separation.admitted_from
sent_admitted [] l d kept same fit admitted = refl
sent_admitted (call ∷ calls) l d kept same fit admitted =
    let x = exchanged call (step d call) in
    let left = (step d call).reply.dispatcher in
    let leaves = by_step Leaving leaving d call l kept same fit in
    let followed = follows d call l kept same in
    let (own, others) = both_hold (admits_own d.controller x.answer call) _ admitted in
    add_admitted l d x (run left calls) followed.sends (leaves.admits own)
    (sent_admitted calls (ledger_after l x) left (kept_by d call kept) followed.same leaves.fit others)

-- ---- the theorem

fresh_fit : Waiting fresh_queues
unfolding AllFit
fresh_fit job low = subst AllFit (sym (fresh_waiting job low)) tt

pub drives_are_separate : (calls others : List Call)
    → Separate (run fresh_dispatcher calls) (run fresh_dispatcher others)
unfolding fresh_dispatcher
drives_are_separate calls others drive low admitted_one admitted_two same =
    let start = agrees fresh_dispatcher.queues fresh_ledger fresh_is_ledger in
    let one = sent_run calls fresh_ledger fresh_dispatcher fresh_kept start in
    let two = sent_run others fresh_ledger fresh_dispatcher fresh_kept start in
    subst₂ (controller-separation.Agree drive) (sym one.runs) (sym two.runs)
    (controller-drives.drives_are_separate one.calls two.calls drive low
    (subst (λ (l : List machine.Exchange). controller-separation.admitted l ≡ true) one.runs
    (sent_admitted calls fresh_ledger fresh_dispatcher fresh_kept start fresh_fit admitted_one))
    (subst (λ (l : List machine.Exchange). controller-separation.admitted l ≡ true) two.runs
    (sent_admitted others fresh_ledger fresh_dispatcher fresh_kept start fresh_fit admitted_two))
    (ap (controller-separation.history drive) (sym one.runs) ∙ same
    ∙ ap (controller-separation.history drive) two.runs))
