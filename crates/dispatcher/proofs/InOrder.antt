-- The stores of a job are handed over in the order in which they were queued, each once, none lost (`in_order`, over
-- the definitions): what waits and what is queued is, at each call, what is handed over and what waits then.
-- Assumes nothing.
use mathlib.Core.Path.{◌≡◌, refl, sym, ap, subst, ◌∙◌}
use mathlib.Core.List.{List, [], ◌∷◌, ◌++◌, append-nil, append_assoc}
use Prim.Native.Nat.{ℕ, suc, ◌-◌, ◌≤◌}
use native.Mathlib.Omega.{arith}
use lib.Dec.{eqb}
use lib.ListN.{length, take}
use borrow.Author.Tests.{eqb-true, eqb-false}
use Rattle.common.specs.Pick.{pick}
use Rattle.common.proofs.PickLaws.{by_test, pick_yes, pick_no, pick_both}
use Rattle.operations.specs.declared.store.Store.{Store}
use Rattle.queues.specs.declared.jobs.Queues.{Queues}
use Rattle.queues.specs.Jobs.{queued, next_store, served}
use Rattle.queues.proofs.WaitingLaws.{waiting, AllKept, fresh_kept, fresh_waiting, queued_same, queued_other}
use Rattle.queues.proofs.WaitingLaws.{queued_kept, next_first, served_same, served_other, served_kept}
use Rattle.dispatcher.specs.declared.dispatcher.Dispatcher.{Dispatcher}
use Rattle.dispatcher.specs.Dispatcher.{fresh_dispatcher, hand_over}
use Rattle.dispatcher.specs.Lists.{Call, Exchange, plain, step, run, after, not_refused, queued_by, line}
use Rattle.dispatcher.specs.Lists.{handed_by, queued_in, handed_in}
use Rattle.dispatcher.specs.Lists.Call.{hand}
use Rattle.dispatcher.specs.Order.{InOrder}
use Rattle.dispatcher.proofs.Laws.{queue_room, queue_low, hand_accepted}
use Rattle.dispatcher.proofs.Steps.{exchanged, OfRefusals, OfPassed, OfQueueing, OfNothing, OfHandings, Kinds}
use Rattle.dispatcher.proofs.Steps.{passed_queues, by_step}

-- what a call queues and hands over of a job
abbrev queued_at : ℕ → Exchange → List Store
queued_at job x = pick (not_refused x) (queued_by job x.call) []

abbrev pub handed_at : ℕ → Dispatcher → Exchange → List Store
handed_at job d x = pick (not_refused x) (handed_by (line job d) (line job x.answer.reply.dispatcher) x.call) []

-- what a handing leaves of a line: all of it, or all but the first
pub none_handed : (before after : List Store) → after ≡ before → handed_by before after hand ≡ []
unfolding handed_by
none_handed before after same =
    let none : length before - length after ≡ 0 = omega (arith, ap length same) in
    ap (λ (n : ℕ). take n before) none

pub first_handed : (store : Store) (before after : List Store) → before ≡ store ∷ after
    → handed_by before after hand ≡ store ∷ []
unfolding handed_by
first_handed store before after first =
    let one : length before - length after ≡ 1 = omega (arith, longer) in
    ap (λ (n : ℕ). take n before) one ∙ ap (take 1) first
  where
    longer : length before ≡ suc (length after)
    longer = ap length first

-- at each call, of each job
pub record Ordered (d : Dispatcher) (x : Exchange) : Type 0 where
  pub kept : AllKept x.answer.reply.dispatcher.queues
  pub same : (job : ℕ) → job ≤ 3
      → waiting d.queues job ++ queued_at job x
      ≡ handed_at job d x ++ waiting x.answer.reply.dispatcher.queues job

abbrev Orders : Dispatcher → Exchange → Type 0
Orders d x = AllKept d.queues → Ordered d x

-- neither, and the queues are as they were
still : (d : Dispatcher) (x : Exchange) → x.answer.reply.dispatcher.queues ≡ d.queues
    → ((job : ℕ) → queued_at job x ≡ []) → ((job : ℕ) → handed_at job d x ≡ []) → Orders d x
still d x is none nothing kept =
    record {
      kept = subst AllKept (sym is) kept;
      same =
          λ job low. ap (λ (l : List Store). waiting d.queues job ++ l) (none job)
          ∙ append-nil (waiting d.queues job)
          ∙ ap (λ (q : Queues). waiting q job) (sym is)
          ∙ ap (λ (l : List Store). l ++ waiting x.answer.reply.dispatcher.queues job) (sym (nothing job));
    }

refusals_case : OfRefusals Orders
unfolding not_refused
refusals_case d call number own some = still d _ refl (λ job. pick_no _ _ some) (λ job. pick_no _ _ some)

passed_case : OfPassed Orders
unfolding queued_by handed_by
passed_case d call = still d _ (passed_queues d call) (λ job. pick_both _ []) (λ job. pick_both _ [])

nothing_case : OfNothing Orders
unfolding not_refused queued_by pick
nothing_case d is = still d _ refl (λ job. refl) (λ job. none_handed (line job d) (line job d) refl)

queueing_case : OfQueueing Orders
unfolding not_refused queued_by handed_by pick
queueing_case d k store good kept =
    let low = queue_low d k store good in
    let room = queue_room d k store good in
    record {
      kept = queued_kept d.queues kept k low store room;
      same = λ job within.
          by_test (eqb k job)
          (λ same.
          let e = eqb-true k job same in
          ap (λ (l : List Store). waiting d.queues job ++ l) (pick_yes _ _ same)
          ∙ subst (λ (n : ℕ). waiting d.queues n ++ (store ∷ []) ≡ waiting (queued d.queues k store) n) e
          (sym (queued_same d.queues kept k low store room)))
          (λ differ.
          ap (λ (l : List Store). waiting d.queues job ++ l) (pick_no _ _ differ) ∙ append-nil _
          ∙ sym (queued_other d.queues kept k low store room job within (eqb-false k job differ)));
    }

hands_case : OfHandings Orders
unfolding not_refused queued_by hand_over
hands_case d k whole idle is served_now kept =
    let low : k ≤ 3 = omega (arith, served_now.low) in
    let some = served_now.some in
    let accepted = hand_accepted d k whole idle in
    let handed : (job : ℕ) → handed_at job d (exchanged hand (plain (hand_over d k)))
    ≡ handed_by (waiting d.queues job) (waiting (served d.queues k) job) hand =
    λ job. pick_yes _ _ accepted in
    record {
      kept = served_kept d.queues kept k low some;
      same = λ job within.
          let queues = d.queues in
          let alone = ap (λ (l : List Store). waiting queues job ++ l) (pick_both _ [])
          ∙ append-nil (waiting queues job) in
          let rest = waiting (served queues k) job in
          by_test (eqb k job)
          (λ same.
          let first = subst (λ (n : ℕ). waiting queues n ≡ next_store queues k ∷ waiting (served queues k) n)
          (eqb-true k job same)
          (next_first queues kept k low some
          ∙ ap (λ (l : List Store). next_store queues k ∷ l) (sym (served_same queues kept k low some))) in
          alone ∙ first ∙ ap (λ (l : List Store). l ++ rest) (sym (handed job ∙ first_handed _ _ rest first)))
          (λ differ.
          let stays = served_other queues kept k low some job within (eqb-false k job differ) in
          alone ∙ sym stays ∙ ap (λ (l : List Store). l ++ rest) (sym (handed job ∙ none_handed _ rest stays)));
    }

ordered : Kinds Orders
ordered =
    record {
      refusals = refusals_case;
      passes = passed_case;
      queues = queueing_case;
      nothing = nothing_case;
      hands = hands_case;
    }

-- the queues stay kept
pub kept_by : (d : Dispatcher) (call : Call) → AllKept d.queues → AllKept (step d call).reply.dispatcher.queues
kept_by d call kept = (by_step Orders ordered d call kept).kept

-- ---- every list

in_order_from : (calls : List Call) (d : Dispatcher) → AllKept d.queues → (job : ℕ) → job ≤ 3
    → waiting d.queues job ++ queued_in job (run d calls)
    ≡ handed_in job d (run d calls) ++ waiting (after d (run d calls)).queues job
unfolding run after queued_in handed_in
in_order_from [] d kept job low = append-nil (waiting d.queues job)
in_order_from (call ∷ calls) d kept job low =
    let x = exchanged call (step d call) in
    let next = (step d call).reply.dispatcher in
    let one = by_step Orders ordered d call kept in
    let others = in_order_from calls next one.kept job low in
    sym (append_assoc (waiting d.queues job) (queued_at job x) (queued_in job (run next calls)))
    ∙ ap (λ (l : List Store). l ++ queued_in job (run next calls)) (one.same job low)
    ∙ append_assoc (handed_at job d x) (waiting next.queues job) (queued_in job (run next calls))
    ∙ ap (λ (l : List Store). handed_at job d x ++ l) others
    ∙ sym (append_assoc (handed_at job d x) (handed_in job next (run next calls))
    (waiting (after next (run next calls)).queues job))

pub in_order : (calls : List Call) → InOrder (run fresh_dispatcher calls)
unfolding fresh_dispatcher
in_order calls job low =
    sym (ap (λ (l : List Store). l ++ queued_in job (run fresh_dispatcher calls)) (fresh_waiting job low))
    ∙ in_order_from calls fresh_dispatcher fresh_kept job low
