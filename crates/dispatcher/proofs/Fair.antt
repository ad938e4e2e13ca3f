-- Every store is handed over in time (`fair`, over the definitions). 4 for each store of its job before it, and the
-- turns until its job is next: that number falls with every handing that is not refused.
-- Assumes nothing.
use mathlib.Core.Path.{◌≡◌, refl, sym, ap, subst, ◌∙◌}
use mathlib.Core.List.{List, [], ◌∷◌, ◌++◌, append-nil}
use Prim.Native.Nat.{ℕ, zero, suc, ◌+◌, ◌*◌, ◌≤◌, ◌<◌}
use native.Mathlib.Numerals.{add-one}
use native.Mathlib.Omega.{arith}
use lib.Dec.{eqb}
use lib.ListN.{length, take, length-append}
use lib.Seq.{take-append-le, take-append-add}
use borrow.Author.Tests.{eqb-true, eqb-false}
use Rattle.common.specs.Pick.{pick}
use Rattle.common.proofs.PickLaws.{by_test, pick_yes, pick_no, pick_both}
use Rattle.operations.specs.declared.store.Store.{Store}
use Rattle.queues.specs.declared.jobs.Queues.{Queues}
use Rattle.std.specs.Prelude.{None, Some}
use Rattle.queues.specs.Jobs.{queued, next_store, served}
use Rattle.queues.proofs.WaitingLaws.{waiting, AllKept, waits_some, queued_same, queued_other, queued_last, next_first}
use Rattle.queues.proofs.WaitingLaws.{served_same, served_other, served_last}
use Rattle.queues.proofs.TurnLaws.{away, nearer}
use Rattle.dispatcher.specs.declared.dispatcher.Dispatcher.{Dispatcher}
use Rattle.dispatcher.specs.Dispatcher.{hand_over}
use Rattle.dispatcher.specs.Lists.{Call, Exchange, plain, step, run, not_refused, handed_by, handed_in}
use Rattle.dispatcher.specs.Lists.Call.{hand}
use Rattle.dispatcher.specs.Fairness.{is_handing, handings, Fair}
use Rattle.dispatcher.proofs.Laws.{queue_room, queue_low, hand_accepted}
use Rattle.dispatcher.proofs.Steps.{exchanged, OfRefusals, OfPassed, OfQueueing, OfNothing, OfHandings, Kinds}
use Rattle.dispatcher.proofs.Steps.{passed_queues, by_step}
use Rattle.dispatcher.proofs.InOrder.{handed_at, none_handed, first_handed, kept_by}

-- whether a call is a handing that counts
abbrev handing_at : Exchange → ℕ
handing_at x = pick (not_refused x) (is_handing x.call) 0

job_same : (a b : ℕ) → Some a ≡ Some b → a ≡ b
job_same a b e = cc

job_some : {A : Type 0} (b : ℕ) → None ≡ Some b → A
job_some b e = let z : ◌≡◌ {A = ℕ} 0 1 = cc in absurd (omega arith)

module _ (job : ℕ) (within : job ≤ 3) where
  abbrev line_of : Dispatcher → List Store
  line_of d = waiting d.queues job

  abbrev turns_of : Dispatcher → ℕ
  turns_of d = away d.queues.last job

  -- a call passes the job by, whose turn comes closer with a handing, or hands over the first of its stores
  data Moved (d : Dispatcher) (x : Exchange) : Type 0 where
    passed_by : (more : List Store) → line_of x.answer.reply.dispatcher ≡ line_of d ++ more → handed_at job d x ≡ []
        → (0 < length (line_of d) → handing_at x + turns_of x.answer.reply.dispatcher ≤ turns_of d) → Moved d x
    served_by : (store : Store) → line_of d ≡ store ∷ line_of x.answer.reply.dispatcher
        → handed_at job d x ≡ store ∷ [] → handing_at x ≤ 1 → Moved d x

  abbrev Moves : Dispatcher → Exchange → Type 0
  Moves d x = AllKept d.queues → Moved d x

  -- the queues are as they were, and no handing counts
  still : (d : Dispatcher) (x : Exchange) → x.answer.reply.dispatcher.queues ≡ d.queues → handed_at job d x ≡ []
      → handing_at x ≡ 0 → Moved d x
  still d x is nothing none =
      let same : turns_of x.answer.reply.dispatcher ≡ turns_of d = ap (λ (q : Queues). away q.last job) is in
      passed_by [] (ap (λ (q : Queues). waiting q job) is ∙ sym (append-nil (line_of d))) nothing (λ waits. omega arith)

  refusals_case : OfRefusals Moves
  unfolding not_refused
  refusals_case d call number own some kept = still d _ refl (pick_no _ _ some) (pick_no _ _ some)

  passed_case : OfPassed Moves
  unfolding handed_by is_handing
  passed_case d call kept = still d _ (passed_queues d call) (pick_both _ []) (pick_both _ 0)

  queueing_case : OfQueueing Moves
  unfolding not_refused handed_by is_handing pick
  queueing_case d k store good kept =
      let low = queue_low d k store good in
      let room = queue_room d k store good in
      let last = ap (λ (n : ℕ). away n job) (queued_last d.queues kept k low store room) in
      by_test (eqb k job)
      (λ same.
      passed_by (store ∷ [])
      (subst (λ (n : ℕ). waiting (queued d.queues k store) n ≡ waiting d.queues n ++ (store ∷ []))
      (eqb-true k job same) (queued_same d.queues kept k low store room))
      refl (λ waits. omega (arith, last)))
      (λ differ.
      passed_by []
      (queued_other d.queues kept k low store room job within (eqb-false k job differ)
      ∙ sym (append-nil (line_of d))) refl (λ waits. omega (arith, last)))

  -- where the job waits, somebody is served
  nothing_case : OfNothing Moves
  unfolding not_refused is_handing pick
  nothing_case d is kept =
      passed_by [] (sym (append-nil (line_of d))) (none_handed (line_of d) (line_of d) refl)
      (λ waits.
      let next = nearer d.queues job (omega (arith, kept.low)) within (waits_some d.queues kept job within waits)
      in
      job_some next.next (sym is ∙ next.is))

  hands_case : OfHandings Moves
  unfolding not_refused hand_over is_handing
  hands_case d k whole idle is served_now kept =
      let queues = d.queues in
      let low : k ≤ 3 = omega (arith, served_now.low) in
      let some = served_now.some in
      let x = exchanged hand (plain (hand_over d k)) in
      let accepted = hand_accepted d k whole idle in
      let rest = waiting (served queues k) job in
      let handed : handed_at job d x ≡ handed_by (line_of d) rest hand = pick_yes _ _ accepted in
      let one : handing_at x ≡ 1 = pick_yes _ _ accepted in
      by_test (eqb k job)
      (λ same.
      let first = subst (λ (n : ℕ). waiting queues n ≡ next_store queues k ∷ waiting (served queues k) n)
      (eqb-true k job same)
      (next_first queues kept k low some
      ∙ ap (λ (l : List Store). next_store queues k ∷ l) (sym (served_same queues kept k low some))) in
      served_by (next_store queues k) first (handed ∙ first_handed _ _ rest first) (omega arith))
      (λ differ.
      let stays = served_other queues kept k low some job within (eqb-false k job differ) in
      passed_by [] (stays ∙ sym (append-nil (line_of d))) (handed ∙ none_handed _ rest stays)
      (λ waits.
      let next = nearer queues job (omega (arith, kept.low)) within (waits_some queues kept job within waits) in
      let same = job_same next.next k (sym next.is ∙ is) in
      let closer = next.closer (λ e. eqb-false k job differ (sym same ∙ e)) in
      let turns : turns_of (hand_over d k).dispatcher
      ≡ away k job = ap (λ (n : ℕ). away n job) (served_last queues kept k low) in
      let near : away k job < turns_of d = subst (λ (n : ℕ). away n job < turns_of d) same closer in
      omega (arith, one, near, turns)))

  moved : Kinds Moves
  moved =
      record {
        refusals = refusals_case;
        passes = passed_case;
        queues = queueing_case;
        nothing = nothing_case;
        hands = hands_case;
      }

  -- ---- every list

  -- the job's stores that are handed over begin with the first that wait, as many as the handings suffice for
  abbrev Within : Dispatcher → List Exchange → Type 0
  Within d xs =
      (j : ℕ) → j < length (line_of d) → 4 * j + turns_of d < handings xs
      → take (suc j) (handed_in job d xs) ≡ take (suc j) (line_of d)

  further : (d : Dispatcher) (x : Exchange) (xs : List Exchange) → Moved d x → Within x.answer.reply.dispatcher xs
      → Within d (x ∷ xs)
  unfolding handings handed_in
  further d x xs (passed_by more line nothing closer) rest j inside enough =
      let longer : length (line_of x.answer.reply.dispatcher)
      ≡ length (line_of d) + length more = ap length line ∙ length-append (line_of d) more in
      rw nothing
      (rest j (omega arith) (omega (arith, closer (omega arith)))
      ∙ rw line (take-append-le (suc j) (line_of d) more inside))
  further d x xs (served_by store first handed once) rest zero inside enough = rw (handed, first) refl
  further d x xs (served_by store first handed once) rest (suc j) inside enough =
      let long : length (line_of d) ≡ suc (length (line_of x.answer.reply.dispatcher)) = ap length first in
      rw (handed, first) (ap (λ (l : List Store). store ∷ l) (rest j (omega arith) (omega arith)))

  within_list : (calls : List Call) (d : Dispatcher) → AllKept d.queues → Within d (run d calls)
  unfolding run handings
  within_list [] d kept = λ j inside enough. absurd (omega arith)
  within_list (call ∷ calls) d kept =
      further d (exchanged call (step d call)) (run (step d call).reply.dispatcher calls)
      (by_step Moves moved d call kept)
      (within_list calls (step d call).reply.dispatcher (kept_by d call kept))

pub fair : (d : Dispatcher) (calls : List Call) → AllKept d.queues → Fair d (run d calls)
fair d calls kept job before behind store low line enough =
    let n = length before in
    let long : length (waiting d.queues job)
    ≡ n + suc (length behind) = ap length line ∙ length-append before (store ∷ behind) in
    let first : take (n + 1) (handed_in job d (run d calls)) ≡ take (n + 1) (waiting d.queues job) =
    rw add-one (within_list job low calls d kept n (omega arith) (omega arith)) in
    first ∙ ap (take (n + 1)) line ∙ take-append-add before (store ∷ behind) 1
