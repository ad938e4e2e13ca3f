-- The queues are the ledger of the list, and what reaches the controller by that ledger is a run of the machine
-- (`sent_run`, over the definitions): at each call what waits, the last job served and the turn are the ledger's.
-- Assumes nothing.
use mathlib.Core.Path.{◌≡◌, refl, sym, ap, subst, ◌∙◌}
use mathlib.Core.Bool.{Bool, true, false, not}
use mathlib.Core.List.{List, [], ◌∷◌, ◌++◌}
use Prim.Native.Nat.{ℕ, ◌+◌, ◌%◌, ◌≤◌, ◌<◌}
use native.Mathlib.Omega.{arith}
use lib.Dec.{eqb, ltb}
use lib.ListN.{length, take, drop}
use borrow.Author.Tests.{lt-ltb, le-ltb, eqb-true, eqb-false}
use Rattle.common.specs.Pick.{pick}
use Rattle.common.proofs.PickLaws.{by_test, pick_yes, pick_no, pick_both}
use Rattle.status.proofs.DriveLaws.{by_four}
use Rattle.operations.specs.declared.store.Store.{Store}
use Rattle.controller.specs.declared.controller.Controller.{Controller}
use Rattle.controller.specs.Machine as machine
use Rattle.controller.specs.Lists as lists
use Rattle.controller.specs.Ledger.{entered}
use Rattle.queues.specs.declared.queue.Queue.{Queue}
use Rattle.queues.specs.declared.jobs.Queues.{Queues}
use Rattle.queues.specs.Jobs.{Turn}
use Rattle.std.specs.Prelude.{None, Some}
use Rattle.queues.specs.Queue.{empty_queue, waiting_in}
use Rattle.queues.specs.Jobs.{fresh_queues, queue_of, waits, turn_of, queued, next_store, served}
use Rattle.queues.proofs.JobLaws.{Served}
use Rattle.queues.proofs.WaitingLaws.{waiting, Kept, AllKept, waiting_length, kept_sound, queued_same, queued_other}
use Rattle.queues.proofs.WaitingLaws.{queued_last, next_first, served_same, served_other, served_last}
use Rattle.dispatcher.specs.declared.dispatcher.Dispatcher.{Dispatcher}
use Rattle.dispatcher.specs.Dispatcher.{Answer, unchanged, answer_with_queues, passed_answer, hand_over}
use Rattle.dispatcher.specs.Dispatcher.{fresh_dispatcher, is_whole}
use Rattle.controller.specs.Controller.{is_idle}
use Rattle.dispatcher.specs.Lists.{Call, Exchange, plain, step, run, after, not_refused}
use Rattle.dispatcher.specs.Lists.Call.{hand, passed}
use Rattle.dispatcher.specs.JobLedger.{JobLedger, fresh_ledger, from_last, first_waiting, in_turn, first_of, next}
use Rattle.dispatcher.specs.JobLedger.{ledger_served, ledger_call, ledger_after, ledger_from}
use Rattle.dispatcher.specs.JobLedger.{SoundQueue, SoundQueues, IsLedger}
use Rattle.dispatcher.specs.Separation.{own_exchange, sent_at, sent_by, sent_from}
use Rattle.dispatcher.proofs.Laws.{queue_room, queue_low, hand_accepted}
use Rattle.dispatcher.proofs.Steps.IsOwn.{queueing, handing}
use Rattle.dispatcher.proofs.Steps.{exchanged, OfRefusals, OfPassed, OfQueueing, OfNothing, OfHandings, IsOwn}
use Rattle.dispatcher.proofs.Steps.{Kinds, by_step}
use Rattle.dispatcher.proofs.InOrder.{kept_by}

-- ---- a ledger of the queues, by the job

pub record Agrees (queues : Queues) (l : JobLedger) : Type 0 where
  pub line : (job : ℕ) → job ≤ 3 → waiting queues job ≡ l.waiting job
  pub last : queues.last ≡ l.last

pub agrees : (queues : Queues) (l : JobLedger) → IsLedger queues l → Agrees queues l
unfolding queue_of waiting_in pick
agrees queues l is =
    record {
      line = by_four (λ job. waiting queues job ≡ l.waiting job) is.q0 is.q1 is.q2 is.q3;
      last = is.last;
    }

pub is_ledger : (queues : Queues) (l : JobLedger) → Agrees queues l → IsLedger queues l
unfolding queue_of waiting_in pick
is_ledger queues l same =
    record {
      q0 = same.line 0 (omega arith);
      q1 = same.line 1 (omega arith);
      q2 = same.line 2 (omega arith);
      q3 = same.line 3 (omega arith);
      last = same.last;
    }

-- every state has one
pub own_ledger : (queues : Queues) → IsLedger queues (record { waiting = waiting queues; last = queues.last })
own_ledger queues = is_ledger queues _ (record { line = λ job low. refl; last = refl })

pub fresh_is_ledger : IsLedger fresh_dispatcher.queues fresh_ledger
unfolding fresh_dispatcher fresh_queues
fresh_is_ledger = record { q0 = refl; q1 = refl; q2 = refl; q3 = refl; last = refl }

-- sound queues are kept
pub sound_kept : (queues : Queues) → SoundQueues queues → AllKept queues
unfolding queue_of pick
sound_kept queues sound =
    record {
      each =
          by_four (λ job. Kept (queue_of queues job)) (one _ sound.q0) (one _ sound.q1) (one _ sound.q2)
          (one _ sound.q3);
      low = omega (arith, sound.last);
    }
  where
    one : (queue : Queue) → SoundQueue queue → Kept queue
    one queue own = record { eight = own.places; few = own.within }

pub kept_sound_queues : (queues : Queues) → AllKept queues → SoundQueues queues
unfolding queue_of pick
kept_sound_queues queues kept =
    record {
      q0 = one _ (kept.each 0 (omega arith));
      q1 = one _ (kept.each 1 (omega arith));
      q2 = one _ (kept.each 2 (omega arith));
      q3 = one _ (kept.each 3 (omega arith));
      last = omega (arith, kept.low);
    }
  where
    one : (queue : Queue) → Kept queue → SoundQueue queue
    one queue own = record { places = own.eight; within = own.few }

pub fresh_sound : SoundQueues fresh_dispatcher.queues
unfolding fresh_dispatcher fresh_queues
fresh_sound =
    let empty : SoundQueue empty_queue = record { places = refl; within = omega arith } in
    record { q0 = empty; q1 = empty; q2 = empty; q3 = empty; last = omega arith }

-- ---- the turn

-- a turn as the ledger has it
unfoldable job_of : Turn → List ℕ
job_of None = []
job_of (Some job) = job ∷ []

positive : (n : ℕ) → ltb 0 n ≡ not (eqb n 0)
positive n =
    by_test (eqb n 0) (λ e. le-ltb 0 n (omega (arith, eqb-true n 0 e)) ∙ ap not (sym e))
    (λ e. lt-ltb 0 n (some (eqb-false n 0 e)) ∙ ap not (sym e))
  where
    some : (n ≡ 0 → ⊥) → 0 < n
    some ne = omega arith

one_turn : (some none : Bool) (job : ℕ) (t : Turn) (others : List ℕ) → some ≡ not none → job_of t ≡ others
    → job_of (pick some (Some job) t) ≡ pick none others (job ∷ [])
unfolding pick job_of
one_turn some true job t others e same = rw e same
one_turn some false job t others e same = rw e refl

module _ (queues : Queues) (l : JobLedger) (kept : AllKept queues) (same : Agrees queues l) where
  -- a job waits just where the ledger has a store of it
  waits_is : (job : ℕ) → job ≤ 3 → waits queues job ≡ not (eqb (length (l.waiting job)) 0)
  unfolding waits
  waits_is job low =
      let long : (queue_of queues job).length ≡ length (l.waiting job) =
      sym (waiting_length (queue_of queues job) (kept.each job low)) ∙ ap length (same.line job low) in
      ap (λ (n : ℕ). ltb 0 n) long ∙ positive (length (l.waiting job))

  turn_is : job_of (turn_of queues) ≡ in_turn l
  unfolding turn_of first_waiting job_of
  turn_is =
      let last = queues.last in
      let round : (last + 4) % 4 ≡ last = omega (arith, kept.low) in
      let own : waits queues last ≡ not (eqb (length (l.waiting ((last + 4) % 4))) 0) =
      waits_is last (omega (arith, kept.low)) ∙ ap (λ (n : ℕ). not (eqb (length (l.waiting n)) 0)) (sym round) in
      let fourth : job_of (pick (waits queues last) (Some last) None)
      ≡ first_waiting l.waiting ((last + 4) % 4 ∷ []) =
      one_turn _ _ last None [] own refl
      ∙ ap (λ (n : ℕ). pick (eqb (length (l.waiting ((last + 4) % 4))) 0) [] (n ∷ [])) (sym round) in
      one_turn _ _ _ _ _ (waits_is _ (omega arith))
      (one_turn _ _ _ _ _ (waits_is _ (omega arith))
      (one_turn _ _ _ _ _ (waits_is _ (omega arith)) fourth))
      ∙ ap (λ (n : ℕ). first_waiting l.waiting (from_last n)) same.last

  pub nobody_next : turn_of queues ≡ None → in_turn l ≡ []
  unfolding job_of
  nobody_next is = sym turn_is ∙ ap job_of is

  pub job_next : (job : ℕ) → turn_of queues ≡ Some job → in_turn l ≡ job ∷ []
  unfolding job_of
  job_next job is = sym turn_is ∙ ap job_of is

  -- the store that is next
  pub no_store_next : turn_of queues ≡ None → next l ≡ []
  unfolding first_of
  no_store_next is = ap (first_of l.waiting) (nobody_next is)

  pub store_next : (job : ℕ) → job ≤ 3 → waits queues job ≡ true → turn_of queues ≡ Some job
      → next l ≡ next_store queues job ∷ []
  unfolding first_of
  store_next job low some is =
      ap (first_of l.waiting) (job_next job is)
      ∙ ap (take 1) (sym (same.line job low) ∙ next_first queues kept job low some)

-- ---- a call

-- what a call sends: nothing, and the controller stays, or a call that the controller answers
pub data Sends (c : Controller) (own : List machine.Exchange) (x : Exchange) : Type 0 where
  none : own ≡ [] → x.answer.reply.dispatcher.controller ≡ c → Sends c own x
  one : (call : machine.Call) → own ≡ record { call = call; answer = machine.step c call } ∷ []
      → x.answer.reply.dispatcher.controller ≡ (machine.step c call).reply.controller → Sends c own x

abbrev pub sent_of : JobLedger → Exchange → List machine.Exchange
sent_of l x = sent_by l (not_refused x) x.answer x.call

pub record Followed (l : JobLedger) (d : Dispatcher) (x : Exchange) : Type 0 where
  pub same : Agrees x.answer.reply.dispatcher.queues (ledger_after l x)
  pub sends : Sends d.controller (sent_of l x) x

abbrev Follows : Dispatcher → Exchange → Type 0
Follows d x = (l : JobLedger) → AllKept d.queues → Agrees d.queues l → Followed l d x

-- refused, of the dispatcher's own calls: nothing
own_quiet : (l : JobLedger) (call : Call) (a : Answer) → IsOwn call → sent_by l false a call ≡ []
unfolding sent_by pick
own_quiet l call a (queueing job store) = refl
own_quiet l call a handing = refl

pub refused_sends : (l : JobLedger) (d : Dispatcher) (call : Call) (number : ℕ) → IsOwn call → eqb number 0 ≡ false
    → sent_of l (exchanged call (plain (unchanged number d))) ≡ []
unfolding not_refused
refused_sends l d call number own some =
    let a = plain (unchanged number d) in ap (λ (t : Bool). sent_by l t a call) some ∙ own_quiet l call a own

-- a handing with nothing queued: nothing
pub nothing_sends : (l : JobLedger) (d : Dispatcher) → AllKept d.queues → Agrees d.queues l
    → turn_of d.queues ≡ None → sent_of l (exchanged hand (plain (unchanged 0 d))) ≡ []
unfolding not_refused sent_by sent_at pick
nothing_sends l d kept same is = ap (sent_at (plain (unchanged 0 d))) (no_store_next d.queues l kept same is)

-- and else the store whose turn it is
pub hand_sends : (l : JobLedger) (d : Dispatcher) → AllKept d.queues → Agrees d.queues l
    → (job : ℕ) → is_whole d ≡ true → is_idle d.controller ≡ true → turn_of d.queues ≡ Some job
    → Served d.queues job
    → sent_of l (exchanged hand (plain (hand_over d job)))
    ≡ own_exchange (machine.hand (next_store d.queues job)) (plain (hand_over d job)) ∷ []
unfolding not_refused sent_by sent_at
hand_sends l d kept same job whole idle is served_now =
    pick_yes _ _ (hand_accepted d job whole idle)
    ∙ ap (sent_at (plain (hand_over d job)))
    (store_next d.queues l kept same job (omega (arith, served_now.low)) served_now.some is)

refusals_case : OfRefusals Follows
unfolding not_refused ledger_after
refusals_case d call number own some l kept same =
    record {
      same = subst (Agrees d.queues) (sym (pick_no _ _ some)) same;
      sends = none (refused_sends l d call number own some) refl;
    }

passed_case : OfPassed Follows
unfolding ledger_after ledger_call sent_by step passed_answer
passed_case d call l kept same =
    let is : step d (passed call) ≡ answer_with_queues d.queues (machine.step d.controller call) =
    pick_yes _ _ (kept_sound d.queues kept) in
    subst (λ (a : Answer). Followed l d (exchanged (passed call) a)) (sym is)
    (record { same = subst (Agrees d.queues) (sym (pick_both _ l)) same; sends = one call refl refl })

nothing_case : OfNothing Follows
unfolding not_refused ledger_after ledger_call ledger_served pick
nothing_case d is l kept same =
    record {
      same = subst (Agrees d.queues) (sym (ap (ledger_served l) (nobody_next d.queues l kept same is))) same;
      sends = none (nothing_sends l d kept same is) refl;
    }

queueing_case : OfQueueing Follows
unfolding not_refused ledger_after ledger_call entered sent_by pick
queueing_case d k store good l kept same =
    let queues = d.queues in
    let low = queue_low d k store good in
    let room = queue_room d k store good in
    record {
      same =
          record {
            line = λ job within.
                by_test (eqb job k)
                (λ is.
                subst (λ (n : ℕ). waiting (queued queues k store) n ≡ l.waiting k ++ (store ∷ []))
                (sym (eqb-true job k is))
                (queued_same queues kept k low store room
                ∙ ap (λ (line : List Store). line ++ (store ∷ [])) (same.line k low))
                ∙ sym (pick_yes _ _ is))
                (λ differ.
                queued_other queues kept k low store room job within (λ e. eqb-false job k differ (sym e))
                ∙ same.line job within ∙ sym (pick_no _ _ differ));
            last = queued_last queues kept k low store room ∙ same.last;
          };
      sends = none refl refl;
    }

hands_case : OfHandings Follows
unfolding not_refused ledger_after ledger_call ledger_served entered hand_over machine.step
hands_case d k whole idle is served_now l kept same =
    let queues = d.queues in
    let low : k ≤ 3 = omega (arith, served_now.low) in
    let some = served_now.some in
    let accepted = hand_accepted d k whole idle in
    let x = exchanged hand (plain (hand_over d k)) in
    let left : ledger_after l x ≡ ledger_served l (k ∷ []) =
    pick_yes _ _ accepted ∙ ap (ledger_served l) (job_next queues l kept same k is) in
    record {
      same =
          subst (Agrees (served queues k)) (sym left)
          (record {
            line = λ job within.
                by_test (eqb job k)
                (λ e.
                subst (λ (n : ℕ). waiting (served queues k) n ≡ drop 1 (l.waiting k)) (sym (eqb-true job k e))
                (served_same queues kept k low some ∙ ap (drop 1) (same.line k low))
                ∙ sym (pick_yes _ _ e))
                (λ differ.
                served_other queues kept k low some job within (λ e. eqb-false job k differ (sym e))
                ∙ same.line job within ∙ sym (pick_no _ _ differ));
            last = served_last queues kept k low;
          });
      sends = one (machine.hand (next_store queues k)) (hand_sends l d kept same k whole idle is served_now) refl;
    }

following : Kinds Follows
following =
    record {
      refusals = refusals_case;
      passes = passed_case;
      queues = queueing_case;
      nothing = nothing_case;
      hands = hands_case;
    }

pub follows : (d : Dispatcher) (call : Call) → Follows d (exchanged call (step d call))
follows d call = by_step Follows following d call

-- ---- every list

-- the controller's list is a run of the machine, and leaves the controller that the dispatcher has
pub record SentRun (l : JobLedger) (d : Dispatcher) (xs : List Exchange) : Type 0 where
  pub calls : List machine.Call
  pub runs : sent_from l xs ≡ machine.run d.controller calls
  pub ends : lists.after d.controller (sent_from l xs) ≡ (after d xs).controller

-- a call more
add_sent : (l : JobLedger) (d : Dispatcher) (x : Exchange) (xs : List Exchange) → Sends d.controller (sent_of l x) x
    → SentRun (ledger_after l x) x.answer.reply.dispatcher xs → SentRun l d (x ∷ xs)
unfolding sent_from machine.run lists.after after
add_sent l d x xs (none nothing same) rest =
    let alone = ap (λ (own : List machine.Exchange). own ++ sent_from (ledger_after l x) xs) nothing in
    record {
      calls = rest.calls;
      runs = alone ∙ rest.runs ∙ ap (λ (c : Controller). machine.run c rest.calls) same;
      ends =
          ap (lists.after d.controller) alone
          ∙ ap (λ (c : Controller). lists.after c (sent_from (ledger_after l x) xs)) (sym same) ∙ rest.ends;
    }
add_sent l d x xs (one call is same) rest =
    let c = d.controller in
    let first : machine.Exchange = record { call = call; answer = machine.step c call } in
    let longer = ap (λ (own : List machine.Exchange). own ++ sent_from (ledger_after l x) xs) is in
    record {
      calls = call ∷ rest.calls;
      runs =
          longer ∙ ap (λ (own : List machine.Exchange). first ∷ own)
          (rest.runs ∙ ap (λ (c : Controller). machine.run c rest.calls) same);
      ends =
          ap (lists.after c) longer
          ∙ ap (λ (c : Controller). lists.after c (sent_from (ledger_after l x) xs)) (sym same) ∙ rest.ends;
    }

pub sent_run : (calls : List Call) (l : JobLedger) (d : Dispatcher) → AllKept d.queues → Agrees d.queues l
    → SentRun l d (run d calls)
unfolding run sent_from machine.run lists.after after
sent_run [] l d kept same = record { calls = []; runs = refl; ends = refl }
sent_run (call ∷ calls) l d kept same =
    let x = exchanged call (step d call) in
    let left = (step d call).reply.dispatcher in
    let followed = follows d call l kept same in
    add_sent l d x (run left calls) followed.sends
    (sent_run calls (ledger_after l x) left (kept_by d call kept) followed.same)

-- the queues stay kept, and the ledger's
pub kept_after : (calls : List Call) (d : Dispatcher) → AllKept d.queues → AllKept (after d (run d calls)).queues
unfolding run after
kept_after [] d kept = kept
kept_after (call ∷ calls) d kept = kept_after calls (step d call).reply.dispatcher (kept_by d call kept)

pub ledger_kept : (calls : List Call) (l : JobLedger) (d : Dispatcher) → AllKept d.queues → Agrees d.queues l
    → Agrees (after d (run d calls)).queues (ledger_from l (run d calls))
unfolding run after ledger_from
ledger_kept [] l d kept same = same
ledger_kept (call ∷ calls) l d kept same =
    ledger_kept calls (ledger_after l (exchanged call (step d call))) (step d call).reply.dispatcher
    (kept_by d call kept) (follows d call l kept same).same
