-- Every call of the dispatcher is refused by the lowest number whose condition holds: its own by their tables, which
-- rise; those that are passed on by the controller's, with the ranges of the queues beside the controller's.
-- Assumes nothing.
use mathlib.Core.Path.{◌≡◌, refl, sym, ap, ap₂, subst, ◌∙◌}
use Prim.Native.Nat.{ℕ}
use native.Mathlib.Omega.{arith}
use mathlib.Core.Bool.{Bool, true, false, not, ◌&&◌, ◌||◌}
use mathlib.Core.List.{List, ◌∷◌}
use lib.Dec.{leb, eqb}
use borrow.Author.Tests.{leb-true, leb-false, eqb-true, lt-ltb, le-ltb}
use Rattle.common.specs.Pick.{pick}
use Rattle.common.proofs.PickLaws.{by_test, by_either, both_hold, pick_by}
use Rattle.operations.specs.declared.decode.Decoded.{Decoded}
use Rattle.operations.specs.declared.store.Store.{Store}
use Rattle.operations.specs.Store.{names_drive, asked_for}
use Rattle.link.specs.declared.state.Phase.{Phase}
use Rattle.link.specs.Damaged.{is_sound}
use Rattle.link.proofs.PhaseLaws.{each_phase}
use Rattle.controller.specs.Controller.{is_idle_in, is_idle}
use Rattle.controller.specs.Records as records
use Rattle.controller.specs.Machine as machine
use Rattle.controller.specs.Ledger.{names, operation_of}
use Rattle.controller.specs.Separation.{asks_reset}
use Rattle.controller.specs.Reasons as controller-reasons
use Rattle.controller.specs.Reasons.{holds_at, IsLowest, idle_phase}
use Rattle.controller.proofs.Asking.{Asks, by_asked}
use Rattle.controller.proofs.LowestLaws.{first_of, rising, first_is_lowest}
use Rattle.controller.proofs.ReasonsAreLowest as controller-lowest
use Rattle.queues.specs.declared.queue.Queue.{Queue}
use Rattle.queues.specs.declared.jobs.Queues.{Queues}
use Rattle.queues.specs.Jobs.{Turn}
use Rattle.std.specs.Prelude.{None, Some}
use Rattle.queues.specs.Jobs.{are_sound, queue_of, turn_of}
use Rattle.dispatcher.specs.declared.dispatcher.Dispatcher.{Dispatcher}
use Rattle.dispatcher.specs.Told.{Dispatched}
use Rattle.dispatcher.specs.Dispatcher.{unchanged, answer_with_queues, answer_with, unchanged_transfer, is_whole}
use Rattle.dispatcher.specs.Dispatcher.{is_reset_store, queue_refusal, queue_call, hand_turn, hand_call, passed_answer}
use Rattle.dispatcher.specs.Lists.{Call, step}
use Rattle.dispatcher.specs.Lists.Call.{queue, hand, passed}
use Rattle.dispatcher.specs.Reasons.{queues_in_range, in_range, queue_length, own_conditions, conditions_of}
use Rattle.dispatcher.specs.Reasons.{RefusedByLowest}
use Rattle.dispatcher.proofs.Laws.{hand_accepted}

-- ---- 1: the ranges

sound_queues : (q : Queues) → are_sound q ≡ queues_in_range q
unfolding are_sound queues_in_range
sound_queues q =
    ap
    (λ (t : Bool).
    (((leb q.jobs.zero.length 8 && leb q.jobs.one.length 8) && leb q.jobs.two.length 8) && leb q.jobs.three.length 8)
    && t)
    (by_test (leb q.last 3)
    (λ low. let below = leb-true q.last 3 low in lt-ltb q.last 4 (omega arith) ∙ sym low)
    (λ high. let above = leb-false q.last 3 high in le-ltb q.last 4 (omega arith) ∙ sym high))

twice : (t : Bool) → not (not t) ≡ t
twice true = refl
twice false = refl

-- a state is whole where its fields are in range
pub whole_in_range : (d : Dispatcher) → is_whole d ≡ in_range d
unfolding is_whole in_range
whole_in_range d =
    let c = d.controller in
    ap₂ (λ (t u : Bool). t && u) (sound_queues d.queues)
    (twice (is_sound c.body c.phase) ∙ controller-lowest.sound_in_range c)

-- ---- 16 and 17: queueing

-- a store resets where its operation is 0
abbrev Resets : ℕ → ℕ → ℕ → Decoded → Type 0
Resets operation first last asked = asks_reset asked ≡ eqb operation 0

resets_by_operation : Asks Resets
unfolding asks_reset
resets_by_operation =
    record {
      resets = λ f l. refl;
      track = λ f l low. refl;
      no_track = λ f l above below. refl;
      disables = λ f. refl;
      enables = λ f. refl;
      unguards = λ f. refl;
      guards = λ f. refl;
      mfm = λ f. refl;
      gcr = λ f. refl;
      rewind = λ f. refl;
      fast_forward = λ f. refl;
      skip_forward = λ f. refl;
      skip_reverse = λ f. refl;
      search_forward = λ f. refl;
      search_reverse = λ f. refl;
      write_mark = λ f. refl;
      no_control = λ f l above no_a no_b no_c no_d. refl;
      read = λ l. refl;
      check_bytes = λ l. refl;
      supplied_count = λ l. refl;
      no_read = λ f l. refl;
      write = λ f l. refl;
      erase = λ f l. refl;
      none = λ operation f l no_0 no_3. sym no_0;
    }

store_not_taken_lem : (job : ℕ) (store : Store)
    → ((leb 4 job || not (names_drive store)) || is_reset_store store)
    ≡ (leb 4 job || (not (names_drive store) || eqb (operation_of store) 0))
unfolding is_reset_store asked_for
store_not_taken_lem job store =
    grouped (leb 4 job) (not (names_drive store)) (is_reset_store store)
    ∙ ap (λ (t : Bool). leb 4 job || (not (names_drive store) || t))
    (by_asked Resets resets_by_operation (operation_of store) store.first store.fourth)
  where
    grouped : (a b e : Bool) → ((a || b) || e) ≡ (a || (b || e))
    grouped true b e = refl
    grouped false b e = refl

length_of : (t : Bool) (q r : Queue) → (pick t q r).length ≡ pick t q.length r.length
unfolding pick
length_of true q r = refl
length_of false q r = refl

queue_length_lem : (q : Queues) (job : ℕ) → (queue_of q job).length ≡ queue_length q job
unfolding queue_of queue_length
queue_length_lem q job =
    length_of (eqb job 0) q.jobs.zero _
    ∙ ap (pick (eqb job 0) q.jobs.zero.length)
    (length_of (eqb job 1) q.jobs.one _
    ∙ ap (pick (eqb job 1) q.jobs.one.length) (length_of (eqb job 2) q.jobs.two q.jobs.three))

kept : (number : ℕ) (done left : Dispatched) → done.refusal ≡ 0 → left.refusal ≡ number
    → (pick (eqb number 0) done left).refusal ≡ number
kept number done left zero same =
    pick_by (λ (r : Dispatched). r.refusal ≡ number) (eqb number 0) (λ none. zero ∙ sym (eqb-true number 0 none))
    (λ some. same)

queue_refusal_lem : (d : Dispatcher) (job : ℕ) (store : Store)
    → queue_refusal d job store ≡ first_of (conditions_of d (queue job store))
unfolding queue_refusal first_of conditions_of own_conditions names_drive
queue_refusal_lem d job store =
    ap₂ (λ (t u : Bool). pick (not t) 1 (pick u 16 (pick (leb 8 (queue_of d.queues job).length) 17 0)))
    (whole_in_range d) (store_not_taken_lem job store)
    ∙ ap (λ (n : ℕ). pick (not (in_range d)) 1
    (pick (leb 4 job || (not (names store) || eqb (operation_of store) 0)) 16 (pick (leb 8 n) 17 0)))
    (queue_length_lem d.queues job)

queue_lowest : (d : Dispatcher) (job : ℕ) (store : Store) → IsLowest (queue_call d job store).refusal
    (conditions_of d (queue job store))
unfolding queue_call conditions_of own_conditions rising
queue_lowest d job store =
    subst (λ (n : ℕ). IsLowest n (conditions_of d (queue job store)))
    (sym (kept (queue_refusal d job store) _ _ refl refl ∙ queue_refusal_lem d job store))
    (first_is_lowest 0 (conditions_of d (queue job store)) refl)

-- ---- 4: a handing

idle_in : (phase : Phase) → is_idle_in phase ≡ idle_phase phase
unfolding is_idle_in idle_phase
idle_in =
    each_phase (λ (phase : Phase). is_idle_in phase ≡ idle_phase phase) (λ s. refl) (λ s. refl) (λ send. refl)
    (λ store. refl) (λ store. refl) (λ operation store. refl) (λ interrupt. refl)

-- whosever turn it is
turn_taken : (d : Dispatcher) (turn : Turn) → is_whole d ≡ true → is_idle d.controller ≡ true
    → (hand_turn d turn).refusal ≡ 0
unfolding hand_turn
turn_taken d None whole idle = refl
turn_taken d (Some job) whole idle = eqb-true _ 0 (hand_accepted d job whole idle)

by_two : (whole idle : Bool) (d : Dispatcher) (done : Dispatched) → (whole ≡ true → idle ≡ true → done.refusal ≡ 0)
    → (pick whole (pick idle done (unchanged 4 d)) (unchanged 1 d)).refusal ≡ pick (not whole) 1 (pick (not idle) 4 0)
unfolding pick
by_two true true d done taken = taken refl refl
by_two true false d done taken = refl
by_two false idle d done taken = refl

hand_lowest : (d : Dispatcher) → IsLowest (hand_call d).refusal (conditions_of d hand)
unfolding hand_call conditions_of own_conditions rising first_of
hand_lowest d =
    subst (λ (n : ℕ). IsLowest n (conditions_of d hand))
    (sym
    (by_two (is_whole d) (is_idle d.controller) d _ (turn_taken d (turn_of d.queues))
    ∙ ap₂ (λ (t u : Bool). pick (not t) 1 (pick (not u) 4 0)) (whole_in_range d) (idle_in d.controller.phase)))
    (first_is_lowest 0 (conditions_of d hand) refl)

-- ---- a call that is passed on

-- a table whose first condition gains another
gains : (q t : Bool) (own : List (ℕ × Bool)) (n : ℕ) → IsLowest n ((1, not t) ∷ own)
    → IsLowest (pick q n 1) ((1, not (q && t)) ∷ own)
unfolding pick holds_at
gains true t own n is = is
gains false t own n is =
    record {
      holds = λ some. refl;
      lowest =
          λ number.
          by_either (eqb number 1 && true) (holds_at number own)
          (λ one.
          let first = eqb-true number 1 (both_hold (eqb number 1) true one).0 in (omega arith, omega arith))
          (λ other.
          let above = is.lowest number (or_else (eqb number 1 && not t) (holds_at number own) other) in
          (omega arith, omega (arith, above.0, above.1)));
    }
  where
    or_else : (a b : Bool) → b ≡ true → (a || b) ≡ true
    or_else true b holds = refl
    or_else false b holds = holds

by_queues : (t : Bool) (d : Dispatcher) (a : records.Answer) (space check : List ℕ)
    → (pick t (answer_with_queues d.queues a) (answer_with (unchanged_transfer 1 d) space check)).reply.refusal
    ≡ pick t a.reply.refusal 1
unfolding pick
by_queues true d a space check = refl
by_queues false d a space check = refl

passed_lowest : (d : Dispatcher) (call : machine.Call) → RefusedByLowest d (passed call) (step d (passed call))
unfolding step passed_answer conditions_of own_conditions in_range controller-reasons.conditions_of
passed_lowest d call =
    subst (λ (n : ℕ). IsLowest n (conditions_of d (passed call)))
    (sym
    (by_queues (are_sound d.queues) d (machine.step d.controller call) _ _
    ∙ ap (λ (t : Bool). pick t (machine.step d.controller call).reply.refusal 1) (sound_queues d.queues)))
    (gains (queues_in_range d.queues) (controller-reasons.in_range d.controller)
    (controller-reasons.own_conditions d.controller call) _
    (controller-lowest.steps_refused_by_lowest d.controller call))

-- ---- every call

pub steps_refused_by_lowest : (d : Dispatcher) (call : Call) → RefusedByLowest d call (step d call)
unfolding step
steps_refused_by_lowest d (queue job store) = queue_lowest d job store
steps_refused_by_lowest d hand = hand_lowest d
steps_refused_by_lowest d (passed call) = passed_lowest d call
