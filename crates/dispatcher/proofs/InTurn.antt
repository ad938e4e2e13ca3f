-- The dispatcher works (`works`, over the definitions): an idle one refuses no handing, but with 1, and a handing does
-- what the controller's taken does with the store that is next by the ledger; a legal store is taken while fewer than
-- eight of its job wait.
-- Assumes nothing.
use mathlib.Core.Path.{◌≡◌, refl, sym, ap, subst, ◌∙◌}
use mathlib.Core.Bool.{Bool, true, false, not, ◌&&◌, ◌||◌, false≢true}
use mathlib.Core.List.{List, [], ◌∷◌}
use Prim.Native.Nat.{ℕ, ◌≤◌, ◌/◌, ◌%◌}
use native.Mathlib.Omega.{arith}
use lib.Dec.{eqb, leb}
use lib.ListN.{length}
use borrow.Author.Tests.{le-leb, lt-leb, eq-eqb, ne_eqb, eqb-true, not-true, not-false}
use Rattle.common.specs.Pick.{pick}
use Rattle.common.proofs.PickLaws.{by_test, both_hold, pick_by, pick_yes, pick_no}
use Rattle.operations.specs.declared.store.Store.{Store}
use Rattle.operations.specs.Store.{names_drive, asked_for}
use Rattle.operations.specs.Decode.{decode_of}
use Rattle.link.specs.declared.state.Collected.{Collected}
use Rattle.link.specs.State.{store_of, offered}
use Rattle.link.specs.Link.{whole_length}
use Rattle.link.specs.Damaged.{sound_body, sound_lead, sound_string, sound_phase}
use Rattle.link.specs.Damaged.{is_sound}
use Rattle.controller.specs.declared.controller.Controller.{Controller}
use Rattle.controller.specs.Controller.{is_idle_in, is_idle, carried}
use Rattle.controller.specs.Stores.{carry_out}
use Rattle.controller.specs.Machine as machine
use Rattle.controller.specs.Separation.{asks_reset}
use Rattle.controller.proofs.Asking.{by_asked}
use Rattle.controller.proofs.IdleLaws.{hand_by_idle}
use Rattle.queues.specs.Jobs.{Turn}
use Rattle.std.specs.Prelude.{None, Some}
use Rattle.queues.specs.Jobs.{are_sound, queue_of, turn_of, next_store}
use Rattle.queues.proofs.JobLaws.{turn_served}
use Rattle.queues.proofs.WaitingLaws.{AllKept, waiting_length}
use Rattle.dispatcher.specs.declared.dispatcher.Dispatcher.{Dispatcher}
use Rattle.dispatcher.specs.Told.{Dispatched}
use Rattle.dispatcher.specs.Dispatcher.{is_whole, is_reset_store, queue_refusal, queue_call, hand_over}
use Rattle.dispatcher.specs.Dispatcher.{hand_turn, hand_call}
use Rattle.dispatcher.specs.Lists.{Call, plain, step, run}
use Rattle.dispatcher.specs.Lists.Call.{queue, hand, passed}
use Rattle.dispatcher.specs.Refused.{Unchanged, lent_space, lent_check}
use Rattle.dispatcher.specs.JobLedger.{JobLedger, next, ledger_after}
use Rattle.dispatcher.specs.Turns.{Idle, Legal, TakesUpToEight, offering}
use Rattle.dispatcher.specs.Turns.{AsTaken, HandsInTurn, WorksAt, WorksFrom}
use Rattle.dispatcher.proofs.Laws.{whole_ranges, hand_accepted}
use Rattle.dispatcher.proofs.Steps.{exchanged}
use Rattle.dispatcher.proofs.InOrder.{kept_by}
use Rattle.dispatcher.proofs.JobsAreALedger.{Agrees, no_store_next, store_next, follows}

-- ---- an idle state

is_idle_lem : (c : Controller) → Idle c → is_idle c ≡ true
unfolding is_idle_in
is_idle_lem c idle = ap is_idle_in idle.collecting ∙ eq-eqb _ 0 idle.nothing

-- ---- a job queues a store

-- an operation but 0 is no reset
keeps : (operation first last : ℕ) → eqb operation 0 ≡ false → asks_reset (decode_of operation first last) ≡ false
unfolding asks_reset
keeps =
    by_asked (λ operation first last asked. eqb operation 0 ≡ false → asks_reset asked ≡ false)
    (record {
      resets = λ f l some. absurd (false≢true (sym some));
      track = λ f l low some. refl;
      no_track = λ f l past low some. refl;
      disables = λ f some. refl;
      enables = λ f some. refl;
      unguards = λ f some. refl;
      guards = λ f some. refl;
      mfm = λ f some. refl;
      gcr = λ f some. refl;
      rewind = λ f some. refl;
      fast_forward = λ f some. refl;
      skip_forward = λ f some. refl;
      skip_reverse = λ f some. refl;
      search_forward = λ f some. refl;
      search_reverse = λ f some. refl;
      write_mark = λ f some. refl;
      no_control = λ f l past a b c d some. refl;
      read = λ l some. refl;
      check_bytes = λ l some. refl;
      supplied_count = λ l some. refl;
      no_read = λ f l some. refl;
      write = λ f l some. refl;
      erase = λ f l some. refl;
      none = λ operation f l no_reset no_control_lem some. refl;
    })

module _ (d : Dispatcher) (job : ℕ) (store : Store) where
  abbrev answer : Dispatched
  answer = queue_call d job store

  queue_answer : answer.refusal ≡ queue_refusal d job store
  unfolding queue_call
  queue_answer =
      pick_by (λ (r : Dispatched). r.refusal ≡ queue_refusal d job store) (eqb (queue_refusal d job store) 0)
      (λ good. sym (eqb-true _ 0 good)) (λ bad. refl)

  -- of one that is whole, by the store and the room
  whole_answer : is_whole d ≡ true
      → answer.refusal
      ≡ pick ((leb 4 job || not (names_drive store)) || is_reset_store store) 16
      (pick (leb 8 (queue_of d.queues job).length) 17 0)
  unfolding queue_refusal
  whole_answer whole = queue_answer ∙ pick_no _ _ (ap not whole)

  hurt_answer : is_whole d ≡ false → answer.refusal ≡ 1
  unfolding queue_refusal
  hurt_answer hurt = queue_answer ∙ pick_yes _ _ (ap not hurt)

  legal_taken : Legal job store → ((leb 4 job || not (names_drive store)) || is_reset_store store) ≡ false
  unfolding names_drive is_reset_store asked_for
  legal_taken legal =
      simp (
        lt-leb 4 job (omega (arith, legal.low)),
        eq-eqb (store.address / 8 % 2) 1 legal.names,
        keeps (store.address / 16 % 8) store.first store.fourth (ne_eqb _ 0 legal.keeps),
      )

  legal_answer : Legal job store → (answer.refusal ≡ 1 → ⊥)
      → answer.refusal ≡ pick (leb 8 (queue_of d.queues job).length) 17 0
  legal_answer legal sound =
      by_test (is_whole d) (λ whole. whole_answer whole ∙ pick_no _ _ (legal_taken legal))
      (λ hurt. absurd (sound (hurt_answer hurt)))

  module _ (l : JobLedger) (kept : AllKept d.queues) (same : Agrees d.queues l) where
    long : job ≤ 3 → (queue_of d.queues job).length ≡ length (l.waiting job)
    long low =
        sym (waiting_length (queue_of d.queues job) (kept.each job low)) ∙ ap length (same.line job low)

    takes : TakesUpToEight l job store (plain answer)
    takes =
        let own = (queue_of d.queues job).length in
        record {
          room = λ legal room sound.
              legal_answer legal sound ∙ pick_no _ _ (lt-leb 8 own (omega (arith, long legal.low)));
          full = λ legal full sound.
              legal_answer legal sound ∙ pick_yes _ _ (le-leb 8 own (omega (arith, long legal.low)));
        }

-- ---- a handing

-- to an idle controller that is not damaged it is the taken that meets the store's ACK
module _ (c : Controller) (store : Store) where
  handed_is : is_sound c.body c.phase ≡ true → is_idle c ≡ true
      → machine.hand_call c store ≡ carried (carry_out c.body store)
  unfolding machine.hand_call
  handed_is sound idle = pick_yes _ _ sound ∙ hand_by_idle c c.body store c.phase ∙ pick_yes _ _ idle

  module _ (unused check : ℕ) where
    abbrev string : Collected
    string = offered (offering c store unused check).phase

    string_sound : sound_string string ≡ true
    unfolding sound_string sound_lead whole_length offered pick
    string_sound = refl

    string_carried : machine.carry_out_string c.body string ≡ carry_out c.body store
    unfolding machine.carry_out_string store_of offered pick
    string_carried = refl

    taken_is : sound_body c.body ≡ true
        → machine.taken_call (offering c store unused check) ≡ carried (carry_out c.body store)
    unfolding machine.taken_call machine.taken_in is_sound sound_phase offered
    taken_is sound =
        pick_yes _ _ (ap (λ (t : Bool). t && sound_string string) sound ∙ string_sound) ∙ ap carried string_carried

as_taken : (c : Controller) (store : Store) → is_sound c.body c.phase ≡ true → is_idle c ≡ true
    → (unused check : ℕ) → machine.hand_call c store ≡ machine.taken_call (offering c store unused check)
unfolding is_sound
as_taken c store sound idle unused check =
    handed_is c store sound idle
    ∙ sym (taken_is c store unused check (both_hold (sound_body c.body) (sound_phase c.phase) sound).0)

module _ (d : Dispatcher) (l : JobLedger) (kept : AllKept d.queues) (same : Agrees d.queues l) where
  abbrev handing : Dispatched
  handing = hand_call d

  hurt_hand : is_whole d ≡ false → handing.refusal ≡ 1
  unfolding hand_call
  hurt_hand hurt = ap (λ (r : Dispatched). r.refusal) (pick_no _ _ hurt)

  busy_hand : is_whole d ≡ true → is_idle d.controller ≡ false → handing.refusal ≡ 4
  unfolding hand_call
  busy_hand whole busy = ap (λ (r : Dispatched). r.refusal) (pick_yes _ _ whole ∙ pick_no _ _ busy)

  idle_hand : is_whole d ≡ true → is_idle d.controller ≡ true → handing ≡ hand_turn d (turn_of d.queues)
  unfolding hand_call
  idle_hand whole idle = pick_yes _ _ whole ∙ pick_yes _ _ idle

  turn_accepted : is_whole d ≡ true → is_idle d.controller ≡ true → (t : Turn) → (hand_turn d t).refusal ≡ 0
  unfolding hand_turn
  turn_accepted whole idle None = refl
  turn_accepted whole idle (Some job) = eqb-true _ 0 (hand_accepted d job whole idle)

  idle_accepted : is_whole d ≡ true → is_idle d.controller ≡ true → handing.refusal ≡ 0
  idle_accepted whole idle =
      ap (λ (r : Dispatched). r.refusal) (idle_hand whole idle) ∙ turn_accepted whole idle (turn_of d.queues)

  -- one that is not refused
  record Accepted : Type 0 where
    whole : is_whole d ≡ true
    idle : is_idle d.controller ≡ true

  was_accepted : handing.refusal ≡ 0 → Accepted
  was_accepted done =
      by_test (is_whole d)
      (λ whole. by_test (is_idle d.controller) (λ idle. record { whole = whole; idle = idle })
      (λ busy. let e = busy_hand whole busy in absurd (omega arith)))
      (λ hurt. let e = hurt_hand hurt in absurd (omega arith))

  some_next : (store : Store) → next l ≡ [] → next l ≡ store ∷ [] → ⊥
  some_next store none some = let z : ◌≡◌ {A = ℕ} 0 1 = ap length (sym none ∙ some) in omega arith

  module _ (whole : is_whole d ≡ true) (idle : is_idle d.controller ≡ true) where
    job_store : (job : ℕ) → turn_of d.queues ≡ Some job → next l ≡ next_store d.queues job ∷ []
    job_store job is =
        let served = turn_served d.queues (whole_ranges d whole).last job is in
        store_next d.queues l kept same job (omega (arith, served.low)) served.some is

    by_nothing : next l ≡ [] → (t : Turn) → turn_of d.queues ≡ t → Unchanged d hand (plain (hand_turn d t))
    unfolding hand_turn lent_space lent_check
    by_nothing none None is =
        record { state = refl; action = refl; handed = refl; bytes = refl; space = refl; check = refl }
    by_nothing none (Some job) is = absurd (some_next _ none (job_store job is))

    by_store : (store : Store) → next l ≡ store ∷ [] → (t : Turn) → turn_of d.queues ≡ t
        → AsTaken d.controller store (plain (hand_turn d t))
    unfolding hand_turn hand_over machine.step is_whole
    by_store store some None is unused check =
        absurd (some_next store (no_store_next d.queues l kept same is) some)
    by_store store some (Some job) is unused check =
        let c = d.controller in
        let own : next_store d.queues job ≡ store = same_first (sym (job_store job is) ∙ some) in
        let sound = not-false (is_sound c.body c.phase)
        (not-true (machine.is_damaged c) (both_hold (are_sound d.queues) (not (machine.is_damaged c)) whole).1) in
        ap (λ (s : Store). machine.plain (machine.hand_call c s)) own
        ∙ ap machine.plain (as_taken c store sound idle unused check)
      where
        same_first : {a b : Store} → a ∷ [] ≡ b ∷ [] → a ≡ b
        same_first e = cc

  hands : HandsInTurn l d (plain handing)
  hands =
      record {
        accepted = λ idle sound.
            by_test (is_whole d) (λ whole. idle_accepted whole (is_idle_lem d.controller idle))
            (λ hurt. absurd (sound (hurt_hand hurt)));
        nothing = λ done none.
            let was = was_accepted done in
            subst (λ (r : Dispatched). Unchanged d hand (plain r)) (sym (idle_hand was.whole was.idle))
            (by_nothing was.whole was.idle none (turn_of d.queues) refl);
        served = λ done store some.
            let was = was_accepted done in
            subst (λ (r : Dispatched). AsTaken d.controller store (plain r))
            (sym (idle_hand was.whole was.idle))
            (by_store was.whole was.idle store some (turn_of d.queues) refl);
      }

-- ---- every list

works_at : (d : Dispatcher) (l : JobLedger) → AllKept d.queues → Agrees d.queues l → (call : Call)
    → WorksAt l d (step d call) call
unfolding WorksAt step
works_at d l kept same (queue job store) = takes d job store l kept same
works_at d l kept same hand = hands d l kept same
works_at d l kept same (passed call) = tt

pub works : (calls : List Call) (l : JobLedger) (d : Dispatcher) → AllKept d.queues → Agrees d.queues l
    → WorksFrom l d (run d calls)
unfolding WorksFrom run
works [] l d kept same = tt
works (call ∷ calls) l d kept same = (
  works_at d l kept same call,
  works calls (ledger_after l (exchanged call (step d call))) (step d call).reply.dispatcher
      (kept_by d call kept)
      (follows d call l kept same).same,
)
