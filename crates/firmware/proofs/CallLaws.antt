-- Laws of `called`: by whether the bytes are a state's, and that each of the functions below answers its step.
-- Assumes nothing.
use mathlib.Core.Path.{◌≡◌, refl, sym, ap, ap₂, ◌∙◌}
use mathlib.Core.Bool.{Bool, true, false, ◌&&◌}
use mathlib.Core.List.{List, []}
use Prim.Native.Nat.{ℕ}
use Rattle.std.specs.Prelude.{Result as Outcome, Ok, Err, None, Some}
use Rattle.std.specs.Bool.{then_some}
use Rattle.std.proofs.lemmas.Option.{none-some, same_Some}
use Rattle.common.specs.declared.refusals.Refusal.{Refusal}
use Rattle.common.specs.Pick.{pick}
use Rattle.common.proofs.RefusalLaws.{refused_not_done}
use Rattle.common.proofs.PickLaws.{by_test, both_hold, pick_by, pick_yes, pick_no}
use Rattle.operations.specs.declared.store.Store.{Store}
use Rattle.controller.specs.declared.controller.Controller.{Controller}
use Rattle.controller.specs.declared.controller.Answer.{Answer as Told}
use Rattle.controller.specs.declared.controller.Given.{Given}
use Rattle.controller.specs.Told.{Reply, told_of}
use Rattle.controller.specs.Records as records
use Rattle.controller.specs.Machine as machine
use Rattle.queues.specs.Jobs.{are_sound}
use Rattle.dispatcher.specs.declared.dispatcher.Dispatcher.{Dispatcher}
use Rattle.dispatcher.specs.Told.{Dispatched}
use Rattle.dispatcher.specs.Told as dispatcher-told
use Rattle.dispatcher.specs.Dispatcher as dispatcher
use Rattle.dispatcher.specs.Dispatcher.{Answer}
use Rattle.dispatcher.specs.Lists.{Call, plain, step}
use Rattle.dispatcher.specs.Lists.Call.{queue, hand, passed}
use Rattle.dispatcher.specs.Refused.{lent_space, lent_check}
use Rattle.layout.specs.Writing.{controller_bytes, state_bytes}
use Rattle.layout.specs.Reading.{queues_of, controller_of, state_of, is_state, has_sound_queues}
use Rattle.firmware.specs.Calls.{Ended, ended, left, end_call, end_passed, end_given, end_stored, giving_none}
use Rattle.firmware.specs.Calls.{left_by, called}

-- ---- what bytes hold, or nothing

pub none_held : {A : Type 0} (holds : Bool) (x : A) → None ≡ then_some holds x → holds ≡ false
none_held true x e = absurd (none-some x e)
none_held false x e = refl

pub some_held : {A : Type 0} (holds : Bool) (x y : A) → Some y ≡ then_some holds x → (holds ≡ true) × (y ≡ x)
some_held true x y e = (refl, same_Some y x e)
some_held false x y e = absurd (none-some y (sym e))

-- ---- how a reply ends

pub given_ends : (c : Controller) (a : Outcome Given Refusal) (state answer : List ℕ)
    → end_stored (controller_bytes c state) a state answer ≡ end_given c a state answer
unfolding end_call pick controller_bytes
given_ends c (Ok g) state answer = refl
given_ends c (Err e) state answer = rw (refused_not_done e) refl

none_ends : (c : Controller) (a : Outcome Told Refusal) (state answer : List ℕ)
    → end_given c (giving_none a) state answer ≡ end_passed (told_of c a) 0 state answer
none_ends c (Ok a) state answer = refl
none_ends c (Err e) state answer = refl

passed_ends : (c : Controller) (a : Outcome Told Refusal) (state answer : List ℕ)
    → end_stored (controller_bytes c state) (giving_none a) state answer ≡ end_passed (told_of c a) 0 state answer
passed_ends c a state answer = given_ends c (giving_none a) state answer ∙ none_ends c a state answer

call_ends : (d : Dispatcher) (a : Outcome Told Refusal) (state answer : List ℕ)
    → end_stored (state_bytes d) (giving_none a) state answer ≡ end_call (dispatcher-told.told_of d a) 0 state answer
unfolding end_call pick
call_ends d (Ok a) state answer = refl
call_ends d (Err e) state answer = rw (refused_not_done e) refl

-- ---- by the bytes

module _ (call : Call) (state answer : List ℕ) where
  -- bytes that are no state's
  pub called_on_none : is_state state ≡ false
      → left (ended 1 state answer) (lent_space call) (lent_check call) ≡ called call state answer
  unfolding called
  called_on_none none = sym (pick_no _ _ none)

  -- bytes of a state, with the dispatcher's answer
  pub called_on_state : (a : Answer) → is_state state ≡ true → a ≡ step (state_of state) call
      → left_by a state answer ≡ called call state answer
  unfolding called
  called_on_state a is same = ap (λ (x : Answer). left_by x state answer) same ∙ sym (pick_yes _ _ is)

-- what a function leaves of its call on the state that bytes hold, by what is promised of that call
pub called_by : (call : Call) (state answer : List ℕ) (e : Ended) {Ran : Outcome Told Refusal → Dispatcher → Type 0}
    → lent_space call ≡ []
    → lent_check call ≡ []
    → (is_state state ≡ false → e ≡ ended 1 state answer)
    → (is_state state ≡ true → ((a : Outcome Told Refusal) × (d : Dispatcher) × Ran a d
    × (e ≡ end_stored (state_bytes d) (giving_none a) state answer)))
    → ((a : Outcome Told Refusal) (d : Dispatcher) → Ran a d
    → plain (dispatcher-told.told_of d a) ≡ step (state_of state) call)
    → left e [] [] ≡ called call state answer
called_by call state answer e no_space no_check none some tells =
    by_test (is_state state)
    (λ is. let (a, d, ran, ends) = some is in
    ap (λ (x : Ended). left x [] []) (ends ∙ call_ends d a state answer)
    ∙ called_on_state call state answer (plain (dispatcher-told.told_of d a)) is (tells a d ran))
    (λ other. ap (λ (x : Ended). left x [] []) (none other)
    ∙ ap₂ (λ (s k : List ℕ). left (ended 1 state answer) s k) (sym no_space) (sym no_check)
    ∙ called_on_none call state answer other)

-- ---- the dispatcher's own calls

module _ (d : Dispatcher) where
  pub queue_steps : (job : ℕ) (store : Store) → plain (dispatcher.queue_call d job store) ≡ step d (queue job store)
  unfolding step
  queue_steps job store = refl

  pub hand_steps : plain (dispatcher.hand_call d) ≡ step d hand
  unfolding step
  hand_steps = refl

-- ---- the controller's, which are passed on

module _ (call : machine.Call) (state answer : List ℕ) where
  -- bytes that are no state's, or have queues out of range
  refused_answer : end_call (dispatcher.unchanged 1 (state_of state)) 0 state answer ≡ ended 1 state answer
  unfolding end_call
  refused_answer = pick_no _ _ refl

  pub passed_on_none : has_sound_queues state ≡ false
      → left (ended 1 state answer) (lent_space (passed call)) (lent_check (passed call))
      ≡ called (passed call) state answer
  unfolding has_sound_queues step dispatcher.passed_answer state_of lent_space lent_check
  passed_on_none none =
      by_test (is_state state)
      (λ is. let hurt : are_sound (queues_of state) ≡ false =
      sym (ap (λ (b : Bool). b && are_sound (queues_of state)) is)
      ∙ none in
      ap (λ (e : Ended). left e (lent_space (passed call)) (lent_check (passed call))) (sym refused_answer)
      ∙ called_on_state (passed call) state answer _ is (sym (pick_no _ _ hurt)))
      (λ other. called_on_none (passed call) state answer other)

  -- bytes of a state whose queues are in range, with the controller's answer
  pub passed_on : (a : records.Answer) → has_sound_queues state ≡ true → a ≡ machine.step (controller_of state) call
      → left (end_passed a.reply a.bytes state answer) a.space a.check ≡ called (passed call) state answer
  unfolding has_sound_queues step dispatcher.passed_answer state_of
  passed_on a sound same =
      let (is, fine) = both_hold (is_state state) (are_sound (queues_of state)) sound in
      called_on_state (passed call) state answer (dispatcher.answer_with_queues (queues_of state) a) is
      (ap (λ (x : records.Answer). dispatcher.answer_with_queues (queues_of state) x) same ∙ sym (pick_yes _ _ fine))

-- the same of a call that is passed on, on the controller that bytes hold
pub passed_by : (call : machine.Call) (state answer : List ℕ) (e : Ended)
    {Ran : Outcome Told Refusal → Controller → Type 0}
    → lent_space (passed call) ≡ []
    → lent_check (passed call) ≡ []
    → (has_sound_queues state ≡ false → e ≡ ended 1 state answer)
    → (has_sound_queues state ≡ true → ((a : Outcome Told Refusal) × (c : Controller) × Ran a c
    × (e ≡ end_stored (controller_bytes c state) (giving_none a) state answer)))
    → ((a : Outcome Told Refusal) (c : Controller) → Ran a c
    → machine.plain (told_of c a) ≡ machine.step (controller_of state) call)
    → left e [] [] ≡ called (passed call) state answer
passed_by call state answer e no_space no_check none some tells =
    by_test (has_sound_queues state)
    (λ sound. let (a, c, ran, ends) = some sound in
    ap (λ (x : Ended). left x [] []) (ends ∙ passed_ends c a state answer)
    ∙ passed_on call state answer (machine.plain (told_of c a)) sound (tells a c ran))
    (λ hurt. ap (λ (x : Ended). left x [] []) (none hurt)
    ∙ ap₂ (λ (s k : List ℕ). left (ended 1 state answer) s k) (sym no_space) (sym no_check)
    ∙ passed_on_none call state answer hurt)

-- and of one that is lent space, which leaves this controller
pub passed_lent : (call : machine.Call) (state answer : List ℕ) (e : Ended) (space check : List ℕ) (c next : Controller)
    (a : Outcome Given Refusal)
    → Some c ≡ then_some (has_sound_queues state) (controller_of state)
    → records.answered_in next a space check ≡ machine.step c call
    → e ≡ end_stored (controller_bytes next state) a state answer
    → left e space check ≡ called (passed call) state answer
passed_lent call state answer e space check c next a held same ends =
    let (sound, read) = some_held _ _ _ held in
    ap (λ (x : Ended). left x space check) (ends ∙ given_ends next a state answer)
    ∙ passed_on call state answer (records.answered_in next a space check) sound
    (same ∙ ap (λ (x : Controller). machine.step x call) read)

module _ (c : Controller) where
  pub byte_steps : (b : ℕ) → machine.plain (machine.byte_call c b) ≡ machine.step c (machine.byte b)
  unfolding machine.step
  byte_steps b = refl

  pub taken_steps : machine.plain (machine.taken_call c) ≡ machine.step c machine.taken
  unfolding machine.step
  taken_steps = refl

  pub broken_steps : machine.plain (machine.broken_call c) ≡ machine.step c machine.broken
  unfolding machine.step
  broken_steps = refl

  pub report_steps : (n r : ℕ) → machine.plain (machine.report_call c n r) ≡ machine.step c (machine.report n r)
  unfolding machine.step
  report_steps n r = refl

  pub tick_steps : machine.plain (machine.tick_call c) ≡ machine.step c machine.tick
  unfolding machine.step
  tick_steps = refl

  pub reset_steps : machine.plain (machine.reset_call c) ≡ machine.step c machine.reset
  unfolding machine.step
  reset_steps = refl

-- what a call of the controller that is lent nothing leaves, passed on
pub nothing_passed : (d : Dispatcher) (call : machine.Call) (r : Reply)
    → machine.plain r ≡ machine.step d.controller call
    → lent_space (passed call) ≡ []
    → lent_check (passed call) ≡ []
    → ((step d (passed call)).space ≡ []) × ((step d (passed call)).check ≡ [])
unfolding step dispatcher.passed_answer lent_space lent_check
nothing_passed d call r same no_space no_check =
    pick_by (λ (a : Answer). (a.space ≡ []) × (a.check ≡ [])) (are_sound d.queues)
    (λ sound. (
      sym (ap (λ (a : records.Answer). a.space) same),
      sym (ap (λ (a : records.Answer). a.check) same),
    ))
    (λ hurt. (no_space, no_check))
