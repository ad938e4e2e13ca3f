-- For each of the layout's seven functions, wrong answers that its contract does not allow, at least two.
-- Assumes nothing.
use mathlib.Core.Path.{◌≡◌, sym, ap, ap₂, ◌∙◌}
use mathlib.Core.Bool.{Bool, true, false, ◌&&◌, and-false, false≢true}
use mathlib.Core.List.{List, ◌++◌}
use Prim.Native.Nat.{ℕ, ◌≤◌}
use native.Mathlib.Omega.{arith}
use lib.Dec.{eqb, leb, ltb}
use lib.ListN.{length, get_or, drop, replicate, length-append}
use lib.Seq.{drop_at}
use borrow.Author.Tests.{eqb-true}
use Rattle.common.specs.Pick.{pick}
use Rattle.common.proofs.PickLaws.{both_hold}
use Rattle.status.specs.declared.words.ResultRecord.{ResultRecord}
use Rattle.status.specs.declared.words.Outcome.{Outcome}
use Rattle.link.specs.declared.frames.Frame.{Frame}
use Rattle.link.specs.declared.state.Action.{Action}
use Rattle.link.specs.declared.state.Action.TheVariants.{Order}
use Rattle.link.specs.State.{Handed}
use Rattle.std.specs.Prelude.{Some}
use Rattle.controller.specs.declared.controller.Controller.{Controller}
use Rattle.queues.specs.Jobs.{are_sound}
use Rattle.dispatcher.specs.declared.dispatcher.Dispatcher.{Dispatcher}
use Rattle.layout.specs.Reading.{byte_at, outcome_of, body_of, queue_at, queues_of, controller_of, state_of, are_flags}
use Rattle.layout.specs.Reading.{is_phase, is_state, has_sound_queues}
use Rattle.layout.specs.Writing.{head_bytes, phase_bytes}
use Rattle.layout.specs.Answers.{action_kind, settled_record, answer_bytes}
use Rattle.layout.specs.Fitting.{Fits}
use Rattle.layout.proofs.Lengths.{head_length_lem, phase_length_lem}
use Rattle.layout.proofs.QueueLaws.{queues_stay}
use Rattle.layout.proofs.Demands.{Written, Read, Told, ReadController, ToldSound, WrittenBeside, Answered}
use Rattle.layout.proofs.Demands.{written_is, beside_is, written_states_are_told_apart, beside_round}

-- ---- is_state

module _ (bytes : List ℕ) (told : Bool) (allowed : Told bytes told) where
  told_is : told ≡ is_state bytes
  told_is = allowed.promise ∙ ap is_state allowed.holds

  first_tests : told ≡ true → (eqb (byte_at bytes 0) 1 ≡ true) × (are_flags bytes ≡ true)
  unfolding is_state
  first_tests taken =
      let front = (both_hold (eqb (byte_at bytes 0) 1 && are_flags bytes) _ (sym told_is ∙ taken)).0 in
      both_hold (eqb (byte_at bytes 0) 1) (are_flags bytes) front

  phase_test : told ≡ true → is_phase (byte_at bytes 49) (byte_at bytes 50) ≡ true
  unfolding is_state
  phase_test taken = (both_hold (eqb (byte_at bytes 0) 1 && are_flags bytes) _ (sym told_is ∙ taken)).1

  -- another layout's number is taken
  pub another_layout_is_taken : (byte_at bytes 0 ≡ 1 → ⊥) → told ≡ true → ⊥
  another_layout_is_taken other taken = other (eqb-true _ 1 (first_tests taken).0)

  -- zeroed memory is taken
  pub zeroed_memory_is_taken : bytes ≡ replicate 224 0 → told ≡ true → ⊥
  zeroed_memory_is_taken zeroed taken =
      let zero : byte_at bytes 0 ≡ 0 = ap (λ (s : List ℕ). get_or s 0 0) zeroed in
      let one : byte_at bytes 0 ≡ 1 = eqb-true _ 1 (first_tests taken).0 in
      omega arith

  -- a flag of 2 is taken
  pub a_flag_of_two_is_taken : byte_at bytes 40 ≡ 2 → told ≡ true → ⊥
  unfolding are_flags
  a_flag_of_two_is_taken two taken =
      let high : leb (byte_at bytes 40) 1 ≡ false = ap (λ (n : ℕ). leb n 1) two in
      let none : are_flags bytes ≡ false = simp (high, and-false) in
      false≢true (sym none ∙ (first_tests taken).1)

  -- a thirteenth operation is taken
  pub a_thirteenth_operation_is_taken : byte_at bytes 49 ≡ 5 → byte_at bytes 50 ≡ 12 → told ≡ true → ⊥
  unfolding is_phase pick
  a_thirteenth_operation_is_taken five twelve taken =
      false≢true (sym (ap₂ is_phase five twelve) ∙ phase_test taken)

  -- an eighth phase is taken
  pub an_eighth_phase_is_taken : byte_at bytes 49 ≡ 7 → told ≡ true → ⊥
  unfolding is_phase pick
  an_eighth_phase_is_taken seven taken =
      false≢true (sym (ap (λ (n : ℕ). is_phase n (byte_at bytes 50)) seven) ∙ phase_test taken)

-- ---- has_sound_queues

module _ (bytes : List ℕ) (told : Bool) (allowed : ToldSound bytes told) where
  sound_is : told ≡ has_sound_queues bytes
  sound_is = allowed.promise ∙ ap has_sound_queues allowed.holds

  -- a queue of nine stores is taken
  pub a_queue_of_nine_is_taken : byte_at bytes 59 ≡ 9 → told ≡ true → ⊥
  unfolding has_sound_queues are_sound queues_of queue_at
  a_queue_of_nine_is_taken nine taken =
      let high : leb (byte_at bytes 59) 8 ≡ false = ap (λ (n : ℕ). leb n 8) nine in
      let none : has_sound_queues bytes ≡ false = simp (high, and-false) in
      false≢true (sym none ∙ sym sound_is ∙ taken)

  -- a fifth job served last is taken
  pub a_fifth_job_is_taken : byte_at bytes 223 ≡ 4 → told ≡ true → ⊥
  unfolding has_sound_queues are_sound queues_of
  a_fifth_job_is_taken four taken =
      let high : ltb (byte_at bytes 223) 4 ≡ false = ap (λ (n : ℕ). ltb n 4) four in
      let none : has_sound_queues bytes ≡ false = simp (high, and-false) in
      false≢true (sym none ∙ sym sound_is ∙ taken)

-- ---- state_of and controller_of

module _ (bytes : List ℕ) (c : Controller) (outcome_is : c.body.outcome ≡ outcome_of bytes) where
  -- the count is read with its low byte first
  low_byte_first : byte_at bytes 32 ≡ 1 → byte_at bytes 33 ≡ 0 → c.body.outcome.result.count ≡ 1 → ⊥
  unfolding outcome_of
  low_byte_first high low wrong =
      let is = ap (λ (o : Outcome). o.result.count) outcome_is in
      omega arith

  -- the motion is read for the code
  motion_for_code : (byte_at bytes 30 ≡ byte_at bytes 31 → ⊥) → c.body.outcome.result.code ≡ byte_at bytes 31 → ⊥
  unfolding outcome_of
  motion_for_code differ wrong = differ (sym (ap (λ (o : Outcome). o.result.code) outcome_is) ∙ wrong)

module _ (bytes : List ℕ) (d : Dispatcher) (allowed : Read bytes d) where
  state_outcome : d.controller.body.outcome ≡ outcome_of bytes
  unfolding state_of body_of
  state_outcome = ap (λ (e : Dispatcher). e.controller.body.outcome) (allowed.promise ∙ ap state_of allowed.holds)

  pub the_low_byte_is_read_first : byte_at bytes 32 ≡ 1 → byte_at bytes 33 ≡ 0
      → d.controller.body.outcome.result.count ≡ 1 → ⊥
  the_low_byte_is_read_first = low_byte_first bytes d.controller state_outcome

  pub the_motion_is_read_for_the_code : (byte_at bytes 30 ≡ byte_at bytes 31 → ⊥)
      → d.controller.body.outcome.result.code ≡ byte_at bytes 31 → ⊥
  the_motion_is_read_for_the_code = motion_for_code bytes d.controller state_outcome

module _ (bytes : List ℕ) (c : Controller) (allowed : ReadController bytes c) where
  controller_outcome : c.body.outcome ≡ outcome_of bytes
  unfolding body_of
  controller_outcome =
      ap (λ (k : Controller). k.body.outcome)
      (allowed.promise ∙ ap (λ (s : List ℕ). controller_of s) allowed.holds)

  pub the_controllers_low_byte_is_read_first : byte_at bytes 32 ≡ 1 → byte_at bytes 33 ≡ 0
      → c.body.outcome.result.count ≡ 1 → ⊥
  the_controllers_low_byte_is_read_first = low_byte_first bytes c controller_outcome

  pub the_controllers_motion_is_read_for_the_code : (byte_at bytes 30 ≡ byte_at bytes 31 → ⊥)
      → c.body.outcome.result.code ≡ byte_at bytes 31 → ⊥
  the_controllers_motion_is_read_for_the_code = motion_for_code bytes c controller_outcome

-- ---- put_state_bytes

-- two states that fit are written alike
pub two_states_are_written_alike : (d e : Dispatcher) (bytes : List ℕ) → Fits d → Fits e → (d ≡ e → ⊥)
    → Written d bytes → Written e bytes → ⊥
two_states_are_written_alike d e bytes one two differ first second =
    differ (written_states_are_told_apart d e bytes one two first second)

-- what stood in the space before shows
pub what_stood_there_shows : (d : Dispatcher) (some others : List ℕ) → Written d some → Written d others
    → (some ≡ others → ⊥) → ⊥
what_stood_there_shows d some others first second differ =
    differ (written_is d some first ∙ sym (written_is d others second))

-- ---- put_controller_bytes

-- it writes into the queues
pub the_queues_are_written : (c : Controller) (before bytes : List ℕ) → length before ≡ 224
    → WrittenBeside c before bytes → (drop 59 bytes ≡ drop 59 before → ⊥) → ⊥
the_queues_are_written c before bytes long written wrong =
    let front = head_bytes c.body ++ phase_bytes c.phase in
    let many : length front ≡ 59 = simp (length-append, head_length_lem c.body, phase_length_lem c.phase) in
    let is = beside_is c before bytes written ∙ sym (queues_stay c before long) in
    wrong (ap (λ (s : List ℕ). drop 59 s) is ∙ drop_at front (drop 59 before) 59 many)

-- two controllers that fit are written alike
pub two_controllers_are_written_alike : (c k : Controller) (before bytes : List ℕ)
    → c.body.outcome.result.count ≤ 65535 → k.body.outcome.result.count ≤ 65535 → (c ≡ k → ⊥)
    → WrittenBeside c before bytes → WrittenBeside k before bytes → ⊥
two_controllers_are_written_alike c k before bytes few less differ first second =
    let one = beside_is c before bytes first in
    let two = beside_is k before bytes second in
    differ
    (ap (λ (d : Dispatcher). d.controller)
    (sym (beside_round c before few) ∙ ap state_of (sym one ∙ two) ∙ beside_round k before less))

-- ---- answer_bytes

module _ (action : Action) (handed : Handed) (given : ℕ) (bytes : List ℕ)
    (allowed : Answered action handed given bytes) where
  -- an order is told as a string to be sent
  pub an_order_is_told_as_a_string : (f : Frame) → action ≡ Order f → byte_at bytes 0 ≡ 2 → ⊥
  unfolding answer_bytes action_kind
  an_order_is_told_as_a_string f order wrong =
      let kind : byte_at bytes 0 ≡ 3 = ap (λ (s : List ℕ). get_or s 0 0) allowed.promise ∙ ap action_kind order in
      omega arith

  -- code and motion are exchanged
  pub code_and_motion_are_exchanged : (r : ResultRecord) → handed ≡ Some r → (r.code ≡ r.motion → ⊥)
      → byte_at bytes 8 ≡ r.motion → ⊥
  unfolding answer_bytes settled_record
  code_and_motion_are_exchanged r settled differ wrong =
      differ
      (sym
      (ap (λ (s : List ℕ). get_or s 8 0) allowed.promise ∙ ap (λ (h : Handed). (settled_record h).code) settled)
      ∙ wrong)
