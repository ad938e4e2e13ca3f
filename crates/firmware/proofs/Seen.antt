-- What is seen of a call on the bytes of a state in range is the dispatcher's own answer on that state, and the bytes
-- that it leaves are those of the dispatcher's next state.
-- Assumes nothing.
use mathlib.Core.Path.{◌≡◌, refl, sym, ap, ◌∙◌}
use mathlib.Core.Bool.{true, false}
use mathlib.Core.List.{List}
use Prim.Native.Nat.{ℕ}
use native.Mathlib.Omega.{arith}
use lib.Dec.{eqb}
use borrow.Author.Tests.{eqb-true, eqb-false}
use Rattle.common.specs.Pick.{pick}
use Rattle.common.proofs.PickLaws.{by_test, pick_yes, pick_no}
use Rattle.link.specs.declared.state.Action.{Action}
use Rattle.link.specs.State.{Handed}
use Rattle.dispatcher.specs.declared.dispatcher.Dispatcher.{Dispatcher}
use Rattle.dispatcher.specs.Dispatcher.{Answer}
use Rattle.dispatcher.specs.Lists.{Call, step}
use Rattle.dispatcher.specs.Refused.{RefusedUnchanged}
use Rattle.dispatcher.specs.InRange.{InRange, BytesIn, AnswerInRange}
use Rattle.dispatcher.proofs.RefusedCalls.{steps_refused_unchanged}
use Rattle.dispatcher.proofs.StaysInRange.{stays_in_range}
use Rattle.layout.specs.Writing.{state_bytes}
use Rattle.layout.specs.Answers.{answer_bytes}
use Rattle.layout.specs.Fitting.{AnswerFits}
use Rattle.layout.proofs.RoundTrip.{state_round, state_readable}
use Rattle.layout.proofs.AnswerRound.{action_round, handed_round, given_round}
use Rattle.layout.proofs.Demands.{states_in_range_fit, answers_in_range_fit}
use Rattle.firmware.specs.Calls.{Ended, Left, ended, left, end_call, left_by, called}
use Rattle.firmware.specs.Lists.{seen_answer}
use Rattle.firmware.proofs.CallLaws.{called_on_state}

-- an answer of these parts
abbrev answer_of : Dispatcher → Action → ℕ → Handed → ℕ → List ℕ → List ℕ → Answer
answer_of d action refusal handed bytes space check =
    record {
      reply = record { dispatcher = d; action = action; refusal = refusal; handed = handed };
      bytes = bytes;
      space = space;
      check = check;
    }

parts_alike : {d e : Dispatcher} {a b : Action} {q r : ℕ} {g h : Handed} {m n : ℕ} (space check : List ℕ)
    → d ≡ e → a ≡ b → q ≡ r → g ≡ h → m ≡ n → answer_of d a q g m space check ≡ answer_of e b r h n space check
parts_alike space check de ab qr gh mn = cc

-- ---- by whether the call is refused

module _ (d : Dispatcher) (a : Answer) (answer : List ℕ) where
  -- one that is not
  ended_done : eqb a.reply.refusal 0 ≡ true
      → end_call a.reply a.bytes (state_bytes d) answer
      ≡ ended 0 (state_bytes a.reply.dispatcher) (answer_bytes a.reply.action a.reply.handed a.bytes)
  unfolding end_call
  ended_done good = pick_yes _ _ good

  -- and one that is
  ended_refused : eqb a.reply.refusal 0 ≡ false
      → end_call a.reply a.bytes (state_bytes d) answer ≡ ended a.reply.refusal (state_bytes d) answer
  unfolding end_call
  ended_refused bad = pick_no _ _ bad

  seen_done : InRange a.reply.dispatcher → AnswerFits a.reply.handed a.bytes
      → eqb a.reply.refusal 0 ≡ true
      → seen_answer (left_by a (state_bytes d) answer) ≡ a
  unfolding seen_answer pick
  seen_done fine fits good =
      let reply = a.reply in
      ap (λ (e : Ended). seen_answer (left e a.space a.check)) (ended_done good)
      ∙ parts_alike a.space a.check
      (state_round reply.dispatcher (states_in_range_fit reply.dispatcher fine))
      (action_round reply.action reply.handed a.bytes) (sym (eqb-true _ 0 good))
      (handed_round reply.action reply.handed a.bytes fits.count)
      (given_round reply.action reply.handed a.bytes fits.bytes)

  seen_refused : InRange d → (call : Call) → RefusedUnchanged d call a → eqb a.reply.refusal 0 ≡ false
      → seen_answer (left_by a (state_bytes d) answer) ≡ a
  unfolding seen_answer
  seen_refused fine call unchanged bad =
      let same = unchanged (eqb-false _ 0 bad) in
      ap (λ (e : Ended). seen_answer (left e a.space a.check)) (ended_refused bad)
      ∙ parts_alike a.space a.check
      (state_round d (states_in_range_fit d fine) ∙ sym same.state)
      (pick_no _ _ bad ∙ sym same.action) refl (pick_no _ _ bad ∙ sym same.handed)
      (pick_no _ _ bad ∙ sym same.bytes)

  next_bytes : (call : Call) → RefusedUnchanged d call a
      → (end_call a.reply a.bytes (state_bytes d) answer).state ≡ state_bytes a.reply.dispatcher
  next_bytes call unchanged =
      by_test (eqb a.reply.refusal 0) (λ good. ap (λ (e : Ended). e.state) (ended_done good))
      (λ bad. ap (λ (e : Ended). e.state) (ended_refused bad)
      ∙ ap state_bytes (sym (unchanged (eqb-false _ 0 bad)).state))

-- ---- of a call on the bytes of a state in range

module _ (d : Dispatcher) (fine : InRange d) (call : Call) (answer : List ℕ) where
  -- it is the dispatcher's own call on the state
  pub called_on_bytes : called call (state_bytes d) answer ≡ left_by (step d call) (state_bytes d) answer
  called_on_bytes =
      sym
      (called_on_state call (state_bytes d) answer (step d call) (state_readable d)
      (ap (λ (e : Dispatcher). step e call) (sym (state_round d (states_in_range_fit d fine)))))

  pub bytes_left : (called call (state_bytes d) answer).ended.state ≡ state_bytes (step d call).reply.dispatcher
  bytes_left =
      ap (λ (l : Left). l.ended.state) called_on_bytes
      ∙ next_bytes d (step d call) answer call (steps_refused_unchanged d call)

  module _ (bytes : BytesIn call) where
    stays : AnswerInRange call (step d call)
    stays = stays_in_range d fine call bytes

    pub seen_is_answer : seen_answer (called call (state_bytes d) answer) ≡ step d call
    seen_is_answer =
        let a = step d call in
        let few = stays.most in
        let fits = answers_in_range_fit a.reply.handed a.bytes stays.handed (omega arith) in
        ap seen_answer called_on_bytes
        ∙ by_test (eqb a.reply.refusal 0) (λ good. seen_done d a answer stays.state fits good)
        (λ bad. seen_refused d a answer fine call (steps_refused_unchanged d call) bad)
