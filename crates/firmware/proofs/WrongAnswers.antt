-- Wrong answers that the contracts of the functions for C rule out: two of ctc_fresh, and three of each of the other
-- ten, whatever it is called with.
-- Assumes nothing.
use mathlib.Core.Path.{◌≡◌, sym, ap, ◌∙◌}
use mathlib.Core.Bool.{false}
use mathlib.Core.List.{List}
use contract.Lifetimes.{Lfts}
use denote.Ref.{MutBor, at_last}
use Prim.Native.Nat.{ℕ}
use native.Mathlib.Omega.{arith}
use lib.ListN.{get_or, replicate}
use Rattle.dispatcher.specs.declared.dispatcher.Dispatcher.{Dispatcher}
use Rattle.dispatcher.specs.Lists.{Call, step}
use Rattle.dispatcher.specs.InRange.{InRange, BytesIn}
use Rattle.layout.specs.Reading.{is_state}
use Rattle.layout.specs.Writing.{head_bytes, state_bytes}
use Rattle.firmware.specs.Calls.{Left, ctc_fresh}
use Rattle.firmware.specs.Lists.{seen_answer}
use Rattle.firmware.proofs.CallLaws.{called_on_none}
use Rattle.firmware.proofs.Seen.{seen_is_answer}
use Rattle.firmware.proofs.interface.ctc_fresh.Reads as fresh-reads
use Rattle.firmware.proofs.Demands.{refused_functions_change_nothing}
use Rattle.firmware.proofs.Demands.Contracts.{Allows, answers_are_called}

-- ---- ctc_fresh

module _ (κs : Lfts 1) (array : MutBor (List ℕ)) (r : ℕ) (after : List ℕ)
    (allowed : fresh-reads.Post κs (array, tt) r (at_last array after, tt)) where
  -- it is refused
  pub fresh_is_refused : (r ≡ 0 → ⊥) → ⊥
  fresh_is_refused wrong = wrong allowed.0

  -- it leaves zeroed memory, which no call takes
  pub fresh_leaves_zeros : after ≡ replicate 224 0 → ⊥
  unfolding ctc_fresh state_bytes head_bytes
  fresh_leaves_zeros zeros =
      let one : get_or after 0 0 ≡ 1 = ap (λ (s : List ℕ). get_or s 0 0) allowed.1 in
      let zero : get_or after 0 0 ≡ 0 = ap (λ (s : List ℕ). get_or s 0 0) zeros in
      omega arith

-- ---- the others

module _ (call : Call) (answer : List ℕ) (l : Left) where
  -- bytes that are no state's are taken for one
  pub no_state_is_taken : (state : List ℕ) → Allows state call answer l → is_state state ≡ false
      → l.ended.refusal ≡ 0 → ⊥
  no_state_is_taken state allowed none done =
      let refused : l.ended.refusal ≡ 1 =
      ap (λ (x : Left). x.ended.refusal)
      (answers_are_called state call answer l allowed ∙ sym (called_on_none call state answer none)) in
      omega arith

  -- a refused call writes into the state
  pub a_refused_call_writes : (state : List ℕ) → Allows state call answer l → (l.ended.refusal ≡ 0 → ⊥)
      → (l.ended.state ≡ state → ⊥) → ⊥
  a_refused_call_writes state allowed refused wrong =
      wrong (refused_functions_change_nothing state call answer l allowed refused).state_same

  -- on a state in range, another answer is told than the dispatcher's: another call's, or none
  pub another_answer_is_told : (d : Dispatcher) → InRange d → BytesIn call → Allows (state_bytes d) call answer l
      → (seen_answer l ≡ step d call → ⊥) → ⊥
  another_answer_is_told d fine bytes allowed wrong =
      wrong
      (ap seen_answer (answers_are_called (state_bytes d) call answer l allowed)
      ∙ seen_is_answer d fine call answer bytes)
