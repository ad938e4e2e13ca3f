-- No answer is above 2.
-- Assumes nothing.
use Rattle.std.specs.Prelude.{ℕ, ◌≤◌}
use native.Mathlib.Omega.{arith}
use Rattle.common.proofs.PickLaws.{pick_by}
use Rattle.operations.specs.declared.operation.Operation.{Operation}
use Rattle.operations.specs.Answers.{answer_of, is_in, listed_codes}

pub few_answers : (operation : Operation) (code : ℕ) → answer_of operation code ≤ 2
unfolding answer_of
few_answers operation code =
    pick_by (λ (n : ℕ). n ≤ 2) _ (λ clear. omega arith)
    (λ other. pick_by (λ (n : ℕ). n ≤ 2) (is_in code (listed_codes operation)) (λ listed. omega arith)
    (λ none. omega arith))
