-- A table of refusals: numbers with their conditions, in the order in which they are looked for (document 01, Turned
-- back: "Lowest number first").
-- Assumes nothing.
use Rattle.std.specs.Prelude.{ℕ, ◌≡◌, List, [], ◌∷◌}

-- the refusal is the first number whose condition holds, and 0 where none does
unfoldable pub FirstOf : List (ℕ × Type 0) → ℕ → Type 0
FirstOf [] refusal = refusal ≡ 0
FirstOf (line ∷ lines) refusal = (line.1 → refusal ≡ line.0) × ((line.1 → ⊥) → FirstOf lines refusal)
