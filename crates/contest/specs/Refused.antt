-- When a question of the contest is refused (document 02, request 12), in the paper's own numbers.
-- Assumes nothing.
use Rattle.std.specs.Prelude.{◌≡◌, ℕ, ◌<◌, List, [], ◌∷◌, ltb}
use Rattle.common.specs.Pick.{pick}
use Rattle.common.specs.FirstOf.{FirstOf}
use Rattle.contest.specs.Told.{Answer}
use Rattle.contest.specs.Told.Answer.{Refused, No, Yes}

-- "w and f go to 8, n to 32. Refused: 20 a number above its limit."
abbrev pub above_limits : ℕ → ℕ → ℕ → List (ℕ × Type 0)
above_limits w n f = (20, 8 < w) ∷ (20, 8 < f) ∷ (20, 32 < n) ∷ []

-- the refusal of an answer: 0 where it is yes or no
unfoldable pub refusal_of : Answer → ℕ
refusal_of (Refused refusal) = refusal
refusal_of No = 0
refusal_of (Yes first) = 0

pub record SolveRefused (w n f : ℕ) (answer : Answer) : Type 0 where
  pub refused : FirstOf (above_limits w n f) (refusal_of answer)
  pub by_a_number : answer ≡ Refused 0 → ⊥

-- For C "a gap that I give as proper or improper" is 0 or 1, and 0 to 3 answer the question: no; yes; yes, and a write
-- first; yes, and a skip reverse first.
abbrev pub ContestRefused : ℕ → ℕ → ℕ → ℕ → ℕ → Type 0
ContestRefused gap w n f told = FirstOf ((20, 1 < gap) ∷ above_limits w n f) (pick (ltb 3 told) told 0)
