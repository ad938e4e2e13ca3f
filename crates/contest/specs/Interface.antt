-- The function for C: numbers in, and the answer as one number (document 02, request 12; the numbers are this header's
-- own).
-- Assumes nothing.
use Rattle.std.specs.Prelude.{ℕ, ltb, eqb, None, Some}
use Rattle.common.specs.Pick.{pick}
use Rattle.common.specs.Refusals.{above_limit}
use Rattle.contest.specs.declared.contest.Gap.TheVariants.{Proper, Improper}
use Rattle.contest.specs.declared.contest.Move.{Move}
use Rattle.contest.specs.declared.contest.Move.TheVariants.{Write, SkipReverse}
use Rattle.contest.specs.Contest.{Opening}
use Rattle.contest.specs.Told.{Answer}
use Rattle.contest.specs.Told.Answer.{Refused, No, Yes}
use Rattle.contest.specs.Answer.{solve}

-- "a gap that I give as proper or improper": 0 and 1, as document 01 numbers gaps, so that 1 is the limit of this
-- number
abbrev pub gap_limit : ℕ
gap_limit = 1

-- yes, and the first store: 2 a write, 3 a skip reverse
unfoldable pub move_number : Move → ℕ
move_number Write = 2
move_number SkipReverse = 3

-- yes: 1 where there is no first store
unfoldable pub first_number : Opening → ℕ
first_number None = 1
first_number (Some store) = move_number store

-- the refusal; else 0 no
unfoldable pub answer_number : Answer → ℕ
answer_number (Refused refusal) = refusal
answer_number No = 0
answer_number (Yes first) = first_number first

-- the number that C is answered
unfoldable pub contest : ℕ → ℕ → ℕ → ℕ → ℕ
contest gap w n f =
    pick (ltb gap_limit gap) above_limit (answer_number (solve (pick (eqb gap 0) Proper Improper) w n f))
