-- The answer to a question of the contest, and what is refused (document 02, request 12).
-- Assumes nothing.
use Rattle.std.specs.Prelude.{ℕ, Bool, true, false, ◌||◌, ltb}
use Rattle.common.specs.Pick.{pick}
use Rattle.common.specs.Refusals.{above_limit}
use Rattle.contest.specs.declared.contest.Gap.{Gap}
use Rattle.contest.specs.Told.{Answer}
use Rattle.contest.specs.Told.Answer.{Refused, No, Yes}
use Rattle.contest.specs.Contest.{position_of, forces, opening_of}

-- "w and f go to 8"
abbrev pub writes_limit : ℕ
writes_limit = 8

abbrev pub spoilings_limit : ℕ
spoilings_limit = 8

-- "n to 32"
abbrev pub stores_limit : ℕ
stores_limit = 32

-- whether one of w, n and f is above its limit
unfoldable pub is_above_limit : ℕ → ℕ → ℕ → Bool
is_above_limit w n f = ltb writes_limit w || (ltb stores_limit n || ltb spoilings_limit f)

-- "Say whether the driver can force all w, and the first store of a winning play"
unfoldable pub solve : Gap → ℕ → ℕ → ℕ → Answer
solve gap w n f =
    pick (is_above_limit w n f) (Refused above_limit)
    (pick (forces n (position_of gap w f)) (Yes (opening_of n (position_of gap w f))) No)

-- whether it is "The yes"
unfoldable pub is_yes : Answer → Bool
is_yes (Refused refusal) = false
is_yes No = false
is_yes (Yes first) = true
