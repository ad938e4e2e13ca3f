-- How many stores are enough, as the code counts them: no rule of the contest (document 02, request 12). That they are
-- enough, and no less is, is a theorem.
-- Assumes nothing.
use Rattle.std.specs.Prelude.{ℕ, ◌+◌, ◌*◌}
use Rattle.contest.specs.declared.contest.Gap.{Gap}
use Rattle.contest.specs.declared.contest.Gap.TheVariants.{Proper, Improper}

-- "w plus twice f, and one more from an improper gap", for one write or more
unfoldable pub needed_stores : Gap → ℕ → ℕ → ℕ
needed_stores Proper writes spoilings = writes + 2 * spoilings
needed_stores Improper writes spoilings = writes + 2 * spoilings + 1
