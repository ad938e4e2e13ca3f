-- Order: the stores of one job are handed over in the order in which they were queued, each once, and none is lost,
-- also across resets. Over every list of calls from a fresh dispatcher.
-- Assumes nothing.
use Rattle.std.specs.Prelude.{◌≡◌, List, ◌++◌, ℕ, ◌≤◌}
use Rattle.dispatcher.specs.Dispatcher.{fresh_dispatcher}
use Rattle.dispatcher.specs.Lists.{Exchange, after, queued_in, line, handed_in}

-- what a job queued is what was handed over of it, and then what still waits
abbrev pub InOrder : List Exchange → Type 0
InOrder xs =
    (job : ℕ)
    → job ≤ 3
    → queued_in job xs ≡ handed_in job fresh_dispatcher xs ++ line job (after fresh_dispatcher xs)
