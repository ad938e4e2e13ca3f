-- The moving view of a run that is held in an array.
-- Assumes nothing.
use Rattle.std.specs.Prelude.{ℕ, min, List, take}
use Rattle.status.specs.declared.words.ResultRecord.{ResultRecord}
use Rattle.views.specs.View.{codes_of, moving_view, moving_view_into}
use Rattle.views.specs.Told.{View}

-- the array has a place more than a run may have, so that a run above the limit can be told
abbrev pub held_limit : ℕ
held_limit = 65536

-- the run is the first records of the array, as many as are said
unfoldable pub held_end : ℕ → ℕ
held_end count = min count held_limit

unfoldable pub held_codes : List ResultRecord → ℕ → List ℕ
held_codes run count = codes_of (take (held_end count) run)

unfoldable pub held_view : List ResultRecord → ℕ → ℕ → ℕ → View
held_view run count width room = moving_view width (held_codes run count) room

unfoldable pub held_view_into : List ResultRecord → ℕ → ℕ → List ℕ → List ℕ
held_view_into run count width space = moving_view_into width (held_codes run count) space
