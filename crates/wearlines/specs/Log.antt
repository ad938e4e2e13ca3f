-- A wear log as it is held, line by line, and its view.
-- Assumes nothing.
use Rattle.std.specs.Prelude.{ℕ, ◌+◌, min, List, [], ◌∷◌, ◌++◌, length, eqb, ltb, Option, None, Some, Result, Ok, Err}
use Rattle.common.specs.Pick.{pick}
use Rattle.status.specs.declared.words.ResultRecord.{ResultRecord}
use Rattle.views.specs.Held.{held_limit}
use Rattle.views.specs.View.{codes_of, moving_view, moving_view_into}
use Rattle.views.specs.Told.{View, told}
use Rattle.views.specs.declared.view.View as view
use Rattle.wearlines.specs.Line.{record_line, width_line}
use Rattle.wearlines.specs.declared.log.Fault.{Fault}
use Rattle.wearlines.specs.declared.log.Fault.TheVariants as fault

-- how many lines there were, the width, the records, and the number of the first line that cannot be read
pub record Held : Type 0 where
  pub lines : ℕ
  pub width : Option ℕ
  pub records : List ResultRecord
  pub bad : Option ℕ

-- before the first line
abbrev pub new_log : Held
new_log = record { lines = 0; width = None; records = []; bad = None }

-- ---- a line more

-- a line's number is not counted further
abbrev pub lines_limit : ℕ
lines_limit = 4294967295

abbrev pub next_line : Held → ℕ
next_line h = min (h.lines + 1) lines_limit

unfoldable pub first_of : Option ℕ → ℕ → Option ℕ
first_of None line = Some line
first_of (Some bad) line = Some bad

-- one that cannot be read
unfoldable pub take_bad_line : Held → Held
take_bad_line h =
    record { lines = next_line h; width = h.width; records = h.records; bad = first_of h.bad (next_line h) }

-- the width
unfoldable pub take_width : Held → Option ℕ → Held
take_width h None = take_bad_line h
take_width h (Some width) =
    record { lines = next_line h; width = Some width; records = h.records; bad = h.bad }

-- a record, where there is room for it: one more than a run may have is told as well as many
unfoldable pub take_record : Held → Option ResultRecord → Held
take_record h None = take_bad_line h
take_record h (Some r) =
    record {
      lines = next_line h;
      width = h.width;
      records = pick (ltb (length h.records) held_limit) (h.records ++ (r ∷ [])) h.records;
      bad = h.bad;
    }

-- the first line has the width, each other a record
unfoldable pub take_line : Held → List ℕ → Held
take_line h line = pick (eqb h.lines 0) (take_width h (width_line line)) (take_record h (record_line line))

-- ---- the view

-- a line that cannot be read, or what is answered of the view
pub data Shown : Type 0 where
  BadLine : ℕ → Shown
  Viewed : View → Shown

abbrev pub told_log : Result view.View Fault → Shown
told_log (Ok v) = Viewed (told (Ok v))
told_log (Err (fault.BadLine line)) = BadLine line
told_log (Err (fault.Refused refusal)) = Viewed (told (Err refusal))

-- of a log with no line at all the first cannot be read
unfoldable pub shown : Option ℕ → Option ℕ → List ResultRecord → ℕ → Shown
shown (Some line) width records room = BadLine line
shown None None records room = BadLine 1
shown None (Some width) records room = Viewed (moving_view width (codes_of records) room)

unfoldable pub view_log : Held → ℕ → Shown
view_log h room = shown h.bad h.width h.records room

-- and what the lent space then holds
unfoldable pub shown_into : Option ℕ → Option ℕ → List ResultRecord → List ℕ → List ℕ
shown_into (Some line) width records space = space
shown_into None None records space = space
shown_into None (Some width) records space = moving_view_into width (codes_of records) space

unfoldable pub view_into : Held → List ℕ → List ℕ
view_into h space = shown_into h.bad h.width h.records space
