-- The limits of a line and of the text that is printed for it (document 01, Loads, restorer, session): "Host bytes and
-- space go to 16,384, an image to 16,898 bytes, marks to 66; beyond that a line is unreadable." They are the session
-- program's own, and do not follow the most bytes of a record.
-- Assumes nothing.
use Rattle.std.specs.Prelude.{ℕ, ◌+◌, ◌*◌}
use Rattle.text.specs.Limits.{refusal_most}

-- "Host bytes and space go to 16,384"
abbrev pub host_limit : ℕ
host_limit = 16384

-- "an image to 16,898 bytes": the count, 64 data blockettes and two check blockettes
abbrev pub image_limit : ℕ
image_limit = 16898

-- "marks to 66": one for each of those blockettes
abbrev pub marks_limit : ℕ
marks_limit = 66

-- "mark (0 or 1)"
abbrev pub flag_limit : ℕ
flag_limit = 1

-- ---- the longest texts, which bound what an answer needs of the space

-- six bytes, two digits each
abbrev pub action_most : ℕ
action_most = 2 * 6

-- a refusal of two digits, the action's letter and its bytes, each with a comma
abbrev pub head_most : ℕ
head_most = refusal_most + 1 + 2 + action_most + 1

-- a head and #0A
abbrev pub reply_most : ℕ
reply_most = head_most + 1

-- a head, the bytes of a whole image and #0A
abbrev pub answer_most : ℕ
answer_most = reply_most + 2 * image_limit

-- "?,-,," and #0A
abbrev pub unreadable_length : ℕ
unreadable_length = 6
