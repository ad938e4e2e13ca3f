-- The limits of a line of the jobs program and of the text that is printed for it, beyond those of the session program.
-- No paper has this program: its lines and its text are the house's own (`docs/JOBS.md`).
-- Assumes nothing.
use Rattle.std.specs.Prelude.{ℕ, ◌+◌, ◌*◌}
use Rattle.text.specs.Limits.{record_most}
use Rattle.lines.specs.Limits.{image_limit, reply_most}

-- an operand has eight hexadecimal digits
abbrev pub operand_length : ℕ
operand_length = 8

-- ---- the longest texts, which bound what an answer needs of the space

-- an answer of the session program that gives no bytes, and the fifth field with its comma
abbrev pub job_reply_most : ℕ
job_reply_most = reply_most + 1 + record_most

-- and one that gives the bytes of a whole image
abbrev pub job_answer_most : ℕ
job_answer_most = job_reply_most + 2 * image_limit

-- ?,-,,,- and #0A
abbrev pub job_unreadable_length : ℕ
job_unreadable_length = 8
