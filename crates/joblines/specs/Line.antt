-- What a line of the jobs program says, over the dispatcher of document 02, request 8. No paper has this program: its
-- lines are the house's own (`docs/JOBS.md`), those of the session program with the same limits and spaces, and two
-- more: Q,job,address,operand, the job in decimal, 0 to 255, the address two hexadecimal digits and the operand eight,
-- letters capital; and H. A line is given without its #0A.
-- Assumes nothing.
use Rattle.std.specs.Prelude.{ℕ, Bool, ◌&&◌, List, leb, eqb, length, drop, get_or, Option, None, Some}
use Rattle.common.specs.Pick.{pick}
use Rattle.operations.specs.declared.store.Store.{Store}
use Rattle.text.specs.Limits.{byte_limit}
use Rattle.text.specs.Characters.{comma}
use Rattle.text.specs.Digits.{all_digits, is_byte, byte_of, bytes_of, is_decimal, decimal_of}
use Rattle.text.specs.Fields.{field_of, after_fields}
use Rattle.lines.specs.Line.{Line, unreadable, line_of, call_read}
use Rattle.joblines.specs.Limits.{operand_length}
use Rattle.joblines.specs.declared.line.JobCall.{JobCall}
use Rattle.joblines.specs.declared.line.JobCall.TheVariants.{Queue, Hand, Session}

-- Q,job,address,operand; H; or one of the session program's lines, readable or not
pub data JobLine : Type 0 where
  queueing : ℕ → Store → JobLine
  handing : JobLine
  session_line : Line → JobLine

-- ---- the first letter of a line

-- Q
abbrev pub queue_letter : ℕ
queue_letter = 81

-- H
abbrev pub hand_letter : ℕ
hand_letter = 72

-- ---- a job that queues a store

-- an operand: eight hexadecimal digits, letters capital
unfoldable pub is_operand : List ℕ → Bool
is_operand s = eqb (length s) operand_length && all_digits 16 s

-- the store of an address and four operand bytes
unfoldable pub store_of : List ℕ → List ℕ → Store
store_of address operand =
    record {
      address = byte_of address;
      first = get_or (bytes_of operand) 0 0;
      second = get_or (bytes_of operand) 1 0;
      third = get_or (bytes_of operand) 2 0;
      fourth = get_or (bytes_of operand) 3 0;
    }

-- the job in decimal, 0 to 255, the address two hexadecimal digits and the operand eight
unfoldable pub store_line : List ℕ → List ℕ → List ℕ → JobLine
store_line job address operand =
    pick (is_decimal byte_limit job && (is_byte address && is_operand operand))
    (queueing (decimal_of job) (store_of address operand))
    (session_line unreadable)

-- Q,job,address,operand, behind its first comma
unfoldable pub queue_line : List ℕ → JobLine
queue_line s = store_line (field_of s) (field_of (after_fields 1 s)) (after_fields 2 s)

-- ---- the lines

-- H: one letter alone
unfoldable pub is_hand : List ℕ → Bool
is_hand line = eqb (length line) 1 && eqb (get_or line 0 0) hand_letter

-- "Q,..": the letter and a comma
unfoldable pub is_queue : List ℕ → Bool
is_queue line = leb 2 (length line) && (eqb (get_or line 0 0) queue_letter && eqb (get_or line 1 0) comma)

-- what a line says: one of the two, or what it says to the session program
unfoldable pub job_line_of : List ℕ → JobLine
job_line_of line =
    pick (is_hand line) handing (pick (is_queue line) (queue_line (drop 2 line)) (session_line (line_of line)))

-- ---- what the code reads

-- the line that was read
unfoldable pub job_line_read : Option JobCall → JobLine
job_line_read None = session_line unreadable
job_line_read (Some (Queue job store)) = queueing job store
job_line_read (Some Hand) = handing
job_line_read (Some (Session call)) = session_line (call_read call)
