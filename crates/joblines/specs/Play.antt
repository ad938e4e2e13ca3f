-- What the jobs program does with a line: the dispatcher's call that it makes (document 02, request 8), and the text
-- that it prints.
-- Assumes nothing.
use Rattle.std.specs.Prelude.{ℕ, min, List, ◌++◌, length, take, drop}
use Rattle.records.specs.Place.{no_place}
use Rattle.transfers.specs.Data.{host_of}
use Rattle.transfers.specs.Results.{result_of}
use Rattle.dispatcher.specs.declared.dispatcher.Dispatcher.{Dispatcher}
use Rattle.dispatcher.specs.Told.{Dispatched}
use Rattle.dispatcher.specs.Dispatcher.{Answer, pass_on, passed_answer}
use Rattle.dispatcher.specs.Dispatcher.{byte_call, taken_call, broken_call, report_call, tick_call, reset_call}
use Rattle.dispatcher.specs.Dispatcher.{data_call, result_call, queue_call, hand_call}
use Rattle.lines.specs.Line.{Line, unreadable, byte, taken, broken, report, host_data, result, tick, reset}
use Rattle.lines.specs.Play.{plain_reply, lent_answer}
use Rattle.lines.specs.declared.line.PlainCall.{PlainCall}
use Rattle.lines.specs.declared.line.LentCall.{LentCall}
use Rattle.joblines.specs.Line.{JobLine, queueing, handing, session_line, job_line_of}
use Rattle.joblines.specs.Print.{job_answer_text, job_unreadable_text}
use Rattle.joblines.specs.declared.play.Jobs.{Jobs}

-- ---- what is left of a line

-- the next state, what stands in the lent space and in the check store, and the printed text
pub record JobLeft : Type 0 where
  pub dispatcher : Dispatcher
  pub space : List ℕ
  pub check : List ℕ
  pub text : List ℕ

-- a call's answer: refusal, action, its bytes, bytes delivered or image, and the record handed back
unfoldable pub dispatched_left : Answer → JobLeft
dispatched_left a =
    record {
      dispatcher = a.reply.dispatcher;
      space = a.space;
      check = a.check;
      text = job_answer_text a.reply.refusal a.reply.action (take a.bytes a.space) a.reply.handed;
    }

-- a call that gives no bytes
abbrev pub without_bytes : Dispatched → List ℕ → List ℕ → Answer
without_bytes reply space check = record { reply = reply; bytes = 0; space = space; check = check }

-- and what is left of it
unfoldable pub reply_left : Dispatched → List ℕ → List ℕ → JobLeft
reply_left reply space check = dispatched_left (without_bytes reply space check)

-- an answer in the start of a space, told of the whole space: what it gives lies in that start
abbrev pub in_whole_space : Answer → List ℕ → Answer
in_whole_space a rest = record {
  reply = a.reply;
  bytes = min a.bytes (length a.space);
  space = a.space ++ rest;
  check = a.check;
}

-- the answer to one of the session program's lines, with the same limits and spaces: an unreadable one changes nothing,
-- a data call is lent the whole space and no place of a bad host byte, a result as much as it says
unfoldable pub session_left : Dispatcher → Line → List ℕ → List ℕ → JobLeft
session_left d unreadable space check =
    record { dispatcher = d; space = space; check = check; text = job_unreadable_text }
session_left d (byte b) space check = reply_left (byte_call d b) space check
session_left d taken space check = reply_left (taken_call d) space check
session_left d broken space check = reply_left (broken_call d) space check
session_left d (report drive b) space check = reply_left (report_call d drive b) space check
session_left d (host_data host) space check = dispatched_left (data_call d (host_of host no_place) space check)
session_left d (result code mark late image marks lent) space check =
    dispatched_left
    (in_whole_space (result_call d (result_of code mark late image marks) (take lent space) check) (drop lent space))
session_left d tick space check = reply_left (tick_call d) space check
session_left d reset space check = reply_left (reset_call d) space check

-- a line's answer: Q,job,address,operand queues a store, H hands one over
unfoldable pub job_line_left : Dispatcher → JobLine → List ℕ → List ℕ → JobLeft
job_line_left d (queueing job store) space check = reply_left (queue_call d job store) space check
job_line_left d handing space check = reply_left (hand_call d) space check
job_line_left d (session_line line) space check = session_left d line space check

-- the answer to a line, as its bytes stand
abbrev pub job_answer : Jobs → List ℕ → JobLeft
job_answer j line = job_line_left j.dispatcher (job_line_of line) j.buffers.space j.buffers.check

-- what the code leaves, with the text that it puts
abbrev pub job_left : Jobs → List ℕ → JobLeft
job_left j text = record {
  dispatcher = j.dispatcher;
  space = j.buffers.space;
  check = j.buffers.check;
  text = text;
}

-- ---- what the code does with a line of the session program's: the call that the session program makes, passed on

-- the reply to a call that is lent nothing
unfoldable pub plain_dispatched : Dispatcher → PlainCall → Dispatched
plain_dispatched d call = pass_on d (plain_reply d.controller call)

-- the answer to a call that is lent space
unfoldable pub lent_dispatched : Dispatcher → LentCall → List ℕ → List ℕ → Answer
lent_dispatched d call space check = passed_answer d (lent_answer d.controller call space check) space check

-- and what is left of it
abbrev pub lent_left : Jobs → LentCall → JobLeft
lent_left j call = dispatched_left (lent_dispatched j.dispatcher call j.buffers.space j.buffers.check)
