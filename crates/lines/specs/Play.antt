-- What the session does with a line: the call that it makes, and the text that it prints (document 01, Loads, restorer,
-- session).
-- Assumes nothing.
use Rattle.std.specs.Prelude.{ℕ, min, List, ◌++◌, length, take, drop}
use Rattle.transfers.specs.Results.{Result, result_of}
use Rattle.controller.specs.declared.controller.Controller.{Controller}
use Rattle.controller.specs.Told.{Reply}
use Rattle.controller.specs.Records.{Answer}
use Rattle.records.specs.Place.{no_place}
use Rattle.transfers.specs.Data.{host_of}
use Rattle.text.specs.Hex.{hex_bytes}
use Rattle.controller.specs.Machine.{byte_call, taken_call, broken_call, report_call, tick_call, reset_call}
use Rattle.controller.specs.Machine.{data_call, result_call}
use Rattle.lines.specs.Line.{Line, unreadable, byte, taken, broken, report, host_data, result, tick, reset}
use Rattle.lines.specs.Print.{reply_text, answer_text, unreadable_text}
use Rattle.lines.specs.declared.line.ResultFields.{ResultFields}
use Rattle.lines.specs.declared.line.PlainCall.{PlainCall}
use Rattle.lines.specs.declared.line.PlainCall.TheVariants.{Byte, Taken, Broken, Report, Tick, Reset}
use Rattle.lines.specs.declared.line.LentCall.{LentCall}
use Rattle.lines.specs.declared.line.LentCall.TheVariants.{HostData, Result as OfResult}
use Rattle.lines.specs.declared.play.Session.{Session}

-- ---- what is left of a line

-- the next state, what stands in the lent space and in the check store, and the printed text
pub record Left : Type 0 where
  pub controller : Controller
  pub space : List ℕ
  pub check : List ℕ
  pub text : List ℕ

-- a call that gives no bytes
unfoldable pub reply_left : Reply → List ℕ → List ℕ → Left
reply_left r space check = record {
  controller = r.controller;
  space = space;
  check = check;
  text = reply_text r.refusal r.action;
}

-- a data call or a result: "bytes delivered or image"
unfoldable pub transfer_left : Answer → Left
transfer_left a = record {
  controller = a.reply.controller;
  space = a.space;
  check = a.check;
  text = answer_text a.reply.refusal a.reply.action (take a.bytes a.space);
}

-- the rest of a space, of which only the start was lent
unfoldable pub with_rest : Left → List ℕ → Left
with_rest l rest = record { controller = l.controller; space = l.space ++ rest; check = l.check; text = l.text }

-- a line's answer. "An unreadable line prints ?,-,, and changes nothing." A data call is lent the whole space, a result
-- as much as it says. Of a place for a bad host byte: "The session program hands in none." (document 02, request 6)
unfoldable pub line_left : Controller → Line → List ℕ → List ℕ → Left
line_left c unreadable space check = record { controller = c; space = space; check = check; text = unreadable_text }
line_left c (byte b) space check = reply_left (byte_call c b) space check
line_left c taken space check = reply_left (taken_call c) space check
line_left c broken space check = reply_left (broken_call c) space check
line_left c (report drive b) space check = reply_left (report_call c drive b) space check
line_left c (host_data host) space check = transfer_left (data_call c (host_of host no_place) space check)
line_left c (result code mark late image marks lent) space check =
    with_rest
    (transfer_left (result_call c (result_of code mark late image marks) (take lent space) check))
    (drop lent space)
line_left c tick space check = reply_left (tick_call c) space check
line_left c reset space check = reply_left (reset_call c) space check

-- what a session's line leaves
abbrev pub session_left : Session → Line → Left
session_left s line = line_left s.controller line s.buffers.space s.buffers.check

-- what the code leaves, with the text that it puts
abbrev pub left : Session → List ℕ → Left
left s text = record { controller = s.controller; space = s.buffers.space; check = s.buffers.check; text = text }

-- ---- what the code does: a call that was read is made, and then its answer is printed

-- the reply to a call that is lent nothing
unfoldable pub plain_reply : Controller → PlainCall → Reply
plain_reply c (Byte b) = byte_call c b
plain_reply c Taken = taken_call c
plain_reply c Broken = broken_call c
plain_reply c (Report drive b) = report_call c drive b
plain_reply c Tick = tick_call c
plain_reply c Reset = reset_call c

-- an answer in the start of a space, told of the whole space: what it gives lies in that start
abbrev pub in_whole_space : Answer → List ℕ → Answer
in_whole_space a rest = record {
  reply = a.reply;
  bytes = min a.bytes (length a.space);
  space = a.space ++ rest;
  check = a.check;
}

-- the answer to a result that is lent so much of a space
abbrev pub part_answer : Controller → Result → ℕ → List ℕ → List ℕ → Answer
part_answer c r most space check = in_whole_space (result_call c r (take most space) check) (drop most space)

-- and to one that says how much
unfoldable pub fields_answer : Controller → ResultFields → List ℕ → List ℕ → Answer
fields_answer c f space check =
    part_answer c (result_of f.code f.mark f.late (hex_bytes f.image) (hex_bytes f.marks)) f.space space check

-- the answer to a call that is lent space
unfoldable pub lent_answer : Controller → LentCall → List ℕ → List ℕ → Answer
lent_answer c (HostData host) space check = data_call c (host_of (hex_bytes host) no_place) space check
lent_answer c (OfResult fields) space check = fields_answer c fields space check

-- and what is left of either
abbrev pub plain_left : Controller → PlainCall → List ℕ → List ℕ → Left
plain_left c call space check = reply_left (plain_reply c call) space check

abbrev pub lent_left : Controller → LentCall → List ℕ → List ℕ → Left
lent_left c call space check = transfer_left (lent_answer c call space check)
