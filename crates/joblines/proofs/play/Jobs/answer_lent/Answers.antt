-- What the call answered is left, and its text is put.
-- Assumes nothing.
use Rattle.joblines.proofs.PlayLaws.{left_with, text_with, given_left, refused_left}
use Rattle.joblines.proofs.play.Jobs.answer_lent.Goals as goal

pub returns-in-Ok-clause-left : goal.returns-in-Ok-clause-left
returns-in-Ok-clause-left g c =
    let t = c.lent_dispatched in
    left_with t.new.d t.new.lent _
    (given_left c.args.self.now c.args.call t.new.d t.new.lent t.result t.ensures c.in-Ok.given _ c.in-Ok.is
    c.min-end.ensures)

pub returns-in-Ok-clause-text : goal.returns-in-Ok-clause-text
returns-in-Ok-clause-text g c =
    let t = c.lent_dispatched in
    text_with t.new.d t.new.lent _
    (given_left c.args.self.now c.args.call t.new.d t.new.lent t.result t.ensures c.in-Ok.given _ c.in-Ok.is
    c.min-end.ensures)
    c.args.out.now _ c.put_job_answer.ensures.text

pub returns-in-Err-clause-left : goal.returns-in-Err-clause-left
returns-in-Err-clause-left g c =
    let t = c.lent_dispatched in
    left_with t.new.d t.new.lent _
    (refused_left c.args.self.now c.args.call t.new.d t.new.lent t.result t.ensures c.in-Err.refusal c.in-Err.is)

pub returns-in-Err-clause-text : goal.returns-in-Err-clause-text
returns-in-Err-clause-text g c =
    let t = c.lent_dispatched in
    text_with t.new.d t.new.lent _
    (refused_left c.args.self.now c.args.call t.new.d t.new.lent t.result t.ensures c.in-Err.refusal c.in-Err.is)
    c.args.out.now _ c.put_job_answer-in-Err.ensures.text
