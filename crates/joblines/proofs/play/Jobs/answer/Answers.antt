-- The line that was read is answered.
-- Assumes nothing.
use Rattle.std.proofs.Common.{ap, sym, ◌++◌, ◌∙◌}
use Rattle.joblines.specs.Play.{JobLeft}
use Rattle.joblines.proofs.PlayLaws.{left_with, text_with, unreadable_left, queue_left, hand_left, plain_left, lent_is}
use Rattle.joblines.proofs.play.Jobs.answer.Goals as goal

pub returns-in-None-clause-left : goal.returns-in-None-clause-left
returns-in-None-clause-left g c =
    let j = c.args.self.now in
    left_with j.dispatcher j.buffers _
    (unreadable_left j c.args.line.now c.in-None.ensures)

pub returns-in-None-clause-text : goal.returns-in-None-clause-text
returns-in-None-clause-text g c =
    let j = c.args.self.now in
    text_with j.dispatcher j.buffers _
    (unreadable_left j c.args.line.now c.in-None.ensures)
    c.args.out.now _ c.put_job_unreadable.ensures.text

pub returns-in-Some-Queue-clause-left : goal.returns-in-Some-Queue-clause-left
returns-in-Some-Queue-clause-left g c =
    let j = c.args.self.now in
    let p = c.in-Some-Queue in
    let t = c.queue_in_place in
    left_with t.new.self j.buffers _
    (queue_left j c.args.line.now t.new.self _ p.job p.store p.field-0 p.field-0-is p.ensures t.ensures)

pub returns-in-Some-Queue-clause-text : goal.returns-in-Some-Queue-clause-text
returns-in-Some-Queue-clause-text g c =
    let j = c.args.self.now in
    let p = c.in-Some-Queue in
    let t = c.queue_in_place in
    text_with t.new.self j.buffers _
    (queue_left j c.args.line.now t.new.self _ p.job p.store p.field-0 p.field-0-is p.ensures t.ensures)
    c.args.out.now _ c.put_job_answer.ensures.text

pub returns-in-Some-Hand-clause-left : goal.returns-in-Some-Hand-clause-left
returns-in-Some-Hand-clause-left g c =
    let j = c.args.self.now in
    let p = c.in-Some-Hand in
    let t = c.hand_in_place in
    left_with t.new.self j.buffers _
    (hand_left j c.args.line.now t.new.self _ p.field-0 p.field-0-is p.ensures t.ensures)

pub returns-in-Some-Hand-clause-text : goal.returns-in-Some-Hand-clause-text
returns-in-Some-Hand-clause-text g c =
    let j = c.args.self.now in
    let p = c.in-Some-Hand in
    let t = c.hand_in_place in
    text_with t.new.self j.buffers _
    (hand_left j c.args.line.now t.new.self _ p.field-0 p.field-0-is p.ensures t.ensures)
    c.args.out.now _ c.put_job_answer-in-Some-Hand.ensures.text

pub returns-in-Some-Session-Plain-clause-left : goal.returns-in-Some-Session-Plain-clause-left
returns-in-Some-Session-Plain-clause-left g c =
    let j = c.args.self.now in
    let p = c.in-Some-Session-Plain in
    let t = c.plain_dispatched in
    left_with t.new.d j.buffers _
    (plain_left j c.args.line.now t.new.d _ p.call p.field-0-0 p.field-0 p.field-0-0-is p.field-0-is p.ensures
    t.ensures)

pub returns-in-Some-Session-Plain-clause-text : goal.returns-in-Some-Session-Plain-clause-text
returns-in-Some-Session-Plain-clause-text g c =
    let j = c.args.self.now in
    let p = c.in-Some-Session-Plain in
    let t = c.plain_dispatched in
    text_with t.new.d j.buffers _
    (plain_left j c.args.line.now t.new.d _ p.call p.field-0-0 p.field-0 p.field-0-0-is p.field-0-is p.ensures
    t.ensures)
    c.args.out.now _ c.put_job_answer-in-Some-Session-Plain.ensures.text

pub returns-in-Some-Session-Lent-clause-left : goal.returns-in-Some-Session-Lent-clause-left
returns-in-Some-Session-Lent-clause-left g c =
    let p = c.in-Some-Session-Lent in
    let j = c.args.self.now in
    rw (sym (lent_is j c.args.line.now p.call p.field-0-0 p.field-0 p.field-0-0-is p.field-0-is p.ensures))
    c.answer_lent.ensures.left

pub returns-in-Some-Session-Lent-clause-text : goal.returns-in-Some-Session-Lent-clause-text
returns-in-Some-Session-Lent-clause-text g c =
    let p = c.in-Some-Session-Lent in
    c.answer_lent.ensures.text
    ∙ ap (λ (l : JobLeft). c.args.out.now ++ l.text)
    (lent_is c.args.self.now c.args.line.now p.call p.field-0-0 p.field-0 p.field-0-0-is p.field-0-is p.ensures)
