-- What the call answered is left, and its text is put.
-- Assumes nothing.
use Rattle.std.proofs.Common.{◌++◌, List, ℕ, Ok, Err, ap, refl, ◌∙◌, arith}
use Rattle.lines.specs.declared.play.Session.{Session}
use Rattle.lines.proofs.PlayLaws.{lent_text, lent_leaves}
use Rattle.lines.proofs.play.Session.answer_lent.Goals as goal

pub returns-in-Ok-clause-left : goal.returns-in-Ok-clause-left
returns-in-Ok-clause-left g c =
    let t = c.lent_answer in
    lent_leaves c.args.self.now (record { controller = t.new.c; buffers = t.new.lent }) c.args.call _ t.ensures

pub returns-in-Ok-clause-text : goal.returns-in-Ok-clause-text
returns-in-Ok-clause-text g c =
    let t = c.lent_answer in
    c.put_answer.ensures.text
    ∙ ap (λ (x : List ℕ). c.args.out.now ++ x)
    (lent_text c.args.self.now (record { controller = t.new.c; buffers = t.new.lent }) c.args.call (Ok c.in-Ok.given)
    c.in-Ok.ensures (Ok c.in-Ok.given.answer) c.min-end.result refl c.min-end.ensures)

pub returns-in-Err-clause-left : goal.returns-in-Err-clause-left
returns-in-Err-clause-left g c =
    let t = c.lent_answer in
    lent_leaves c.args.self.now (record { controller = t.new.c; buffers = t.new.lent }) c.args.call _ t.ensures

pub returns-in-Err-clause-text : goal.returns-in-Err-clause-text
returns-in-Err-clause-text g c =
    let t = c.lent_answer in
    let new : Session = record { controller = t.new.c; buffers = t.new.lent } in
    let e = c.in-Err.refusal in
    c.put_answer-in-Err.ensures.text
    ∙ ap (λ (x : List ℕ). c.args.out.now ++ x)
    (lent_text c.args.self.now new c.args.call (Err e) c.in-Err.ensures (Err e) 0 refl (omega arith))
