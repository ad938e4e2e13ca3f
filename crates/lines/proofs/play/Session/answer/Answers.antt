-- The line that was read is answered.
-- Assumes nothing.
use Rattle.std.proofs.Common.{◌≡◌, ◌++◌, List, ℕ, Some, ap, sym, ◌∙◌}
use Rattle.lines.specs.Line.{line_of, line_read, call_read, plain_line}
use Rattle.lines.specs.declared.line.Call.{Call}
use Rattle.lines.proofs.PlayLaws.{plain_leaves, plain_text}
use Rattle.lines.proofs.play.Session.answer.Goals as goal

pub returns-in-Some-Plain-clause-left : goal.returns-in-Some-Plain-clause-left
unfolding line_read call_read
returns-in-Some-Plain-clause-left g c =
    let p = c.in-Some-Plain in
    let says : plain_line p.call ≡ line_of c.args.line.now =
    ap (λ (x : Call). line_read (Some x)) (sym p.field-0-is) ∙ p.ensures
    in
    let r = c.plain_reply-answer in
    plain_leaves c.args.self.now p.call r.new.c r.result r.ensures (line_of c.args.line.now) says

pub returns-in-Some-Plain-clause-text : goal.returns-in-Some-Plain-clause-text
unfolding line_read call_read
returns-in-Some-Plain-clause-text g c =
    let p = c.in-Some-Plain in
    let says : plain_line p.call ≡ line_of c.args.line.now =
    ap (λ (x : Call). line_read (Some x)) (sym p.field-0-is) ∙ p.ensures
    in
    let r = c.plain_reply-answer in
    c.put_answer.ensures.text
    ∙ ap (λ (x : List ℕ). c.args.out.now ++ x)
    (plain_text c.args.self.now p.call r.new.c r.result r.ensures (line_of c.args.line.now) says)
