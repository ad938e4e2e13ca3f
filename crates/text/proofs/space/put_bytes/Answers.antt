-- The digits of one byte more stand there, and of all in the end.
-- Assumes nothing.
use Rattle.std.proofs.Common.{◌≤◌, ◌*◌, length, refl, sym, ap, ◌∙◌, arith}
use lib.Seq.{take_all}
use Rattle.text.specs.Print.{byte_text, bytes_text}
use Rattle.text.proofs.TextLaws.{digits_put}
use Rattle.text.proofs.space.put_bytes.Goals as goal

pub loop-at-init : goal.loop-at-init
unfolding bytes_text
loop-at-init c = refl

pub loop-at-preserved : goal.loop-at-preserved
unfolding byte_text
loop-at-preserved c =
    let l = c.loop-at in
    rw c.byte_text.ensures
    (digits_put l.space c.args.bytes.now l.at _ _ c.loop-at-test.true (l.auto.space ∙ c.requires) l.invariant refl)

pub returns : goal.returns
returns c =
    let l = c.loop-at in
    let bytes = c.args.bytes.now in
    let full : length l.space ≤ 2 * l.at = omega (arith, l.auto.space, c.requires, c.loop-at-test.false) in
    sym (take_all (2 * l.at) l.space full) ∙ l.invariant ∙ ap bytes_text (take_all l.at bytes c.loop-at-test.false)
