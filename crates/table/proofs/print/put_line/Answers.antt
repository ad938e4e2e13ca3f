-- `table::print::put_line` meets its contract.
-- Assumes nothing.
use Rattle.std.proofs.Common.{◌≡◌, ◌∙◌, arith, length-append}
use Rattle.table.proofs.LineLaws.{begun_none, begun_more, line_done}
use Rattle.table.proofs.print.put_line.Goals as goal

pub loop-code-init : goal.loop-code-init
loop-code-init c = (begun_none c.args.operation c.args.out.now, omega arith)

pub loop-code-preserved : goal.loop-code-preserved
loop-code-preserved c =
    let l = c.loop-code in (
      c.put_all.ensures ∙ rw l.invariant.0 (begun_more c.args.operation c.args.out.now l.code _ c.digit.ensures),
      rw (c.put_all.ensures, length-append) (omega (arith, l.invariant.1)),
    )

pub returns-clause-text : goal.returns-clause-text
returns-clause-text c =
    let l = c.loop-code in
    let all : l.code ≡ 31 = omega arith in
    c.put_all-2.ensures ∙ rw (l.invariant.0, all) (line_done c.args.operation c.args.out.now _ c.digit-2.ensures)
