-- `table::print::table_text` meets its contract.
-- Assumes nothing.
use Rattle.std.proofs.Common.{◌≡◌, ◌∙◌, sym, ap, length, arith}
use Rattle.table.specs.Text.{line_order, table_text}
use Rattle.table.proofs.LineLaws.{lines_none, lines_more}
use Rattle.table.proofs.print.table_text.Goals as goal

pub loop-operation-init : goal.loop-operation-init
loop-operation-init c = (c.new-text.ensures ∙ sym lines_none, ap length c.new-text.ensures)

pub loop-operation-preserved : goal.loop-operation-preserved
unfolding line_order
loop-operation-preserved c =
    let l = c.loop-operation in (
      c.put_line.ensures.text ∙ rw l.invariant.0 (lines_more line_order l.operation-index (omega arith)),
      omega (arith, c.put_line.ensures.fits, l.invariant.1),
    )

pub returns : goal.returns
unfolding line_order table_text
returns c =
    let all : c.loop-operation.operation-index ≡ 12 = omega arith in
    c.loop-operation.invariant.0 ∙ rw all
