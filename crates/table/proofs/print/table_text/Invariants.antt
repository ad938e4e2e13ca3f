-- Before each turn the lines so far stand there.
-- Assumes nothing.
use Rattle.std.proofs.Common.{◌≡◌, ◌*◌, length, take}
use Rattle.table.specs.Text.{line_order, lines_text}
use Rattle.table.proofs.print.table_text.Given as goal

abbrev pub invariant-loop-operation : goal.invariant-loop-operation
invariant-loop-operation l =
    (l.text ≡ lines_text (take l.operation-index line_order)) × (length l.text ≡ 64 * l.operation-index)
