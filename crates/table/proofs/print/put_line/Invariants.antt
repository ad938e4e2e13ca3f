-- Before each turn the digits of the codes so far stand there.
-- Assumes nothing.
use Rattle.std.proofs.Common.{◌≡◌, ◌+◌, ◌*◌, ◌++◌, length}
use Rattle.table.proofs.LineLaws.{begun}
use Rattle.table.proofs.print.put_line.Given as goal

abbrev pub invariant-loop-code : goal.invariant-loop-code
invariant-loop-code l =
    (l.out ≡ l.fn.out ++ begun l.operation l.code) × (length l.out ≡ length l.fn.out + 2 * l.code)
