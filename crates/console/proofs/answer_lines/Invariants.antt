use Rattle.std.proofs.Common.{◌≤◌, length}
use Rattle.console.specs.Sizes.{input_size}
use Rattle.console.proofs.answer_lines.Given as goal

abbrev pub invariant-loop-end : goal.invariant-loop-end
invariant-loop-end g l = length l.rest ≤ input_size

abbrev pub decreases-loop-end : goal.decreases-loop-end
decreases-loop-end g l = length l.rest
