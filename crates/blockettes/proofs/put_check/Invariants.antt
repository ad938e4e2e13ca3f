-- `blockettes::put_check` meets its contract: the whole ones first, then what there is of the last, and upward all are
-- those of the parity.
-- Assumes nothing.
use mathlib.Core.Path.{◌≡◌}
use Prim.Native.Nat.{◌+◌, ◌-◌, ◌*◌}
use Rattle.blockettes.specs.Blockettes.{fold_upward}
use Rattle.blockettes.proofs.put_check.Given as goal

abbrev pub invariant-loop-t : goal.invariant-loop-t
invariant-loop-t l = l.space ≡ fold_upward l.initial.space l.bytes (l.first + 2 * l.initial.t) (l.t - l.initial.t)
