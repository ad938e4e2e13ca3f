-- `blockettes::fold_upward` meets its contract: after t turns t blockettes are put in.
-- Assumes nothing.
use mathlib.Core.Path.{◌≡◌}
use Rattle.blockettes.specs.Blockettes.{fold_upward}
use Rattle.blockettes.proofs.fold_upward.Given as goal

abbrev pub invariant-loop-t : goal.invariant-loop-t
invariant-loop-t l = l.into ≡ fold_upward l.initial.into l.bytes l.first l.t
