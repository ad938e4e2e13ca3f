-- `blockettes::xor` meets its contract. After i turns the first i bytes are those of the XOR and the rest stands as it
-- was.
-- Assumes nothing.
use mathlib.Core.Path.{◌≡◌}
use mathlib.Core.List.{◌++◌}
use lib.ListN.{take, drop}
use Rattle.blockettes.specs.Xor.{◌⊕◌}
use Rattle.blockettes.proofs.xor.Given as goal

abbrev pub invariant-loop-i : goal.invariant-loop-i
invariant-loop-i l = l.into ≡ take l.i (l.initial.into ⊕ l.from) ++ drop l.i l.initial.into
