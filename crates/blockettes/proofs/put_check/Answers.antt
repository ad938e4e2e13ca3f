-- `blockettes::put_check` meets its contract: the whole ones first, then what there is of the last, and upward all are
-- those of the parity.
-- Assumes nothing.
use mathlib.Core.Path.{◌≡◌, ap, ◌∙◌}
use mathlib.Core.List.{List}
use Prim.Native.Nat.{ℕ, ◌+◌, ◌-◌, ◌/◌}
use native.Mathlib.Omega.{arith}
use lib.ListN.{replicate}
use Rattle.blockettes.specs.Blockettes.{of_parity, fold_upward, check_of}
use Rattle.blockettes.proofs.Several.{upward_all, upward_is_parity}
use Rattle.blockettes.proofs.put_check.Goals as goal

pub returns : goal.returns
unfolding check_of of_parity
returns c =
    let l = c.loop-t in
    let a = c.args in
    let zeros : List ℕ = replicate 256 0 in
    let all : l.t ≡ (a.n + 1 - a.parity) / 2 = omega arith in
    upward_all _ _ _ _ _ _ _ l.auto.t c.put_whole.ensures l.invariant
    ∙ ap (fold_upward zeros a.bytes.now _) all
    ∙ upward_is_parity zeros a.bytes.now a.n a.parity c.requires.parity_bound
