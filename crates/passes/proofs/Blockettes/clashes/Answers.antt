-- `passes::Blockettes::clashes` meets its contract: before each turn no later place clashes.
-- Assumes nothing.
use mathlib.Core.Path.{sym, ◌∙◌}
use Prim.Native.Nat.{◌-◌, ◌<◌}
use native.Mathlib.Omega.{arith}
use lib.ListN.{length}
use Rattle.passes.specs.Passes.{clash_at, clashes}
use Rattle.passes.proofs.PassLaws.{any_found}
use Rattle.passes.proofs.Blockettes.clashes.Goals as goal

pub returns-then-clash_at : goal.returns-then-clash_at
unfolding clashes
returns-then-clash_at c =
    let l = c.loop-place in
    let a = c.args in
    let below : l.place - 1 < length a.self.now.marks.now = omega arith in
    sym (any_found (clash_at a.self.now.bytes.now a.self.now.marks.now a.other.now.bytes.now a.other.now.marks.now)
    (length a.self.now.marks.now) (l.place - 1) below
    (sym c.clash_at.ensures ∙ c.if-clash_at.true))
