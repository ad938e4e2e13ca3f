-- `passes::Blockettes::clashes` meets its contract: before each turn no later place clashes.
-- Assumes nothing.
use mathlib.Core.Path.{◌≡◌}
use mathlib.Core.Bool.{Bool, false}
use Prim.Native.Nat.{ℕ, ◌≤◌, ◌<◌}
use lib.ListN.{length}
use Rattle.passes.specs.Passes.{clash_at}
use Rattle.passes.proofs.Blockettes.clashes.Given as goal

-- no place of those from one on
abbrev pub NoneFrom : (ℕ → Bool) → ℕ → ℕ → Type 0
NoneFrom test left n = (place : ℕ) → left ≤ place → place < n → test place ≡ false

abbrev pub invariant-loop-place : goal.invariant-loop-place
invariant-loop-place l =
    NoneFrom (clash_at l.self.bytes.now l.self.marks.now l.other.bytes.now l.other.marks.now) l.place
    (length l.self.marks.now)
