-- `passes::put_merged_blockettes` meets its contract: before each turn the merged blockettes of the earlier places
-- stand before those of the first pass.
-- Assumes nothing.
use mathlib.Core.Path.{◌≡◌}
use mathlib.Core.List.{List, ◌++◌}
use Prim.Native.Nat.{ℕ, ◌*◌}
use lib.ListN.{get_or, drop}
use Rattle.passes.specs.Passes.{joined, merged_at}
use Rattle.passes.proofs.put_merged_blockettes.Given as goal

-- what is put at each place
abbrev pub parts : List ℕ → List ℕ → List ℕ → List ℕ → ℕ → List ℕ
parts first first_marks second second_marks place =
    merged_at first (get_or first_marks place 0) second (get_or second_marks place 0) place

abbrev pub invariant-loop-at : goal.invariant-loop-at
invariant-loop-at l =
    l.image
    ≡ joined (parts l.initial.image l.first_marks l.second.bytes.now l.second.marks.now) l.at
    ++ drop (256 * l.at) l.initial.image
