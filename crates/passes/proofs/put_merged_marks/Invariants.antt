-- `passes::put_merged_marks` meets its contract: before each turn the merged marks of the earlier places stand at the
-- start of the space.
-- Assumes nothing.
use mathlib.Core.Path.{◌≡◌}
use mathlib.Core.List.{List, [], ◌∷◌, ◌++◌}
use Prim.Native.Nat.{ℕ}
use lib.ListN.{get_or, drop}
use Rattle.passes.specs.Passes.{joined, merged_mark}
use Rattle.passes.proofs.put_merged_marks.Given as goal

-- the mark at each place
abbrev pub mark_at : List ℕ → List ℕ → ℕ → ℕ
mark_at first_marks second_marks place = merged_mark (get_or first_marks place 0) (get_or second_marks place 0)

-- those of the first places
abbrev pub tags : List ℕ → List ℕ → ℕ → List ℕ
tags first_marks second_marks = joined (λ place. mark_at first_marks second_marks place ∷ [])

abbrev pub invariant-loop-at : goal.invariant-loop-at
invariant-loop-at l = l.marks ≡ tags l.first_marks l.second_marks l.at ++ drop l.at l.initial.marks
