-- Laws of marks whose first blockette is torn.
-- Assumes nothing.
use mathlib.Core.Path.{◌≡◌, refl}
use Prim.Native.Nat.{ℕ, ◌<◌}
use native.Mathlib.Omega.{arith}
use mathlib.Core.List.{List, [], ◌∷◌}
use lib.ListN.{length, set}
use Rattle.marks.specs.Marks.{torn, torn_marks}

-- there are as many as came
pub torn_length : (marks : List ℕ) → length (torn_marks marks) ≡ length marks
unfolding torn_marks
torn_length [] = refl
torn_length (mark ∷ marks) = refl

-- the first alone is another
pub torn_first : (marks : List ℕ) → 0 < length marks → set marks 0 torn ≡ torn_marks marks
unfolding torn_marks
torn_first [] some = absurd (omega arith)
torn_first (mark ∷ marks) some = refl

pub torn_none : (marks : List ℕ) → length marks ≡ 0 → marks ≡ torn_marks marks
unfolding torn_marks
torn_none [] none = refl
torn_none (mark ∷ marks) none = absurd (omega arith)
