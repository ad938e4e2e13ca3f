-- Laws of the answers of the calls that are lent space.
-- Assumes nothing.
use mathlib.Core.Path.{◌≡◌}
use mathlib.Core.List.{List}
use Prim.Native.Nat.{ℕ}
use Rattle.controller.specs.Told.{Reply}
use Rattle.controller.specs.Records.{Answer}

-- answers of equal parts
pub answer_alike :
    (r r' : Reply) (n n' : ℕ) (s s' k k' : List ℕ)
    → r ≡ r'
    → n ≡ n'
    → s ≡ s'
    → k ≡ k'
    → ◌≡◌ {A = Answer} (record { reply = r; bytes = n; space = s; check = k })
    (record { reply = r'; bytes = n'; space = s'; check = k' })
answer_alike r r' n n' s s' k k' p q t u = cc
