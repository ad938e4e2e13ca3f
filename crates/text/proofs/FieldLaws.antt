-- Laws of parts: how long one is, and where it stands.
-- Assumes nothing.
use mathlib.Core.Path.{◌≡◌, refl, ap}
use Prim.Native.Nat.{ℕ, suc, ◌≤◌}
use native.Mathlib.Omega.{arith}
use mathlib.Core.Bool.{Bool, true, false}
use mathlib.Core.List.{List, [], ◌∷◌}
use lib.Dec.{eqb}
use lib.ListN.{length, take}
use Rattle.common.specs.Pick.{pick}
use Rattle.text.specs.Fields.{part_of, part_end}

module _ (sign : ℕ) where
  -- a part is no longer than what it stands in
  within : (b : ℕ) (s : List ℕ) (ends : Bool) → length (part_of sign s) ≤ length s
      → length (pick ends [] (b ∷ part_of sign s)) ≤ suc (length s)
  unfolding pick
  within b s true h = omega arith
  within b s false h = omega arith

  pub part_within : (s : List ℕ) → length (part_of sign s) ≤ length s
  unfolding part_of
  part_within [] = omega arith
  part_within (b ∷ s) = within b s (eqb b sign) (part_within s)

  -- it is what stands at the start, up to its end
  front : (b : ℕ) (s : List ℕ) (ends : Bool)
      → take (part_end sign s) s ≡ part_of sign s
      → take (length (pick ends [] (b ∷ part_of sign s))) (b ∷ s) ≡ pick ends [] (b ∷ part_of sign s)
  unfolding pick
  front b s true h = refl
  front b s false h = ap (λ (x : List ℕ). b ∷ x) h

  pub part_front : (s : List ℕ) → take (part_end sign s) s ≡ part_of sign s
  unfolding part_of
  part_front [] = refl
  part_front (b ∷ s) = front b s (eqb b sign) (part_front s)
