-- The three columns of a moving view, counted from the records themselves in the paper's own numbers (document 02,
-- request 11): "the number of codes 15, of codes 16, and of other nonzero codes". Codes are hexadecimal.
-- Assumes nothing.
use Rattle.std.specs.Prelude.{◌≡◌, ℕ, ◌+◌, ◌*◌, ◌≤◌, ◌<◌, ◌||◌, List, [], ◌∷◌, eqb, length, take, drop, get_or}
use Rattle.std.specs.Prelude.{None, Some}
use Rattle.common.specs.Pick.{pick}
use Rattle.status.specs.declared.words.ResultRecord.{ResultRecord}
use Rattle.views.specs.Told.{First}

-- what a code adds to the first column, to the second and to the third
unfoldable pub adds15 : ℕ → ℕ
adds15 code = pick (eqb code 0x15) 1 0

unfoldable pub adds16 : ℕ → ℕ
adds16 code = pick (eqb code 0x16) 1 0

unfoldable pub adds_other : ℕ → ℕ
adds_other code = pick (eqb code 0 || (eqb code 0x15 || eqb code 0x16)) 0 1

-- and to the number of nonzero codes
unfoldable pub adds_nonzero : ℕ → ℕ
adds_nonzero code = pick (eqb code 0) 0 1

-- what the codes of some records add up to
unfoldable pub summed : (ℕ → ℕ) → List ResultRecord → ℕ
summed adds [] = 0
summed adds (r ∷ rs) = adds r.code + summed adds rs

-- of the records of the stretch from a place
abbrev pub summed_at : (ℕ → ℕ) → ℕ → List ResultRecord → ℕ → ℕ
summed_at adds width run place = summed adds (take width (drop place run))

-- "write three bytes": those of the stretch from a place. They add up to its nonzero codes, so that each of these is in
-- one column alone.
pub record Columns (width : ℕ) (run : List ResultRecord) (space : List ℕ) (place : ℕ) : Type 0 where
  pub codes15 : get_or space (3 * place) 0 ≡ summed_at adds15 width run place
  pub codes16 : get_or space (3 * place + 1) 0 ≡ summed_at adds16 width run place
  pub others : get_or space (3 * place + 2) 0 ≡ summed_at adds_other width run place
  pub together : get_or space (3 * place) 0 + get_or space (3 * place + 1) 0 + get_or space (3 * place + 2) 0
      ≡ summed_at adds_nonzero width run place

-- "For each full stretch of that width"
abbrev pub EachHasColumns : ℕ → List ResultRecord → List ℕ → Type 0
EachHasColumns width run space = (place : ℕ) → place + width ≤ length run → Columns width run space place

-- "the first stretch with most codes 16, as the place of its first record from 0"
pub record FirstWithMost (width : ℕ) (run : List ResultRecord) (place : ℕ) : Type 0 where
  pub full : place + width ≤ length run
  pub most : (other : ℕ) → other + width ≤ length run
      → summed_at adds16 width run other ≤ summed_at adds16 width run place
  pub first : (other : ℕ) → other < place → summed_at adds16 width run other < summed_at adds16 width run place

-- "A run shorter than the width gives no stretches, and none as the first."
unfoldable pub FirstGiven : ℕ → List ResultRecord → First → Type 0
FirstGiven width run None = length run < width
FirstGiven width run (Some place) = FirstWithMost width run place
