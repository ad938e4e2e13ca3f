-- What is claimed of a moving view, place by place.
-- Assumes nothing.
use Rattle.std.specs.Prelude.{◌≡◌, ℕ, ◌*◌, ◌≤◌, ◌<◌, List, length, take, drop, None, Some}
use Rattle.views.specs.Limits.{stretch_bytes}
use Rattle.views.specs.View.{counts_of, count_bytes, stretch_count}
use Rattle.views.specs.Told.{First}

-- the full stretch from a place on
unfoldable pub stretch_at : ℕ → List ℕ → ℕ → List ℕ
stretch_at width codes place = take width (drop place codes)

-- how many of its codes are 16
unfoldable pub unrecoverable_at : ℕ → List ℕ → ℕ → ℕ
unrecoverable_at width codes place = (counts_of (stretch_at width codes place)).unrecoverable

-- "For each full stretch of that width, in run order, write three bytes": "Each stretch's counts equal a fresh count of
-- it"
abbrev pub EachIsFresh : ℕ → List ℕ → List ℕ → Type 0
EachIsFresh width codes out =
    (place : ℕ) → place < stretch_count width (length codes)
    → take stretch_bytes (drop (stretch_bytes * place) out) ≡ count_bytes (counts_of (stretch_at width codes place))

-- "the first stretch with most codes 16": none has more, and each before it has less
pub record LeastWithMost (width : ℕ) (codes : List ℕ) (place : ℕ) : Type 0 where
  pub is_one : place < stretch_count width (length codes)
  pub most : (other : ℕ) → other < stretch_count width (length codes)
      → unrecoverable_at width codes other ≤ unrecoverable_at width codes place
  pub min : (other : ℕ) → other < place → unrecoverable_at width codes other < unrecoverable_at width codes place

-- "A run shorter than the width gives no stretches, and none as the first."
unfoldable pub IsFirst : ℕ → List ℕ → First → Type 0
IsFirst width codes None = length codes < width
IsFirst width codes (Some place) = LeastWithMost width codes place
