-- The moving view of a run of result records (document 02, request 11). "Take up to 65,535 result records (final code,
-- motion, count) in tape order and a width of 1 to 64."
-- Assumes nothing.
use Rattle.std.specs.Prelude.{ℕ, ◌+◌, ◌-◌, ◌*◌, ◌≤◌, max, Bool, not, ◌&&◌, List, [], ◌∷◌, ◌++◌, eqb, ltb, leb, length}
use Rattle.std.specs.Prelude.{take, None, Some}
use Rattle.common.specs.Pick.{pick}
use Rattle.common.specs.Space.{overwrite}
use Rattle.common.specs.Refusals.{done, space_short, width_out_of_range, run_too_long}
use Rattle.status.specs.declared.words.ResultRecord.{ResultRecord}
use Rattle.operations.specs.Codes.{recoverable, unrecoverable}
use Rattle.views.specs.Limits.{width_limit, run_limit, stretch_bytes}
use Rattle.views.specs.declared.counts.Counts.{Counts}
use Rattle.views.specs.Told.{First}
use Rattle.views.specs.Told.{View}

-- what is looked at of each record: its final code, and neither its motion nor its count
unfoldable pub codes_of : List ResultRecord → List ℕ
codes_of [] = []
codes_of (r ∷ rs) = r.code ∷ codes_of rs

-- ---- the stretches

-- "each full stretch of that width, in run order": one from each place that has so many codes from there on
unfoldable pub stretches : ℕ → List ℕ → List (List ℕ)
stretches width [] = []
stretches width (c ∷ cs) = pick (ltb (length (c ∷ cs)) width) [] (take width (c ∷ cs) ∷ stretches width cs)

-- ---- a fresh count of a stretch

-- "codes 15", hexadecimal
unfoldable pub is_recoverable : ℕ → Bool
is_recoverable code = eqb code recoverable

-- "codes 16"
unfoldable pub is_unrecoverable : ℕ → Bool
is_unrecoverable code = eqb code unrecoverable

-- "other nonzero codes"
unfoldable pub is_other : ℕ → Bool
is_other code = not (eqb code 0) && (not (is_recoverable code) && not (is_unrecoverable code))

-- how many codes pass a test
unfoldable pub tally : (ℕ → Bool) → List ℕ → ℕ
tally test [] = 0
tally test (c ∷ cs) = pick (test c) 1 0 + tally test cs

-- "the number of codes 15, of codes 16, and of other nonzero codes"
unfoldable pub counts_of : List ℕ → Counts
counts_of codes =
    record {
      recoverable = tally is_recoverable codes;
      unrecoverable = tally is_unrecoverable codes;
      others = tally is_other codes;
    }

-- ---- what is written

-- "three bytes: the number of codes 15, of codes 16, and of other nonzero codes"
unfoldable pub count_bytes : Counts → List ℕ
count_bytes n = n.recoverable ∷ n.unrecoverable ∷ n.others ∷ []

-- "For each full stretch of that width, in run order, write three bytes"; "Each stretch's counts equal a fresh count of
-- it"
unfoldable pub stretches_bytes : List (List ℕ) → List ℕ
stretches_bytes [] = []
stretches_bytes (s ∷ ss) = count_bytes (counts_of s) ++ stretches_bytes ss

-- ---- "the first stretch with most codes 16"

-- the number of codes 16 of each stretch
unfoldable pub unrecoverables : List (List ℕ) → List ℕ
unrecoverables [] = []
unrecoverables (s ∷ ss) = (counts_of s).unrecoverable ∷ unrecoverables ss

-- the greatest of some numbers
unfoldable pub greatest : List ℕ → ℕ
greatest [] = 0
greatest (n ∷ ns) = max n (greatest ns)

-- the least place of a number among some
unfoldable pub place_of : ℕ → List ℕ → ℕ
place_of n [] = 0
place_of n (m ∷ ms) = pick (eqb m n) 0 (1 + place_of n ms)

-- "the first stretch with most codes 16, as the place of its first record from 0": stretch by stretch, so is that of
-- its first record. "A run shorter than the width gives no stretches, and none as the first."
unfoldable pub first_most : List ℕ → First
first_most [] = None
first_most (n ∷ ns) = Some (place_of (greatest (n ∷ ns)) (n ∷ ns))

-- ---- the answer

-- how many full stretches so many codes have: their places are 0 to the number of codes less the width
unfoldable pub stretch_count : ℕ → ℕ → ℕ
stretch_count width count = count + 1 - width

-- "Refused: 18 a width outside 1 to 64; 19 a run above 65,535; 11 for output space comes last."
unfoldable pub view_refusal : ℕ → ℕ → ℕ → ℕ
view_refusal width count room =
    pick (not (leb 1 width && leb width width_limit)) width_out_of_range
    (pick (ltb run_limit count) run_too_long
    (pick (ltb room (stretch_bytes * stretch_count width count)) space_short done))

-- what holds where a view is not refused
pub record Admitted (width count room : ℕ) : Type 0 where
  pub some : 1 ≤ width
  pub few : width ≤ width_limit
  pub short : count ≤ run_limit
  pub space : stretch_bytes * stretch_count width count ≤ room

-- what is answered
unfoldable pub moving_view : ℕ → List ℕ → ℕ → View
moving_view width codes room =
    pick (eqb (view_refusal width (length codes) room) 0)
    (record {
      refusal = done;
      stretches = length (stretches width codes);
      first = first_most (unrecoverables (stretches width codes));
    })
    (record { refusal = view_refusal width (length codes) room; stretches = 0; first = None })

-- and what the lent space then holds
unfoldable pub moving_view_into : ℕ → List ℕ → List ℕ → List ℕ
moving_view_into width codes space =
    pick (eqb (view_refusal width (length codes) (length space)) 0)
    (overwrite (stretches_bytes (stretches width codes)) space) space
