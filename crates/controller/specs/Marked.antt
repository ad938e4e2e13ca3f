-- What the marks of a record's blockettes come to, in document 01's words (Records): which are bad, two of one parity,
-- and where the scan stops. No definition of the scan is cited.
-- Assumes nothing.
use Rattle.std.specs.Prelude.{◌≡◌, ℕ, ◌+◌, ◌-◌, ◌%◌, ◌<◌, List, ltb, length, get_or}
use Rattle.common.specs.Pick.{pick}

-- "Marks: one for each GCR blockette in tape order, 1-9 an error, 15 good."
abbrev pub IsBad : List ℕ → ℕ → Type 0
IsBad marks place = (place < length marks) × (get_or marks place 0 ≡ 15 → ⊥)

-- "None"
abbrev pub NoneBad : List ℕ → Type 0
NoneBad marks = (place : ℕ) → IsBad marks place → ⊥

-- "n .. blockettes, numbered n-1 down to 0, ..; then check blockette 1, .., and 0": the number of the one at a place
unfoldable pub number_at : ℕ → ℕ → ℕ
number_at n place = pick (ltb place n) (n - 1 - place) (n + 1 - place)

-- "An error's parity is its number's, check blockettes included."; two of the marks are those of the check blockettes
abbrev pub parity_at : List ℕ → ℕ → ℕ
parity_at marks place = number_at (length marks - 2) place % 2

-- two bad ones of one parity, in tape order
pub record TwoBad (marks : List ℕ) (first second : ℕ) : Type 0 where
  pub order : first < second
  pub one : IsBad marks first
  pub two : IsBad marks second
  pub parity : parity_at marks first ≡ parity_at marks second

-- "At most one of each parity"
abbrev pub AtMostOne : List ℕ → Type 0
AtMostOne marks = (first second : ℕ) → TwoBad marks first second → ⊥

-- "the scan stops at the first blockette that is the second bad one of its parity"
pub record StopsAt (marks : List ℕ) (stop : ℕ) : Type 0 where
  pub first : ℕ
  pub second : TwoBad marks first stop
  pub before : (i j : ℕ) → j < stop → TwoBad marks i j → ⊥

-- one of the three: "None", "At most one of each parity", "Else"
pub data ComeTo (marks : List ℕ) : Type 0 where
  all_good : NoneBad marks → ComeTo marks
  some_mended : (place : ℕ) → IsBad marks place → AtMostOne marks → ComeTo marks
  scan_stopped : (stop : ℕ) → StopsAt marks stop → ComeTo marks
