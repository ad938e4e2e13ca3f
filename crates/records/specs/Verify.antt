-- Whether the check blockettes of a GCR image fit its data. No paper has it; document 01, Records, says what they are:
-- "check blockette 1, the XOR of the odd ones, and 0, of the even ones".
-- Assumes nothing.
use Rattle.std.specs.Prelude.{ℕ, ◌+◌, ◌-◌, Bool, not, List, Result, Ok, Err, ltb, eqb, length, drop}
use Rattle.common.specs.Pick.{pick}
use Rattle.common.specs.Refusals.{done, wrong_length}
use Rattle.common.specs.declared.refusals.Refusal.{Refusal}
use Rattle.common.specs.Told.{number_of}
use Rattle.blockettes.specs.Blockettes.{blockette_at, check_of}
use Rattle.passes.specs.Passes.{same_blockettes}
use Rattle.records.specs.Count.{count_of}
use Rattle.records.specs.Image.{blockette_count, image_length}
use Rattle.records.specs.declared.verify.Fit.{Fit}

-- What the answer has of a parity that does not fit: a bit of its own for each, which no refusal has.
abbrev pub unfit_even : ℕ
unfit_even = 32

abbrev pub unfit_odd : ℕ
unfit_odd = 64

-- whether the check blockette of a parity is the XOR of its data, of n blockettes of data and the two behind them
unfoldable pub check_fits : List ℕ → ℕ → ℕ → Bool
check_fits blockettes n parity =
    same_blockettes (check_of blockettes n parity) (blockette_at blockettes (n + 1 - parity))

-- those that do not, of both parities
unfoldable pub unfit_checks : List ℕ → ℕ → ℕ
unfit_checks blockettes n =
    pick (check_fits blockettes n 0) 0 unfit_even + pick (check_fits blockettes n 1) 0 unfit_odd

-- "9 .. wrong length of image"; of a record of 0 bytes, which has no check blockettes, none is unfit
unfoldable pub verify : List ℕ → ℕ
verify image =
    pick (ltb (length image) 2) wrong_length
    (pick (not (eqb (length image) (image_length (count_of image) 1))) wrong_length
    (pick (eqb (count_of image) 0) done (unfit_checks (drop 2 image) (blockette_count (count_of image)))))

-- ---- the number of what the program holds

unfoldable pub unfit_number : Fit → ℕ
unfit_number fit = pick fit.even 0 unfit_even + pick fit.odd 0 unfit_odd

abbrev pub told_fit : Result Fit Refusal → ℕ
told_fit (Ok fit) = unfit_number fit
told_fit (Err refusal) = number_of refusal
