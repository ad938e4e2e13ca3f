-- Before each turn the bytes so far are digits, and the number so far, with those that are left, is the number, both
-- cut
-- at the most.
-- Assumes nothing.
use Rattle.std.proofs.Common.{◌≡◌, ◌≤◌, min, drop}
use Rattle.text.specs.Limits.{field_cap}
use Rattle.text.specs.Digits.{all_digits, decimal_from, decimal_of}
use Rattle.text.proofs.read.capped_decimal.Given as goal

abbrev pub invariant-loop-d : goal.invariant-loop-d
invariant-loop-d l =
    (l.value ≤ field_cap)
    × (all_digits 10 (drop l.d-index l.s) ≡ all_digits 10 l.s)
    × (min (decimal_from l.value (drop l.d-index l.s)) field_cap ≡ min (decimal_of l.s) field_cap)
