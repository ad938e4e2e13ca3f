-- Before each turn the bytes so far, and those that are left, are digits if and only if all are.
-- Assumes nothing.
use Rattle.std.proofs.Common.{◌≡◌, ◌&&◌, drop}
use Rattle.text.specs.Digits.{all_digits}
use Rattle.text.proofs.read.all_digits.Given as goal

abbrev pub invariant-loop-d : goal.invariant-loop-d
invariant-loop-d l = (l.good && all_digits l.base (drop l.d-index l.s)) ≡ all_digits l.base l.s
