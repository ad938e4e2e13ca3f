-- After some turns as many bytes are given, and the rest of the space stands as it was.
-- Assumes nothing.
use Rattle.std.proofs.Common.{◌≡◌, ◌++◌, take, drop}
use Rattle.text.specs.Digits.{bytes_of}
use Rattle.text.proofs.read.Hex.overwrite.Given as goal

abbrev pub invariant-loop-at : goal.invariant-loop-at
invariant-loop-at g l = l.bytes ≡ take l.at (bytes_of l.digits) ++ drop l.at l.initial.bytes
