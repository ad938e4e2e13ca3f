-- What the loop of `common::copy` keeps: after so many turns as many bytes are given, the rest of the space stands as
-- it was.
-- Assumes nothing.
use Rattle.std.proofs.Common.{◌≡◌, ◌++◌, take, drop}
use Rattle.common.proofs.copy.Given as goal

abbrev pub invariant-loop-at : goal.invariant-loop-at
invariant-loop-at l = l.space ≡ take l.at l.bytes ++ drop l.at l.fn.space
