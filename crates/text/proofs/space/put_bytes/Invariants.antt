-- After some turns the digits of as many bytes stand there.
-- Assumes nothing.
use Rattle.std.proofs.Common.{◌≡◌, ◌*◌, take}
use Rattle.text.specs.Print.{bytes_text}
use Rattle.text.proofs.space.put_bytes.Given as goal

abbrev pub invariant-loop-at : goal.invariant-loop-at
invariant-loop-at l = take (2 * l.at) l.space ≡ bytes_text (take l.at l.bytes)
