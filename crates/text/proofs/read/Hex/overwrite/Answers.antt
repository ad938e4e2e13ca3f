-- One byte more is given, and all are in the end.
-- Assumes nothing.
use Rattle.std.proofs.Common.{◌≡◌, ◌≤◌, ◌<◌, ◌*◌, ◌/◌, ◌++◌, ℕ, List, [], min, length, take, drop, refl, sym}
use Rattle.std.proofs.Common.{◌∙◌, arith}
use mathlib.Core.List.{append-nil}
use lib.ListN.{drop_of_length-le}
use lib.Seq.{take_all, length-take-le}
use Rattle.common.specs.Space.{overwrite}
use Rattle.common.proofs.Written.{written_more}
use Rattle.text.specs.Digits.{bytes_of}
use Rattle.text.proofs.DigitLaws.{bytes_length, bytes_at, bytes_overwritten}
use Rattle.text.proofs.read.Hex.overwrite.Goals as goal

-- the bytes fit
room : (s space : List ℕ) (most : ℕ) → length s ≤ 2 * most → min (length (bytes_of s)) most ≤ length space
    → length s / 2 ≤ length space
room s space most fits asked = omega (arith, bytes_length s, asked, fits)

pub slice_bounds-bytes-end-2 : goal.slice_bounds-bytes-end-2
slice_bounds-bytes-end-2 g c =
    sym (length-take-le _ c.args.space.now
    (room _ c.args.space.now g.row.MOST c.args.self.now.fits c.requires))

pub loop-at-preserved : goal.loop-at-preserved
loop-at-preserved g c =
    let l = c.loop-at in
    let s = c.args.self.now.digits.now in
    let front = take (length s / 2) c.args.space.now in
    let fits = room s c.args.space.now g.row.MOST c.args.self.now.fits c.requires in
    let size : length front ≡ length s / 2 = length-take-le (length s / 2) c.args.space.now fits in
    let within : l.at < length s / 2 = omega arith in
    let below : l.at < length (bytes_of s) = omega (arith, bytes_length s) in
    let room : l.at < length front = omega (arith, size) in
    rw l.invariant
    (written_more front (bytes_of s) l.at 0 _ (bytes_at s l.at within ∙ sym c.byte_value.ensures) below room)

-- what the loop leaves
left : (s space bytes : List ℕ) (at : ℕ) → length s / 2 ≤ length space
    → length (take (length s / 2) space) ≤ at
    → at ≤ length (take (length s / 2) space)
    → bytes ≡ take at (bytes_of s) ++ drop at (take (length s / 2) space)
    → bytes ++ drop (length s / 2) space ≡ overwrite (bytes_of s) space
unfolding overwrite
left s space bytes at room done within given =
    let size = length-take-le (length s / 2) space room in
    let whole : take at (bytes_of s) ≡ bytes_of s = take_all at (bytes_of s) (omega (arith, bytes_length s, size)) in
    let none : drop at (take (length s / 2) space) ≡ [] = drop_of_length-le (take (length s / 2) space) done in
    rw (given, whole, none, append-nil (bytes_of s), bytes_length s) refl

pub returns-clause-put : goal.returns-clause-put
returns-clause-put g c =
    let at = c.loop-at in
    let fits = room _ c.args.space.now g.row.MOST c.args.self.now.fits c.requires in
    (left c.args.self.now.digits.now c.args.space.now at.bytes at.at fits (omega arith) (omega arith) at.invariant)

pub returns-clause-front : goal.returns-clause-front
returns-clause-front g c =
    let at = c.loop-at in
    let fits = room _ c.args.space.now g.row.MOST c.args.self.now.fits c.requires in
    rw
    (left c.args.self.now.digits.now c.args.space.now at.bytes at.at fits (omega arith) (omega arith) at.invariant)
    (bytes_overwritten c.args.self.now.digits.now c.args.space.now)
