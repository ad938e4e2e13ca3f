-- `records::restore::mend_at` meets its contract: the part that is lent is the blockette, as far as the bytes go.
-- Assumes nothing.
use mathlib.Core.Path.{◌≡◌, ap, ◌∙◌}
use Prim.Native.Nat.{ℕ, ◌+◌, ◌-◌, ◌*◌, ◌≤◌, min}
use mathlib.Core.List.{List}
use lib.ListN.{length, take, drop, length-take, length-drop}
use borrow.Author.Tests.{lt-ltb}
use borrow.Rule.Slice.PartMut.{put_mid}
use native.Mathlib.Omega.{arith}
use Rattle.common.specs.Pick.{pick}
use Rattle.blockettes.specs.Blockettes.{others_of}
use Rattle.blockettes.proofs.Others.{others_length}
use Rattle.common.proofs.Parts.{part_written}
use Rattle.records.proofs.ImageLaws.{blockettes_tight}
use Rattle.records.specs.Restore.{written_at, mend_at}
use Rattle.records.proofs.restore.mend_at.Goals as goal

pub returns-then-place-n : goal.returns-then-place-n
unfolding mend_at written_at pick
returns-then-place-n c =
    let bytes = c.args.bytes.now in
    let place = c.args.place in
    let start = 256 * place in
    let end = c.min-end.result in
    let n = c.blockette_count-n.result in
    let new = others_of c.args.blockettes.now (n + 2) place in
    let so_many : length new ≡ 256 = others_length c.args.blockettes.now (n + 2) place in
    let is_end : end ≡ min (length bytes) (start + length new) = omega (arith, c.min-end.ensures) in
    let room : start
    ≤ length bytes = omega (arith, blockettes_tight (length bytes), c.blockette_count-n.ensures.counted) in
    let part : length (take (end - start) (drop start bytes))
    ≡ end - start = simp (length-take, length-drop) (omega arith) in
    rw (← c.blockette_count-n.ensures.counted)
    (simp (lt-ltb _ _ c.if-place-n.true)
    (ap (λ (x : List ℕ). put_mid start (end - start) bytes x) (c.put_others.ensures ∙ ap (λ (k : ℕ). take k new) part)
    ∙ part_written bytes new start end is_end room))
