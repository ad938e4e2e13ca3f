-- Both hold the field that they were read from.
-- Assumes nothing.
use Rattle.std.proofs.Common.{sym, ◌∙◌}
use Rattle.text.proofs.HexLaws.{read_same}
use Rattle.text.proofs.read.tests.both_reads.Goals as goal

pub returns : goal.returns
returns c =
    let first = c.read_bytes.ensures in
    let second = c.read_bytes-2.ensures in
    read_same c.args.field _ _ (first.bytes ∙ sym second.bytes) first.lent second.lent
