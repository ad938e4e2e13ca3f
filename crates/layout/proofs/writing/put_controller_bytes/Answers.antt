-- The head and the phase stand one behind the other, and the queues stay.
-- Assumes nothing.
use Rattle.std.proofs.Common.{[], arith, ◌∙◌}
use Rattle.layout.proofs.PlacedLaws.{nothing_put, put_behind}
use Rattle.layout.proofs.Lengths.{head_length_lem, phase_length_lem}
use Rattle.layout.proofs.QueueLaws.{queues_stay}
use Rattle.layout.proofs.writing.put_controller_bytes.Goals as goal

pub returns : goal.returns
returns c =
    let space = c.args.space.now in
    let head =
    put_behind space space _ [] _ _ 0 49 (nothing_put space) c.put_placed.ensures c.head_bytes.ensures
    (head_length_lem _)
    in
    let front =
    put_behind space _ _ _ _ _ 49 10 head c.put_placed-2.ensures c.phase_bytes.ensures (phase_length_lem _)
    in
    front.is ∙ queues_stay c.args.c.now space (omega arith)
