-- The queues stand behind the controller, one behind the other, and then the job served last fills the space.
-- Assumes nothing.
use Rattle.std.proofs.Common.{refl, arith}
use Rattle.layout.specs.Writing.{state_bytes}
use Rattle.layout.proofs.PlacedLaws.{put_behind, all_put}
use Rattle.layout.proofs.Lengths.{queue_length_lem}
use Rattle.layout.proofs.QueueLaws.{controller_put}
use Rattle.layout.proofs.writing.put_state_bytes.Goals as goal

pub returns : goal.returns
unfolding state_bytes
returns c =
    let space = c.args.space.now in
    let front = controller_put _ space _ (omega arith) c.put_controller_bytes.ensures in
    let zero =
    put_behind space _ _ _ _ _ 59 41 front c.put_placed.ensures c.queue_bytes.ensures (queue_length_lem _)
    in
    let one =
    put_behind space _ _ _ _ _ 100 41 zero c.put_placed-2.ensures c.queue_bytes-2.ensures (queue_length_lem _)
    in
    let two =
    put_behind space _ _ _ _ _ 141 41 one c.put_placed-3.ensures c.queue_bytes-3.ensures (queue_length_lem _)
    in
    let three =
    put_behind space _ _ _ _ _ 182 41 two c.put_placed-4.ensures c.queue_bytes-4.ensures (queue_length_lem _)
    in
    let last = put_behind space _ _ _ _ _ 223 1 three c.put_placed-5.ensures refl refl in
    all_put space _ _ 224 last (omega arith)
