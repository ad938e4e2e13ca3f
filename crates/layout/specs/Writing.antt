-- The bytes of a state, part behind part in the order of `Places`.
-- Assumes nothing.
use Rattle.std.specs.Prelude.{ℕ, ◌+◌, ◌/◌, ◌%◌, List, [], ◌∷◌, ◌++◌, length, get_or, take, drop}
use mir.Val.{bool_byte}
use Rattle.status.specs.declared.drives.Drive.{Drive}
use Rattle.operations.specs.declared.store.Store.{Store}
use Rattle.operations.specs.Operation.{number_of}
use Rattle.link.specs.declared.state.Collected.{Collected}
use Rattle.link.specs.declared.state.Kind.{Kind}
use Rattle.link.specs.declared.state.Kind.TheVariants.{Load, Secondary, Completion, Change}
use Rattle.link.specs.declared.state.Phase.{Phase}
use Rattle.link.specs.declared.state.Phase.TheVariants.{Collecting, AckOffered, Sending, GoOffered, DataAwaited}
use Rattle.link.specs.declared.state.Phase.TheVariants.{ResultAwaited, EndOffered}
use Rattle.link.specs.declared.state.Body.{Body}
use Rattle.controller.specs.declared.controller.Controller.{Controller}
use Rattle.queues.specs.declared.queue.Queue.{Queue}
use Rattle.queues.specs.Queue.{no_store}
use Rattle.dispatcher.specs.declared.dispatcher.Dispatcher.{Dispatcher}
use Rattle.layout.specs.Places.{layout, collecting, ack_offered, sending, go_offered, data_awaited, result_awaited}
use Rattle.layout.specs.Places.{end_offered}
use Rattle.layout.specs.Reading.{queues_of}

-- a space after bytes are put at a place of it
unfoldable pub placed : List ℕ → ℕ → List ℕ → List ℕ
placed bytes place space = take place space ++ (bytes ++ drop (place + length bytes) space)

-- ---- the layout's number and the body

abbrev pub drive_bytes : Drive → List ℕ
drive_bytes d = d.report ∷ d.reviewed ∷ d.track ∷ d.density ∷ d.gap ∷ bool_byte d.guard ∷ []

unfoldable pub head_bytes : Body → List ℕ
head_bytes b =
    let o = b.outcome in
    (layout ∷ [])
    ++ drive_bytes b.drives.zero
    ++ drive_bytes b.drives.one
    ++ drive_bytes b.drives.two
    ++ drive_bytes b.drives.three
    ++ (b.selected ∷ bool_byte b.changed ∷ bool_byte b.enable ∷ [])
    ++ (bool_byte o.retry ∷ bool_byte o.mark ∷ o.result.code ∷ o.result.motion ∷ [])
    ++ (o.result.count / 256 % 256 ∷ o.result.count % 256 ∷ [])
    ++ (bool_byte o.parity ∷ bool_byte o.overflow ∷ bool_byte o.underflow ∷ bool_byte o.wdl ∷ [])
    ++ (bool_byte o.rdl ∷ bool_byte o.supplied ∷ bool_byte o.counted ∷ [])
    ++ (b.tertiary.b0 ∷ b.tertiary.b1 ∷ b.tertiary.b2 ∷ b.tertiary.b3 ∷ [])
    ++ (b.quintary.b0 ∷ b.quintary.b1 ∷ b.quintary.b2 ∷ b.quintary.b3 ∷ [])

-- ---- the phase: its number, what it holds, and zeros

abbrev pub collected_bytes : ℕ → Collected → List ℕ
collected_bytes number s =
    number ∷ s.length ∷ s.c0 ∷ s.c1 ∷ s.c2 ∷ s.c3 ∷ s.c4 ∷ s.c5 ∷ s.c6 ∷ s.c7 ∷ []

abbrev pub held_bytes : ℕ → Store → List ℕ
held_bytes number store =
    number ∷ store.address ∷ store.first ∷ store.second ∷ store.third ∷ store.fourth ∷ 0 ∷ 0 ∷ 0 ∷ 0 ∷ []

unfoldable pub kind_number : Kind → ℕ
kind_number Load = 0
kind_number Secondary = 1
kind_number Completion = 2
kind_number Change = 3

unfoldable pub phase_bytes : Phase → List ℕ
phase_bytes (Collecting s) = collected_bytes collecting s
phase_bytes (AckOffered s) = collected_bytes ack_offered s
phase_bytes (Sending send) =
    let f = send.bytes in
    sending ∷ kind_number send.kind ∷ f.b0 ∷ f.b1 ∷ f.b2 ∷ f.b3 ∷ f.b4 ∷ f.b5 ∷ send.noes ∷ 0 ∷ []
phase_bytes (GoOffered store) = held_bytes go_offered store
phase_bytes (DataAwaited store) = held_bytes data_awaited store
phase_bytes (ResultAwaited operation store) =
    result_awaited ∷ number_of operation ∷ store.address ∷ store.first ∷ store.second ∷ store.third ∷ store.fourth
    ∷ 0 ∷ 0 ∷ 0 ∷ []
phase_bytes (EndOffered interrupt) = end_offered ∷ bool_byte interrupt ∷ 0 ∷ 0 ∷ 0 ∷ 0 ∷ 0 ∷ 0 ∷ 0 ∷ 0 ∷ []

-- ---- a queue: its length, then its eight places, those behind the length too

abbrev pub store_bytes : Queue → ℕ → List ℕ
store_bytes queue place =
    let s = get_or queue.stores place no_store in
    s.address ∷ s.first ∷ s.second ∷ s.third ∷ s.fourth ∷ []

unfoldable pub queue_bytes : Queue → List ℕ
queue_bytes q =
    (q.length ∷ [])
    ++ store_bytes q 0
    ++ store_bytes q 1
    ++ store_bytes q 2
    ++ store_bytes q 3
    ++ store_bytes q 4
    ++ store_bytes q 5
    ++ store_bytes q 6
    ++ store_bytes q 7

-- ---- the whole

unfoldable pub state_bytes : Dispatcher → List ℕ
state_bytes d =
    head_bytes d.controller.body
    ++ phase_bytes d.controller.phase
    ++ queue_bytes d.queues.jobs.zero
    ++ queue_bytes d.queues.jobs.one
    ++ queue_bytes d.queues.jobs.two
    ++ queue_bytes d.queues.jobs.three
    ++ (d.queues.last ∷ [])

-- the same of a controller beside the queues that stand in these bytes
unfoldable pub controller_bytes : Controller → List ℕ → List ℕ
controller_bytes c s = state_bytes (record { controller = c; queues = queues_of s })
