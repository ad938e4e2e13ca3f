-- Every field of the state in its range, and every byte that comes or goes a byte: what a state can be that was only
-- ever handed to the calls. Document 01, Turned back, has the ranges ("1 a field out of range (track, gap, selected
-- drive, motion 0-3; density 0-1; code 0-31; noes so far 0-4; secondary 0-65,535; ..; a string's lead #62 or #64, its
-- bytes fewer than its length, or all once ACK is offered; all else may have any value)"); that a byte is below 256 no
-- paper says. Numbers alone: no definition of the machine is cited for a range.
-- Assumes nothing.
use Rattle.std.specs.Prelude.{◌≡◌, ℕ, ◌≤◌, ◌<◌, List, [], ◌∷◌, length, get_or}
use Rattle.status.specs.declared.drives.Drive.{Drive}
use Rattle.status.specs.Drives.{Drives}
use Rattle.status.specs.declared.words.ResultRecord.{ResultRecord}
use Rattle.status.specs.declared.words.Word.{Word}
use Rattle.operations.specs.declared.store.Store.{Store}
use Rattle.link.specs.declared.frames.Frame.{Frame}
use Rattle.link.specs.declared.state.Collected.{Collected}
use Rattle.link.specs.declared.state.Phase.{Phase}
use Rattle.link.specs.declared.state.Phase.TheVariants.{Collecting, AckOffered, Sending, GoOffered, DataAwaited}
use Rattle.link.specs.declared.state.Phase.TheVariants.{ResultAwaited, EndOffered}
use Rattle.link.specs.declared.state.Send.{Send}
use Rattle.link.specs.declared.state.Body.{Body}
use Rattle.link.specs.declared.state.Action.{Action}
use Rattle.link.specs.declared.state.Action.TheVariants.{Nothing, Byte, Text, Order}
use Rattle.link.specs.State.{Handed}
use Rattle.std.specs.Prelude.{None, Some}
use Rattle.transfers.specs.Results.{Result}
use Rattle.controller.specs.declared.controller.Controller.{Controller}
use Rattle.controller.specs.Records.{Answer}
use Rattle.controller.specs.Machine.{Call, Exchange}
use Rattle.controller.specs.Machine.Call.{byte, taken, broken, report, host_data, result, tick, reset, hand}
use Rattle.controller.specs.Refused.{lent_space}
use Rattle.controller.specs.Lists.{after}

-- ---- the state

-- "track, gap .. 0-3; density 0-1", and two bytes
pub record DriveInRange (d : Drive) : Type 0 where
  pub report : d.report < 256
  pub reviewed : d.reviewed < 256
  pub track : d.track ≤ 3
  pub density : d.density ≤ 1
  pub gap : d.gap ≤ 3

pub record DrivesInRange (d : Drives) : Type 0 where
  pub zero : DriveInRange d.zero
  pub one : DriveInRange d.one
  pub two : DriveInRange d.two
  pub three : DriveInRange d.three

-- "motion 0-3; .. code 0-31; .. secondary 0-65,535"
pub record ResultInRange (r : ResultRecord) : Type 0 where
  pub code : r.code ≤ 31
  pub motion : r.motion ≤ 3
  pub count : r.count ≤ 65535

-- a status word: four bytes
pub record WordInRange (w : Word) : Type 0 where
  pub b0 : w.b0 < 256
  pub b1 : w.b1 < 256
  pub b2 : w.b2 < 256
  pub b3 : w.b3 < 256

-- "selected drive .. 0-3", and what else the body has
pub record BodyInRange (b : Body) : Type 0 where
  pub drives : DrivesInRange b.drives
  pub selected : b.selected ≤ 3
  pub result : ResultInRange b.outcome.result
  pub tertiary : WordInRange b.tertiary
  pub quintary : WordInRange b.quintary

-- a store: its address and its operand, five bytes
pub record StoreInRange (s : Store) : Type 0 where
  pub address : s.address < 256
  pub first : s.first < 256
  pub second : s.second < 256
  pub third : s.third < 256
  pub fourth : s.fourth < 256

-- a string or an order: six bytes
pub record FrameInRange (f : Frame) : Type 0 where
  pub b0 : f.b0 < 256
  pub b1 : f.b1 < 256
  pub b2 : f.b2 < 256
  pub b3 : f.b3 < 256
  pub b4 : f.b4 < 256
  pub b5 : f.b5 < 256

-- a string from the host: eight bytes, those that have not come yet included
pub record CollectedInRange (s : Collected) : Type 0 where
  pub length : s.length ≤ 8
  pub c0 : s.c0 < 256
  pub c1 : s.c1 < 256
  pub c2 : s.c2 < 256
  pub c3 : s.c3 < 256
  pub c4 : s.c4 < 256
  pub c5 : s.c5 < 256
  pub c6 : s.c6 < 256
  pub c7 : s.c7 < 256

-- "a first byte #62 (load, 4 bytes) or #64 (store, 8) starts a string."; "a string's lead #62 or #64, its bytes fewer
-- than its length": of no byte, of fewer than 4 or of fewer than 8
pub data IsPart (s : Collected) : Type 0 where
  nothing : s.length ≡ 0 → IsPart s
  of_load : s.c0 ≡ 0x62 → s.length < 4 → IsPart s
  of_store : s.c0 ≡ 0x64 → s.length < 8 → IsPart s

-- ".., or all once ACK is offered"
pub data IsWhole (s : Collected) : Type 0 where
  is_load : s.c0 ≡ 0x62 → s.length ≡ 4 → IsWhole s
  is_store : s.c0 ≡ 0x64 → s.length ≡ 8 → IsWhole s

pub record PartInRange (s : Collected) : Type 0 where
  pub bytes : CollectedInRange s
  pub part : IsPart s

pub record WholeInRange (s : Collected) : Type 0 where
  pub bytes : CollectedInRange s
  pub whole : IsWhole s

-- "noes so far 0-4"
pub record SendInRange (s : Send) : Type 0 where
  pub bytes : FrameInRange s.bytes
  pub noes : s.noes ≤ 4

-- what is held in the phase
unfoldable pub PhaseInRange : Phase → Type 0
PhaseInRange (Collecting s) = PartInRange s
PhaseInRange (AckOffered s) = WholeInRange s
PhaseInRange (Sending send) = SendInRange send
PhaseInRange (GoOffered store) = StoreInRange store
PhaseInRange (DataAwaited store) = StoreInRange store
PhaseInRange (ResultAwaited operation store) = StoreInRange store
PhaseInRange (EndOffered interrupt) = Unit

pub record InRange (c : Controller) : Type 0 where
  pub body : BodyInRange c.body
  pub phase : PhaseInRange c.phase

-- ---- what comes in

-- every element is a byte
abbrev pub Bytes : List ℕ → Type 0
Bytes bytes = (i : ℕ) → i < length bytes → get_or bytes i 0 < 256

-- a result's code and late flags, its image and its marks
pub record ResultOfBytes (r : Result) : Type 0 where
  pub code : r.code < 256
  pub late : r.late < 256
  pub image : Bytes r.image
  pub marks : Bytes r.marks

-- the inputs of a call are bytes; a drive's number, a place, and what lent space holds may be anything
unfoldable pub BytesIn : Call → Type 0
BytesIn (byte b) = b < 256
BytesIn taken = Unit
BytesIn broken = Unit
BytesIn (report drive r) = r < 256
BytesIn (host_data host space check) = Bytes host.bytes
BytesIn (result r space check) = ResultOfBytes r
BytesIn tick = Unit
BytesIn reset = Unit
BytesIn (hand store) = StoreInRange store

-- ---- what goes out

-- "one action or none: a byte, a string, a motion order"
unfoldable pub ActionInRange : Action → Type 0
ActionInRange Nothing = Unit
ActionInRange (Byte b) = b < 256
ActionInRange (Text string) = FrameInRange string
ActionInRange (Order order) = FrameInRange order

-- the record that is handed back (document 02, request 4)
unfoldable pub HandedInRange : Handed → Type 0
HandedInRange None = Unit
HandedInRange (Some final) = ResultInRange final

-- of an answer; the refusals of these calls are numbered 0, done, to 15; the bytes that it gives fit into the space
-- that was lent, and are at most 66,050: the longest image, of 65,535 bytes
pub record AnswerInRange (call : Call) (answer : Answer) : Type 0 where
  pub state : InRange answer.reply.controller
  pub action : ActionInRange answer.reply.action
  pub handed : HandedInRange answer.reply.handed
  pub refusal : answer.reply.refusal ≤ 15
  pub undamaged : answer.reply.refusal ≡ 1 → ⊥
  pub bytes : answer.bytes ≤ length (lent_space call)
  pub most : answer.bytes ≤ 66050

-- ---- the claims

-- of one call
abbrev pub StaysInRange : Controller → Call → Answer → Type 0
StaysInRange c call answer = InRange c → BytesIn call → AnswerInRange call answer

-- of a list of calls
unfoldable pub AllBytesIn : List Exchange → Type 0
AllBytesIn [] = Unit
AllBytesIn (x ∷ xs) = BytesIn x.call × AllBytesIn xs

unfoldable pub AllAnswersInRange : List Exchange → Type 0
AllAnswersInRange [] = Unit
AllAnswersInRange (x ∷ xs) = AnswerInRange x.call x.answer × AllAnswersInRange xs

-- every answer is in range, none is refused with 1, "a field out of range", and the state that the list leaves is in
-- range
pub record ListInRange (c : Controller) (xs : List Exchange) : Type 0 where
  pub each : AllAnswersInRange xs
  pub ends : InRange (after c xs)

abbrev pub ListStaysInRange : Controller → List Exchange → Type 0
ListStaysInRange c xs = InRange c → AllBytesIn xs → ListInRange c xs
