-- Why a call is refused (document 01, Turned back): for each of the nine calls the numbers that may refuse it, each
-- with its condition, written out from the state and from what the call is handed. "Lowest number first". No definition
-- of the machine says here what a sound state, an awaited call, a listed code or a right length is. Of any call, in any
-- state.
-- Assumes nothing.
use Rattle.std.specs.Prelude.{◌≡◌, ℕ, ◌+◌, ◌*◌, ◌≤◌, Bool, true, false, not, ◌&&◌, ◌||◌, List, [], ◌∷◌, leb, ltb, eqb}
use Rattle.std.specs.Prelude.{length}
use Rattle.common.specs.Pick.{pick}
use Rattle.status.specs.declared.drives.Drive.{Drive}
use Rattle.status.specs.Drives.{Drives}
use Rattle.operations.specs.declared.operation.Operation.{Operation}
use Rattle.operations.specs.declared.operation.Operation.TheVariants.{Read, CheckBytes, SuppliedCount, Write, Erase}
use Rattle.operations.specs.declared.operation.Operation.TheVariants.{Rewind, FastForward, SkipForward, SkipReverse}
use Rattle.operations.specs.declared.operation.Operation.TheVariants.{SearchForward, SearchReverse, WriteMark}
use Rattle.link.specs.declared.state.Collected.{Collected}
use Rattle.link.specs.declared.state.Phase.{Phase}
use Rattle.link.specs.declared.state.Phase.TheVariants.{Collecting, AckOffered, Sending, GoOffered, DataAwaited}
use Rattle.link.specs.declared.state.Phase.TheVariants.{ResultAwaited, EndOffered}
use Rattle.link.specs.declared.state.Body.{Body}
use Rattle.transfers.specs.Data.{Host}
use Rattle.transfers.specs.Results.{Result}
use Rattle.controller.specs.declared.controller.Controller.{Controller}
use Rattle.controller.specs.Records.{Answer}
use Rattle.controller.specs.Machine.{Call}
use Rattle.controller.specs.Machine.Call.{byte, taken, broken, report, host_data, result, tick, reset, hand}
use Rattle.controller.specs.Ledger.{count_asked, among}
use Rattle.controller.specs.OnTape.{count_said, rounded_up}

-- ---- "Lowest number first"

-- the condition of this number is in the table and holds
unfoldable pub holds_at : ℕ → List (ℕ × Bool) → Bool
holds_at number [] = false
holds_at number ((n, condition) ∷ others) = (eqb number n && condition) || holds_at number others

-- A refusal by a table of numbers and conditions: one that is not 0 has a condition that holds, and whichever condition
-- holds, there is a refusal, and by no higher number. So it is the lowest whose condition holds, and 0 where none does.
pub record IsLowest (refusal : ℕ) (conditions : List (ℕ × Bool)) : Type 0 where
  pub holds : (refusal ≡ 0 → ⊥) → holds_at refusal conditions ≡ true
  pub lowest : (number : ℕ) → holds_at number conditions ≡ true → (1 ≤ refusal) × (refusal ≤ number)

-- ---- "1 a field out of range"

-- "(track, gap, .. 0-3; density 0-1; .."
unfoldable pub drive_in_range : Drive → Bool
drive_in_range d = leb d.track 3 && (leb d.gap 3 && leb d.density 1)

-- of all four
unfoldable pub drives_in_range : Drives → Bool
drives_in_range d = drive_in_range d.zero && (drive_in_range d.one && (drive_in_range d.two && drive_in_range d.three))

-- ".. selected drive, motion 0-3; .. code 0-31; .. secondary 0-65,535; .."
unfoldable pub body_in_range : Body → Bool
body_in_range b =
    drives_in_range b.drives
    && (leb b.selected 3
    && (leb b.outcome.result.motion 3
    && (leb b.outcome.result.code 31 && leb b.outcome.result.count 65535)))

-- ".. a string's lead #62 or #64, .."
unfoldable pub lead_known : Collected → Bool
lead_known s = eqb s.c0 0x62 || eqb s.c0 0x64

-- "#62 (load, 4 bytes) or #64 (store, 8)"
unfoldable pub string_length : Collected → ℕ
string_length s = pick (eqb s.c0 0x62) 4 8

-- ".. its bytes fewer than its length, or all once ACK is offered; .."; ".. noes so far 0-4; .."; "all else may have
-- any value)"
unfoldable pub phase_in_range : Phase → Bool
phase_in_range (Collecting s) = eqb s.length 0 || (lead_known s && ltb s.length (string_length s))
phase_in_range (AckOffered s) = lead_known s && eqb s.length (string_length s)
phase_in_range (Sending send) = leb send.noes 4
phase_in_range (GoOffered store) = true
phase_in_range (DataAwaited store) = true
phase_in_range (ResultAwaited operation store) = true
phase_in_range (EndOffered interrupt) = true

-- no field is out of range; a held operation is one of the twelve, and a held count 0-65,535, by their types
unfoldable pub in_range : Controller → Bool
in_range c = body_in_range c.body && phase_in_range c.phase

-- ---- 2 and 4: what the state waits for

-- "data or result is awaited"
unfoldable pub awaits_transfer : Phase → Bool
awaits_transfer (Collecting s) = false
awaits_transfer (AckOffered s) = false
awaits_transfer (Sending send) = false
awaits_transfer (GoOffered store) = false
awaits_transfer (DataAwaited store) = true
awaits_transfer (ResultAwaited operation store) = true
awaits_transfer (EndOffered interrupt) = false

-- "ACK offered"
unfoldable pub offers_ack : Phase → Bool
offers_ack (Collecting s) = false
offers_ack (AckOffered s) = true
offers_ack (Sending send) = false
offers_ack (GoOffered store) = false
offers_ack (DataAwaited store) = false
offers_ack (ResultAwaited operation store) = false
offers_ack (EndOffered interrupt) = false

-- "idle .. (nothing collected)"
unfoldable pub idle_phase : Phase → Bool
idle_phase (Collecting s) = eqb s.length 0
idle_phase (AckOffered s) = false
idle_phase (Sending send) = false
idle_phase (GoOffered store) = false
idle_phase (DataAwaited store) = false
idle_phase (ResultAwaited operation store) = false
idle_phase (EndOffered interrupt) = false

-- ---- lengths, by the density and the count

-- the density of the selected drive
unfoldable pub density_now : Body → ℕ
density_now b =
    pick (eqb b.selected 0) b.drives.zero.density
    (pick (eqb b.selected 1) b.drives.one.density
    (pick (eqb b.selected 2) b.drives.two.density b.drives.three.density))

-- the two count bytes, and "MFM: then c bytes. GCR: n = c/256 rounded up blockettes", of 256 bytes, and two check
-- blockettes; "c = 0 is two bytes"
unfoldable pub image_bytes : ℕ → ℕ → ℕ
image_bytes density c = pick (eqb density 0 || eqb c 0) (2 + c) (2 + 256 * (rounded_up c + 2))

-- "Marks: one for each GCR blockette"; "MFM has no marks."
unfoldable pub mark_bytes : ℕ → ℕ → ℕ
mark_bytes density c = pick (eqb density 0 || eqb c 0) 0 (rounded_up c + 2)

-- ---- what a result brings: 7, 8, 9 and 10

-- "read, skip and search forward 7 8 9 A C D E F 10 11 12 13 17", "with 0 always"
unfoldable pub codes_forward : List ℕ
codes_forward = 0x0 ∷ 0x7 ∷ 0x8 ∷ 0x9 ∷ 0xA ∷ 0xC ∷ 0xD ∷ 0xE ∷ 0xF ∷ 0x10 ∷ 0x11 ∷ 0x12 ∷ 0x13 ∷ 0x17 ∷ []

-- "reverse moves 7 9 C D E 18"
unfoldable pub codes_reverse : List ℕ
codes_reverse = 0x0 ∷ 0x7 ∷ 0x9 ∷ 0xC ∷ 0xD ∷ 0xE ∷ 0x18 ∷ []

-- "rewind, fast forward 6 7"
unfoldable pub codes_winding : List ℕ
codes_winding = 0x0 ∷ 0x6 ∷ 0x7 ∷ []

-- "write 7 8 9 B C D E F 10 11 12 13 14 17; write mark 7 8 9 B C D 17; .. erase 6 7 8 17; .. check bytes none"; with a
-- supplied count, "reported codes are 0, 7, 8, 9, A, 13, 14 and 17" (document 02, request 1)
unfoldable pub codes_reported : Operation → List ℕ
codes_reported Read = codes_forward
codes_reported CheckBytes = 0x0 ∷ []
codes_reported SuppliedCount = 0x0 ∷ 0x7 ∷ 0x8 ∷ 0x9 ∷ 0xA ∷ 0x13 ∷ 0x14 ∷ 0x17 ∷ []
codes_reported Write =
    0x0 ∷ 0x7 ∷ 0x8 ∷ 0x9 ∷ 0xB ∷ 0xC ∷ 0xD ∷ 0xE ∷ 0xF ∷ 0x10 ∷ 0x11 ∷ 0x12 ∷ 0x13 ∷ 0x14 ∷ 0x17 ∷ []
codes_reported Erase = 0x0 ∷ 0x6 ∷ 0x7 ∷ 0x8 ∷ 0x17 ∷ []
codes_reported Rewind = codes_winding
codes_reported FastForward = codes_winding
codes_reported SkipForward = codes_forward
codes_reported SkipReverse = codes_reverse
codes_reported SearchForward = codes_forward
codes_reported SearchReverse = codes_reverse
codes_reported WriteMark = 0x0 ∷ 0x7 ∷ 0x8 ∷ 0x9 ∷ 0xB ∷ 0xC ∷ 0xD ∷ 0x17 ∷ []

-- "The mark flag needs code 0 in a read, skip or search"
abbrev pub mark_needs_zero : ℕ → Bool → Bool
mark_needs_zero code mark = mark && not (eqb code 0)

-- "a search with code 0 needs it"
abbrev pub mark_iff_zero : ℕ → Bool → Bool
mark_iff_zero code mark = pick (eqb code 0) (not mark) mark

-- against this rule; with a supplied count "No mark flag is allowed."
unfoldable pub mark_wrong : Operation → ℕ → Bool → Bool
mark_wrong Read code mark = mark_needs_zero code mark
mark_wrong CheckBytes code mark = mark
mark_wrong SuppliedCount code mark = mark
mark_wrong Write code mark = mark
mark_wrong Erase code mark = mark
mark_wrong Rewind code mark = mark
mark_wrong FastForward code mark = mark
mark_wrong SkipForward code mark = mark_needs_zero code mark
mark_wrong SkipReverse code mark = mark_needs_zero code mark
mark_wrong SearchForward code mark = mark_iff_zero code mark
mark_wrong SearchReverse code mark = mark_iff_zero code mark
mark_wrong WriteMark code mark = mark

-- an image and marks that have other lengths than these
abbrev pub lengths_differ : Result → ℕ → ℕ → Bool
lengths_differ r image marks = not (eqb (length r.image) image) || not (eqb (length r.marks) marks)

-- "The image is whole for a read or forward skip with code 0, 10, 11 or 12 and no mark": by the count that it says
unfoldable pub whole_differs : ℕ → Result → Bool
whole_differs density r =
    pick (among r.code (0x0 ∷ 0x10 ∷ 0x11 ∷ 0x12 ∷ []) && not r.mark)
    (ltb (length r.image) 2
    || lengths_differ r (image_bytes density (count_said r.image)) (mark_bytes density (count_said r.image)))
    (lengths_differ r 0 0)

-- "With code 0 the image and marks have the length which the supplied count gives"; "A supplied count of 0 takes an
-- empty image" (document 02, request 1); it counts as GCR
unfoldable pub supplied_differs : ℕ → Result → Bool
supplied_differs count r =
    pick (eqb r.code 0 && not (eqb count 0)) (lengths_differ r (image_bytes 1 count) (mark_bytes 1 count))
    (lengths_differ r 0 0)

-- "two count bytes for a GCR reverse skip with code 0 and no mark"
unfoldable pub skipped_differs : ℕ → Result → Bool
skipped_differs density r =
    pick (not (eqb density 0) && (eqb r.code 0 && not r.mark)) (lengths_differ r 2 0) (lengths_differ r 0 0)

-- "else image and marks are empty."
unfoldable pub lengths_wrong : ℕ → ℕ → Result → Operation → Bool
lengths_wrong density count r Read = whole_differs density r
lengths_wrong density count r CheckBytes = lengths_differ r 0 0
lengths_wrong density count r SuppliedCount = supplied_differs count r
lengths_wrong density count r Write = lengths_differ r 0 0
lengths_wrong density count r Erase = lengths_differ r 0 0
lengths_wrong density count r Rewind = lengths_differ r 0 0
lengths_wrong density count r FastForward = lengths_differ r 0 0
lengths_wrong density count r SkipForward = whole_differs density r
lengths_wrong density count r SkipReverse = skipped_differs density r
lengths_wrong density count r SearchForward = lengths_differ r 0 0
lengths_wrong density count r SearchReverse = lengths_differ r 0 0
lengths_wrong density count r WriteMark = lengths_differ r 0 0

-- a mark that is none of "1-9 an error, 15 good"
unfoldable pub any_mark_unknown : List ℕ → Bool
any_mark_unknown [] = false
any_mark_unknown (m ∷ marks) = not ((leb 1 m && leb m 9) || eqb m 15) || any_mark_unknown marks

-- ---- the tables

-- "3 data or result not awaited"
abbrev pub not_awaited : List (ℕ × Bool)
not_awaited = (3, true) ∷ []

-- of the data call: "6 check store not 512; .. 11 the data call's .. image space .. short"; "15 a place that is neither
-- in the host bytes nor the value for none", which is "65,535 plus 256" (document 02, request 6)
unfoldable pub data_conditions : Body → Host → ℕ → ℕ → Phase → List (ℕ × Bool)
data_conditions b host space check (DataAwaited store) =
    (6, not (eqb check 512))
    ∷ (11, ltb space (image_bytes (density_now b) (count_asked store)))
    ∷ (15, not (ltb host.place (length host.bytes) || eqb host.place (65535 + 256)))
    ∷ []
data_conditions b host space check (Collecting s) = not_awaited
data_conditions b host space check (AckOffered s) = not_awaited
data_conditions b host space check (Sending send) = not_awaited
data_conditions b host space check (GoOffered store) = not_awaited
data_conditions b host space check (ResultAwaited operation store) = not_awaited
data_conditions b host space check (EndOffered interrupt) = not_awaited

-- of the result: "6 check store not 512; 7 code not listed; 8 mark flag against its rule, or late flags above 3; 9 ..
-- wrong length of image or marks; 10 mark value"; "7 to 10 look at the result as handed in."
unfoldable pub result_conditions : Body → Result → ℕ → Phase → List (ℕ × Bool)
result_conditions b r check (ResultAwaited operation store) =
    (6, not (eqb check 512))
    ∷ (7, not (among r.code (codes_reported operation)))
    ∷ (8, mark_wrong operation r.code r.mark || leb 4 r.late)
    ∷ (9, lengths_wrong (density_now b) (count_asked store) r operation)
    ∷ (10, any_mark_unknown r.marks)
    ∷ []
result_conditions b r check (Collecting s) = not_awaited
result_conditions b r check (AckOffered s) = not_awaited
result_conditions b r check (Sending send) = not_awaited
result_conditions b r check (GoOffered store) = not_awaited
result_conditions b r check (DataAwaited store) = not_awaited
result_conditions b r check (EndOffered interrupt) = not_awaited

-- What refuses a call in a sound state: "2 link call while data or result is awaited, or taken with no ACK offered; 3
-- data or result not awaited; 4 tick when not idle. From the input: 5 drive above 3; .."; "A handing when not idle is
-- refused as 4" (document 02, request 8)
unfoldable pub own_conditions : Controller → Call → List (ℕ × Bool)
own_conditions c (byte b) = (2, awaits_transfer c.phase) ∷ []
own_conditions c taken = (2, not (offers_ack c.phase)) ∷ []
own_conditions c broken = (2, awaits_transfer c.phase) ∷ []
own_conditions c (report drive r) = (5, leb 4 drive) ∷ []
own_conditions c (host_data host space check) =
    data_conditions c.body host (length space) (length check) c.phase
own_conditions c (result r space check) = result_conditions c.body r (length check) c.phase
own_conditions c tick = (4, not (idle_phase c.phase)) ∷ []
own_conditions c reset = []
own_conditions c (hand store) = (4, not (idle_phase c.phase)) ∷ []

-- and of any: "1 a field out of range"
unfoldable pub conditions_of : Controller → Call → List (ℕ × Bool)
conditions_of c call = (1, not (in_range c)) ∷ own_conditions c call

-- ---- the claim, of an answer

abbrev pub RefusedByLowest : Controller → Call → Answer → Type 0
RefusedByLowest c call answer = IsLowest answer.reply.refusal (conditions_of c call)
