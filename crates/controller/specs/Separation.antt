-- Separation of the drives: "Demand 3 is one claim about both whole lists, not one for each call." The lists are of
-- calls with their answers: refused calls stay in, and lent space has any length and holds anything. "They start from
-- Fresh; each call gets the state that the last one handed back".
-- Assumes nothing.
use Rattle.std.specs.Prelude.{◌≡◌, ℕ, ◌≤◌, ◌/◌, ◌%◌, Bool, true, false, not, ◌&&◌, List, [], ◌∷◌, ◌++◌, leb, eqb}
use Rattle.std.specs.Prelude.{length, take}
use Rattle.common.specs.Pick.{pick}
use Rattle.operations.specs.declared.decode.Decoded.{Decoded}
use Rattle.operations.specs.declared.decode.Decoded.TheVariants.{Reset, Code, Track, Enable, Guard, Density, Operate}
use Rattle.status.specs.declared.drives.Drive.{Drive}
use Rattle.link.specs.declared.frames.Frame.{Frame}
use Rattle.status.specs.Drives.{drive_of}
use Rattle.operations.specs.declared.store.Store.{Store}
use Rattle.link.specs.declared.state.Phase.{Phase}
use Rattle.controller.specs.declared.controller.Controller.{Controller}
use Rattle.link.specs.declared.state.Action.{Action}
use Rattle.link.specs.declared.state.Action.TheVariants.{Nothing, Byte, Text, Order}
use Rattle.operations.specs.Store.{names_drive, named_drive, asked_for}
use Rattle.link.specs.Bytes.{ack}
use Rattle.link.specs.State.{when_in_hand}
use Rattle.controller.specs.Controller.{fresh}
use Rattle.transfers.specs.Data.{Host}
use Rattle.transfers.specs.Results.{Result}
use Rattle.controller.specs.Machine.{Call, Exchange, when_lent, when_report_or_reset}
use Rattle.controller.specs.Machine.Call.{byte, taken, broken, report, host_data, result, tick, reset, hand}
use Rattle.controller.specs.Lists.{not_refused, holds_store, store_brought, carries_out}
use Rattle.controller.specs.Lists.{last_store, no_store, asks_read, after}

-- ---- the history of a drive

-- a store that names this drive, "bit 4 names a drive, 5-7 its number"
unfoldable pub is_of : ℕ → Store → Bool
is_of d store = names_drive store && eqb (named_drive store) d

-- "its history ..: its reports not refused; stores carried out that name it (operation and operand); of these each GO
-- answer (yes or no), data call (host bytes) and result (code, mark flag, late flags, image, marks, length of host
-- space)"; "A drive's history includes the place" (document 02, request 6)
pub data Event : Type 0 where
  report_came : ℕ → Event
  store_came : ℕ → ℕ → ℕ → ℕ → ℕ → Event
  go_answered : Bool → Event
  data_came : Host → Event
  result_came : Result → ℕ → Event

-- "operation and operand": the asking of an interrupt is left out
unfoldable pub store_event : Store → Event
store_event store = store_came (store.address / 16 % 8) store.first store.second store.third store.fourth

-- where a byte or a broken link answers GO
unfoldable pub awaits_go : Phase → Bool
awaits_go = when_in_hand (λ store. true) (λ store. false) (λ operation store. false) false

-- what a call not refused adds to the history of drive d; `store` is the store that it belongs to
unfoldable pub event_of : ℕ → Store → Controller → Call → List Event
event_of d store c (report drive r) = pick (eqb drive d) (report_came r ∷ []) []
event_of d store c taken = pick (holds_store c && is_of d store) (store_event store ∷ []) []
event_of d store c (byte b) = pick (awaits_go c.phase && is_of d store) (go_answered (eqb b ack) ∷ []) []
event_of d store c broken = pick (awaits_go c.phase && is_of d store) (go_answered false ∷ []) []
event_of d store c (host_data host space check) = pick (is_of d store) (data_came host ∷ []) []
event_of d store c (result r space check) = pick (is_of d store) (result_came r (length space) ∷ []) []
event_of d store c (hand given) = pick (is_of d store) (store_event store ∷ []) []
event_of d store c tick = []
event_of d store c reset = []

-- a refused call is in no history
unfoldable pub events_of : ℕ → Store → Controller → Exchange → List Event
events_of d store c x = pick (not_refused x) (event_of d store c x.call) []

-- "in order"
unfoldable pub history_from : ℕ → Store → Controller → List Exchange → List Event
history_from d last c [] = []
history_from d last c (x ∷ xs) =
    events_of d (last_store last c x) c x ++ history_from d (last_store last c x) x.answer.reply.controller xs

-- the history of a drive in a list from Fresh
abbrev pub history : ℕ → List Exchange → List Event
history d = history_from d no_store fresh

-- ---- what a drive was given, and what it delivered

-- "Its orders ..; its write images and read bytes"
pub data Output : Type 0 where
  motion : Frame → Output
  image : List ℕ → Output
  delivery : List ℕ → Output

-- "Its orders bear its number"
unfoldable pub orders_for : ℕ → Action → List Output
orders_for d (Order order) = pick (eqb order.b1 d) (motion order ∷ []) []
orders_for d Nothing = []
orders_for d (Byte b) = []
orders_for d (Text s) = []

-- the bytes that a call gives in the space it is lent
unfoldable pub bytes_given : Exchange → List ℕ
bytes_given x = take x.answer.bytes x.answer.space

-- "its write images and read bytes come from the data calls and results of its stores"; "Check bytes .. demand 3 leaves
-- their delivery out": of the operations that deliver, reads alone, those with a supplied count too: "separation of the
-- drives covers this store too"
unfoldable pub transfer_of : ℕ → Store → List ℕ → Call → List Output
transfer_of d store bytes =
    when_lent (λ host space check. pick (is_of d store) (image bytes ∷ []) [])
    (λ r space check. pick (is_of d store && asks_read (asked_for store)) (delivery bytes ∷ []) []) []

-- what a call with its answer gives the drive; a refused call transfers nothing
unfoldable pub outputs_of : ℕ → Store → Exchange → List Output
outputs_of d store x =
    pick (not_refused x) (transfer_of d store (bytes_given x) x.call) [] ++ orders_for d x.answer.reply.action

-- "in order"
unfoldable pub outputs_from : ℕ → Store → Controller → List Exchange → List Output
outputs_from d last c [] = []
outputs_from d last c (x ∷ xs) =
    outputs_of d (last_store last c x) x ++ outputs_from d (last_store last c x) x.answer.reply.controller xs

-- all that a drive was given and delivered in a list from Fresh
abbrev pub outputs : ℕ → List Exchange → List Output
outputs d = outputs_from d no_store fresh

-- ---- the condition on a list

-- a store that resets the controller; one that names drive 4-7 is code 01 and resets nothing
unfoldable pub asks_reset : Decoded → Bool
asks_reset Reset = true
asks_reset (Code code) = false
asks_reset (Track track) = false
asks_reset (Enable enable) = false
asks_reset (Guard guard) = false
asks_reset (Density density) = false
asks_reset (Operate operation) = false

-- of a store: it is carried out as a reset
unfoldable pub resets : Store → Bool
resets store = not (leb 4 (named_drive store)) && asks_reset (asked_for store)

-- the call reset
unfoldable pub is_reset : Call → Bool
is_reset = when_report_or_reset (λ drive r. false) true false

-- every store carried out names its drive, and neither a store nor a call resets the controller
unfoldable pub admits : Controller → Exchange → Bool
admits c x =
    pick (carries_out c x) (names_drive (store_brought c x.call) && not (resets (store_brought c x.call)))
    (not (not_refused x && is_reset x.call))

-- of every call of a list
unfoldable pub admitted_from : Controller → List Exchange → Bool
admitted_from c [] = true
admitted_from c (x ∷ xs) = admits c x && admitted_from x.answer.reply.controller xs

-- from Fresh
abbrev pub admitted : List Exchange → Bool
admitted = admitted_from fresh

-- ---- the claim

-- the drive as a list leaves it
abbrev pub left : ℕ → List Exchange → Drive
left d xs = drive_of (after fresh xs).body.drives d

-- a drive ends with the same track, density and gap, and "with the same guard as well" (document 02, request 7)
pub record EndsAlike (one other : Drive) : Type 0 where
  pub track : one.track ≡ other.track
  pub density : one.density ≡ other.density
  pub gap : one.gap ≡ other.gap
  pub guard : one.guard ≡ other.guard

-- the drive ends alike, was given the same motion orders and write images, and delivered the same bytes, all in the
-- same order and byte for byte
pub record Agree (d : ℕ) (xs ys : List Exchange) : Type 0 where
  pub ends : EndsAlike (left d xs) (left d ys)
  pub given : outputs d xs ≡ outputs d ys

-- "Two lists are alike for a drive if its history is the same in both": then it ends alike and was given alike
abbrev pub Separate : List Exchange → List Exchange → Type 0
Separate xs ys = (d : ℕ) → d ≤ 3 → admitted xs ≡ true → admitted ys ≡ true → history d xs ≡ history d ys → Agree d xs ys
