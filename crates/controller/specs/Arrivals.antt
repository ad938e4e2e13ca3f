-- Completed stores in any order (document 02, request 13), wherever each comes from: by the link, as eight bytes whose
-- ACK is taken, or handed over (request 8). "every other list of the same stores that keeps each drive's own order"; a
-- store that names drive 4-7 is code 01 and may stand anywhere. Of bytes alone, so that no state need be known to be
-- undamaged but the first.
-- Assumes nothing.
use Rattle.std.specs.Prelude.{◌≡◌, ℕ, ◌≤◌, ◌<◌, Bool, true, List, [], ◌∷◌, ◌++◌}
use Rattle.std.specs.Int.Bits.{bit_xor}
use Rattle.common.specs.Pick.{pick}
use Rattle.status.specs.Drives.{drive_of}
use Rattle.operations.specs.declared.store.Store.{Store}
use Rattle.operations.specs.Store.{named_drive}
use Rattle.controller.specs.declared.controller.Controller.{Controller}
use Rattle.controller.specs.Controller.{is_idle}
use Rattle.controller.specs.Records.{Answer}
use Rattle.controller.specs.Machine.{Call, Exchange, run}
use Rattle.controller.specs.Machine.Call.{byte, taken, hand}
use Rattle.controller.specs.Lists.{after}
use Rattle.controller.specs.Separation.{EndsAlike}
use Rattle.controller.specs.JobOrder.{Completes}
use Rattle.controller.specs.AnyOrder.{after_calls, Sound, Entry, begun, after_entry}
use Rattle.controller.specs.Scripts.{Script, play, pause, Scheduled, Admitted, own_scripts, none_refused}
use Rattle.controller.specs.InRange.{InRange, StoreInRange, Bytes, ResultOfBytes}

-- ---- a store that comes by the link

-- "check", by "All bytes XOR to 0"
abbrev pub check_byte : Store → ℕ → ℕ
check_byte store unused =
    bit_xor
    (bit_xor
    (bit_xor (bit_xor (bit_xor (bit_xor 0x64 store.address) store.first) store.second) store.third)
    store.fourth)
    unused

-- "#64 (store, 8)"; "Store: lead, address, four operand bytes (high first), unused, check."; "Then taken carries it
-- out"
abbrev pub link_calls : Store → ℕ → List Call
link_calls store unused =
    byte 0x64 ∷ byte store.address ∷ byte store.first ∷ byte store.second ∷ byte store.third
    ∷ byte store.fourth ∷ byte unused ∷ byte (check_byte store unused) ∷ taken ∷ []

-- the last answer of a list
unfoldable pub last_answer : Answer → List Exchange → Answer
last_answer answer [] = answer
last_answer answer (x ∷ xs) = last_answer x.answer xs

-- "A store handed over is carried out as if its ACK had just been taken.": from an idle and undamaged state, `handed`,
-- the answer to the handing, is the answer to the taken, with the same next state
abbrev pub AsHandedOver : Controller → List Exchange → Answer → Type 0
AsHandedOver c xs handed =
    is_idle c ≡ true
    → Sound c
    → (last_answer handed xs ≡ handed) × (after c xs ≡ handed.reply.controller)

-- ---- a list of stores, each by the link or by hand

-- a script, with or without a tick before it, and its store by the link, with this unused byte, or by hand
pub record Arrival : Type 0 where
  pub ticks : Bool
  pub by_link : Bool
  pub unused : ℕ
  pub script : Script

-- the calls that bring the store
abbrev pub bringing : Arrival → List Call
bringing arrival =
    pick arrival.by_link (link_calls arrival.script.store arrival.unused) (hand arrival.script.store ∷ [])

-- all calls: GO, data, result, EOR, secondary and primary are six answers at most
abbrev pub arrival_calls : Arrival → Controller → List Call
arrival_calls arrival c = bringing arrival ++ play 6 arrival.script (after_calls c (bringing arrival))

abbrev pub arrival_of : Arrival → Entry
arrival_of arrival =
    record {
      before = λ c. pick arrival.ticks (pause c) [];
      transaction = record { drive = named_drive arrival.script.store; calls = arrival_calls arrival };
    }

unfoldable pub arrivals_of : List Arrival → List Entry
arrivals_of [] = []
arrivals_of (arrival ∷ more) = arrival_of arrival ∷ arrivals_of more

-- the scripts alone
unfoldable pub scripts_of : List Arrival → List Scheduled
scripts_of [] = []
scripts_of (arrival ∷ more) = record { ticks = arrival.ticks; script = arrival.script } ∷ scripts_of more

-- "without a reset, each naming its drive"
unfoldable pub AllAdmitted : List Arrival → Type 0
AllAdmitted [] = Unit
AllAdmitted (arrival ∷ more) = Admitted arrival.script × AllAdmitted more

-- what is handed in is bytes
pub record ScriptOfBytes (script : Script) : Type 0 where
  pub store : StoreInRange script.store
  pub go : script.go < 256
  pub host : Bytes script.host.bytes
  pub result : ResultOfBytes script.result

unfoldable pub AllOfBytes : List Arrival → Type 0
AllOfBytes [] = Unit
AllOfBytes (arrival ∷ more) = ScriptOfBytes arrival.script × AllOfBytes more

-- "completed stores": each is completed where it stands
unfoldable pub AllCompleted : Controller → List Arrival → Type 0
AllCompleted c [] = Unit
AllCompleted c (arrival ∷ more) =
    let at = begun c (arrival_of arrival) in
    Completes at (run at (arrival_calls arrival at)) × AllCompleted (after_entry c (arrival_of arrival)) more

-- ---- the claim

-- of `xs`, the calls of the first list with their answers, and `ys`, those of the other: no call of these is refused
-- either, and each store is completed
pub record CompletedAlike (c : Controller) (others : List Arrival) (xs ys : List Exchange) : Type 0 where
  pub unrefused : none_refused ys ≡ true
  pub completed : AllCompleted c others
  pub idle : is_idle (after c ys) ≡ true
  pub ends : (d : ℕ) → d ≤ 3 → EndsAlike (drive_of (after c xs).body.drives d) (drive_of (after c ys).body.drives d)

-- "every other list of the same stores that keeps each drive's own order": of the first list no call is refused, and of
-- the other nothing is asked but that each store names its drive and none resets, and that each of the four drives has
-- the same scripts, in order
abbrev pub StoresCompleteAnywhere : Controller → List Arrival → List Arrival → List Exchange → List Exchange → Type 0
StoresCompleteAnywhere c arrivals others xs ys =
    is_idle c ≡ true
    → InRange c
    → AllAdmitted arrivals
    → AllAdmitted others
    → AllOfBytes arrivals
    → none_refused xs ≡ true
    → ((d : ℕ) → d ≤ 3 → own_scripts d (scripts_of arrivals) ≡ own_scripts d (scripts_of others))
    → CompletedAlike c others xs ys
