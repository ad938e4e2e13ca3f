-- Completed stores in any order (document 02, request 13): a store "with its GO answer, data and result", and the calls
-- that it comes to, which are chosen by what the controller waits for. No paper says how the calls are chosen.
-- Assumes nothing.
use Rattle.std.specs.Prelude.{◌≡◌, ℕ, zero, suc, ◌≤◌, Bool, true, false, ◌&&◌, List, [], ◌∷◌, eqb}
use Rattle.common.specs.Pick.{pick}
use Rattle.status.specs.Drives.{drive_of}
use Rattle.operations.specs.declared.store.Store.{Store}
use Rattle.operations.specs.Store.{names_drive, named_drive}
use Rattle.link.specs.declared.state.Phase.{Phase}
use Rattle.link.specs.declared.state.Phase.TheVariants.{Collecting, AckOffered, Sending, GoOffered, DataAwaited}
use Rattle.link.specs.declared.state.Phase.TheVariants.{ResultAwaited, EndOffered}
use Rattle.link.specs.Bytes.{ack}
use Rattle.transfers.specs.Data.{Host}
use Rattle.transfers.specs.Results.{Result}
use Rattle.controller.specs.declared.controller.Controller.{Controller}
use Rattle.controller.specs.Controller.{is_idle}
use Rattle.controller.specs.Machine.{Call, Exchange, step}
use Rattle.controller.specs.Machine.Call.{byte, broken, host_data, result, tick, hand}
use Rattle.controller.specs.Lists.{not_refused, after}
use Rattle.controller.specs.Separation.{resets, EndsAlike}
use Rattle.controller.specs.AnyOrder.{Sound, SameStart, Transaction, DoneBy, Entry, begun, after_entry}
use Rattle.controller.specs.AnyOrder.{AllDone, SameInOrder}

-- "with its GO answer, data and result", and the space that is lent to them
pub record Script : Type 0 where
  pub store : Store
  pub go : ℕ
  pub host : Host
  pub image_space : List ℕ
  pub data_check : List ℕ
  pub result : Result
  pub host_space : List ℕ
  pub result_check : List ℕ

-- what is answered in a phase; EOR and every string are accepted
unfoldable pub answer_in : Script → Phase → Call
answer_in script (GoOffered store) = byte script.go
answer_in script (DataAwaited store) = host_data script.host script.image_space script.data_check
answer_in script (ResultAwaited operation store) = result script.result script.host_space script.result_check
answer_in script (EndOffered interrupt) = byte ack
answer_in script (Sending s) = byte ack
answer_in script (Collecting s) = broken
answer_in script (AckOffered s) = broken

-- answers until the controller is idle, this many at most
unfoldable pub play : ℕ → Script → Controller → List Call
play zero script c = []
play (suc n) script c =
    let call = answer_in script c.phase in pick (is_idle c) [] (call ∷ play n script (step c call).reply.controller)

-- GO, data, result, EOR, secondary and primary: six answers at most
abbrev pub script_calls : Script → Controller → List Call
script_calls script c = hand script.store ∷ play 6 script (step c (hand script.store)).reply.controller

abbrev pub transaction_of : Script → Transaction
transaction_of script = record { drive = named_drive script.store; calls = script_calls script }

-- no call of a list is refused
unfoldable pub none_refused : List Exchange → Bool
none_refused [] = true
none_refused (x ∷ xs) = not_refused x && none_refused xs

-- the claim that six are enough, in any state, of the calls of a script with their answers: where none is refused,
-- they end idle; no paper has it
abbrev pub SixSuffice : Controller → List Exchange → Type 0
SixSuffice c xs = none_refused xs ≡ true → is_idle (after c xs) ≡ true

-- "without a reset, each naming its drive"
pub record Admitted (script : Script) : Type 0 where
  pub names : names_drive script.store ≡ true
  pub keeps : resets script.store ≡ false

-- the claim of one script: its calls are the same from all states that have the same of its drive
abbrev pub ScriptSteady : Script → Type 0
ScriptSteady script =
    (one other : Controller) → SameStart (named_drive script.store) one other
    → script_calls script one ≡ script_calls script other

-- ---- lists of scripts, with ticks between them

-- a tick, and the host's acceptance where it sends an interrupt
unfoldable pub pause : Controller → List Call
pause c = tick ∷ pick (is_idle (step c tick).reply.controller) [] (byte ack ∷ [])

-- a script, with or without a tick before it
pub record Scheduled : Type 0 where
  pub ticks : Bool
  pub script : Script

abbrev pub entry_of : Scheduled → Entry
entry_of scheduled =
    record { before = λ c. pick scheduled.ticks (pause c) []; transaction = transaction_of scheduled.script }

unfoldable pub entries_of : List Scheduled → List Entry
entries_of [] = []
entries_of (scheduled ∷ more) = entry_of scheduled ∷ entries_of more

-- each is admitted and done where it stands
unfoldable pub AllScriptsDone : Controller → List Scheduled → Type 0
AllScriptsDone c [] = Unit
AllScriptsDone c (scheduled ∷ more) =
    let at = begun c (entry_of scheduled) in
    Admitted scheduled.script
    × (DoneBy at (named_drive scheduled.script.store) (script_calls scheduled.script at)
    × AllScriptsDone (after_entry c (entry_of scheduled)) more)

-- those of one drive, in order
unfoldable pub own_scripts : ℕ → List Scheduled → List Script
own_scripts d [] = []
own_scripts d (scheduled ∷ more) =
    pick (eqb (named_drive scheduled.script.store) d) (scheduled.script ∷ own_scripts d more) (own_scripts d more)

-- the claim: of the other list nothing is asked but that it has the same scripts, in each drive's own order
abbrev pub ScriptsInAnyOrder : Controller → List Scheduled → List Scheduled → Type 0
ScriptsInAnyOrder c scripts others =
    is_idle c ≡ true
    → Sound c
    → AllScriptsDone c scripts
    → ((d : ℕ) → own_scripts d scripts ≡ own_scripts d others)
    → SameInOrder c (entries_of scripts) (entries_of others)

-- ---- the claim of lists of exchanges

-- Of `xs`, the calls of the first list with their answers, and `ys`, those of the other: every store of the other is
-- completed, the last leaves the controller idle, and "all four tracks, densities, gaps and guards end alike".
pub record CompletesAlike (c : Controller) (others : List Scheduled) (xs ys : List Exchange) : Type 0 where
  pub done : AllDone c (entries_of others)
  pub idle : is_idle (after c ys) ≡ true
  pub ends : (d : ℕ) → d ≤ 3 → EndsAlike (drive_of (after c xs).body.drives d) (drive_of (after c ys).body.drives d)

-- "every other list of the same stores that keeps each drive's own order"; "Both lists start from one idle state"
abbrev pub StoresComplete : Controller → List Scheduled → List Scheduled → List Exchange → List Exchange → Type 0
StoresComplete c scripts others xs ys =
    is_idle c ≡ true
    → Sound c
    → AllScriptsDone c scripts
    → ((d : ℕ) → own_scripts d scripts ≡ own_scripts d others)
    → CompletesAlike c others xs ys
