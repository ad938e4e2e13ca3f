-- Job order among drives (document 02, request 13), where only one of the two lists is known to be completed: "For
-- every list of completed stores without a reset, each naming its drive, with its GO answer, data and result, and every
-- other list of the same stores that keeps each drive's own order: all four tracks, densities, gaps and guards end
-- alike. Both lists start from one idle state, and reports stay fixed throughout." That the other list is completed too
-- is shown here, and not assumed; no paper has it.
-- Assumes nothing.
use Rattle.std.specs.Prelude.{◌≡◌, ℕ, ◌≤◌, Bool, true, false, ◌&&◌, List, [], ◌∷◌, ◌++◌, eqb}
use Rattle.common.specs.Pick.{pick}
use Rattle.status.specs.declared.drives.Drive.{Drive}
use Rattle.status.specs.Drives.{drive_of}
use Rattle.operations.specs.Store.{named_drive}
use Rattle.link.specs.Damaged.{is_sound}
use Rattle.controller.specs.declared.controller.Controller.{Controller}
use Rattle.controller.specs.Controller.{is_idle}
use Rattle.controller.specs.Machine.{Call, run}
use Rattle.controller.specs.Machine.Call.{byte, taken, broken, report, host_data, result, tick, reset, hand}
use Rattle.controller.specs.Lists.{after}
use Rattle.controller.specs.Separation.{admitted_from, EndsAlike}
use Rattle.controller.specs.JobOrder.{stores_from, first_of, reports_fixed, Completes}

-- a call that may stand in a transaction: no tick, which may send an interrupt in one order alone; no report, "reports
-- stay fixed throughout"; and no reset
unfoldable pub is_own : Call → Bool
is_own (byte b) = true
is_own taken = true
is_own broken = true
is_own (host_data host space check) = true
is_own (result r space check) = true
is_own (hand store) = true
is_own (report drive r) = false
is_own tick = false
is_own reset = false

unfoldable pub all_own : List Call → Bool
all_own [] = true
all_own (call ∷ calls) = is_own call && all_own calls

-- the state after a list of calls
abbrev pub after_calls : Controller → List Call → Controller
after_calls c calls = after c (run c calls)

abbrev pub Sound : Controller → Type 0
Sound c = is_sound c.body c.phase ≡ true

-- "tracks, densities, gaps and guards", and the report: what a store is carried out on
pub record SameDrive (one other : Drive) : Type 0 where
  pub report : one.report ≡ other.report
  pub track : one.track ≡ other.track
  pub density : one.density ≡ other.density
  pub gap : one.gap ≡ other.gap
  pub guard : one.guard ≡ other.guard

-- idle and undamaged states with the same of one drive; of a number above 3 there is no drive
pub record SameStart (d : ℕ) (c other : Controller) : Type 0 where
  pub idle : is_idle c ≡ true
  pub idle_too : is_idle other ≡ true
  pub sound : Sound c
  pub sound_too : Sound other
  pub same : d ≤ 3 → SameDrive (drive_of c.body.drives d) (drive_of other.body.drives d)

-- the drive, 0-7, that a store names, and the calls that carry it out: given, or chosen by the state that it begins in
pub record Transaction : Type 0 where
  pub drive : ℕ
  pub calls : Controller → List Call

abbrev pub after_transaction : Controller → Transaction → Controller
after_transaction c transaction = after_calls c (transaction.calls c)

-- calls that carry out one store, of this drive, and end idle and undamaged
pub record DoneBy (c : Controller) (drive : ℕ) (calls : List Call) : Type 0 where
  pub own : all_own calls ≡ true
  pub completes : Completes c (run c calls)
  pub names : named_drive (first_of (stores_from c (run c calls))) ≡ drive
  pub sound : Sound (after_calls c calls)

-- a transaction's; what they are depends on its drive alone
pub record Done (c : Controller) (transaction : Transaction) : Type 0 where
  pub steady : (one other : Controller) → SameStart transaction.drive one other
      → transaction.calls one ≡ transaction.calls other
  pub by : DoneBy c transaction.drive (transaction.calls c)

-- the drive of a transaction, as it leaves it
abbrev pub own_drive_after : Controller → Transaction → Drive
own_drive_after c transaction = drive_of (after_transaction c transaction).body.drives transaction.drive

-- the claim of one transaction: done from one state, it is done from every other that has the same of its drive, and
-- leaves the same of it
abbrev pub ByOwnDrive : Controller → Controller → Transaction → Type 0
ByOwnDrive c other transaction =
    SameStart transaction.drive c other
    → Done c transaction
    → Done other transaction
    × (transaction.drive ≤ 3 → SameDrive (own_drive_after c transaction) (own_drive_after other transaction))

-- ---- lists of transactions

-- what comes between transactions: ticks, loads and the host's answers. It carries out no store, report or reset, and
-- ends idle and undamaged.
pub record Rests (c : Controller) (calls : List Call) : Type 0 where
  pub none : stores_from c (run c calls) ≡ []
  pub admitted : admitted_from c (run c calls) ≡ true
  pub fixed : reports_fixed (run c calls) ≡ true
  pub idle : is_idle (after_calls c calls) ≡ true
  pub sound : Sound (after_calls c calls)

-- a transaction, with what comes before it
pub record Entry : Type 0 where
  pub before : Controller → List Call
  pub transaction : Transaction

abbrev pub begun : Controller → Entry → Controller
begun c entry = after_calls c (entry.before c)

abbrev pub after_entry : Controller → Entry → Controller
after_entry c entry = after_transaction (begun c entry) entry.transaction

-- the state after all of a list
unfoldable pub after_all : Controller → List Entry → Controller
after_all c [] = c
after_all c (entry ∷ entries) = after_all (after_entry c entry) entries

-- each is done where it stands, and what comes before it rests
unfoldable pub AllDone : Controller → List Entry → Type 0
AllDone c [] = Unit
AllDone c (entry ∷ entries) =
    Rests c (entry.before c) × (Done (begun c entry) entry.transaction × AllDone (after_entry c entry) entries)

-- what comes between rests wherever it begins idle and undamaged; of the transactions nothing is asked
unfoldable pub AllRest : Controller → List Entry → Type 0
AllRest c [] = Unit
AllRest c (entry ∷ entries) =
    (is_idle c ≡ true → Sound c → Rests c (entry.before c)) × AllRest (after_entry c entry) entries

-- the transactions of one drive
unfoldable pub own_transactions : ℕ → List Entry → List Transaction
own_transactions d [] = []
own_transactions d (entry ∷ entries) =
    pick (eqb entry.transaction.drive d) (entry.transaction ∷ own_transactions d entries)
    (own_transactions d entries)

-- all their calls, in order
unfoldable pub all_calls : Controller → List Entry → List Call
all_calls c [] = []
all_calls c (entry ∷ entries) =
    entry.before c ++ (entry.transaction.calls (begun c entry) ++ all_calls (after_entry c entry) entries)

-- the claim: in the other order each transaction is done again, and the four drives end alike
pub record SameInOrder (c : Controller) (entries others : List Entry) : Type 0 where
  pub done : AllDone c others
  pub ends : (d : ℕ) → d ≤ 3
      → EndsAlike (drive_of (after_all c entries).body.drives d) (drive_of (after_all c others).body.drives d)

abbrev pub AnyOrder : Controller → List Entry → List Entry → Type 0
AnyOrder c entries others =
    is_idle c ≡ true
    → Sound c
    → AllDone c entries
    → AllRest c others
    → ((d : ℕ) → own_transactions d entries ≡ own_transactions d others)
    → SameInOrder c entries others
