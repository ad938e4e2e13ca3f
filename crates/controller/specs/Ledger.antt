-- The drives as a ledger of the list: what each drive is like after a list of calls, worked out from the list and its
-- answers alone in document 01's own numbers. Of each drive: its last report, the track, density and guard last chosen
-- since the last reset, and its gap; the final codes are those of the records that are handed back. A motion order goes
-- out only where these allow it. No definition of the machine says here what a store asks for, what a tape must be
-- like, or what gap a result leaves. Over every list of calls from Fresh.
-- Assumes nothing.
use Rattle.std.specs.Prelude.{◌≡◌, ℕ, ◌≤◌, ◌+◌, ◌*◌, ◌/◌, ◌%◌, Bool, true, false, ◌&&◌, ◌||◌, List, [], ◌∷◌, leb, eqb}
use Rattle.common.specs.Pick.{pick}
use Rattle.operations.specs.declared.store.Store.{Store}
use Rattle.status.specs.declared.drives.Drive.{Drive}
use Rattle.status.specs.Drives.{drive_of}
use Rattle.link.specs.declared.frames.Frame.{Frame}
use Rattle.link.specs.declared.state.Action.{Action}
use Rattle.link.specs.declared.state.Action.TheVariants.{Nothing, Byte, Text, Order}
use Rattle.link.specs.State.{Handed}
use Rattle.std.specs.Prelude.{None, Some}
use Rattle.controller.specs.declared.controller.Controller.{Controller}
use Rattle.controller.specs.Controller.{fresh}
use Rattle.controller.specs.Machine.{Call, Exchange, when_store_comes, when_lent, when_report_or_reset}
use Rattle.controller.specs.Lists.{not_refused, holds_store, held_store, no_store, after}

-- ---- a store's bytes

-- "bit 4 names a drive"
abbrev pub names : Store → Bool
names store = eqb (store.address / 8 % 2) 1

-- "a named drive above 3"
abbrev pub names_none : Store → Bool
names_none store = names store && leb 4 (store.address % 8)

-- the drive that a store is for, "5-7 its number"; one that names none is for the drive selected before
abbrev pub drive_for : ℕ → Store → ℕ
drive_for selected store = pick (names store) (store.address % 8) selected

-- "1-3 are the operation"
abbrev pub operation_of : Store → ℕ
operation_of store = store.address / 16 % 8

-- of a write, "last two: count"; with a supplied count, "the count in the last two" (document 02, request 1)
abbrev pub count_asked : Store → ℕ
count_asked store = store.third * 256 + store.fourth

-- one of these numbers
unfoldable pub among : ℕ → List ℕ → Bool
among n [] = false
among n (m ∷ ms) = eqb n m || among n ms

-- ---- a drive

pub record Tape : Type 0 where
  pub report : ℕ
  pub track : ℕ
  pub density : ℕ
  pub gap : ℕ
  pub guard : Bool

-- "track 0, density 0 (MFM; 1 is GCR), gap 3"; of the guard, "it starts clear, and a reset clears it"
abbrev pub fresh_tape : ℕ → Tape
fresh_tape r = record { report = r; track = 0; density = 0; gap = 3; guard = false }

-- "A report without 32 makes that gap 3."
unfoldable pub tape_reported : Tape → ℕ → Tape
tape_reported t r =
    record {
      report = r;
      track = t.track;
      density = t.density;
      gap = pick (eqb (r / 32 % 2) 1) t.gap 3;
      guard = t.guard;
    }

-- "A new track sets the gap to 0 if BOT is reported, else 3; the same track changes nothing."
unfoldable pub tape_tracked : Tape → ℕ → Tape
tape_tracked t track =
    pick (eqb t.track track) t
    (record {
      report = t.report;
      track = track;
      density = t.density;
      gap = pick (eqb (t.report % 2) 1) 0 3;
      guard = t.guard;
    })

-- "Control values 0A and 0B clear and set a guard on the selected drive" (document 02, request 7)
abbrev pub tape_guarded : Tape → Bool → Tape
tape_guarded t guard =
    record { report = t.report; track = t.track; density = t.density; gap = t.gap; guard = guard }

-- "0C/0D density 0/1"
abbrev pub tape_dense : Tape → ℕ → Tape
tape_dense t density =
    record { report = t.report; track = t.track; density = density; gap = t.gap; guard = t.guard }

-- "3, by last operand byte: 00-03 track, ..; 0C/0D density 0/1; .."; "Control values 0A and 0B clear and set a guard"
unfoldable pub tape_controlled : Tape → ℕ → Tape
tape_controlled t last =
    pick (leb last 0x03) (tape_tracked t last)
    (pick (eqb last 0x0A) (tape_guarded t false)
    (pick (eqb last 0x0B) (tape_guarded t true)
    (pick (eqb last 0x0C) (tape_dense t 0) (pick (eqb last 0x0D) (tape_dense t 1) t))))

-- a store that is carried out for the drive, by its operation and its last operand byte
unfoldable pub tape_stored : Tape → ℕ → ℕ → Tape
tape_stored t operation last = pick (eqb operation 3) (tape_controlled t last) t

-- "Motion: codes 6, 7, 8, 9, 17, 18 give 11; else forward moves, fast forward, write and write mark 01, reverse and
-- rewind 10, erase and check bytes 00."
unfoldable pub motion_made : ℕ → ℕ → ℕ → ℕ → ℕ
motion_made operation first last code =
    pick (among code (0x6 ∷ 0x7 ∷ 0x8 ∷ 0x9 ∷ 0x17 ∷ 0x18 ∷ [])) 3
    (pick (eqb operation 3 && among last (0x21 ∷ 0x23 ∷ 0x10 ∷ [])) 2
    (pick (eqb operation 6 || (eqb operation 4 && eqb first 0x40)) 0 1))

-- "Gap: 00 keeps it, 11 gives 3; reverse and rewind 0; fast forward 3; writes and write mark 0 for code 0 else 2;
-- others 0 for code 0 else 1."
unfoldable pub gap_left : ℕ → ℕ → ℕ → ℕ → ℕ → ℕ
gap_left operation first last code gap =
    pick (eqb (motion_made operation first last code) 0) gap
    (pick (eqb (motion_made operation first last code) 3) 3
    (pick (eqb operation 3 && among last (0x21 ∷ 0x23 ∷ 0x10 ∷ [])) 0
    (pick (eqb operation 3 && eqb last 0x11) 3
    (pick (eqb operation 5 || (eqb operation 3 && eqb last 0x24)) (pick (eqb code 0) 0 2) (pick (eqb code 0) 0 1)))))

-- by the final code of the store's operation
abbrev pub tape_left : Tape → Store → ℕ → Tape
tape_left t store code =
    record {
      report = t.report;
      track = t.track;
      density = t.density;
      gap = gap_left (operation_of store) store.first store.fourth code t.gap;
      guard = t.guard;
    }

-- ---- the ledger of a list

-- the entry of one drive is set
unfoldable pub entered : {A : Type 0} → (ℕ → A) → ℕ → A → ℕ → A
entered entries drive value d = pick (eqb d drive) value (entries d)

-- the drive selected, the four drives, the last store carried out, and the drive that it was for as that was then
pub record Ledger : Type 0 where
  pub selected : ℕ
  pub tape : ℕ → Tape
  pub store : Store
  pub was : Tape

-- "Reset, by call or store, gives this but keeps reports": drive 0 selected
abbrev pub ledger_reset : Ledger → Store → Ledger
ledger_reset l store =
    record { selected = 0; tape = λ d. fresh_tape (l.tape d).report; store = store; was = l.was }

-- "Fresh: report 4 .. for each"
abbrev pub ledger_fresh : Ledger
ledger_fresh = record { selected = 0; tape = λ d. fresh_tape 4; store = no_store; was = fresh_tape 4 }

-- a store for drive d; "0: reset"
unfoldable pub ledger_stored : Ledger → Store → ℕ → ℕ → ℕ → Ledger
ledger_stored l store d operation last =
    pick (eqb operation 0) (ledger_reset l store)
    (record {
      selected = d;
      tape = entered l.tape d (tape_stored (l.tape d) operation last);
      store = store;
      was = l.tape d;
    })

-- "a named drive above 3 is code 01 with selection unchanged, else select it"
unfoldable pub ledger_carried : Ledger → Store → Ledger
ledger_carried l store =
    pick (names_none store) (record { selected = l.selected; tape = l.tape; store = store; was = l.was })
    (ledger_stored l store (drive_for l.selected store) (operation_of store) store.fourth)

-- the record that a result hands back
unfoldable pub ledger_ended : Ledger → Handed → Ledger
ledger_ended l (Some final) =
    record {
      selected = l.selected;
      tape = entered l.tape l.selected (tape_left (l.tape l.selected) l.store final.code);
      store = l.store;
      was = l.was;
    }
ledger_ended l None = l

-- a report of one of the drives
abbrev pub ledger_reported : Ledger → ℕ → ℕ → Ledger
ledger_reported l drive r =
    record {
      selected = l.selected;
      tape = entered l.tape drive (tape_reported (l.tape drive) r);
      store = l.store;
      was = l.was;
    }

-- a call not refused
unfoldable pub ledger_call : Ledger → Controller → Handed → Call → Ledger
ledger_call l c handed call =
    when_report_or_reset (ledger_reported l) (ledger_reset l l.store)
    (when_store_comes (pick (holds_store c) (ledger_carried l (held_store c)) l) (ledger_carried l)
    (when_lent (λ host space check. l) (λ r space check. ledger_ended l handed) l call) call)
    call

-- a refused call changes nothing
unfoldable pub ledger_after : Ledger → Controller → Exchange → Ledger
ledger_after l c x = pick (not_refused x) (ledger_call l c x.answer.reply.handed x.call) l

unfoldable pub ledger_from : Ledger → Controller → List Exchange → Ledger
ledger_from l c [] = l
ledger_from l c (x ∷ xs) = ledger_from (ledger_after l c x) x.answer.reply.controller xs

-- from Fresh
abbrev pub ledger : List Exchange → Ledger
ledger = ledger_from ledger_fresh fresh

-- ---- the first claim: each drive is as the ledger has it

pub record IsTape (drive : Drive) (t : Tape) : Type 0 where
  pub report : drive.report ≡ t.report
  pub track : drive.track ≡ t.track
  pub density : drive.density ≡ t.density
  pub gap : drive.gap ≡ t.gap
  pub guard : drive.guard ≡ t.guard

-- of each of the four, after a list
abbrev pub DrivesAreALedger : List Exchange → Type 0
DrivesAreALedger xs = (d : ℕ) → d ≤ 3 → IsTape (drive_of (after fresh xs).body.drives d) ((ledger xs).tape d)

-- ---- the second claim: each order is allowed by the ledger

-- "Report bits: EOT 128, .. installed 32, BOT warning 16, protected 8, position unknown 4, selectable 2, BOT 1."; "all
-- that move tape need installed and selectable; these, but for rewind and fast forward, need position known; forward
-- moves, write, write mark and erase need no EOT; reverse moves need no BOT; write, write mark and erase need not
-- protected"; "While set, write, write mark and erase give code 04 unless the gap is 0 or BOT warning is reported."
-- (document 02, request 7)
pub record Allowed (first report : ℕ) (guard : Bool) (gap : ℕ) : Type 0 where
  pub known :
      among first
      (0x10 ∷ 0x11 ∷ 0x20 ∷ 0x21 ∷ 0x22 ∷ 0x23 ∷ 0x24 ∷ 0x40 ∷ 0x50 ∷ 0x60 ∷ 0x80 ∷ [])
      ≡ true
  pub installed : report / 32 % 2 ≡ 1
  pub selectable : report / 2 % 2 ≡ 1
  pub placed : among first (0x10 ∷ 0x11 ∷ []) ≡ false → report / 4 % 2 ≡ 0
  pub ahead :
      among first (0x40 ∷ 0x80 ∷ 0x20 ∷ 0x22 ∷ 0x50 ∷ 0x24 ∷ 0x60 ∷ []) ≡ true → report / 128 % 2 ≡ 0
  pub behind : among first (0x21 ∷ 0x23 ∷ []) ≡ true → report % 2 ≡ 0
  pub unprotected : among first (0x50 ∷ 0x24 ∷ 0x60 ∷ []) ≡ true → report / 8 % 2 ≡ 0
  pub unguarded :
      among first (0x50 ∷ 0x24 ∷ 0x60 ∷ []) ≡ true → guard ≡ true → report / 16 % 2 ≡ 0 → gap ≡ 0

-- "A motion order is six bytes: operation (40, 50, 60 or the control value), drive, track, density, last two operand
-- bytes."; with a supplied count, "The order's first byte is 80" (document 02, request 1)
unfoldable pub order_first : ℕ → ℕ → ℕ → ℕ
order_first operation first last =
    pick (eqb operation 3) last
    (pick (eqb operation 4) (pick (eqb first 0x80) 0x80 0x40) (pick (eqb operation 5) 0x50 0x60))

-- an order that goes out is the last store's, for the drive that it selected, with the track and density that the drive
-- had then, and the drive's report, guard and gap then allowed it
pub record OrderAllowed (l : Ledger) (order : Frame) : Type 0 where
  pub first : order.b0 ≡ order_first (operation_of l.store) l.store.first l.store.fourth
  pub drive : order.b1 ≡ l.selected
  pub track : order.b2 ≡ l.was.track
  pub density : order.b3 ≡ l.was.density
  pub third : order.b4 ≡ l.store.third
  pub fourth : order.b5 ≡ l.store.fourth
  pub allowed : Allowed order.b0 l.was.report l.was.guard l.was.gap

unfoldable pub ActionAllowed : Ledger → Action → Type 0
ActionAllowed l (Order order) = OrderAllowed l order
ActionAllowed l Nothing = Unit
ActionAllowed l (Byte b) = Unit
ActionAllowed l (Text string) = Unit

-- at every call of a list
unfoldable pub AllowedFrom : Ledger → Controller → List Exchange → Type 0
AllowedFrom l c [] = Unit
AllowedFrom l c (x ∷ xs) =
    ActionAllowed (ledger_after l c x) x.answer.reply.action
    × AllowedFrom (ledger_after l c x) x.answer.reply.controller xs

-- from Fresh
abbrev pub OrdersAreAllowed : List Exchange → Type 0
OrdersAreAllowed = AllowedFrom ledger_fresh fresh

-- ---- a claim of each call of a list, by the ledger before it

unfoldable pub EachFrom : (Ledger → Exchange → Type 0) → Ledger → Controller → List Exchange → Type 0
EachFrom Claim l c [] = Unit
EachFrom Claim l c (x ∷ xs) = Claim l x × EachFrom Claim (ledger_after l c x) x.answer.reply.controller xs

-- from Fresh
abbrev pub Each : (Ledger → Exchange → Type 0) → List Exchange → Type 0
Each Claim = EachFrom Claim ledger_fresh fresh

-- the drive selected, as it is now
abbrev pub tape_now : Ledger → Tape
tape_now l = l.tape l.selected
