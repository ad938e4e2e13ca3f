-- Job order among drives (document 02, request 13): "For every list of completed stores without a reset, each naming
-- its drive, with its GO answer, data and result, and every other list of the same stores that keeps each drive's own
-- order: all four tracks, densities, gaps and guards end alike. Both lists start from one idle state, and reports stay
-- fixed throughout."
-- Assumes nothing.
use Rattle.std.specs.Prelude.{◌≡◌, ℕ, ◌≤◌, Bool, true, false, not, ◌&&◌, List, [], ◌∷◌, ◌++◌, eqb}
use Rattle.common.specs.Pick.{pick}
use Rattle.status.specs.declared.drives.Drive.{Drive}
use Rattle.status.specs.Drives.{drive_of}
use Rattle.operations.specs.declared.store.Store.{Store}
use Rattle.operations.specs.Store.{named_drive}
use Rattle.controller.specs.declared.controller.Controller.{Controller}
use Rattle.controller.specs.Controller.{is_idle}
use Rattle.controller.specs.Machine.{Call, Exchange, when_report_or_reset}
use Rattle.controller.specs.Lists.{not_refused, store_brought, carries_out, no_store, after}
use Rattle.controller.specs.Separation.{Event, history_from, admitted_from, EndsAlike}
use Rattle.controller.specs.Separation.Event.{report_came, store_came, go_answered, data_came, result_came}

-- ---- a completed store

-- the stores carried out in a list, in order
unfoldable pub stores_from : Controller → List Exchange → List Store
stores_from c [] = []
stores_from c (x ∷ xs) =
    pick (carries_out c x) (store_brought c x.call ∷ stores_from x.answer.reply.controller xs)
    (stores_from x.answer.reply.controller xs)

-- the first of them
unfoldable pub first_of : List Store → Store
first_of [] = no_store
first_of (store ∷ stores) = store

-- a report
unfoldable pub is_report : Call → Bool
is_report = when_report_or_reset (λ drive r. true) false false

-- "reports stay fixed throughout": none is carried out
unfoldable pub reports_fixed : List Exchange → Bool
reports_fixed [] = true
reports_fixed (x ∷ xs) = not (not_refused x && is_report x.call) && reports_fixed xs

-- "completed stores without a reset, each naming its drive": the calls that carry one store out and end idle. It came
-- by the link or was handed over; refused calls, ticks and loads may be among them, and the host may answer EOR and
-- strings as it likes.
pub record Completes (c : Controller) (xs : List Exchange) : Type 0 where
  pub one : stores_from c xs ≡ first_of (stores_from c xs) ∷ []
  pub admitted : admitted_from c xs ≡ true
  pub fixed : reports_fixed xs ≡ true
  pub ends : is_idle (after c xs) ≡ true

-- ---- the same store in two lists

-- The drive that it names; and of its history its operation and operand, "its GO answer, data and result". So "the same
-- store" may come by the link in the one list and by hand in the other, ask for an interrupt in one of them alone, and
-- be lent other spaces.
pub record CompletedStore : Type 0 where
  pub drive : ℕ
  pub events : List Event

-- how long the space is that a result is lent is no part of it
unfoldable pub without_length : Event → Event
without_length (result_came r length) = result_came r 0
without_length (report_came r) = report_came r
without_length (store_came operation first second third fourth) = store_came operation first second third fourth
without_length (go_answered answer) = go_answered answer
without_length (data_came host) = data_came host

unfoldable pub without_lengths : List Event → List Event
without_lengths [] = []
without_lengths (event ∷ events) = without_length event ∷ without_lengths events

-- what calls completed, from a state on
unfoldable pub completed_by : Controller → List Exchange → CompletedStore
completed_by c xs =
    let drive = named_drive (first_of (stores_from c xs)) in
    record { drive = drive; events = without_lengths (history_from drive no_store c xs) }

-- ---- a list of completed stores

-- its calls, one store after the other
unfoldable pub all_of : List (List Exchange) → List Exchange
all_of [] = []
all_of (xs ∷ others) = xs ++ all_of others

-- each completes
unfoldable pub AllComplete : Controller → List (List Exchange) → Type 0
AllComplete c [] = Unit
AllComplete c (xs ∷ others) = Completes c xs × AllComplete (after c xs) others

unfoldable pub completed_stores : Controller → List (List Exchange) → List CompletedStore
completed_stores c [] = []
completed_stores c (xs ∷ others) = completed_by c xs ∷ completed_stores (after c xs) others

-- those of one drive
unfoldable pub own_stores : ℕ → List CompletedStore → List CompletedStore
own_stores d [] = []
own_stores d (store ∷ stores) = pick (eqb store.drive d) (store ∷ own_stores d stores) (own_stores d stores)

-- "every other list of the same stores that keeps each drive's own order"; a store that names drive 4-7 touches no
-- drive and may stand anywhere
abbrev pub SameOwnOrder : List CompletedStore → List CompletedStore → Type 0
SameOwnOrder stores others = (d : ℕ) → d ≤ 3 → own_stores d stores ≡ own_stores d others

-- ---- the claim

-- a drive as a list of completed stores leaves it
abbrev pub drive_after : ℕ → Controller → List (List Exchange) → Drive
drive_after d c stores = drive_of (after c (all_of stores)).body.drives d

-- "all four tracks, densities, gaps and guards end alike"; of the idle state nothing else is asked: in a damaged one no
-- store completes
abbrev pub OrderIsFree : Controller → List (List Exchange) → List (List Exchange) → Type 0
OrderIsFree c stores others =
    is_idle c ≡ true
    → AllComplete c stores
    → AllComplete c others
    → SameOwnOrder (completed_stores c stores) (completed_stores c others)
    → (d : ℕ)
    → d ≤ 3
    → EndsAlike (drive_after d c stores) (drive_after d c others)
