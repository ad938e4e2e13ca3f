-- Job order among drives (document 02, request 13), of what two dispatchers with one controller send: "The buyer wants
-- to reorder jobs freely." Whatever waits in their queues, and whichever job was served last, "every other list of the
-- same stores that keeps each drive's own order" leaves the drives alike.
-- Assumes nothing.
use Rattle.std.specs.Prelude.{◌≡◌, true, List, ℕ, ◌≤◌}
use Rattle.status.specs.declared.drives.Drive.{Drive}
use Rattle.status.specs.Drives.{drive_of}
use Rattle.controller.specs.Controller.{is_idle}
use Rattle.controller.specs.Machine as machine
use Rattle.controller.specs.Separation.{EndsAlike}
use Rattle.controller.specs.JobOrder.{all_of, AllComplete, completed_stores, SameOwnOrder}
use Rattle.dispatcher.specs.declared.dispatcher.Dispatcher.{Dispatcher}
use Rattle.dispatcher.specs.Lists.{Exchange, after}
use Rattle.dispatcher.specs.JobLedger.{JobLedger}
use Rattle.dispatcher.specs.Separation.{sent_from}

-- what is sent completes these stores, one after the other
pub record Completes (l : JobLedger) (d : Dispatcher) (xs : List Exchange) (stores : List (List machine.Exchange)) :
    Type 0 where
  pub sends : sent_from l xs ≡ all_of stores
  pub all : AllComplete d.controller stores

-- a drive as a list leaves it
abbrev pub drive_left : ℕ → Dispatcher → List Exchange → Drive
drive_left n d xs = drive_of (after d xs).controller.body.drives n

-- "Both lists start from one idle state": one controller
abbrev pub OrderIsFree : JobLedger → Dispatcher → List Exchange → JobLedger → Dispatcher → List Exchange → Type 0
OrderIsFree k d xs l e ys =
    (stores others : List (List machine.Exchange))
    → e.controller ≡ d.controller
    → is_idle d.controller ≡ true
    → Completes k d xs stores
    → Completes l e ys others
    → SameOwnOrder (completed_stores d.controller stores) (completed_stores e.controller others)
    → (n : ℕ)
    → n ≤ 3
    → EndsAlike (drive_left n d xs) (drive_left n e ys)
