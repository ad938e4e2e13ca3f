-- The moves of the contest (document 02, request 12) as the controller makes them: what a write and a skip reverse
-- leave of the gap, and from which gap a guarded drive is written. Over every list of calls from Fresh.
-- Assumes nothing.
use Rattle.std.specs.Prelude.{◌≡◌, ◌/◌, ◌%◌, true, false, List, [], ◌∷◌}
use Rattle.status.specs.declared.drives.Drive.{Drive}
use Rattle.status.specs.declared.words.ResultRecord.{ResultRecord}
use Rattle.status.specs.Drives.{drive_of}
use Rattle.link.specs.declared.state.Action.{Action}
use Rattle.link.specs.declared.state.Action.TheVariants.{Nothing, Byte, Text, Order}
use Rattle.link.specs.State.{Handed}
use Rattle.std.specs.Prelude.{None, Some}
use Rattle.controller.specs.declared.controller.Controller.{Controller}
use Rattle.controller.specs.Told.{Reply}
use Rattle.controller.specs.Controller.{fresh}
use Rattle.controller.specs.Machine.{Call, Exchange, when_lent}
use Rattle.controller.specs.Ledger.{operation_of, among, Ledger, ledger_fresh, ledger_after}

-- What the drive's gap is after a result of the last store: 0, proper, after a good write; another after one that "the
-- tape may spoil", whatever the code; and "a skip reverse, which always works here, makes it proper": one that does not
-- lose the tape
pub record Moved (l : Ledger) (drive : Drive) (final : ResultRecord) : Type 0 where
  pub written : operation_of l.store ≡ 5 → final.code ≡ 0 → drive.gap ≡ 0
  pub spoiled : operation_of l.store ≡ 5 → (final.code ≡ 0 → ⊥) → drive.gap ≡ 0 → ⊥
  pub reversed :
      operation_of l.store ≡ 3
      → l.store.fourth ≡ 0x21
      → among final.code (0x6 ∷ 0x7 ∷ 0x8 ∷ 0x9 ∷ 0x17 ∷ 0x18 ∷ []) ≡ false
      → drive.gap ≡ 0

-- of a result that hands a record back
unfoldable pub MovedBy : Ledger → Drive → Call → Handed → Type 0
MovedBy l drive call (Some final) =
    when_lent (λ host space check. Unit) (λ r space check. Moved l drive final) Unit call
MovedBy l drive call None = Unit

-- "The driver may write only in a proper gap": so a drive does whose guard is set, where BOT warning is not reported
unfoldable pub FromProper : Ledger → Action → Type 0
FromProper l (Order order) =
    order.b0 ≡ 0x50 → l.was.guard ≡ true → l.was.report / 16 % 2 ≡ 0 → l.was.gap ≡ 0
FromProper l Nothing = Unit
FromProper l (Byte b) = Unit
FromProper l (Text string) = Unit

-- after a call, by the drive selected
pub record Moves (l : Ledger) (call : Call) (reply : Reply) : Type 0 where
  pub moved : MovedBy l (drive_of reply.controller.body.drives l.selected) call reply.handed
  pub proper : FromProper l reply.action

-- at every call of a list
unfoldable pub MovesFrom : Ledger → Controller → List Exchange → Type 0
MovesFrom l c [] = Unit
MovesFrom l c (x ∷ xs) =
    Moves (ledger_after l c x) x.call x.answer.reply
    × MovesFrom (ledger_after l c x) x.answer.reply.controller xs

-- from Fresh
abbrev pub ContestMoves : List Exchange → Type 0
ContestMoves = MovesFrom ledger_fresh fresh
