-- What a record of code, motion and count that is handed back says, in the papers' own numbers: code 04 only of a store
-- whose order the drive did not allow, and the motion that the store and its code give. Over every list of calls from
-- Fresh.
-- Assumes nothing.
use Rattle.std.specs.Prelude.{◌≡◌, List, [], ◌∷◌}
use Rattle.status.specs.declared.words.ResultRecord.{ResultRecord}
use Rattle.link.specs.State.{Handed}
use Rattle.std.specs.Prelude.{None, Some}
use Rattle.controller.specs.declared.controller.Controller.{Controller}
use Rattle.controller.specs.Controller.{fresh}
use Rattle.controller.specs.Machine.{Call, Exchange, when_lent}
use Rattle.controller.specs.Ledger.{operation_of, motion_made, Ledger, ledger_fresh, ledger_after, Allowed}
use Rattle.controller.specs.Shown.{order_of_store}

-- of the last store, and the drive that it was for as that was then: "Code 04 unless: ..", so none that the drive's
-- report, guard and gap allow; "A code here ends the store with motion 00.", a no to GO "is code 05, motion 00", and a
-- result gives the motion of its store and the final code
pub record Settled (l : Ledger) (call : Call) (final : ResultRecord) : Type 0 where
  pub refused :
      final.code ≡ 0x04
      → Allowed (order_of_store l.store) l.was.report l.was.guard l.was.gap
      → ⊥
  pub motion :
      final.motion
      ≡ when_lent (λ host space check. 0)
      (λ r space check. motion_made (operation_of l.store) l.store.first l.store.fourth final.code) 0 call

unfoldable pub SettledBy : Ledger → Call → Handed → Type 0
SettledBy l call (Some final) = Settled l call final
SettledBy l call None = Unit

-- at every call of a list
unfoldable pub SettledFrom : Ledger → Controller → List Exchange → Type 0
SettledFrom l c [] = Unit
SettledFrom l c (x ∷ xs) =
    SettledBy (ledger_after l c x) x.call x.answer.reply.handed
    × SettledFrom (ledger_after l c x) x.answer.reply.controller xs

-- from Fresh
abbrev pub RecordsAreSettled : List Exchange → Type 0
RecordsAreSettled = SettledFrom ledger_fresh fresh
