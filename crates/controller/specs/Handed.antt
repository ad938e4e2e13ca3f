-- The record of final code, motion and count that is handed back (document 02, request 4): one for each store that
-- ended, none for any other; no store gives two, and none is lost. Over every list of calls from Fresh.
-- Assumes nothing.
use Rattle.std.specs.Prelude.{◌≡◌, Bool, true, false, not, ◌&&◌, List, [], ◌∷◌, eqb}
use Rattle.common.specs.Pick.{pick}
use Rattle.operations.specs.declared.store.Store.{Store}
use Rattle.link.specs.declared.state.Phase.{Phase}
use Rattle.link.specs.State.{when_in_hand}
use Rattle.link.specs.State.{Handed}
use Rattle.std.specs.Prelude.{None, Some}
use Rattle.controller.specs.declared.controller.Controller.{Controller}
use Rattle.controller.specs.Told.{Reply}
use Rattle.controller.specs.Controller.{fresh}
use Rattle.controller.specs.Machine.{Call, Exchange, when_store_comes, when_report_or_reset}
use Rattle.controller.specs.Lists.{not_refused, holds_store, held_store}
use Rattle.controller.specs.Ledger.{names_none, operation_of}

-- ---- a store whose record is owed

-- "0: reset": a store of operation 0, and not one that names drive 4-7, which is code 01
unfoldable pub resets_all : Store → Bool
resets_all store = not (names_none store) && eqb (operation_of store) 0

-- a call not refused: a store that is carried out owes its record, but for one that resets the controller; a reset
-- drops what is owed
unfoldable pub owed_after : Bool → Controller → Call → Bool
owed_after owed c call =
    when_report_or_reset (λ drive r. owed) false
    (when_store_comes (pick (holds_store c) (not (resets_all (held_store c))) owed)
    (λ store. not (resets_all store)) owed call)
    call

-- a refused call changes nothing of that
unfoldable pub owes : Bool → Controller → Exchange → Bool
owes owed c x = pick (not_refused x) (owed_after owed c x.call) owed

-- ---- the claim

-- a store is in hand: GO is offered to it, or its data or its result is awaited
unfoldable pub holds_store_in : Phase → Bool
holds_store_in = when_in_hand (λ store. true) (λ store. true) (λ operation store. true) false

-- A record that is handed back is owed, is the one that primary and secondary then show, and its store is in hand no
-- more; where none is handed back, what is owed is in hand.
unfoldable pub Due : Bool → Reply → Handed → Type 0
Due owed reply (Some final) =
    (owed ≡ true)
    × (final ≡ reply.controller.body.outcome.result)
    × (holds_store_in reply.controller.phase ≡ false)
Due owed reply None = owed ≡ holds_store_in reply.controller.phase

-- one that was handed back is owed no more
unfoldable pub owed_still : Bool → Handed → Bool
owed_still owed (Some handed) = false
owed_still owed None = owed

-- at every call of a list
unfoldable pub DueFrom : Bool → Controller → List Exchange → Type 0
DueFrom owed c [] = Unit
DueFrom owed c (x ∷ xs) =
    Due (owes owed c x) x.answer.reply x.answer.reply.handed
    × DueFrom (owed_still (owes owed c x) x.answer.reply.handed) x.answer.reply.controller xs

-- from Fresh, before any store
abbrev pub RecordsAreHanded : List Exchange → Type 0
RecordsAreHanded = DueFrom false fresh
