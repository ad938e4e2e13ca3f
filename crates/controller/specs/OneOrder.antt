-- Every motion order is of a store that was carried out and has not ended, and no store gives two (document 01, Stores:
-- "A motion order is six bytes", of the store that asks for the move). Over every list of calls from Fresh.
-- Assumes nothing.
use Rattle.std.specs.Prelude.{◌≡◌, Bool, true, false, not, List, [], ◌∷◌}
use Rattle.common.specs.Pick.{pick}
use Rattle.link.specs.declared.state.Action.{Action}
use Rattle.link.specs.declared.state.Action.TheVariants.{Nothing, Byte, Text, Order}
use Rattle.link.specs.State.{Handed}
use Rattle.std.specs.Prelude.{None, Some}
use Rattle.controller.specs.declared.controller.Controller.{Controller}
use Rattle.controller.specs.Controller.{fresh}
use Rattle.controller.specs.Machine.{Call, Exchange, when_store_comes, when_report_or_reset}
use Rattle.controller.specs.Lists.{not_refused, holds_store, held_store}
use Rattle.controller.specs.Handed.{resets_all}

-- a call not refused: a store that is carried out may give an order; a reset, by call or store, takes that back
unfoldable pub may_order_after : Bool → Controller → Call → Bool
may_order_after may c call =
    when_report_or_reset (λ drive r. may) false
    (when_store_comes (pick (holds_store c) (not (resets_all (held_store c))) may) (λ store. not (resets_all store)) may
    call)
    call

-- a refused call changes nothing of that
unfoldable pub may_order : Bool → Controller → Exchange → Bool
may_order may c x = pick (not_refused x) (may_order_after may c x.call) may

-- an order uses it up
unfoldable pub unordered : Bool → Action → Bool
unordered may (Order order) = false
unordered may Nothing = may
unordered may (Byte b) = may
unordered may (Text string) = may

-- and so does the end of the store, whose record is handed back
unfoldable pub may_still : Bool → Action → Handed → Bool
may_still may action (Some final) = false
may_still may action None = unordered may action

-- an order goes out only where the store may give one, and not with its record
unfoldable pub OrderedOnce : Bool → Handed → Action → Type 0
OrderedOnce may handed (Order order) = (may ≡ true) × (handed ≡ None)
OrderedOnce may handed Nothing = Unit
OrderedOnce may handed (Byte b) = Unit
OrderedOnce may handed (Text string) = Unit

-- at every call of a list
unfoldable pub OnceFrom : Bool → Controller → List Exchange → Type 0
OnceFrom may c [] = Unit
OnceFrom may c (x ∷ xs) =
    OrderedOnce (may_order may c x) x.answer.reply.handed x.answer.reply.action
    × OnceFrom (may_still (may_order may c x) x.answer.reply.action x.answer.reply.handed)
    x.answer.reply.controller xs

-- from Fresh, before any store
abbrev pub OneOrderEach : List Exchange → Type 0
OneOrderEach = OnceFrom false fresh
