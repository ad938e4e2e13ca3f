-- Lists of calls with their answers, as the claims over whole lists read them: which calls were carried out, which
-- stores, and the state at the end. "They start from Fresh; each call gets the state that the last one handed back".
-- Assumes nothing.
use Rattle.std.specs.Prelude.{Bool, true, false, not, ◌&&◌, ◌||◌, List, [], ◌∷◌, eqb}
use Rattle.common.specs.Pick.{pick}
use Rattle.operations.specs.declared.operation.Operation.{Operation}
use Rattle.operations.specs.declared.operation.Operation.TheVariants.{Read, SuppliedCount}
use Rattle.operations.specs.declared.decode.Decoded.{Decoded}
use Rattle.operations.specs.declared.decode.Decoded.TheVariants.{Reset, Code, Track, Enable, Guard, Density, Operate}
use Rattle.operations.specs.declared.store.Store.{Store}
use Rattle.operations.specs.Operation.{same_operation}
use Rattle.controller.specs.declared.controller.Controller.{Controller}
use Rattle.link.specs.Bytes.{load_lead}
use Rattle.link.specs.State.{store_of, offered}
use Rattle.controller.specs.Machine.{Call, Exchange, when_store_comes}

-- the call is carried out
unfoldable pub not_refused : Exchange → Bool
not_refused x = eqb x.answer.reply.refusal 0

-- the string whose ACK is offered is a store, and not a load
unfoldable pub holds_store : Controller → Bool
holds_store c = not (eqb (offered c.phase).c0 load_lead)

-- the store that it is
abbrev pub held_store : Controller → Store
held_store c = store_of (offered c.phase)

-- before the first store: one that names no drive
abbrev pub no_store : Store
no_store = record { address = 0; first = 0; second = 0; third = 0; fourth = 0 }

-- whether a call brings a store: a taken that meets a store's ACK, and a handing
unfoldable pub brings_store : Controller → Call → Bool
brings_store c = when_store_comes (holds_store c) (λ store. true) false

-- the store that it brings
unfoldable pub store_brought : Controller → Call → Store
store_brought c = when_store_comes (held_store c) (λ store. store) no_store

-- "A store is carried out where a taken not refused meets its ACK"; one "handed over is carried out as if its ACK had
-- just been taken"
unfoldable pub carries_out : Controller → Exchange → Bool
carries_out c x = not_refused x && brings_store c x.call

-- the last store carried out, this call's included: "GO answers, data calls and results not refused belong to the last
-- such store"
unfoldable pub last_store : Store → Controller → Exchange → Store
last_store last c x = pick (carries_out c x) (store_brought c x.call) last

-- a store that asks for this operation
unfoldable pub asks_for : Operation → Decoded → Bool
asks_for this (Operate operation) = same_operation operation this
asks_for this Reset = false
asks_for this (Code code) = false
asks_for this (Track track) = false
asks_for this (Enable enable) = false
asks_for this (Guard guard) = false
asks_for this (Density density) = false

-- a store that asks for a read, of either kind
unfoldable pub asks_read : Decoded → Bool
asks_read asked = asks_for Read asked || asks_for SuppliedCount asked

-- the state after a list
unfoldable pub after : Controller → List Exchange → Controller
after c [] = c
after c (x ∷ xs) = after x.answer.reply.controller xs
