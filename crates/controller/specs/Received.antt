-- What the controller carries out is what came over the link: a store is the last eight bytes, a load the last four, in
-- document 01's own numbers. Over every list of calls from Fresh.
-- Assumes nothing.
use Rattle.std.specs.Prelude.{◌≡◌, ℕ, true, false, List, [], ◌∷◌}
use Rattle.std.specs.Int.Bits.{bit_xor}
use Rattle.common.specs.Pick.{pick}
use Rattle.operations.specs.declared.store.Store.{Store}
use Rattle.link.specs.State.{offered}
use Rattle.controller.specs.declared.controller.Controller.{Controller}
use Rattle.controller.specs.Controller.{fresh}
use Rattle.controller.specs.Machine.{Call, Exchange, when_store_comes}
use Rattle.controller.specs.Machine.Call.{byte, taken, broken, report, host_data, result, tick, reset, hand}
use Rattle.controller.specs.Lists.{not_refused, holds_store, held_store}

-- the bytes that came, last first
unfoldable pub came_by : List ℕ → Call → List ℕ
came_by came (byte b) = b ∷ came
came_by came taken = came
came_by came broken = came
came_by came (report drive r) = came
came_by came (host_data host space check) = came
came_by came (result r space check) = came
came_by came tick = came
came_by came reset = came
came_by came (hand store) = came

-- a refused call brings none
unfoldable pub came : List ℕ → Exchange → List ℕ
came before x = pick (not_refused x) (came_by before x.call) before

-- "Store: lead, address, four operand bytes (high first), unused, check. All bytes XOR to 0", with the lead #64
pub record StoreReceived (bytes : List ℕ) (store : Store) : Type 0 where
  pub unused : ℕ
  pub check : ℕ
  pub earlier : List ℕ
  pub came :
      bytes
      ≡ check ∷ unused ∷ store.fourth ∷ store.third ∷ store.second ∷ store.first ∷ store.address ∷ 0x64
      ∷ earlier
  pub xor :
      bit_xor
      (bit_xor
      (bit_xor
      (bit_xor (bit_xor (bit_xor (bit_xor 0x64 store.address) store.first) store.second) store.third)
      store.fourth)
      unused)
      check
      ≡ 0

-- "Load: lead, address, unused, check.", with the lead #62
pub record LoadReceived (bytes : List ℕ) (address : ℕ) : Type 0 where
  pub unused : ℕ
  pub check : ℕ
  pub earlier : List ℕ
  pub came : bytes ≡ check ∷ unused ∷ address ∷ 0x62 ∷ earlier
  pub xor : bit_xor (bit_xor (bit_xor 0x62 address) unused) check ≡ 0

-- "Then taken carries it out": the store, or the load, whose ACK is offered
pub record TakenReceived (bytes : List ℕ) (c : Controller) : Type 0 where
  pub store : holds_store c ≡ true → StoreReceived bytes (held_store c)
  pub load : holds_store c ≡ false → LoadReceived bytes (offered c.phase).c1

unfoldable pub ReceivedFor : List ℕ → Controller → Call → Type 0
ReceivedFor bytes c = when_store_comes (TakenReceived bytes c) (λ store. Unit) Unit

-- at every call of a list that is not refused
unfoldable pub ReceivedFrom : List ℕ → Controller → List Exchange → Type 0
ReceivedFrom bytes c [] = Unit
ReceivedFrom bytes c (x ∷ xs) =
    (not_refused x ≡ true → ReceivedFor bytes c x.call)
    × ReceivedFrom (came bytes x) x.answer.reply.controller xs

-- from Fresh
abbrev pub CarriedOutAsReceived : List Exchange → Type 0
CarriedOutAsReceived = ReceivedFrom [] fresh
