-- The count that bit 22 of primary marks as valid: wherever the bit is set, secondary is the count of the record that
-- the last store carried out itself passed or wrote, or the one that it supplied, and never of an earlier one; and none
-- is valid where code 7 replaced the code. The last store, the drive selected and its report are those of the ledger.
-- Over every list of calls from Fresh.
-- Assumes nothing.
use Rattle.std.specs.Prelude.{◌≡◌, ℕ, ◌/◌, ◌%◌, Bool, true, ◌&&◌, List, [], ◌∷◌, eqb, length}
use Rattle.std.specs.Int.Bits.{bit_xor}
use Rattle.common.specs.Pick.{pick}
use Rattle.operations.specs.declared.store.Store.{Store}
use Rattle.status.specs.declared.words.Word.{Word}
use Rattle.link.specs.declared.frames.Frame.{Frame}
use Rattle.link.specs.declared.state.Action.{Action}
use Rattle.link.specs.declared.state.Action.TheVariants.{Nothing, Byte, Text, Order}
use Rattle.transfers.specs.Results.{Result}
use Rattle.controller.specs.OnTape.{count_said}
use Rattle.controller.specs.declared.controller.Controller.{Controller}
use Rattle.controller.specs.Told.{Reply}
use Rattle.controller.specs.Controller.{fresh}
use Rattle.controller.specs.Machine.{Call, Exchange, when_store_comes, when_lent}
use Rattle.controller.specs.Lists.{not_refused, holds_store}
use Rattle.controller.specs.Ledger.{Ledger, ledger_fresh, ledger_after, count_asked}
use Rattle.controller.specs.Shown.{order_of_store, tape_gone}

-- ---- the record of a store

-- the record that the last store carried out has passed, written or supplied the count of: none yet, or one of so many
-- bytes
pub data OwnRecord : Type 0 where
  no_record : OwnRecord
  record_of : ℕ → OwnRecord

-- of the count that a store supplies, which is that of a record "exactly if that is nonzero"
unfoldable pub supplied_by : Store → OwnRecord
supplied_by store = pick (eqb (count_asked store) 0) no_record (record_of (count_asked store))

-- of a store's result, by the drive's report: the record of its image, or, "writes with code 0", the one that it wrote,
-- but none where "code 7 replaces the code, and mark and image go unused"; of a store that supplies a count, the record
-- of that and of no other, "whatever the code"
unfoldable pub passed_by : Store → ℕ → Result → OwnRecord
passed_by store told r =
    pick (eqb (order_of_store store) 0x80) (supplied_by store)
    (pick (tape_gone (order_of_store store) told) no_record
    (pick (eqb (length r.image) 0)
    (pick (eqb (order_of_store store) 0x50 && eqb r.code 0) (record_of (count_asked store)) no_record)
    (record_of (count_said r.image))))

-- a call not refused: a store that is carried out has no record yet, and its result may tell of one
unfoldable pub record_after : Ledger → OwnRecord → Controller → Call → OwnRecord
record_after l own c call =
    when_lent (λ host space check. own) (λ r space check. passed_by l.store (l.tape l.selected).report r)
    (when_store_comes (pick (holds_store c) no_record own) (λ given. no_record) own call) call

-- a refused call tells nothing
unfoldable pub own_record : Ledger → OwnRecord → Controller → Exchange → OwnRecord
own_record l own c x = pick (not_refused x) (record_after l own c x.call) own

-- ---- the claim

-- bit 22, where bit 0 is the most significant: the last but one of the third byte
unfoldable pub bit22 : Word → Bool
bit22 word = eqb (word.b2 / 2 % 2) 1

-- "A sent string is six bytes: lead, four status bytes, check": the word that it brings
unfoldable pub word_in : Frame → Word
word_in string = record { b0 = string.b1; b1 = string.b2; b2 = string.b3; b3 = string.b4 }

-- "secondary update #68", the count in its last two bytes, "high byte first", and the "check (XOR 0)"
abbrev pub secondary_string : ℕ → Frame
secondary_string count =
    record {
      b0 = 0x68;
      b1 = 0;
      b2 = 0;
      b3 = count / 256 % 256;
      b4 = count % 256;
      b5 = bit_xor (bit_xor (bit_xor (bit_xor 0x68 0) 0) (count / 256 % 256)) (count % 256);
    }

-- "if bit 22 send secondary; then primary": a secondary that is sent, #68, is this record's, and so is the count that a
-- primary that is sent, #69, marks
pub record Brings (own : OwnRecord) (count : ℕ) (string : Frame) : Type 0 where
  pub secondary : string.b0 ≡ 0x68 → (own ≡ record_of count) × (string ≡ secondary_string count)
  pub primary : string.b0 ≡ 0x69 → bit22 (word_in string) ≡ true → own ≡ record_of count

-- whatever goes out
unfoldable pub Sends : OwnRecord → ℕ → Action → Type 0
Sends own count (Text string) = Brings own count string
Sends own count Nothing = Unit
Sends own count (Byte b) = Unit
Sends own count (Order order) = Unit

-- what holds after a call: of bit 22 as it stands, and of what is sent
pub record Valid (own : OwnRecord) (reply : Reply) : Type 0 where
  pub stands :
      reply.controller.body.outcome.counted ≡ true
      → own ≡ record_of reply.controller.body.outcome.result.count
  pub sends : Sends own reply.controller.body.outcome.result.count reply.action

-- at every call of a list
unfoldable pub ValidFrom : Ledger → OwnRecord → Controller → List Exchange → Type 0
ValidFrom l own c [] = Unit
ValidFrom l own c (x ∷ xs) =
    Valid (own_record l own c x) x.answer.reply
    × ValidFrom (ledger_after l c x) (own_record l own c x) x.answer.reply.controller xs

-- from Fresh, before any store
abbrev pub CountsAreOwn : List Exchange → Type 0
CountsAreOwn = ValidFrom ledger_fresh no_record fresh
