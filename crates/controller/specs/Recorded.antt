-- What a data call gives (document 01, Stores; document 02, request 6): the image of the bytes that the host sent, as
-- they are written, in the papers' own words and numbers. The last store carried out, and the drive's density, are
-- those of the ledger. Over every list of calls from Fresh.
-- Assumes nothing.
use Rattle.std.specs.Prelude.{◌≡◌, ℕ, ◌+◌, ◌≤◌, true, List, ◌++◌, leb, length, get_or, drop}
use Rattle.common.specs.Pick.{pick}
use Rattle.operations.specs.declared.store.Store.{Store}
use Rattle.transfers.specs.Data.{Host}
use Rattle.controller.specs.Records.{Answer}
use Rattle.controller.specs.Machine.{Exchange, when_lent}
use Rattle.controller.specs.Lists.{not_refused}
use Rattle.controller.specs.Ledger.{count_asked, Ledger, tape_now, Each}
use Rattle.controller.specs.OnTape.{bytes_by, image_on_tape}

-- A host byte as it is written, by its place over all bytes handed in: "The byte itself is written as it came, every
-- record byte after it is zero"; where the host ran out, "zeros fill". "65,535 plus 256 for none" is past every byte
-- that a store needs.
unfoldable pub byte_sent : Host → ℕ → ℕ
byte_sent host place = pick (leb place host.place) (get_or host.bytes place 0) 0

-- "second operand byte: host bytes thrown away; last two: count": the record's bytes. "A bad byte among those thrown
-- away makes the whole record zeros": all of them come after it.
abbrev pub bytes_sent : Store → Host → List ℕ
bytes_sent store host = bytes_by (λ i. byte_sent host (store.second + i)) (count_asked store)

-- "the data call builds the image", at the start of the space; "the rest of the lent space keeps its bytes"
pub record Recorded (l : Ledger) (host : Host) (space : List ℕ) (answer : Answer) : Type 0 where
  pub room : length (image_on_tape (bytes_sent l.store host) (tape_now l).density) ≤ length space
  pub number : answer.bytes ≡ length (image_on_tape (bytes_sent l.store host) (tape_now l).density)
  pub there :
      answer.space ≡ image_on_tape (bytes_sent l.store host) (tape_now l).density ++ drop answer.bytes space

-- of each data call that is not refused
abbrev pub RecordsAt : Ledger → Exchange → Type 0
RecordsAt l x =
    not_refused x ≡ true
    → when_lent (λ host space check. Recorded l host space x.answer) (λ r space check. Unit) Unit x.call

abbrev pub WritesRecord : List Exchange → Type 0
WritesRecord = Each RecordsAt
