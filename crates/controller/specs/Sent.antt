-- The strings that are sent, as a ledger of the list: what goes out at each call, byte for byte, worked out from the
-- list and its answers alone in document 01's own numbers. Of the link: changed and enable, the reviewed copy of each
-- report, and what waits for the host's answer. The drives come from the ledger of the list, the status words from what
-- the list shows. No definition of the machine says here when a string goes out or what it says. Over every list of
-- calls from Fresh.
-- Assumes nothing.
use Rattle.std.specs.Prelude.{◌≡◌, ℕ, ◌+◌, ◌*◌, ◌/◌, ◌%◌, Bool, true, false, not, ◌&&◌, ◌||◌, List, [], ◌∷◌, ◌++◌, leb}
use Rattle.std.specs.Prelude.{eqb}
use Rattle.std.specs.Int.Bits.{bit_xor}
use Rattle.common.specs.Pick.{pick}
use Rattle.operations.specs.declared.store.Store.{Store}
use Rattle.status.specs.declared.words.Word.{Word}
use Rattle.transfers.specs.declared.after.Words.{Words}
use Rattle.link.specs.declared.frames.Frame.{Frame}
use Rattle.link.specs.declared.state.Kind.{Kind}
use Rattle.link.specs.declared.state.Kind.TheVariants.{Load, Secondary, Completion, Change}
use Rattle.link.specs.declared.state.Send.{Send}
use Rattle.link.specs.declared.state.Action.{Action}
use Rattle.link.specs.declared.state.Action.TheVariants.{Nothing, Byte, Text, Order}
use Rattle.controller.specs.declared.controller.Controller.{Controller}
use Rattle.controller.specs.Controller.{fresh}
use Rattle.controller.specs.Machine.{Call, Exchange}
use Rattle.controller.specs.Machine.Call.{byte, taken, broken, report, host_data, result, tick, reset, hand}
use Rattle.controller.specs.Lists.{not_refused, holds_store, held_store, after}
use Rattle.controller.specs.Ledger.{names_none, operation_of, Ledger, ledger}
use Rattle.controller.specs.Shown.{shown}
use Rattle.controller.specs.Received.{came}

-- ---- the link, as the list tells it

-- what waits for the host's answer: nothing, ACK #06, GO #47, EOR #45 of a store that asks an interrupt or not, or a
-- string, with what it was sent for and the noes so far
pub data Awaited : Type 0 where
  nothing : Awaited
  ack : Awaited
  go : Awaited
  end : Bool → Awaited
  sent : Send → Awaited

-- changed, enable, the reviewed copy of each report, what waits for an answer, and the strings of the last call
pub record Wire : Type 0 where
  pub changed : Bool
  pub enable : Bool
  pub copy : ℕ → ℕ
  pub awaited : Awaited
  pub sends : List Frame

-- no string goes out
abbrev pub quiet : Wire → Awaited → Wire
quiet f awaited = record { changed = f.changed; enable = f.enable; copy = f.copy; awaited = awaited; sends = [] }

-- other flags
abbrev pub flagged : Wire → Bool → Bool → Wire
flagged f changed enable =
    record { changed = changed; enable = enable; copy = f.copy; awaited = f.awaited; sends = f.sends }

-- this string goes out, for this, after so many noes
abbrev pub speaks : Wire → Kind → Frame → ℕ → Wire
speaks f kind string noes =
    record {
      changed = f.changed;
      enable = f.enable;
      copy = f.copy;
      awaited = sent (record { kind = kind; bytes = string; noes = noes });
      sends = string ∷ [];
    }

-- "Fresh: report 4 and reviewed copy 4 for each, .. changed set, enable clear, .. collecting."
abbrev pub wire_fresh : Wire
wire_fresh = record { changed = true; enable = false; copy = λ d. 4; awaited = nothing; sends = [] }

-- "Reset, by call or store, gives this but keeps reports, copied as reviewed."
abbrev pub wire_reset : Ledger → Wire
wire_reset l = record { changed = true; enable = false; copy = λ d. (l.tape d).report; awaited = nothing; sends = [] }

-- the report of a drive differs from its copy
abbrev pub differs : Wire → Ledger → ℕ → Bool
differs f l d = not (eqb (l.tape d).report (f.copy d))

-- "Review sets changed if any report differs from its copy, then copies all four."; nothing waits for an answer then
unfoldable pub reviewed : Wire → Ledger → Wire
reviewed f l =
    record {
      changed = f.changed || (((differs f l 0 || differs f l 1) || differs f l 2) || differs f l 3);
      enable = f.enable;
      copy = λ d. (l.tape d).report;
      awaited = nothing;
      sends = [];
    }

-- ---- the words, "Bits of a 32-bit word count from 0, the most significant."

-- a bit of a byte, by its weight there
abbrev pub bit : Bool → ℕ → ℕ
bit set weight = pick set weight 0

-- "Primary: changed, enable, retry, track (3-5), drive (6-7), mark, motion (9-10), code (11-15), 16-22 as said,
-- density, report.", of the drive selected
unfoldable pub primary : Wire → Ledger → Words → Word
primary f l w =
    record {
      b0 =
          bit f.changed 128 + bit f.enable 64 + bit w.outcome.retry 32
          + (l.tape l.selected).track % 8 * 4
          + l.selected % 4;
      b1 = bit w.outcome.mark 128 + w.outcome.result.motion % 4 * 32 + w.outcome.result.code % 32;
      b2 =
          bit w.outcome.parity 128 + bit w.outcome.overflow 64 + bit w.outcome.underflow 32
          + bit w.outcome.wdl 16
          + bit w.outcome.rdl 8
          + bit w.outcome.supplied 4
          + bit w.outcome.counted 2
          + (l.tape l.selected).density % 2;
      b3 = (l.tape l.selected).report;
    }

-- secondary: 00 00, then the count, high byte first
unfoldable pub secondary : Words → Word
secondary w =
    record { b0 = 0; b1 = 0; b2 = w.outcome.result.count / 256 % 256; b3 = w.outcome.result.count % 256 }

-- "Address bits 1-3: 0 #0A 20 00 00; 1 primary; 2 secondary; 3 tertiary; 4 reports, drive 0 first; 5 quintary"
unfoldable pub word_asked : Wire → Ledger → Words → ℕ → Word
word_asked f l w n =
    pick (eqb n 0) (record { b0 = 0x0A; b1 = 0x20; b2 = 0x00; b3 = 0x00 })
    (pick (eqb n 1) (primary f l w)
    (pick (eqb n 2) (secondary w)
    (pick (eqb n 3) w.tertiary
    (pick (eqb n 4)
    (record {
      b0 = (l.tape 0).report;
      b1 = (l.tape 1).report;
      b2 = (l.tape 2).report;
      b3 = (l.tape 3).report;
    })
    w.quintary))))

-- "A sent string is six bytes: lead, four status bytes, check": the last byte makes the XOR of all 0
unfoldable pub string_with : ℕ → Word → Frame
string_with lead word =
    record {
      b0 = lead;
      b1 = word.b0;
      b2 = word.b1;
      b3 = word.b2;
      b4 = word.b3;
      b5 = bit_xor (bit_xor (bit_xor (bit_xor lead word.b0) word.b1) word.b2) word.b3;
    }

-- ---- what a call sends, with the drives and the words as they stand after it

-- primary as an interrupt, #69
unfoldable pub interrupts : Wire → Ledger → Words → Kind → Wire
interrupts f l w kind = speaks f kind (string_with 0x69 (primary f l w)) 0

-- "if bit 22 send secondary; then primary": the update is #68
unfoldable pub informs : Wire → Ledger → Words → Wire
informs f l w =
    pick w.outcome.counted (speaks f Secondary (string_with 0x68 (secondary w)) 0) (interrupts f l w Completion)

-- ".. then review. With an interrupt asked: clear enable; if bit 22 send secondary; then primary."
unfoldable pub completes : Wire → Ledger → Words → Bool → Wire
completes f l w asked =
    pick asked (informs (flagged (reviewed f l) (reviewed f l).changed false) l w) (reviewed f l)

-- "bit 0 asks an interrupt"
abbrev pub asks : Store → Bool
asks store = leb 128 store.address

-- "An idle tick (nothing collected) reviews; with changed and enable set it sends primary as an interrupt"
unfoldable pub ticks : Wire → Ledger → Words → Wire
ticks f l w =
    pick ((reviewed f l).changed && (reviewed f l).enable) (interrupts (reviewed f l) l w Change) (reviewed f l)

-- a load's reply, #66; "6, 7 no reply, review."
unfoldable pub replies : Wire → Ledger → Words → ℕ → Wire
replies f l w n =
    pick (eqb n 6) (reviewed f l)
    (pick (eqb n 7) (reviewed f l) (speaks f Load (string_with 0x66 (word_asked f l w n)) 0))

-- "Byte #06 accepts": "After a reply, review."; after the secondary update primary follows; of a store's interrupt,
-- "Its acceptance clears changed. Review."; of a tick's, "its end, either way, clears enable, and acceptance clears
-- changed; then review"
unfoldable pub accepted : Wire → Ledger → Words → Kind → Wire
accepted f l w Load = reviewed f l
accepted f l w Secondary = interrupts f l w Completion
accepted f l w Completion = reviewed (flagged f false f.enable) l
accepted f l w Change = reviewed (flagged f false false) l

-- "the send is given up: review, collecting"; of a tick's interrupt, "its end, either way, clears enable"
unfoldable pub given_up : Wire → Ledger → Kind → Wire
given_up f l Load = reviewed f l
given_up f l Secondary = reviewed f l
given_up f l Completion = reviewed f l
given_up f l Change = reviewed (flagged f f.changed false) l

-- "Byte #06 accepts; another byte is a no, and the same six bytes go again. After the fifth no .. the send is given up"
unfoldable pub answered : Wire → Ledger → Words → ℕ → Send → Wire
answered f l w value s =
    pick (eqb value 0x06) (accepted f l w s.kind)
    (pick (eqb s.noes 4) (given_up f l s.kind) (speaks f s.kind s.bytes (s.noes + 1)))

-- ---- a store is carried out

-- "08/09 clear/set enable"
unfoldable pub enabled_by : Wire → ℕ → ℕ → Wire
enabled_by f operation last =
    pick (eqb operation 3 && eqb last 0x08) (flagged f f.changed false)
    (pick (eqb operation 3 && eqb last 0x09) (flagged f f.changed true) f)

-- a store that ends when it is carried out: control values 00 to 0D move no tape, and of every store "A code here ends
-- the store"
unfoldable pub ends_here : Words → ℕ → ℕ → Bool
ends_here w operation last = (eqb operation 3 && leb last 0x0D) || not (eqb w.outcome.result.code 0)

-- "A write offers GO", and any other operation awaits its result
unfoldable pub begun : Wire → Ledger → Words → Store → ℕ → ℕ → Wire
begun f l w store operation last =
    pick (ends_here w operation last) (completes f l w (asks store)) (quiet f (pick (eqb operation 5) go nothing))

-- "0: reset, then collecting, with no completion."
unfoldable pub stored_on : Wire → Ledger → Words → Store → ℕ → ℕ → Wire
stored_on f l w store operation last =
    pick (eqb operation 0) (wire_reset l) (begun (enabled_by f operation last) l w store operation last)

-- "a named drive above 3 is code 01", whatever else is asked for
unfoldable pub stored : Wire → Ledger → Words → Store → Wire
stored f l w store =
    pick (names_none store) (completes f l w (asks store)) (stored_on f l w store (operation_of store) store.fourth)

-- ---- each call

-- a byte while nothing waits for an answer: "A good string offers ACK #06."; what is answered by NACK #15, "then
-- review"
unfoldable pub collects : Wire → Ledger → Action → Wire
collects f l (Byte value) = pick (eqb value 0x06) (quiet f ack) (pick (eqb value 0x15) (reviewed f l) (quiet f nothing))
collects f l Nothing = quiet f nothing
collects f l (Text string) = quiet f nothing
collects f l (Order order) = quiet f nothing

-- a byte, by what it answers: ACK, where "any byte drops it, .. then review"; GO, of which "a no is code 05, motion 00,
-- then EOR"; EOR, then the completion. `store` is the last store carried out.
unfoldable pub byte_comes : Wire → Store → Ledger → Words → ℕ → Action → Awaited → Wire
byte_comes f store l w value action nothing = collects f l action
byte_comes f store l w value action ack = reviewed f l
byte_comes f store l w value action go = pick (eqb value 0x06) (quiet f nothing) (quiet f (end (asks store)))
byte_comes f store l w value action (end asked) = completes f l w asked
byte_comes f store l w value action (sent s) = answered f l w value s

-- "Broken while collecting drops what was collected, then review."; "broken or any byte drops it"; "on broken, the send
-- is given up"; of GO and EOR, "anything but #06 is a no"
unfoldable pub breaks : Wire → Store → Ledger → Words → Awaited → Wire
breaks f store l w nothing = reviewed f l
breaks f store l w ack = reviewed f l
breaks f store l w go = quiet f (end (asks store))
breaks f store l w (end asked) = completes f l w asked
breaks f store l w (sent s) = given_up f l s.kind

-- "Read, write and check bytes offer EOR when a result came", operations 4 and 5; any other is completed
unfoldable pub resulted : Wire → Store → Ledger → Words → Wire
resulted f store l w =
    pick (eqb (operation_of store) 4 || eqb (operation_of store) 5) (quiet f (end (asks store)))
    (completes f l w (asks store))

-- "Load: lead, address, unused, check.": of the bytes that came, last first
unfoldable pub load_address : List ℕ → ℕ
load_address [] = 0
load_address (check ∷ []) = 0
load_address (check ∷ unused ∷ []) = 0
load_address (check ∷ unused ∷ address ∷ earlier) = address

-- a call not refused, by the bytes that came before it and the last store carried out before it
unfoldable pub wire_call : Wire → List ℕ → Store → Ledger → Words → Controller → Action → Call → Wire
wire_call f bytes store l w c action (byte value) = byte_comes f store l w value action f.awaited
wire_call f bytes store l w c action taken =
    pick (holds_store c) (stored f l w (held_store c)) (replies f l w (load_address bytes / 16 % 8))
wire_call f bytes store l w c action broken = breaks f store l w f.awaited
wire_call f bytes store l w c action (report drive r) = quiet f f.awaited
wire_call f bytes store l w c action (host_data host space check) = quiet f f.awaited
wire_call f bytes store l w c action (result r space check) = resulted f store l w
wire_call f bytes store l w c action tick = ticks f l w
wire_call f bytes store l w c action reset = wire_reset l
wire_call f bytes store l w c action (hand given) = stored f l w given

-- a refused call changes nothing
unfoldable pub wire_after : Wire → List ℕ → Store → Ledger → Words → Controller → Exchange → Wire
wire_after f bytes store l w c x =
    pick (not_refused x) (wire_call f bytes store l w c x.answer.reply.action x.call)
    (quiet f f.awaited)

-- ---- a list

-- the bytes that came by a list, last first
unfoldable pub came_from : List ℕ → List Exchange → List ℕ
came_from bytes [] = bytes
came_from bytes (x ∷ xs) = came_from (came bytes x) xs

-- one call more, after the others
abbrev pub followed_by : List Exchange → Exchange → List Exchange
followed_by before x = before ++ (x ∷ [])

-- after one call more, by what the list gave before it and gives with it
unfoldable pub wire_next : Wire → List Exchange → Exchange → Wire
wire_next f before x =
    wire_after f (came_from [] before) (ledger before).store (ledger (followed_by before x))
    (shown (followed_by before x))
    (after fresh before) x

-- after the calls of a list that follow these
unfoldable pub wire_from : Wire → List Exchange → List Exchange → Wire
wire_from f before [] = f
wire_from f before (x ∷ xs) = wire_from (wire_next f before x) (followed_by before x) xs

-- from Fresh
abbrev pub wire : List Exchange → Wire
wire = wire_from wire_fresh []

-- ---- the first claim: changed and enable are as the list has them

pub record FlagsAreALedger (xs : List Exchange) : Type 0 where
  pub changed : (after fresh xs).body.changed ≡ (wire xs).changed
  pub enable : (after fresh xs).body.enable ≡ (wire xs).enable

-- ---- the second claim: the strings that go out are those that the list asks for

-- the string of an action, or none
unfoldable pub strings_of : Action → List Frame
strings_of (Text string) = string ∷ []
strings_of Nothing = []
strings_of (Byte value) = []
strings_of (Order order) = []

-- ".. check (XOR 0)": of the six bytes
abbrev pub xor_of : Frame → ℕ
xor_of s = bit_xor (bit_xor (bit_xor (bit_xor (bit_xor s.b0 s.b1) s.b2) s.b3) s.b4) s.b5

-- of each string
unfoldable pub AllCheck : List Frame → Type 0
AllCheck [] = Unit
AllCheck (string ∷ others) = (xor_of string ≡ 0) × AllCheck others

-- at every call of a list: the strings that go out are those that the list gives, none or one, and check
unfoldable pub ToldFrom : Wire → List Exchange → List Exchange → Type 0
ToldFrom f before [] = Unit
ToldFrom f before (x ∷ xs) =
    ((strings_of x.answer.reply.action ≡ (wire_next f before x).sends)
    × AllCheck (strings_of x.answer.reply.action))
    × ToldFrom (wire_next f before x) (followed_by before x) xs

-- from Fresh
abbrev pub StringsAreTold : List Exchange → Type 0
StringsAreTold = ToldFrom wire_fresh []
