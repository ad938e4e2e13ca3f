-- The bytes of the link (document 01, The link), and the other fixed values of its strings.
-- Assumes nothing.
use Rattle.std.specs.Prelude.{ℕ}
use Rattle.status.specs.declared.words.Word.{Word}

-- ---- what is offered, and what answers

-- "A good string offers ACK #06."; "Byte #06 accepts"
abbrev pub ack : ℕ
ack = 0x06

-- "NACK #15 is ignored. Any other first byte is answered by NACK"
abbrev pub nack : ℕ
nack = 0x15

-- "A write offers GO"; "GO #47 and EOR #45 are offered once"
abbrev pub go : ℕ
go = 0x47

-- "Read, write and check bytes offer EOR when a result came or GO failed"
abbrev pub end_of_record : ℕ
end_of_record = 0x45

-- ---- leads and lengths of the strings from the host

-- "a first byte #62 (load, 4 bytes) .."
abbrev pub load_lead : ℕ
load_lead = 0x62

-- ".. or #64 (store, 8) starts a string"
abbrev pub store_lead : ℕ
store_lead = 0x64

-- "Load: lead, address, unused, check."
abbrev pub load_length : ℕ
load_length = 4

-- "Store: lead, address, four operand bytes (high first), unused, check."
abbrev pub store_length : ℕ
store_length = 8

-- ---- leads of the strings to the host

-- "Leads: load reply #66, .."
abbrev pub load_reply : ℕ
load_reply = 0x66

-- ".. secondary update #68, .."
abbrev pub secondary_update : ℕ
secondary_update = 0x68

-- ".. interrupt #69."
abbrev pub interrupt : ℕ
interrupt = 0x69

-- ---- noes, and the word of load 0

-- "noes so far 0-4"; "After the fifth no .. the send is given up"
abbrev pub most_noes : ℕ
most_noes = 4

-- "0 #0A 20 00 00", 001's device I.D.
abbrev pub device_id : Word
device_id = record { b0 = 0x0A; b1 = 0x20; b2 = 0x00; b3 = 0x00 }
