-- The link (document 01, The link): bytes from the host, the answers to what was sent, and an idle tick.
-- Assumes nothing.
use Rattle.std.specs.Prelude.{ℕ, ◌+◌, Bool, false, ◌&&◌, ◌||◌, eqb}
use Rattle.std.specs.Int.Bits.{bit_xor}
use Rattle.common.specs.Pick.{pick}
use Rattle.link.specs.declared.state.Collected.{Collected}
use Rattle.link.specs.declared.state.Kind.{Kind}
use Rattle.link.specs.declared.state.Kind.TheVariants.{Load, Secondary, Completion, Change}
use Rattle.link.specs.declared.state.Send.{Send}
use Rattle.link.specs.declared.state.Phase.{Phase}
use Rattle.link.specs.declared.state.Phase.TheVariants.{AckOffered, Sending}
use Rattle.link.specs.declared.state.Body.{Body}
use Rattle.link.specs.declared.state.Action.TheVariants.{Nothing, Byte, Text}
use Rattle.std.specs.Prelude.{None}
use Rattle.link.specs.State.{Transition}
use Rattle.link.specs.Bytes.{ack, nack, load_lead, store_lead, load_length, store_length, interrupt, most_noes}
use Rattle.link.specs.State.{with_flags, nothing_collected, keep_phase, keep_collecting, idle, review}
use Rattle.link.specs.Completion.{primary_now, send_word}

-- ---- collecting

-- "a first byte #62 (load, 4 bytes) or #64 (store, 8) starts a string."
unfoldable pub whole_length : ℕ → ℕ
whole_length lead = pick (eqb lead load_lead) load_length store_length

-- one byte more of a string
unfoldable pub append_byte : Collected → ℕ → Collected
append_byte s byte =
    record {
      length = s.length + 1;
      c0 = pick (eqb s.length 0) byte s.c0;
      c1 = pick (eqb s.length 1) byte s.c1;
      c2 = pick (eqb s.length 2) byte s.c2;
      c3 = pick (eqb s.length 3) byte s.c3;
      c4 = pick (eqb s.length 4) byte s.c4;
      c5 = pick (eqb s.length 5) byte s.c5;
      c6 = pick (eqb s.length 6) byte s.c6;
      c7 = pick (eqb s.length 7) byte s.c7;
    }

-- the XOR of the bytes of a load
unfoldable pub load_xor : Collected → ℕ
load_xor s = bit_xor (bit_xor (bit_xor s.c0 s.c1) s.c2) s.c3

-- "All bytes XOR to 0"
unfoldable pub is_good_string : Collected → Bool
is_good_string s =
    eqb
    (pick (eqb s.c0 load_lead) (load_xor s)
    (bit_xor (bit_xor (bit_xor (bit_xor (load_xor s) s.c4) s.c5) s.c6) s.c7))
    0

-- "a first byte #62 (..) or #64 (..) starts a string. NACK #15 is ignored. Any other first byte is answered by NACK,
-- then review."
unfoldable pub first_byte : Body → Collected → ℕ → Transition
first_byte b s byte =
    pick (eqb byte load_lead || eqb byte store_lead) (keep_collecting b (append_byte nothing_collected byte))
    (pick (eqb byte nack) (keep_collecting b s) (idle b (Byte nack)))

-- "All bytes XOR to 0, else NACK and review. A good string offers ACK #06."
unfoldable pub last_byte : Body → Collected → Transition
last_byte b s =
    pick (is_good_string s) (record { body = b; phase = AckOffered s; action = Byte ack; handed = None })
    (idle b (Byte nack))

-- a further byte of a string
unfoldable pub next_byte : Body → Collected → ℕ → Transition
next_byte b s byte =
    pick (eqb (s.length + 1) (whole_length s.c0)) (last_byte b (append_byte s byte))
    (keep_collecting b (append_byte s byte))

-- a byte while collecting: the first of a string, or a further one
unfoldable pub collect_byte : Body → Collected → ℕ → Transition
collect_byte b s byte = pick (eqb s.length 0) (first_byte b s byte) (next_byte b s byte)

-- ---- the answers to a string that was sent

-- A string is accepted. "Its acceptance clears changed. Review."; of the interrupt of a change, "its end, either way,
-- clears enable, and acceptance clears changed; then review"; after the secondary update the primary follows.
unfoldable pub yes_to_send : Body → Kind → Transition
yes_to_send b Load = idle b Nothing
yes_to_send b Secondary = send_word b Completion interrupt (primary_now b)
yes_to_send b Completion = idle (with_flags b false b.enable) Nothing
yes_to_send b Change = idle (with_flags b false false) Nothing

-- "the send is given up: review, collecting"
unfoldable pub give_up : Body → Kind → Transition
give_up b Load = idle b Nothing
give_up b Secondary = idle b Nothing
give_up b Completion = idle b Nothing
give_up b Change = idle (with_flags b b.changed false) Nothing

-- "another byte is a no, and the same six bytes go again. After the fifth no .. the send is given up"
unfoldable pub no_to_send : Body → Send → Transition
no_to_send b s =
    pick (eqb s.noes most_noes) (give_up b s.kind)
    (record {
      body = b;
      phase = Sending (record { kind = s.kind; bytes = s.bytes; noes = s.noes + 1 });
      action = Text s.bytes;
      handed = None;
    })

-- "Byte #06 accepts; another byte is a no"
unfoldable pub answer_to_send : Body → ℕ → Send → Transition
answer_to_send b byte s = pick (eqb byte ack) (yes_to_send b s.kind) (no_to_send b s)

-- ---- an idle tick

-- ".. with changed and enable set it sends primary as an interrupt": after the review
unfoldable pub tick_after_review : Body → Phase → Transition
tick_after_review b phase =
    pick (b.changed && b.enable) (send_word b Change interrupt (primary_now b)) (keep_phase b phase)

-- "An idle tick (nothing collected) reviews; .."
unfoldable pub idle_tick : Body → Phase → Transition
idle_tick b phase = tick_after_review (review b) phase
