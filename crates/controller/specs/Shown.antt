-- The status words as a ledger of the list: what bits 2 and 8-22 of primary, secondary, tertiary and quintary are after
-- a list of calls, worked out from the list and its answers alone in the papers' own numbers. The drives, the drive
-- selected and the last store are those of the ledger in Ledger.antt. No definition of the machine says here which code
-- ends a store, what a result comes to, when a retry is asked for, or what the scan of the marks finds. Over every list
-- of calls from Fresh.
-- Assumes nothing.
use Rattle.std.specs.Prelude.{◌≡◌, ℕ, suc, ◌+◌, ◌-◌, ◌*◌, ◌/◌, ◌%◌, min, Bool, true, false, not, ◌&&◌, ◌||◌, List, []}
use Rattle.std.specs.Prelude.{◌∷◌, leb, ltb, eqb, length}
use Rattle.common.specs.Pick.{pick}
use Rattle.status.specs.declared.words.Outcome.{Outcome}
use Rattle.status.specs.declared.words.Word.{Word}
use Rattle.operations.specs.declared.store.Store.{Store}
use Rattle.transfers.specs.declared.after.Words.{Words}
use Rattle.transfers.specs.Data.{Host}
use Rattle.transfers.specs.Results.{Result}
use Rattle.link.specs.declared.state.Action.{Action}
use Rattle.link.specs.declared.state.Action.TheVariants.{Nothing, Byte, Text, Order}
use Rattle.controller.specs.declared.controller.Controller.{Controller}
use Rattle.controller.specs.Controller.{fresh}
use Rattle.controller.specs.Records.{words_of}
use Rattle.controller.specs.Machine.{Call, Exchange, when_store_comes, when_lent, when_report_or_reset}
use Rattle.controller.specs.Machine.Call.{byte, taken, broken, report, host_data, result, tick, reset, hand}
use Rattle.controller.specs.Lists.{not_refused, holds_store, held_store, after}
use Rattle.controller.specs.Ledger.{names_none, drive_for, operation_of, among, Tape, motion_made, Ledger}
use Rattle.controller.specs.Ledger.{count_asked, ledger_fresh, ledger_after}
use Rattle.controller.specs.OnTape.{count_said}

-- ---- the words at the start, and while a store is carried out

-- a word of zeros
abbrev pub zeros : Word
zeros = record { b0 = 0; b1 = 0; b2 = 0; b3 = 0 }

-- "clear primary bits 2 and 8-22"; secondary keeps the count
abbrev pub cleared : ℕ → Outcome
cleared count =
    record {
      retry = false;
      mark = false;
      result = record { code = 0; motion = 0; count = count };
      parity = false;
      overflow = false;
      underflow = false;
      wdl = false;
      rdl = false;
      supplied = false;
      counted = false;
    }

-- "Fresh: .. all else 0"; "Reset, by call or store, gives this"
abbrev pub start_words : Words
start_words = record { outcome = cleared 0; tertiary = zeros; quintary = zeros }

-- a code that ends a store before its operation does: "motion 00", and "Bit 2 (retry): code not 0"
abbrev pub coded : Outcome → ℕ → Outcome
coded o code =
    record {
      retry = true;
      mark = o.mark;
      result = record { code = code; motion = 0; count = o.result.count };
      parity = o.parity;
      overflow = o.overflow;
      underflow = o.underflow;
      wdl = o.wdl;
      rdl = o.rdl;
      supplied = o.supplied;
      counted = o.counted;
    }

-- ---- which code ends a store

-- The operation that a store asks for, by the first byte of its motion order: "operation (40, 50, 60 or the control
-- value)", and "The order's first byte is 80" with a supplied count; 0 for check bytes, which "give no order".
unfoldable pub order_asked : ℕ → ℕ → ℕ → ℕ
order_asked operation first last =
    pick (eqb operation 3) last
    (pick (eqb operation 4) (pick (eqb first 0x80) 0x80 (pick (eqb first 0x40) 0 0x40))
    (pick (eqb operation 5) 0x50 0x60))

abbrev pub order_of_store : Store → ℕ
order_of_store store = order_asked (operation_of store) store.first store.fourth

-- "00-03 track, 04-07 code 03; 08/09 clear/set enable; 0C/0D density 0/1; 10 rewind, 11 fast forward, 20/21 skip
-- forward/reverse, 22/23 mark search forward/reverse, 24 write mark; others code 02"; "Control values 0A and 0B clear
-- and set a guard" (document 02, request 7). 0 where no code ends the store.
unfoldable pub control_code : ℕ → ℕ
control_code last =
    pick (leb last 0x03) 0
    (pick (leb last 0x07) 0x03
    (pick (among last
    (0x08 ∷ 0x09 ∷ 0x0A ∷ 0x0B ∷ 0x0C ∷ 0x0D ∷ 0x10 ∷ 0x11 ∷ 0x20 ∷ 0x21 ∷ 0x22 ∷ 0x23 ∷ 0x24 ∷ []))
    0 0x02))

-- "4, by first operand byte: 00 read, 40 send check bytes, others 02."; 80 "needs GCR, otherwise code 02" (document 02,
-- request 1)
unfoldable pub read_code : ℕ → ℕ → ℕ
read_code first density =
    pick (among first (0x00 ∷ 0x40 ∷ [])) 0 (pick (eqb first 0x80 && not (eqb density 0)) 0 0x02)

-- "1, 2, 7: code 02."; "3, by last operand byte: .."; "4, by first operand byte: .."; "5: write"; "6: erase"
unfoldable pub decoding_code : ℕ → ℕ → ℕ → ℕ → ℕ
decoding_code operation first last density =
    pick (eqb operation 3) (control_code last)
    (pick (eqb operation 4) (read_code first density) (pick (among operation (5 ∷ 6 ∷ [])) 0 0x02))

-- "Code 04 unless: all that move tape need installed and selectable; these, but for rewind and fast forward, need
-- position known; forward moves, write, write mark and erase need no EOT; reverse moves need no BOT; write, write mark
-- and erase need not protected."; "While set, write, write mark and erase give code 04 unless the gap is 0 or BOT
-- warning is reported." (document 02, request 7). By the first byte of the order; what moves no tape has no test.
unfoldable pub passes_test : ℕ → Tape → Bool
passes_test order t =
    not (among order (0x10 ∷ 0x11 ∷ 0x20 ∷ 0x21 ∷ 0x22 ∷ 0x23 ∷ 0x24 ∷ 0x40 ∷ 0x50 ∷ 0x60 ∷ 0x80 ∷ []))
    || ((eqb (t.report / 32 % 2) 1 && eqb (t.report / 2 % 2) 1)
    && ((among order (0x10 ∷ 0x11 ∷ []) || eqb (t.report / 4 % 2) 0)
    && ((not (among order (0x40 ∷ 0x80 ∷ 0x20 ∷ 0x22 ∷ 0x50 ∷ 0x24 ∷ 0x60 ∷ [])) || eqb (t.report / 128 % 2) 0)
    && ((not (among order (0x21 ∷ 0x23 ∷ [])) || eqb (t.report % 2) 0)
    && (not (among order (0x50 ∷ 0x24 ∷ 0x60 ∷ []))
    || (eqb (t.report / 8 % 2) 0 && (not t.guard || (eqb t.gap 0 || eqb (t.report / 16 % 2) 1))))))))

-- "decode; test. A code here ends the store": 0 where none does
unfoldable pub ending_code : ℕ → ℕ → ℕ → Tape → ℕ
ending_code operation first last t =
    pick (eqb (decoding_code operation first last t.density) 0)
    (pick (passes_test (order_asked operation first last) t) 0 0x04)
    (decoding_code operation first last t.density)

-- "Past the test, read, skip and write set secondary to 0."
unfoldable pub count_begun : ℕ → ℕ → ℕ
count_begun order count = pick (among order (0x40 ∷ 0x80 ∷ 0x20 ∷ 0x21 ∷ 0x50 ∷ [])) 0 count

-- what a store leaves of primary and secondary, for the drive that it is for as that is then
unfoldable pub outcome_begun : ℕ → ℕ → ℕ → Tape → ℕ → Outcome
outcome_begun operation first last t count =
    pick (eqb (ending_code operation first last t) 0) (cleared (count_begun (order_asked operation first last) count))
    (coded (cleared count) (ending_code operation first last t))

-- "0: reset"
unfoldable pub words_begun : ℕ → ℕ → ℕ → Tape → Words → Words
words_begun operation first last t w =
    pick (eqb operation 0) start_words
    (record {
      outcome = outcome_begun operation first last t w.outcome.result.count;
      tertiary = w.tertiary;
      quintary = w.quintary;
    })

-- "a named drive above 3 is code 01"
unfoldable pub words_carried : Ledger → Words → Store → Words
words_carried l w store =
    pick (names_none store)
    (record {
      outcome = coded (cleared w.outcome.result.count) 0x01;
      tertiary = w.tertiary;
      quintary = w.quintary;
    })
    (words_begun (operation_of store) store.first store.fourth (l.tape (drive_for l.selected store)) w)

-- ---- the answer to GO

-- "GO #47 and EOR #45 are offered once": what a store's answer says
unfoldable pub offers_go : Action → Bool
offers_go (Byte b) = eqb b 0x47
offers_go Nothing = false
offers_go (Text string) = false
offers_go (Order order) = false

-- "anything but #06 is a no"
unfoldable pub says_no : Call → Bool
says_no (byte b) = not (eqb b 0x06)
says_no broken = true
says_no taken = false
says_no (report drive r) = false
says_no (host_data host space check) = false
says_no (result r space check) = false
says_no tick = false
says_no reset = false
says_no (hand store) = false

-- "A write offers GO; a no is code 05, motion 00"
unfoldable pub words_answered : Bool → Words → Call → Words
words_answered go w call =
    pick (go && says_no call)
    (record { outcome = coded w.outcome 0x05; tertiary = w.tertiary; quintary = w.quintary }) w

-- ---- the data call

-- "second operand byte: host bytes thrown away", and the count
abbrev pub bytes_needed : Store → ℕ
bytes_needed store = store.second + count_asked store

-- "The data call takes that place, counted from 0 over all bytes handed in, ..": "bit 16 is set"; "fewer host bytes
-- than thrown away plus count: .. bit 18"; "Underflow is flagged only where the host ran out before any bad byte."
-- (document 02, request 6)
unfoldable pub outcome_written : Outcome → Store → Host → Outcome
outcome_written o store host =
    record {
      retry = o.retry;
      mark = o.mark;
      result = o.result;
      parity = o.parity || ltb host.place (bytes_needed store);
      overflow = o.overflow;
      underflow =
          o.underflow
          || (ltb (length host.bytes) (bytes_needed store) && not (ltb host.place (bytes_needed store)));
      wdl = o.wdl;
      rdl = o.rdl;
      supplied = o.supplied;
      counted = o.counted;
    }

-- "at a GCR data call, tertiary, quintary .. are zeroed"
unfoldable pub words_written : Words → Tape → Store → Host → Words
words_written w t store host =
    record {
      outcome = outcome_written w.outcome store host;
      tertiary = pick (not (eqb t.density 0)) zeros w.tertiary;
      quintary = pick (not (eqb t.density 0)) zeros w.quintary;
    }

-- ---- the scan of the marks

-- a bad blockette: its mark, its kind, "1 data, 2 check", and its number; all are "zero where none"
pub record Bad : Type 0 where
  pub mark : ℕ
  pub kind : ℕ
  pub number : ℕ

abbrev pub none_bad : Bad
none_bad = record { mark = 0; kind = 0; number = 0 }

-- The blockette with this mark and so many behind it: data blockettes are "numbered n-1 down to 0", "then check
-- blockette 1 .. and 0"; "a blockette number one byte from the start" (document 02, request 3).
unfoldable pub bad_with : ℕ → ℕ → Bad
bad_with mark behind =
    record {
      mark = mark;
      kind = pick (leb 2 behind) 1 2;
      number = pick (leb 2 behind) ((behind - 2) % 256) behind;
    }

-- the first odd and the first even bad one, the one that stops the scan, and how many stand before that
pub record Scanned : Type 0 where
  pub odd : Bad
  pub even : Bad
  pub stop : Bad
  pub before : ℕ

abbrev pub is_bad : Bad → Bool
is_bad bad = not (eqb bad.kind 0)

-- "one for each GCR blockette in tape order, 1-9 an error, 15 good"; "An error's parity is its number's, check
-- blockettes included."; "the scan stops at the first blockette that is the second bad one of its parity". Numbers fall
-- by one to 0, and again from 1 to 0, so a number is odd where an odd number of blockettes stand behind.
unfoldable pub scanned : List ℕ → ℕ → Bad → Bad → Scanned
scanned [] at odd even = record { odd = odd; even = even; stop = none_bad; before = at }
scanned (mark ∷ marks) at odd even =
    pick (eqb mark 15) (scanned marks (suc at) odd even)
    (pick (eqb (length marks % 2) 1)
    (pick (is_bad odd) (record { odd = odd; even = even; stop = bad_with mark (length marks); before = at })
    (scanned marks (suc at) (bad_with mark (length marks)) even))
    (pick (is_bad even) (record { odd = odd; even = even; stop = bad_with mark (length marks); before = at })
    (scanned marks (suc at) odd (bad_with mark (length marks)))))

-- "The first blockette counts as a data error with mark 0, whichever legal mark came for it" (document 02, request 1)
unfoldable pub first_torn : List ℕ → List ℕ
first_torn [] = []
first_torn (mark ∷ marks) = 0 ∷ marks

-- of the marks of a result, by the operation
abbrev pub scan_of : ℕ → List ℕ → Scanned
scan_of order marks = scanned (pick (eqb order 0x80) (first_torn marks) marks) 0 none_bad none_bad

-- "mark and kind (1 data, 2 check) as two digits"
abbrev pub two_digits : Bad → ℕ
two_digits bad = bad.mark % 16 * 16 + bad.kind % 16

-- "Tertiary: first odd error's mark and kind .., its number, then the same for even; zero where none."
abbrev pub tertiary_told : Scanned → Word
tertiary_told s =
    record {
      b0 = two_digits s.odd;
      b1 = s.odd.number;
      b2 = two_digits s.even;
      b3 = s.even.number;
    }

-- "Quintary: 00 00, mark and kind, number of the stopping one."
abbrev pub quintary_told : Scanned → Word
quintary_told s = record { b0 = 0; b1 = 0; b2 = two_digits s.stop; b3 = s.stop.number }

-- ---- a result

-- "If the operation moves tape and none is installed": "Every operation but check bytes moves tape"
unfoldable pub tape_gone : ℕ → ℕ → Bool
tape_gone order r = not (eqb order 0) && not (eqb (r / 32 % 2) 1)

-- "A supplied count of 0 .., and a reported code 0 then ends as 13" (document 02, request 1)
unfoldable pub code_told : ℕ → ℕ → ℕ → ℕ
code_told order count code = pick (eqb order 0x80 && (eqb count 0 && eqb code 0)) 0x13 code

-- ".. code 7 replaces the code"; "None: no change. At most one of each parity: code 15, .. Else 16"
unfoldable pub code_left : Bool → ℕ → Scanned → ℕ
code_left gone code s =
    pick gone 0x07 (pick (is_bad s.stop) 0x16 (pick (is_bad s.odd || is_bad s.even) 0x15 code))

-- the count of the record passed: "the image's own count is not looked at" with a supplied count
unfoldable pub count_passed : ℕ → ℕ → List ℕ → ℕ
count_passed order count image = pick (eqb order 0x80) count (count_said image)

-- ".. mark and image go unused", and an image that is empty
unfoldable pub image_used : Bool → List ℕ → Bool
image_used gone image = not gone && not (eqb (length image) 0)

-- "A result sets bits 21 and 22 and makes secondary the count exactly if that is nonzero, whatever the code." (document
-- 02, request 1)
unfoldable pub count_supplied : ℕ → ℕ → Bool
count_supplied order count = eqb order 0x80 && not (eqb count 0)

-- "Used images, and writes with code 0, set bit 22 and secondary = c."
unfoldable pub count_left : ℕ → ℕ → ℕ → Bool → List ℕ → ℕ → ℕ
count_left order count code used image before =
    pick (count_supplied order count) count
    (pick used (count_passed order count image) (pick (eqb order 0x50 && eqb code 0) count before))

unfoldable pub count_valid : ℕ → ℕ → ℕ → Bool → Bool
count_valid order count code used = count_supplied order count || (used || (eqb order 0x50 && eqb code 0))

-- "A read delivers c bytes as the image has them; for 16, the lesser of c and 256 for each data blockette before the
-- stop. Check bytes deliver the 512 of the check store."; "n = c/256 rounded up blockettes"
unfoldable pub bytes_given : ℕ → Bool → ℕ → Scanned → ℕ
bytes_given order used c s =
    pick (among order (0x40 ∷ 0x80 ∷ []))
    (pick used (pick (is_bad s.stop) (min c (256 * min s.before ((c + 255) / 256))) c) 0)
    (pick (eqb order 0) 512 0)

-- Whether the code asks for a retry: "Bit 2 (retry): code not 0", but "Codes 10, 11 and 12 on a read, forward skip or
-- forward search leave bit 2 clear. So do C, D and F on a forward skip, and code 15 where only check blockettes are
-- bad." (document 02, request 2)
unfoldable pub code_retries : ℕ → ℕ → Scanned → Bool
code_retries order code s =
    not (eqb code 0
    || ((among order (0x40 ∷ 0x20 ∷ 0x22 ∷ []) && among code (0x10 ∷ 0x11 ∷ 0x12 ∷ []))
    || ((eqb order 0x20 && among code (0xC ∷ 0xD ∷ 0xF ∷ []))
    || (eqb code 0x15 && (not (eqb s.odd.kind 1) && not (eqb s.even.kind 1))))))

-- ".. or any of bits 16-20"; "Bit 19, the late flag 1, leaves it clear in both skips. Another bit among 16-20 still
-- sets it." (document 02, request 2)
unfoldable pub bit_retries : ℕ → Bool → Bool → Bool → Bool → Bool → Bool
bit_retries order bit16 bit17 bit18 bit19 bit20 =
    bit16 || (bit17 || (bit18 || ((bit19 && not (among order (0x20 ∷ 0x21 ∷ []))) || bit20)))

-- "Result: code, mark flag, late flags 0-3 (1 sets bit 19, 2 bit 20)"; "Host space too short: as many as fit, bit 17"
unfoldable pub bits_ended : Outcome → ℕ → ℕ → ℕ → Bool → Scanned → Result → ℕ → ℕ → Outcome
bits_ended o order count motion gone s r code space =
    record {
      retry = o.retry;
      mark = r.mark && not gone;
      result =
          record {
            code = code;
            motion = motion;
            count = count_left order count code (image_used gone r.image) r.image o.result.count;
          };
      parity = o.parity;
      overflow =
          o.overflow
          || ltb space (bytes_given order (image_used gone r.image) (count_passed order count r.image) s);
      underflow = o.underflow;
      wdl = o.wdl || eqb (r.late % 2) 1;
      rdl = o.rdl || eqb (r.late / 2 % 2) 1;
      supplied = o.supplied || count_supplied order count;
      counted = o.counted || count_valid order count code (image_used gone r.image);
    }

-- with bit 2 as these bits and the code have it
unfoldable pub retry_ended : Outcome → ℕ → Scanned → Outcome
retry_ended o order s =
    record {
      retry =
          code_retries order o.result.code s
          || bit_retries order o.parity o.overflow o.underflow o.wdl o.rdl;
      mark = o.mark;
      result = o.result;
      parity = o.parity;
      overflow = o.overflow;
      underflow = o.underflow;
      wdl = o.wdl;
      rdl = o.rdl;
      supplied = o.supplied;
      counted = o.counted;
    }

-- "For a GCR read or forward skip, .. tertiary, quintary .. are zeroed first"; a supplied count "counts as GCR whatever
-- the density" (document 02, request 1)
unfoldable pub words_renewed : ℕ → ℕ → Bool
words_renewed order density = eqb order 0x80 || (among order (0x40 ∷ 0x20 ∷ []) && not (eqb density 0))

unfoldable pub tertiary_ended : ℕ → ℕ → Bool → Scanned → Word → Word
tertiary_ended order density gone s before =
    pick (words_renewed order density) (pick gone zeros (tertiary_told s)) before

unfoldable pub quintary_ended : ℕ → ℕ → Bool → Scanned → Word → Word
quintary_ended order density gone s before =
    pick (words_renewed order density) (pick gone zeros (quintary_told s)) before

-- the final code of a result, by the operation, the count that its store holds, and the drive's report
unfoldable pub final_left : ℕ → ℕ → ℕ → Result → ℕ
final_left order count told r =
    code_left (tape_gone order told) (code_told order count r.code) (scan_of order r.marks)

-- what a result leaves, by these, the final code and the motion, the drive that moved, and the length of the host space
unfoldable pub words_left : Words → Tape → ℕ → ℕ → ℕ → ℕ → Result → ℕ → Words
words_left w t order count code motion r space =
    let gone = tape_gone order t.report in
    let s = scan_of order r.marks in
    record {
      outcome = retry_ended (bits_ended w.outcome order count motion gone s r code space) order s;
      tertiary = tertiary_ended order t.density gone s w.tertiary;
      quintary = quintary_ended order t.density gone s w.quintary;
    }

-- by the store that it ends
unfoldable pub words_ended : Words → Tape → Store → Result → ℕ → Words
words_ended w t store r space =
    let code = final_left (order_of_store store) (count_asked store) t.report r in
    words_left w t (order_of_store store) (count_asked store) code
    (motion_made (operation_of store) store.first store.fourth code) r space

-- ---- the words after a list

-- beside the words, the drives as the list has them, and whether GO is offered
pub record Status : Type 0 where
  pub ledger : Ledger
  pub words : Words
  pub go : Bool

-- a call not refused, which leaves the words as they are where it brings no store, no answer to GO, no data and no
-- result; "GO answers, data calls and results not refused belong to the last such store"
unfoldable pub words_call : Status → Controller → Call → Words
words_call s c call =
    when_report_or_reset (λ drive r. s.words) start_words
    (when_store_comes (pick (holds_store c) (words_carried s.ledger s.words (held_store c)) s.words)
    (words_carried s.ledger s.words)
    (when_lent
    (λ host space check. words_written s.words (s.ledger.tape s.ledger.selected) s.ledger.store host)
    (λ r space check.
    words_ended s.words (s.ledger.tape s.ledger.selected) s.ledger.store r (length space))
    (words_answered s.go s.words call) call)
    call)
    call

-- GO is offered by the answer of a store, until it is answered; a report is no answer
unfoldable pub go_call : Bool → Controller → Action → Call → Bool
go_call go c action call =
    when_report_or_reset (λ drive r. go) false
    (when_store_comes (pick (holds_store c) (offers_go action) go) (λ store. offers_go action) false call) call

-- a refused call changes nothing
unfoldable pub shown_after : Status → Controller → Exchange → Status
shown_after s c x =
    record {
      ledger = ledger_after s.ledger c x;
      words = pick (not_refused x) (words_call s c x.call) s.words;
      go = pick (not_refused x) (go_call s.go c x.answer.reply.action x.call) s.go;
    }

unfoldable pub shown_from : Status → Controller → List Exchange → Status
shown_from s c [] = s
shown_from s c (x ∷ xs) = shown_from (shown_after s c x) x.answer.reply.controller xs

abbrev pub status_fresh : Status
status_fresh = record { ledger = ledger_fresh; words = start_words; go = false }

-- from Fresh
abbrev pub shown : List Exchange → Words
shown xs = (shown_from status_fresh fresh xs).words

-- ---- the claim

-- bits 2 and 8-22 of primary, secondary, tertiary and quintary are as the list gives them
abbrev pub StatusIsALedger : List Exchange → Type 0
StatusIsALedger xs = words_of (after fresh xs).body ≡ shown xs
