-- The starred bench cases of document 01 that speak of the machine, and a torn record read with a supplied count
-- (document 02, request 1), as one group over the definitions.
-- Assumes nothing.
use mathlib.Core.Path.{◌≡◌, refl}
use mathlib.Core.Bool.{Bool, true, false}
use mathlib.Core.List.{List, [], ◌∷◌, ◌++◌}
use Prim.Native.Nat.{ℕ}
use lib.ListN.{get_or, drop, replicate}
use Rattle.common.specs.Pick.{pick}
use Rattle.common.specs.Space.{overwrite, filled}
use Rattle.blockettes.specs.Xor.{◌⊕◌, xor_all}
use Rattle.blockettes.specs.Blockettes.{blockette_at, numbered, of_parity, fold_parity, check_of}
use Rattle.marks.specs.Marks.{legal_mark, legal_marks, is_error, torn_marks}
use Rattle.marks.specs.Scan.{scan_from, scan_marks, kind_of, number_of, defect_at, is_found, findings_of, checks_alone}
use Rattle.records.specs.Count.{rotated, count_bytes, unrotated, count_of}
use Rattle.records.specs.Image.{blockette_count, has_blockettes, blockettes_of, body_of, image_of, image_length}
use Rattle.records.specs.Image.{mark_count}
use Rattle.records.specs.Place.{no_place, is_place, as_came, written_bytes}
use Rattle.records.specs.Whole.{layout_refusal, whole_refusal}
use Rattle.transfers.specs.Expected.{whole_code, expected_whole, expected_supplied, expected_of, unmarked_refusal}
use Rattle.transfers.specs.Expected.{image_refusal}
use Rattle.operations.specs.Operation.{moves_tape, is_skip, is_search, takes_mark}
use Rattle.operations.specs.Decode.{control_of, read_of, decode_of, in_density}
use Rattle.operations.specs.Test.{may_move}
use Rattle.operations.specs.Answers.{forward_codes, reverse_codes, end_codes, supplied_codes, listed_codes}
use Rattle.operations.specs.Answers.{trailing_codes}
use Rattle.operations.specs.Answers.{clear_codes, is_in, answer_of}
use Rattle.operations.specs.After.{loses_tape, motion_of, gap_of, gap_after, own_retry, code_retry, retry_of}
use Rattle.status.specs.Drives.{reports, with_track, drive_of, with_drive, with_report, any_differs, copy_reports}
use Rattle.status.specs.Drives.{fresh_drives, reset_drives}
use Rattle.status.specs.Words.{bit_of, no_outcome, any_bit, primary_of, secondary_word, digits_of, tertiary_of}
use Rattle.status.specs.Words.{quintary_of}
use Rattle.status.specs.Words.{reports_word}
use Rattle.link.specs.Frames.{string_of, order_of}
use Rattle.link.specs.declared.state.Body.{Body}
use Rattle.controller.specs.declared.controller.Controller.{Controller}
use Rattle.link.specs.declared.state.Action.TheVariants.{Nothing, Byte, Order}
use Rattle.std.specs.Prelude.{None}
use Rattle.link.specs.State.{store_of, start_body, reset_state, review, idle}
use Rattle.link.specs.Completion.{primary_now, send_word, send_interrupt, complete}
use Rattle.operations.specs.Store.{asks_interrupt, names_drive, named_drive, names_unknown, selected_by, asked_for}
use Rattle.operations.specs.Store.{thrown_away, held_count, supplied_count}
use Rattle.operations.specs.Course.{test_of, course_of}
use Rattle.link.specs.Link.{whole_length, append_byte, load_xor, is_good_string, first_byte, last_byte, next_byte}
use Rattle.link.specs.Link.{yes_to_send}
use Rattle.link.specs.Link.{give_up, no_to_send, collect_byte, answer_to_send, tick_after_review, idle_tick}
use Rattle.link.specs.Loads.{load_word, carry_out_load}
use Rattle.controller.specs.Controller.{fresh}
use Rattle.controller.specs.Stores.{end_with, settle, end_operation, motion_order, past_test, order_move, begin}
use Rattle.controller.specs.Stores.{follow, clear_outcome, carry_out_on, carry_out, no_to_go, yes_to_go, answer_to_go}
use Rattle.transfers.specs.Data.{host_of, check_bytes, needed_bytes, bad_byte, runs_short, data_refusal, data_words}
use Rattle.transfers.specs.Data.{settle_data}
use Rattle.transfers.specs.Results.{mark_against, result_refusal, is_gone, marks_read, code_reported, final_code}
use Rattle.transfers.specs.Results.{reads_gcr}
use Rattle.transfers.specs.Results.{record_count, used_count, verdict_of, read_count, read_bytes, delivered_bytes}
use Rattle.transfers.specs.Results.{torn_bytes}
use Rattle.transfers.specs.Results.{bytes_read, fitting, result_check, result_tertiary, result_quintary, wrote_well}
use Rattle.transfers.specs.Results.{result_count, result_bits, with_retry, result_words, result_gap, settle_result}
use Rattle.controller.specs.Records.{Answer, data_done, result_done}
use Rattle.link.specs.Damaged.{sound_drive, sound_drives, sound_body, sound_lead, sound_part, sound_string, sound_phase}
use Rattle.link.specs.Damaged.{is_sound}
use Rattle.controller.specs.Machine.{byte_in, broken_in, tick_in, byte_call, broken_call, tick_call, carry_out_string}
use Rattle.controller.specs.Machine.{taken_in, taken_call, report_call, reset_call, data_for, result_for}
use Rattle.controller.specs.Machine.{data_in, data_call, result_in, result_call, Call, step}
use Rattle.controller.specs.Machine.Call.{byte, taken, report, host_data, result}

-- the last answer of a list of calls from a state, and the body that it leaves
abbrev after : Controller → List Call → Answer → Answer
after c [] answer = answer
after c (call ∷ calls) answer = after (step c call).reply.controller calls (step c call)

abbrev played : List Call → Answer
played calls =
    after fresh calls
    (record {
      reply = record { controller = fresh; action = Nothing; refusal = 0; handed = None };
      bytes = 0;
      space = [];
      check = [];
    })

abbrev left : List Call → Body
left calls = (played calls).reply.controller.body

-- a store of eight bytes, and taken
abbrev store : ℕ → ℕ → ℕ → ℕ → ℕ → ℕ → List Call
store address first second third fourth check =
    byte 0x64 ∷ byte address ∷ byte first ∷ byte second ∷ byte third ∷ byte fourth ∷ byte 0x00 ∷ byte check ∷ taken ∷ []

-- "Store 64 49 00 00 00 00 00 2D gets ACK; ending 2C, NACK."
abbrev read_store : ℕ → List Call
read_store check = byte 0x64 ∷ byte 0x49 ∷ byte 0x00 ∷ byte 0x00 ∷ byte 0x00 ∷ byte 0x00 ∷ byte 0x00 ∷ byte check ∷ []

-- "Report #22 on drive 1, that read, .."
abbrev read_on : ℕ → List ℕ → Bool → List Call
read_on bits image mark =
    report 1 bits ∷ store 0x49 0x00 0x00 0x00 0x00 0x2D
    ++ result (record { code = 0; mark = mark; late = 0; image = image; marks = [] }) (replicate 5 0) (replicate 512 0)
    ∷ byte 0x06 ∷ []

-- a GCR read on drive 1 with a result
abbrev gcr_read : List ℕ → List ℕ → List Call
gcr_read image marks =
    report 1 0x22 ∷ store 0x39 0x00 0x00 0x00 0x0D 0x50 ++ store 0x49 0x00 0x00 0x00 0x00 0x2D
    ++ result (record { code = 0; mark = false; late = 0; image = image; marks = marks }) (replicate 600 0)
    (replicate 512 0) ∷ []

-- a GCR write of one byte on drive 1, up to its data call
abbrev gcr_write : ℕ → List Call
gcr_write value =
    report 1 0x22 ∷ store 0x39 0x00 0x00 0x00 0x0D 0x50 ++ store 0x59 0x00 0x00 0x00 0x01 0x3C
    ++ byte 0x06 ∷ host_data (host_of (value ∷ []) no_place) (replicate 770 0) (replicate 512 0) ∷ []

-- an MFM write of three bytes on drive 1, two host bytes thrown away before them, with the data call's place
abbrev mfm_write : List ℕ → ℕ → List Call
mfm_write host place =
    report 1 0x22 ∷ store 0x59 0x00 0x02 0x00 0x03 0x3C
    ++ byte 0x06 ∷ host_data (host_of host place) (replicate 6 9) (replicate 512 0) ∷ []

abbrev six_bytes : List ℕ
six_bytes = 0x11 ∷ 0x22 ∷ 0x33 ∷ 0x44 ∷ 0x55 ∷ 0x66 ∷ []

-- drive 1 with this report and its guard set; what writes or erases there; the gap is lost
abbrev guarded : ℕ → List Call
guarded bits = report 1 bits ∷ store 0x39 0x00 0x00 0x00 0x0B 0x56

abbrev write : List Call
write = store 0x59 0x00 0x00 0x00 0x01 0x3C

abbrev write_mark : List Call
write_mark = store 0x39 0x00 0x00 0x00 0x24 0x79

abbrev erase : List Call
erase = store 0x69 0x00 0x00 0x00 0x00 0x0D

-- a record of 600 bytes, and its image with the count bytes and the first blockette torn
abbrev six_hundred : List ℕ
six_hundred = replicate 256 1 ++ replicate 256 2 ++ replicate 88 3

abbrev torn_image : List ℕ
torn_image = 0xFF ∷ 0xFF ∷ replicate 256 0xEE ++ drop 258 (image_of six_hundred 1)

-- it is read on drive 1 with its count supplied; a good mark came for the first blockette too
abbrev torn_read : List Call
torn_read =
    report 1 0x22 ∷ store 0x39 0x00 0x00 0x00 0x0D 0x50 ++ store 0x49 0x80 0x00 0x02 0x58 0xF7
    ++ result (record { code = 0; mark = false; late = 0; image = torn_image; marks = replicate 5 15 })
    (replicate 600 9)
    (replicate 512 9) ∷ []

pub record BenchCases : Type 0 where
  pub ack : (played (read_store 0x2D)).reply.action ≡ Byte 0x06
  pub nack : (played (read_store 0x2C)).reply.action ≡ Byte 0x15
  -- ".. MFM count 5: primary 81200222"; "a mark instead: 81A00022."
  pub counted : primary_now (left (read_on 0x22 (0x80 ∷ 0x02 ∷ 1 ∷ 2 ∷ 3 ∷ 4 ∷ 5 ∷ []) false))
      ≡ record { b0 = 0x81; b1 = 0x20; b2 = 0x02; b3 = 0x22 }
  pub marked : primary_now (left (read_on 0x22 [] true)) ≡ record { b0 = 0x81; b1 = 0xA0; b2 = 0x00; b3 = 0x22 }
  -- "Track 3, then 4: code 03."
  pub track_4 : (left (store 0x38 0x00 0x00 0x00 0x03 0x5F ++ store 0x38 0x00 0x00 0x00 0x04 0x58)).outcome.result.code
      ≡ 0x03
  -- "Count 16,384 offers GO"; "The bench case of 16,385 now offers GO." (document 02, request 3), and so does 65,535
  pub longest_before : (played (report 1 0x22 ∷ store 0x59 0x00 0x00 0x40 0x00 0x7D)).reply.action ≡ Byte 0x47
  pub longer : (played (report 1 0x22 ∷ store 0x59 0x00 0x00 0x40 0x01 0x7C)).reply.action ≡ Byte 0x47
  pub longest : (played (report 1 0x22 ∷ store 0x59 0x00 0x00 0xFF 0xFF 0x3D)).reply.action ≡ Byte 0x47
  -- "Drive 7: 01."
  pub drive_7 : (left (store 0x4F 0x00 0x00 0x00 0x00 0x2B)).outcome.result.code ≡ 0x01
  -- "Read with report #A2: 04."
  pub at_end : (left (report 1 0xA2 ∷ store 0x49 0x00 0x00 0x00 0x00 0x2D)).outcome.result.code ≡ 0x04
  -- "c = 600, mark 9 on blockette 1, 3 on check 0: 91013200, code 15."
  pub one_of_each_lem : (left (gcr_read (image_of (replicate 600 7) 1) (15 ∷ 9 ∷ 15 ∷ 15 ∷ 3 ∷ []))).tertiary
      ≡ record { b0 = 0x91; b1 = 0x01; b2 = 0x32; b3 = 0x00 }
  pub code_15 : (left (gcr_read (image_of (replicate 600 7) 1) (15 ∷ 9 ∷ 15 ∷ 15 ∷ 3 ∷ []))).outcome.result.code ≡ 0x15
  -- "6 on 2, 4 on 0: 00006102, quintary 00004100, code 16, 512 bytes."
  pub two_even_lem : (left (gcr_read (image_of (replicate 600 7) 1) (6 ∷ 15 ∷ 4 ∷ 15 ∷ 15 ∷ []))).tertiary
      ≡ record { b0 = 0x00; b1 = 0x00; b2 = 0x61; b3 = 0x02 }
  pub stopped : (left (gcr_read (image_of (replicate 600 7) 1) (6 ∷ 15 ∷ 4 ∷ 15 ∷ 15 ∷ []))).quintary
      ≡ record { b0 = 0x00; b1 = 0x00; b2 = 0x41; b3 = 0x00 }
  pub code_16 : (left (gcr_read (image_of (replicate 600 7) 1) (6 ∷ 15 ∷ 4 ∷ 15 ∷ 15 ∷ []))).outcome.result.code ≡ 0x16
  pub bytes_512 : (played (gcr_read (image_of (replicate 600 7) 1) (6 ∷ 15 ∷ 4 ∷ 15 ∷ 15 ∷ []))).space
      ≡ replicate 512 7 ++ replicate 88 0
  -- "c = 1, byte 5A: the 257th check byte is 5A."
  pub check_257 : get_or (played (gcr_write 0x5A)).check 256 0 ≡ 0x5A
  -- "The first blockette counts as a data error with mark 0 .., and its bytes are delivered as zeros."; "A result sets
  -- bits 21 and 22"
  pub torn_tertiary : (left torn_read).tertiary ≡ record { b0 = 0x00; b1 = 0x00; b2 = 0x01; b3 = 0x02 }
  pub torn_code : (left torn_read).outcome.result.code ≡ 0x15
  pub torn_bytes_lem : (played torn_read).space ≡ replicate 256 0 ++ replicate 256 2 ++ replicate 88 3
  pub torn_count : (left torn_read).outcome.result.count ≡ 600
  pub torn_primary : primary_now (left torn_read) ≡ record { b0 = 0xA1; b1 = 0x35; b2 = 0x07; b3 = 0x22 }
  -- and the check blockettes from which the host restores it: the odd one is blockette 1, the even one blockettes 2 and
  -- 0
  pub torn_check : (played torn_read).check ≡ replicate 256 2 ++ replicate 88 2 ++ replicate 168 1
  -- "The byte itself is written as it came, every record byte after it is zero, and bit 16 is set." (document 02,
  -- request 6)
  pub bad_byte_lem : (played (mfm_write six_bytes 3)).space ≡ 0x80 ∷ 0x01 ∷ 0x33 ∷ 0x44 ∷ 0x00 ∷ 9 ∷ []
  pub bad_bit : primary_now (left (mfm_write six_bytes 3)) ≡ record { b0 = 0x81; b1 = 0x00; b2 = 0x80; b3 = 0x22 }
  -- "A bad byte among those thrown away makes the whole record zeros and sets that bit too."
  pub bad_thrown_away : (played (mfm_write six_bytes 1)).space ≡ 0x80 ∷ 0x01 ∷ 0x00 ∷ 0x00 ∷ 0x00 ∷ 9 ∷ []
  pub bad_thrown_bit : primary_now (left (mfm_write six_bytes 1))
      ≡ record { b0 = 0x81; b1 = 0x00; b2 = 0x80; b3 = 0x22 }
  -- "A place past the bytes that the store needs counts as none.", and so does 65,791
  pub bad_past : (played (mfm_write six_bytes 5)).space ≡ 0x80 ∷ 0x01 ∷ 0x33 ∷ 0x44 ∷ 0x55 ∷ 9 ∷ []
  pub bad_past_bit : primary_now (left (mfm_write six_bytes 5)) ≡ record { b0 = 0x81; b1 = 0x00; b2 = 0x00; b3 = 0x22 }
  pub none_bad_lem : (played (mfm_write six_bytes no_place)).space ≡ 0x80 ∷ 0x01 ∷ 0x33 ∷ 0x44 ∷ 0x55 ∷ 9 ∷ []
  -- "Underflow is flagged only where the host ran out before any bad byte."
  pub short_after_bad : primary_now (left (mfm_write (0x11 ∷ 0x22 ∷ 0x33 ∷ []) 2))
      ≡ record { b0 = 0x81; b1 = 0x00; b2 = 0x80; b3 = 0x22 }
  pub short_alone : primary_now (left (mfm_write (0x11 ∷ 0x22 ∷ 0x33 ∷ []) no_place))
      ≡ record { b0 = 0x81; b1 = 0x00; b2 = 0x20; b3 = 0x22 }
  -- "Refused: 15 a place that is neither in the host bytes nor the value for none"
  pub no_such_place_lem : (played (mfm_write six_bytes 6)).reply.refusal ≡ 15
  -- "While set, write, write mark and erase give code 04 unless the gap is 0 or BOT warning is reported." (document 02,
  -- request 7)
  pub guard_write : (left (guarded 0x22 ++ write)).outcome.result.code ≡ 0x04
  pub guard_mark : (left (guarded 0x22 ++ write_mark)).outcome.result.code ≡ 0x04
  pub guard_erase : (left (guarded 0x22 ++ erase)).outcome.result.code ≡ 0x04
  pub guard_bot_warning : (played (guarded 0x32 ++ write)).reply.action ≡ Byte 0x47
  pub guard_bot : (left (guarded 0x23 ++ write)).outcome.result.code ≡ 0x04
  -- a new track at BOT makes the gap 0
  pub guard_proper : (played (guarded 0x23 ++ store 0x39 0x00 0x00 0x00 0x01 0x5C ++ write)).reply.action ≡ Byte 0x47
  -- "Control values 0A and 0B clear and set a guard on the selected drive"
  pub guard_cleared : (played (guarded 0x22 ++ store 0x39 0x00 0x00 0x00 0x0A 0x57 ++ write)).reply.action ≡ Byte 0x47
  pub guard_of_another : (played (report 0 0x22 ∷ guarded 0x22 ++ store 0x58 0x00 0x00 0x00 0x01 0x3D)).reply.action
      ≡ Byte 0x47
  -- "it starts clear, and a reset clears it": a reset store
  pub guard_reset : (played (guarded 0x22 ++ store 0x00 0x00 0x00 0x00 0x00 0x64 ++ write)).reply.action ≡ Byte 0x47
  -- what does not write is not guarded
  pub guard_read : (played (guarded 0x22 ++ store 0x49 0x00 0x00 0x00 0x00 0x2D)).reply.action
      ≡ Order (record { b0 = 0x40; b1 = 1; b2 = 0; b3 = 0; b4 = 0; b5 = 0 })
  -- "It needs GCR, otherwise code 02"
  pub supplied_in_mfm : (left (report 1 0x22 ∷ store 0x49 0x80 0x00 0x02 0x58 0xF7)).outcome.result.code ≡ 0x02

pub bench_cases : BenchCases
unfolding pick overwrite filled ◌⊕◌ xor_all blockette_at numbered of_parity fold_parity check_of legal_mark legal_marks
    is_error torn_marks scan_from scan_marks kind_of
    number_of defect_at rotated count_bytes unrotated count_of blockette_count has_blockettes blockettes_of body_of
    image_of image_length mark_count layout_refusal whole_refusal unmarked_refusal image_refusal control_of read_of
    decode_of in_density may_move forward_codes reverse_codes end_codes supplied_codes listed_codes trailing_codes
    clear_codes is_in answer_of loses_tape motion_of gap_of gap_after own_retry code_retry retry_of reports drive_of
    with_drive with_report any_differs copy_reports fresh_drives reset_drives bit_of no_outcome any_bit primary_of
    secondary_word digits_of tertiary_of quintary_of reports_word string_of order_of start_body fresh reset_state review
    idle primary_now send_word send_interrupt complete whole_length append_byte load_xor is_good_string first_byte
    last_byte next_byte yes_to_send give_up no_to_send asks_interrupt no_to_go yes_to_go collect_byte answer_to_send
    answer_to_go tick_after_review idle_tick load_word carry_out_load store_of names_drive named_drive asked_for
    end_with settle with_track motion_order past_test order_move begin clear_outcome names_unknown selected_by test_of
    course_of follow carry_out_on carry_out check_bytes thrown_away held_count supplied_count is_place as_came
    written_bytes needed_bytes bad_byte runs_short data_refusal data_done data_for result_for takes_mark is_skip
    is_search mark_against whole_code expected_whole expected_supplied expected_of result_refusal moves_tape is_gone
    marks_read code_reported final_code reads_gcr result_tertiary result_quintary result_check read_bytes fitting
    wrote_well result_count result_bits with_retry end_operation result_done is_found findings_of checks_alone
    data_words settle_data record_count used_count verdict_of read_count delivered_bytes torn_bytes bytes_read
    result_words result_gap settle_result sound_drive sound_drives sound_body sound_lead sound_part sound_string
    sound_phase is_sound byte_in broken_in tick_in byte_call broken_call tick_call carry_out_string taken_in taken_call
    report_call reset_call data_in data_call result_in result_call step
bench_cases =
    record {
      ack = refl;
      nack = refl;
      counted = refl;
      marked = refl;
      track_4 = refl;
      longest_before = refl;
      longer = refl;
      longest = refl;
      drive_7 = refl;
      at_end = refl;
      one_of_each_lem = refl;
      code_15 = refl;
      two_even_lem = refl;
      stopped = refl;
      code_16 = refl;
      bytes_512 = refl;
      check_257 = refl;
      torn_tertiary = refl;
      torn_code = refl;
      torn_bytes_lem = refl;
      torn_count = refl;
      torn_primary = refl;
      torn_check = refl;
      bad_byte_lem = refl;
      bad_bit = refl;
      bad_thrown_away = refl;
      bad_thrown_bit = refl;
      bad_past = refl;
      bad_past_bit = refl;
      none_bad_lem = refl;
      short_after_bad = refl;
      short_alone = refl;
      no_such_place_lem = refl;
      guard_write = refl;
      guard_mark = refl;
      guard_erase = refl;
      guard_bot_warning = refl;
      guard_bot = refl;
      guard_proper = refl;
      guard_cleared = refl;
      guard_of_another = refl;
      guard_reset = refl;
      guard_read = refl;
      supplied_in_mfm = refl;
    }
