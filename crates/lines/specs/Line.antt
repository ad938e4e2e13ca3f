-- What a line of the session says (document 01, Loads, restorer, session): "The session program reads lines B,byte; T;
-- X (broken); S,drive,byte; D,host; R,code,mark,late,image,marks,space; K; Z (reset)". A line is given without its #0A.
-- Assumes nothing.
use Rattle.std.specs.Prelude.{ℕ, Bool, ◌&&◌, List, ltb, eqb, length, drop, get_or, Option, None, Some}
use Rattle.common.specs.Pick.{pick}
use Rattle.text.specs.Limits.{byte_limit}
use Rattle.text.specs.Characters.{comma}
use Rattle.text.specs.Digits.{is_byte, byte_of, is_bytes, bytes_of, is_decimal, decimal_of}
use Rattle.text.specs.Hex.{hex_bytes}
use Rattle.text.specs.Fields.{field_of, after_field, after_fields}
use Rattle.lines.specs.Limits.{host_limit, image_limit, marks_limit, flag_limit}
use Rattle.lines.specs.Characters.{byte_letter, taken_letter, broken_letter, report_letter}
use Rattle.lines.specs.Characters.{data_letter, result_letter, tick_letter, reset_letter}
use Rattle.lines.specs.declared.line.Call.{Call}
use Rattle.lines.specs.declared.line.Call.TheVariants.{Plain, Lent}
use Rattle.lines.specs.declared.line.LentCall.{LentCall}
use Rattle.lines.specs.declared.line.LentCall.TheVariants.{HostData, Result}
use Rattle.lines.specs.declared.line.PlainCall.{PlainCall}
use Rattle.lines.specs.declared.line.PlainCall.TheVariants.{Byte, Taken, Broken, Report, Tick, Reset}

-- "B,byte; T; X (broken); S,drive,byte; D,host; R,..; K; Z (reset)", or a line that is none of them
pub data Line : Type 0 where
  unreadable : Line
  byte : ℕ → Line
  taken : Line
  broken : Line
  report : ℕ → ℕ → Line
  host_data : List ℕ → Line
  result : ℕ → Bool → ℕ → List ℕ → List ℕ → ℕ → Line
  tick : Line
  reset : Line

-- ---- the lines

-- "T; X (broken); .. K; Z (reset)"
unfoldable pub bare_line : ℕ → Line
bare_line letter =
    pick (eqb letter taken_letter) taken
    (pick (eqb letter broken_letter) broken
    (pick (eqb letter tick_letter) tick (pick (eqb letter reset_letter) reset unreadable)))

-- "B,byte"
unfoldable pub byte_line : List ℕ → Line
byte_line s = pick (is_byte s) (byte (byte_of s)) unreadable

-- "S,drive,byte": "Drive .. 0-255"
unfoldable pub report_line : List ℕ → Line
report_line s =
    pick (is_decimal byte_limit (field_of s) && is_byte (after_field s))
    (report (decimal_of (field_of s)) (byte_of (after_field s)))
    unreadable

-- "D,host": "Host bytes and space go to 16,384"
unfoldable pub data_line : List ℕ → Line
data_line s = pick (is_bytes host_limit s) (host_data (bytes_of s)) unreadable

-- "Drive, late (both 0-255), mark (0 or 1) and space are decimal. Host bytes and space go to 16,384, an image to 16,898
-- bytes, marks to 66"
unfoldable pub fields_line : List ℕ → List ℕ → List ℕ → List ℕ → List ℕ → List ℕ → Line
fields_line code mark late image marks space =
    pick
    (is_byte code
    && (is_decimal flag_limit mark
    && (is_decimal byte_limit late
    && (is_bytes image_limit image && (is_bytes marks_limit marks && is_decimal host_limit space)))))
    (result (byte_of code) (eqb (decimal_of mark) 1) (decimal_of late) (bytes_of image) (bytes_of marks)
    (decimal_of space))
    unreadable

-- "R,code,mark,late,image,marks,space"
unfoldable pub result_line : List ℕ → Line
result_line s =
    fields_line (field_of s) (field_of (after_fields 1 s)) (field_of (after_fields 2 s))
    (field_of (after_fields 3 s)) (field_of (after_fields 4 s)) (after_fields 5 s)

-- a letter and a comma, and what comes after them
unfoldable pub call_line : ℕ → List ℕ → Line
call_line letter s =
    pick (eqb letter byte_letter) (byte_line s)
    (pick (eqb letter report_letter) (report_line s)
    (pick (eqb letter data_letter) (data_line s) (pick (eqb letter result_letter) (result_line s) unreadable)))

-- what a line says: one letter alone, or a letter with its fields
unfoldable pub line_of : List ℕ → Line
line_of line =
    pick (ltb (length line) 2) (pick (eqb (length line) 1) (bare_line (get_or line 0 0)) unreadable)
    (pick (eqb (get_or line 1 0) comma) (call_line (get_or line 0 0) (drop 2 line)) unreadable)

-- ---- what the code reads

-- a call that is lent nothing
unfoldable pub plain_line : PlainCall → Line
plain_line (Byte b) = byte b
plain_line Taken = taken
plain_line Broken = broken
plain_line (Report drive b) = report drive b
plain_line Tick = tick
plain_line Reset = reset

-- a call that is lent space
unfoldable pub lent_line : LentCall → Line
lent_line (HostData host) = host_data (hex_bytes host)
lent_line (Result f) = result f.code f.mark f.late (hex_bytes f.image) (hex_bytes f.marks) f.space

-- a call
unfoldable pub call_read : Call → Line
call_read (Plain call) = plain_line call
call_read (Lent call) = lent_line call

-- the line that was read
unfoldable pub line_read : Option Call → Line
line_read None = unreadable
line_read (Some call) = call_read call
