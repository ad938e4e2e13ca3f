-- The status words (document 01, Loads, restorer, session; Records), four bytes each, high byte first. "Bits of a
-- 32-bit word count from 0, the most significant."
-- Assumes nothing.
use Rattle.std.specs.Prelude.{ℕ, ◌+◌, ◌*◌, ◌/◌, ◌%◌, Bool, false, ◌&&◌, ◌||◌}
use Rattle.common.specs.Pick.{pick}
use Rattle.marks.specs.Scan.{Defect}
use Rattle.status.specs.declared.drives.Drive.{Drive}
use Rattle.status.specs.Drives.{Drives}
use Rattle.status.specs.declared.words.Word.{Word}
use Rattle.status.specs.declared.words.Outcome.{Outcome}

-- ---- "motion 0-3; .. code 0-31; .. secondary 0-65,535"

abbrev pub last_motion : ℕ
last_motion = 3

abbrev pub last_code : ℕ
last_code = 31

abbrev pub count_limit : ℕ
count_limit = 65535

-- ---- the words

-- a bit of a byte, by its weight there
unfoldable pub bit_of : Bool → ℕ → ℕ
bit_of set weight = pick set weight 0

-- "clear primary bits 2 and 8-22"; secondary has this count. "Carry the three through the core as one record": final
-- code, motion and count (document 02, request 4)
unfoldable pub no_outcome : ℕ → Outcome
no_outcome count =
    record {
      retry = false;
      mark = false;
      result = record { code = 0; motion = 0; count = count };
      parity = false;
      overflow = false;
      underflow = false;
      wdl = false;
      rdl = false;
      supplied = false;
      counted = false;
    }

-- another count
abbrev pub with_count : Outcome → ℕ → Outcome
with_count outcome count =
    record {
      retry = outcome.retry;
      mark = outcome.mark;
      result = record { code = outcome.result.code; motion = outcome.result.motion; count = count };
      parity = outcome.parity;
      overflow = outcome.overflow;
      underflow = outcome.underflow;
      wdl = outcome.wdl;
      rdl = outcome.rdl;
      supplied = outcome.supplied;
      counted = outcome.counted;
    }

-- a bad byte: "bit 16 is set" (document 02, request 6); "fewer host bytes than thrown away plus count: zeros fill, bit
-- 18"
abbrev pub with_host_errors : Outcome → Bool → Bool → Outcome
with_host_errors outcome bad short =
    record {
      retry = outcome.retry;
      mark = outcome.mark;
      result = outcome.result;
      parity = outcome.parity || bad;
      overflow = outcome.overflow;
      underflow = outcome.underflow || short;
      wdl = outcome.wdl;
      rdl = outcome.rdl;
      supplied = outcome.supplied;
      counted = outcome.counted;
    }

-- "any of bits 16-20", of which bit 19 does not count everywhere (document 02, request 2)
unfoldable pub any_bit : Outcome → Bool → Bool
any_bit outcome wdl_counts =
    outcome.parity || (outcome.overflow || (outcome.underflow || ((outcome.wdl && wdl_counts) || outcome.rdl)))

-- "Primary: changed, enable, retry, track (3-5), drive (6-7), .."
abbrev pub primary_first : Bool → Bool → Outcome → ℕ → Drive → ℕ
primary_first changed enable outcome selected drive =
    bit_of changed 128 + bit_of enable 64 + bit_of outcome.retry 32 + drive.track % 8 * 4 + selected % 4

-- ".. mark, motion (9-10), code (11-15), .."
abbrev pub primary_second : Outcome → ℕ
primary_second outcome = bit_of outcome.mark 128 + outcome.result.motion % 4 * 32 + outcome.result.code % 32

-- ".. 16-22 as said, density, .."
abbrev pub primary_third : Outcome → Drive → ℕ
primary_third outcome drive =
    bit_of outcome.parity 128 + bit_of outcome.overflow 64 + bit_of outcome.underflow 32
    + bit_of outcome.wdl 16 + bit_of outcome.rdl 8
    + bit_of outcome.supplied 4
    + bit_of outcome.counted 2
    + drive.density % 2

-- ".. report."
unfoldable pub primary_of : Bool → Bool → Outcome → ℕ → Drive → Word
primary_of changed enable outcome selected drive =
    record {
      b0 = primary_first changed enable outcome selected drive;
      b1 = primary_second outcome;
      b2 = primary_third outcome drive;
      b3 = drive.report;
    }

-- secondary: the count of the record, in the last two bytes
unfoldable pub secondary_word : ℕ → Word
secondary_word count = record { b0 = 0; b1 = 0; b2 = count / 256 % 256; b3 = count % 256 }

-- "mark and kind .. as two digits"
unfoldable pub digits_of : Defect → ℕ
digits_of defect = defect.mark % 16 * 16 + defect.kind % 16

-- "zero where none"
abbrev pub zero_word : Word
zero_word = record { b0 = 0; b1 = 0; b2 = 0; b3 = 0 }

-- "Tertiary: first odd error's mark and kind (1 data, 2 check) as two digits, its number, then the same for even; zero
-- where none."
unfoldable pub tertiary_of : Defect → Defect → Word
tertiary_of odd even = record { b0 = digits_of odd; b1 = odd.number; b2 = digits_of even; b3 = even.number }

-- "Quintary: 00 00, mark and kind, number of the stopping one."
unfoldable pub quintary_of : Defect → Word
quintary_of stop = record { b0 = 0; b1 = 0; b2 = digits_of stop; b3 = stop.number }

-- load 4: "reports, drive 0 first"
unfoldable pub reports_word : Drives → Word
reports_word drives =
    record { b0 = drives.zero.report; b1 = drives.one.report; b2 = drives.two.report; b3 = drives.three.report }
