-- What an operation leaves (document 01, Records; document 02, request 2): motion, gap and retry.
-- Assumes nothing.
use Rattle.std.specs.Prelude.{ℕ, Bool, false, not, ◌&&◌, ◌||◌, eqb}
use Rattle.common.specs.Pick.{pick}
use Rattle.status.specs.declared.words.Outcome.{Outcome}
use Rattle.status.specs.Drives.{gap_proper, gap_improper, gap_unfinished, gap_lost}
use Rattle.operations.specs.declared.operation.Operation.{Operation}
use Rattle.operations.specs.declared.operation.Motion.{Motion}
use Rattle.operations.specs.declared.operation.Motion.TheVariants.{Still, Forward, Reverse, Rewinding, Winding}
use Rattle.operations.specs.declared.operation.Motion.TheVariants.{Writing, Erasing}
use Rattle.operations.specs.Codes.{recoverable}
use Rattle.operations.specs.Answers.{never_reported, asks_retry, answer_of}

-- motion "11": nobody knows where the tape is
abbrev pub lost : ℕ
lost = 3

-- "codes 6, 7, 8, 9, 17, 18"
unfoldable pub loses_tape : ℕ → Bool
loses_tape code = eqb code 0x6 || (eqb code 0x7 || (eqb code 0x8 || (eqb code 0x9 || (eqb code 0x17 || eqb code 0x18))))

-- "else forward moves, fast forward, write and write mark 01, reverse and rewind 10, erase and check bytes 00"
abbrev pub usual_motion : Motion → ℕ
usual_motion Still = 0
usual_motion Forward = 1
usual_motion Reverse = 2
usual_motion Rewinding = 2
usual_motion Winding = 1
usual_motion Writing = 1
usual_motion Erasing = 0

-- "Motion: codes .. give 11; else .."
unfoldable pub motion_of : Motion → ℕ → ℕ
motion_of move code = pick (loses_tape code) lost (usual_motion move)

-- "reverse and rewind 0; fast forward 3; writes and write mark 0 for code 0 else 2; others 0 for code 0 else 1"
unfoldable pub gap_of : Motion → ℕ → ℕ
gap_of Still code = pick (eqb code 0) gap_proper gap_improper
gap_of Forward code = pick (eqb code 0) gap_proper gap_improper
gap_of Reverse code = gap_proper
gap_of Rewinding code = gap_proper
gap_of Winding code = gap_lost
gap_of Writing code = pick (eqb code 0) gap_proper gap_unfinished
gap_of Erasing code = pick (eqb code 0) gap_proper gap_improper

-- "Gap: 00 keeps it, 11 gives 3; .."
unfoldable pub gap_after : Motion → ℕ → ℕ → ℕ
gap_after move code gap =
    pick (eqb (motion_of move code) 0) gap (pick (eqb (motion_of move code) lost) gap_lost (gap_of move code))

-- ---- retry (document 02, request 2)

-- a code that no result reports, 01 to 05, 15 or 16: "code 15 where only check blockettes are bad" leaves bit 2 clear,
-- every other sets it
unfoldable pub own_retry : ℕ → Bool → Bool
own_retry code checks_alone = not (eqb code recoverable && checks_alone)

-- a code that a result reports: "1 reported and no retry, 2 reported with retry"
unfoldable pub code_retry : Operation → ℕ → Bool → Bool
code_retry operation code checks_alone =
    pick (eqb (answer_of operation code) never_reported) (own_retry code checks_alone)
    (eqb (answer_of operation code) asks_retry)

-- "Bit 2 (retry)": by the final code, or by any of bits 16-20 that counts
unfoldable pub retry_of : Operation → ℕ → Bool → Bool → Bool
retry_of operation code checks_alone any_bit = code_retry operation code checks_alone || any_bit

-- "A code here ends the store with motion 00."
abbrev pub with_code : Outcome → ℕ → Outcome
with_code outcome code =
    record {
      retry = own_retry code false;
      mark = outcome.mark;
      result = record { code = code; motion = 0; count = outcome.result.count };
      parity = outcome.parity;
      overflow = outcome.overflow;
      underflow = outcome.underflow;
      wdl = outcome.wdl;
      rdl = outcome.rdl;
      supplied = outcome.supplied;
      counted = outcome.counted;
    }
