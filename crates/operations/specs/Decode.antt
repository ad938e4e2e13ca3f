-- What a store asks for (document 01, Stores; document 02, request 1), by its operation, address bits 1-3, and its
-- first and last operand byte. Its count is not looked at: "no 16-bit count is above" the limit (document 02,
-- request 10).
-- Assumes nothing.
use Rattle.std.specs.Prelude.{ℕ, true, false, ◌&&◌, leb, eqb}
use Rattle.common.specs.Pick.{pick}
use Rattle.status.specs.Drives.{mfm}
use Rattle.operations.specs.Codes.{illegal_store, illegal_track}
use Rattle.operations.specs.Operation.{supplies_count}
use Rattle.operations.specs.declared.operation.Operation.TheVariants.{Read, CheckBytes, SuppliedCount, Write}
use Rattle.operations.specs.declared.operation.Operation.TheVariants.{Erase, Rewind, FastForward, SkipForward}
use Rattle.operations.specs.declared.operation.Operation.TheVariants.{SkipReverse, SearchForward, SearchReverse}
use Rattle.operations.specs.declared.operation.Operation.TheVariants.{WriteMark}
use Rattle.operations.specs.declared.decode.Decoded.{Decoded}
use Rattle.operations.specs.declared.decode.Decoded.TheVariants.{Reset, Code, Track, Enable, Guard, Density}
use Rattle.operations.specs.declared.decode.Decoded.TheVariants.{Operate}

-- "3, by last operand byte: 00-03 track, 04-07 code 03; 08/09 clear/set enable; 0C/0D density 0/1; 10 rewind, 11 fast
-- forward, 20/21 skip forward/reverse, 22/23 mark search forward/reverse, 24 write mark; others code 02"; "Control
-- values 0A and 0B clear and set a guard on the selected drive" (document 02, request 7)
unfoldable pub control_of : ℕ → Decoded
control_of value =
    pick (leb value 0x03) (Track value)
    (pick (leb value 0x07) (Code illegal_track)
    (pick (eqb value 0x08) (Enable false)
    (pick (eqb value 0x09) (Enable true)
    (pick (eqb value 0x0A) (Guard false)
    (pick (eqb value 0x0B) (Guard true)
    (pick (eqb value 0x0C) (Density 0)
    (pick (eqb value 0x0D) (Density 1)
    (pick (eqb value 0x10) (Operate Rewind)
    (pick (eqb value 0x11) (Operate FastForward)
    (pick (eqb value 0x20) (Operate SkipForward)
    (pick (eqb value 0x21) (Operate SkipReverse)
    (pick (eqb value 0x22) (Operate SearchForward)
    (pick (eqb value 0x23) (Operate SearchReverse)
    (pick (eqb value 0x24) (Operate WriteMark) (Code illegal_store)))))))))))))))

-- "4, by first operand byte: 00 read, 40 send check bytes, others 02"; "a store to operation 4 with first operand byte
-- 80"
unfoldable pub read_of : ℕ → Decoded
read_of first =
    pick (eqb first 0x00) (Operate Read)
    (pick (eqb first 0x40) (Operate CheckBytes) (pick (eqb first 0x80) (Operate SuppliedCount) (Code illegal_store)))

-- "0: reset"; "1, 2, 7: code 02"; "5: write"; "6: erase"
unfoldable pub decode_of : ℕ → ℕ → ℕ → Decoded
decode_of operation first last =
    pick (eqb operation 0) Reset
    (pick (eqb operation 3) (control_of last)
    (pick (eqb operation 4) (read_of first)
    (pick (eqb operation 5) (Operate Write) (pick (eqb operation 6) (Operate Erase) (Code illegal_store)))))

-- for a drive of this density: a supplied count "needs GCR, otherwise code 02"
unfoldable pub in_density : ℕ → Decoded → Decoded
in_density density (Operate operation) =
    pick (supplies_count operation && eqb density mfm) (Code illegal_store) (Operate operation)
in_density density Reset = Reset
in_density density (Code code) = Code code
in_density density (Track track) = Track track
in_density density (Enable enable) = Enable enable
in_density density (Guard guard) = Guard guard
in_density density (Density chosen) = Density chosen
