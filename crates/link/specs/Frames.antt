-- Strings of six bytes (document 01, The link; Stores).
-- Assumes nothing.
use Rattle.std.specs.Prelude.{ℕ}
use Rattle.std.specs.Int.Bits.{bit_xor}
use Rattle.status.specs.declared.words.Word.{Word}
use Rattle.link.specs.declared.frames.Frame.{Frame}

-- "A sent string is six bytes: lead, four status bytes, check (XOR 0)."
unfoldable pub string_of : ℕ → Word → Frame
string_of lead word =
    record {
      b0 = lead;
      b1 = word.b0;
      b2 = word.b1;
      b3 = word.b2;
      b4 = word.b3;
      b5 = bit_xor (bit_xor (bit_xor (bit_xor lead word.b0) word.b1) word.b2) word.b3;
    }

-- "A motion order is six bytes: operation (..), drive, track, density, last two operand bytes."
unfoldable pub order_of : ℕ → ℕ → ℕ → ℕ → ℕ → ℕ → Frame
order_of operation drive track density third fourth =
    record { b0 = operation; b1 = drive; b2 = track; b3 = density; b4 = third; b5 = fourth }
