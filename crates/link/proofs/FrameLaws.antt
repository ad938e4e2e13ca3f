-- A sent string's bytes XOR to 0.
-- Assumes nothing.
use mathlib.Core.Path.{◌≡◌}
use Prim.Native.Nat.{ℕ}
use lib.Bits.{bit_xor, xor_self}
use Rattle.status.specs.declared.words.Word.{Word}
use Rattle.link.specs.declared.frames.Frame.{Frame}
use Rattle.link.specs.Frames.{string_of}

-- the XOR of six bytes
abbrev pub frame_xor : Frame → ℕ
frame_xor s = bit_xor (bit_xor (bit_xor (bit_xor (bit_xor s.b0 s.b1) s.b2) s.b3) s.b4) s.b5

-- "check (XOR 0)"
pub string_checks : (lead : ℕ) (word : Word) → frame_xor (string_of lead word) ≡ 0
unfolding string_of
string_checks lead word = xor_self (bit_xor (bit_xor (bit_xor (bit_xor lead word.b0) word.b1) word.b2) word.b3)
