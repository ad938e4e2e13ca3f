-- The XOR of two strings of bytes, and of a whole family of them. The first string gives the length: where the second
-- is shorter, zeros stand for what it lacks. So "the last filled with zeros" (document 01, Records) needs no case of
-- its own.
-- Assumes nothing.
use Rattle.std.specs.Prelude.{ℕ, zero, suc, List, [], ◌∷◌}
use Rattle.std.specs.Int.Bits.{bit_xor}

infixl 65 ◌⊕◌
-- byte by byte, as long as the first
unfoldable pub ◌⊕◌ : List ℕ → List ℕ → List ℕ
[] ⊕ ys = []
(x ∷ xs) ⊕ [] = x ∷ xs
(x ∷ xs) ⊕ (y ∷ ys) = bit_xor x y ∷ (xs ⊕ ys)

-- `start` with the first `count` strings of a family put in by XOR
unfoldable pub xor_all : List ℕ → (ℕ → List ℕ) → ℕ → List ℕ
xor_all start family zero = start
xor_all start family (suc count) = xor_all start family count ⊕ family count
