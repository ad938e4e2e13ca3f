-- Laws of `overwrite` and `filled`: where the bytes stand, how long the whole is, and that filling twice is filling
-- once.
-- Assumes nothing.
use mathlib.Core.Path.{◌≡◌, ap, ◌∙◌}
use Prim.Native.Nat.{ℕ, ◌+◌, ◌-◌, ◌≤◌}
use native.Mathlib.Nat.{sub_self}
use native.Mathlib.Omega.{arith}
use mathlib.Core.List.{List, ◌++◌, append-nil, append_assoc}
use lib.ListN.{length, take, drop, replicate, length-append, length-replicate, replicate-append-replicate}
use lib.ListN.{drop_of_length-le}
use lib.Seq.{take-append_seam}
use Rattle.common.specs.Space.{overwrite, filled}

-- bytes that fill the whole space
pub overwritten_all : (bytes space : List ℕ) → length space ≤ length bytes → overwrite bytes space ≡ bytes
unfolding overwrite
overwritten_all bytes space h = ap (λ (x : List ℕ). bytes ++ x) (drop_of_length-le space h) ∙ append-nil bytes

-- bytes that are given stand at the start of the space
pub overwritten_front : (bytes space : List ℕ) → take (length bytes) (overwrite bytes space) ≡ bytes
unfolding overwrite
overwritten_front bytes space = take-append_seam bytes (drop (length bytes) space)

pub overwritten_room : (bytes space : List ℕ) → length bytes ≤ length (overwrite bytes space)
unfolding overwrite
overwritten_room bytes space = simp length-append (omega arith)

pub filled_length : (bytes : List ℕ) (n : ℕ) → length bytes ≤ n → length (filled bytes n) ≡ n
unfolding filled
filled_length bytes n h = simp (length-append, length-replicate) (omega arith)

-- bytes that need no filling
pub filled_self : (bytes : List ℕ) → filled bytes (length bytes) ≡ bytes
unfolding filled
filled_self bytes = ap (λ (k : ℕ). bytes ++ replicate k 0) (sub_self (length bytes)) ∙ append-nil bytes

-- filled and filled further
rest_sum : (a m n : ℕ) → a ≤ m → m ≤ n → m - a + (n - m) ≡ n - a
rest_sum a m n h k = omega arith

pub filled_further : (bytes : List ℕ) (m n : ℕ) → length bytes ≤ m → m ≤ n → filled (filled bytes m) n ≡ filled bytes n
unfolding filled
filled_further bytes m n h k =
    ap (λ (x : ℕ). bytes ++ replicate (m - length bytes) 0 ++ replicate (n - x) 0) (filled_length bytes m h)
    ∙ append_assoc bytes (replicate (m - length bytes) 0) (replicate (n - m) 0)
    ∙ ap (λ (x : List ℕ). bytes ++ x)
    (replicate-append-replicate (m - length bytes) (n - m) 0
    ∙ ap (λ (x : ℕ). replicate x 0) (rest_sum (length bytes) m n h k))
