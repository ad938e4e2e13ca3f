-- A word of 16 bits rotated by one, by division.
-- Assumes nothing.
use Rattle.std.proofs.Common.{◌≡◌, ℕ, ◌+◌, ◌*◌, ◌/◌, ◌%◌, ◌<◌, ap, ◌∙◌, bit_or, arith}
use Rattle.std.specs.Int.Bits.{or_shifted_r}
use Rattle.std.proofs.lemmas.Nat.{or_shifted}

pub rotated_right : (n : ℕ) → n < 65536 → bit_or (n / 2) (n * 32768 % 65536) ≡ n / 2 + n % 2 * 32768
rotated_right n within =
    let high : n * 32768 % 65536 ≡ n % 2 * 32768 = omega arith in
    let turned : n % 2 * 32768 + n / 2 ≡ n / 2 + n % 2 * 32768 = omega arith in
    ap (bit_or (n / 2)) high ∙ or_shifted_r (n % 2) 15 (n / 2) (omega arith) ∙ turned

pub rotated_left : (n : ℕ) → n < 65536 → bit_or (n * 2 % 65536) (n / 32768) ≡ n % 32768 * 2 + n / 32768
rotated_left n within =
    let high : n * 2 % 65536 ≡ n % 32768 * 2 = omega arith in
    ap (λ (h : ℕ). bit_or h (n / 32768)) high ∙ or_shifted (n % 32768) 1 (n / 32768) (omega arith)
