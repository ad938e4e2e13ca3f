-- Laws of digits: a loop over them, the bytes and the number that they spell.
-- Assumes nothing.
use mathlib.Core.Path.{◌≡◌, refl, sym, ap, ◌∙◌}
use Prim.Native.Nat.{ℕ, zero, suc, ◌+◌, ◌*◌, ◌/◌, ◌≤◌, ◌<◌, min}
use native.Mathlib.Numerals.{add-one}
use native.Mathlib.Nat.{lt_of_not-le}
use native.Mathlib.Decide.{dec_le}
use native.Mathlib.Omega.{arith}
use mathlib.Core.Bool.{Bool, true, false, ◌&&◌}
use mathlib.Core.List.{List, [], ◌∷◌}
use lib.Dec.{leb}
use lib.ListN.{length, get_or, take, drop, drop_of_length-le}
use lib.Seq.{drop-cons, take_at}
use Rattle.common.specs.Space.{overwrite}
use borrow.Author.Tests.{le-leb, lt-leb}
use Rattle.text.specs.Limits.{field_cap}
use Rattle.text.specs.Digits.{digit_value, is_digit, all_digits, byte_value, bytes_of, decimal_from}

-- ---- tests

joined : (x y z : Bool) → ((x && y) && z) ≡ (x && (y && z))
joined true y z = refl
joined false y z = refl

and_true : (x : Bool) → (x && true) ≡ x
and_true true = refl
and_true false = refl

-- one byte more is tested, and none is left
pub digits_next : (base : ℕ) (s : List ℕ) (at : ℕ) (good : Bool) → at < length s
    → ((good && is_digit base (get_or s at 0)) && all_digits base (drop (at + 1) s))
    ≡ (good && all_digits base (drop at s))
unfolding all_digits
digits_next base s at good below =
    rw (add-one, drop-cons s at 0 below)
    (joined good (is_digit base (get_or s at 0)) (all_digits base (drop (suc at) s)))

pub digits_end : (base : ℕ) (s : List ℕ) (at : ℕ) (good : Bool) → length s ≤ at
    → (good && all_digits base (drop at s)) ≡ good
unfolding all_digits
digits_end base s at good done = rw (drop_of_length-le s done) (and_true good)

-- ---- bytes

pub bytes_length : (s : List ℕ) → length (bytes_of s) ≡ length s / 2
unfolding bytes_of
bytes_length [] = refl
bytes_length (high ∷ []) = refl
bytes_length (high ∷ low ∷ s) = omega (arith, bytes_length s)

double : (i : ℕ) → 2 * suc i ≡ suc (suc (2 * i))
double i = omega arith

double_next : (i : ℕ) → 2 * suc i + 1 ≡ suc (suc (2 * i + 1))
double_next i = omega arith

pub bytes_at : (s : List ℕ) (i : ℕ) → i < length s / 2
    → get_or (bytes_of s) i 0 ≡ byte_value (get_or s (2 * i) 0) (get_or s (2 * i + 1) 0)
unfolding bytes_of
bytes_at [] i p = let none : ⊥ = omega arith in absurd none
bytes_at (high ∷ []) i p = let none : ⊥ = omega arith in absurd none
bytes_at (high ∷ low ∷ s) zero p = refl
bytes_at (high ∷ low ∷ s) (suc i) p = rw (double_next i, double i) (bytes_at s i (omega arith))

-- the bytes as they stand in a space that they were put into
pub bytes_overwritten : (s space : List ℕ) → take (length s / 2) (overwrite (bytes_of s) space) ≡ bytes_of s
unfolding overwrite
bytes_overwritten s space = take_at (bytes_of s) (drop (length (bytes_of s)) space) (length s / 2) (bytes_length s)

-- ---- decimals

-- a number that is cut at the most stays there
cut_twice : (v digit : ℕ) → min (10 * min v field_cap + digit) field_cap ≡ min (10 * v + digit) field_cap
cut_twice v digit = omega arith

capped_from : (value : ℕ) (s : List ℕ)
    → min (decimal_from (min value field_cap) s) field_cap ≡ min (decimal_from value s) field_cap
unfolding decimal_from
capped_from value [] = omega arith
capped_from value (d ∷ s) =
    sym (capped_from (10 * min value field_cap + digit_value d) s)
    ∙ ap (λ (x : ℕ). min (decimal_from x s) field_cap) (cut_twice value (digit_value d))
    ∙ capped_from (10 * value + digit_value d) s

-- one digit more
pub decimal_next : (s : List ℕ) (at value : ℕ) → at < length s
    → min (decimal_from (min (10 * value + digit_value (get_or s at 0)) field_cap) (drop (at + 1) s)) field_cap
    ≡ min (decimal_from value (drop at s)) field_cap
unfolding decimal_from
decimal_next s at value below =
    rw (add-one, drop-cons s at 0) (capped_from (10 * value + digit_value (get_or s at 0)) (drop (suc at) s))

-- a limit below the most sees no cut
pub limit_capped : (x limit : ℕ) → limit < field_cap → leb (min x field_cap) limit ≡ leb x limit
limit_capped x limit h =
    elim (dec_le x limit) [
      | yes within ↦ let fits : min x field_cap ≤ limit = omega arith in le-leb _ _ fits ∙ sym (le-leb _ _ within)
      | no over ↦
          let past : limit < x = lt_of_not-le over in
          let cut : limit < min x field_cap = omega arith in
          lt-leb _ _ cut ∙ sym (lt-leb _ _ past)
    ]
