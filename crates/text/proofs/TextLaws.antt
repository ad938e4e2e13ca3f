-- Laws of text: bytes in hexadecimal, one byte more; a record; a number in decimal, digit by digit.
-- Assumes nothing.
use mathlib.Core.Path.{◌≡◌, refl, sym, ap, ◌∙◌}
use Prim.Native.Nat.{ℕ, suc, ◌+◌, ◌-◌, ◌*◌, ◌/◌, ◌%◌, ◌≤◌, ◌<◌}
use native.Mathlib.Numerals.{add-one}
use native.Mathlib.Omega.{arith}
use mathlib.Core.List.{List, [], ◌∷◌, ◌++◌, append-nil, append_assoc}
use lib.ListN.{length, get_or, take, set, length-set}
use lib.Seq.{take-suc}
use lib.Dec.{ltb}
use borrow.Author.Tests.{lt-ltb, le-ltb, ltb-true, ltb-false}
use Rattle.std.proofs.lemmas.Grind.{take-set_at}
use Rattle.common.specs.Pick.{pick}
use Rattle.common.proofs.PickLaws.{by_test}
use Rattle.text.specs.Print.{digit_of, byte_text, bytes_text, decimal_text, refusal_text}

bytes_text_join : (a b : List ℕ) → bytes_text (a ++ b) ≡ bytes_text a ++ bytes_text b
unfolding bytes_text
bytes_text_join [] b = refl
bytes_text_join (x ∷ a) b = rw (bytes_text_join a b) (simp append_assoc)

pub bytes_text_one : (b : ℕ) → bytes_text (b ∷ []) ≡ byte_text b
unfolding bytes_text byte_text
bytes_text_one b = refl

pub bytes_text_next : (s : List ℕ) (i : ℕ) → i < length s
    → bytes_text (take (i + 1) s) ≡ bytes_text (take i s) ++ byte_text (get_or s i 0)
bytes_text_next s i below =
    rw (add-one, take-suc s i 0)
    (bytes_text_join (take i s) (get_or s i 0 ∷ [])
    ∙ ap (λ (x : List ℕ). bytes_text (take i s) ++ x) (bytes_text_one (get_or s i 0)))

-- a text put after another
pub after_text : (c x y : List ℕ) {a b : List ℕ} → a ≡ b ++ y → b ≡ c ++ x → a ≡ c ++ (x ++ y)
after_text c x y p q = p ∙ ap (λ (t : List ℕ). t ++ y) q ∙ append_assoc c x y

-- two digits put at their places
two_put : (out : List ℕ) (at high low : ℕ) → at + 2 ≤ length out
    → take (at + 2) (set (set out at high) (at + 1) low) ≡ take at out ++ (high ∷ low ∷ [])
two_put out at high low room =
    let first : at < length out = omega arith in
    let second : at + 1 < length (set out at high) = rw length-set (omega arith) in
    after_text (take at out) (high ∷ []) (low ∷ []) (take-set_at _ (at + 1) (at + 2) low (omega arith) second)
    (take-set_at out at (at + 1) high refl first)

-- the digits of one byte more
pub digits_put : (out s : List ℕ) (i high low : ℕ) → i < length s → length out ≡ 2 * length s
    → take (2 * i) out ≡ bytes_text (take i s)
    → high ∷ low ∷ [] ≡ byte_text (get_or s i 0)
    → take (2 * (i + 1)) (set (set out (2 * i) high) (2 * i + 1) low) ≡ bytes_text (take (i + 1) s)
digits_put out s i high low below size before digits =
    let twice : 2 * (i + 1) ≡ 2 * i + 2 = omega arith in
    let room : 2 * i + 2 ≤ length out = omega arith in
    rw (twice, two_put out (2 * i) high low room, before, digits) (sym (bytes_text_next s i below))

-- ---- decimals

below_ten : (n : ℕ) → n < 10 → n ≡ n % 10
below_ten n h = omega arith

not_none : (most : ℕ) → (most ≡ 0 → ⊥) → most ≡ suc (most - 1)
not_none most h = omega (arith, h)

pub one_digit : (most n : ℕ) → n < 10 → decimal_text (suc most) n ≡ digit_of n ∷ []
unfolding decimal_text pick
one_digit most n h = rw (lt-ltb n 10 h)

more_digits : (most n : ℕ) → 10 ≤ n → decimal_text (suc most) n ≡ decimal_text most (n / 10) ++ (digit_of (n % 10) ∷ [])
unfolding decimal_text pick
more_digits most n h = rw (le-ltb n 10 h)

-- the only digit
pub decimal_one : (most n : ℕ) → (most ≡ 0 → ⊥) → n < 10 → decimal_text most n ≡ digit_of (n % 10) ∷ []
decimal_one most n some h =
    ap (λ (k : ℕ). decimal_text k n) (not_none most some) ∙ one_digit (most - 1) n h
    ∙ ap (λ (k : ℕ). digit_of k ∷ []) (below_ten n h)

-- the last digit
pub decimal_more : (most n : ℕ) → (most ≡ 0 → ⊥) → 10 ≤ n
    → decimal_text most n ≡ decimal_text (most - 1) (n / 10) ++ (digit_of (n % 10) ∷ [])
decimal_more most n some h = ap (λ (k : ℕ). decimal_text k n) (not_none most some) ∙ more_digits (most - 1) n h

-- no digit
pub decimal_none : (text : List ℕ) (most n : ℕ) → most ≡ 0 → text ≡ text ++ decimal_text most n
unfolding decimal_text
decimal_none text most n none = rw none (sym (append-nil text))

-- two digits, the first of a number that may have more
last_digit : (n : ℕ) → decimal_text 1 n ≡ digit_of (n % 10) ∷ []
unfolding decimal_text
last_digit n = by_test (ltb n 10)
    (λ t. decimal_one 1 n (λ e. omega (arith, e)) (ltb-true n 10 t))
    (λ t. more_digits 0 n (ltb-false n 10 t))

pub two_digits : (n : ℕ) → 10 ≤ n → refusal_text n ≡ digit_of (n / 10 % 10) ∷ digit_of (n % 10) ∷ []
two_digits n more = more_digits 1 n more ∙ ap (λ (x : List ℕ). x ++ (digit_of (n % 10) ∷ [])) (last_digit (n / 10))
