-- Laws of digits: what is printed is read back.
-- Assumes nothing.
use mathlib.Core.Path.{◌≡◌, refl, sym, ap, ◌∙◌}
use Prim.Native.Nat.{ℕ, zero, suc, ◌+◌, ◌-◌, ◌*◌, ◌/◌, ◌%◌, ◌^◌, ◌≤◌, ◌<◌}
use native.Mathlib.Nat.{pow-suc}
use native.Mathlib.Omega.{arith}
use mathlib.Core.Bool.{true, false, false≢true}
use mathlib.Core.List.{List, [], ◌∷◌, ◌++◌}
use lib.Dec.{eqb, ltb}
use lib.ListN.{length, length-append}
use lib.Seq.{drop-append-add}
use borrow.Author.Tests.{lt-ltb, le-ltb, le-leb, lt-leb, ne_eqb, ltb-true, ltb-false}
use Rattle.common.specs.Pick.{pick}
use Rattle.common.proofs.PickLaws.{by_test, both_hold, pick_yes, pick_no}
use Rattle.text.specs.Digits.{digit_value, is_digit, all_digits, byte_value, is_byte, byte_of, decimal_from, decimal_of}
use Rattle.text.specs.Digits.{is_decimal}
use Rattle.text.specs.Fields.{part_of, after}
use Rattle.text.specs.Print.{digit_of, byte_text}
use Rattle.text.specs.Characters.{colon}
use Rattle.text.specs.Print.{decimal_text}

-- ---- one digit

figure : (k : ℕ) → k < 10 → digit_of k ≡ 48 + k
unfolding digit_of
figure k l = pick_yes _ _ (lt-ltb k 10 l)

letter : (k : ℕ) → 10 ≤ k → digit_of k ≡ 65 + k - 10
unfolding digit_of
letter k l = pick_no _ _ (le-ltb k 10 l)

figure_value : (d : ℕ) → d ≤ 57 → digit_value d ≡ d % 16
unfolding digit_value
figure_value d l = pick_yes _ _ (le-leb d 57 l)

letter_value : (d : ℕ) → 57 < d → digit_value d ≡ (d % 16 + 9) % 16
unfolding digit_value
letter_value d l = pick_no _ _ (lt-leb d 57 l)

figure_back : (k : ℕ) → k < 10 → digit_value (48 + k) ≡ k
figure_back k l = figure_value (48 + k) (omega arith) ∙ omega arith

letter_back : (k : ℕ) → 10 ≤ k → k < 16 → digit_value (65 + k - 10) ≡ k
letter_back k l m = letter_value (65 + k - 10) (omega arith) ∙ omega arith

digit_back : (k : ℕ) → k < 16 → digit_value (digit_of k) ≡ k
digit_back k l = by_test (ltb k 10)
    (λ t. ap digit_value (figure k (ltb-true k 10 t)) ∙ figure_back k (ltb-true k 10 t))
    (λ t. ap digit_value (letter k (ltb-false k 10 t)) ∙ letter_back k (ltb-false k 10 t) l)

figure_is : (base d : ℕ) → 48 ≤ d → d ≤ 57 → digit_value d < base → is_digit base d ≡ true
unfolding is_digit
figure_is base d a b c = rw (le-leb 48 d a, le-leb d 57 b, lt-ltb (digit_value d) base c)

letter_is : (base d : ℕ) → 65 ≤ d → d ≤ 70 → digit_value d < base → is_digit base d ≡ true
unfolding is_digit
letter_is base d a b c =
    rw (
      le-leb 48 d (omega arith),
      lt-leb d 57 (omega arith),
      le-leb 65 d a,
      le-leb d 70 b,
      lt-ltb (digit_value d)
          base c,
    )

digit_is : (base k : ℕ) → k < 16 → k < base → is_digit base (digit_of k) ≡ true
digit_is base k l m = by_test (ltb k 10)
    (λ t. ap (is_digit base) (figure k (ltb-true k 10 t))
    ∙ figure_is base (48 + k) (omega arith) (omega (arith, ltb-true k 10 t))
    (omega (arith, figure_back k (ltb-true k 10 t), m)))
    (λ t. ap (is_digit base) (letter k (ltb-false k 10 t))
    ∙ letter_is base (65 + k - 10) (omega (arith, ltb-false k 10 t)) (omega (arith, l))
    (omega (arith, letter_back k (ltb-false k 10 t) l, m)))

-- ---- digits before a colon

colon_is_none : (base : ℕ) → is_digit base colon ≡ false
unfolding is_digit
colon_is_none base = refl

no_colon : (base d : ℕ) → is_digit base d ≡ true → eqb d colon ≡ false
no_colon base d e = ne_eqb d colon (λ is. false≢true (sym (colon_is_none base) ∙ ap (is_digit base) (sym is) ∙ e))

pub part_of_digits : (base : ℕ) (ds rest : List ℕ) → all_digits base ds ≡ true
    → part_of colon (ds ++ (colon ∷ rest)) ≡ ds
unfolding part_of all_digits pick
part_of_digits base [] rest e = refl
part_of_digits base (d ∷ ds) rest e =
    rw (no_colon base d (both_hold (is_digit base d) (all_digits base ds) e).0)
    (ap (λ (x : List ℕ). d ∷ x) (part_of_digits base ds rest (both_hold (is_digit base d) (all_digits base ds) e).1))

pub after_digits : (ds rest : List ℕ) → after (ds ++ (colon ∷ rest)) (length ds) ≡ rest
after_digits ds rest = drop-append-add ds (colon ∷ rest) 1

-- ---- a byte

pub byte_digits : (b : ℕ) → b < 256 → all_digits 16 (byte_text b) ≡ true
unfolding all_digits byte_text
byte_digits b l =
    rw (digit_is 16 (b / 16) (omega arith) (omega arith), digit_is 16 (b % 16) (omega arith) (omega arith))

byte_length : (b : ℕ) → length (byte_text b) ≡ 2
unfolding byte_text
byte_length b = refl

pub byte_is : (b : ℕ) → b < 256 → is_byte (byte_text b) ≡ true
unfolding is_byte
byte_is b l = rw (byte_length b, byte_digits b l)

pub byte_back : (b : ℕ) → b < 256 → byte_of (byte_text b) ≡ b
unfolding byte_of byte_value byte_text
byte_back b l = rw (digit_back (b / 16) (omega arith), digit_back (b % 16) (omega arith)) (omega arith)

-- ---- a decimal

digits_append : (base : ℕ) (s t : List ℕ) → all_digits base s ≡ true → all_digits base t ≡ true
    → all_digits base (s ++ t) ≡ true
unfolding all_digits
digits_append base [] t e f = f
digits_append base (d ∷ s) t e f =
    rw (both_hold (is_digit base d) (all_digits base s) e).0
    (digits_append base s t (both_hold (is_digit base d) (all_digits base s) e).1 f)

one_digit : (base k : ℕ) → k < 16 → k < base → all_digits base (digit_of k ∷ []) ≡ true
unfolding all_digits
one_digit base k l m = rw (digit_is base k l m)

pub decimal_digits : (most n : ℕ) → all_digits 10 (decimal_text most n) ≡ true
unfolding decimal_text all_digits
decimal_digits zero n = refl
decimal_digits (suc most) n = by_test (ltb n 10)
    (λ t. ap (all_digits 10) (pick_yes _ _ t) ∙ one_digit 10 n (omega (arith, ltb-true n 10 t)) (ltb-true n 10 t))
    (λ t. ap (all_digits 10) (pick_no _ _ t)
    ∙ digits_append 10 (decimal_text most (n / 10)) (digit_of (n % 10) ∷ []) (decimal_digits most (n / 10))
    (one_digit 10 (n % 10) (omega arith) (omega arith)))

from_append : (value : ℕ) (s : List ℕ) (d : ℕ)
    → decimal_from value (s ++ (d ∷ [])) ≡ 10 * decimal_from value s + digit_value d
unfolding decimal_from
from_append value [] d = refl
from_append value (c ∷ s) d = from_append (10 * value + digit_value c) s d

last_digit : (s : List ℕ) (d : ℕ) → decimal_of (s ++ (d ∷ [])) ≡ 10 * decimal_of s + digit_value d
unfolding decimal_of
last_digit s d = from_append 0 s d

only_digit : (k : ℕ) → k < 10 → decimal_of (digit_of k ∷ []) ≡ k
unfolding decimal_of decimal_from
only_digit k l = rw (digit_back k (omega arith)) (omega arith)

no_digit : (n : ℕ) → n < 1 → decimal_of [] ≡ n
unfolding decimal_of decimal_from
no_digit n l = omega (arith, l)

pub decimal_back : (most n : ℕ) → n < 10 ^ most → decimal_of (decimal_text most n) ≡ n
unfolding decimal_text
decimal_back zero n l = no_digit n l
decimal_back (suc most) n l = by_test (ltb n 10)
    (λ t. ap decimal_of (pick_yes _ _ t) ∙ only_digit n (ltb-true n 10 t))
    (λ t. ap decimal_of (pick_no _ _ t) ∙ last_digit (decimal_text most (n / 10)) (digit_of (n % 10))
    ∙ rw (
      decimal_back most (n / 10) (tenth n (10 ^ most) (rw (pow-suc 10 most) at l)),
      digit_back (n % 10)
          (omega arith),
    ) (omega arith))
  where
    tenth : (n p : ℕ) → n < p * 10 → n / 10 < p
    tenth n p h = omega (arith, h)

some_digit : (most n : ℕ) → 1 ≤ length (decimal_text (suc most) n)
unfolding decimal_text
some_digit most n = by_test (ltb n 10)
    (λ t.
    omega (arith, ap length (pick_yes (digit_of n ∷ []) (decimal_text most (n / 10) ++ (digit_of (n % 10) ∷ [])) t)))
    (λ t. omega (
      arith,
      ap length
          (pick_no (digit_of n ∷ []) (decimal_text most (n / 10) ++ (digit_of (n % 10) ∷ [])) t),
      length-append
          (decimal_text most (n / 10)) (digit_of (n % 10) ∷ []),
    ))

pub decimal_is : (limit most n : ℕ) → n < 10 ^ suc most → n ≤ limit
    → is_decimal limit (decimal_text (suc most) n) ≡ true
unfolding is_decimal
decimal_is limit most n l m =
    rw (
      ne_eqb (length (decimal_text (suc most) n)) 0 (λ e. omega (arith, e, some_digit most n)),
      decimal_digits
          (suc most) n,
      decimal_back (suc most) n l,
      le-leb n limit m,
    )
