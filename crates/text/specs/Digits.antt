-- Digits in text, and the numbers and bytes that they spell (document 01, Loads, restorer, session: "bytes and codes in
-- hexadecimal. Each of these has two digits, letters capital. Drive, late .. mark .. and space are decimal.").
-- Assumes nothing.
use Rattle.std.specs.Prelude.{ℕ, ◌+◌, ◌*◌, ◌%◌, min, Bool, true, not, ◌&&◌, ◌||◌, List, [], ◌∷◌, leb, ltb, eqb, length}
use Rattle.std.specs.Prelude.{get_or}
use Rattle.common.specs.Pick.{pick}
use Rattle.text.specs.Limits.{field_cap}
use Rattle.text.specs.Characters.{zero_digit, nine_digit, ten_digit, fifteen_digit}

-- the value of a digit: 0-9 are #30-#39, A-F are #41-#46, so a letter has 9 more than its low half
unfoldable pub digit_value : ℕ → ℕ
digit_value d = pick (leb d nine_digit) (d % 16) ((d % 16 + 9) % 16)

-- a digit of a base up to 16: "letters capital"
unfoldable pub is_digit : ℕ → ℕ → Bool
is_digit base d =
    ((leb zero_digit d && leb d nine_digit) || (leb ten_digit d && leb d fifteen_digit)) && ltb (digit_value d) base

-- nothing but digits
unfoldable pub all_digits : ℕ → List ℕ → Bool
all_digits base [] = true
all_digits base (d ∷ s) = is_digit base d && all_digits base s

-- ---- bytes: "Each of these has two digits"

-- the byte of two digits
unfoldable pub byte_value : ℕ → ℕ → ℕ
byte_value high low = 16 * digit_value high + digit_value low

-- a field of one byte
unfoldable pub is_byte : List ℕ → Bool
is_byte s = eqb (length s) 2 && all_digits 16 s

-- and its value
unfoldable pub byte_of : List ℕ → ℕ
byte_of s = byte_value (get_or s 0 0) (get_or s 1 0)

-- a string of at most so many bytes
unfoldable pub is_bytes : ℕ → List ℕ → Bool
is_bytes limit s = eqb (length s % 2) 0 && (leb (length s) (2 * limit) && all_digits 16 s)

-- and its bytes
unfoldable pub bytes_of : List ℕ → List ℕ
bytes_of [] = []
bytes_of (high ∷ []) = []
bytes_of (high ∷ low ∷ s) = byte_value high low ∷ bytes_of s

-- ---- decimals: one digit or more, up to a limit

-- a decimal, digit by digit
unfoldable pub decimal_from : ℕ → List ℕ → ℕ
decimal_from value [] = value
decimal_from value (d ∷ s) = decimal_from (10 * value + digit_value d) s

-- the value of a decimal
unfoldable pub decimal_of : List ℕ → ℕ
decimal_of s = decimal_from 0 s

-- the same, as far as the code counts
abbrev pub capped_decimal : List ℕ → ℕ
capped_decimal s = min (decimal_of s) field_cap

-- a field of one decimal
unfoldable pub is_decimal : ℕ → List ℕ → Bool
is_decimal limit s = not (eqb (length s) 0) && (all_digits 10 s && leb (decimal_of s) limit)
