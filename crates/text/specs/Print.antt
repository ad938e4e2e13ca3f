-- Numbers and bytes as they are printed (document 01, Loads, restorer, session), and a record as the jobs program
-- prints it.
-- Assumes nothing.
use Rattle.std.specs.Prelude.{ℕ, zero, suc, ◌+◌, ◌-◌, ◌/◌, ◌%◌, List, [], ◌∷◌, ◌++◌, ltb}
use Rattle.common.specs.Pick.{pick}
use Rattle.text.specs.Limits.{decimal_most, refusal_most}
use Rattle.text.specs.Characters.{colon, zero_digit, ten_digit}

-- a digit below 16: "letters capital"
unfoldable pub digit_of : ℕ → ℕ
digit_of n = pick (ltb n 10) (zero_digit + n) (ten_digit + n - 10)

-- "bytes and codes in hexadecimal. Each of these has two digits"
unfoldable pub byte_text : ℕ → List ℕ
byte_text b = digit_of (b / 16) ∷ digit_of (b % 16) ∷ []

-- and of a string of bytes
unfoldable pub bytes_text : List ℕ → List ℕ
bytes_text [] = []
bytes_text (b ∷ bytes) = byte_text b ++ bytes_text bytes

-- a number of at most so many digits in decimal, without needless zeros
unfoldable pub decimal_text : ℕ → ℕ → List ℕ
decimal_text zero n = []
decimal_text (suc most) n = pick (ltb n 10) (digit_of n ∷ []) (decimal_text most (n / 10) ++ (digit_of (n % 10) ∷ []))

-- the number of a refusal in decimal
abbrev pub refusal_text : ℕ → List ℕ
refusal_text n = decimal_text refusal_most n

-- a record, by its three numbers: CC:M:N, the code in two hexadecimal digits, motion and count in decimal
unfoldable pub record_text : ℕ → ℕ → ℕ → List ℕ
record_text code motion count =
    byte_text code ++ (colon ∷ (decimal_text decimal_most motion ++ (colon ∷ decimal_text decimal_most count)))
