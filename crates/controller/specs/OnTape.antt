-- A record's image as it stands on tape, in document 01's words and numbers alone (Records): no definition of the
-- records or the blockettes says here what an image is.
-- Assumes nothing.
use Rattle.std.specs.Prelude.{ℕ, zero, suc, ◌+◌, ◌-◌, ◌*◌, ◌/◌, ◌%◌, ◌||◌, List, [], ◌∷◌, ◌++◌, eqb, length, get_or}
use Rattle.std.specs.Prelude.{replicate}
use Rattle.std.specs.Int.Bits.{bit_xor}
use Rattle.common.specs.Pick.{pick}

-- so many bytes, each by its place
unfoldable pub bytes_by : (ℕ → ℕ) → ℕ → List ℕ
bytes_by at zero = []
bytes_by at (suc n) = at 0 ∷ bytes_by (λ i. at (suc i)) n

-- "Image: count c rotated right one bit as 16 bits, high byte first.": the last bit comes to the front
unfoldable pub count_on_tape : ℕ → List ℕ
count_on_tape c = (c % 2 * 128 + c / 512) ∷ (c / 2 % 256) ∷ []

-- the count that an image's first two bytes say, turned back: 8002 says 5
unfoldable pub count_said : List ℕ → ℕ
count_said image =
    let word = get_or image 0 0 * 256 + get_or image 1 0 in
    word % 32768 * 2 + word / 32768

-- "n = c/256 rounded up blockettes"
abbrev pub rounded_up : ℕ → ℕ
rounded_up c = (c + 255) / 256

-- "numbered n-1 down to 0, the last filled with zeros": byte i of the one with this number
abbrev pub blockette_byte : List ℕ → ℕ → ℕ → ℕ → ℕ
blockette_byte bytes n number i = get_or bytes (256 * (n - 1 - number) + i) 0

-- "check blockette 1, the XOR of the odd ones, and 0, of the even ones": byte i of the XOR of those with this parity
-- and a number below the last argument
unfoldable pub xor_byte : List ℕ → ℕ → ℕ → ℕ → ℕ → ℕ
xor_byte bytes n parity i zero = 0
xor_byte bytes n parity i (suc number) =
    pick (eqb (number % 2) parity)
    (bit_xor (xor_byte bytes n parity i number) (blockette_byte bytes n number i))
    (xor_byte bytes n parity i number)

-- "check blockette 1, .., and 0", of n blockettes
abbrev pub check_on_tape : List ℕ → ℕ → ℕ → List ℕ
check_on_tape bytes n parity = bytes_by (λ i. xor_byte bytes n parity i n) 256

-- "GCR: n .. blockettes, .. the last filled with zeros; then check blockette 1, .., and 0"
abbrev pub blockettes_on_tape : List ℕ → ℕ → List ℕ
blockettes_on_tape bytes n =
    (bytes ++ replicate (256 * n - length bytes) 0) ++ (check_on_tape bytes n 1 ++ check_on_tape bytes n 0)

-- what follows the count: "MFM: then c bytes. GCR: .."; "c = 0 is two bytes", and density 0 is MFM
unfoldable pub body_on_tape : List ℕ → ℕ → List ℕ
body_on_tape bytes density =
    pick (eqb density 0 || eqb (length bytes) 0) bytes (blockettes_on_tape bytes (rounded_up (length bytes)))

-- the whole
unfoldable pub image_on_tape : List ℕ → ℕ → List ℕ
image_on_tape bytes density = count_on_tape (length bytes) ++ body_on_tape bytes density
