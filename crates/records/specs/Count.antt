-- A record's count (document 01, Records).
-- Assumes nothing.
use Rattle.std.specs.Prelude.{ℕ, ◌+◌, ◌*◌, ◌/◌, ◌%◌, List, [], ◌∷◌, get_or}

-- The most bytes of a record: "Raise the limit to 65,535, for write stores, supplied counts, a held count, images, the
-- builder and the restorer alike." (document 02, request 3). It is the most that 16 bits hold; where document 01 says
-- 16,384 of a record, it is this. "no 16-bit count is above it" (document 02, request 10): it is tested of the
-- builder's bytes, and of a count that C hands in.
unfoldable pub limit : ℕ
limit = 65535

-- "count c rotated right one bit as 16 bits"
unfoldable pub rotated : ℕ → ℕ
rotated c = c / 2 + c % 2 * 32768

-- "high byte first"
unfoldable pub count_bytes : ℕ → List ℕ
count_bytes c = rotated c / 256 ∷ rotated c % 256 ∷ []

-- the count that a rotated word says
unfoldable pub unrotated : ℕ → ℕ
unrotated word = word % 32768 * 2 + word / 32768

-- the count that an image says, by its first two bytes
unfoldable pub count_of : List ℕ → ℕ
count_of image = unrotated (get_or image 0 0 * 256 + get_or image 1 0)
