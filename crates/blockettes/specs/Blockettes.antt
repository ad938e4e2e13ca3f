-- Blockettes and their check (document 01, Records). Bytes stand in tape order; a blockette's place counts from 0
-- in that order, its number from the other end.
-- Assumes nothing.
use Rattle.std.specs.Prelude.{ℕ, ◌+◌, ◌-◌, ◌*◌, ◌/◌, ◌%◌, List, [], eqb, take, drop, replicate}
use Rattle.common.specs.Pick.{pick}
use Rattle.blockettes.specs.Xor.{xor_all}

-- the bytes of a blockette: "c/256 rounded up blockettes"
abbrev pub blockette_length : ℕ
blockette_length = 256

-- the bytes of both check blockettes: "check store (512 bytes ..)"
abbrev pub checks_length : ℕ
checks_length = 512

-- from a blockette to the next of its parity
abbrev pub parity_stride : ℕ
parity_stride = 512

-- the bytes of half a blockette
abbrev pub half_length : ℕ
half_length = 128

-- above every place: as many as 16 bits count
abbrev pub places_limit : ℕ
places_limit = 65536

-- The blockette at a place. The last may be short; zeros stand for the rest of it.
unfoldable pub blockette_at : List ℕ → ℕ → List ℕ
blockette_at bytes place = take blockette_length (drop (blockette_length * place) bytes)

-- "numbered n-1 down to 0": of n blockettes, the one with this number
unfoldable pub numbered : List ℕ → ℕ → ℕ → List ℕ
numbered bytes n number = blockette_at bytes (n - 1 - number)

-- How many of the numbers below n have this parity, 1 for odd and 0 for even.
unfoldable pub of_parity : ℕ → ℕ → ℕ
of_parity n parity = (n + 1 - parity) / 2

-- `start` with every blockette of one parity put in by XOR: numbers parity, parity + 2, .. below n.
unfoldable pub fold_parity : List ℕ → List ℕ → ℕ → ℕ → List ℕ
fold_parity start bytes n parity = xor_all start (λ t. numbered bytes n (2 * t + parity)) (of_parity n parity)

-- `start` with `count` blockettes put in by XOR, every second from a place upward: the order in which they are taken.
unfoldable pub fold_upward : List ℕ → List ℕ → ℕ → ℕ → List ℕ
fold_upward start bytes first count = xor_all start (λ t. blockette_at bytes (first + 2 * t)) count

-- the same from zeros: the check of so many blockettes, and the half of it that the bytes begin with
abbrev pub whole_of : List ℕ → ℕ → ℕ → List ℕ
whole_of bytes first count = fold_upward (replicate blockette_length 0) bytes first count

abbrev pub half_of : List ℕ → ℕ → ℕ → List ℕ
half_of bytes first count = fold_upward (replicate half_length 0) bytes first count

-- "check blockette 1, the XOR of the odd ones, and 0, of the even ones"
unfoldable pub check_of : List ℕ → ℕ → ℕ → List ℕ
check_of bytes n parity = fold_parity (replicate blockette_length 0) bytes n parity

-- What restores the blockette at a place: the XOR of all others of its parity, of n blockettes in all.
unfoldable pub others_of : List ℕ → ℕ → ℕ → List ℕ
others_of bytes n place =
    xor_all (replicate blockette_length 0)
    (λ t. pick (eqb t ((n - 1 - place) / 2)) [] (numbered bytes n (2 * t + (n - 1 - place) % 2)))
    (of_parity n ((n - 1 - place) % 2))
