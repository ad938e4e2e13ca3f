-- The image of a record (document 01, Records). Density 0 is MFM; any other is GCR ("any but 0 is GCR").
-- Assumes nothing.
use Rattle.std.specs.Prelude.{ℕ, ◌+◌, ◌-◌, ◌*◌, ◌/◌, Bool, not, ◌&&◌, List, ◌++◌, eqb, length}
use Rattle.common.specs.Pick.{pick}
use Rattle.common.specs.Space.{filled}
use Rattle.blockettes.specs.Blockettes.{blockette_length, check_of}
use Rattle.records.specs.Count.{count_bytes}

-- "n = c/256 rounded up blockettes"
unfoldable pub blockette_count : ℕ → ℕ
blockette_count c = (c + (blockette_length - 1)) / blockette_length

-- Whether a record has blockettes: in GCR, but "c = 0 is two bytes".
unfoldable pub has_blockettes : ℕ → ℕ → Bool
has_blockettes c density = not (eqb density 0) && not (eqb c 0)

-- "check blockette 1, the XOR of the odd ones, and 0, of the even ones"
abbrev pub checks_of : List ℕ → ℕ → List ℕ
checks_of bytes n = check_of bytes n 1 ++ check_of bytes n 0

-- "n .. blockettes, numbered n-1 down to 0, the last filled with zeros; then" the check blockettes
unfoldable pub blockettes_of : List ℕ → ℕ → List ℕ
blockettes_of bytes n = filled bytes (blockette_length * n) ++ checks_of (filled bytes (blockette_length * n)) n

-- "MFM: then c bytes. GCR: .."
unfoldable pub body_of : List ℕ → ℕ → List ℕ
body_of bytes density =
    pick (has_blockettes (length bytes) density) (blockettes_of bytes (blockette_count (length bytes))) bytes

-- "Image: count c rotated right one bit as 16 bits, high byte first", and what follows it
unfoldable pub image_of : List ℕ → ℕ → List ℕ
image_of bytes density = count_bytes (length bytes) ++ body_of bytes density

-- how long the image of c bytes is
unfoldable pub image_length : ℕ → ℕ → ℕ
image_length c density = pick (has_blockettes c density) (2 + blockette_length * (blockette_count c + 2)) (2 + c)

-- "Marks: one for each GCR blockette"; "MFM has no marks"
unfoldable pub mark_count : ℕ → ℕ → ℕ
mark_count c density = pick (has_blockettes c density) (blockette_count c + 2) 0
