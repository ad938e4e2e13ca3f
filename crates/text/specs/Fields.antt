-- Parts of a text that end before a sign, and fields, with a comma between (document 01, Loads, restorer, session).
-- Assumes nothing.
use Rattle.std.specs.Prelude.{ℕ, zero, suc, ◌+◌, List, [], ◌∷◌, eqb, length, drop}
use Rattle.common.specs.Pick.{pick}
use Rattle.text.specs.Characters.{comma}

-- what stands before the first sign of a kind, or all
unfoldable pub part_of : ℕ → List ℕ → List ℕ
part_of sign [] = []
part_of sign (b ∷ s) = pick (eqb b sign) [] (b ∷ part_of sign s)

-- the place of that sign, or the end
abbrev pub part_end : ℕ → List ℕ → ℕ
part_end sign s = length (part_of sign s)

-- the first field
abbrev pub field_of : List ℕ → List ℕ
field_of s = part_of comma s

-- the place of its comma, or the end
abbrev pub field_end : List ℕ → ℕ
field_end s = length (field_of s)

-- what comes after so many bytes and a comma
abbrev pub after : List ℕ → ℕ → List ℕ
after s count = drop (count + 1) s

-- what comes after a field and its comma
unfoldable pub after_field : List ℕ → List ℕ
after_field s = after s (field_end s)

-- what comes after so many fields
unfoldable pub after_fields : ℕ → List ℕ → List ℕ
after_fields zero s = s
after_fields (suc k) s = after_field (after_fields k s)
