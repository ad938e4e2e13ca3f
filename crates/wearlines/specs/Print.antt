-- What is printed of the view of a wear log. Each text ends with its #0A.
-- Assumes nothing.
use Rattle.std.specs.Prelude.{ℕ, List, [], ◌∷◌, ◌++◌}
use Rattle.text.specs.Characters.{comma, line_feed, none_sign, unreadable_sign, zero_digit}
use Rattle.text.specs.Limits.{decimal_most}
use Rattle.text.specs.Print.{decimal_text}

-- three numbers: of a stretch its codes 15, its codes 16 and the others, and before the stretches 0, how many there
-- are, and the first with most codes 16
unfoldable pub numbers_text : ℕ → ℕ → ℕ → List ℕ
numbers_text a b c =
    decimal_text decimal_most a
    ++ (comma ∷ (decimal_text decimal_most b ++ (comma ∷ (decimal_text decimal_most c ++ (line_feed ∷ [])))))

-- no stretch: 0,0,-
unfoldable pub no_stretch_text : List ℕ
no_stretch_text = zero_digit ∷ comma ∷ zero_digit ∷ comma ∷ none_sign ∷ line_feed ∷ []

-- a refusal: 18,-,-
unfoldable pub refused_text : ℕ → List ℕ
refused_text refusal = decimal_text decimal_most refusal ++ (comma ∷ none_sign ∷ comma ∷ none_sign ∷ line_feed ∷ [])

-- a line that cannot be read, by its number: ?,2,-
unfoldable pub bad_line_text : ℕ → List ℕ
bad_line_text line = unreadable_sign ∷ comma ∷ (decimal_text decimal_most line ++ (comma ∷ none_sign ∷ line_feed ∷ []))
