-- Marks: "one for each GCR blockette in tape order, 1-9 an error, 15 good" (document 01, Records).
-- Assumes nothing.
use Rattle.std.specs.Prelude.{ℕ, ◌-◌, ◌%◌, ◌<◌, ◌≡◌, Bool, true, not, ◌&&◌, ◌||◌, List, [], ◌∷◌, leb, eqb, length}
use Rattle.std.specs.Prelude.{get_or}

-- ".. 15 good"
abbrev pub good : ℕ
good = 15

-- "1-9 an error, 15 good"
unfoldable pub legal_mark : ℕ → Bool
legal_mark mark = (leb 1 mark && leb mark 9) || eqb mark good

-- refusal 10, "mark value", is the opposite of this
unfoldable pub legal_marks : List ℕ → Bool
legal_marks [] = true
legal_marks (mark ∷ marks) = legal_mark mark && legal_marks marks

-- a blockette whose mark is not "good"
unfoldable pub is_error : ℕ → Bool
is_error mark = not (eqb mark good)

-- "At most one of each parity": two errors of one parity are the same. A number has the parity of how many blockettes
-- follow.
abbrev pub Once : List ℕ → Type 0
Once marks =
    (i j : ℕ) → i < length marks → j < length marks →
    is_error (get_or marks i 0) ≡ true → is_error (get_or marks j 0) ≡ true →
    (length marks - 1 - i) % 2 ≡ (length marks - 1 - j) % 2 → i ≡ j

-- ".. mark 0", which no blockette comes with
abbrev pub torn : ℕ
torn = 0

-- the marks where the first blockette is torn: "The first blockette counts as a data error with mark 0, whichever legal
-- mark came for it" (document 02, request 1)
unfoldable pub torn_marks : List ℕ → List ℕ
torn_marks [] = []
torn_marks (mark ∷ marks) = torn ∷ marks

-- the most marks: a number is one byte, and two check blockettes follow the others
abbrev pub most_marks : ℕ
most_marks = 258
