-- Laws of text: the fields of an answer, put one after the other.
-- Assumes nothing.
use mathlib.Core.Path.{◌≡◌}
use Prim.Native.Nat.{ℕ}
use mathlib.Core.List.{List, [], ◌∷◌, ◌++◌, append_assoc}
use Rattle.text.specs.Characters.{comma, line_feed}

-- the first three fields, each with its comma, put one after the other
pub head_text_lem : (number bytes : List ℕ) (letter : ℕ) {t1 t2 t3 t4 t5 t6 : List ℕ}
    → t1 ≡ number
    → t2 ≡ t1 ++ (comma ∷ [])
    → t3 ≡ t2 ++ (letter ∷ [])
    → t4 ≡ t3 ++ (comma ∷ [])
    → t5 ≡ t4 ++ bytes
    → t6 ≡ t5 ++ (comma ∷ [])
    → t6 ≡ number ++ (comma ∷ letter ∷ comma ∷ (bytes ++ (comma ∷ [])))
head_text_lem number bytes letter e1 e2 e3 e4 e5 e6 = simp (e6, e5, e4, e3, e2, e1, append_assoc)

-- the last field and the line's end
pub answer_text_lem : (head last : List ℕ) {t1 t2 t3 : List ℕ}
    → t1 ≡ head
    → t2 ≡ t1 ++ last
    → t3 ≡ t2 ++ (line_feed ∷ [])
    → t3 ≡ head ++ (last ++ (line_feed ∷ []))
answer_text_lem head last e1 e2 e3 = simp (e3, e2, e1, append_assoc)

-- the line's end alone
pub reply_text_lem : (head : List ℕ) {t1 t2 : List ℕ} → t1 ≡ head → t2 ≡ t1 ++ (line_feed ∷ [])
    → t2 ≡ head ++ (line_feed ∷ [])
reply_text_lem head e1 e2 = simp (e2, e1)
