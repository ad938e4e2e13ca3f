-- Legal marks, place by place.
-- Assumes nothing.
use mathlib.Core.Path.{◌≡◌, refl, sym, ap₂, ◌∙◌}
use Prim.Native.Nat.{ℕ, zero, suc, ◌<◌}
use native.Mathlib.Omega.{arith}
use mathlib.Core.Bool.{Bool, true, false, ◌&&◌, and_assoc, false≢true}
use mathlib.Core.List.{List, [], ◌∷◌}
use lib.ListN.{length, get_or}
use Rattle.common.proofs.PickLaws.{by_test, both_hold}
use Rattle.std.specs.List.{fold}
use Rattle.marks.specs.Marks.{legal_mark, legal_marks}

-- marks are legal where each is
pub each_legal : (marks : List ℕ) → legal_marks marks ≡ true → (place : ℕ) → place < length marks
    → legal_mark (get_or marks place 0) ≡ true
unfolding legal_marks
each_legal [] all place below = absurd (omega arith)
each_legal (mark ∷ marks) all zero below = (both_hold (legal_mark mark) (legal_marks marks) all).0
each_legal (mark ∷ marks) all (suc place) below =
    each_legal marks (both_hold (legal_mark mark) (legal_marks marks) all).1 place (omega arith)

pub all_legal : (marks : List ℕ) → ((place : ℕ) → place < length marks → legal_mark (get_or marks place 0) ≡ true)
    → legal_marks marks ≡ true
unfolding legal_marks
all_legal [] each = refl
all_legal (mark ∷ marks) each =
    ap₂ ◌&&◌ (each 0 (omega arith)) (all_legal marks (λ place below. each (suc place) (omega arith)))

-- one of marks that are not legal is not
pub illegal_found : (marks : List ℕ) → legal_marks marks ≡ false
    → (place : ℕ) × (place < length marks) × (legal_mark (get_or marks place 0) ≡ false)
unfolding legal_marks
illegal_found [] fails = absurd (false≢true (sym fails))
illegal_found (mark ∷ marks) fails =
    by_test (legal_mark mark)
    (λ legal.
    let rest : legal_marks marks ≡ false = rw legal at fails in
    let found = illegal_found marks rest in
    (suc found.0, omega (arith, found.1), found.2))
    (λ illegal. (0, omega arith, illegal))

-- looked at one after the other, with no way out
abbrev pub still_legal : Bool → ℕ → Bool
still_legal legal mark = legal && legal_mark mark

folded_from : (marks : List ℕ) (legal : Bool) → fold still_legal legal marks ≡ (legal && legal_marks marks)
unfolding legal_marks
folded_from [] true = refl
folded_from [] false = refl
folded_from (mark ∷ marks) legal =
    folded_from marks (legal && legal_mark mark) ∙ and_assoc legal (legal_mark mark) (legal_marks marks)

pub legal_folded : (marks : List ℕ) (legal : Bool) → legal ≡ fold (λ legal mark. legal && legal_mark mark) true marks
    → legal ≡ legal_marks marks
legal_folded marks legal one_by_one = one_by_one ∙ folded_from marks true
