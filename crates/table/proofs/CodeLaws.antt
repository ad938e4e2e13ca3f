-- A list has a code where an element is it, as a slice's `contains` says it.
-- Assumes nothing.
use Rattle.std.proofs.Common.{◌≡◌, ℕ, List, [], ◌∷◌, refl, sym, ap₂, ◌||◌, eqb, ◌∙◌}
use borrow.Author.Tests.{eqb-true, eqb-false, eq-eqb, ne_eqb}
use Rattle.std.specs.List.{list_any}
use Rattle.common.proofs.PickLaws.{by_test}
use Rattle.operations.specs.Answers.{is_in}

turned : (a b : ℕ) → eqb a b ≡ eqb b a
turned a b =
    by_test (eqb a b) (λ same. same ∙ sym (eq-eqb b a (sym (eqb-true a b same))))
    (λ unlike. unlike ∙ sym (ne_eqb b a (λ e. eqb-false a b unlike (sym e))))

pub listed : (code : ℕ) (codes : List ℕ) → list_any (λ one. eqb one code) codes ≡ is_in code codes
unfolding is_in
listed code [] = refl
listed code (first ∷ rest) = ap₂ ◌||◌ (turned first code) (listed code rest)
