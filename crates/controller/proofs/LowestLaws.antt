-- Laws of a table of refusals: where its numbers rise, the first condition that holds is the lowest.
-- Assumes nothing.
use mathlib.Core.Path.{◌≡◌, refl}
use Prim.Native.Nat.{ℕ, ◌<◌}
use native.Mathlib.Omega.{arith}
use mathlib.Core.Bool.{Bool, true, false, ◌&&◌, ◌||◌, false≢true}
use mathlib.Core.List.{List, [], ◌∷◌}
use lib.Dec.{ltb, eqb}
use borrow.Author.Tests.{ltb-true, eqb-true, eq-eqb}
use Rattle.common.specs.Pick.{pick}
use Rattle.common.proofs.PickLaws.{by_either, both_hold}
use Rattle.controller.specs.Reasons.{holds_at, IsLowest}

-- the number of the first condition that holds, and 0 where none does
unfoldable pub first_of : List (ℕ × Bool) → ℕ
first_of [] = 0
first_of ((n, condition) ∷ others) = pick condition n (first_of others)

-- the numbers rise, from above this one
unfoldable pub rising : ℕ → List (ℕ × Bool) → Bool
rising below [] = true
rising below ((n, condition) ∷ others) = ltb below n && rising n others

-- so each number that holds is above it
above : (number below : ℕ) (conditions : List (ℕ × Bool)) → rising below conditions ≡ true
    → holds_at number conditions ≡ true → below < number
unfolding rising holds_at
above number below [] up = λ at. absurd (false≢true at)
above number below ((n, condition) ∷ others) up =
    let rises = both_hold (ltb below n) (rising n others) up in
    let lower = ltb-true below n rises.0 in
    by_either (eqb number n && condition) (holds_at number others)
    (λ here. omega (arith, eqb-true number n (both_hold (eqb number n) condition here).0))
    (λ there. omega (arith, above number n others rises.1 there))

pub first_is_lowest : (below : ℕ) (conditions : List (ℕ × Bool)) → rising below conditions ≡ true
    → IsLowest (first_of conditions) conditions
unfolding rising holds_at first_of pick
first_is_lowest below [] up =
    record { holds = λ some. absurd (some refl); lowest = λ number at. absurd (false≢true at) }
first_is_lowest below ((n, true) ∷ others) up =
    let rises = both_hold (ltb below n) (rising n others) up in
    let lower = ltb-true below n rises.0 in
    record {
      holds = λ some. rw (eq-eqb n n refl);
      lowest =
          λ number.
          by_either (eqb number n && true) (holds_at number others)
          (λ here.
          let same = eqb-true number n (both_hold (eqb number n) true here).0 in (omega arith, omega arith))
          (λ there. let higher = above number n others rises.1 there in (omega arith, omega arith));
    }
first_is_lowest below ((n, false) ∷ others) up =
    let rises = both_hold (ltb below n) (rising n others) up in
    let rest = first_is_lowest n others rises.1 in
    record {
      holds = λ some. either_of_none (eqb (first_of others) n) (holds_at (first_of others) others) (rest.holds some);
      lowest =
          λ number.
          by_either (eqb number n && false) (holds_at number others)
          (λ here. absurd (false≢true (both_hold (eqb number n) false here).1))
          (λ there. rest.lowest number there);
    }
  where
    either_of_none : (a b : Bool) → b ≡ true → ((a && false) || b) ≡ true
    either_of_none true b e = e
    either_of_none false b e = e
