-- Lines of a table of refusals, each by a test that tells its condition. What follows a line is shown where its
-- condition fails.
-- Assumes nothing.
use mathlib.Core.Path.{◌≡◌, refl, sym}
use Prim.Native.Nat.{ℕ, ◌<◌}
use mathlib.Core.Bool.{Bool, true, false, false≢true}
use lib.Dec.{ltb, eqb}
use borrow.Author.Tests.{ltb-true, lt-ltb, eqb-false, ne_eqb}

-- a condition that holds where a test does
pub by_holding : {A B : Type 0} {number refusal : ℕ} (test : Bool) → (test ≡ true → A) → (A → test ≡ true)
    → (test ≡ true → refusal ≡ number) → (test ≡ false → B) → (A → refusal ≡ number) × ((A → ⊥) → B)
by_holding true holds told here next = (λ a. here refl, λ none. absurd (none (holds refl)))
by_holding false holds told here next = (λ a. absurd (false≢true (told a)), λ none. next refl)

-- and one that holds where a test fails
pub by_failing : {A B : Type 0} {number refusal : ℕ} (test : Bool) → (test ≡ false → A) → (A → test ≡ false)
    → (test ≡ false → refusal ≡ number) → (test ≡ true → B) → (A → refusal ≡ number) × ((A → ⊥) → B)
by_failing true fails told here next = (λ a. absurd (false≢true (sym (told a))), λ none. next refl)
by_failing false fails told here next = (λ a. here refl, λ none. absurd (none (fails refl)))

-- a number below another
pub by_below : {B : Type 0} {number refusal : ℕ} (a b : ℕ) → (ltb a b ≡ true → refusal ≡ number)
    → (ltb a b ≡ false → B) → (a < b → refusal ≡ number) × ((a < b → ⊥) → B)
by_below a b here next = by_holding (ltb a b) (ltb-true a b) (lt-ltb a b) here next

-- a number unlike another
pub by_unlike : {B : Type 0} {number refusal : ℕ} (a b : ℕ) → (eqb a b ≡ false → refusal ≡ number)
    → (eqb a b ≡ true → B) → ((a ≡ b → ⊥) → refusal ≡ number) × (((a ≡ b → ⊥) → ⊥) → B)
by_unlike a b here next = by_failing (eqb a b) (eqb-false a b) (ne_eqb a b) here next
