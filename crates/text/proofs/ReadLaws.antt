-- Laws of what is read: the first sign of a kind.
-- Assumes nothing.
use Rattle.std.proofs.Common.{◌≡◌, ℕ, ◌+◌, ◌<◌, Bool, true, false, List, [], ◌∷◌, length, drop, get_or, refl, sym}
use Rattle.std.proofs.Common.{ap, ◌∙◌, arith, add-one, drop-cons}
use Rattle.std.proofs.Common.{None, Some}
use Rattle.std.specs.Bool.{then_some}
use Rattle.std.proofs.lemmas.Option.{none-some, same_Some}
use Prim.Native.Nat.{zero, suc}
use lib.Dec.{eqb}
use Rattle.std.proofs.lemmas.Bool.{false_from_ne_true}
use Rattle.common.specs.Pick.{pick}
use Rattle.text.specs.Digits.{is_digit, all_digits}
use Rattle.text.specs.Fields.{part_of, part_end}

-- ---- the first sign of a kind

module _ (sign : ℕ) where
  passed : (b : ℕ) (s : List ℕ) → (eqb b sign ≡ true → ⊥) → part_end sign (b ∷ s) ≡ suc (part_end sign s)
  unfolding part_of pick
  passed b s other = rw (false_from_ne_true (eqb b sign) other) refl

  stopped : (b : ℕ) (s : List ℕ) → eqb b sign ≡ true → part_end sign (b ∷ s) ≡ 0
  unfolding part_of pick
  stopped b s ends = rw ends refl

  pub first_end : (s : List ℕ) (k : ℕ) → k < length s
      → ((i : ℕ) → i < k → eqb (get_or s i 0) sign ≡ true → ⊥)
      → eqb (get_or s k 0) sign ≡ true
      → part_end sign s ≡ k
  first_end [] k below none there = let no : ⊥ = omega arith in absurd no
  first_end (b ∷ s) zero below none there = stopped b s there
  first_end (b ∷ s) (suc k) below none there =
      passed b s (none 0 (omega arith))
      ∙ ap suc (first_end s k (omega arith) (λ i before. none (suc i) (omega arith)) there)

  pub no_end : (s : List ℕ) → ((i : ℕ) → i < length s → eqb (get_or s i 0) sign ≡ true → ⊥) → part_end sign s ≡ length s
  unfolding part_of
  no_end [] none = refl
  no_end (b ∷ s) none =
      passed b s (none 0 (omega arith)) ∙ ap suc (no_end s (λ i before. none (suc i) (omega arith)))

-- ---- digits, up to the first byte that is none

module _ (base : ℕ) (s : List ℕ) (i : ℕ) (within : i < length s) where
  pub digit_passes : is_digit base (get_or s i 0) ≡ true → all_digits base (drop (i + 1) s) ≡ all_digits base (drop i s)
  unfolding all_digits
  digit_passes good = rw (add-one, drop-cons s i 0 within, good) refl

  pub digit_stops : is_digit base (get_or s i 0) ≡ false → all_digits base (drop i s) ≡ false
  unfolding all_digits
  digit_stops bad = rw (drop-cons s i 0 within, bad) refl

-- ---- what was read, or nothing

pub told_none : (t : Bool) (x : ℕ) → None ≡ then_some t x → t ≡ false
told_none true x e = absurd (none-some x e)
told_none false x e = refl

pub told_some : (t : Bool) (x y : ℕ) → Some y ≡ then_some t x → (t ≡ true) × (y ≡ x)
told_some true x y e = (refl, same_Some y x e)
told_some false x y e = absurd (none-some y (sym e))
