-- The laws of `◌⊕◌` and `xor_all`. The order in which strings are put in does not matter, and what is put in twice is
-- out again.
-- Assumes nothing.
use mathlib.Core.Path.{◌≡◌, refl, sym, ap, ap₂, ◌∙◌}
use Prim.Native.Nat.{ℕ, zero, suc, ◌≤◌, ◌<◌, min}
use native.Mathlib.Nat.{le_of_suc-le-suc, not-suc-le-zero, le_refl, suc-min-suc}
use mathlib.Core.List.{List, [], ◌∷◌}
use lib.Bits.{bit_xor, xor_comm, xor_self, xor_zero_l, xor_zero_r}
use lib.Dec.{eqb}
use lib.ListN.{length, take, drop, get_or, replicate}
use native.Mathlib.Decide.{ℕ_discrete}
use native.Mathlib.Omega.{arith}
use borrow.Author.Tests.{eq-eqb, ne_eqb}
use Rattle.std.specs.Int.Bits.{xor_assoc}
use Rattle.common.specs.Pick.{pick}
use Rattle.blockettes.specs.Xor.{◌⊕◌, xor_all}

-- bytes that are put in one after the other may change places
byte_swap : (x y z : ℕ) → bit_xor (bit_xor x y) z ≡ bit_xor (bit_xor x z) y
byte_swap x y z = xor_assoc x y z ∙ ap (bit_xor x) (xor_comm y z) ∙ sym (xor_assoc x z y)

-- one that is put in twice is out again
pub byte_twice : (x y : ℕ) → bit_xor (bit_xor x y) y ≡ x
byte_twice x y = xor_assoc x y y ∙ ap (bit_xor x) (xor_self y) ∙ xor_zero_r x

pub ⊕-nil : (a : List ℕ) → a ⊕ [] ≡ a
unfolding ◌⊕◌
⊕-nil [] = refl
⊕-nil (x ∷ a) = refl

pub ⊕-swap : (a b c : List ℕ) → a ⊕ b ⊕ c ≡ a ⊕ c ⊕ b
unfolding ◌⊕◌
⊕-swap [] b c = refl
⊕-swap (x ∷ a) [] [] = refl
⊕-swap (x ∷ a) [] (z ∷ c) = refl
⊕-swap (x ∷ a) (y ∷ b) [] = refl
⊕-swap (x ∷ a) (y ∷ b) (z ∷ c) = ap₂ {C = List ℕ} ◌∷◌ (byte_swap x y z) (⊕-swap a b c)

pub ⊕-twice : (a b : List ℕ) → a ⊕ b ⊕ b ≡ a
unfolding ◌⊕◌
⊕-twice [] b = refl
⊕-twice (x ∷ a) [] = refl
⊕-twice (x ∷ a) (y ∷ b) = ap₂ {C = List ℕ} ◌∷◌ (byte_twice x y) (⊕-twice a b)

pub ⊕-assoc : (a b c : List ℕ) → length a ≤ length b → a ⊕ (b ⊕ c) ≡ a ⊕ b ⊕ c
unfolding ◌⊕◌
⊕-assoc [] b c h = refl
⊕-assoc (x ∷ a) [] c h = absurd (not-suc-le-zero h)
⊕-assoc (x ∷ a) (y ∷ b) [] h = refl
⊕-assoc (x ∷ a) (y ∷ b) (z ∷ c) h = ap₂ {C = List ℕ} ◌∷◌ (sym (xor_assoc x y z)) (⊕-assoc a b c (le_of_suc-le-suc h))

pub ⊕-length : (a b : List ℕ) → length (a ⊕ b) ≡ length a
unfolding ◌⊕◌
⊕-length [] b = refl
⊕-length (x ∷ a) [] = refl
⊕-length (x ∷ a) (y ∷ b) = ap suc (⊕-length a b)

pub ⊕-take : (n : ℕ) (a b : List ℕ) → take n (a ⊕ b) ≡ take n a ⊕ b
unfolding ◌⊕◌
⊕-take zero a b = refl
⊕-take (suc n) [] b = refl
⊕-take (suc n) (x ∷ a) [] = refl
⊕-take (suc n) (x ∷ a) (y ∷ b) = ap {B = List ℕ} (λ r. bit_xor x y ∷ r) (⊕-take n a b)

-- zeros put in change nothing
pub ⊕-zeros : (a : List ℕ) (n : ℕ) → a ⊕ replicate n 0 ≡ a
unfolding ◌⊕◌
⊕-zeros [] n = refl
⊕-zeros (x ∷ a) zero = refl
⊕-zeros (x ∷ a) (suc n) = ap₂ {C = List ℕ} ◌∷◌ (xor_zero_r x) (⊕-zeros a n)

-- what is put into zeros
pub zeros-⊕ : (b : List ℕ) (n : ℕ) → length b ≡ n → replicate n 0 ⊕ b ≡ b
unfolding ◌⊕◌
zeros-⊕ [] zero e = refl
zeros-⊕ [] (suc n) e = absurd (omega arith)
zeros-⊕ (y ∷ b) zero e = absurd (omega arith)
zeros-⊕ (y ∷ b) (suc n) e = ap₂ {C = List ℕ} ◌∷◌ (xor_zero_l y) (zeros-⊕ b n (omega arith))

-- each byte
pub ⊕-at : (a b : List ℕ) (i : ℕ) → i < length a → i < length b
    → get_or (a ⊕ b) i 0 ≡ bit_xor (get_or a i 0) (get_or b i 0)
unfolding ◌⊕◌
⊕-at [] b i ha hb = absurd (not-suc-le-zero ha)
⊕-at (x ∷ a) [] i ha hb = absurd (not-suc-le-zero hb)
⊕-at (x ∷ a) (y ∷ b) zero ha hb = refl
⊕-at (x ∷ a) (y ∷ b) (suc i) ha hb = ⊕-at a b i (le_of_suc-le-suc ha) (le_of_suc-le-suc hb)

-- past the end of the shorter string nothing changes
pub ⊕-rest : (a b : List ℕ) (n : ℕ) → min (length a) (length b) ≤ n → drop n (a ⊕ b) ≡ drop n a
unfolding ◌⊕◌
⊕-rest [] b n h = refl
⊕-rest (x ∷ a) [] n h = refl
⊕-rest (x ∷ a) (y ∷ b) zero h = absurd (not-suc-le-zero (rw suc-min-suc at h))
⊕-rest (x ∷ a) (y ∷ b) (suc n) h = ⊕-rest a b n (le_of_suc-le-suc (rw suc-min-suc at h))

-- ---- a family put in

module _ (family : ℕ → List ℕ) where
  pub xor_all-length : (start : List ℕ) (count : ℕ) → length (xor_all start family count) ≡ length start
  unfolding xor_all
  xor_all-length start zero = refl
  xor_all-length start (suc count) = ⊕-length (xor_all start family count) (family count) ∙ xor_all-length start count

  pub xor_all-take : (n : ℕ) (start : List ℕ) (count : ℕ)
      → take n (xor_all start family count) ≡ xor_all (take n start) family count
  unfolding xor_all
  xor_all-take n start zero = refl
  xor_all-take n start (suc count) =
      ⊕-take n (xor_all start family count) (family count)
      ∙ ap (λ (x : List ℕ). x ⊕ family count) (xor_all-take n start count)

  -- what stands at the start may as well be put in last
  pub xor_all_start : (start b : List ℕ) (count : ℕ) → xor_all (start ⊕ b) family count ≡ xor_all start family count ⊕ b
  unfolding xor_all
  xor_all_start start b zero = refl
  xor_all_start start b (suc count) =
      ap (λ (x : List ℕ). x ⊕ family count) (xor_all_start start b count)
      ∙ ⊕-swap (xor_all start family count) b (family count)

  -- the first of the family, and then the others
  pub xor_all_first : (start : List ℕ) (count : ℕ)
      → xor_all start family (suc count) ≡ xor_all (start ⊕ family 0) (λ t. family (suc t)) count
  unfolding xor_all
  xor_all_first start zero = refl
  xor_all_first start (suc count) = ap (λ (x : List ℕ). x ⊕ family (suc count)) (xor_all_first start count)

  -- a family put into two strings, and the one put into the other, is out again
  pub xor_all_twice : (start zeros : List ℕ) (count : ℕ) → length start ≤ length zeros → start ⊕ zeros ≡ start
      → xor_all start family count ⊕ xor_all zeros family count ≡ start
  unfolding xor_all
  xor_all_twice start zeros zero h e = e
  xor_all_twice start zeros (suc count) h e =
      let a = xor_all start family count in
      let z = xor_all zeros family count in
      let b = family count in
      ⊕-assoc (a ⊕ b) z b (simp (⊕-length, xor_all-length) h) ∙ ap (λ (x : List ℕ). x ⊕ b) (⊕-swap a b z)
      ∙ ⊕-twice (a ⊕ z) b
      ∙ xor_all_twice start zeros count h e

-- two families that agree below the count
pub xor_all_same : (f g : ℕ → List ℕ) (start : List ℕ) (count : ℕ) → ((t : ℕ) → t < count → f t ≡ g t)
    → xor_all start f count ≡ xor_all start g count
unfolding xor_all
xor_all_same f g start zero same = refl
xor_all_same f g start (suc count) same =
    ap₂ ◌⊕◌ (xor_all_same f g start count (λ t h. same t (omega arith))) (same count (le_refl (suc count)))

-- a family with one of its strings left out
abbrev pub without : ℕ → (ℕ → List ℕ) → ℕ → List ℕ
without left family t = pick (eqb t left) [] (family t)

without_other : (left : ℕ) (family : ℕ → List ℕ) (t : ℕ) → (t ≡ left → ⊥) → without left family t ≡ family t
unfolding pick
without_other left family t other = simp (ne_eqb t left other)

without_it : (left : ℕ) (family : ℕ → List ℕ) → without left family left ≡ []
unfolding pick
without_it left family = simp (eq-eqb left left refl)

-- the string that is left out, put in last
pub xor_all_without : (left : ℕ) (family : ℕ → List ℕ) (start : List ℕ) (count : ℕ) → left < count
    → xor_all start family count ≡ xor_all start (without left family) count ⊕ family left
unfolding xor_all
xor_all_without left family start zero h = absurd (not-suc-le-zero h)
xor_all_without left family start (suc count) h =
    elim (ℕ_discrete count left)
    [ yes e ↦ at_last e | no other ↦ before (λ k. xor_all_without left family start count k) other ]
  where
    few : List ℕ
    few = xor_all start (without left family) count

    at_last : count ≡ left → xor_all start family count ⊕ family count ≡ few ⊕ without left family count ⊕ family left
    at_last e =
        ap₂ ◌⊕◌
        (xor_all_same family (without left family) start count
        (λ t below. sym (without_other left family t (λ same. omega arith)))
        ∙ sym (⊕-nil few)
        ∙ ap (λ (x : List ℕ). few ⊕ x) (sym (ap (without left family) e ∙ without_it left family)))
        (ap family e)

    before : (left < count → xor_all start family count ≡ few ⊕ family left) → (count ≡ left → ⊥)
        → xor_all start family count ⊕ family count ≡ few ⊕ without left family count ⊕ family left
    before again other =
        ap₂ ◌⊕◌ (again (omega arith)) (sym (without_other left family count other))
        ∙ ⊕-swap few (family left) (without left family count)
