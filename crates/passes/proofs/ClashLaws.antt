-- Two passes clash exactly where some blockette is good in both and unlike.
-- Assumes nothing.
use mathlib.Core.Path.{◌≡◌, refl, sym, ap, ap₂, ◌∙◌}
use Prim.Native.Nat.{ℕ, zero, suc, ◌<◌}
use native.Mathlib.Omega.{arith}
use mathlib.Core.Bool.{Bool, true, not, false≢true}
use mathlib.Core.List.{List, [], ◌∷◌}
use lib.Dec.{eqb}
use lib.ListN.{length, get_or}
use borrow.Author.Tests.{eqb-true, not-true}
use Rattle.common.proofs.PickLaws.{by_test, by_either, both_hold}
use Rattle.blockettes.specs.Blockettes.{blockette_at}
use Rattle.marks.specs.Marks.{is_error}
use Rattle.passes.specs.Passes.{same_bytes, any_place, clash_at, clashes}
use Rattle.passes.proofs.PassLaws.{any_found}
use Rattle.passes.proofs.MergedLaws.{good_mark, same_itself}

-- a test that holds at any place holds at one
any_where : (test : ℕ → Bool) (n : ℕ) → any_place test n ≡ true → (at : ℕ) × (at < n) × (test at ≡ true)
unfolding any_place
any_where test zero holds = absurd (false≢true holds)
any_where test (suc n) holds =
    by_either (any_place test n) (test n)
    (λ before. let found = any_where test n before in (found.0, omega (arith, found.1), found.2))
    (λ last. (n, omega arith, last)) holds

pub same_true : (a b : List ℕ) → same_bytes a b ≡ true → a ≡ b
unfolding same_bytes
same_true [] [] same = refl
same_true [] (y ∷ b) same = absurd (false≢true same)
same_true (x ∷ a) [] same = absurd (false≢true same)
same_true (x ∷ a) (y ∷ b) same =
    let both = both_hold (eqb x y) (same_bytes a b) same in
    ap₂ (λ (z : ℕ) (l : List ℕ). z ∷ l) (eqb-true x y both.0) (same_true a b both.1)

module _ (first first_marks second second_marks : List ℕ) where
  -- a blockette that is good in both and unlike
  abbrev pub Clash : Type 0
  Clash =
      (place : ℕ) × (place < length first_marks) × (get_or first_marks place 0 ≡ 15)
      × (get_or second_marks place 0 ≡ 15)
      × (blockette_at first place ≡ blockette_at second place → ⊥)

  pub clash_found : clashes first first_marks second second_marks ≡ true → Clash
  unfolding clashes clash_at
  clash_found holds =
      let found = any_where (clash_at first first_marks second second_marks) (length first_marks) holds in
      let place = found.0 in
      let one = both_hold (not (is_error (get_or first_marks place 0))) _ found.2 in
      let two = both_hold (not (is_error (get_or second_marks place 0))) _ one.1 in
      let unlike = not-true _ two.1 in (
        place,
        found.1,
        good_mark _ (not-true _ one.0),
        good_mark _ (not-true _ two.0),
        λ same. false≢true (sym unlike ∙ ap (same_bytes (blockette_at first place)) (sym same)
            ∙ same_itself (blockette_at first place)),
      )

  pub clash_holds : Clash → clashes first first_marks second second_marks ≡ true
  unfolding clashes clash_at is_error
  clash_holds clash =
      let place = clash.0 in
      let a = blockette_at first place in
      let b = blockette_at second place in
      any_found (clash_at first first_marks second second_marks) (length first_marks) place clash.1
      (by_test (same_bytes a b) (λ same. absurd (clash.4 (same_true a b same)))
      (λ unlike. rw (clash.2, clash.3, unlike)))
