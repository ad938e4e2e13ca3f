-- Laws of counting: what leaves and what enters.
-- Assumes nothing.
use mathlib.Core.Path.{◌≡◌, refl, sym}
use Prim.Native.Nat.{ℕ, zero, suc, ◌+◌, ◌≤◌}
use native.Mathlib.Nat.{add_assoc, zero-add}
use native.Mathlib.Omega.{arith}
use mathlib.Core.Bool.{Bool, true, false}
use mathlib.Core.List.{List, [], ◌∷◌, ◌++◌}
use lib.ListN.{length, replicate}
use Rattle.common.specs.Pick.{pick}
use Rattle.common.proofs.PickLaws.{pick_by}
use Rattle.views.specs.View.{is_recoverable, is_unrecoverable, is_other, tally, counts_of}
use Rattle.views.specs.Window.{recounted, counts_after}

-- ---- one count

module _ (test : ℕ → Bool) where
  tally_append : (xs ys : List ℕ) → tally test (xs ++ ys) ≡ tally test xs + tally test ys
  unfolding tally
  tally_append [] ys = sym (zero-add (tally test ys))
  tally_append (x ∷ xs) ys =
      rw (tally_append xs ys) (sym (add_assoc (pick (test x) 1 0) (tally test xs) (tally test ys)))

  one_at_most : (x : ℕ) → pick (test x) 1 0 ≤ 1
  one_at_most x = pick_by (λ (n : ℕ). n ≤ 1) (test x) (λ _. omega arith) (λ _. omega arith)

  pub tally_le : (xs : List ℕ) → tally test xs ≤ length xs
  unfolding tally
  tally_le [] = omega arith
  tally_le (x ∷ xs) = omega (arith, one_at_most x, tally_le xs)

  pub tally_zeros : (n : ℕ) → test 0 ≡ false → tally test (replicate n 0) ≡ 0
  unfolding tally pick
  tally_zeros zero h = refl
  tally_zeros (suc n) h = rw (h, tally_zeros n h)

  recounts : (leaving entering : ℕ) (xs : List ℕ)
      → tally test (xs ++ (entering ∷ [])) ≡ recounted (tally test (leaving ∷ xs)) (test leaving) (test entering)
  unfolding tally recounted
  recounts leaving entering xs = rw (tally_append xs (entering ∷ [])) (omega arith)

  pub present : (x : ℕ) (xs : List ℕ) → test x ≡ true → 1 ≤ tally test (x ∷ xs)
  unfolding tally pick
  present x xs e = rw e (omega arith)

-- ---- the three

-- a fresh count, from the one before
pub counts_move : (leaving entering : ℕ) (xs : List ℕ)
    → counts_after (counts_of (leaving ∷ xs)) leaving entering ≡ counts_of (xs ++ (entering ∷ []))
unfolding counts_after counts_of
counts_move leaving entering xs j = record {
  recoverable = sym (recounts is_recoverable leaving entering xs) j;
  unrecoverable = sym (recounts is_unrecoverable leaving entering xs) j;
  others = sym (recounts is_other leaving entering xs) j;
}

-- of nothing
pub counts_zeros : (n : ℕ) → record { recoverable = 0; unrecoverable = 0; others = 0 } ≡ counts_of (replicate n 0)
unfolding counts_of is_recoverable is_unrecoverable is_other
counts_zeros n j = record {
  recoverable = sym (tally_zeros is_recoverable n refl) j;
  unrecoverable = sym (tally_zeros is_unrecoverable n refl) j;
  others = sym (tally_zeros is_other n refl) j;
}
