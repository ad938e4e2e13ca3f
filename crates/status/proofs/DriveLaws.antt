-- Laws of the four drives: what is put is got, the other drives are left alone, and a review changes nothing but the
-- copies.
-- Assumes nothing.
use mathlib.Core.Path.{◌≡◌, refl}
use Prim.Native.Nat.{ℕ, zero, suc, ◌≤◌}
use native.Mathlib.Omega.{arith}
use Rattle.common.specs.Pick.{pick}
use Rattle.status.specs.declared.drives.Drive.{Drive}
use Rattle.status.specs.Drives.{Drives, drive_of, with_drive, copy_report, copy_reports}

-- a claim of a drive's number, from the claim of each of the four
pub by_four : (P : ℕ → Type 0) → P 0 → P 1 → P 2 → P 3 → (n : ℕ) → n ≤ 3 → P n
by_four P a b c d zero h = a
by_four P a b c d (suc zero) h = b
by_four P a b c d (suc (suc zero)) h = c
by_four P a b c d (suc (suc (suc zero))) h = d
by_four P a b c d (suc (suc (suc (suc n)))) h = absurd (omega arith)

module _ (drives : Drives) (drive : Drive) where
  -- what is put is got
  pub put_same : (n : ℕ) → n ≤ 3 → drive_of (with_drive drives n drive) n ≡ drive
  unfolding drive_of with_drive pick
  put_same = by_four (λ n. drive_of (with_drive drives n drive) n ≡ drive) refl refl refl refl

  -- the others are left alone
  pub put_other : (n m : ℕ) → n ≤ 3 → m ≤ 3 → (n ≡ m → ⊥) → drive_of (with_drive drives n drive) m ≡ drive_of drives m
  unfolding drive_of with_drive pick
  put_other n m hn hm =
      by_four (λ k. (j : ℕ) → j ≤ 3 → (k ≡ j → ⊥) → drive_of (with_drive drives k drive) j ≡ drive_of drives j)
      (by_four (λ j. (0 ≡ j → ⊥) → drive_of (with_drive drives 0 drive) j ≡ drive_of drives j)
      (λ other. absurd (other refl)) (λ other. refl) (λ other. refl) (λ other. refl))
      (by_four (λ j. (1 ≡ j → ⊥) → drive_of (with_drive drives 1 drive) j ≡ drive_of drives j) (λ other. refl)
      (λ other. absurd (other refl)) (λ other. refl) (λ other. refl))
      (by_four (λ j. (2 ≡ j → ⊥) → drive_of (with_drive drives 2 drive) j ≡ drive_of drives j) (λ other. refl)
      (λ other. refl) (λ other. absurd (other refl)) (λ other. refl))
      (by_four (λ j. (3 ≡ j → ⊥) → drive_of (with_drive drives 3 drive) j ≡ drive_of drives j) (λ other. refl)
      (λ other. refl) (λ other. refl) (λ other. absurd (other refl)))
      n hn m hm

-- a review leaves each drive as it was, with its report copied
pub reviewed_drive : (drives : Drives) (n : ℕ)
    → n ≤ 3 → drive_of (copy_reports drives) n ≡ copy_report (drive_of drives n)
unfolding drive_of copy_reports pick
reviewed_drive drives =
    by_four (λ n. drive_of (copy_reports drives) n ≡ copy_report (drive_of drives n)) refl refl refl refl
