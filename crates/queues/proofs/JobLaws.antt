-- Laws of the queues: which are in range, and whose turn it is.
-- Assumes nothing.
use mathlib.Core.Path.{◌≡◌, subst}
use mathlib.Core.Bool.{true}
use Prim.Native.Nat.{ℕ, ◌≤◌, ◌<◌}
use native.Mathlib.Omega.{arith}
use borrow.Author.Tests.{leb-true, ltb-true}
use Rattle.common.proofs.PickLaws.{pick_by, both_hold}
use Rattle.queues.specs.declared.jobs.Queues.{Queues}
use Rattle.queues.specs.Jobs.{Turn}
use Rattle.std.specs.Prelude.{None, Some}
use Rattle.queues.specs.Jobs.{are_sound, waits, turn_of}

-- what is in range
pub record Ranges (queues : Queues) : Type 0 where
  pub q0 : queues.jobs.zero.length ≤ 8
  pub q1 : queues.jobs.one.length ≤ 8
  pub q2 : queues.jobs.two.length ≤ 8
  pub q3 : queues.jobs.three.length ≤ 8
  pub last : queues.last < 4

pub sound_ranges : (queues : Queues) → are_sound queues ≡ true → Ranges queues
unfolding are_sound
sound_ranges queues sound =
    let (lengths, last) = both_hold _ _ sound in
    let (three, l3) = both_hold _ _ lengths in
    let (two, l2) = both_hold _ _ three in
    let (l0, l1) = both_hold _ _ two in
    record {
      q0 = leb-true _ _ l0;
      q1 = leb-true _ _ l1;
      q2 = leb-true _ _ l2;
      q3 = leb-true _ _ l3;
      last = ltb-true _ _ last;
    }

-- the job whose turn it is: one of the four, with a store that waits
pub record Served (queues : Queues) (job : ℕ) : Type 0 where
  pub low : job < 4
  pub some : waits queues job ≡ true

job_is : (a b : ℕ) → Some a ≡ Some b → a ≡ b
job_is a b e = cc

nobody_is : {A : Type 0} (b : ℕ) → None ≡ Some b → A
nobody_is b e = let z : ◌≡◌ {A = ℕ} 0 1 = cc in absurd (omega arith)

pub turn_served : (queues : Queues) → queues.last < 4 → (job : ℕ) → turn_of queues ≡ Some job → Served queues job
unfolding turn_of
turn_served queues low =
    let Right : Turn → Type 0 = λ t. (job : ℕ) → t ≡ Some job → Served queues job in
    let here : (a : ℕ) → a < 4 → waits queues a ≡ true → Right (Some a) =
    λ a h some job e. subst (Served queues) (job_is a job e) (record { low = h; some = some }) in
    pick_by Right _ (here _ (omega arith)) (λ none.
    pick_by Right _ (here _ (omega arith)) (λ none.
    pick_by Right _ (here _ (omega arith)) (λ none.
    pick_by Right _ (here _ (omega arith)) (λ none job e. nobody_is job e))))
