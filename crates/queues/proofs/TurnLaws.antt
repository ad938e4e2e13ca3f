-- Whose turn it is while a job waits: that job's, or one's after which the job is closer.
-- Assumes nothing.
use mathlib.Core.Path.{◌≡◌, sym, ap, ◌∙◌}
use mathlib.Core.Bool.{true, false, false≢true}
use Prim.Native.Nat.{ℕ, ◌+◌, ◌-◌, ◌%◌, ◌≤◌, ◌<◌}
use native.Mathlib.Omega.{arith}
use Rattle.common.specs.Pick.{pick}
use Rattle.common.proofs.PickLaws.{by_test}
use Rattle.status.proofs.DriveLaws.{by_four}
use Rattle.queues.specs.declared.jobs.Queues.{Queues}
use Rattle.std.specs.Prelude.{Some}
use Rattle.queues.specs.Jobs.{waits, turn_of}

-- how many turns pass until a job is next
abbrev pub away : ℕ → ℕ → ℕ
away last job = (job + (3 - last)) % 4

-- the job is none of those before the turn that is k after the last
abbrev Apart : ℕ → ℕ → ℕ → Type 0
Apart last k job = (last + k) % 4 ≡ job → ⊥

closer_1 : (last : ℕ) → last ≤ 3 → (job : ℕ) → job ≤ 3 → Apart last 1 job → away ((last + 1) % 4) job < away last job
closer_1 =
    by_four (λ last. (job : ℕ) → job ≤ 3 → Apart last 1 job → away ((last + 1) % 4) job < away last job)
    (λ job h a. omega arith) (λ job h a. omega arith) (λ job h a. omega arith) (λ job h a. omega arith)

closer_2 : (last : ℕ) → last ≤ 3 → (job : ℕ) → job ≤ 3 → Apart last 1 job → Apart last 2 job
    → away ((last + 2) % 4) job < away last job
closer_2 =
    by_four (λ last. (job : ℕ) → job ≤ 3 → Apart last 1 job → Apart last 2 job
    → away ((last + 2) % 4) job < away last job)
    (λ job h a b. omega arith) (λ job h a b. omega arith) (λ job h a b. omega arith) (λ job h a b. omega arith)

closer_3 : (last : ℕ) → last ≤ 3 → (job : ℕ) → job ≤ 3 → Apart last 1 job → Apart last 2 job → Apart last 3 job
    → away ((last + 3) % 4) job < away last job
closer_3 =
    by_four (λ last. (job : ℕ) → job ≤ 3 → Apart last 1 job → Apart last 2 job → Apart last 3 job
    → away ((last + 3) % 4) job < away last job)
    (λ job h a b c. omega arith) (λ job h a b c. omega arith) (λ job h a b c. omega arith) (λ job h a b c. omega arith)

only_last : (last : ℕ) → last ≤ 3 → (job : ℕ) → job ≤ 3 → Apart last 1 job → Apart last 2 job → Apart last 3 job
    → last ≡ job
only_last =
    by_four (λ last. (job : ℕ) → job ≤ 3 → Apart last 1 job → Apart last 2 job → Apart last 3 job → last ≡ job)
    (λ job h a b c. omega arith) (λ job h a b c. omega arith) (λ job h a b c. omega arith) (λ job h a b c. omega arith)

pub record Nearer (queues : Queues) (job : ℕ) : Type 0 where
  pub next : ℕ
  pub is : turn_of queues ≡ Some next
  pub closer : (next ≡ job → ⊥) → away next job < away queues.last job

pub nearer : (queues : Queues) (job : ℕ) → queues.last ≤ 3 → job ≤ 3 → waits queues job ≡ true → Nearer queues job
unfolding turn_of pick
nearer queues job low h some =
    let last = queues.last in
    let differs : (a : ℕ) → waits queues a ≡ false → a ≡ job
    → ⊥ = λ a none e. false≢true (sym none ∙ ap (waits queues) e ∙ some) in
    by_test (waits queues ((last + 1) % 4))
    (λ yes. record { next = (last + 1) % 4; is = simp yes; closer = closer_1 last low job h }) (λ no1.
    by_test (waits queues ((last + 2) % 4))
    (λ yes. record {
      next = (last + 2) % 4;
      is = simp (no1, yes);
      closer = closer_2 last low job h (differs _ no1);
    }) (λ no2.
    by_test (waits queues ((last + 3) % 4))
    (λ yes. record {
      next = (last + 3) % 4;
      is = simp (no1, no2, yes);
      closer = closer_3 last low job h (differs _ no1) (differs _ no2);
    }) (λ no3.
    let e : last ≡ job = only_last last low job h (differs _ no1) (differs _ no2) (differs _ no3) in
    record { next = last; is = simp (no1, no2, no3, ap (waits queues) e ∙ some); closer = λ ne. absurd (ne e) })))
