-- Laws of the stores that wait, as lists: what queueing and serving a job leave of its list, and of the others'.
-- Assumes nothing.
use mathlib.Core.Path.{◌≡◌, refl, sym, ap, subst, ◌∙◌}
use mathlib.Core.Bool.{true}
use mathlib.Core.List.{List, [], ◌∷◌, ◌++◌}
use Prim.Native.Nat.{ℕ, zero, suc, ◌-◌, ◌≤◌, ◌<◌}
use native.Mathlib.Nat.{le_of_suc-le-suc}
use native.Mathlib.Numerals.{add-one}
use native.Mathlib.Omega.{arith}
use lib.Dec.{eqb}
use lib.ListN.{length, take, drop, get_or, length-take, length-set, drop_of_length-le}
use lib.Seq.{take-suc-set, take-append-le, drop-cons}
use borrow.Author.Tests.{le-leb, lt-ltb, ltb-true, eqb-true, eqb-false}
use Rattle.common.specs.Pick.{pick}
use Rattle.common.proofs.PickLaws.{by_test}
use Rattle.status.proofs.DriveLaws.{by_four}
use Rattle.operations.specs.declared.store.Store.{Store}
use Rattle.queues.specs.declared.queue.Queue.{Queue}
use Rattle.queues.specs.declared.jobs.Queues.{Queues}
use Rattle.queues.specs.Queue.{no_store, empty_queue, waiting_in, with_store, without_first}
use Rattle.queues.specs.Jobs.{fresh_queues, are_sound, queue_of, with_queue, waits, queued, next_store, served}

-- the stores of a job that wait
abbrev pub waiting : Queues → ℕ → List Store
waiting queues job = waiting_in (queue_of queues job)

-- ---- one queue

-- an array of eight, of which at most eight wait
pub record Kept (queue : Queue) : Type 0 where
  pub eight : length queue.stores ≡ 8
  pub few : queue.length ≤ 8

-- eight elements moved up by one, the last one left standing
moved_up : {A : Type 0} (xs : List A) (d : A) → length xs ≡ 8
    → get_or xs 1 d ∷ get_or xs 2 d ∷ get_or xs 3 d ∷ get_or xs 4 d ∷ get_or xs 5 d ∷ get_or xs 6 d
    ∷ get_or xs 7 d ∷ get_or xs 7 d ∷ []
    ≡ drop 1 xs ++ (get_or xs 7 d ∷ [])
moved_up xs d eight =
    rw (
      drop-cons xs 1 d (omega arith),
      drop-cons xs 2 d (omega arith),
      drop-cons xs 3 d (omega arith),
      drop-cons xs 4 d
          (omega arith),
      drop-cons xs 5 d (omega arith),
      drop-cons xs 6 d (omega arith),
      drop-cons xs 7 d
          (omega arith),
      drop_of_length-le xs {i = 8} (omega arith),
    )

-- those that are left
after_first : {A : Type 0} (xs ys : List A) (n : ℕ) → 0 < n → n ≤ length xs
    → take (n - 1) (drop 1 xs ++ ys) ≡ drop 1 (take n xs)
after_first xs ys zero some inside = absurd (omega arith)
after_first [] ys (suc m) some inside = absurd (omega arith)
after_first (x ∷ xs) ys (suc m) some inside =
    let e : suc m - 1 ≡ m = omega arith in rw e (take-append-le m xs ys (le_of_suc-le-suc inside))

first_of : {A : Type 0} (xs : List A) (n : ℕ) (d : A) → 0 < n → n ≤ length xs
    → take n xs ≡ get_or xs 0 d ∷ drop 1 (take n xs)
first_of xs zero d some inside = absurd (omega arith)
first_of [] (suc m) d some inside = absurd (omega arith)
first_of (x ∷ xs) (suc m) d some inside = refl

module _ (queue : Queue) (kept : Kept queue) where
  -- as many as it says
  pub waiting_length : length (waiting_in queue) ≡ queue.length
  unfolding waiting_in
  waiting_length = simp length-take (omega (arith, kept.eight, kept.few))

  pub one_more : (store : Store) → queue.length < 8
      → waiting_in (with_store queue store) ≡ waiting_in queue ++ (store ∷ [])
  unfolding waiting_in
  one_more store room =
      let inside : queue.length < length queue.stores = omega (arith, kept.eight) in
      rw add-one (take-suc-set queue.stores queue.length store inside)

  pub more_kept : (store : Store) → queue.length < 8 → Kept (with_store queue store)
  more_kept store room =
      record { eight = length-set queue.stores queue.length store ∙ kept.eight; few = omega arith }

  pub one_less : 0 < queue.length → waiting_in (without_first queue) ≡ drop 1 (waiting_in queue)
  unfolding waiting_in
  one_less some =
      ap (λ (l : List Store). take (queue.length - 1) l) (moved_up queue.stores no_store kept.eight)
      ∙ after_first queue.stores (get_or queue.stores 7 no_store ∷ []) queue.length some
      (omega (arith, kept.eight, kept.few))

  pub less_kept : Kept (without_first queue)
  less_kept = record { eight = refl; few = omega (arith, kept.few) }

  pub first_waits : 0 < queue.length → waiting_in queue ≡ get_or queue.stores 0 no_store ∷ drop 1 (waiting_in queue)
  unfolding waiting_in
  first_waits some = first_of queue.stores queue.length no_store some (omega (arith, kept.eight, kept.few))

-- ---- four queues

-- every queue is kept, and the last job served is one of the four
pub record AllKept (queues : Queues) : Type 0 where
  pub each : (job : ℕ) → job ≤ 3 → Kept (queue_of queues job)
  pub low : queues.last < 4

pub fresh_kept : AllKept fresh_queues
unfolding fresh_queues queue_of pick
fresh_kept =
    let empty : Kept empty_queue = record { eight = refl; few = omega arith } in
    record { each = by_four (λ job. Kept (queue_of fresh_queues job)) empty empty empty empty; low = omega arith }

-- another queue for a job, and the queues of the others
pub queue_same : (queues : Queues) (queue : Queue) (job : ℕ) → job ≤ 3
    → queue_of (with_queue queues job queue) job ≡ queue
unfolding queue_of with_queue pick
queue_same queues queue = by_four (λ job. queue_of (with_queue queues job queue) job ≡ queue) refl refl refl refl

pub queue_other : (queues : Queues) (queue : Queue) (job : ℕ) → job ≤ 3 → (k : ℕ) → k ≤ 3 → (job ≡ k → ⊥)
    → queue_of (with_queue queues job queue) k ≡ queue_of queues k
unfolding queue_of with_queue pick
queue_other queues queue =
    by_four (λ job. (k : ℕ) → k ≤ 3 → (job ≡ k → ⊥) → queue_of (with_queue queues job queue) k ≡ queue_of queues k)
    (by_four (λ k. (0 ≡ k → ⊥) → queue_of (with_queue queues 0 queue) k ≡ queue_of queues k)
    (λ differ. absurd (differ refl)) (λ differ. refl) (λ differ. refl) (λ differ. refl))
    (by_four (λ k. (1 ≡ k → ⊥) → queue_of (with_queue queues 1 queue) k ≡ queue_of queues k) (λ differ. refl)
    (λ differ. absurd (differ refl)) (λ differ. refl) (λ differ. refl))
    (by_four (λ k. (2 ≡ k → ⊥) → queue_of (with_queue queues 2 queue) k ≡ queue_of queues k) (λ differ. refl)
    (λ differ. refl) (λ differ. absurd (differ refl)) (λ differ. refl))
    (by_four (λ k. (3 ≡ k → ⊥) → queue_of (with_queue queues 3 queue) k ≡ queue_of queues k) (λ differ. refl)
    (λ differ. refl) (λ differ. refl) (λ differ. absurd (differ refl)))

pub last_same : (queues : Queues) (queue : Queue) (job : ℕ) → job ≤ 3 → (with_queue queues job queue).last ≡ queues.last
unfolding with_queue pick
last_same queues queue = by_four (λ job. (with_queue queues job queue).last ≡ queues.last) refl refl refl refl

-- ---- queueing and serving

module _ (queues : Queues) (kept : AllKept queues) (job : ℕ) (within : job ≤ 3) where
  abbrev own : Queue
  own = queue_of queues job

  -- with another queue for the job, all are kept where that one is
  with_kept : (queue : Queue) → Kept queue → (k : ℕ) → k ≤ 3 → Kept (queue_of (with_queue queues job queue) k)
  with_kept queue whole k low =
      by_test (eqb job k)
      (λ same. subst Kept
      (sym (queue_same queues queue job within) ∙ ap (queue_of (with_queue queues job queue)) (eqb-true job k same))
      whole)
      (λ differ. subst Kept (sym (queue_other queues queue job within k low (eqb-false job k differ)))
      (kept.each k low))

  module _ (store : Store) (room : own.length < 8) where
    pub queued_same : waiting (queued queues job store) job ≡ waiting queues job ++ (store ∷ [])
    unfolding queued
    queued_same =
        ap waiting_in (queue_same queues (with_store own store) job within)
        ∙ one_more own (kept.each job within) store room

    pub queued_other : (k : ℕ) → k ≤ 3 → (job ≡ k → ⊥) → waiting (queued queues job store) k ≡ waiting queues k
    unfolding queued
    queued_other k low differ = ap waiting_in (queue_other queues (with_store own store) job within k low differ)

    pub queued_last : (queued queues job store).last ≡ queues.last
    unfolding queued
    queued_last = last_same queues (with_store own store) job within

    pub queued_kept : AllKept (queued queues job store)
    unfolding queued
    queued_kept =
        record {
          each = with_kept (with_store own store) (more_kept own (kept.each job within) store room);
          low = subst (λ (n : ℕ). n < 4) (sym (last_same queues (with_store own store) job within)) kept.low;
        }

  module _ (some : waits queues job ≡ true) where
    some_wait : 0 < own.length
    unfolding waits
    some_wait = ltb-true _ _ some

    -- the store that is handed over was the first to wait
    pub next_first : waiting queues job ≡ next_store queues job ∷ drop 1 (waiting queues job)
    unfolding next_store
    next_first = first_waits own (kept.each job within) some_wait

    pub served_same : waiting (served queues job) job ≡ drop 1 (waiting queues job)
    unfolding served queue_of
    served_same =
        ap waiting_in (queue_same queues (without_first own) job within) ∙ one_less own (kept.each job within) some_wait

    pub served_other : (k : ℕ) → k ≤ 3 → (job ≡ k → ⊥) → waiting (served queues job) k ≡ waiting queues k
    unfolding served queue_of
    served_other k low differ = ap waiting_in (queue_other queues (without_first own) job within k low differ)

    pub served_kept : AllKept (served queues job)
    unfolding served queue_of
    served_kept =
        record { each = with_kept (without_first own) (less_kept own (kept.each job within)); low = omega arith }

  pub served_last : (served queues job).last ≡ job
  unfolding served
  served_last = refl

-- a job waits just where its list is not empty
pub waits_some : (queues : Queues) → AllKept queues → (job : ℕ) → job ≤ 3 → 0 < length (waiting queues job)
    → waits queues job ≡ true
unfolding waits
waits_some queues kept job low some =
    lt-ltb 0 (queue_of queues job).length (omega (arith, waiting_length (queue_of queues job) (kept.each job low)))

-- what is kept is in range
pub kept_sound : (queues : Queues) → AllKept queues → are_sound queues ≡ true
unfolding are_sound queue_of pick
kept_sound queues kept =
    simp (
      le-leb queues.jobs.zero.length 8 (kept.each 0 (omega arith)).few,
      le-leb queues.jobs.one.length 8 (kept.each 1 (omega arith)).few,
      le-leb queues.jobs.two.length 8 (kept.each 2 (omega arith)).few,
      le-leb queues.jobs.three.length 8 (kept.each 3 (omega arith)).few,
      lt-ltb queues.last 4 kept.low,
    )

-- at the start nothing waits
pub fresh_waiting : (job : ℕ) → job ≤ 3 → waiting fresh_queues job ≡ []
unfolding fresh_queues queue_of waiting_in pick
fresh_waiting = by_four (λ job. waiting fresh_queues job ≡ []) refl refl refl refl
