-- Laws of the phases: a claim of every phase, and of a value by what a phase holds, from the claim of it and that of
-- the other value.
-- Assumes nothing.
use mathlib.Core.Bool.{Bool}
use Rattle.operations.specs.declared.operation.Operation.{Operation}
use Rattle.operations.specs.declared.store.Store.{Store}
use Rattle.link.specs.declared.state.Collected.{Collected}
use Rattle.link.specs.declared.state.Send.{Send}
use Rattle.link.specs.declared.state.Phase.{Phase}
use Rattle.link.specs.declared.state.Phase.TheVariants.{Collecting, AckOffered, Sending, GoOffered, DataAwaited}
use Rattle.link.specs.declared.state.Phase.TheVariants.{ResultAwaited, EndOffered}
use Rattle.link.specs.State.{when_collecting, when_ack_offered, when_data_awaited, when_result_awaited}

-- a claim of every phase, from the claim of each kind
pub each_phase {ℓ} :
    (P : Phase → Type ℓ)
    → ((s : Collected) → P (Collecting s))
    → ((s : Collected) → P (AckOffered s))
    → ((send : Send) → P (Sending send))
    → ((store : Store) → P (GoOffered store))
    → ((store : Store) → P (DataAwaited store))
    → ((operation : Operation) (store : Store) → P (ResultAwaited operation store))
    → ((interrupt : Bool) → P (EndOffered interrupt))
    → (phase : Phase)
    → P phase
each_phase P collecting offered sends goes writes results ends (Collecting s) = collecting s
each_phase P collecting offered sends goes writes results ends (AckOffered s) = offered s
each_phase P collecting offered sends goes writes results ends (Sending send) = sends send
each_phase P collecting offered sends goes writes results ends (GoOffered store) = goes store
each_phase P collecting offered sends goes writes results ends (DataAwaited store) = writes store
each_phase P collecting offered sends goes writes results ends (ResultAwaited operation store) = results operation store
each_phase P collecting offered sends goes writes results ends (EndOffered interrupt) = ends interrupt

-- ---- a claim of a phase and of a value by it, from the claim of the one kind and that of the other value in any phase

module _ {A : Type 0} (P : Phase → A → Type 0) (otherwise : Phase → A)
    (others : (phase : Phase) → P phase (otherwise phase)) where
  pub by_collecting :
      (value : Phase → Collected → A)
      → ((s : Collected) → P (Collecting s) (value (Collecting s) s))
      → (phase : Phase)
      → P phase (when_collecting (value phase) (otherwise phase) phase)
  by_collecting value holds =
      each_phase (λ (phase : Phase). P phase (when_collecting (value phase) (otherwise phase) phase)) holds
      (λ s. others _) (λ send. others _) (λ store. others _) (λ store. others _) (λ operation store. others _)
      (λ interrupt. others _)

  pub by_ack_offered :
      (value : Phase → Collected → A)
      → ((s : Collected) → P (AckOffered s) (value (AckOffered s) s))
      → (phase : Phase)
      → P phase (when_ack_offered (value phase) (otherwise phase) phase)
  by_ack_offered value holds =
      each_phase (λ (phase : Phase). P phase (when_ack_offered (value phase) (otherwise phase) phase)) (λ s. others _)
      holds
      (λ send. others _) (λ store. others _) (λ store. others _) (λ operation store. others _) (λ interrupt. others _)

  pub by_data_awaited :
      (value : Phase → Store → A)
      → ((store : Store) → P (DataAwaited store) (value (DataAwaited store) store))
      → (phase : Phase)
      → P phase (when_data_awaited (value phase) (otherwise phase) phase)
  by_data_awaited value holds =
      each_phase (λ (phase : Phase). P phase (when_data_awaited (value phase) (otherwise phase) phase))
      (λ s. others _) (λ s. others _) (λ send. others _) (λ store. others _) holds (λ operation store. others _)
      (λ interrupt. others _)

  pub by_result_awaited :
      (value : Phase → Operation → Store → A)
      → ((operation : Operation) (store : Store)
      → P (ResultAwaited operation store) (value (ResultAwaited operation store) operation store))
      → (phase : Phase)
      → P phase (when_result_awaited (value phase) (otherwise phase) phase)
  by_result_awaited value holds =
      each_phase (λ (phase : Phase). P phase (when_result_awaited (value phase) (otherwise phase) phase))
      (λ s. others _) (λ s. others _) (λ send. others _) (λ store. others _) (λ store. others _) holds
      (λ interrupt. others _)
