-- Laws of what is asked in a density: it is what was asked for, or, of an operation, code 02.
-- Assumes nothing.
use mathlib.Core.Path.{◌≡◌, refl, ap}
use Prim.Native.Nat.{ℕ}
use mathlib.Core.Bool.{Bool, true, false, ◌&&◌, false≢true}
use lib.Dec.{eqb}
use Rattle.common.proofs.PickLaws.{pick_by}
use Rattle.status.specs.Drives.{mfm}
use Rattle.operations.specs.declared.operation.Operation.{Operation}
use Rattle.operations.specs.declared.decode.Decoded.{Decoded}
use Rattle.operations.specs.declared.decode.Decoded.TheVariants.{Reset, Code, Track, Enable, Guard, Density}
use Rattle.operations.specs.declared.decode.Decoded.TheVariants.{Operate}
use Rattle.operations.specs.Codes.{illegal_store}
use Rattle.operations.specs.Operation.{supplies_count}
use Rattle.operations.specs.Decode.{in_density}

pub by_density :
    (P : Decoded → Type 0) (density : ℕ) (asked : Decoded)
    → P asked
    → ((operation : Operation) → asked ≡ Operate operation → P (Code illegal_store))
    → P (in_density density asked)
unfolding in_density
by_density P density (Operate operation) same ends =
    pick_by P (supplies_count operation && eqb density mfm) (λ needs. ends operation refl) (λ goes. same)
by_density P density Reset same ends = same
by_density P density (Code code) same ends = same
by_density P density (Track track) same ends = same
by_density P density (Enable enable) same ends = same
by_density P density (Guard guard) same ends = same
by_density P density (Density chosen) same ends = same

-- whether an operation is asked for
abbrev operates : Decoded → Bool
operates (Operate operation) = true
operates Reset = false
operates (Code code) = false
operates (Track track) = false
operates (Enable enable) = false
operates (Guard guard) = false
operates (Density chosen) = false

-- an operation that is left was asked for
pub asked_operation :
    (density : ℕ) (asked : Decoded) (operation : Operation) → in_density density asked ≡ Operate operation
    → asked ≡ Operate operation
asked_operation density asked operation =
    by_density (λ (x : Decoded). x ≡ Operate operation → asked ≡ Operate operation) density asked (λ same. same)
    (λ other is ends. absurd (false≢true (ap operates ends)))
