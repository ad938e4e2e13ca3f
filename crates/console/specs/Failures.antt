-- Which failures a read may end with, and which a write.
-- Assumes nothing.
use Rattle.std.specs.Prelude.{◌≡◌, ◌⊎◌}
use Rattle.console.specs.declared.Failure.{Failure}
use Rattle.console.specs.declared.Failure.TheVariants.{Unread, Unwritten, Closed}

-- a read failed
abbrev pub IsOfReading : Failure → Type 0
IsOfReading e = e ≡ Unread

-- a write failed, or nobody reads any more
abbrev pub IsOfWriting : Failure → Type 0
IsOfWriting e = (e ≡ Unwritten) ⊎ (e ≡ Closed)

-- a turn failed: a read did, or a write, and then the input is as it was before
abbrev pub IsOfTurn : {I : Type 0} → Failure → I → I → Type 0
IsOfTurn e before after = IsOfReading e ⊎ (IsOfWriting e × (after ≡ before))
