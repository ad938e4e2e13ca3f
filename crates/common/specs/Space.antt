-- What a call leaves in lent space (document 01, Loads, restorer, session: "write only the bytes they give; the rest of
-- the lent space keeps its bytes").
-- Assumes nothing.
use Rattle.std.specs.Prelude.{ℕ, ◌-◌, List, ◌++◌, length, drop, replicate}

-- a space after bytes are given at its start
unfoldable pub overwrite : List ℕ → List ℕ → List ℕ
overwrite bytes space = bytes ++ drop (length bytes) space

-- bytes filled with zeros to a length
unfoldable pub filled : List ℕ → ℕ → List ℕ
filled bytes n = bytes ++ replicate (n - length bytes) 0
