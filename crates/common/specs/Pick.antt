-- The one conditional of all definitions.
-- Assumes nothing.
use Rattle.std.specs.Prelude.{Bool, true, false}

-- the first of two where the test holds, else the second
unfoldable pub pick : {A : Type 0} → Bool → A → A → A
pick true a b = a
pick false a b = b
