-- When a moving view is refused, and with which number (document 02, request 11), in the paper's own numbers.
-- Assumes nothing.
use Rattle.std.specs.Prelude.{ℕ, ◌+◌, ◌-◌, ◌*◌, ◌<◌, [], ◌∷◌}
use Rattle.common.specs.FirstOf.{FirstOf}

-- "Refused: 18 a width outside 1 to 64; 19 a run above 65,535; 11 for output space comes last." Of so many records
-- there is a full stretch from each place up to that number less the width, with three bytes; "A run shorter than the
-- width gives no stretches".
abbrev pub ViewRefused : ℕ → ℕ → ℕ → ℕ → Type 0
ViewRefused width records space refusal =
    FirstOf
    ((18, width < 1)
    ∷ (18, 64 < width)
    ∷ (19, 65535 < records)
    ∷ (11, space < 3 * (records + 1 - width))
    ∷ [])
    refusal
