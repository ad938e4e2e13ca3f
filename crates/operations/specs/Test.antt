-- The tape test (document 01, Stores: "Code 04 unless: ..") over a drive's record.
-- Assumes nothing.
use Rattle.std.specs.Prelude.{ℕ, Bool, true, not, ◌&&◌, ◌||◌, eqb}
use Rattle.status.specs.Drives.{eot, installed, bot_warning, protected, position_unknown, selectable, bot, gap_proper}
use Rattle.status.specs.Drives.{reports}
use Rattle.operations.specs.declared.operation.Motion.{Motion}
use Rattle.operations.specs.declared.operation.Motion.TheVariants.{Still, Forward, Reverse, Rewinding, Winding}
use Rattle.operations.specs.declared.operation.Motion.TheVariants.{Writing, Erasing}

-- "all that move tape need installed and selectable"
abbrev pub is_ready : ℕ → Bool
is_ready report = reports report installed && reports report selectable

-- "these, but for rewind and fast forward, need position known"
abbrev pub is_placed : ℕ → Bool
is_placed report = is_ready report && not (reports report position_unknown)

-- "forward moves, write, write mark and erase need no EOT"
abbrev pub is_ahead_free : ℕ → Bool
is_ahead_free report = is_placed report && not (reports report eot)

-- "reverse moves need no BOT"
abbrev pub is_behind_free : ℕ → Bool
is_behind_free report = is_placed report && not (reports report bot)

-- "While set, write, write mark and erase give code 04 unless the gap is 0 or BOT warning is reported." (document 02,
-- request 7)
abbrev pub is_guarded : Bool → ℕ → ℕ → Bool
is_guarded guard gap report = guard && not (eqb gap gap_proper || reports report bot_warning)

-- "write, write mark and erase need not protected", and no guard against it
abbrev pub is_writable : ℕ → Bool → ℕ → Bool
is_writable report guard gap = (is_ahead_free report && not (reports report protected))
    && not (is_guarded guard gap report)

-- by the drive's report, its guard and its gap; "check bytes have no test"
unfoldable pub may_move : Motion → ℕ → Bool → ℕ → Bool
may_move Still report guard gap = true
may_move Forward report guard gap = is_ahead_free report
may_move Reverse report guard gap = is_behind_free report
may_move Rewinding report guard gap = is_ready report
may_move Winding report guard gap = is_ready report
may_move Writing report guard gap = is_writable report guard gap
may_move Erasing report guard gap = is_writable report guard gap
