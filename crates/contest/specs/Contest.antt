-- Driver against tape as a contest, from its rules alone (document 02, request 12): "Play it as a contest from a gap
-- that I give as proper or improper." Where it stands, what the driver may do, what the tape may answer, and what the
-- driver can force.
-- Assumes nothing.
use Rattle.std.specs.Prelude.{ℕ, zero, suc, ◌-◌, Bool, true, false, not, ◌&&◌, ◌||◌, ltb, eqb, Option, None, Some}
use Rattle.common.specs.Pick.{pick}
use Rattle.contest.specs.declared.contest.Gap.{Gap}
use Rattle.contest.specs.declared.contest.Gap.TheVariants.{Proper, Improper}
use Rattle.contest.specs.declared.contest.Move.{Move}
use Rattle.contest.specs.declared.contest.Move.TheVariants.{Write, SkipReverse}

-- "The driver must finish w good writes with n stores; the tape may spoil at most f writes": the gap, the good writes
-- that are left to finish, and the writes that the tape may still spoil. The stores that are left are what `forces`
-- counts down.
pub record Position : Type 0 where
  pub gap : Gap
  pub writes : ℕ
  pub spoilings : ℕ

-- the position of these three
abbrev pub position_of : Gap → ℕ → ℕ → Position
position_of gap writes spoilings = record { gap = gap; writes = writes; spoilings = spoilings }

-- no good write is left to finish
unfoldable pub is_finished : Position → Bool
is_finished p = eqb p.writes 0

-- ---- the rules: each store costs one of those left, and takes no good write back

-- "The driver may write only in a proper gap"
unfoldable pub may_write : Gap → Bool
may_write Proper = true
may_write Improper = false

-- "the tape may spoil at most f writes"
unfoldable pub may_spoil : Position → Bool
may_spoil p = ltb 0 p.spoilings

-- after a good write, which leaves the gap proper
unfoldable pub after_good : Position → Position
after_good p = position_of Proper (p.writes - 1) p.spoilings

-- after a spoiled write, which leaves the gap improper
unfoldable pub after_spoiled : Position → Position
after_spoiled p = position_of Improper p.writes (p.spoilings - 1)

-- "a skip reverse, which always works here, makes it proper"
unfoldable pub after_skip : Position → Position
after_skip p = position_of Proper p.writes p.spoilings

-- ---- what the driver can force

-- Whether a store wins, by the positions from which the driver wins once it is spent: a write if he may, and wins
-- whichever way the tape answers, which lets it be good or, where it may, spoils it.
unfoldable pub store_wins : (Position → Bool) → Move → Position → Bool
store_wins wins Write p = may_write p.gap && (wins (after_good p) && (not (may_spoil p) || wins (after_spoiled p)))
store_wins wins SkipReverse p = wins (after_skip p)

-- "whether the driver can force all w" with so many stores: all are finished, or there is a store that wins
unfoldable pub forces : ℕ → Position → Bool
forces zero p = is_finished p
forces (suc n) p = is_finished p || (store_wins (forces n) Write p || store_wins (forces n) SkipReverse p)

-- ---- "the first store of a winning play"

-- it, or none
abbrev pub Opening : Type 0
Opening = Option Move

-- whether a store can be the first of one
unfoldable pub begins : ℕ → Move → Position → Bool
begins zero store p = false
begins (suc n) store p = store_wins (forces n) store p

-- "none where w is 0 or the answer is no, and a write where both stores win"
unfoldable pub opening_of : ℕ → Position → Opening
opening_of n p =
    pick (is_finished p || not (forces n p)) None (pick (begins n Write p) (Some Write) (Some SkipReverse))
