-- What a turn of the scan does to the marks that are left: a lemma for each case of the definition's clause.
-- Assumes nothing.
use Rattle.std.proofs.Common.{◌≡◌, ℕ, suc, ◌+◌, ◌-◌, ◌%◌, ◌<◌, ◌≤◌, List, length, get_or, drop, length-drop, drop-cons}
use Rattle.std.proofs.Common.{add-one, arith}
use borrow.Author.Tests.{eq-eqb, ne_eqb, lt-ltb, le-ltb}
use Rattle.std.proofs.Math.ListN.{drop_of_length-le}
use Rattle.common.specs.Pick.{pick}
use Rattle.marks.specs.Marks.{is_error}
use Rattle.marks.specs.Scan.{scan_from}

-- none is left
pub scan_end : (marks : List ℕ) (at odd even : ℕ) → length marks ≤ at
    → scan_from (drop at marks) at (length marks) odd even ≡ record { odd = odd; even = even; stop = length marks }
unfolding scan_from
scan_end marks at odd even done = rw (drop_of_length-le marks done)

module _ (marks : List ℕ) (at odd even : ℕ) (below : at < length marks) where
  -- what stands behind a place
  after : length (drop (suc at) marks) ≡ length marks - 1 - at
  after = simp length-drop (omega arith)

  -- a good blockette is passed
  pub scan_good : get_or marks at 0 ≡ 15
      → scan_from (drop at marks) at (length marks) odd even
      ≡ scan_from (drop (at + 1) marks) (at + 1) (length marks) odd even
  unfolding scan_from is_error pick
  scan_good good = rw (add-one, drop-cons marks at 0, eq-eqb _ _ good)

  module _ (bad : get_or marks at 0 ≡ 15 → ⊥) where
    module _ (parity : (length marks - 1 - at) % 2 ≡ 1) where
      -- the first odd error
      pub scan_odd_first : length marks ≤ odd
          → scan_from (drop at marks) at (length marks) odd even
          ≡ scan_from (drop (at + 1) marks) (at + 1) (length marks) at even
      unfolding scan_from is_error pick
      scan_odd_first none =
          rw (add-one, drop-cons marks at 0, ne_eqb _ _ bad, after, eq-eqb _ _ parity, le-ltb _ _ none)

      -- the second
      pub scan_odd_second : odd < length marks
          → scan_from (drop at marks) at (length marks) odd even ≡ record { odd = odd; even = even; stop = at }
      unfolding scan_from is_error pick
      scan_odd_second one = rw (drop-cons marks at 0, ne_eqb _ _ bad, after, eq-eqb _ _ parity, lt-ltb _ _ one)

    module _ (parity : (length marks - 1 - at) % 2 ≡ 1 → ⊥) where
      -- the first even error
      pub scan_even_first : length marks ≤ even
          → scan_from (drop at marks) at (length marks) odd even
          ≡ scan_from (drop (at + 1) marks) (at + 1) (length marks) odd at
      unfolding scan_from is_error pick
      scan_even_first none =
          rw (add-one, drop-cons marks at 0, ne_eqb _ _ bad, after, ne_eqb _ _ parity, le-ltb _ _ none)

      -- the second
      pub scan_even_second : even < length marks
          → scan_from (drop at marks) at (length marks) odd even ≡ record { odd = odd; even = even; stop = at }
      unfolding scan_from is_error pick
      scan_even_second one = rw (drop-cons marks at 0, ne_eqb _ _ bad, after, ne_eqb _ _ parity, lt-ltb _ _ one)

-- all of them
pub ruleset turns = (scan_end, scan_good, scan_odd_first, scan_odd_second, scan_even_first, scan_even_second)
