use Rattle.std.proofs.Common.{◌≡◌, ◌-◌, ◌≤◌, length, drop}
use Rattle.marks.specs.Scan.{scan_from, scan_marks}
use Rattle.marks.proofs.scan_marks.Given as goal

-- Before each turn the scan of the marks that are left, from what was found so far, is the scan of all.
abbrev pub invariant-loop-left : goal.invariant-loop-left
invariant-loop-left l =
    (l.at ≤ length l.marks) × (scan_from (drop l.at l.marks) l.at (length l.marks) l.odd l.even ≡ scan_marks l.marks)

abbrev pub decreases-loop-left : goal.decreases-loop-left
decreases-loop-left l = length l.marks - l.at
