-- So many records have gone through the window.
-- Assumes nothing.
use Rattle.std.proofs.Common.{take}
use Rattle.views.specs.View.{codes_of}
use Rattle.views.specs.Window.{After}
use Rattle.views.proofs.view.moving_view.Given as goal

abbrev pub invariant-loop-record : goal.invariant-loop-record
invariant-loop-record l = After l.width (take l.record-index (codes_of l.run)) l.fn.out l.window l.out
