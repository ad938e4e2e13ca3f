-- `views::window::Window::step` meets its contract.
-- Assumes nothing.
use Rattle.std.proofs.Common.{arith}
use Rattle.views.proofs.StepLaws.{one_more}
use Rattle.views.proofs.window.Window.step.Goals as goal

pub returns : goal.returns
returns c width codes space u =
    one_more width codes space c.args.self.now _ u _ c.shift.new.self c.shift.ensures _ _
    (λ h. rw c.shift.ensures.stretches
    (c.requires.room (omega (arith, h, c.shift.ensures.width, c.shift.ensures.taken))))
    c.put_placed.ensures.noted c.put_placed.ensures.given
