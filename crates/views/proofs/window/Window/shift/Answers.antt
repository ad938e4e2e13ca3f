-- `views::window::Window::shift` meets its contract.
-- Assumes nothing.
use Rattle.std.proofs.Common.{inl, inr}
use Rattle.views.proofs.WindowLaws.{can_count, shifts}
use Rattle.views.proofs.window.Window.shift.Goals as goal
use Rattle.views.proofs.window.Window.shift.Goals.{then-oldest-self, else-oldest-self}

pub counts_after-self-requires-clause-recoverable : goal.counts_after-self-requires-clause-recoverable
counts_after-self-requires-clause-recoverable c = (can_count c.args.self.now c.requires.whole).0

pub counts_after-self-requires-clause-unrecoverable : goal.counts_after-self-requires-clause-unrecoverable
counts_after-self-requires-clause-unrecoverable c = (can_count c.args.self.now c.requires.whole).1.0

pub counts_after-self-requires-clause-others : goal.counts_after-self-requires-clause-others
counts_after-self-requires-clause-others c = (can_count c.args.self.now c.requires.whole).1.1

pub returns : goal.returns
returns c =
    shifts c.args.self.now c.requires.whole c.args.code _ _
    (elim c.if-oldest-self.branch [
      | then-oldest-self w ↦ inl (w.if-oldest-self.true, w.self-is)
      | else-oldest-self w ↦ inr (w.if-oldest-self.false, w.self-is)
    ])
    c.counts_after-self.ensures
