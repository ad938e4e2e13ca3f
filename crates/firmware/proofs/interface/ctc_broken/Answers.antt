-- `firmware::interface::ctc_broken` meets its contract.
-- Assumes nothing.
use mathlib.Core.Path.{refl}
use borrow.Author.Rules.{rules}
use Rattle.controller.specs.Machine as machine
use Rattle.controller.specs.Refused as controller-refused
use Rattle.dispatcher.specs.Refused.{lent_space, lent_check}
use Rattle.firmware.proofs.CallLaws.{passed_by}
use Rattle.firmware.proofs.interface.ctc_broken.Goals as goal

pub returns : goal.returns
unfolding machine.step lent_space lent_check controller-refused.lent_space controller-refused.lent_check
returns c =
    let a = c.args in
    passed_by machine.broken a.state.now a.answer.now _ refl refl c.on_state.ensures.none c.on_state.ensures.called
    (λ told next ran. search rules)
