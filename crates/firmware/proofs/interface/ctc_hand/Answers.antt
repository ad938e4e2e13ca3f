-- `firmware::interface::ctc_hand` meets its contract.
-- Assumes nothing.
use mathlib.Core.Path.{refl}
use borrow.Author.Rules.{rules}
use Rattle.dispatcher.specs.Lists.{step}
use Rattle.dispatcher.specs.Lists.Call.{hand}
use Rattle.dispatcher.specs.Refused.{lent_space, lent_check}
use Rattle.firmware.proofs.CallLaws.{called_by}
use Rattle.firmware.proofs.interface.ctc_hand.Goals as goal

pub returns : goal.returns
unfolding step lent_space lent_check
returns c =
    let a = c.args in
    called_by hand a.state.now a.answer.now _ refl refl c.on_state.ensures.none c.on_state.ensures.called
    (λ told next ran. search rules)
