-- `firmware::interface::ctc_queue` meets its contract.
-- Assumes nothing.
use mathlib.Core.Path.{refl}
use borrow.Author.Rules.{rules}
use Rattle.dispatcher.specs.Lists.{step}
use Rattle.dispatcher.specs.Lists.Call.{queue}
use Rattle.dispatcher.specs.Refused.{lent_space, lent_check}
use Rattle.firmware.specs.Calls.{store_of}
use Rattle.firmware.proofs.CallLaws.{called_by}
use Rattle.firmware.proofs.interface.ctc_queue.Goals as goal

pub returns : goal.returns
unfolding step lent_space lent_check
returns c =
    let a = c.args in
    let call = queue a.job (store_of a.address a.first a.second a.third a.fourth) in
    called_by call a.state.now a.answer.now _ refl refl c.on_state.ensures.none c.on_state.ensures.called
    (λ told next ran. search rules)
