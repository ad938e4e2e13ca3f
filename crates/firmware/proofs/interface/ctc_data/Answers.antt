-- `firmware::interface::ctc_data` meets its contract.
-- Assumes nothing.
use mathlib.Core.Path.{ap, ◌∙◌}
use Prim.Native.Nat.{ℕ}
use Rattle.controller.specs.Machine as machine
use Rattle.controller.specs.Refused as controller-refused
use Rattle.dispatcher.specs.Refused.{lent_space, lent_check}
use Rattle.firmware.proofs.CallLaws.{none_held, passed_on_none, passed_lent}
use Rattle.transfers.specs.Data.{host_of}
use Rattle.firmware.specs.Calls.{ended, left}
use Rattle.firmware.proofs.interface.ctc_data.Goals as goal

pub returns-in_default : goal.returns-in_default
unfolding lent_space lent_check controller-refused.lent_space controller-refused.lent_check
returns-in_default c =
    let a = c.args in
    let call = machine.host_data (host_of a.host.now a.place) a.space.now a.check.now in
    ap (λ (number : ℕ). left (ended number a.state.now a.answer.now) a.space.now a.check.now) c.from.ensures
    ∙ passed_on_none call a.state.now a.answer.now (none_held _ _ c.in_default.ensures)

pub returns : goal.returns
unfolding machine.step
returns c =
    let a = c.args in
    let call = machine.host_data (host_of a.host.now a.place) a.space.now a.check.now in
    passed_lent call a.state.now a.answer.now _ _ _ _ _ _ c.in-Some.ensures c.data_in_place-told.ensures
    c.end_stored.ensures
