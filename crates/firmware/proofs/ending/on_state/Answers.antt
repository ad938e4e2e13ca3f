-- The call is made on what the bytes hold, and ends as one that gives no bytes.
-- Assumes nothing.
use mathlib.Core.Path.{◌≡◌, ap, subst, ◌∙◌}
use borrow.Author.Rules.{rules}
use Rattle.std.specs.Prelude.{Result as Outcome}
use Rattle.std.specs.Fn.{FnOnceReturnsAtMut}
use Rattle.common.specs.declared.refusals.Refusal.{Refusal}
use Rattle.controller.specs.declared.controller.Given.{Given}
use Rattle.firmware.specs.Calls.{end_stored, giving_none}
use Rattle.firmware.proofs.CallLaws.{some_held}
use Rattle.firmware.proofs.ending.on_state.Goals as goal

pub returns-clause-called : goal.returns-clause-called
returns-clause-called g c holds =
    let a = c.args in
    let next = c.call.new.arg2 in
    let bytes = g.S.Stored.with_put next a.state.now in
    let ran =
    subst (λ (s : g.row.S.Denot). FnOnceReturnsAtMut g.F.FnOnce a.call s c.call.result next)
    (some_held _ _ _ c.in-Some.ensures).1 (search rules)
    in
    let given : c.map-told.result ≡ giving_none c.call.result = search rules in (
      c.call.result,
      next,
      ran,
      c.end_stored.ensures
          ∙ ap (λ (told : Outcome Given Refusal). end_stored bytes told a.state.now a.answer.now) given,
    )
