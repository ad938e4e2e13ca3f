-- `views::view::moving_view` meets its contract: what holds on the way is `Along.antt`'s.
-- Assumes nothing.
use Rattle.std.proofs.Common.{rules, ◌≡◌, Err}
use Rattle.views.proofs.Along.{starts, asks, onward, ends, refused_view}
use Rattle.views.proofs.view.moving_view.Goals as goal

pub returns-in_err-check_view : goal.returns-in_err-check_view
returns-in_err-check_view c =
    let same : c.from_residual.result ≡ Err c.in_err-check_view.field-0.0 = search rules in
    let refused = refused_view c.args.width c.args.run.now c.args.out.now _ c.in_err-check_view.ensures.refused in
    record { answered = rw same refused.0; written = refused.1 }

pub loop-record-init : goal.loop-record-init
loop-record-init c =
    let ok = c.in_ok-check_view.ensures.admitted in
    rw c.open-window.ensures (starts c.args.width ok.some ok.few c.args.out.now)

pub step-requires : goal.step-requires
step-requires c =
    let asked = asks c.args.width c.args.run.now c.args.out.now c.in_ok-check_view.ensures.admitted
    c.in_ok-check_view.ensures.refused c.loop-record.record-index _ _ c.loop-record.invariant c.loop-record-test.true
    c.loop-record.auto.out in
    record { whole = asked.whole; few_taken = asked.few_taken; few_stretches = asked.few_stretches; room = asked.room }

pub loop-record-preserved : goal.loop-record-preserved
loop-record-preserved c =
    onward c.args.width c.args.run.now c.args.out.now c.in_ok-check_view.ensures.admitted
    c.in_ok-check_view.ensures.refused c.loop-record.record-index _ _ c.loop-record.invariant c.loop-record-test.true
    _ _ c.step.ensures

pub returns : goal.returns
returns c =
    let all = ends c.args.width c.args.run.now c.args.out.now c.in_ok-check_view.ensures.admitted
    c.in_ok-check_view.ensures.refused c.loop-record.record-index _ _ c.loop-record.invariant c.loop-record-test.false
    c.view.result c.view.ensures in
    record { answered = all.0; written = all.1 }
