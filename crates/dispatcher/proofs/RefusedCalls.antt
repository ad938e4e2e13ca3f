-- A refused call changes nothing: the dispatcher's own leave all as it is, and those that are passed on are refused as
-- the controller's are, or for the queues alone.
-- Assumes nothing.
use mathlib.Core.Path.{refl, ap}
use borrow.Author.Tests.{eqb-true}
use Rattle.common.proofs.PickLaws.{pick_by}
use Rattle.controller.specs.declared.controller.Controller.{Controller}
use Rattle.controller.proofs.RefusedCalls as controller-refused
use Rattle.queues.specs.Jobs.{are_sound}
use Rattle.dispatcher.specs.declared.dispatcher.Dispatcher.{Dispatcher}
use Rattle.dispatcher.specs.Dispatcher.{Answer, passed_answer}
use Rattle.dispatcher.specs.Lists.{Call, Exchange, step}
use Rattle.dispatcher.specs.Lists.Call.{passed}
use Rattle.dispatcher.specs.Refused.{lent_space, lent_check, RefusedUnchanged}
use Rattle.dispatcher.proofs.Laws.{hand_accepted}
use Rattle.dispatcher.proofs.Steps.IsOwn.{queueing, handing}
use Rattle.dispatcher.proofs.Steps.{exchanged, OfRefusals, OfPassed, Kinds, by_step}

abbrev Unmoved : Dispatcher → Exchange → Type 0
Unmoved d x = RefusedUnchanged d x.call x.answer

refusals_case : OfRefusals Unmoved
unfolding lent_space lent_check
refusals_case d call number (queueing job store) some refused =
    record { state = refl; action = refl; handed = refl; bytes = refl; space = refl; check = refl }
refusals_case d call number handing some refused =
    record { state = refl; action = refl; handed = refl; bytes = refl; space = refl; check = refl }

passed_case : OfPassed Unmoved
unfolding step passed_answer lent_space lent_check
passed_case d call =
    pick_by (λ (a : Answer). Unmoved d (exchanged (passed call) a)) (are_sound d.queues)
    (λ sound refused.
    let own = controller-refused.steps_refused_unchanged d.controller call refused in
    record {
      state = ap (λ (c : Controller). record { controller = c; queues = d.queues }) own.state;
      action = own.action;
      handed = own.handed;
      bytes = own.bytes;
      space = own.space;
      check = own.check;
    })
    (λ hurt refused. record { state = refl; action = refl; handed = refl; bytes = refl; space = refl; check = refl })

unmoved : Kinds Unmoved
unmoved =
    record {
      refusals = refusals_case;
      passes = passed_case;
      queues = λ d job store good refused. absurd (refused refl);
      nothing = λ d is refused. absurd (refused refl);
      hands = λ d job whole idle is served refused. absurd (refused (eqb-true _ 0 (hand_accepted d job whole idle)));
    }

pub steps_refused_unchanged : (d : Dispatcher) (call : Call) → RefusedUnchanged d call (step d call)
steps_refused_unchanged d call = by_step Unmoved unmoved d call
