-- What a call of the controller in place tells, with queues beside that controller: what the definitions put beside it.
-- Assumes nothing.
use Rattle.std.specs.Prelude.{◌≡◌, List, Result, Ok, Err, refl}
use Prim.Native.Nat.{ℕ}
use Rattle.common.specs.declared.refusals.Refusal.{Refusal}
use Rattle.controller.specs.declared.controller.Controller.{Controller}
use Rattle.controller.specs.declared.controller.Answer.{Answer as Told}
use Rattle.controller.specs.declared.controller.Given.{Given}
use Rattle.controller.specs.Told as alone
use Rattle.controller.specs.Records as records
use Rattle.queues.specs.declared.jobs.Queues.{Queues}
use Rattle.dispatcher.specs.Told.{told_of}
use Rattle.dispatcher.specs.Dispatcher.{with_queues, answered_in, answer_with_queues}

pub told_beside : (queues : Queues) (c : Controller) (a : Result Told Refusal)
    → told_of (record { controller = c; queues = queues }) a ≡ with_queues queues (alone.told_of c a)
told_beside queues c (Ok a) = refl
told_beside queues c (Err e) = refl

pub given_beside : (queues : Queues) (c : Controller) (a : Result Given Refusal) (space check : List ℕ)
    → answered_in (record { controller = c; queues = queues }) a space check
    ≡ answer_with_queues queues (records.answered_in c a space check)
given_beside queues c (Ok a) space check = refl
given_beside queues c (Err e) space check = refl
