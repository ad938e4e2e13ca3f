-- A refused call changes nothing: each kind of step is carried out, or hands back what it was given.
-- Assumes nothing.
use mathlib.Core.Path.{refl}
use Rattle.controller.specs.declared.controller.Controller.{Controller}
use Rattle.controller.specs.Records.{data_done, result_done}
use Rattle.controller.specs.Machine.{Call, Exchange, data_in, result_in, step}
use Rattle.controller.specs.Refused.{RefusedUnchanged}
use Rattle.controller.proofs.Steps.{OfRefusals, OfData, OfResults, Kinds, data_for_lem, result_for_lem}
use Rattle.controller.proofs.Steps.{by_step}

abbrev Unmoved : Controller → Exchange → Type 0
Unmoved c x = RefusedUnchanged c x.call x.answer

refusals_case : OfRefusals Unmoved
refusals_case c call number space check some at_space at_check refused =
    record { state = refl; action = refl; handed = refl; bytes = refl; space = at_space; check = at_check }

writes_case : OfData Unmoved
unfolding data_in data_done
writes_case b held host space check =
    data_for_lem Unmoved refusals_case b held _ host space check (λ refused. absurd (refused refl))

results_case : OfResults Unmoved
unfolding result_in result_done
results_case b operation held r space check =
    result_for_lem Unmoved refusals_case b held _ operation r space check (λ good refused. absurd (refused refl))

unmoved : Kinds Unmoved
unmoved =
    record {
      refusals = refusals_case;
      link = λ c call t links free rests strings none refused. absurd (refused refl);
      stores = λ b s lead refused. absurd (refused refl);
      handings = λ b s store refused. absurd (refused refl);
      reports = λ c n r within refused. absurd (refused refl);
      yes = λ b held value accepts refused. absurd (refused refl);
      no = λ b held call says refused. absurd (refused refl);
      writes = writes_case;
      results = results_case;
      resets = λ c refused. absurd (refused refl);
    }

pub steps_refused_unchanged : (c : Controller) (call : Call) → RefusedUnchanged c call (step c call)
steps_refused_unchanged c call = by_step Unmoved unmoved c call
