-- What a call hands back, as the definitions and the functions for C have it: its refusal is a number, 0 where the call
-- is carried out; and what a value of the program tells of that.
-- Assumes nothing.
use Rattle.std.specs.Prelude.{ℕ, Result, Ok, Err, None}
use Rattle.common.specs.declared.refusals.Refusal.{Refusal}
use Rattle.common.specs.Refusals.{done}
use Rattle.common.specs.Told.{number_of}
use Rattle.link.specs.State.{Handed}
use Rattle.link.specs.declared.state.Action.{Action}
use Rattle.link.specs.declared.state.Action.TheVariants.{Nothing}
use Rattle.controller.specs.declared.controller.Controller.{Controller}
use Rattle.controller.specs.declared.controller.Answer.{Answer}
use Rattle.controller.specs.declared.controller.Given.{Given}
use Rattle.controller.specs.declared.controller.Reply.{Reply as Replied}

-- what a call hands back: the next state, what it has its caller do, its refusal, and the record of a store whose code
-- it settled
pub record Reply : Type 0 where
  pub controller : Controller
  pub action : Action
  pub refusal : ℕ
  pub handed : Handed

-- of a call that is lent space, how many bytes of it the call gives too
pub record Transfer : Type 0 where
  pub reply : Reply
  pub bytes : ℕ

-- a value of the program: a refusal by its number, with no action and no record
abbrev pub told_of : Controller → Result Answer Refusal → Reply
told_of c (Ok a) = record { controller = c; action = a.action; refusal = done; handed = a.handed }
told_of c (Err e) = record { controller = c; action = Nothing; refusal = number_of e; handed = None }

abbrev pub told : Replied Controller Answer → Reply
told r = told_of r.state r.answer

-- and of a call that is lent space
abbrev pub told_transfer_of : Controller → Result Given Refusal → Transfer
told_transfer_of c (Ok g) = record { reply = told_of c (Ok g.answer); bytes = g.bytes }
told_transfer_of c (Err e) = record { reply = told_of c (Err e); bytes = 0 }

abbrev pub told_transfer : Replied Controller Given → Transfer
told_transfer r = told_transfer_of r.state r.answer
