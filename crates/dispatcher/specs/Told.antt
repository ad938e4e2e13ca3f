-- What a call hands back, as the definitions and the functions for C have it: its refusal is a number, 0 where the call
-- is carried out; and what a value of the program tells of that.
-- Assumes nothing.
use Rattle.std.specs.Prelude.{ℕ, Result, Ok, Err, None}
use Rattle.common.specs.declared.refusals.Refusal.{Refusal}
use Rattle.common.specs.Refusals.{done}
use Rattle.common.specs.Told.{number_of}
use Rattle.link.specs.State.{Handed}
use Rattle.link.specs.declared.state.Action.{Action}
use Rattle.link.specs.declared.state.Action.TheVariants.{Nothing}
use Rattle.controller.specs.declared.controller.Answer.{Answer}
use Rattle.controller.specs.declared.controller.Given.{Given}
use Rattle.controller.specs.declared.controller.Reply.{Reply as Replied}
use Rattle.dispatcher.specs.declared.dispatcher.Dispatcher.{Dispatcher}

-- what a call hands back: the next state, what is to be done, the refusal or 0, and the record of a store whose code
-- the call settled
pub record Dispatched : Type 0 where
  pub dispatcher : Dispatcher
  pub action : Action
  pub refusal : ℕ
  pub handed : Handed

-- what a data or result call hands back: the same, and how many bytes of the lent space it gives
pub record DispatchedTransfer : Type 0 where
  pub reply : Dispatched
  pub bytes : ℕ

-- a value of the program: a refusal by its number, with no action and no record
abbrev pub told_of : Dispatcher → Result Answer Refusal → Dispatched
told_of d (Ok a) = record { dispatcher = d; action = a.action; refusal = done; handed = a.handed }
told_of d (Err e) = record { dispatcher = d; action = Nothing; refusal = number_of e; handed = None }

abbrev pub told : Replied Dispatcher Answer → Dispatched
told r = told_of r.state r.answer

-- and of a call that is lent space
abbrev pub told_transfer_of : Dispatcher → Result Given Refusal → DispatchedTransfer
told_transfer_of d (Ok g) = record { reply = told_of d (Ok g.answer); bytes = g.bytes }
told_transfer_of d (Err e) = record { reply = told_of d (Err e); bytes = 0 }

abbrev pub told_transfer : Replied Dispatcher Given → DispatchedTransfer
told_transfer r = told_transfer_of r.state r.answer
