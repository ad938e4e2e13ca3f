-- A refused call changes nothing: "state and buffers unchanged, no action" (document 01), of the dispatcher's calls,
-- the queues included.
-- Assumes nothing.
use Rattle.std.specs.Prelude.{◌≡◌, List, [], ℕ}
use Rattle.link.specs.declared.state.Action.TheVariants.{Nothing}
use Rattle.std.specs.Prelude.{None}
use Rattle.controller.specs.Refused as controller-refused
use Rattle.dispatcher.specs.declared.dispatcher.Dispatcher.{Dispatcher}
use Rattle.dispatcher.specs.Dispatcher.{Answer}
use Rattle.dispatcher.specs.Lists.{Call}
use Rattle.dispatcher.specs.Lists.Call.{queue, hand, passed}

-- the space that a call is lent, and the check store
unfoldable pub lent_space : Call → List ℕ
lent_space (queue job store) = []
lent_space hand = []
lent_space (passed call) = controller-refused.lent_space call

unfoldable pub lent_check : Call → List ℕ
lent_check (queue job store) = []
lent_check hand = []
lent_check (passed call) = controller-refused.lent_check call

-- and no byte is given, and no record handed back
pub record Unchanged (d : Dispatcher) (call : Call) (answer : Answer) : Type 0 where
  pub state : answer.reply.dispatcher ≡ d
  pub action : answer.reply.action ≡ Nothing
  pub handed : answer.reply.handed ≡ None
  pub bytes : answer.bytes ≡ 0
  pub space : answer.space ≡ lent_space call
  pub check : answer.check ≡ lent_check call

-- of an answer, whatever its refusal is
abbrev pub RefusedUnchanged : Dispatcher → Call → Answer → Type 0
RefusedUnchanged d call answer = (answer.reply.refusal ≡ 0 → ⊥) → Unchanged d call answer
