-- A refused call: "state and buffers unchanged, no action" (document 01, Turned back). Of any call, in any state,
-- damaged ones included.
-- Assumes nothing.
use Rattle.std.specs.Prelude.{◌≡◌, ℕ, List, []}
use Rattle.link.specs.declared.state.Action.TheVariants.{Nothing}
use Rattle.std.specs.Prelude.{None}
use Rattle.controller.specs.declared.controller.Controller.{Controller}
use Rattle.controller.specs.Records.{Answer}
use Rattle.controller.specs.Machine.{Call, when_lent}

-- the space that a call is lent; the calls that are lent nothing have none
unfoldable pub lent_space : Call → List ℕ
lent_space = when_lent (λ host space check. space) (λ r space check. space) []

-- the check store, "lent to data and result calls only"
unfoldable pub lent_check : Call → List ℕ
lent_check = when_lent (λ host space check. check) (λ r space check. check) []

-- "state and buffers unchanged, no action": and no byte is given, and no record handed back
pub record Unchanged (c : Controller) (call : Call) (answer : Answer) : Type 0 where
  pub state : answer.reply.controller ≡ c
  pub action : answer.reply.action ≡ Nothing
  pub handed : answer.reply.handed ≡ None
  pub bytes : answer.bytes ≡ 0
  pub space : answer.space ≡ lent_space call
  pub check : answer.check ≡ lent_check call

-- of an answer, whatever its refusal is
abbrev pub RefusedUnchanged : Controller → Call → Answer → Type 0
RefusedUnchanged c call answer = (answer.reply.refusal ≡ 0 → ⊥) → Unchanged c call answer
