-- `table::rules::is_clear` meets its contract.
-- Assumes nothing.
use Rattle.std.proofs.Common.{◌∙◌}
use Rattle.table.proofs.CodeLaws.{listed}
use Rattle.table.proofs.rules.is_clear.Goals as goal

pub returns : goal.returns
returns c = c.contains.ensures.value ∙ rw c.clear_codes.ensures (listed c.args.code _)
