-- `table::rules::is_listed` meets its contract.
-- Assumes nothing.
use Rattle.std.proofs.Common.{◌∙◌}
use Rattle.table.proofs.CodeLaws.{listed}
use Rattle.table.proofs.rules.is_listed.Goals as goal

pub returns : goal.returns
returns c = c.contains.ensures.value ∙ rw c.listed_codes.ensures (listed c.args.code _)
