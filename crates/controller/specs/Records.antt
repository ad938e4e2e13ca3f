-- The data call and the result (document 01, Stores; Records), as far as they concern the state.
-- Assumes nothing.
use Rattle.std.specs.Prelude.{ℕ, List, Result as Step, length}
use Rattle.common.specs.Space.{overwrite}
use Rattle.common.specs.declared.refusals.Refusal.{Refusal}
use Rattle.status.specs.declared.drives.Drive.{Drive}
use Rattle.status.specs.Drives.{with_gap}
use Rattle.operations.specs.declared.operation.Operation.{Operation}
use Rattle.operations.specs.declared.operation.Operation.TheVariants.{Write}
use Rattle.operations.specs.declared.store.Store.{Store}
use Rattle.transfers.specs.declared.after.Words.{Words}
use Rattle.transfers.specs.declared.after.After.{After}
use Rattle.transfers.specs.Data.{Host, write_image, data_check, settle_data}
use Rattle.transfers.specs.Results.{Result, result_into, result_check_into, settle_result}
use Rattle.link.specs.declared.state.Body.{Body}
use Rattle.link.specs.State.{with_outcome, with_words, with_current_drive, current_drive}
use Rattle.controller.specs.declared.controller.Controller.{Controller}
use Rattle.controller.specs.declared.controller.Given.{Given}
use Rattle.controller.specs.declared.controller.Reply.{Reply as Replied}
use Rattle.controller.specs.Told.{Reply, Transfer, told_transfer, told_transfer_of}
use Rattle.controller.specs.Controller.{carried}
use Rattle.controller.specs.Stores.{order_move, end_operation}

-- a call's answer: its reply, how many bytes of the lent space it gives, and what it leaves in that space and in the
-- check store
pub record Answer : Type 0 where
  pub reply : Reply
  pub bytes : ℕ
  pub space : List ℕ
  pub check : List ℕ

-- the answer that this is, with what the call left in the lent space and in the check store
abbrev pub answer_with : Transfer → List ℕ → List ℕ → Answer
answer_with t space check = record { reply = t.reply; bytes = t.bytes; space = space; check = check }

-- the answer that a call's result is
abbrev pub answered : Replied Controller Given → List ℕ → List ℕ → Answer
answered r space check = answer_with (told_transfer r) space check

-- and that of a call in place, which leaves this state
abbrev pub answered_in : Controller → Step Given Refusal → List ℕ → List ℕ → Answer
answered_in c result space check = answer_with (told_transfer_of c result) space check

-- the status words as they stand
abbrev pub words_of : Body → Words
words_of b = record { outcome = b.outcome; tertiary = b.tertiary; quintary = b.quintary }

-- and set anew
abbrev pub with_status : Body → Words → Body
with_status b words = with_outcome (with_words b words.tertiary words.quintary) words.outcome

-- what a result leaves: the words, and the gap of the selected drive
abbrev pub with_after : Body → After → Body
with_after b after = with_current_drive (with_status b after.words) (with_gap (current_drive b) after.gap)

-- "the data call builds the image and orders the move", by the density of the drive
unfoldable pub data_done : Body → Drive → Store → Host → List ℕ → List ℕ → Answer
data_done b drive store host space check =
    let written = settle_data (words_of b) drive store host in
    let image = write_image store host drive.density in
    record {
      reply = carried (order_move (with_status b written.words) Write store);
      bytes = written.bytes;
      space = overwrite image space;
      check = data_check drive store image check;
    }

-- a result is settled for the drive that moved, and the operation ends
unfoldable pub result_done : Body → Drive → Operation → Store → Result → List ℕ → List ℕ → Answer
result_done b drive operation store r space check =
    let after = settle_result (words_of b) drive operation store r (length space) check in
    record {
      reply = carried (end_operation (with_after b after) operation store);
      bytes = after.bytes;
      space = result_into drive operation store r space check;
      check = result_check_into drive operation store r check;
    }
