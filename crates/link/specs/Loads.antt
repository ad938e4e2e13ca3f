-- Loads (document 01, Loads, restorer, session).
-- Assumes nothing.
use Rattle.std.specs.Prelude.{ℕ, ◌/◌, ◌%◌, eqb}
use Rattle.common.specs.Pick.{pick}
use Rattle.status.specs.declared.words.Word.{Word}
use Rattle.status.specs.Words.{secondary_word, reports_word}
use Rattle.link.specs.declared.state.Kind.TheVariants.{Load}
use Rattle.link.specs.declared.state.Body.{Body}
use Rattle.link.specs.declared.state.Action.TheVariants.{Nothing}
use Rattle.link.specs.State.{Transition}
use Rattle.link.specs.Bytes.{load_reply, device_id}
use Rattle.link.specs.State.{idle}
use Rattle.link.specs.Completion.{primary_now, send_word}

-- "Address bits 1-3: 0 #0A 20 00 00; 1 primary; 2 secondary; 3 tertiary; 4 reports, drive 0 first; 5 quintary"
unfoldable pub load_word : Body → ℕ → Word
load_word b operation =
    pick (eqb operation 0) device_id
    (pick (eqb operation 1) (primary_now b)
    (pick (eqb operation 2) (secondary_word b.outcome.result.count)
    (pick (eqb operation 3) b.tertiary (pick (eqb operation 4) (reports_word b.drives) b.quintary))))

-- "6, 7 no reply, review. After a reply, review.", which comes when the reply's send ends
unfoldable pub carry_out_load : Body → ℕ → Transition
carry_out_load b address =
    let operation = address / 16 % 8 in
    pick (eqb operation 6) (idle b Nothing)
    (pick (eqb operation 7) (idle b Nothing) (send_word b Load load_reply (load_word b operation)))
