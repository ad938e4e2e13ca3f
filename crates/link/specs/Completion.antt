-- Completion and what is sent (document 01, Completion).
-- Assumes nothing.
use Rattle.std.specs.Prelude.{ℕ, Bool, false}
use Rattle.common.specs.Pick.{pick}
use Rattle.status.specs.declared.words.Word.{Word}
use Rattle.status.specs.Words.{primary_of, secondary_word}
use Rattle.link.specs.Frames.{string_of}
use Rattle.link.specs.declared.state.Kind.{Kind}
use Rattle.link.specs.declared.state.Kind.TheVariants.{Secondary, Completion}
use Rattle.link.specs.declared.state.Phase.TheVariants.{Sending}
use Rattle.link.specs.declared.state.Body.{Body}
use Rattle.link.specs.declared.state.Action.TheVariants.{Nothing, Text}
use Rattle.std.specs.Prelude.{None}
use Rattle.link.specs.State.{Transition}
use Rattle.link.specs.Bytes.{secondary_update, interrupt}
use Rattle.link.specs.State.{with_flags, current_drive, review, idle}

-- primary as the state stands
unfoldable pub primary_now : Body → Word
primary_now b = primary_of b.changed b.enable b.outcome b.selected (current_drive b)

-- "A sent string is six bytes: lead, four status bytes, check": it is sent, with no noes so far
unfoldable pub send_word : Body → Kind → ℕ → Word → Transition
send_word b kind lead word =
    record {
      body = b;
      phase = Sending (record { kind = kind; bytes = string_of lead word; noes = 0 });
      action = Text (string_of lead word);
      handed = None;
    }

-- "if bit 22 send secondary; then primary"
unfoldable pub send_interrupt : Body → Transition
send_interrupt b =
    pick b.outcome.counted (send_word b Secondary secondary_update (secondary_word b.outcome.result.count))
    (send_word b Completion interrupt (primary_now b))

-- "then review. With an interrupt asked: clear enable; .."
unfoldable pub complete : Body → Bool → Transition
complete b asked = pick asked (send_interrupt (with_flags (review b) (review b).changed false)) (idle b Nothing)
