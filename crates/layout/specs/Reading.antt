-- The state that bytes hold. Each field is read where it stands in the table of `Places`.
-- Assumes nothing.
use Rattle.std.specs.Prelude.{ℕ, ◌+◌, ◌*◌, Bool, ◌&&◌, List, [], ◌∷◌, leb, eqb, get_or}
use Rattle.common.specs.Pick.{pick}
use Rattle.status.specs.declared.drives.Drive.{Drive}
use Rattle.status.specs.Drives.{Drives}
use Rattle.status.specs.declared.words.Word.{Word}
use Rattle.status.specs.declared.words.Outcome.{Outcome}
use Rattle.operations.specs.declared.store.Store.{Store}
use Rattle.operations.specs.declared.operation.Operation.{Operation}
use Rattle.operations.specs.Operation as operation
use Rattle.link.specs.declared.state.Collected.{Collected}
use Rattle.link.specs.declared.state.Kind.{Kind}
use Rattle.link.specs.declared.state.Kind.TheVariants.{Load, Secondary, Completion, Change}
use Rattle.link.specs.declared.state.Send.{Send}
use Rattle.link.specs.declared.state.Phase.{Phase}
use Rattle.link.specs.declared.state.Phase.TheVariants.{Collecting, AckOffered, Sending, GoOffered, DataAwaited}
use Rattle.link.specs.declared.state.Phase.TheVariants.{ResultAwaited, EndOffered}
use Rattle.link.specs.declared.state.Body.{Body}
use Rattle.controller.specs.declared.controller.Controller.{Controller}
use Rattle.queues.specs.declared.queue.Queue.{Queue}
use Rattle.queues.specs.declared.jobs.Queues.{Queues}
use Rattle.queues.specs.Jobs.{are_sound}
use Rattle.dispatcher.specs.declared.dispatcher.Dispatcher.{Dispatcher}
use Rattle.layout.specs.Places.{layout, layout_place, drives_place, selected_place, changed_place, enable_place}
use Rattle.layout.specs.Places.{retry_place, mark_place, code_place, motion_place, count_place, parity_place}
use Rattle.layout.specs.Places.{overflow_place, underflow_place, wdl_place, rdl_place, supplied_place, counted_place}
use Rattle.layout.specs.Places.{tertiary_place, quintary_place, phase_place, held_place, queues_place, last_place}
use Rattle.layout.specs.Places.{drive_length, guard_place, queue_length, store_length, sending, result_awaited}
use Rattle.layout.specs.Places.{collecting, ack_offered, go_offered, data_awaited, end_offered, last_kind}
use Rattle.layout.specs.Places.{last_operation}

-- ---- a byte, a flag and a count

abbrev pub byte_at : List ℕ → ℕ → ℕ
byte_at s place = get_or s place 0

abbrev pub flag_at : List ℕ → ℕ → Bool
flag_at s place = eqb (byte_at s place) 1

-- the high byte first
abbrev pub count_at : List ℕ → ℕ → ℕ
count_at s place = byte_at s place * 256 + byte_at s (place + 1)

-- ---- the body

abbrev pub drive_at : List ℕ → ℕ → Drive
drive_at s place =
    record {
      report = byte_at s place;
      reviewed = byte_at s (place + 1);
      track = byte_at s (place + 2);
      density = byte_at s (place + 3);
      gap = byte_at s (place + 4);
      guard = flag_at s (place + guard_place);
    }

unfoldable pub drives_of : List ℕ → Drives
drives_of s =
    record {
      zero = drive_at s drives_place;
      one = drive_at s (drives_place + drive_length);
      two = drive_at s (drives_place + 2 * drive_length);
      three = drive_at s (drives_place + 3 * drive_length);
    }

unfoldable pub outcome_of : List ℕ → Outcome
outcome_of s =
    record {
      retry = flag_at s retry_place;
      mark = flag_at s mark_place;
      result =
          record { code = byte_at s code_place; motion = byte_at s motion_place; count = count_at s count_place };
      parity = flag_at s parity_place;
      overflow = flag_at s overflow_place;
      underflow = flag_at s underflow_place;
      wdl = flag_at s wdl_place;
      rdl = flag_at s rdl_place;
      supplied = flag_at s supplied_place;
      counted = flag_at s counted_place;
    }

abbrev pub word_at : List ℕ → ℕ → Word
word_at s place =
    record {
      b0 = byte_at s place;
      b1 = byte_at s (place + 1);
      b2 = byte_at s (place + 2);
      b3 = byte_at s (place + 3);
    }

unfoldable pub body_of : List ℕ → Body
body_of s =
    record {
      drives = drives_of s;
      selected = byte_at s selected_place;
      changed = flag_at s changed_place;
      enable = flag_at s enable_place;
      outcome = outcome_of s;
      tertiary = word_at s tertiary_place;
      quintary = word_at s quintary_place;
    }

-- ---- the phase

abbrev pub store_at : List ℕ → ℕ → Store
store_at s place =
    record {
      address = byte_at s place;
      first = byte_at s (place + 1);
      second = byte_at s (place + 2);
      third = byte_at s (place + 3);
      fourth = byte_at s (place + 4);
    }

-- a string from the host, and how much of it has come
abbrev pub collected_of : List ℕ → Collected
collected_of s =
    record {
      length = byte_at s held_place;
      c0 = byte_at s (held_place + 1);
      c1 = byte_at s (held_place + 2);
      c2 = byte_at s (held_place + 3);
      c3 = byte_at s (held_place + 4);
      c4 = byte_at s (held_place + 5);
      c5 = byte_at s (held_place + 6);
      c6 = byte_at s (held_place + 7);
      c7 = byte_at s (held_place + 8);
    }

unfoldable pub kind_of : ℕ → Kind
kind_of n = pick (eqb n 0) Load (pick (eqb n 1) Secondary (pick (eqb n 2) Completion Change))

-- a string on its way to the host: its kind, its bytes, and the noes so far
unfoldable pub send_of : List ℕ → Send
send_of s =
    record {
      kind = kind_of (byte_at s held_place);
      bytes =
          record {
            b0 = byte_at s (held_place + 1);
            b1 = byte_at s (held_place + 2);
            b2 = byte_at s (held_place + 3);
            b3 = byte_at s (held_place + 4);
            b4 = byte_at s (held_place + 5);
            b5 = byte_at s (held_place + 6);
          };
      noes = byte_at s (held_place + 7);
    }

-- by the number that the core's table of answers has for it
unfoldable pub operation_of : ℕ → Operation
operation_of n = operation.operation_of n

unfoldable pub phase_of : List ℕ → Phase
phase_of s =
    let number = byte_at s phase_place in
    pick (eqb number collecting) (Collecting (collected_of s))
    (pick (eqb number ack_offered) (AckOffered (collected_of s))
    (pick (eqb number sending) (Sending (send_of s))
    (pick (eqb number go_offered) (GoOffered (store_at s held_place))
    (pick (eqb number data_awaited) (DataAwaited (store_at s held_place))
    (pick (eqb number result_awaited)
    (ResultAwaited (operation_of (byte_at s held_place)) (store_at s (held_place + 1)))
    (EndOffered (flag_at s held_place)))))))

-- ---- the queues

unfoldable pub queue_at : List ℕ → ℕ → Queue
queue_at s place =
    record {
      stores =
          store_at s (place + 1)
          ∷ store_at s (place + 1 + store_length)
          ∷ store_at s (place + 1 + 2 * store_length)
          ∷ store_at s (place + 1 + 3 * store_length)
          ∷ store_at s (place + 1 + 4 * store_length)
          ∷ store_at s (place + 1 + 5 * store_length)
          ∷ store_at s (place + 1 + 6 * store_length)
          ∷ store_at s (place + 1 + 7 * store_length)
          ∷ [];
      length = byte_at s place;
    }

unfoldable pub queues_of : List ℕ → Queues
queues_of s =
    record {
      jobs =
          record {
            zero = queue_at s queues_place;
            one = queue_at s (queues_place + queue_length);
            two = queue_at s (queues_place + 2 * queue_length);
            three = queue_at s (queues_place + 3 * queue_length);
          };
      last = byte_at s last_place;
    }

-- ---- the whole

-- the controller alone
abbrev pub controller_of : List ℕ → Controller
controller_of s = record { body = body_of s; phase = phase_of s }

unfoldable pub state_of : List ℕ → Dispatcher
state_of s = record { controller = controller_of s; queues = queues_of s }

-- ---- bytes that no field can mean

-- each flag is 0 or 1
abbrev pub is_flag : List ℕ → ℕ → Bool
is_flag s place = leb (byte_at s place) 1

unfoldable pub are_flags : List ℕ → Bool
are_flags s =
    (((((((((((((is_flag s (drives_place + guard_place) && is_flag s (drives_place + drive_length + guard_place))
    && is_flag s (drives_place + 2 * drive_length + guard_place))
    && is_flag s (drives_place + 3 * drive_length + guard_place))
    && is_flag s changed_place)
    && is_flag s enable_place)
    && is_flag s retry_place)
    && is_flag s mark_place)
    && is_flag s parity_place)
    && is_flag s overflow_place)
    && is_flag s underflow_place)
    && is_flag s wdl_place)
    && is_flag s rdl_place)
    && is_flag s supplied_place)
    && is_flag s counted_place

-- a phase of this number exists, and what it holds first is a kind, an operation or a flag where it should be
unfoldable pub is_phase : ℕ → ℕ → Bool
is_phase number first =
    pick (eqb number sending) (leb first last_kind)
    (pick (eqb number result_awaited) (leb first last_operation)
    (pick (eqb number end_offered) (leb first 1) (leb number end_offered)))

-- bytes of a state, whether its fields are in range or not
unfoldable pub is_state : List ℕ → Bool
is_state s =
    (eqb (byte_at s layout_place) layout && are_flags s) && is_phase (byte_at s phase_place) (byte_at s held_place)

-- bytes of a state whose queues are in range, which every call of the controller asks before it is passed on
unfoldable pub has_sound_queues : List ℕ → Bool
has_sound_queues s = is_state s && are_sound (queues_of s)
