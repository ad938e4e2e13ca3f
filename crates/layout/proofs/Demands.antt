-- The theorems of the layout, of its seven functions by their contracts: `written_states_read_back`,
-- `written_states_are_told_apart`, `written_bytes_are_a_state`, `written_controllers_read_back`; of answers
-- `answers_read_back` and `answers_are_told_apart`; and what fits: `states_in_range_fit`, `answers_in_range_fit`.
-- Assumes nothing.
use mathlib.Core.Path.{◌≡◌, refl, sym, ap, ap₂, ◌∙◌}
use mathlib.Core.Bool.{Bool, true}
use mathlib.Core.List.{List}
use contract.Lifetimes.{Lfts}
use denote.Ref.{Bor, MutBor, at_last}
use Prim.Native.Nat.{ℕ, ◌≤◌}
use native.Mathlib.Omega.{arith}
use Rattle.link.specs.declared.state.Action.{Action}
use Rattle.link.specs.State.{Handed}
use Rattle.std.specs.Prelude.{None, Some}
use Rattle.controller.specs.declared.controller.Controller.{Controller}
use Rattle.controller.specs.InRange.{HandedInRange}
use Rattle.dispatcher.specs.declared.dispatcher.Dispatcher.{Dispatcher}
use Rattle.dispatcher.specs.InRange.{InRange}
use Rattle.layout.specs.Reading.{queue_at, queues_of, state_of, is_state}
use Rattle.layout.specs.Writing.{state_bytes, controller_bytes}
use Rattle.layout.specs.Answers.{settled_record, action_of, handed_of, given_of}
use Rattle.layout.specs.Fitting.{Fits, AnswerFits}
use Rattle.layout.proofs.RoundTrip.{state_round, state_bytes_tell, state_readable}
use Rattle.layout.proofs.AnswerRound.{Same, action_round, handed_round, given_round, answer_bytes_tell}
use Rattle.layout.proofs.reading.state_of.Reads as state-reads
use Rattle.layout.proofs.reading.is_state.Reads as told-reads
use Rattle.layout.proofs.writing.put_state_bytes.Reads as put_reads
use Rattle.layout.proofs.answers.answer_bytes.Reads as answer-reads
use Rattle.layout.proofs.reading.controller_of.Reads as controller-reads
use Rattle.layout.proofs.reading.has_sound_queues.Reads as sound-reads
use Rattle.layout.proofs.writing.put_controller_bytes.Reads as beside-reads
use Rattle.layout.proofs.reading.state_of.Met as state-met
use Rattle.layout.proofs.reading.state_of.Statement as state-statement
use Rattle.layout.proofs.reading.is_state.Met as told-met
use Rattle.layout.proofs.reading.is_state.Statement as told-statement
use Rattle.layout.proofs.writing.put_state_bytes.Met as put-met
use Rattle.layout.proofs.writing.put_state_bytes.Statement as put-statement
use Rattle.layout.proofs.reading.controller_of.Met as controller-met
use Rattle.layout.proofs.reading.controller_of.Statement as controller-statement
use Rattle.layout.proofs.reading.has_sound_queues.Met as sound-met
use Rattle.layout.proofs.reading.has_sound_queues.Statement as sound-statement
use Rattle.layout.proofs.writing.put_controller_bytes.Met as beside-met
use Rattle.layout.proofs.writing.put_controller_bytes.Statement as beside-statement
use Rattle.layout.proofs.answers.answer_bytes.Met as answer-met
use Rattle.layout.proofs.answers.answer_bytes.Statement as answer-statement

-- ---- what the contracts allow

-- a state is written into a space, wherever that lies, and it then holds these bytes
pub record Written (d : Dispatcher) (bytes : List ℕ) : Type 0 where
  pub lifetimes : Lfts 2
  pub state : Bor Dispatcher
  pub space : MutBor (List ℕ)
  pub holds_state : state.now ≡ d
  pub promise : put_reads.Post lifetimes (state, (space, tt)) tt (state, (at_last space bytes, tt))

-- a state is read from these bytes, wherever they lie
pub record Read (bytes : List ℕ) (d : Dispatcher) : Type 0 where
  pub lifetimes : Lfts 1
  pub slice : Bor (List ℕ)
  pub holds : slice.now ≡ bytes
  pub promise : state-reads.Post lifetimes (slice, tt) d (slice, tt)

-- whether these bytes are a state's is told
pub record Told (bytes : List ℕ) (told : Bool) : Type 0 where
  pub lifetimes : Lfts 1
  pub slice : Bor (List ℕ)
  pub holds : slice.now ≡ bytes
  pub promise : told-reads.Post lifetimes (slice, tt) told (slice, tt)

-- the controller alone is read
pub record ReadController (bytes : List ℕ) (c : Controller) : Type 0 where
  pub lifetimes : Lfts 1
  pub slice : Bor (List ℕ)
  pub holds : slice.now ≡ bytes
  pub promise : controller-reads.Post lifetimes (slice, tt) c (slice, tt)

-- whether they are a state's with sound queues is told
pub record ToldSound (bytes : List ℕ) (told : Bool) : Type 0 where
  pub lifetimes : Lfts 1
  pub slice : Bor (List ℕ)
  pub holds : slice.now ≡ bytes
  pub promise : sound-reads.Post lifetimes (slice, tt) told (slice, tt)

-- a controller is written beside the queues that stand in a space
pub record WrittenBeside (c : Controller) (before bytes : List ℕ) : Type 0 where
  pub lifetimes : Lfts 2
  pub controller : Bor Controller
  pub space : MutBor (List ℕ)
  pub holds_controller : controller.now ≡ c
  pub holds : space.now ≡ before
  pub promise : beside-reads.Post lifetimes (controller, (space, tt)) tt (controller, (at_last space bytes, tt))

-- these bytes are an answer's
pub record Answered (action : Action) (handed : Handed) (given : ℕ) (bytes : List ℕ) : Type 0 where
  pub promise : answer-reads.Post tt (action, (handed, (given, tt))) bytes (action, (handed, (given, tt)))

-- ---- the functions

-- each meets its contract, which has no `requires`
pub record Meet (M : Type 1) : Type 2 where
  pub reading : state-statement.statement M
  pub telling : told-statement.statement M
  pub writing : put-statement.statement M
  pub reading_controller : controller-statement.statement M
  pub telling_sound : sound-statement.statement M
  pub writing_beside : beside-statement.statement M
  pub answering : answer-statement.statement M

pub functions_meet_their_contracts : {M : Type 1} → Meet M
functions_meet_their_contracts =
    record {
      reading = state-met.met;
      telling = told-met.met;
      writing = put-met.met;
      reading_controller = controller-met.met;
      telling_sound = sound-met.met;
      writing_beside = beside-met.met;
      answering = answer-met.met;
    }

-- ---- what is written

pub written_is : (d : Dispatcher) (bytes : List ℕ) → Written d bytes → bytes ≡ state_bytes d
written_is d bytes written = written.promise ∙ ap state_bytes written.holds_state

pub beside_is : (c : Controller) (before bytes : List ℕ) → WrittenBeside c before bytes
    → bytes ≡ controller_bytes c before
beside_is c before bytes written = written.promise ∙ ap₂ controller_bytes written.holds_controller written.holds

-- ---- states

-- Reading back what was written gives the state, for every state that fits.
pub written_states_read_back : (d e : Dispatcher) (bytes : List ℕ) → Fits d → Written d bytes → Read bytes e → e ≡ d
written_states_read_back d e bytes fits written read =
    read.promise ∙ ap state_of (read.holds ∙ written_is d bytes written) ∙ state_round d fits

-- Two states that fit have different bytes.
pub written_states_are_told_apart : (d e : Dispatcher) (bytes : List ℕ) → Fits d → Fits e → Written d bytes
    → Written e bytes
    → d ≡ e
written_states_are_told_apart d e bytes one two first second =
    state_bytes_tell d e one two (sym (written_is d bytes first) ∙ written_is e bytes second)

-- What was written is a state's, whether its fields are in range or not.
pub written_bytes_are_a_state : (d : Dispatcher) (bytes : List ℕ) (told : Bool) → Written d bytes → Told bytes told
    → told ≡ true
written_bytes_are_a_state d bytes told written is =
    is.promise ∙ ap is_state (is.holds ∙ written_is d bytes written) ∙ state_readable d

-- A controller that is written beside queues is read back, and so are the queues that stood there.
pub beside_round : (c : Controller) (before : List ℕ) → c.body.outcome.result.count ≤ 65535
    → state_of (controller_bytes c before) ≡ record { controller = c; queues = queues_of before }
unfolding controller_bytes queues_of queue_at
beside_round c before few =
    state_round (record { controller = c; queues = queues_of before })
    (record { count = few; q0 = refl; q1 = refl; q2 = refl; q3 = refl })

pub written_controllers_read_back : (c : Controller) (e : Dispatcher) (before bytes : List ℕ)
    → c.body.outcome.result.count ≤ 65535
    → WrittenBeside c before bytes
    → Read bytes e
    → e ≡ record { controller = c; queues = queues_of before }
written_controllers_read_back c e before bytes few written read =
    read.promise
    ∙ ap state_of (read.holds ∙ beside_is c before bytes written)
    ∙ beside_round c before few

-- ---- answers

-- What an answer's bytes tell is the answer.
pub record TellsAnswer (action : Action) (handed : Handed) (given : ℕ) (bytes : List ℕ) : Type 0 where
  pub action_is : action_of bytes ≡ action
  pub handed_is : handed_of bytes ≡ handed
  pub given_is : given_of bytes ≡ given

pub answers_read_back : (action : Action) (handed : Handed) (given : ℕ) (bytes : List ℕ) → AnswerFits handed given
    → Answered action handed given bytes
    → TellsAnswer action handed given bytes
answers_read_back action handed given bytes fits answered =
    record {
      action_is = ap action_of answered.promise ∙ action_round action handed given;
      handed_is = ap handed_of answered.promise ∙ handed_round action handed given fits.count;
      given_is = ap given_of answered.promise ∙ given_round action handed given fits.bytes;
    }

-- Two answers that fit have different bytes.
pub answers_are_told_apart : (a b : Action) (g h : Handed) (m n : ℕ) (bytes : List ℕ) → AnswerFits g m → AnswerFits h n
    → Answered a g m bytes
    → Answered b h n bytes
    → Same a b g h m n
answers_are_told_apart a b g h m n bytes one two first second =
    answer_bytes_tell a b g h m n one two (sym first.promise ∙ second.promise)

-- ---- what is in range fits

-- Every state in range fits: its count has 16 bits, and each of its queues has eight places.
pub states_in_range_fit : (d : Dispatcher) → InRange d → Fits d
states_in_range_fit d fine =
    record {
      count = fine.controller.body.result.count;
      q0 = fine.queues.q0.places;
      q1 = fine.queues.q1.places;
      q2 = fine.queues.q2.places;
      q3 = fine.queues.q3.places;
    }

-- And every answer in range that gives fewer than 4,294,967,296 bytes.
pub answers_in_range_fit : (handed : Handed) (given : ℕ) → HandedInRange handed → given ≤ 4294967295
    → AnswerFits handed given
unfolding HandedInRange settled_record
answers_in_range_fit None given fine few = record { count = omega arith; bytes = few }
answers_in_range_fit (Some result) given fine few = record { count = fine.count; bytes = few }
