-- The states and answers that bytes can hold. Every state in range is one: its count has 16 bits, and each of its
-- queues has eight places.
-- Assumes nothing.
use Rattle.std.specs.Prelude.{◌≡◌, ℕ, ◌≤◌, length}
use Rattle.link.specs.State.{Handed}
use Rattle.queues.specs.declared.queue.Queue.{Queue}
use Rattle.dispatcher.specs.declared.dispatcher.Dispatcher.{Dispatcher}
use Rattle.layout.specs.Answers.{settled_record}

-- the array of a queue has eight elements
abbrev pub Eight : Queue → Type 0
Eight queue = length queue.stores ≡ 8

-- the count in two bytes, and eight places of each queue
pub record Fits (d : Dispatcher) : Type 0 where
  pub count : d.controller.body.outcome.result.count ≤ 65535
  pub q0 : Eight d.queues.jobs.zero
  pub q1 : Eight d.queues.jobs.one
  pub q2 : Eight d.queues.jobs.two
  pub q3 : Eight d.queues.jobs.three

-- of an answer: the count in two bytes, and at most 4,294,967,295 bytes given
pub record AnswerFits (handed : Handed) (given : ℕ) : Type 0 where
  pub count : (settled_record handed).count ≤ 65535
  pub bytes : given ≤ 4294967295
