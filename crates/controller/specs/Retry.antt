-- The retry bit as hosts may trust it (document 02, request 2): "Host drivers now back up and retry skips that went
-- well." The whole rule of bit 2 in the papers' numbers, of any result that is not refused, in any state.
-- Assumes nothing.
use Rattle.std.specs.Prelude.{◌≡◌, ℕ, ◌||◌, List}
use Rattle.status.specs.declared.words.Outcome.{Outcome}
use Rattle.operations.specs.declared.operation.Operation.{Operation}
use Rattle.operations.specs.declared.operation.Operation.TheVariants.{Read, CheckBytes, SuppliedCount, Write, Erase}
use Rattle.operations.specs.declared.operation.Operation.TheVariants.{Rewind, FastForward, SkipForward, SkipReverse}
use Rattle.operations.specs.declared.operation.Operation.TheVariants.{SearchForward, SearchReverse, WriteMark}
use Rattle.link.specs.declared.state.Phase.{Phase}
use Rattle.link.specs.declared.state.Body.{Body}
use Rattle.link.specs.State.{when_result_awaited}
use Rattle.transfers.specs.Results.{Result}
use Rattle.controller.specs.declared.controller.Controller.{Controller}
use Rattle.controller.specs.Records.{Answer}
use Rattle.controller.specs.Shown.{scan_of, code_retries, bit_retries}

-- an operation by the first byte of its motion order, "operation (40, 50, 60 or the control value)", and "The order's
-- first byte is 80" with a supplied count; 0 for check bytes, which "give no order"
unfoldable pub order_number : Operation → ℕ
order_number Read = 0x40
order_number CheckBytes = 0
order_number SuppliedCount = 0x80
order_number Write = 0x50
order_number Erase = 0x60
order_number Rewind = 0x10
order_number FastForward = 0x11
order_number SkipForward = 0x20
order_number SkipReverse = 0x21
order_number SearchForward = 0x22
order_number SearchReverse = 0x23
order_number WriteMark = 0x24

-- bit 2 after a result with these marks: by the final code and what the scan finds, or by any of bits 16-20 that counts
abbrev pub RetryIs : ℕ → List ℕ → Outcome → Type 0
RetryIs order marks o =
    o.retry
    ≡ (code_retries order o.result.code (scan_of order marks)
    || bit_retries order o.parity o.overflow o.underflow o.wdl o.rdl)

-- what a result of an operation leaves
abbrev pub TrustedRetry : Operation → List ℕ → Body → Type 0
TrustedRetry operation marks b = RetryIs (order_number operation) marks b.outcome

-- by the operation whose result is awaited
unfoldable pub TrustedIn : Phase → Result → Body → Type 0
TrustedIn phase r b = when_result_awaited (λ operation store. TrustedRetry operation r.marks b) Unit phase

-- of an answer to a result in a state
abbrev pub RetryTrusted : Controller → Result → Answer → Type 0
RetryTrusted c r answer = answer.reply.refusal ≡ 0 → TrustedIn c.phase r answer.reply.controller.body
