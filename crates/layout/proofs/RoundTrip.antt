-- A state that is written and read back is the state, and its bytes are a state's.
-- Assumes nothing.
use mathlib.Core.Path.{◌≡◌, refl, sym, ap, ap₂, ◌∙◌}
use mathlib.Core.Bool.{Bool, true, false, ◌&&◌}
use mathlib.Core.List.{List, [], ◌∷◌, ◌++◌}
use Prim.Native.Nat.{ℕ, ◌+◌, ◌*◌, ◌/◌, ◌%◌, ◌≤◌}
use native.Mathlib.Omega.{arith}
use lib.Dec.{eqb, leb}
use lib.ListN.{length, get_or}
use mir.Val.{bool_byte}
use Rattle.common.specs.Pick.{pick}
use Rattle.operations.specs.declared.store.Store.{Store}
use Rattle.operations.specs.declared.operation.Operation.{Operation}
use Rattle.operations.specs.declared.operation.Operation.TheVariants.{Read, CheckBytes, SuppliedCount, Write, Erase}
use Rattle.operations.specs.declared.operation.Operation.TheVariants.{Rewind, FastForward, SkipForward, SkipReverse}
use Rattle.operations.specs.declared.operation.Operation.TheVariants.{SearchForward, SearchReverse, WriteMark}
use Rattle.operations.specs.Operation.{number_of}
use Rattle.link.specs.declared.state.Kind.{Kind}
use Rattle.link.specs.declared.state.Kind.TheVariants.{Load, Secondary, Completion, Change}
use Rattle.link.specs.declared.state.Body.{Body}
use Rattle.link.specs.declared.state.Phase.{Phase}
use Rattle.link.specs.declared.state.Phase.TheVariants.{Collecting, AckOffered, Sending, GoOffered, DataAwaited}
use Rattle.link.specs.declared.state.Phase.TheVariants.{ResultAwaited, EndOffered}
use Rattle.queues.specs.declared.queue.Queue.{Queue}
use Rattle.queues.specs.Queue.{no_store}
use Rattle.dispatcher.specs.declared.dispatcher.Dispatcher.{Dispatcher}
use Rattle.layout.specs.Reading.{drives_of, outcome_of, body_of, kind_of, send_of, operation_of, phase_of, queue_at}
use Rattle.layout.specs.Reading.{queues_of, state_of, are_flags, is_phase, is_state}
use Rattle.layout.specs.Writing.{head_bytes, kind_number, phase_bytes, queue_bytes, state_bytes}
use Rattle.layout.specs.Fitting.{Eight, Fits}

-- ---- a flag, a count, a kind, an operation

pub flag_round : (x : Bool) → eqb (bool_byte x) 1 ≡ x
flag_round true = refl
flag_round false = refl

pub count_round : (n : ℕ) → n ≤ 65535 → n / 256 % 256 * 256 + n % 256 ≡ n
count_round n h = omega arith

kind_round : (k : Kind) → kind_of (kind_number k) ≡ k
unfolding kind_of kind_number pick
kind_round Load = refl
kind_round Secondary = refl
kind_round Completion = refl
kind_round Change = refl

operation_round : (o : Operation) → operation_of (number_of o) ≡ o
unfolding operation_of pick
operation_round Read = refl
operation_round CheckBytes = refl
operation_round SuppliedCount = refl
operation_round Write = refl
operation_round Erase = refl
operation_round Rewind = refl
operation_round FastForward = refl
operation_round SkipForward = refl
operation_round SkipReverse = refl
operation_round SearchForward = refl
operation_round SearchReverse = refl
operation_round WriteMark = refl

-- ---- the bytes by their parts, whatever stands behind

-- a state's bytes, with the phase's and the queues' bytes as they may be
abbrev joined : Body → List ℕ → List ℕ → List ℕ → List ℕ → List ℕ → ℕ → List ℕ
joined b p x0 x1 x2 x3 last = head_bytes b ++ p ++ x0 ++ x1 ++ x2 ++ x3 ++ (last ∷ [])

body_read : (b : Body) (p x0 x1 x2 x3 : List ℕ) (last : ℕ) → b.outcome.result.count ≤ 65535
    → body_of (joined b p x0 x1 x2 x3 last) ≡ b
unfolding body_of drives_of outcome_of head_bytes
body_read b p x0 x1 x2 x3 last h = simp (flag_round, count_round b.outcome.result.count h)

phase_read : (b : Body) (p : Phase) (x0 x1 x2 x3 : List ℕ) (last : ℕ)
    → phase_of (joined b (phase_bytes p) x0 x1 x2 x3 last) ≡ p
unfolding phase_of send_of head_bytes phase_bytes pick
phase_read b (Collecting s) x0 x1 x2 x3 last = refl
phase_read b (AckOffered s) x0 x1 x2 x3 last = refl
phase_read b (Sending send) x0 x1 x2 x3 last =
    ap (λ (k : Kind). Sending (record { kind = k; bytes = send.bytes; noes = send.noes })) (kind_round send.kind)
phase_read b (GoOffered store) x0 x1 x2 x3 last = refl
phase_read b (DataAwaited store) x0 x1 x2 x3 last = refl
phase_read b (ResultAwaited operation store) x0 x1 x2 x3 last =
    ap (λ (o : Operation). ResultAwaited o store) (operation_round operation)
phase_read b (EndOffered interrupt) x0 x1 x2 x3 last = ap EndOffered (flag_round interrupt)

-- ---- the queues

eight_round : (l : List Store) → length l ≡ 8
    → get_or l 0 no_store ∷ get_or l 1 no_store ∷ get_or l 2 no_store ∷ get_or l 3 no_store
    ∷ get_or l 4 no_store ∷ get_or l 5 no_store ∷ get_or l 6 no_store ∷ get_or l 7 no_store ∷ []
    ≡ l
eight_round (a ∷ b ∷ c ∷ d ∷ e ∷ f ∷ g ∷ h ∷ []) long = refl
eight_round [] long = absurd (omega arith)
eight_round (a ∷ []) long = absurd (omega arith)
eight_round (a ∷ b ∷ []) long = absurd (omega arith)
eight_round (a ∷ b ∷ c ∷ []) long = absurd (omega arith)
eight_round (a ∷ b ∷ c ∷ d ∷ []) long = absurd (omega arith)
eight_round (a ∷ b ∷ c ∷ d ∷ e ∷ []) long = absurd (omega arith)
eight_round (a ∷ b ∷ c ∷ d ∷ e ∷ f ∷ []) long = absurd (omega arith)
eight_round (a ∷ b ∷ c ∷ d ∷ e ∷ f ∷ g ∷ []) long = absurd (omega arith)
eight_round (a ∷ b ∷ c ∷ d ∷ e ∷ f ∷ g ∷ h ∷ i ∷ rest) long = absurd (omega arith)

queue_round : (q : Queue) → Eight q → queue_at (queue_bytes q) 0 ≡ q
unfolding queue_at queue_bytes
queue_round q long = ap (λ (l : List Store). record { stores = l; length = q.length }) (eight_round q.stores long)

queues_round : (d : Dispatcher) → Fits d
    → record {
      jobs =
          record {
            zero = queue_at (queue_bytes d.queues.jobs.zero) 0;
            one = queue_at (queue_bytes d.queues.jobs.one) 0;
            two = queue_at (queue_bytes d.queues.jobs.two) 0;
            three = queue_at (queue_bytes d.queues.jobs.three) 0;
          };
      last = d.queues.last;
    }
    ≡ d.queues
queues_round d f =
    simp (
      queue_round d.queues.jobs.zero f.q0,
      queue_round d.queues.jobs.one f.q1,
      queue_round d.queues.jobs.two f.q2,
      queue_round d.queues.jobs.three f.q3,
    )

-- ten bytes of a phase, whatever they are
queues_read : (b : Body) (p : Phase) (d : Dispatcher) → Fits d
    → queues_of
    (joined b (phase_bytes p) (queue_bytes d.queues.jobs.zero) (queue_bytes d.queues.jobs.one)
    (queue_bytes d.queues.jobs.two) (queue_bytes d.queues.jobs.three) d.queues.last)
    ≡ d.queues
unfolding queues_of queue_at head_bytes phase_bytes queue_bytes
queues_read b (Collecting s) d f = queues_round d f
queues_read b (AckOffered s) d f = queues_round d f
queues_read b (Sending send) d f = queues_round d f
queues_read b (GoOffered store) d f = queues_round d f
queues_read b (DataAwaited store) d f = queues_round d f
queues_read b (ResultAwaited operation store) d f = queues_round d f
queues_read b (EndOffered interrupt) d f = queues_round d f

-- ---- the whole

pub state_round : (d : Dispatcher) → Fits d → state_of (state_bytes d) ≡ d
unfolding state_of state_bytes
state_round d f =
    let b = d.controller.body in
    let p = d.controller.phase in
    let body = body_read b (phase_bytes p) (queue_bytes d.queues.jobs.zero) (queue_bytes d.queues.jobs.one)
    (queue_bytes d.queues.jobs.two) (queue_bytes d.queues.jobs.three) d.queues.last f.count in
    let phase = phase_read b p (queue_bytes d.queues.jobs.zero) (queue_bytes d.queues.jobs.one)
    (queue_bytes d.queues.jobs.two) (queue_bytes d.queues.jobs.three) d.queues.last in
    let queues = queues_read b p d f in
    simp (body, phase, queues)

-- two states with the same bytes are the same
pub state_bytes_tell : (d e : Dispatcher) → Fits d → Fits e → state_bytes d ≡ state_bytes e → d ≡ e
state_bytes_tell d e f g same = sym (state_round d f) ∙ ap state_of same ∙ state_round e g

-- ---- the bytes are a state's

flag_low : (x : Bool) → leb (bool_byte x) 1 ≡ true
flag_low true = refl
flag_low false = refl

kind_low : (k : Kind) → leb (kind_number k) 3 ≡ true
unfolding kind_number
kind_low Load = refl
kind_low Secondary = refl
kind_low Completion = refl
kind_low Change = refl

operation_low : (o : Operation) → leb (number_of o) 11 ≡ true
operation_low Read = refl
operation_low CheckBytes = refl
operation_low SuppliedCount = refl
operation_low Write = refl
operation_low Erase = refl
operation_low Rewind = refl
operation_low FastForward = refl
operation_low SkipForward = refl
operation_low SkipReverse = refl
operation_low SearchForward = refl
operation_low SearchReverse = refl
operation_low WriteMark = refl

flags_good : (b : Body) (p x0 x1 x2 x3 : List ℕ) (last : ℕ) → are_flags (joined b p x0 x1 x2 x3 last) ≡ true
unfolding are_flags head_bytes
flags_good b p x0 x1 x2 x3 last = simp flag_low

phase_good : (b : Body) (p : Phase) (x0 x1 x2 x3 : List ℕ) (last : ℕ)
    → is_phase (get_or (joined b (phase_bytes p) x0 x1 x2 x3 last) 49 0)
    (get_or (joined b (phase_bytes p) x0 x1 x2 x3 last) 50 0)
    ≡ true
unfolding is_phase head_bytes phase_bytes pick
phase_good b (Collecting s) x0 x1 x2 x3 last = refl
phase_good b (AckOffered s) x0 x1 x2 x3 last = refl
phase_good b (Sending send) x0 x1 x2 x3 last = kind_low send.kind
phase_good b (GoOffered store) x0 x1 x2 x3 last = refl
phase_good b (DataAwaited store) x0 x1 x2 x3 last = refl
phase_good b (ResultAwaited operation store) x0 x1 x2 x3 last = operation_low operation
phase_good b (EndOffered interrupt) x0 x1 x2 x3 last = flag_low interrupt

layout_good : (b : Body) (p x0 x1 x2 x3 : List ℕ) (last : ℕ) → eqb (get_or (joined b p x0 x1 x2 x3 last) 0 0) 1 ≡ true
unfolding head_bytes
layout_good b p x0 x1 x2 x3 last = refl

pub state_readable : (d : Dispatcher) → is_state (state_bytes d) ≡ true
unfolding is_state state_bytes
state_readable d =
    let b = d.controller.body in
    let p = d.controller.phase in
    let x0 = queue_bytes d.queues.jobs.zero in
    let x1 = queue_bytes d.queues.jobs.one in
    let x2 = queue_bytes d.queues.jobs.two in
    let x3 = queue_bytes d.queues.jobs.three in
    let last = d.queues.last in
    ap₂ ◌&&◌
    (ap₂ ◌&&◌ (layout_good b (phase_bytes p) x0 x1 x2 x3 last) (flags_good b (phase_bytes p) x0 x1 x2 x3 last))
    (phase_good b p x0 x1 x2 x3 last)
