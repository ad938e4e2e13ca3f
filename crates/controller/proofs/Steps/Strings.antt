-- What is sent: a string that brings a count (lead #68) brings the one that bit 22 marks as valid, and a primary that
-- is sent (lead #69) has bit 22 set only where the state has it. A string that is held for another try is such a one
-- too.
-- Assumes nothing.
use mathlib.Core.Path.{◌≡◌, refl, sym, ap, ◌∙◌}
use Prim.Native.Nat.{ℕ, ◌+◌, ◌*◌, ◌/◌, ◌%◌}
use native.Mathlib.Nat.{mod-lt, zero-lt-suc}
use native.Mathlib.Omega.{arith}
use mathlib.Core.Bool.{Bool, true, false, ◌&&◌, ◌||◌, false≢true}
use lib.Arith.{digits_div, digits_mod}
use lib.Dec.{eqb}
use Rattle.common.specs.Pick.{pick}
use Rattle.common.proofs.PickLaws.{by_test, pick_by}
use Rattle.status.specs.declared.drives.Drive.{Drive}
use Rattle.status.specs.declared.words.Outcome.{Outcome}
use Rattle.status.specs.declared.words.Word.{Word}
use Rattle.link.specs.declared.frames.Frame.{Frame}
use Rattle.status.specs.Words.{bit_of, primary_of, secondary_word}
use Rattle.operations.specs.After.{with_code}
use Rattle.link.specs.Frames.{string_of}
use Rattle.operations.specs.declared.operation.Operation.{Operation}
use Rattle.operations.specs.Operation.{offers_end}
use Rattle.operations.specs.declared.store.Store.{Store}
use Rattle.operations.specs.Store.{asks_interrupt}
use Rattle.link.specs.declared.state.Collected.{Collected}
use Rattle.link.specs.declared.state.Kind.{Kind}
use Rattle.link.specs.declared.state.Kind.TheVariants.{Load, Secondary, Completion, Change}
use Rattle.link.specs.declared.state.Send.{Send}
use Rattle.link.specs.declared.state.Phase.{Phase}
use Rattle.link.specs.declared.state.Phase.TheVariants.{Collecting, AckOffered, Sending, GoOffered, DataAwaited}
use Rattle.link.specs.declared.state.Phase.TheVariants.{ResultAwaited, EndOffered}
use Rattle.link.specs.declared.state.Body.{Body}
use Rattle.link.specs.declared.state.Action.{Action}
use Rattle.link.specs.declared.state.Action.TheVariants.{Nothing, Byte, Text, Order}
use Rattle.link.specs.State.{Transition}
use Rattle.status.specs.declared.words.ResultRecord.{ResultRecord}
use Rattle.link.specs.State.{with_flags, with_outcome, current_drive, review, idle}
use Rattle.link.specs.Bytes.{ack, nack, load_lead, store_lead, load_reply, secondary_update, interrupt, most_noes}
use Rattle.link.specs.Completion.{primary_now, send_word, send_interrupt, complete}
use Rattle.link.specs.Link.{whole_length, append_byte, is_good_string, first_byte, last_byte, next_byte, yes_to_send}
use Rattle.link.specs.Link.{give_up}
use Rattle.link.specs.Link.{no_to_send, collect_byte, answer_to_send, tick_after_review, idle_tick}
use Rattle.link.specs.Loads.{carry_out_load, load_word}
use Rattle.controller.specs.Stores.{hand_back, end_with, settle, end_operation, no_to_go}
use Rattle.controller.specs.Counts.{bit22, word_in}

-- ---- bit 22 of the word

quarter : (set : Bool) (weight : ℕ) → bit_of set (4 * weight) ≡ 4 * bit_of set weight
unfolding bit_of pick
quarter true weight = refl
quarter false weight = refl

-- the bits above bit 22 in the third byte, as a number
abbrev above : Outcome → ℕ
above o =
    bit_of o.parity 32 + bit_of o.overflow 16 + bit_of o.underflow 8 + bit_of o.wdl 4 + bit_of o.rdl 2 + bit_of
    o.supplied 1

-- the third byte by its last two bits
third_byte :
    (o : Outcome) (density : ℕ)
    → bit_of o.parity 128 + bit_of o.overflow 64 + bit_of o.underflow 32 + bit_of o.wdl 16 + bit_of o.rdl
    8 + bit_of o.supplied 4 + bit_of false 2
    + density % 2
    ≡ (above o * 2 + 0) * 2 + density % 2
unfolding bit_of pick
third_byte o density =
    let parity = quarter o.parity 32 in
    let overflow = quarter o.overflow 16 in
    let underflow = quarter o.underflow 8 in
    let wdl = quarter o.wdl 4 in
    let rdl = quarter o.rdl 2 in
    let supplied = quarter o.supplied 1 in
    omega arith

-- it is clear where no count is marked as valid
clear :
    (changed enable : Bool) (o : Outcome) (selected : ℕ) (drive : Drive)
    → o.counted ≡ false
    → bit22 (primary_of changed enable o selected drive) ≡ false
unfolding bit22 primary_of
clear changed enable o selected drive none =
    ap
    (λ (counted : Bool). eqb
    ((bit_of o.parity 128 + bit_of o.overflow 64 + bit_of o.underflow 32 + bit_of o.wdl 16 + bit_of o.rdl
    8 + bit_of o.supplied 4 + bit_of counted 2 + drive.density % 2) / 2 % 2) 1)
    none
    ∙ ap (λ (n : ℕ). eqb (n / 2 % 2) 1) (third_byte o drive.density)
    ∙ ap (λ (n : ℕ). eqb (n % 2) 1) (digits_div (above o * 2 + 0) (mod-lt drive.density (zero-lt-suc 1)))
    ∙ ap (λ (n : ℕ). eqb n 1) (digits_mod (above o) (zero-lt-suc 1))

pub marked : (b : Body) → bit22 (primary_now b) ≡ true → b.outcome.counted ≡ true
unfolding primary_now
marked b set =
    by_test b.outcome.counted (λ yes. yes)
    (λ none. absurd
    (false≢true (sym (clear b.changed b.enable b.outcome b.selected (current_drive b) none) ∙ set)))

-- ---- what a string may say

-- where `counted` is bit 22 of the state and `count` its secondary
pub record UpToDate (counted : Bool) (count : ℕ) (string : Frame) : Type 0 where
  pub brings : string.b0 ≡ secondary_update
      → (counted ≡ true) × (string ≡ string_of secondary_update (secondary_word count))
  pub marks : string.b0 ≡ interrupt → bit22 (word_in string) ≡ true → counted ≡ true

-- a string that is held, and one that goes out
unfoldable pub HeldUpToDate : Bool → ℕ → Phase → Type 0
HeldUpToDate counted count (Sending s) = UpToDate counted count s.bytes
HeldUpToDate counted count (Collecting s) = Unit
HeldUpToDate counted count (AckOffered s) = Unit
HeldUpToDate counted count (GoOffered store) = Unit
HeldUpToDate counted count (DataAwaited store) = Unit
HeldUpToDate counted count (ResultAwaited operation store) = Unit
HeldUpToDate counted count (EndOffered _) = Unit

unfoldable pub SentUpToDate : Bool → ℕ → Action → Type 0
SentUpToDate counted count (Text string) = UpToDate counted count string
SentUpToDate counted count Nothing = Unit
SentUpToDate counted count (Byte b) = Unit
SentUpToDate counted count (Order order) = Unit

pub record StringsUpToDate (t : Transition) : Type 0 where
  pub holds : HeldUpToDate t.body.outcome.counted t.body.outcome.result.count t.phase
  pub says : SentUpToDate t.body.outcome.counted t.body.outcome.result.count t.action

-- ---- steps

sent_strings :
    (b : Body) (kind : Kind) (lead : ℕ) (word : Word)
    → UpToDate b.outcome.counted b.outcome.result.count (string_of lead word)
    → StringsUpToDate (send_word b kind lead word)
unfolding send_word HeldUpToDate SentUpToDate
sent_strings b kind lead word honest = record { holds = honest; says = honest }

load_strings : (b : Body) (word : Word) → StringsUpToDate (send_word b Load load_reply word)
unfolding string_of
load_strings b word =
    sent_strings b Load load_reply word
    (record { brings = λ e. absurd (omega arith); marks = λ e set. absurd (omega arith) })

primary_strings : (b : Body) (kind : Kind) → StringsUpToDate (send_word b kind interrupt (primary_now b))
unfolding string_of bit22 word_in
primary_strings b kind =
    sent_strings b kind interrupt (primary_now b)
    (record { brings = λ e. absurd (omega arith); marks = λ e set. marked b set })

secondary_strings : (b : Body) → b.outcome.counted ≡ true
    → StringsUpToDate (send_word b Secondary secondary_update (secondary_word b.outcome.result.count))
unfolding string_of
secondary_strings b counted =
    sent_strings b Secondary secondary_update _
    (record { brings = λ e. (counted, refl); marks = λ e set. absurd (omega arith) })

interrupts_strings : (b : Body) → StringsUpToDate (send_interrupt b)
unfolding send_interrupt
interrupts_strings b =
    pick_by StringsUpToDate b.outcome.counted (λ counted. secondary_strings b counted)
    (λ none. primary_strings b Completion)

pub idle_strings : (b : Body) (action : Action) → SentUpToDate b.outcome.counted b.outcome.result.count action
    → StringsUpToDate (idle b action)
unfolding idle review HeldUpToDate
idle_strings b action says = record { holds = tt; says = says }

pub completed_strings : (b : Body) (asked : Bool) → StringsUpToDate (complete b asked)
unfolding complete SentUpToDate
completed_strings b asked = pick_by StringsUpToDate asked (λ due. interrupts_strings _) (λ silent. idle_strings b _ tt)

handed_strings : (t : Transition) (result : ResultRecord) → StringsUpToDate t → StringsUpToDate (hand_back t result)
handed_strings t result strings = record { holds = strings.holds; says = strings.says }

pub settled_strings : (b : Body) (store : Store) → StringsUpToDate (settle b store)
unfolding settle
settled_strings b store = handed_strings _ _ (completed_strings b (asks_interrupt store))

pub ended_strings : (b : Body) (store : Store) (code : ℕ) → StringsUpToDate (end_with b store code)
unfolding end_with
ended_strings b store code = settled_strings (with_outcome b (with_code b.outcome code)) store

pub ending_strings : (b : Body) (operation : Operation) (store : Store)
    → StringsUpToDate (end_operation b operation store)
unfolding end_operation HeldUpToDate SentUpToDate
ending_strings b operation store =
    pick_by StringsUpToDate (offers_end operation) (λ offered. record { holds = tt; says = tt })
    (λ ended. settled_strings b store)

pub go_refused_strings : (b : Body) (store : Store) → StringsUpToDate (no_to_go b store)
unfolding no_to_go HeldUpToDate SentUpToDate
go_refused_strings b store = record { holds = tt; says = tt }

pub given_up_strings : (b : Body) (kind : Kind) → StringsUpToDate (give_up b kind)
unfolding give_up SentUpToDate
given_up_strings b Load = idle_strings b _ tt
given_up_strings b Secondary = idle_strings b _ tt
given_up_strings b Completion = idle_strings b _ tt
given_up_strings b Change = idle_strings (with_flags b b.changed false) _ tt

accepted_strings : (b : Body) (kind : Kind) → StringsUpToDate (yes_to_send b kind)
unfolding yes_to_send SentUpToDate
accepted_strings b Load = idle_strings b _ tt
accepted_strings b Secondary = primary_strings b Completion
accepted_strings b Completion = idle_strings (with_flags b false b.enable) _ tt
accepted_strings b Change = idle_strings (with_flags b false false) _ tt

-- the same string goes again
said_no_strings : (b : Body) (s : Send) → UpToDate b.outcome.counted b.outcome.result.count s.bytes
    → StringsUpToDate (no_to_send b s)
unfolding no_to_send HeldUpToDate SentUpToDate
said_no_strings b s held =
    pick_by StringsUpToDate (eqb s.noes most_noes) (λ fifth. given_up_strings b s.kind)
    (λ again. record { holds = held; says = held })

pub send_strings : (b : Body) (byte : ℕ) (s : Send)
    → UpToDate b.outcome.counted b.outcome.result.count s.bytes → StringsUpToDate (answer_to_send b byte s)
unfolding answer_to_send
send_strings b byte s held =
    pick_by StringsUpToDate (eqb byte ack) (λ yes. accepted_strings b s.kind) (λ no. said_no_strings b s held)

first_byte_strings : (b : Body) (s : Collected) (byte : ℕ) → StringsUpToDate (first_byte b s byte)
unfolding first_byte HeldUpToDate SentUpToDate
first_byte_strings b s byte =
    pick_by StringsUpToDate (eqb byte load_lead || eqb byte store_lead) (λ lead. record { holds = tt; says = tt })
    (λ none. pick_by StringsUpToDate (eqb byte nack) (λ ignored. record { holds = tt; says = tt })
    (λ other. idle_strings b _ tt))

last_byte_strings : (b : Body) (s : Collected) → StringsUpToDate (last_byte b s)
unfolding last_byte HeldUpToDate SentUpToDate
last_byte_strings b s =
    pick_by StringsUpToDate (is_good_string s) (λ good. record { holds = tt; says = tt }) (λ bad. idle_strings b _ tt)

next_byte_strings : (b : Body) (s : Collected) (byte : ℕ) → StringsUpToDate (next_byte b s byte)
unfolding next_byte HeldUpToDate SentUpToDate
next_byte_strings b s byte =
    pick_by StringsUpToDate (eqb (s.length + 1) (whole_length s.c0))
    (λ whole. last_byte_strings b (append_byte s byte))
    (λ part. record { holds = tt; says = tt })

pub byte_strings : (b : Body) (s : Collected) (byte : ℕ) → StringsUpToDate (collect_byte b s byte)
unfolding collect_byte
byte_strings b s byte =
    pick_by StringsUpToDate (eqb s.length 0) (λ first. first_byte_strings b s byte)
    (λ further. next_byte_strings b s byte)

pub tick_strings : (b : Body) (s : Collected) → StringsUpToDate (idle_tick b (Collecting s))
unfolding idle_tick tick_after_review HeldUpToDate SentUpToDate
tick_strings b s =
    pick_by StringsUpToDate ((review b).changed && (review b).enable) (λ due. primary_strings (review b) Change)
    (λ none. record { holds = tt; says = tt })

pub loaded_strings : (b : Body) (address : ℕ) → StringsUpToDate (carry_out_load b address)
unfolding carry_out_load SentUpToDate
loaded_strings b address =
    pick_by StringsUpToDate (eqb (address / 16 % 8) 6) (λ six. idle_strings b _ tt)
    (λ below. pick_by StringsUpToDate (eqb (address / 16 % 8) 7) (λ seven. idle_strings b _ tt)
    (λ other. load_strings b (load_word b (address / 16 % 8))))
