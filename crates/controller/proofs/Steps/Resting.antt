-- Steps that concern the link alone: whatever is sent, answered or completed leaves the drives, the selection and the
-- count as they were, but for the reviewed copies, leaves nothing in hand and orders nothing.
-- Assumes nothing.
use mathlib.Core.Path.{◌≡◌, refl, ap, ◌∙◌}
use Prim.Native.Nat.{ℕ, ◌≤◌, ◌+◌, ◌/◌, ◌%◌}
use mathlib.Core.Bool.{Bool, false, ◌&&◌, ◌||◌}
use lib.Dec.{eqb}
use Rattle.common.proofs.PickLaws.{pick_by}
use Rattle.status.specs.declared.drives.Drive.{Drive}
use Rattle.status.specs.declared.words.Word.{Word}
use Rattle.status.specs.Drives.{drive_of, copy_report}
use Rattle.operations.specs.After.{with_code}
use Rattle.status.proofs.DriveLaws.{reviewed_drive}
use Rattle.operations.specs.declared.operation.Operation.{Operation}
use Rattle.operations.specs.Operation.{offers_end}
use Rattle.operations.specs.declared.store.Store.{Store}
use Rattle.link.specs.declared.state.Collected.{Collected}
use Rattle.link.specs.declared.state.Kind.{Kind}
use Rattle.link.specs.declared.state.Kind.TheVariants.{Load, Secondary, Completion, Change}
use Rattle.link.specs.declared.state.Send.{Send}
use Rattle.link.specs.declared.state.Phase.{Phase}
use Rattle.link.specs.declared.state.Phase.TheVariants.{Collecting, AckOffered, Sending, EndOffered}
use Rattle.link.specs.declared.state.Body.{Body}
use Rattle.link.specs.declared.state.Action.{Action}
use Rattle.link.specs.declared.state.Action.TheVariants.{Nothing, Byte, Text, Order}
use Rattle.link.specs.State.{Transition}
use Rattle.status.specs.declared.words.ResultRecord.{ResultRecord}
use Rattle.link.specs.State.{when_in_hand, with_flags, with_outcome, review, idle}
use Rattle.link.proofs.PhaseLaws.{each_phase}
use Rattle.link.specs.Bytes.{ack, nack, load_lead, store_lead, most_noes}
use Rattle.link.specs.Completion.{send_word, send_interrupt, complete}
use Rattle.operations.specs.Codes.{no_go}
use Rattle.operations.specs.Store.{asks_interrupt}
use Rattle.link.specs.Link.{whole_length, append_byte, is_good_string, first_byte, last_byte, next_byte, yes_to_send}
use Rattle.link.specs.Link.{give_up}
use Rattle.link.specs.Link.{no_to_send, collect_byte, answer_to_send, tick_after_review, idle_tick}
use Rattle.link.specs.Loads.{carry_out_load}
use Rattle.controller.specs.Stores.{hand_back, end_with, settle, end_operation, no_to_go}

-- ---- what counts of a state

-- what counts of a drive: all but the reviewed copy
abbrev pub seen : ℕ → Body → Drive
seen d b = copy_report (drive_of b.drives d)

-- the drives, the selection, and the count with its bit are as before
pub record Same (b later : Body) : Type 0 where
  pub drive : (d : ℕ) → d ≤ 3 → seen d later ≡ seen d b
  pub selected : later.selected ≡ b.selected
  pub counted : later.outcome.counted ≡ b.outcome.counted
  pub secondary : later.outcome.result.count ≡ b.outcome.result.count

-- nothing in hand
unfoldable pub Free : Phase → Type 0
Free = when_in_hand (λ store. ⊥) (λ store. ⊥) (λ operation store. ⊥) Unit

-- a claim of such a phase, from the claim of each
pub by_free :
    (P : Phase → Type 0)
    → ((s : Collected) → P (Collecting s))
    → ((s : Collected) → P (AckOffered s))
    → ((s : Send) → P (Sending s))
    → ((interrupt : Bool) → P (EndOffered interrupt))
    → (phase : Phase)
    → Free phase
    → P phase
unfolding Free
by_free P collecting offered sends ends =
    each_phase (λ (phase : Phase). Free phase → P phase) (λ s free. collecting s) (λ s free. offered s)
    (λ s free. sends s)
    (λ store. absurd) (λ store. absurd) (λ operation store. absurd) (λ interrupt free. ends interrupt)

unfoldable pub NoOrder : Action → Type 0
NoOrder Nothing = Unit
NoOrder (Byte b) = Unit
NoOrder (Text string) = Unit
NoOrder (Order order) = ⊥

pub record Rests (b : Body) (t : Transition) : Type 0 where
  pub same : Same b t.body
  pub free : Free t.phase
  pub quiet : NoOrder t.action

same_again : (b middle later : Body) → Same b middle → Same middle later → Same b later
same_again b middle later first second =
    record {
      drive = λ d low. second.drive d low ∙ first.drive d low;
      selected = second.selected ∙ first.selected;
      counted = second.counted ∙ first.counted;
      secondary = second.secondary ∙ first.secondary;
    }

-- a body that differs in other fields alone
abbrev untouched : (b : Body) → Same b b
untouched b = record { drive = λ d low. refl; selected = refl; counted = refl; secondary = refl }

reviewed_same : (b : Body) → Same b (review b)
unfolding review
reviewed_same b =
    record {
      drive = λ d low. ap (λ (x : Drive). copy_report x) (reviewed_drive b.drives d low);
      selected = refl;
      counted = refl;
      secondary = refl;
    }

-- ---- steps

-- from a body that shows the same
rests_from : (b other : Body) (t : Transition) → Same b other → Rests other t → Rests b t
rests_from b other t same rests =
    record { same = same_again b other t.body same rests.same; free = rests.free; quiet = rests.quiet }

pub idle_rests : (b : Body) (action : Action) → NoOrder action → Rests b (idle b action)
unfolding idle Free
idle_rests b action quiet =
    let reviewed = reviewed_same b in
    record {
      same =
          record {
            drive = reviewed.drive;
            selected = reviewed.selected;
            counted = reviewed.counted;
            secondary = reviewed.secondary;
          };
      free = tt;
      quiet = quiet;
    }

sent_rests : (b : Body) (kind : Kind) (lead : ℕ) (word : Word) → Rests b (send_word b kind lead word)
unfolding send_word Free NoOrder
sent_rests b kind lead word = record { same = untouched b; free = tt; quiet = tt }

interrupts_rests : (b : Body) → Rests b (send_interrupt b)
unfolding send_interrupt
interrupts_rests b =
    pick_by (Rests b) b.outcome.counted (λ counted. sent_rests b Secondary _ _)
    (λ none. sent_rests b Completion _ _)

-- with other flags
flagged : (b : Body) (changed enable : Bool) → Same b (with_flags b changed enable)
flagged b changed enable = record { drive = λ d low. refl; selected = refl; counted = refl; secondary = refl }

pub completed_rests : (b : Body) (interrupt : Bool) → Rests b (complete b interrupt)
unfolding complete NoOrder
completed_rests b interrupt =
    let reviewed = review b in
    pick_by (Rests b) interrupt
    (λ asked. rests_from b reviewed _ (reviewed_same b)
    (rests_from reviewed (with_flags reviewed reviewed.changed false) _ (flagged reviewed reviewed.changed false)
    (interrupts_rests _)))
    (λ silent. idle_rests b _ tt)

coded_same : (b : Body) (code : ℕ) → Same b (with_outcome b (with_code b.outcome code))
coded_same b code = record { drive = λ d low. refl; selected = refl; counted = refl; secondary = refl }

-- what is handed back beside it changes nothing of that
handed_rests : (b : Body) (t : Transition) (result : ResultRecord) → Rests b t → Rests b (hand_back t result)
handed_rests b t result rests = record { same = rests.same; free = rests.free; quiet = rests.quiet }

pub settled_rests : (b : Body) (store : Store) → Rests b (settle b store)
unfolding settle
settled_rests b store = handed_rests b _ _ (completed_rests b (asks_interrupt store))

pub ended_rests : (b : Body) (store : Store) (code : ℕ) → Rests b (end_with b store code)
unfolding end_with
ended_rests b store code =
    rests_from b _ _ (coded_same b code) (settled_rests (with_outcome b (with_code b.outcome code)) store)

pub ending_rests : (b : Body) (operation : Operation) (store : Store) → Rests b (end_operation b operation store)
unfolding end_operation Free NoOrder
ending_rests b operation store =
    pick_by (Rests b) (offers_end operation) (λ offered. record { same = untouched b; free = tt; quiet = tt })
    (λ ended. settled_rests b store)

pub go_refused_rests : (b : Body) (store : Store) → Rests b (no_to_go b store)
unfolding no_to_go Free NoOrder
go_refused_rests b store = record { same = coded_same b no_go; free = tt; quiet = tt }

pub given_up_rests : (b : Body) (kind : Kind) → Rests b (give_up b kind)
unfolding give_up NoOrder
given_up_rests b Load = idle_rests b _ tt
given_up_rests b Secondary = idle_rests b _ tt
given_up_rests b Completion = idle_rests b _ tt
given_up_rests b Change =
    rests_from b (with_flags b b.changed false) _ (flagged b b.changed false) (idle_rests _ _ tt)

accepted_rests : (b : Body) (kind : Kind) → Rests b (yes_to_send b kind)
unfolding yes_to_send NoOrder
accepted_rests b Load = idle_rests b _ tt
accepted_rests b Secondary = sent_rests b Completion _ _
accepted_rests b Completion =
    rests_from b (with_flags b false b.enable) _ (flagged b false b.enable) (idle_rests _ _ tt)
accepted_rests b Change = rests_from b (with_flags b false false) _ (flagged b false false) (idle_rests _ _ tt)

said_no_rests : (b : Body) (s : Send) → Rests b (no_to_send b s)
unfolding no_to_send Free NoOrder
said_no_rests b s =
    pick_by (Rests b) (eqb s.noes most_noes) (λ fifth. given_up_rests b s.kind)
    (λ again. record { same = untouched b; free = tt; quiet = tt })

first_byte_rests : (b : Body) (s : Collected) (byte : ℕ) → Rests b (first_byte b s byte)
unfolding first_byte Free NoOrder
first_byte_rests b s byte =
    pick_by (Rests b) (eqb byte load_lead || eqb byte store_lead)
    (λ lead. record { same = untouched b; free = tt; quiet = tt })
    (λ none. pick_by (Rests b) (eqb byte nack) (λ ignored. record { same = untouched b; free = tt; quiet = tt })
    (λ other. idle_rests b _ tt))

last_byte_rests : (b : Body) (s : Collected) → Rests b (last_byte b s)
unfolding last_byte Free NoOrder
last_byte_rests b s =
    pick_by (Rests b) (is_good_string s) (λ good. record { same = untouched b; free = tt; quiet = tt })
    (λ bad. idle_rests b _ tt)

next_byte_rests : (b : Body) (s : Collected) (byte : ℕ) → Rests b (next_byte b s byte)
unfolding next_byte Free NoOrder
next_byte_rests b s byte =
    pick_by (Rests b) (eqb (s.length + 1) (whole_length s.c0)) (λ whole. last_byte_rests b (append_byte s byte))
    (λ part. record { same = untouched b; free = tt; quiet = tt })

pub byte_rests : (b : Body) (s : Collected) (byte : ℕ) → Rests b (collect_byte b s byte)
unfolding collect_byte
byte_rests b s byte =
    pick_by (Rests b) (eqb s.length 0) (λ first. first_byte_rests b s byte) (λ further. next_byte_rests b s byte)

pub send_rests : (b : Body) (byte : ℕ) (s : Send) → Rests b (answer_to_send b byte s)
unfolding answer_to_send
send_rests b byte s = pick_by (Rests b) (eqb byte ack) (λ yes. accepted_rests b s.kind) (λ no. said_no_rests b s)

pub tick_rests : (b : Body) (s : Collected) → Rests b (idle_tick b (Collecting s))
unfolding idle_tick tick_after_review Free NoOrder
tick_rests b s =
    pick_by (Rests b) ((review b).changed && (review b).enable)
    (λ due. rests_from b (review b) _ (reviewed_same b) (sent_rests (review b) Change _ _))
    (λ none. record { same = reviewed_same b; free = tt; quiet = tt })

pub loaded_rests : (b : Body) (address : ℕ) → Rests b (carry_out_load b address)
unfolding carry_out_load NoOrder
loaded_rests b address =
    pick_by (Rests b) (eqb (address / 16 % 8) 6) (λ six. idle_rests b _ tt)
    (λ below. pick_by (Rests b) (eqb (address / 16 % 8) 7) (λ seven. idle_rests b _ tt)
    (λ other. sent_rests b Load _ _))
