-- What concerns the link alone hands back no record.
-- Assumes nothing.
use mathlib.Core.Path.{◌≡◌, refl}
use Prim.Native.Nat.{ℕ, ◌+◌, ◌/◌, ◌%◌}
use mathlib.Core.Bool.{Bool, ◌&&◌, ◌||◌}
use lib.Dec.{eqb}
use Rattle.common.proofs.PickLaws.{pick_by}
use Rattle.status.specs.declared.words.Word.{Word}
use Rattle.link.specs.declared.state.Collected.{Collected}
use Rattle.link.specs.declared.state.Kind.{Kind}
use Rattle.link.specs.declared.state.Kind.TheVariants.{Load, Secondary, Completion, Change}
use Rattle.link.specs.declared.state.Send.{Send}
use Rattle.link.specs.declared.state.Body.{Body}
use Rattle.link.specs.declared.state.Action.{Action}
use Rattle.link.specs.declared.state.Phase.TheVariants.{Collecting}
use Rattle.std.specs.Prelude.{None}
use Rattle.link.specs.State.{Transition}
use Rattle.link.specs.Bytes.{ack, nack, load_lead, store_lead, most_noes}
use Rattle.link.specs.State.{review, idle}
use Rattle.link.specs.Completion.{send_word, send_interrupt, complete}
use Rattle.link.specs.Link.{whole_length, append_byte, is_good_string, first_byte, last_byte, next_byte, yes_to_send}
use Rattle.link.specs.Link.{give_up}
use Rattle.link.specs.Link.{no_to_send, collect_byte, answer_to_send, tick_after_review, idle_tick}
use Rattle.link.specs.Loads.{carry_out_load}

abbrev pub Unhanded : Transition → Type 0
Unhanded t = t.handed ≡ None

pub idle_unhanded : (b : Body) (action : Action) → Unhanded (idle b action)
unfolding idle
idle_unhanded b action = refl

sent_unhanded : (b : Body) (kind : Kind) (lead : ℕ) (word : Word) → Unhanded (send_word b kind lead word)
unfolding send_word
sent_unhanded b kind lead word = refl

interrupts_unhanded : (b : Body) → Unhanded (send_interrupt b)
unfolding send_interrupt
interrupts_unhanded b =
    pick_by Unhanded b.outcome.counted (λ counted. sent_unhanded b Secondary _ _)
    (λ none. sent_unhanded b Completion _ _)

pub completed_unhanded : (b : Body) (interrupt : Bool) → Unhanded (complete b interrupt)
unfolding complete
completed_unhanded b interrupt =
    pick_by Unhanded interrupt (λ asked. interrupts_unhanded _) (λ silent. idle_unhanded b _)

pub byte_unhanded : (b : Body) (s : Collected) (value : ℕ) → Unhanded (collect_byte b s value)
unfolding collect_byte first_byte next_byte last_byte
byte_unhanded b s value =
    pick_by Unhanded (eqb s.length 0)
    (λ first. pick_by Unhanded (eqb value load_lead || eqb value store_lead) (λ starts. refl)
    (λ other. pick_by Unhanded (eqb value nack) (λ ignored. refl) (λ wrong. idle_unhanded b _)))
    (λ further. pick_by Unhanded (eqb (s.length + 1) (whole_length s.c0))
    (λ last. pick_by Unhanded (is_good_string (append_byte s value)) (λ good. refl) (λ bad. idle_unhanded b _))
    (λ more. refl))

pub given_up_unhanded : (b : Body) (kind : Kind) → Unhanded (give_up b kind)
unfolding give_up
given_up_unhanded b Load = idle_unhanded b _
given_up_unhanded b Secondary = idle_unhanded b _
given_up_unhanded b Completion = idle_unhanded b _
given_up_unhanded b Change = idle_unhanded _ _

said_yes_unhanded : (b : Body) (kind : Kind) → Unhanded (yes_to_send b kind)
unfolding yes_to_send
said_yes_unhanded b Load = idle_unhanded b _
said_yes_unhanded b Secondary = sent_unhanded b Completion _ _
said_yes_unhanded b Completion = idle_unhanded _ _
said_yes_unhanded b Change = idle_unhanded _ _

pub send_unhanded : (b : Body) (value : ℕ) (s : Send) → Unhanded (answer_to_send b value s)
unfolding answer_to_send no_to_send
send_unhanded b value s =
    pick_by Unhanded (eqb value ack) (λ yes. said_yes_unhanded b s.kind)
    (λ no. pick_by Unhanded (eqb s.noes most_noes) (λ most. given_up_unhanded b s.kind) (λ again. refl))

pub tick_unhanded : (b : Body) (s : Collected) → Unhanded (idle_tick b (Collecting s))
unfolding idle_tick tick_after_review
tick_unhanded b s =
    let reviewed = review b in
    pick_by Unhanded (reviewed.changed && reviewed.enable) (λ sends. sent_unhanded reviewed Change _ _)
    (λ quiet. refl)

pub loaded_unhanded : (b : Body) (address : ℕ) → Unhanded (carry_out_load b address)
unfolding carry_out_load
loaded_unhanded b address =
    pick_by Unhanded (eqb (address / 16 % 8) 6) (λ six. idle_unhanded b _)
    (λ other. pick_by Unhanded (eqb (address / 16 % 8) 7) (λ seven. idle_unhanded b _)
    (λ sends. sent_unhanded b Load _ _))
