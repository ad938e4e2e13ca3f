-- From the host's bytes to the restorer's: what a data call gives is the image that `ctc_build` gives of the bytes that
-- the host sent, and once it is spoiled as demand 2 says, `ctc_restore` gives those bytes back. Both by what their
-- contracts allow.
-- Assumes nothing.
use mathlib.Core.Path.{◌≡◌, sym, ap, subst, ◌∙◌}
use Prim.Native.Nat.{ℕ, ◌+◌, ◌*◌, ◌≤◌}
use native.Mathlib.Omega.{arith}
use mathlib.Core.Bool.{true, or-true}
use mathlib.Core.List.{List, [], ◌∷◌, ◌++◌}
use lib.Dec.{ltb}
use lib.ListN.{length, take, drop}
use lib.Seq.{take_at}
use borrow.Author.Tests.{ltb-false}
use Rattle.common.specs.Space.{overwrite}
use Rattle.common.proofs.PickLaws.{not_refused_lem, where_done}
use Rattle.common.proofs.SpaceLaws.{overwritten_front}
use Rattle.records.specs.Count.{limit}
use Rattle.records.specs.Image.{image_of, image_length}
use Rattle.records.specs.Place.{is_place}
use Rattle.records.specs.Build.{build_refusal, build_into}
use Rattle.records.specs.Spoiled.{Spoiled}
use Rattle.records.proofs.ImageLaws.{image_length_lem}
use Rattle.records.proofs.Demands.Contracts.{BuildAllows, RestoreAllows, builds_are_defined, builds_within}
use Rattle.records.proofs.Demands.{calls_restore_what_was_built, without_a_bad_byte_all_are_written}
use Rattle.transfers.specs.Data.{Host}
use Rattle.controller.specs.declared.controller.Controller.{Controller}
use Rattle.controller.specs.Records.{Answer}
use Rattle.controller.specs.Machine.{Call, Exchange, when_lent}
use Rattle.controller.specs.Machine.Call.{byte, taken, broken, report, host_data, result, tick, reset, hand}
use Rattle.controller.specs.Lists.{not_refused}
use Rattle.controller.specs.Ledger.{Ledger, EachFrom, tape_now}
use Rattle.controller.specs.OnTape.{image_on_tape}
use Rattle.controller.specs.Recorded.{bytes_sent, Recorded, RecordsAt}
use Rattle.controller.proofs.OnTapeLaws.{by_length, image_is}

-- ---- the claim

-- Of a data call's answer: `built`, the builder, handed the bytes that the host sent with none of them bad, gives the
-- same image, whatever space it is lent; `restored`, in GCR an image and marks that are spoiled of it, with at most one
-- odd and one even blockette bad and those alone marked, are restored to the bytes that the host sent.
pub record SentIsRestored (l : Ledger) (host : Host) (answer : Answer) : Type 0 where
  pub built : (space after : List ℕ)
      → BuildAllows (bytes_sent l.store host) (tape_now l).density 65791 space 0 after
      → take answer.bytes after ≡ take answer.bytes answer.space
  pub restored : ((tape_now l).density ≡ 0 → ⊥) → l.store.third * 256 + l.store.fourth ≤ 65535
      → (image marks : List ℕ) → Spoiled (take answer.bytes answer.space) image marks
      → (out : List ℕ) (refusal : ℕ) (after : List ℕ) → l.store.third * 256 + l.store.fourth ≤ length out
      → RestoreAllows image marks out refusal after
      → (refusal ≡ 0)
      × (after ≡ bytes_sent l.store host ++ drop (l.store.third * 256 + l.store.fourth) out)

-- of each data call that is not refused
abbrev pub RestoredAt : Ledger → Exchange → Type 0
RestoredAt l x =
    not_refused x ≡ true
    → when_lent (λ host space check. SentIsRestored l host x.answer) (λ r space check. Unit) Unit x.call

-- ---- the builder's image of bytes none of which is bad

module _ (bytes : List ℕ) (density : ℕ) (space after : List ℕ) (builds : BuildAllows bytes density 65791 space 0 after)
  where
    within : length bytes ≤ limit
    unfolding build_refusal
    within =
        ltb-false _ _ (not_refused_lem _ _ _ (λ z. omega arith)
        (sym (builds_are_defined bytes density 65791 space 0 after builds).0)).0

    front : take (length (image_of bytes density)) after ≡ image_of bytes density
    unfolding build_into
    front =
        let promised = builds_are_defined bytes density 65791 space 0 after builds in
        ap (take (length (image_of bytes density)))
        (promised.1 ∙ where_done _ _ _ (sym promised.0)
        ∙ ap (λ (l : List ℕ). overwrite (image_of l density) space) (without_a_bad_byte_all_are_written bytes within))
        ∙ overwritten_front (image_of bytes density) space

-- it is made wherever it fits
none_is_a_place : (n : ℕ) → is_place n 65791 ≡ true
unfolding is_place
none_is_a_place n = or-true (ltb 65791 n)

-- ---- the chain

module _ (l : Ledger) (host : Host) (space : List ℕ) (answer : Answer) (recorded : Recorded l host space answer) where
  abbrev sent : List ℕ
  sent = bytes_sent l.store host

  abbrev density : ℕ
  density = (tape_now l).density

  abbrev count : ℕ
  count = l.store.third * 256 + l.store.fourth

  sent_length : length sent ≡ count
  sent_length = by_length _ count

  -- the image that is given
  image_given : take answer.bytes answer.space ≡ image_of sent density
  image_given =
      ap (take answer.bytes) recorded.there
      ∙ take_at (image_on_tape sent density) (drop answer.bytes space) answer.bytes (sym recorded.number)
      ∙ image_is sent density

  image_number : answer.bytes ≡ length (image_of sent density)
  image_number = recorded.number ∙ ap length (image_is sent density)

  same_built : (lent after : List ℕ) → BuildAllows sent density 65791 lent 0 after
      → take answer.bytes after ≡ take answer.bytes answer.space
  same_built lent after builds =
      ap (λ (n : ℕ). take n after) image_number ∙ front sent density lent after builds ∙ sym image_given

  given_back : (density ≡ 0 → ⊥) → count ≤ 65535
      → (image marks : List ℕ) → Spoiled (take answer.bytes answer.space) image marks
      → (out : List ℕ) (refusal : ℕ) (after : List ℕ) → count ≤ length out
      → RestoreAllows image marks out refusal after
      → (refusal ≡ 0) × (after ≡ sent ++ drop count out)
  unfolding limit overwrite
  given_back gcr few image marks spoiled out refusal after room restores =
      let low : length sent ≤ limit = rw sent_length few in
      let long : image_length (length sent) density ≡ length (image_of sent density) =
      sym (image_length_lem sent density) in
      let fits : image_length (length sent) density ≤ length space =
      subst (λ (n : ℕ). n ≤ length space) (ap length (image_is sent density) ∙ sym long) recorded.room in
      let made = builds_within sent density 65791 space low fits (none_is_a_place (length sent)) in
      let left = build_into sent density 65791 space in
      let same : take (image_length (length sent) density) left ≡ take answer.bytes answer.space =
      ap (λ (n : ℕ). take n left) long ∙ front sent density space left made ∙ sym image_given in
      let (none, gives) = calls_restore_what_was_built sent density 65791 space left gcr made image marks
      (subst (λ (x : List ℕ). Spoiled x image marks) (sym same) spoiled) out refusal after (rw sent_length room)
      restores in (
        none,
        gives
            ∙ ap (λ (x : List ℕ). x ++ drop (length x) out) (without_a_bad_byte_all_are_written sent low)
            ∙ ap (λ (n : ℕ). sent ++ drop n out) sent_length,
      )

  pub sent_is_restored : SentIsRestored l host answer
  sent_is_restored = record { built = same_built; restored = given_back }

-- ---- over a list

at_call : (l : Ledger) (call : Call) (answer : Answer)
    → RecordsAt l (record { call = call; answer = answer }) → RestoredAt l (record { call = call; answer = answer })
at_call l (host_data host space check) answer records carried = sent_is_restored l host space answer (records carried)
at_call l (byte b) answer records carried = tt
at_call l taken answer records carried = tt
at_call l broken answer records carried = tt
at_call l (report drive r) answer records carried = tt
at_call l (result r space check) answer records carried = tt
at_call l tick answer records carried = tt
at_call l reset answer records carried = tt
at_call l (hand store) answer records carried = tt

pub recorded_is_restored : (xs : List Exchange) (l : Ledger) (c : Controller) → EachFrom RecordsAt l c xs
    → EachFrom RestoredAt l c xs
unfolding EachFrom
recorded_is_restored [] l c records = tt
recorded_is_restored (x ∷ xs) l c (first, others) =
    (at_call l x.call x.answer first, recorded_is_restored xs _ x.answer.reply.controller others)
