-- The theorems of the moving view, of any answer that the contract of `moving_view` allows. 1:
-- `views_meet_their_contract`, `refused_views_change_nothing`, and with which number they are refused:
-- `refusals_are_the_first_that_hold`. 2: `each_stretch_is_counted_afresh`, `the_first_has_most` and
-- `the_rest_of_the_space_is_kept`; and in the paper's own numbers, `stretches_have_their_columns`.
-- Assumes nothing.
use mathlib.Core.Path.{◌≡◌, refl, sym, ap, ◌∙◌}
use mathlib.Core.List.{List}
use Prim.Native.Nat.{ℕ, ◌+◌, ◌-◌, ◌*◌}
use lib.Dec.{eqb}
use lib.ListN.{length, drop}
use lib.Seq.{drop_at}
use borrow.Author.Tests.{eqb-true}
use seplogic.Ra.Ura.{Ura}
use base.Logic.{SProp, sep}
use prog.Memory.{Memory}
use prog.Routine.{Routine}
use types.Logic.{Logic}
use contract.Lifetimes.{Lfts}
use contract.Monad.{Fun, fact}
use denote.Bor.{Bor}
use denote.Ref.{MutBor, at_last}
use Rattle.std.proofs.Common.{None, Result}
use Rattle.common.specs.declared.refusals.Refusal.{Refusal}
use Rattle.common.specs.Space.{overwrite}
use Rattle.common.proofs.PickLaws.{by_test, pick_yes, pick_no, where_done, where_refused}
use Rattle.status.specs.declared.words.ResultRecord.{ResultRecord}
use Rattle.views.specs.declared.view.View as view
use Rattle.views.specs.Told.{View, told}
use Rattle.views.specs.View.{codes_of, stretches, stretches_bytes, unrecoverables, first_most, stretch_count}
use Rattle.views.specs.View.{view_refusal, Admitted, moving_view, moving_view_into}
use Rattle.views.specs.Places.{EachIsFresh, IsFirst}
use Rattle.views.specs.Refused.{ViewRefused}
use Rattle.views.specs.Columns.{EachHasColumns, FirstGiven}
use Rattle.views.proofs.StretchLaws.{stretches_length, bytes_length}
use Rattle.views.proofs.PlaceLaws.{each_is_fresh, is_first}
use Rattle.views.proofs.Along.{admitted, codes_length}
use Rattle.views.proofs.ColumnLaws.{view_refused, each_has_columns, first_given}
use Rattle.views.specs.contracts.view.moving_view as f
use Rattle.views.proofs.view.moving_view.Statement as stated
use Rattle.views.proofs.view.moving_view.Met as met
use Rattle.views.proofs.view.moving_view.Reads as f-reads

-- ---- what the contract allows

-- an answer, and what the lent space then holds
abbrev pub Allows : List ResultRecord → ℕ → List ℕ → View → List ℕ → Type 0
Allows run width space r after =
    (r ≡ moving_view width (codes_of run) (length space)) × (after ≡ moving_view_into width (codes_of run) space)

-- these are the words of the contract
pub these_are_its_words : {M : Type 1} {𝓤 : Ura M} (𝓛 : Logic 𝓤) (mem : Memory → SProp 𝓤)
    (routines : Routine → Fun 𝓤)
    (κs : Lfts 2) (run : Bor (List ResultRecord)) (width : ℕ) (out : MutBor (List ℕ))
    (answer : Result view.View Refusal) (after : List ℕ)
    → (f.clauses 𝓛 mem routines κs (run, (width, (out, tt)))).ensures tt answer (run, (width, (at_last out after, tt)))
    ≡ sep 𝓤 (fact 𝓤 (told answer ≡ moving_view width (codes_of run.now) (length out.now)))
    (fact 𝓤 (after ≡ moving_view_into width (codes_of run.now) out.now))
these_are_its_words 𝓛 mem routines κs run width out answer after = refl

-- and so the toolchain reads them
pub this_is_what_they_allow : (κs : Lfts 2) (run : Bor (List ResultRecord)) (width : ℕ) (out : MutBor (List ℕ))
    (answer : Result view.View Refusal) (after : List ℕ)
    → f-reads.Post κs (run, (width, (out, tt))) answer (run, (width, (at_last out after, tt)))
    ≡ Allows run.now width out.now (told answer) after
this_is_what_they_allow κs run width out answer after = refl

-- ---- demand 1

-- `moving_view` meets its contract, which has no `requires`; so it returns and does nothing undefined, whatever it is
-- handed.
pub views_meet_their_contract : {M : Type 1} → stated.statement M
views_meet_their_contract = met.met

module _ (run : List ResultRecord) (width : ℕ) (space : List ℕ) (r : View) (after : List ℕ)
    (allowed : Allows run width space r after) where
  abbrev codes : List ℕ
  codes = codes_of run

  abbrev refusal : ℕ
  refusal = view_refusal width (length codes) (length space)

  -- the refusal that is answered is the one that is defined
  pub refusal_is : r.refusal ≡ refusal
  unfolding moving_view
  refusal_is = by_test (eqb refusal 0)
      (λ t. ap (λ (v : View). v.refusal) (allowed.0 ∙ pick_yes _ _ t) ∙ sym (eqb-true refusal 0 t))
      (λ t. ap (λ (v : View). v.refusal) (allowed.0 ∙ pick_no _ _ t))

  -- a refused view leaves the space as it was, and gives no stretch and no first
  pub refused_views_change_nothing : (r.refusal ≡ 0 → ⊥) → (after ≡ space) × (r.stretches ≡ 0) × (r.first ≡ None)
  unfolding moving_view moving_view_into
  refused_views_change_nothing some = (
    allowed.1 ∙ where_refused refusal _ _ bad,
    ap (λ (v : View). v.stretches) (allowed.0 ∙ where_refused refusal _ _ bad),
    ap (λ (v : View). v.first) (allowed.0 ∙ where_refused refusal _ _ bad),
  )
    where
      bad : refusal ≡ 0 → ⊥
      bad e = some (refusal_is ∙ e)

  -- the refusal is the first number of the paper's order whose condition holds, and 0 where none does
  pub refusals_are_the_first_that_hold : ViewRefused width (length run) (length space) r.refusal
  refusals_are_the_first_that_hold =
      rw (refusal_is, codes_length run) (view_refused width (length run) (length space))

  -- ---- demand 2

  module _ (done : r.refusal ≡ 0) where
    pub ok : Admitted width (length codes) (length space)
    ok = admitted width (length codes) (length space) (sym refusal_is ∙ done)

    answer_is : r
        ≡ record {
          refusal = 0;
          stretches = length (stretches width codes);
          first = first_most (unrecoverables (stretches width codes));
        }
    unfolding moving_view
    answer_is = allowed.0 ∙ where_done refusal _ _ (sym refusal_is ∙ done)

    after_is : after ≡ overwrite (stretches_bytes (stretches width codes)) space
    unfolding moving_view_into
    after_is = allowed.1 ∙ where_done refusal _ _ (sym refusal_is ∙ done)

    many : r.stretches ≡ stretch_count width (length codes)
    many = ap (λ (v : View). v.stretches) answer_is ∙ stretches_length width codes ok.some

    -- "Each stretch's counts equal a fresh count of it", and there are as many as there are places from 0 to the length
    -- less the width
    pub each_stretch_is_counted_afresh : (r.stretches ≡ stretch_count width (length codes))
        × EachIsFresh width codes after
    each_stretch_is_counted_afresh = (many, rw after_is (each_is_fresh width codes ok.some space))

    -- "the first stretch with most codes 16": the least place with the greatest count
    pub the_first_has_most : IsFirst width codes r.first
    the_first_has_most = rw (ap (λ (v : View). v.first) answer_is) (is_first width codes ok.some)

    -- "write only the bytes they give; the rest of the lent space keeps its bytes" (document 01)
    pub the_rest_of_the_space_is_kept : drop (3 * r.stretches) after ≡ drop (3 * r.stretches) space
    unfolding overwrite
    the_rest_of_the_space_is_kept =
        ap (drop (3 * r.stretches)) after_is
        ∙ drop_at (stretches_bytes (stretches width codes)) _ (3 * r.stretches)
        (long ∙ ap (λ (n : ℕ). 3 * n) (sym same))
        ∙ ap (λ (n : ℕ). drop n space) (long ∙ ap (λ (n : ℕ). 3 * n) (sym same))
      where
        same : r.stretches ≡ length (stretches width codes)
        same = ap (λ (v : View). v.stretches) answer_is

        long : length (stretches_bytes (stretches width codes)) ≡ 3 * length (stretches width codes)
        long = bytes_length (stretches width codes)

    -- The three bytes of each full stretch are "the number of codes 15, of codes 16, and of other nonzero codes" among
    -- its records, and add up to its nonzero codes; there are as many stretches as places from which the width is still
    -- within the run; and the first given is the least of those with most codes 16.
    pub stretches_have_their_columns : (r.stretches ≡ length run + 1 - width)
        × EachHasColumns width run after
        × FirstGiven width run r.first
    unfolding stretch_count
    stretches_have_their_columns = (
      many ∙ ap (λ (n : ℕ). n + 1 - width) (codes_length run),
      each_has_columns width run after each_stretch_is_counted_afresh.1,
      first_given width run r.first the_first_has_most,
    )
