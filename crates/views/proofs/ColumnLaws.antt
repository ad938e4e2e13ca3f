-- The refusals of a view are those of its table, and its counts are the columns of the records.
-- Assumes nothing.
use mathlib.Core.Path.{◌≡◌, refl, sym, ap, ap₂, ◌∙◌}
use Prim.Native.Nat.{ℕ, zero, suc, ◌+◌, ◌-◌, ◌*◌, ◌≤◌, ◌<◌}
use native.Mathlib.Omega.{arith}
use mathlib.Core.Bool.{Bool}
use mathlib.Core.List.{List, [], ◌∷◌}
use lib.Dec.{leb, eqb}
use lib.ListN.{length, take, drop, get_or}
use lib.Seq.{get_or-take, get_or-drop}
use borrow.Author.Tests.{leb-false, lt-leb, eqb-true}
use Rattle.std.proofs.Common.{None, Some}
use Rattle.common.specs.Pick.{pick}
use Rattle.common.specs.FirstOf.{FirstOf}
use Rattle.common.proofs.PickLaws.{by_test}
use Rattle.common.proofs.FirstOfLaws.{by_failing, by_below}
use Rattle.status.specs.declared.words.ResultRecord.{ResultRecord}
use Rattle.views.specs.Told.{First}
use Rattle.views.specs.View.{codes_of, is_recoverable, is_unrecoverable, is_other, tally, counts_of, count_bytes}
use Rattle.views.specs.View.{stretch_count, view_refusal}
use Rattle.views.specs.Places.{stretch_at, unrecoverable_at, EachIsFresh, IsFirst}
use Rattle.views.specs.Refused.{ViewRefused}
use Rattle.views.specs.Columns.{adds15, adds16, adds_other, adds_nonzero, summed, summed_at}
use Rattle.views.specs.Columns.{EachHasColumns, FirstGiven}
use Rattle.views.proofs.Along.{codes_length}

-- ---- the table

pub view_refused : (width records space : ℕ) → ViewRefused width records space (view_refusal width records space)
unfolding FirstOf view_refusal stretch_count pick
view_refused width records space =
    by_failing (leb 1 width) (leb-false 1 width) (lt-leb 1 width) (λ none. simp none)
    (λ some.
    by_failing (leb width 64) (leb-false width 64) (lt-leb width 64) (λ wide. simp (some, wide))
    (λ narrow.
    by_below 65535 records (λ many. simp (some, narrow, many))
    (λ few.
    by_below space (3 * (records + 1 - width)) (λ short. simp (some, narrow, few, short))
    (λ room. simp (some, narrow, few, room)))))

-- ---- the codes of a part of a run

codes_take : (width : ℕ) (rs : List ResultRecord) → codes_of (take width rs) ≡ take width (codes_of rs)
unfolding codes_of
codes_take zero rs = refl
codes_take (suc width) [] = refl
codes_take (suc width) (r ∷ rs) = ap (λ (l : List ℕ). r.code ∷ l) (codes_take width rs)

codes_drop : (place : ℕ) (rs : List ResultRecord) → codes_of (drop place rs) ≡ drop place (codes_of rs)
unfolding codes_of
codes_drop zero rs = refl
codes_drop (suc place) [] = refl
codes_drop (suc place) (r ∷ rs) = codes_drop place rs

codes_at : (width : ℕ) (run : List ResultRecord) (place : ℕ)
    → codes_of (take width (drop place run)) ≡ stretch_at width (codes_of run) place
unfolding stretch_at
codes_at width run place = codes_take width (drop place run) ∙ ap (take width) (codes_drop place run)

-- ---- a count is a sum

tally_sum : (test : ℕ → Bool) (adds : ℕ → ℕ) → ((code : ℕ) → pick (test code) 1 0 ≡ adds code)
    → (rs : List ResultRecord) → tally test (codes_of rs) ≡ summed adds rs
unfolding tally codes_of summed
tally_sum test adds each [] = refl
tally_sum test adds each (r ∷ rs) = ap₂ ◌+◌ (each r.code) (tally_sum test adds each rs)

counts15 : (code : ℕ) → pick (is_recoverable code) 1 0 ≡ adds15 code
unfolding is_recoverable adds15
counts15 code = refl

counts16 : (code : ℕ) → pick (is_unrecoverable code) 1 0 ≡ adds16 code
unfolding is_unrecoverable adds16
counts16 code = refl

counts_other : (code : ℕ) → pick (is_other code) 1 0 ≡ adds_other code
unfolding is_other is_recoverable is_unrecoverable adds_other pick
counts_other code =
    by_test (eqb code 0) (λ none. simp none)
    (λ some.
    by_test (eqb code 0x15) (λ is15. simp (some, is15))
    (λ not15. by_test (eqb code 0x16) (λ is16. simp (some, not15, is16)) (λ not16. simp (some, not15, not16))))

-- a code is in one column alone
one_column : (code : ℕ) → adds15 code + adds16 code + adds_other code ≡ adds_nonzero code
unfolding adds15 adds16 adds_other adds_nonzero pick
one_column code =
    by_test (eqb code 0) (λ none. rw (eqb-true code 0 none))
    (λ some.
    by_test (eqb code 0x15) (λ is15. rw (eqb-true code 0x15 is15))
    (λ not15. by_test (eqb code 0x16) (λ is16. rw (eqb-true code 0x16 is16)) (λ not16. simp (some, not15, not16))))

-- so the columns add up to the nonzero codes
columns_together : (rs : List ResultRecord)
    → summed adds15 rs + summed adds16 rs + summed adds_other rs ≡ summed adds_nonzero rs
unfolding summed
columns_together [] = refl
columns_together (r ∷ rs) = omega (arith, one_column r.code, columns_together rs)

module _ (width : ℕ) (run : List ResultRecord) where
  abbrev codes : List ℕ
  codes = codes_of run

  -- the codes 16 of the stretch at a place
  sixteens : (place : ℕ) → unrecoverable_at width codes place ≡ summed_at adds16 width run place
  unfolding unrecoverable_at counts_of
  sixteens place =
      ap (tally is_unrecoverable) (sym (codes_at width run place))
      ∙ tally_sum is_unrecoverable adds16 counts16 (take width (drop place run))

  -- a full stretch is one of those that are given
  is_given : (place : ℕ) → place + width ≤ length run → place < stretch_count width (length codes)
  unfolding stretch_count
  is_given place full = omega (arith, full, codes_length run)

  pub each_has_columns : (space : List ℕ) → EachIsFresh width codes space → EachHasColumns width run space
  unfolding counts_of count_bytes
  each_has_columns space fresh place full =
      let part = take width (drop place run) in
      let three = fresh place (is_given place full)
      ∙ ap (λ (l : List ℕ). count_bytes (counts_of l)) (sym (codes_at width run place)) in
      let byte : (i : ℕ) → i < 3
      → get_or space (3 * place + i) 0 ≡ get_or (count_bytes (counts_of (codes_of part))) i 0 = λ i below.
      sym (get_or-take 3 (drop (3 * place) space) i 0 below ∙ get_or-drop (3 * place) space i 0)
      ∙ ap (λ (l : List ℕ). get_or l i 0) three in
      let start : 3 * place + 0 ≡ 3 * place = omega arith in
      let a = sym (ap (λ (n : ℕ). get_or space n 0) start) ∙ byte 0 (omega arith)
      ∙ tally_sum is_recoverable adds15 counts15 part in
      let b = byte 1 (omega arith) ∙ tally_sum is_unrecoverable adds16 counts16 part in
      let c = byte 2 (omega arith) ∙ tally_sum is_other adds_other counts_other part in
      record {
        codes15 = a;
        codes16 = b;
        others = c;
        together = ap₂ ◌+◌ (ap₂ ◌+◌ a b) c ∙ columns_together part;
      }

  pub first_given : (first : First) → IsFirst width codes first → FirstGiven width run first
  unfolding IsFirst FirstGiven stretch_count
  first_given None short = omega (arith, short, codes_length run)
  first_given (Some place) least =
      record {
        full = omega (arith, least.is_one, codes_length run);
        most = λ other full.
            omega (arith, sixteens other, sixteens place, least.most other (is_given other full));
        first = λ other before. omega (arith, sixteens other, sixteens place, least.min other before);
      }
