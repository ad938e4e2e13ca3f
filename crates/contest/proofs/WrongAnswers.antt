-- For each public function two wrong answers that its contract does not allow. The contract is `Post`, as the toolchain
-- reads it.
-- Assumes nothing.
use mathlib.Core.Path.{◌≡◌, sym, ap, ◌∙◌}
use Prim.Native.Nat.{ℕ, ◌<◌}
use native.Mathlib.Omega.{arith}
use mathlib.Core.Bool.{true, false, false≢true}
use contract.Lifetimes.{Lfts}
use borrow.Author.Tests.{lt-ltb}
use Rattle.std.proofs.Common.{Result}
use Rattle.common.specs.declared.refusals.Refusal.{Refusal}
use Rattle.contest.specs.declared.contest.Verdict.{Verdict}
use Rattle.contest.specs.declared.contest.Question.{Question}
use Rattle.common.specs.Pick.{pick}
use Rattle.common.proofs.PickLaws.{by_test, pick_yes}
use Rattle.contest.specs.declared.contest.Gap.{Gap}
use Rattle.contest.specs.declared.contest.Gap.TheVariants.{Proper, Improper}
use Rattle.contest.specs.Told.{Answer, told}
use Rattle.contest.specs.Contest.{position_of, is_finished, may_write, may_spoil, after_good, after_spoiled, after_skip}
use Rattle.contest.specs.Contest.{store_wins, forces, opening_of}
use Rattle.contest.specs.Answer.{is_above_limit, solve, is_yes}
use Rattle.contest.specs.Interface.{move_number, first_number, answer_number, contest}
use Rattle.contest.proofs.ContestLaws.{no_write_first}
use Rattle.contest.proofs.contest.Question.solve.Reads as answer-reads
use Rattle.contest.proofs.interface.ctc_contest.Reads as contest-reads

-- ---- answer_of

abbrev question : Gap → ℕ → ℕ → ℕ → Question
question gap w n f = record { gap = gap; writes = w; stores = n; spoilings = f }

module _ (κs : Lfts 0) (gap : Gap) (w n f : ℕ) (answer : Result Verdict Refusal)
    (allowed : answer-reads.Post κs (question gap w n f, tt) answer (question gap w n f, tt)) where
  abbrev r : Answer
  r = told answer

  -- yes to two writes with one store
  pub answer_yes_with_fewer_stores_than_writes : gap ≡ Proper → w ≡ 2 → n ≡ 1 → f ≡ 0 → is_yes r ≡ true → ⊥
  unfolding solve is_above_limit forces store_wins may_write may_spoil after_good after_spoiled after_skip is_finished
      is_yes pick
  answer_yes_with_fewer_stores_than_writes g e₁ e₂ e₃ wrong =
      let right : is_yes r ≡ false = ap is_yes allowed ∙ rw (g, e₁, e₂, e₃) in false≢true (sym right ∙ wrong)

  -- yes to nine writes
  pub answer_yes_above_a_limit : 8 < w → is_yes r ≡ true → ⊥
  unfolding solve is_above_limit is_yes pick
  answer_yes_above_a_limit above wrong =
      let right : is_yes r ≡ false = ap is_yes allowed ∙ rw (lt-ltb 8 w above) in false≢true (sym right ∙ wrong)

-- ---- ctc_contest

module _ (κs : Lfts 0) (gap w n f r : ℕ)
    (allowed : contest-reads.Post κs (gap, (w, (n, (f, tt)))) r (gap, (w, (n, (f, tt))))) where
  -- a gap that is neither proper nor improper is played from
  pub contest_from_another_gap : 1 < gap → r < 20 → ⊥
  unfolding contest
  contest_from_another_gap above wrong =
      let right : r ≡ 20 = allowed ∙ pick_yes _ _ (lt-ltb 1 gap above) in omega arith

  -- a write is the first store from an improper gap
  pub contest_writes_in_an_improper_gap : gap ≡ 1 → r ≡ 2 → ⊥
  unfolding contest solve opening_of answer_number first_number move_number pick
  contest_writes_in_an_improper_gap g wrong =
      let right = sym allowed ∙ wrong in
      by_test (is_above_limit w n f)
      (λ above. let e : ◌≡◌ {A = ℕ} 20 2 = simp (g, above) at right in omega arith)
      (λ within.
      by_test (forces n (position_of Improper w f))
      (λ yes.
      by_test (is_finished (position_of Improper w f))
      (λ none. let e : ◌≡◌ {A = ℕ} 1 2 = simp (g, within, yes, none) at right in omega arith)
      (λ some. let e : ◌≡◌ {A = ℕ} 3 2 = simp (g, within, yes, some, no_write_first) at right in omega arith))
      (λ no. let e : ◌≡◌ {A = ℕ} 0 2 = simp (g, within, no) at right in omega arith))
