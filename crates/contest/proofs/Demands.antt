-- The theorems of the contest, of the functions by their contracts. They return, whatever they are handed:
-- `calls_meet_their_contracts`. They are refused above the limits, and nowhere else:
-- `questions_are_refused_above_their_limits`, `contests_are_refused_above_their_limits`. Yes is answered exactly where
-- the stores are enough: `yes_from_a_proper_gap`, `yes_from_an_improper_gap`. The first store that is given wins, and a
-- write is given wherever one wins: `first_store_given_wins`, `write_given_wherever_it_wins`, `store_given_with_a_yes`.
-- Assumes nothing.
use mathlib.Core.Path.{◌≡◌, sym, ap, subst, ◌∙◌}
use Prim.Native.Nat.{ℕ, ◌+◌, ◌*◌}
use native.Mathlib.Omega.{arith}
use mathlib.Core.Bool.{true, false, not, ◌||◌}
use lib.Dec.{leb, eqb}
use borrow.Author.Tests.{eqb-true, eqb-false, ne_eqb}
use contract.Lifetimes.{Lfts}
use Rattle.std.proofs.Common.{Result, None, Some}
use Rattle.common.specs.declared.refusals.Refusal.{Refusal}
use Rattle.contest.specs.declared.contest.Verdict.{Verdict}
use Rattle.contest.specs.declared.contest.Question.{Question}
use Rattle.std.proofs.lemmas.Option.{none-some}
use Rattle.common.specs.Pick.{pick}
use Rattle.common.proofs.PickLaws.{by_test}
use Rattle.contest.specs.declared.contest.Gap.{Gap}
use Rattle.contest.specs.declared.contest.Gap.TheVariants.{Proper, Improper}
use Rattle.contest.specs.declared.contest.Move.{Move}
use Rattle.contest.specs.declared.contest.Move.TheVariants.{Write, SkipReverse}
use Rattle.contest.specs.Told.{Answer, told}
use Rattle.contest.specs.Told.Answer.{Refused, No, Yes}
use Rattle.contest.specs.Contest.{Position, position_of, is_finished, forces, begins, Opening, opening_of}
use Rattle.contest.specs.Bound.{needed_stores}
use Rattle.contest.specs.Answer.{is_above_limit, solve, is_yes}
use Rattle.contest.specs.Refused.{SolveRefused, ContestRefused}
use Rattle.contest.proofs.RefusedQuestions.{solve_refused, contest_refused}
use Rattle.contest.proofs.ContestLaws.{fails_and_holds, forces_none, forces_some, begun_forces, else_skip_first}
use Rattle.contest.proofs.contest.Question.solve.Reads as answer-reads
use Rattle.contest.proofs.contest.Question.solve.Met as answer-met
use Rattle.contest.proofs.contest.Question.solve.Statement as answer-statement
use Rattle.contest.proofs.interface.ctc_contest.Reads as contest-reads
use Rattle.contest.proofs.interface.ctc_contest.Met as contest-met
use Rattle.contest.proofs.interface.ctc_contest.Statement as contest-statement

-- ---- the calls

-- Each function meets its contract, which has no `requires`; so it returns and does nothing undefined, whatever it is
-- handed.
pub record Meet (M : Type 1) : Type 2 where
  pub solve : answer-statement.statement M
  pub contest : contest-statement.statement M

pub calls_meet_their_contracts : {M : Type 1} → Meet M
calls_meet_their_contracts = record { solve = answer-met.met; contest = contest-met.met }

-- ---- the contest

-- "The yes must hold exactly when w is 0 or n is at least w plus twice f, .. proved from the contest's rules."
pub forces_from_a_proper_gap : (n w f : ℕ) → forces n (position_of Proper w f) ≡ (eqb w 0 || leb (w + 2 * f) n)
unfolding needed_stores
forces_from_a_proper_gap n w f =
    by_test (eqb w 0)
    (λ none. rw none (forces_none n Proper w f (eqb-true w 0 none)))
    (λ some. rw some (forces_some n Proper w f (eqb-false w 0 some)))

-- "and one more from an improper gap"
pub forces_from_an_improper_gap : (n w f : ℕ) → forces n (position_of Improper w f) ≡ (eqb w 0 || leb (w + 2 * f + 1) n)
unfolding needed_stores
forces_from_an_improper_gap n w f =
    by_test (eqb w 0)
    (λ none. rw none (forces_none n Improper w f (eqb-true w 0 none)))
    (λ some. rw some (forces_some n Improper w f (eqb-false w 0 some)))

-- different answers are different
no_is_no_yes : {first : Opening} → No ≡ Yes first → ⊥
no_is_no_yes e = let z : ◌≡◌ {A = ℕ} 0 1 = cc in omega arith

refused_is_no_yes : {refusal : ℕ} {first : Opening} → Refused refusal ≡ Yes first → ⊥
refused_is_no_yes e = let z : ◌≡◌ {A = ℕ} 0 1 = cc in omega arith

-- the first store that is given wins
pub first_store_wins : (n : ℕ) (p : Position) (store : Move) → opening_of n p ≡ Some store → begins n store p ≡ true
unfolding opening_of pick
first_store_wins n p store given =
    by_test (is_finished p || not (forces n p))
    (λ none. absurd (none-some _ (simp none at given)))
    (λ some.
    let wins = fails_and_holds _ _ some in
    by_test (begins n Write p)
    (λ write. subst (λ (s : Move). begins n s p ≡ true) (cc (simp (some, write) at given)) write)
    (λ none. subst (λ (s : Move). begins n s p ≡ true) (cc (simp (some, none) at given))
    (else_skip_first n p wins.0 wins.1 none)))

-- a write is given wherever one wins
pub write_wherever_it_wins : (n : ℕ) (p : Position) → is_finished p ≡ false → begins n Write p ≡ true
    → opening_of n p ≡ Some Write
unfolding opening_of pick
write_wherever_it_wins n p some write = simp (some, begun_forces n Write p write, write)

-- ---- the answers that the contract allows

abbrev question : Gap → ℕ → ℕ → ℕ → Question
question gap w n f = record { gap = gap; writes = w; stores = n; spoilings = f }

module _ (κs : Lfts 0) (gap : Gap) (w n f : ℕ) (answer : Result Verdict Refusal)
    (allowed : answer-reads.Post κs (question gap w n f, tt) answer (question gap w n f, tt)) where
  -- the answer, with its number where it is refused
  abbrev r : Answer
  r = told answer

  -- "20 a number above its limit", and no other refusal
  pub questions_are_refused_above_their_limits : SolveRefused w n f r
  questions_are_refused_above_their_limits = subst (SolveRefused w n f) (sym allowed) (solve_refused gap w n f)

  -- within the limits, yes exactly where the driver can force all
  answer_is_yes : is_above_limit w n f ≡ false → is_yes r ≡ forces n (position_of gap w f)
  unfolding solve is_yes pick
  answer_is_yes within =
      ap is_yes allowed ∙ by_test (forces n (position_of gap w f)) (λ yes. simp (within, yes)) (λ no. simp (within, no))

  -- so exactly where w is 0 or n is at least w plus twice f
  pub yes_from_a_proper_gap : is_above_limit w n f ≡ false → gap ≡ Proper → is_yes r ≡ (eqb w 0 || leb (w + 2 * f) n)
  yes_from_a_proper_gap within proper = answer_is_yes within ∙ rw proper (forces_from_a_proper_gap n w f)

  -- and one more from an improper gap
  pub yes_from_an_improper_gap : is_above_limit w n f ≡ false → gap ≡ Improper
      → is_yes r ≡ (eqb w 0 || leb (w + 2 * f + 1) n)
  yes_from_an_improper_gap within improper = answer_is_yes within ∙ rw improper (forces_from_an_improper_gap n w f)

  -- the first store given wins
  pub first_store_given_wins : (store : Move) → r ≡ Yes (Some store) → begins n store (position_of gap w f) ≡ true
  unfolding solve pick
  first_store_given_wins store given =
      let says = sym allowed ∙ given in
      by_test (is_above_limit w n f)
      (λ above. absurd (refused_is_no_yes (simp above at says)))
      (λ within.
      by_test (forces n (position_of gap w f))
      (λ yes. first_store_wins n _ store (cc (simp (within, yes) at says)))
      (λ no. absurd (no_is_no_yes (simp (within, no) at says))))

  -- a write is given wherever one wins
  pub write_given_wherever_it_wins : is_above_limit w n f ≡ false → (w ≡ 0 → ⊥)
      → begins n Write (position_of gap w f) ≡ true → r ≡ Yes (Some Write)
  unfolding solve is_finished pick
  write_given_wherever_it_wins within some write =
      allowed ∙ simp
      (within, begun_forces n Write _ write, write_wherever_it_wins n (position_of gap w f) (ne_eqb w 0 some) write)

  -- and every yes has a first store, but where w is 0
  pub store_given_with_a_yes : (w ≡ 0 → ⊥) → r ≡ Yes None → ⊥
  unfolding solve opening_of is_finished pick
  store_given_with_a_yes some given =
      let says = sym allowed ∙ given in
      by_test (is_above_limit w n f)
      (λ above. refused_is_no_yes (simp above at says))
      (λ within.
      by_test (forces n (position_of gap w f))
      (λ yes.
      by_test (begins n Write (position_of gap w f))
      (λ write. none-some Write (sym (cc (simp (within, yes, ne_eqb w 0 some, write) at says))))
      (λ none. none-some SkipReverse
      (sym (cc (simp (within, yes, ne_eqb w 0 some, none) at says)))))
      (λ no. no_is_no_yes (simp (within, no) at says)))

-- ---- the number that C is answered

-- "20 a number above its limit", the gap's too, and no other refusal
pub contests_are_refused_above_their_limits : (κs : Lfts 0) (gap w n f r : ℕ)
    → contest-reads.Post κs (gap, (w, (n, (f, tt)))) r (gap, (w, (n, (f, tt)))) → ContestRefused gap w n f r
contests_are_refused_above_their_limits κs gap w n f r allowed =
    subst (ContestRefused gap w n f) (sym allowed) (contest_refused gap w n f)
