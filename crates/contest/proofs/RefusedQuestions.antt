-- The refusals of the contest are those of its table.
-- Assumes nothing.
use mathlib.Core.Path.{◌≡◌, refl, ap}
use Prim.Native.Nat.{ℕ}
use native.Mathlib.Omega.{arith}
use mathlib.Core.Bool.{true, false}
use lib.Dec.{ltb, eqb}
use Rattle.std.proofs.Common.{None, Some}
use Rattle.common.specs.Pick.{pick}
use Rattle.common.specs.FirstOf.{FirstOf}
use Rattle.common.proofs.PickLaws.{by_test}
use Rattle.common.proofs.FirstOfLaws.{by_below}
use Rattle.contest.specs.declared.contest.Gap.{Gap}
use Rattle.contest.specs.declared.contest.Gap.TheVariants.{Proper, Improper}
use Rattle.contest.specs.declared.contest.Move.TheVariants.{Write, SkipReverse}
use Rattle.contest.specs.Contest.{position_of, forces, Opening, opening_of}
use Rattle.contest.specs.Answer.{is_above_limit, solve}
use Rattle.contest.specs.Interface.{move_number, first_number, answer_number, contest}
use Rattle.contest.specs.Refused.{above_limits, refusal_of, SolveRefused, ContestRefused}

-- a number that is 20 where one of the three is above its limit, and 0 otherwise
by_limits : (w n f refusal : ℕ) → (is_above_limit w n f ≡ true → refusal ≡ 20)
    → (is_above_limit w n f ≡ false → refusal ≡ 0)
    → FirstOf (above_limits w n f) refusal
unfolding FirstOf is_above_limit
by_limits w n f refusal above within =
    by_below 8 w (λ t. above (rw t))
    (λ w_within.
    by_below 8 f (λ t. by_test (ltb 32 n) (λ u. above (rw (w_within, u))) (λ u. above (rw (w_within, u, t))))
    (λ f_within.
    by_below 32 n (λ t. above (rw (w_within, t))) (λ n_within. within (rw (w_within, n_within, f_within)))))

pub solve_refused : (gap : Gap) (w n f : ℕ) → SolveRefused w n f (solve gap w n f)
unfolding solve refusal_of pick
solve_refused gap w n f =
    record {
      refused =
          by_limits w n f _ (λ above. rw above)
          (λ within. by_test (forces n (position_of gap w f)) (λ yes. simp (within, yes)) (λ no. simp (within, no)));
      by_a_number = λ e.
          by_test (is_above_limit w n f)
          (λ above. let z : ◌≡◌ {A = ℕ} 20 0 = ap refusal_of (simp above at e) in omega arith)
          (λ within.
          by_test (forces n (position_of gap w f))
          (λ yes. let z : ◌≡◌ {A = ℕ} 0 1 = cc (simp (within, yes) at e) in omega arith)
          (λ no. let z : ◌≡◌ {A = ℕ} 0 1 = cc (simp (within, no) at e) in omega arith));
    }

-- the numbers of a yes are 1 to 3
first_told : (first : Opening) → pick (ltb 3 (first_number first)) (first_number first) 0 ≡ 0
unfolding first_number move_number pick
first_told None = refl
first_told (Some Write) = refl
first_told (Some SkipReverse) = refl

pub contest_refused : (gap w n f : ℕ) → ContestRefused gap w n f (contest gap w n f)
unfolding FirstOf contest solve answer_number pick
contest_refused gap w n f =
    by_below 1 gap (λ other. simp other)
    (λ given.
    by_limits w n f _ (λ above. simp (given, above))
    (λ within.
    let asked = position_of (pick (eqb gap 0) Proper Improper) w f in
    by_test (forces n asked) (λ yes. simp (given, within, yes) (first_told (opening_of n asked)))
    (λ no. simp (given, within, no))))
