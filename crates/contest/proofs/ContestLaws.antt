-- Laws of the contest: by induction over the stores that are left, the driver forces all writes exactly where they are
-- enough; and which store then wins.
-- Assumes nothing.
use mathlib.Core.Path.{◌≡◌, refl, sym, ◌∙◌}
use Prim.Native.Nat.{ℕ, zero, suc, ◌≤◌, ◌<◌}
use native.Mathlib.Omega.{arith}
use mathlib.Core.Bool.{Bool, true, false, not, ◌||◌, false≢true}
use lib.Dec.{leb, ltb, eqb}
use borrow.Author.Tests.{ltb-true, ltb-false, leb-true, leb-false, le-leb, lt-leb, eqb-true, eqb-false, eq-eqb, ne_eqb}
use Rattle.std.proofs.Math.Bool.{and-false, or-true}
use Rattle.common.proofs.PickLaws.{by_test}
use Rattle.contest.specs.declared.contest.Gap.{Gap}
use Rattle.contest.specs.declared.contest.Gap.TheVariants.{Proper, Improper}
use Rattle.contest.specs.declared.contest.Move.{Move}
use Rattle.contest.specs.declared.contest.Move.TheVariants.{Write, SkipReverse}
use Rattle.contest.specs.Contest.{Position, position_of, is_finished, may_write, may_spoil, after_good, after_spoiled}
use Rattle.contest.specs.Contest.{after_skip, store_wins, forces, begins}
use Rattle.contest.specs.Bound.{needed_stores}
use Rattle.contest.specs.Answer.{writes_limit, spoilings_limit, is_above_limit}

-- ---- tests

-- one test fails and the other holds
pub fails_and_holds : (a b : Bool) → (a || not b) ≡ false → (a ≡ false) × (b ≡ true)
fails_and_holds true b e = absurd (false≢true (sym e))
fails_and_holds false true e = (refl, refl)
fails_and_holds false false e = absurd (false≢true (sym e))

-- ---- what is enough

-- no write is left to finish, or there are as many stores as the code asks for
unfoldable is_enough : ℕ → Position → Bool
is_enough n p = is_finished p || leb (needed_stores p.gap p.writes p.spoilings) n

module _ (n : ℕ) (gap : Gap) (w f : ℕ) where
  enough_done : w ≡ 0 → is_enough n (position_of gap w f) ≡ true
  unfolding is_enough is_finished
  enough_done none = rw (eq-eqb w 0 none)

  enough_yes : needed_stores gap w f ≤ n → is_enough n (position_of gap w f) ≡ true
  unfolding is_enough
  enough_yes h = rw (le-leb _ n h, or-true)

  enough_no : (w ≡ 0 → ⊥) → n < needed_stores gap w f → is_enough n (position_of gap w f) ≡ false
  unfolding is_enough is_finished
  enough_no some h = rw (ne_eqb w 0 some, lt-leb _ n h)

  enough_means : (w ≡ 0 → ⊥) → is_enough n (position_of gap w f) ≡ true → needed_stores gap w f ≤ n
  unfolding is_enough is_finished
  enough_means some e = leb-true _ n (simp (ne_eqb w 0 some) at e)

-- ---- a write, by what wins once it is spent

module _ (wins : Position → Bool) (w f : ℕ) where
  write_wins : wins (after_good (position_of Proper w f)) ≡ true
      → (0 < f → wins (after_spoiled (position_of Proper w f)) ≡ true)
      → store_wins wins Write (position_of Proper w f) ≡ true
  unfolding store_wins may_write may_spoil
  write_wins good spoiled =
      by_test (ltb 0 f) (λ may. rw (good, may, spoiled (ltb-true 0 f may))) (λ never. rw (good, never))

  good_loses : wins (after_good (position_of Proper w f)) ≡ false
      → store_wins wins Write (position_of Proper w f) ≡ false
  unfolding store_wins may_write
  good_loses good = rw good

  spoiled_loses : ltb 0 f ≡ true → wins (after_spoiled (position_of Proper w f)) ≡ false
      → store_wins wins Write (position_of Proper w f) ≡ false
  unfolding store_wins may_write may_spoil
  spoiled_loses may spoiled = rw (may, spoiled, and-false)

-- ---- one store, where the theorem is in hand for what is left after it

module _ (n : ℕ) (less : (p : Position) → forces n p ≡ is_enough n p) (w f : ℕ) (some : w ≡ 0 → ⊥) where
  write_begins : needed_stores Proper w f ≤ suc n → store_wins (forces n) Write (position_of Proper w f) ≡ true
  unfolding after_good after_spoiled needed_stores
  write_begins h =
      write_wins (forces n) w f
      (less _ ∙ enough_yes n _ _ _ (omega (arith, some)))
      (λ may. less _ ∙ enough_yes n _ _ _ (omega (arith, some)))

  write_loses : suc n < needed_stores Proper w f → store_wins (forces n) Write (position_of Proper w f) ≡ false
  unfolding after_good after_spoiled needed_stores
  write_loses h =
      by_test (ltb 0 f)
      (λ may.
      let some_left : 0 < f = ltb-true 0 f may in
      spoiled_loses (forces n) w f may (less _ ∙ enough_no n _ _ _ some (omega arith)))
      (λ never.
      let none_left : f ≤ 0 = ltb-false 0 f never in
      good_loses (forces n) w f (less _ ∙ enough_no n _ _ _ (λ e. omega arith) (omega arith)))

  no_write_wins : store_wins (forces n) Write (position_of Improper w f) ≡ false
  unfolding store_wins may_write
  no_write_wins = refl

  skip_wins : (gap : Gap) → needed_stores Proper w f ≤ n
      → store_wins (forces n) SkipReverse (position_of gap w f) ≡ true
  unfolding store_wins after_skip
  skip_wins gap h = less _ ∙ enough_yes n _ _ _ h

  skip_loses : (gap : Gap) → n < needed_stores Proper w f
      → store_wins (forces n) SkipReverse (position_of gap w f) ≡ false
  unfolding store_wins after_skip
  skip_loses gap h = less _ ∙ enough_no n _ _ _ some h

-- ---- by induction over the stores

needs_some : (gap : Gap) (w f : ℕ) → (w ≡ 0 → ⊥) → 0 < needed_stores gap w f
unfolding needed_stores
needs_some Proper w f some = omega (arith, some)
needs_some Improper w f some = omega (arith, some)

-- with one store more, where a write is left to finish
one_more : (n : ℕ) → ((p : Position) → forces n p ≡ is_enough n p) → (gap : Gap) (w f : ℕ) → (w ≡ 0 → ⊥)
    → forces (suc n) (position_of gap w f) ≡ is_enough (suc n) (position_of gap w f)
unfolding forces is_finished needed_stores
one_more n less Proper w f some =
    by_test (leb (needed_stores Proper w f) (suc n))
    (λ yes.
    let h = leb-true (needed_stores Proper w f) (suc n) yes in
    rw (ne_eqb w 0 some, write_begins n less w f some h, enough_yes (suc n) Proper w f h))
    (λ no.
    let h = leb-false (needed_stores Proper w f) (suc n) no in
    rw (
      ne_eqb w 0 some,
      write_loses n less w f some h,
      skip_loses n less w f some Proper (omega arith),
      enough_no
          (suc n) Proper w f some h,
    ))
one_more n less Improper w f some =
    by_test (leb (needed_stores Proper w f) n)
    (λ yes.
    let h = leb-true (needed_stores Proper w f) n yes in
    rw (
      ne_eqb w 0 some,
      no_write_wins n less w f some,
      skip_wins n less w f some Improper h,
      enough_yes
          (suc n) Improper w f (omega arith),
    ))
    (λ no.
    let h = leb-false (needed_stores Proper w f) n no in
    rw (
      ne_eqb w 0 some,
      no_write_wins n less w f some,
      skip_loses n less w f some Improper h,
      enough_no
          (suc n) Improper w f some (omega arith),
    ))

-- the driver forces all exactly where that is so
forces_exactly : (n : ℕ) (p : Position) → forces n p ≡ is_enough n p
unfolding forces is_finished needed_stores
forces_exactly zero p =
    by_test (eqb p.writes 0)
    (λ none. rw none (sym (enough_done 0 p.gap p.writes p.spoilings (eqb-true _ 0 none))))
    (λ some.
    let some' : p.writes ≡ 0 → ⊥ = eqb-false _ 0 some in
    rw some (sym
    (enough_no 0 p.gap p.writes p.spoilings some' (needs_some p.gap p.writes p.spoilings some'))))
forces_exactly (suc n) p =
    by_test (eqb p.writes 0)
    (λ none. rw none (sym (enough_done (suc n) p.gap p.writes p.spoilings (eqb-true _ 0 none))))
    (λ some. one_more n (forces_exactly n) p.gap p.writes p.spoilings (eqb-false _ 0 some))

-- what the code asks: whether a write is left to finish, and whether the stores are enough
pub forces_none : (n : ℕ) (gap : Gap) (w f : ℕ) → w ≡ 0 → forces n (position_of gap w f) ≡ true
forces_none n gap w f none = forces_exactly n _ ∙ enough_done n gap w f none

pub forces_some : (n : ℕ) (gap : Gap) (w f : ℕ) → (w ≡ 0 → ⊥)
    → forces n (position_of gap w f) ≡ leb (needed_stores gap w f) n
unfolding is_enough is_finished
forces_some n gap w f some = forces_exactly n _ ∙ rw (ne_eqb w 0 some)

-- ---- the first store

-- where the driver can force all, and the gap is proper, a write begins a winning play
pub write_first : (n w f : ℕ) → (w ≡ 0 → ⊥) → forces n (position_of Proper w f) ≡ true
    → begins n Write (position_of Proper w f) ≡ true
unfolding begins
write_first zero w f some wins =
    absurd (false≢true
    (sym (enough_no 0 Proper w f some (needs_some Proper w f some)) ∙ sym (forces_exactly 0 _) ∙ wins))
write_first (suc n) w f some wins =
    write_begins n (forces_exactly n) w f some
    (enough_means (suc n) Proper w f some (sym (forces_exactly (suc n) _) ∙ wins))

-- in an improper gap none does
pub no_write_first : (n w f : ℕ) → begins n Write (position_of Improper w f) ≡ false
unfolding begins store_wins may_write
no_write_first zero w f = refl
no_write_first (suc n) w f = refl

-- where he can, and no write begins a winning play, a skip reverse does
pub else_skip_first : (n : ℕ) (p : Position) → is_finished p ≡ false → forces n p ≡ true → begins n Write p ≡ false
    → begins n SkipReverse p ≡ true
unfolding begins forces store_wins
else_skip_first zero p some wins none = absurd (false≢true (sym some ∙ wins))
else_skip_first (suc n) p some wins none = simp (some, none) at wins

-- with a store that begins a winning play he can
pub begun_forces : (n : ℕ) (store : Move) (p : Position) → begins n store p ≡ true → forces n p ≡ true
unfolding begins forces
begun_forces zero store p e = absurd (false≢true e)
begun_forces (suc n) Write p e = rw (e, or-true)
begun_forces (suc n) SkipReverse p e = rw (e, or-true, or-true)

-- ---- the limits

pub within_limits : (w n f : ℕ) → is_above_limit w n f ≡ false → (w ≤ writes_limit) × (f ≤ spoilings_limit)
unfolding is_above_limit
within_limits w n f e =
    by_test (ltb writes_limit w)
    (λ above. absurd (false≢true (sym (rw above at e))))
    (λ writes.
    by_test (ltb spoilings_limit f)
    (λ above. absurd (false≢true (sym (simp (writes, above, or-true) at e))))
    (λ spoilings. (ltb-false writes_limit w writes, ltb-false spoilings_limit f spoilings)))
