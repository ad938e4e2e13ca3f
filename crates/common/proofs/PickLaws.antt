-- Laws of tests and of `pick`: by its test, over a list of refusals, and of what a call leaves.
-- Assumes nothing.
use mathlib.Core.Path.{◌≡◌, refl}
use Prim.Native.Nat.{ℕ}
use mathlib.Core.Bool.{Bool, true, false, ◌&&◌, ◌||◌, false≢true}
use lib.Dec.{eqb}
use borrow.Author.Tests.{eq-eqb, ne_eqb}
use Rattle.common.specs.Pick.{pick}

-- ---- tests

-- a claim, from the case that a test holds and the case that it fails
pub by_test : {A : Type 0} (t : Bool) → (t ≡ true → A) → (t ≡ false → A) → A
by_test true holds fails = holds refl
by_test false holds fails = fails refl

-- what follows from either of two tests, one of which holds
pub by_either : {P : Type 0} (a b : Bool) → (a ≡ true → P) → (b ≡ true → P) → (a || b) ≡ true → P
by_either true b f g e = f refl
by_either false b f g e = g e

-- two tests that hold together
pub both_hold : (a b : Bool) → (a && b) ≡ true → (a ≡ true) × (b ≡ true)
both_hold true b e = (refl, e)
both_hold false b e = absurd (false≢true e)

-- ---- by the test

-- a test that holds, and one that fails
pub pick_yes : {A : Type 0} {b : Bool} (x y : A) → b ≡ true → pick b x y ≡ x
unfolding pick
pick_yes x y e = rw e

pub pick_no : {A : Type 0} {b : Bool} (x y : A) → b ≡ false → pick b x y ≡ y
unfolding pick
pick_no x y e = rw e

-- a choice between the same
pub pick_both : {A : Type 0} (b : Bool) (x : A) → pick b x x ≡ x
unfolding pick
pick_both true x = refl
pick_both false x = refl

-- choices that differ only where the test fails
pub pick_same : {A : Type 0} (b : Bool) (z x y : A) → (b ≡ false → x ≡ y) → pick b z x ≡ pick b z y
unfolding pick
pick_same true z x y same = refl
pick_same false z x y same = same refl

-- a claim of a choice, from the claim where the test holds and the claim where it fails
pub pick_by : {A : Type 0} (P : A → Type 0) (b : Bool) {x y : A} → (b ≡ true → P x) → (b ≡ false → P y) → P (pick b x y)
unfolding pick
pick_by P true f g = f refl
pick_by P false f g = g refl

-- ---- a list of refusals that gives 0

-- a test that would have refused did not hold, and the tests after it give 0
pub not_refused_lem : (test : Bool) (refusal rest : ℕ) → (refusal ≡ 0 → ⊥) → pick test refusal rest ≡ 0
    → (test ≡ false) × (rest ≡ 0)
unfolding pick
not_refused_lem true refusal rest some e = absurd (some e)
not_refused_lem false refusal rest some e = (refl, e)

-- the last test, which passes
pub passed : (test : Bool) (refusal : ℕ) → (refusal ≡ 0 → ⊥) → pick test 0 refusal ≡ 0 → test ≡ true
unfolding pick
passed true refusal some e = refl
passed false refusal some e = absurd (some e)

-- ---- what a call leaves

-- where it is refused
pub where_refused : {A : Type 0} (refusal : ℕ) (done kept : A) → (refusal ≡ 0 → ⊥)
    → pick (eqb refusal 0) done kept ≡ kept
where_refused refusal done kept some = pick_no done kept (ne_eqb refusal 0 some)

-- where it is carried out
pub where_done : {A : Type 0} (refusal : ℕ) (done kept : A) → refusal ≡ 0 → pick (eqb refusal 0) done kept ≡ done
where_done refusal done kept e = pick_yes done kept (eq-eqb refusal 0 e)
