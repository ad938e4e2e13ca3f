-- The number so far, digit by digit.
-- Assumes nothing.
use Rattle.std.proofs.Common.{◌≡◌, ℕ, ◌≤◌, min, refl, sym, ◌∙◌, arith}
use lib.ListN.{drop_of_length-le, get_or}
use Rattle.text.specs.Limits.{field_cap}
use Rattle.text.specs.Digits.{digit_value, is_digit, all_digits, decimal_from, decimal_of}
use Rattle.text.proofs.DigitLaws.{decimal_next}
use Rattle.text.proofs.ReadLaws.{digit_passes, digit_stops, told_none, told_some}
use Rattle.text.proofs.read.capped_decimal.Goals as goal

uncut : (value : ℕ) → value ≤ field_cap → value ≡ min value field_cap
uncut value h = omega arith

pub loop-d-init : goal.loop-d-init
unfolding decimal_of
loop-d-init c = (omega arith, refl, refl)

pub returns-in_err-digit_of : goal.returns-in_err-digit_of
returns-in_err-digit_of c =
    let l = c.loop-d in
    let s = c.args.s.now in
    let bad = told_none (is_digit 10 (get_or s l.d-index 0)) _ c.in_err-digit_of.ensures.value in
    let none = sym l.invariant.1 ∙ digit_stops 10 s l.d-index c.loop-d-test.true bad in
    rw none c.from_residual.ensures

pub loop-d-preserved : goal.loop-d-preserved
loop-d-preserved c =
    let l = c.loop-d in
    let s = c.args.s.now in
    let d = get_or s l.d-index 0 in
    let good = told_some (is_digit 10 d) (digit_value d) _ c.in_ok-digit_of.ensures.value in (
      omega (arith, c.min-value.ensures),
      digit_passes 10 s l.d-index c.loop-d-test.true good.0 ∙ l.invariant.1,
      rw (c.min-value.ensures, good.1) (decimal_next s l.d-index l.value c.loop-d-test.true) ∙ l.invariant.2,
    )

pub returns : goal.returns
unfolding decimal_from all_digits
returns c =
    let l = c.loop-d in
    let none = drop_of_length-le c.args.s.now c.loop-d-test.false in
    let all = rw none at l.invariant.1 in
    let number = uncut l.value l.invariant.0 ∙ (rw none at l.invariant.2) in
    rw (sym all, sym number) refl
