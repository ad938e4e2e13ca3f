-- Four of a kind: the one of a number, and all with another one. From 3 on a number is that of the last.
-- Assumes nothing.
use Rattle.std.specs.Prelude.{ℕ, eqb}
use Rattle.common.specs.Pick.{pick}
use Rattle.common.specs.declared.four.Four.{Four}

abbrev pub one_of : {T : Type 0} → Four T → ℕ → T
one_of four number =
    pick (eqb number 0) four.zero
    (pick (eqb number 1) four.one (pick (eqb number 2) four.two four.three))

abbrev pub with_one : {T : Type 0} → Four T → ℕ → T → Four T
with_one four number one =
    pick (eqb number 0) (record { zero = one; one = four.one; two = four.two; three = four.three })
    (pick (eqb number 1) (record { zero = four.zero; one = one; two = four.two; three = four.three })
    (pick (eqb number 2) (record { zero = four.zero; one = four.one; two = one; three = four.three })
    (record { zero = four.zero; one = four.one; two = four.two; three = one })))
