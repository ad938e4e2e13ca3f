-- The measure is the number of digits that are left.
-- Assumes nothing.
use Rattle.text.proofs.space.Text.+put_decimal.Given as goal

abbrev pub decreases-put_decimal : goal.decreases-put_decimal
decreases-put_decimal g l = l.most
