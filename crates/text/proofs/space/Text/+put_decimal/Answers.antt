-- The last digit stands behind the others.
-- Assumes nothing.
use Rattle.std.proofs.Common.{[], ◌∷◌, ◌∙◌}
use Rattle.text.proofs.TextLaws.{after_text, decimal_more}
use Rattle.text.proofs.space.Text.+put_decimal.Goals as goal

pub returns-clause-text : goal.returns-clause-text
returns-clause-text g t c =
    after_text c.args.self.now _ (c.digit_of-ones.result ∷ []) c.put-2.ensures c.put_decimal.ensures.text
    ∙ simp (c.digit_of-ones.ensures, decimal_more _ _ c.if-most-eq0.false c.if-n-lt10.false)
