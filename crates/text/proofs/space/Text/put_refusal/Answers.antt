-- The second digit stands behind the first.
-- Assumes nothing.
use Rattle.std.proofs.Common.{[], ◌∷◌, ◌∙◌}
use Rattle.text.proofs.TextLaws.{after_text, two_digits}
use Rattle.text.proofs.space.Text.put_refusal.Goals as goal

pub returns-clause-text : goal.returns-clause-text
returns-clause-text g c =
    after_text c.args.self.now (c.digit_of-2.result ∷ []) (c.digit_of-3.result ∷ []) c.put-3.ensures c.put-2.ensures
    ∙ simp (c.digit_of-2.ensures, c.digit_of-3.ensures, two_digits c.args.number c.if-number-lt10.false)
