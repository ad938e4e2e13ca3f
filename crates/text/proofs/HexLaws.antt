-- Digits that were read as a string of bytes are known by the text that they lie in.
-- Assumes nothing.
use Rattle.std.proofs.Common.{◌≡◌, ◌≤◌, ◌*◌, ℕ, List, length, Option, Some, None, IfSome, refl, Bor}
use mathlib.Core.Path.{sym, ap, ◌∙◌, subst}
use Rattle.std.proofs.Math.Bridge.{le_prop}
use Rattle.text.specs.declared.read.Hex.{Hex}
use Rattle.text.specs.Hex.{hex_read}

hex_of : {most : ℕ} (text : Bor (List ℕ)) → length text.now ≤ 2 * most → Hex most
hex_of text within = record { digits = text; fits = within }

-- digits that lie in the same text are the same
pub hex_same : {most : ℕ} (a b : Hex most) → a.digits ≡ b.digits → a ≡ b
unfolding hex_of
hex_same {most = most} a b same =
    subst (λ (text : Bor (List ℕ)). (within : length text.now ≤ 2 * most) → a ≡ hex_of {most = most} text within) same
    (λ within. ap (hex_of {most = most} a.digits) (le_prop a.fits within)) b.fits

-- so what two reads of one field find is the same
pub read_same : {most : ℕ} (field : Bor (List ℕ)) (one another : Option (Hex most)) → hex_read one ≡ hex_read another
    → IfSome one (λ h. h.digits ≡ field)
    → IfSome another (λ h. h.digits ≡ field)
    → one ≡ another
read_same field None None bytes first second = refl
read_same field None (Some b) bytes first second = cc bytes
read_same field (Some a) None bytes first second = cc bytes
read_same field (Some a) (Some b) bytes first second = ap Some (hex_same a b (first ∙ sym second))
