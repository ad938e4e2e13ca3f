-- `blockettes::xor` meets its contract. After i turns the first i bytes are those of the XOR and the rest stands as it
-- was.
-- Assumes nothing.
use mathlib.Core.Path.{ap, sym, ◌∙◌}
use Prim.Native.Nat.{◌≤◌, ◌<◌, min}
use lib.Bits.{bit_xor}
use lib.ListN.{length, get_or, take-append-drop}
use native.Mathlib.Omega.{arith}
use Rattle.common.proofs.Written.{written_more, written_next}
use Rattle.blockettes.specs.Xor.{◌⊕◌}
use Rattle.blockettes.proofs.XorLaws.{⊕-at, ⊕-length, ⊕-rest}
use Rattle.blockettes.proofs.xor.Goals as goal

pub loop-i-preserved : goal.loop-i-preserved
loop-i-preserved c =
    let l = c.loop-i in
    let a = c.args in
    let s = c.args.into.now in
    let f = c.args.from.now in
    let in_s : l.i < length s = omega arith in
    let in_f : l.i < length f = omega arith in
    let in_t : l.i < length (s ⊕ f) = simp ⊕-length in_s in
    rw l.invariant
    (written_more s (s ⊕ f) l.i 0 _
    (⊕-at s f l.i in_s in_f
    ∙ ap (λ x. bit_xor x (get_or f l.i 0)) (sym (written_next s (s ⊕ f) l.i 0 in_t in_s))) in_t in_s)

pub returns : goal.returns
returns c =
    let l = c.loop-i in
    let a = c.args in
    let s = c.args.into.now in
    let f = c.args.from.now in
    let done : min (length s) (length f) ≤ l.i = omega arith in
    rw (l.invariant, ← ⊕-rest s f l.i done) (take-append-drop l.i (s ⊕ f))
