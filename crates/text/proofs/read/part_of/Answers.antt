-- The first sign ends the part.
-- Assumes nothing.
use Rattle.std.proofs.Common.{◌≡◌, ℕ, ◌+◌, ◌-◌, ◌≤◌, length, take, drop, sym, ap, ◌∙◌, arith}
use lib.ListN.{drop_of_length-le, length-drop}
use lib.Seq.{take_all}
use Rattle.text.specs.Fields.{part_end}
use Rattle.text.proofs.FieldLaws.{part_front}
use Rattle.text.proofs.ReadLaws.{first_end, no_end}
use Rattle.text.proofs.read.part_of.Goals as goal

ends : (c : goal.After-result-1) → part_end c.args.sign c.args.s.now ≡ c.in-Some.end
ends c = let h = c.in-Some.ensures in
    first_end c.args.sign c.args.s.now c.in-Some.end h.0.high (λ i before. h.0.before i (omega arith) before) h.1

pub returns-in-Some-clause-before : goal.returns-in-Some-clause-before
returns-in-Some-clause-before c =
    rw (sym (ends c)) (part_front c.args.sign c.args.s.now)

pub returns-in-Some-clause-behind : goal.returns-in-Some-clause-behind
returns-in-Some-clause-behind c =
    let s = c.args.s.now in
    let end = c.in-Some.end in
    take_all (length s - (end + 1)) (drop (end + 1) s) (simp length-drop (omega arith))
    ∙ ap (λ (n : ℕ). drop (n + 1) s) (sym (ends c))

never : (c : goal.After-result-in-None-1) → part_end c.args.sign c.args.s.now ≡ length c.args.s.now
never c = no_end c.args.sign c.args.s.now (λ i within. c.in-None.ensures i (omega arith) within)

pub returns-in-None-clause-before : goal.returns-in-None-clause-before
returns-in-None-clause-before c =
    let s = c.args.s.now in
    sym (take_all (length s) s (omega arith)) ∙ ap (λ (n : ℕ). take n s) (sym (never c)) ∙ part_front c.args.sign s

pub returns-in-None-clause-behind : goal.returns-in-None-clause-behind
returns-in-None-clause-behind c =
    let s = c.args.s.now in
    let over : length s ≤ part_end c.args.sign s + 1 = omega (arith, never c) in
    take_all _ (drop (length s) s) (simp length-drop (omega arith))
    ∙ drop_of_length-le s (omega arith) ∙ sym (drop_of_length-le s over)
