-- An answer that is written and read back is the answer.
-- Assumes nothing.
use mathlib.Core.Path.{◌≡◌, refl, sym, ap, ◌∙◌}
use Prim.Native.Nat.{ℕ, ◌+◌, ◌*◌, ◌/◌, ◌%◌, ◌≤◌}
use native.Mathlib.Omega.{arith}
use Rattle.common.specs.Pick.{pick}
use Rattle.link.specs.declared.state.Action.{Action}
use Rattle.link.specs.declared.state.Action.TheVariants.{Nothing, Byte, Text, Order}
use Rattle.link.specs.State.{Handed}
use Rattle.std.specs.Prelude.{None, Some}
use Rattle.layout.specs.Answers.{action_kind, action_frame, is_settled, settled_record, answer_bytes, action_of}
use Rattle.layout.specs.Answers.{handed_of, given_of}
use Rattle.layout.specs.Fitting.{AnswerFits}
use Rattle.layout.proofs.RoundTrip.{count_round}

pub action_round : (a : Action) (h : Handed) (n : ℕ) → action_of (answer_bytes a h n) ≡ a
unfolding action_of answer_bytes action_kind action_frame pick
action_round Nothing h n = refl
action_round (Byte byte) h n = refl
action_round (Text frame) h n = refl
action_round (Order frame) h n = refl

pub handed_round : (a : Action) (h : Handed) (n : ℕ) → (settled_record h).count ≤ 65535
    → handed_of (answer_bytes a h n) ≡ h
unfolding handed_of answer_bytes is_settled settled_record pick
handed_round a None n fits = refl
handed_round a (Some result) n fits =
    ap (λ (k : ℕ). Some (record { code = result.code; motion = result.motion; count = k }))
    (count_round result.count fits)

four_round : (n : ℕ) → n ≤ 4294967295
    → (n / 16777216 % 256 * 256 + n / 65536 % 256) * 65536 + (n / 256 % 256 * 256 + n % 256) ≡ n
four_round n h =
    let high : n / 16777216 ≡ n / 65536 / 256 = omega arith in
    let low : n / 256 % 256 * 256 + n % 256 ≡ n % 65536 = omega arith in
    rw (high, low, count_round (n / 65536) (omega arith)) (omega arith)

pub given_round : (a : Action) (h : Handed) (n : ℕ) → n ≤ 4294967295 → given_of (answer_bytes a h n) ≡ n
unfolding given_of answer_bytes
given_round a h n fits = four_round n fits

-- two answers with the same bytes are the same
pub record Same (a b : Action) (g h : Handed) (m n : ℕ) : Type 0 where
  pub action : a ≡ b
  pub handed : g ≡ h
  pub given : m ≡ n

pub answer_bytes_tell : (a b : Action) (g h : Handed) (m n : ℕ) → AnswerFits g m → AnswerFits h n
    → answer_bytes a g m ≡ answer_bytes b h n → Same a b g h m n
answer_bytes_tell a b g h m n f k same =
    record {
      action = sym (action_round a g m) ∙ ap action_of same ∙ action_round b h n;
      handed = sym (handed_round a g m f.count) ∙ ap handed_of same ∙ handed_round b h n k.count;
      given = sym (given_round a g m f.bytes) ∙ ap given_of same ∙ given_round b h n k.bytes;
    }
