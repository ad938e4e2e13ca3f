-- What the jobs program prints for a line. No paper has this text (`docs/JOBS.md`): to the session program's four
-- fields, refusal, action, its bytes, bytes delivered or image, it adds the record handed back (document 02, request 4)
-- as CC:M:N, the code in two hexadecimal digits, motion and count in decimal, or - for none; an unreadable line prints
-- ?,-,,,-. Each text ends with its #0A.
-- Assumes nothing.
use Rattle.std.specs.Prelude.{ℕ, List, [], ◌∷◌, ◌++◌, None, Some, Result, Ok, Err}
use Rattle.common.specs.declared.refusals.Refusal.{Refusal}
use Rattle.controller.specs.declared.controller.Answer.{Answer}
use Rattle.text.specs.Characters.{comma, line_feed, none_sign, unreadable_sign}
use Rattle.text.specs.Print.{bytes_text, record_text}
use Rattle.link.specs.declared.state.Action.{Action}
use Rattle.link.specs.State.{Handed}
use Rattle.lines.specs.Print.{head_text}

-- the record that a call's answer hands back
abbrev pub handed_of : Result Answer Refusal → Handed
handed_of (Ok a) = a.handed
handed_of (Err e) = None

-- and as CC:M:N, or -
unfoldable pub handed_text : Handed → List ℕ
handed_text None = none_sign ∷ []
handed_text (Some r) = record_text r.code r.motion r.count

-- refusal, action, its bytes, bytes delivered or image, and the record handed back
unfoldable pub job_answer_text : ℕ → Action → List ℕ → Handed → List ℕ
job_answer_text refusal action bytes handed =
    head_text refusal action ++ (bytes_text bytes ++ (comma ∷ (handed_text handed ++ (line_feed ∷ []))))

-- the same of a call that gives no bytes
abbrev pub job_reply_text : ℕ → Action → Handed → List ℕ
job_reply_text refusal action handed = job_answer_text refusal action [] handed

-- an unreadable line: ?,-,,,-
unfoldable pub job_unreadable_text : List ℕ
job_unreadable_text = unreadable_sign ∷ comma ∷ none_sign ∷ comma ∷ comma ∷ comma ∷ none_sign ∷ line_feed ∷ []
