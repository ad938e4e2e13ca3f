-- What the contest program prints for a line: refusal, answer and first store, with a comma between. Each text ends
-- with its #0A. Document 02 gives no format for it (request 12).
-- Assumes nothing.
use Rattle.std.specs.Prelude.{ℕ, List, [], ◌∷◌, ◌++◌, Option, None, Some}
use Rattle.common.specs.Refusals.{done}
use Rattle.contest.specs.declared.contest.Move.{Move}
use Rattle.contest.specs.declared.contest.Move.TheVariants.{Write, SkipReverse}
use Rattle.contest.specs.declared.contest.Question.{Question}
use Rattle.contest.specs.Contest.{Opening}
use Rattle.contest.specs.Told.{Answer}
use Rattle.contest.specs.Told.Answer.{Refused, No, Yes}
use Rattle.contest.specs.Answer.{solve}
use Rattle.text.specs.Characters.{comma, line_feed, none_sign, unreadable_sign}
use Rattle.text.specs.Print.{refusal_text}
use Rattle.contestlines.specs.Characters.{yes_sign, no_sign, write_sign, skip_sign}
use Rattle.contestlines.specs.Line.{question_of}

-- the refusal, 0 where there is none
unfoldable pub refusal_of : Answer → ℕ
refusal_of (Refused refusal) = refusal
refusal_of No = done
refusal_of (Yes first) = done

-- Y or N, and - where refused
unfoldable pub verdict_sign : Answer → ℕ
verdict_sign (Refused refusal) = none_sign
verdict_sign No = no_sign
verdict_sign (Yes first) = yes_sign

-- W or S
unfoldable pub move_sign : Move → ℕ
move_sign Write = write_sign
move_sign SkipReverse = skip_sign

-- and - where there is no store
unfoldable pub store_sign : Opening → ℕ
store_sign None = none_sign
store_sign (Some store) = move_sign store

-- the first store of an answer
unfoldable pub opening_sign : Answer → ℕ
opening_sign (Refused refusal) = none_sign
opening_sign No = none_sign
opening_sign (Yes first) = store_sign first

-- refusal,answer,first
unfoldable pub contest_text : Answer → List ℕ
contest_text answer =
    refusal_text (refusal_of answer) ++ (comma ∷ verdict_sign answer ∷ comma ∷ opening_sign answer ∷ line_feed ∷ [])

-- ?,-,- where the line is unreadable
unfoldable pub contest_unreadable_text : List ℕ
contest_unreadable_text = unreadable_sign ∷ comma ∷ none_sign ∷ comma ∷ none_sign ∷ line_feed ∷ []

-- the text for a question
unfoldable pub question_text : Option Question → List ℕ
question_text None = contest_unreadable_text
question_text (Some q) = contest_text (solve q.gap q.writes q.stores q.spoilings)

-- the text for a line
unfoldable pub contest_line_text : List ℕ → List ℕ
contest_line_text line = question_text (question_of line)
