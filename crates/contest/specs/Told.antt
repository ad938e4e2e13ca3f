-- The answer to a question of the contest as the definitions have it, by the manual's number of a refusal.
-- Assumes nothing.
use Rattle.std.specs.Prelude.{ℕ, Result, Ok, Err}
use Rattle.common.specs.declared.refusals.Refusal.{Refusal}
use Rattle.common.specs.Told.{number_of}
use Rattle.contest.specs.Contest.{Opening}
use Rattle.contest.specs.declared.contest.Verdict.{Verdict}
use Rattle.contest.specs.declared.contest.Verdict.TheVariants as verdict

-- refused, with its number; or whether the driver can force all writes
pub data Answer : Type 0 where
  Refused : ℕ → Answer
  No : Answer
  Yes : Opening → Answer

abbrev pub told_verdict : Verdict → Answer
told_verdict verdict.No = No
told_verdict (verdict.Yes first) = Yes first

-- what a question is answered
abbrev pub told : Result Verdict Refusal → Answer
told (Ok verdict) = told_verdict verdict
told (Err refusal) = Refused (number_of refusal)
