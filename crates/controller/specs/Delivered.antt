-- What a read delivers (document 01, Records; document 02, request 1), of the image and the marks that are handed in,
-- in the papers' own words and numbers. The last store carried out, and the drive's report and density, are those of
-- the ledger. Over every list of calls from Fresh.
-- Assumes nothing.
use Rattle.std.specs.Prelude.{◌≡◌, ℕ, ◌+◌, ◌*◌, ◌/◌, ◌%◌, ◌≤◌, min, true, List, [], ◌∷◌, ◌++◌, ltb, length, take, drop}
use Rattle.std.specs.Prelude.{replicate}
use Rattle.operations.specs.declared.store.Store.{Store}
use Rattle.status.specs.declared.words.Outcome.{Outcome}
use Rattle.transfers.specs.Results.{Result}
use Rattle.controller.specs.Records.{Answer}
use Rattle.controller.specs.Machine.{Exchange, when_lent}
use Rattle.controller.specs.Lists.{not_refused}
use Rattle.controller.specs.Ledger.{count_asked, operation_of, Tape, Ledger, tape_now, Each}
use Rattle.controller.specs.OnTape.{count_on_tape, rounded_up, body_on_tape, image_on_tape}
use Rattle.controller.specs.Marked.{IsBad, NoneBad, AtMostOne, StopsAt}

-- ---- the bytes that are given

-- bits 16-22 and the record of code, motion and count, as an answer leaves them
abbrev pub outcome_left : Answer → Outcome
outcome_left answer = answer.reply.controller.body.outcome

-- "Host space too short: as many as fit, bit 17."; "the rest of the lent space keeps its bytes"
pub record Given (bytes space : List ℕ) (answer : Answer) : Type 0 where
  pub number : answer.bytes ≡ min (length bytes) (length space)
  pub there : answer.space ≡ take (length space) bytes ++ drop (length bytes) space
  pub bit17 : (outcome_left answer).overflow ≡ ltb (length space) (length bytes)

-- "Used images .. set bit 22 and secondary = c.", with this final code
pub record Delivered (bytes space : List ℕ) (c code : ℕ) (answer : Answer) : Type 0 where
  pub given : Given bytes space answer
  pub bit22 : (outcome_left answer).counted ≡ true
  pub secondary : (outcome_left answer).result.count ≡ c
  pub final : (outcome_left answer).result.code ≡ code

-- ---- by the marks

-- "A read delivers c bytes as the image has them", behind its count; "for 16, the lesser of c and 256 for each data
-- blockette before the stop". "None: no change. At most one of each parity: code 15, in place of 0, 10, 11 or 12. Else
-- 16". `shown` is how the bytes are shown.
pub record ByMarks (shown : List ℕ → List ℕ) (marks image space : List ℕ) (c code : ℕ) (answer : Answer) : Type 0 where
  pub long : 2 + c ≤ length image
  pub good : NoneBad marks → Delivered (shown (take c (drop 2 image))) space c code answer
  pub mended : (place : ℕ) → IsBad marks place → AtMostOne marks
      → Delivered (shown (take c (drop 2 image))) space c 0x15 answer
  pub stopped : (stop : ℕ) → StopsAt marks stop
      → Delivered (shown (take (min c (256 * min stop (rounded_up c))) (drop 2 image))) space c 0x16 answer

-- ---- a read

-- "installed 32"
abbrev pub Installed : Tape → Type 0
Installed t = t.report / 32 % 2 ≡ 1

-- Of any image, by the count that its first two bytes say; of one that holds bytes in the drive's density, nothing
-- being marked bad, those bytes. Without an image nothing is given, nor where no tape is there: "mark and image go
-- unused".
pub record ReadDelivers (t : Tape) (r : Result) (space : List ℕ) (answer : Answer) : Type 0 where
  pub nothing : length r.image ≡ 0 → Given [] space answer
  pub gone : t.report / 32 % 2 ≡ 0 → Given [] space answer
  pub marked : Installed t → (c : ℕ) → c ≤ 65535 → take 2 r.image ≡ count_on_tape c
      → ByMarks (λ bytes. bytes) r.marks r.image space c r.code answer
  pub held : Installed t → (bytes : List ℕ) → length bytes ≤ 65535 → r.image ≡ image_on_tape bytes t.density
      → NoneBad r.marks → Delivered bytes space (length bytes) r.code answer

-- ---- a read with a supplied count (document 02, request 1)

-- "its bytes are delivered as zeros": those of the first blockette
abbrev pub first_as_zeros : List ℕ → List ℕ
first_as_zeros bytes = replicate (min (length bytes) 256) 0 ++ drop 256 bytes

-- "The first blockette counts as a data error with mark 0, whichever legal mark came for it"
abbrev pub first_as_error : List ℕ → List ℕ
first_as_error marks = 0 ∷ drop 1 marks

-- "the image's own count is not looked at"; "A result sets bits 21 and 22 and makes secondary the count exactly if that
-- is nonzero"
pub record SuppliedDelivers (store : Store) (t : Tape) (r : Result) (space : List ℕ) (answer : Answer) : Type 0 where
  pub nothing : length r.image ≡ 0 → Given [] space answer
  pub gone : t.report / 32 % 2 ≡ 0 → Given [] space answer
  pub bit21 : (count_asked store ≡ 0 → ⊥) → (outcome_left answer).supplied ≡ true
  pub marked : Installed t → (length r.image ≡ 0 → ⊥)
      → ByMarks first_as_zeros (first_as_error r.marks) r.image space (count_asked store) r.code answer
  pub held : Installed t → (bytes : List ℕ) → (length bytes ≡ 0 → ⊥) → length bytes ≡ count_asked store
      → drop 2 r.image ≡ body_on_tape bytes 1
      → NoneBad (drop 1 r.marks) → Delivered (first_as_zeros bytes) space (length bytes) 0x15 answer

-- ---- over a list

-- a result belongs to the last store carried out: "4, by first operand byte: 00 read"; "a store to operation 4 with
-- first operand byte 80" (document 02, request 1)
pub record ResultDelivers (l : Ledger) (r : Result) (space : List ℕ) (answer : Answer) : Type 0 where
  pub read : operation_of l.store ≡ 4 → l.store.first ≡ 0x00 → ReadDelivers (tape_now l) r space answer
  pub supplied : operation_of l.store ≡ 4 → l.store.first ≡ 0x80
      → SuppliedDelivers l.store (tape_now l) r space answer

-- of each result that is not refused
abbrev pub DeliversAt : Ledger → Exchange → Type 0
DeliversAt l x =
    not_refused x ≡ true
    → when_lent (λ host space check. Unit) (λ r space check. ResultDelivers l r space x.answer) Unit x.call

abbrev pub ReadsDeliver : List Exchange → Type 0
ReadsDeliver = Each DeliversAt
