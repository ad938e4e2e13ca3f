-- The check store (document 01, Records): what a data call and a result leave in it, and that check bytes deliver it,
-- in the papers' own words and numbers. The last store carried out, and the drive's report and density, are those of
-- the ledger. Over every list of calls from Fresh.
-- Assumes nothing.
use Rattle.std.specs.Prelude.{◌≡◌, ℕ, ◌+◌, ◌*◌, true, not, List, eqb, take, drop, replicate}
use Rattle.common.specs.Pick.{pick}
use Rattle.operations.specs.declared.store.Store.{Store}
use Rattle.transfers.specs.Data.{Host}
use Rattle.transfers.specs.Results.{Result}
use Rattle.controller.specs.Records.{Answer}
use Rattle.controller.specs.Machine.{Exchange, when_lent}
use Rattle.controller.specs.Lists.{not_refused}
use Rattle.controller.specs.Ledger.{operation_of, Tape, Ledger, tape_now, Each, count_asked}
use Rattle.controller.specs.Shown.{order_of_store, tape_gone, count_passed, image_used, words_renewed}
use Rattle.controller.specs.OnTape.{rounded_up, image_on_tape}
use Rattle.controller.specs.Delivered.{Given}
use Rattle.controller.specs.Recorded.{bytes_sent}

-- "check store then takes both check blockettes, or zeros for c = 0": of an image, what stands behind its data
-- blockettes
unfoldable pub checks_behind : List ℕ → ℕ → List ℕ
checks_behind image c = pick (eqb c 0) (replicate 512 0) (take 512 (drop (2 + 256 * rounded_up c) image))

-- "at a GCR data call, .. check store .. zeroed first; check store then takes both check blockettes": of the image that
-- is written
unfoldable pub checks_written : Store → Tape → Host → List ℕ → List ℕ
checks_written store t host check =
    pick (not (eqb t.density 0)) (checks_behind (image_on_tape (bytes_sent store host) t.density) (count_asked store))
    check

-- "For a GCR read or forward skip": of the image that came, and zeros where it goes unused; by the drive's report and
-- density
unfoldable pub checks_read : ℕ → ℕ → ℕ → ℕ → Result → List ℕ → List ℕ
checks_read order count told density r check =
    pick (words_renewed order density)
    (pick (image_used (tape_gone order told) r.image)
    (checks_behind r.image (count_passed order count r.image)) (replicate 512 0))
    check

-- "4, by first operand byte: .. 40 send check bytes"; "Check bytes deliver the 512 of the check store."
pub record ResultChecks (l : Ledger) (r : Result) (space check : List ℕ) (answer : Answer) : Type 0 where
  pub left :
      answer.check
      ≡ checks_read (order_of_store l.store) (count_asked l.store) (tape_now l).report (tape_now l).density r check
  pub delivered : operation_of l.store ≡ 4 → l.store.first ≡ 0x40 → Given check space answer

-- of each data call and each result that is not refused
abbrev pub ChecksAt : Ledger → Exchange → Type 0
ChecksAt l x =
    not_refused x ≡ true
    → when_lent (λ host space check. x.answer.check ≡ checks_written l.store (tape_now l) host check)
    (λ r space check. ResultChecks l r space check x.answer) Unit x.call

abbrev pub ChecksAreKept : List Exchange → Type 0
ChecksAreKept = Each ChecksAt
