-- The check store holds the check blockettes of the last GCR transfer, and check bytes deliver it (`checks_are_kept`,
-- over the definitions).
-- Assumes nothing.
use mathlib.Core.Path.{◌≡◌, refl, sym, ap, ap₂, subst, ◌∙◌}
use Prim.Native.Nat.{ℕ}
use mathlib.Core.Bool.{Bool, true, false, not}
use mathlib.Core.List.{List}
use lib.Dec.{eqb}
use lib.ListN.{replicate}
use Rattle.common.specs.Pick.{pick}
use Rattle.records.specs.Image.{blockette_count}
use Rattle.status.specs.declared.drives.Drive.{Drive}
use Rattle.status.specs.Drives.{copy_report}
use Rattle.operations.specs.declared.operation.Operation.{Operation}
use Rattle.operations.specs.declared.operation.Operation.TheVariants.{CheckBytes}
use Rattle.operations.specs.declared.decode.Decoded.TheVariants.{Operate}
use Rattle.operations.specs.declared.store.Store.{Store}
use Rattle.operations.specs.Decode.{read_of, decode_of}
use Rattle.operations.specs.Operation.{order_byte}
use Rattle.operations.specs.Store.{asked_for, held_count}
use Rattle.link.specs.declared.state.Body.{Body}
use Rattle.link.specs.State.{current_drive}
use Rattle.transfers.specs.Results.{Verdict}
use Rattle.transfers.specs.Data.{Host, write_image, check_bytes}
use Rattle.transfers.specs.Results.{Result, delivered_bytes, bytes_read, result_check}
use Rattle.controller.specs.Records.{data_done, result_done}
use Rattle.controller.specs.Controller.{fresh}
use Rattle.controller.specs.Machine.{Call, run}
use Rattle.controller.specs.Ledger.{operation_of, Ledger, tape_now, count_asked}
use Rattle.controller.specs.Shown.{tape_gone, count_passed, image_used, words_renewed}
use Rattle.controller.specs.OnTape.{image_on_tape}
use Rattle.controller.specs.Delivered.{Given}
use Rattle.controller.specs.Recorded.{bytes_sent}
use Rattle.controller.specs.CheckStore.{checks_behind, checks_written, checks_read, ResultChecks, ChecksAreKept}
use Rattle.controller.proofs.DrivesAreALedger.{told}
use Rattle.controller.proofs.EachCall.{current_is, at_transfers}
use Rattle.controller.proofs.WritesRecord.{recorded_is}
use Rattle.controller.proofs.ReadsDeliver.{given_is, operate_same}
use Rattle.controller.proofs.StatusIsALedger.Beginning.{order_said}
use Rattle.controller.proofs.StatusIsALedger.Ending.{said, verdict_said}

checks_said : (image : List ℕ) (c : ℕ) → check_bytes image c ≡ checks_behind image c
unfolding check_bytes checks_behind blockette_count
checks_said image c = refl

-- ---- a data call

data_checks :
    (l : Ledger) (b : Body) (held : Store) (host : Host) (space check : List ℕ)
    → copy_report (current_drive b) ≡ told (tape_now l)
    → held ≡ l.store
    → (data_done b (current_drive b) held host space check).check ≡ checks_written l.store (tape_now l) host check
unfolding data_done checks_written held_count
data_checks l b held host space check current same =
    let density = (current_drive b).density in
    ap (λ (image : List ℕ). pick (not (eqb density 0)) image check)
    (checks_said (write_image held host density) (held_count held)
    ∙ ap (λ (image : List ℕ). checks_behind image (count_asked held)) (sym (recorded_is held host density)))
    ∙ ap₂
    (λ (s : Store) (n : ℕ). pick (not (eqb n 0)) (checks_behind (image_on_tape (bytes_sent s host) n) (count_asked s))
    check)
    same (ap (λ (d : Drive). d.density) current)

-- ---- a result

-- a count that is told where the image is used alone
chosen : (used : Bool) (image : List ℕ) (c : ℕ) (zeros : List ℕ)
    → pick used (check_bytes image (pick used c 0)) zeros ≡ pick used (checks_behind image c) zeros
unfolding pick
chosen true image c zeros = checks_said image c
chosen false image c zeros = refl

module _ (drive : Drive) (operation : Operation) (held : Store) (r : Result) (check : List ℕ) where
  result_checks : result_check (said drive operation held r) r.image check
      ≡ checks_read (order_byte operation) (held_count held) drive.report drive.density r check
  unfolding result_check checks_read
  result_checks =
      ap (λ (l : List ℕ). pick (words_renewed (order_byte operation) drive.density) l check)
      (chosen (image_used (tape_gone (order_byte operation) drive.report) r.image) r.image
      (count_passed (order_byte operation) (held_count held) r.image) (replicate 512 0))

-- a store to operation 4 asks for check bytes by its first operand byte
asks_checks : (store : Store) (operation : Operation) → asked_for store ≡ Operate operation → operation_of store ≡ 4
    → store.first ≡ 0x40 → operation ≡ CheckBytes
unfolding asked_for decode_of read_of pick
asks_checks store operation asks four checks =
    operate_same operation CheckBytes
    (sym asks ∙ ap₂ (λ (o f : ℕ). decode_of o f store.fourth) four checks)

results_checks :
    (l : Ledger) (b : Body) (operation : Operation) (held : Store) (r : Result) (space check : List ℕ)
    → copy_report (current_drive b) ≡ told (tape_now l)
    → asked_for l.store ≡ Operate operation
    → held ≡ l.store
    → b.outcome.overflow ≡ false
    → ResultChecks l r space check (result_done b (current_drive b) operation held r space check)
unfolding result_done held_count delivered_bytes bytes_read pick
results_checks l b operation held r space check current asks same clear =
    let drive = current_drive b in
    record {
      left =
          ap (λ (v : Verdict). result_check v r.image check) (verdict_said drive operation held r)
          ∙ result_checks drive operation held r check
          ∙ ap₂
          (λ (n d : ℕ). checks_read (order_byte operation) (count_asked held) n d r check)
          (ap (λ (x : Drive). x.report) current) (ap (λ (x : Drive). x.density) current)
          ∙ ap₂
          (λ (order : ℕ) (s : Store). checks_read order (count_asked s)
          (tape_now l).report (tape_now l).density r check)
          (sym (order_said l.store operation asks)) same;
      delivered = λ four checks.
          let is = sym (asks_checks l.store operation asks four checks) in
          subst (λ (o : Operation). Given check space (result_done b drive o held r space check)) is
          (given_is b CheckBytes held r space check refl clear check refl);
    }

-- ---- over every list

pub checks_are_kept : (calls : List Call) → ChecksAreKept (run fresh calls)
checks_are_kept =
    at_transfers (λ l answer host space check. answer.check ≡ checks_written l.store (tape_now l) host check)
    (λ l answer r space check. ResultChecks l r space check answer)
    (λ l b held host space check agrees same good. data_checks l b held host space check (current_is l b agrees) same)
    (λ l b operation held r space check agrees asks same clear good.
    results_checks l b operation held r space check (current_is l b agrees) asks same clear)
