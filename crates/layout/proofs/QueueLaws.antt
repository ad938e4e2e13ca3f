-- The queues that are read from a state's bytes have the bytes that stand there.
-- Assumes nothing.
use mathlib.Core.Path.{◌≡◌, sym, ap, ◌∙◌}
use Prim.Native.Nat.{ℕ, zero, suc, ◌+◌, ◌≤◌}
use native.Mathlib.Omega.{arith}
use mathlib.Core.List.{List, [], ◌∷◌, ◌++◌, append_assoc}
use lib.ListN.{length, length-append, drop, drop_of_length-le}
use lib.Seq.{drop-cons}
use Rattle.controller.specs.declared.controller.Controller.{Controller}
use Rattle.layout.specs.Reading.{byte_at, queue_at, queues_of}
use Rattle.layout.specs.Writing.{head_bytes, phase_bytes, queue_bytes, state_bytes, controller_bytes}
use Rattle.layout.proofs.PlacedLaws.{Front}
use Rattle.layout.proofs.Lengths.{head_length_lem, phase_length_lem}

-- so many bytes from a place on, one by one
abbrev bytes_from : ℕ → ℕ → List ℕ → List ℕ
bytes_from zero place s = []
bytes_from (suc n) place s = byte_at s place ∷ bytes_from n (suc place) s

rest_is : (n place : ℕ) (s : List ℕ) → length s ≡ place + n → drop place s ≡ bytes_from n place s
rest_is zero place s long = let end : length s ≤ place = omega arith in drop_of_length-le s end
rest_is (suc n) place s long =
    drop-cons s place 0 (omega arith)
    ∙ ap (λ (x : List ℕ). byte_at s place ∷ x) (rest_is n (suc place) s (omega arith))

queues_stand : (s : List ℕ) → length s ≡ 224
    → drop 59 s
    ≡ queue_bytes (queue_at s 59)
    ++ (queue_bytes (queue_at s 100)
    ++ (queue_bytes (queue_at s 141) ++ (queue_bytes (queue_at s 182) ++ (byte_at s 223 ∷ []))))
unfolding queue_bytes queue_at
queues_stand s long = rest_is 165 59 s long

-- a controller's bytes before them
pub queues_stay : (c : Controller) (s : List ℕ) → length s ≡ 224
    → (head_bytes c.body ++ phase_bytes c.phase) ++ drop 59 s ≡ controller_bytes c s
unfolding controller_bytes state_bytes queues_of
queues_stay c s long =
    let front = head_bytes c.body ++ phase_bytes c.phase in
    let q0 = queue_bytes (queue_at s 59) in
    let q1 = queue_bytes (queue_at s 100) in
    let q2 = queue_bytes (queue_at s 141) in
    let q3 = queue_bytes (queue_at s 182) in
    let last = byte_at s 223 ∷ [] in
    ap (λ (x : List ℕ). front ++ x) (queues_stand s long)
    ∙ sym (append_assoc front q0 (q1 ++ (q2 ++ (q3 ++ last))))
    ∙ sym (append_assoc (front ++ q0) q1 (q2 ++ (q3 ++ last)))
    ∙ sym (append_assoc (front ++ q0 ++ q1) q2 (q3 ++ last))
    ∙ sym (append_assoc (front ++ q0 ++ q1 ++ q2) q3 last)

-- and so a controller that is put beside them is the front of a state
pub controller_put : (c : Controller) (space now : List ℕ) → length space ≡ 224 → now ≡ controller_bytes c space
    → Front space now (head_bytes c.body ++ phase_bytes c.phase) 59
controller_put c space now long put =
    record {
      is = put ∙ sym (queues_stay c space long);
      long = simp (length-append, head_length_lem c.body, phase_length_lem c.phase);
    }
