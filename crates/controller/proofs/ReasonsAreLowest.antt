-- Every call is refused by the lowest number whose condition holds: the tables of Reasons.antt rise, and the machine
-- gives the first that holds.
-- Assumes nothing.
use mathlib.Core.Path.{◌≡◌, refl, sym, ap, ap₂, subst, ◌∙◌}
use Prim.Native.Nat.{ℕ}
use mathlib.Core.Bool.{Bool, true, false, not, ◌&&◌, ◌||◌, false≢true}
use mathlib.Core.List.{List, [], ◌∷◌}
use lib.Dec.{leb, ltb, eqb}
use lib.ListN.{length}
use native.Mathlib.Omega.{arith}
use borrow.Author.Tests.{eqb-true, ne_eqb}
use Rattle.common.specs.Pick.{pick}
use Rattle.common.proofs.PickLaws.{by_either, both_hold, pick_by}
use Rattle.marks.specs.Marks.{legal_mark, legal_marks}
use Rattle.records.specs.Count.{unrotated, count_of}
use Rattle.records.specs.Image.{blockette_count, has_blockettes, image_length, mark_count}
use Rattle.records.specs.Place.{is_place}
use Rattle.records.specs.Whole.{layout_refusal, whole_refusal}
use Rattle.status.specs.Drives.{drive_of}
use Rattle.status.specs.declared.drives.Drive.{Drive}
use Rattle.operations.specs.declared.operation.Operation.{Operation}
use Rattle.operations.specs.declared.operation.Operation.TheVariants.{Read, CheckBytes, SuppliedCount, Write, Erase}
use Rattle.operations.specs.declared.operation.Operation.TheVariants.{Rewind, FastForward, SkipForward, SkipReverse}
use Rattle.operations.specs.declared.operation.Operation.TheVariants.{SearchForward, SearchReverse, WriteMark}
use Rattle.operations.specs.declared.store.Store.{Store}
use Rattle.operations.specs.Operation.{is_search, takes_mark}
use Rattle.operations.specs.Answers.{forward_codes, reverse_codes, end_codes, supplied_codes, listed_codes}
use Rattle.operations.specs.Answers.{trailing_codes}
use Rattle.operations.specs.Answers.{clear_codes, is_in, answer_of}
use Rattle.operations.specs.Store.{held_count}
use Rattle.link.specs.declared.state.Phase.{Phase}
use Rattle.link.specs.declared.state.Phase.TheVariants.{DataAwaited, ResultAwaited}
use Rattle.link.specs.declared.state.Body.{Body}
use Rattle.link.specs.Link.{whole_length}
use Rattle.link.specs.Damaged.{sound_drive, sound_drives, sound_body, sound_lead, sound_part, sound_string, sound_phase}
use Rattle.link.specs.Damaged.{is_sound}
use Rattle.link.specs.State.{current_drive}
use Rattle.link.proofs.PhaseLaws.{each_phase}
use Rattle.transfers.specs.declared.expected.Expected.{Expected}
use Rattle.transfers.specs.declared.expected.Expected.TheVariants.{Whole, Supplied, Count, Nothing}
use Rattle.transfers.specs.Data.{Host, data_refusal}
use Rattle.transfers.specs.Expected.{whole_code, expected_whole, expected_supplied, expected_of, unmarked_refusal}
use Rattle.transfers.specs.Expected.{image_refusal}
use Rattle.transfers.specs.Results.{Result, mark_against, result_refusal}
use Rattle.controller.specs.OnTape.{count_said}
use Rattle.controller.specs.declared.controller.Controller.{Controller}
use Rattle.controller.specs.Told.{Reply}
use Rattle.controller.specs.Controller.{carried, refused}
use Rattle.controller.specs.Records.{Answer, data_done, result_done}
use Rattle.controller.specs.Machine.{byte_in, broken_in, tick_in, byte_call, broken_call, tick_call, taken_in}
use Rattle.controller.specs.Machine.{taken_call}
use Rattle.controller.specs.Machine.{hand_in, hand_call, report_noted, report_call, reset_call, unchanged, data_for}
use Rattle.controller.specs.Machine.{data_in, data_call, result_for, result_in, result_call, Call, step}
use Rattle.controller.specs.Machine.Call.{byte, taken, broken, report, host_data, result, tick, reset, hand}
use Rattle.controller.specs.Ledger.{among, count_asked}
use Rattle.controller.specs.Reasons.{drive_in_range, drives_in_range, body_in_range, lead_known, string_length}
use Rattle.controller.specs.Reasons.{phase_in_range, in_range, awaits_transfer, offers_ack, idle_phase, density_now}
use Rattle.controller.specs.Reasons.{image_bytes, mark_bytes, codes_forward, codes_reverse}
use Rattle.controller.specs.Reasons.{codes_winding, codes_reported, mark_needs_zero, mark_wrong}
use Rattle.controller.specs.Reasons.{lengths_differ, whole_differs, supplied_differs, skipped_differs, lengths_wrong}
use Rattle.controller.specs.Reasons.{any_mark_unknown, data_conditions, result_conditions, own_conditions}
use Rattle.controller.specs.Reasons.{IsLowest, conditions_of, RefusedByLowest}
use Rattle.controller.proofs.LowestLaws.{first_of, rising, first_is_lowest}

-- a refusal that a table above 1 tells
abbrev pub Tells : List (ℕ × Bool) → ℕ → Type 0
Tells conditions refusal = (rising 1 conditions ≡ true) × (refusal ≡ first_of conditions)

-- ---- 1: the ranges

phase_in_range_lem : (phase : Phase) → sound_phase phase ≡ phase_in_range phase
unfolding sound_phase phase_in_range sound_part sound_string sound_lead lead_known whole_length string_length
phase_in_range_lem =
    each_phase (λ (phase : Phase). sound_phase phase ≡ phase_in_range phase) (λ s. refl) (λ s. refl) (λ send. refl)
    (λ store. refl) (λ store. refl) (λ operation store. refl) (λ interrupt. refl)

-- a state is sound where its fields are in range
pub sound_in_range : (c : Controller) → is_sound c.body c.phase ≡ in_range c
unfolding is_sound in_range sound_body body_in_range sound_drives drives_in_range sound_drive drive_in_range
sound_in_range c = ap (λ (t : Bool). sound_body c.body && t) (phase_in_range_lem c.phase)

-- ---- lengths

other_way : {A : Type 0} (a b : Bool) (x y : A) → pick (not a && not b) x y ≡ pick (a || b) y x
unfolding pick
other_way true b x y = refl
other_way false true x y = refl
other_way false false x y = refl

image_bytes_lem : (density c : ℕ) → image_length c density ≡ image_bytes density c
unfolding image_length image_bytes has_blockettes blockette_count
image_bytes_lem density c = other_way (eqb density 0) (eqb c 0) _ _

mark_bytes_lem : (density c : ℕ) → mark_count c density ≡ mark_bytes density c
unfolding mark_count mark_bytes has_blockettes blockette_count
mark_bytes_lem density c = other_way (eqb density 0) (eqb c 0) _ _

density_of : (t : Bool) (d e : Drive) → (pick t d e).density ≡ pick t d.density e.density
unfolding pick
density_of true d e = refl
density_of false d e = refl

density_now_lem : (b : Body) → (current_drive b).density ≡ density_now b
unfolding drive_of density_now
density_now_lem b =
    density_of (eqb b.selected 0) b.drives.zero _
    ∙ ap (pick (eqb b.selected 0) b.drives.zero.density)
    (density_of (eqb b.selected 1) b.drives.one _
    ∙ ap (pick (eqb b.selected 1) b.drives.one.density) (density_of (eqb b.selected 2) b.drives.two _))

-- ---- codes

among_is_in : (code : ℕ) (codes : List ℕ) → is_in code codes ≡ among code codes
unfolding is_in among
among_is_in code [] = refl
among_is_in code (listed ∷ rest) = ap (λ (t : Bool). eqb code listed || t) (among_is_in code rest)

-- codes that are all in a list
abbrev all_in : List ℕ → List ℕ → Bool
all_in [] codes = true
all_in (code ∷ rest) codes = is_in code codes && all_in rest codes

inside : (code : ℕ) (few codes : List ℕ) → all_in few codes ≡ true → is_in code few ≡ true → is_in code codes ≡ true
unfolding is_in
inside code [] codes all = λ is. absurd (false≢true is)
inside code (one ∷ few) codes all =
    let each = both_hold (is_in one codes) (all_in few codes) all in
    by_either (eqb code one) (is_in code few)
    (λ same. subst (λ (n : ℕ). is_in n codes ≡ true) (sym (eqb-true code one same)) each.0)
    (inside code few codes each.1)

entry_by : (none few some : Bool) → (few ≡ true → some ≡ true)
    → eqb (pick (none || few) 1 (pick some 2 0)) 0 ≡ not (none || some)
unfolding pick
entry_by true few some within = refl
entry_by false true true within = refl
entry_by false true false within = absurd (false≢true (within refl))
entry_by false false true within = refl
entry_by false false false within = refl

-- the entry of a code is 0 where it is not listed
entry : (code : ℕ) (clear listed : List ℕ) → all_in clear listed ≡ true
    → eqb (pick (eqb code 0 || is_in code clear) 1 (pick (is_in code listed) 2 0)) 0 ≡ not (among code (0 ∷ listed))
unfolding among
entry code clear listed all =
    entry_by (eqb code 0) (is_in code clear) (is_in code listed) (inside code clear listed all)
    ∙ ap (λ (t : Bool). not (eqb code 0 || t)) (among_is_in code listed)

not_listed : (operation : Operation) (code : ℕ)
    → eqb (answer_of operation code) 0 ≡ not (among code (codes_reported operation))
unfolding answer_of clear_codes listed_codes codes_reported forward_codes codes_forward reverse_codes codes_reverse
    end_codes codes_winding supplied_codes trailing_codes is_in
not_listed Read code = entry code (clear_codes Read) (listed_codes Read) refl
not_listed CheckBytes code = entry code (clear_codes CheckBytes) (listed_codes CheckBytes) refl
not_listed SuppliedCount code = entry code (clear_codes SuppliedCount) (listed_codes SuppliedCount) refl
not_listed Write code = entry code (clear_codes Write) (listed_codes Write) refl
not_listed Erase code = entry code (clear_codes Erase) (listed_codes Erase) refl
not_listed Rewind code = entry code (clear_codes Rewind) (listed_codes Rewind) refl
not_listed FastForward code = entry code (clear_codes FastForward) (listed_codes FastForward) refl
not_listed SkipForward code = entry code (clear_codes SkipForward) (listed_codes SkipForward) refl
not_listed SkipReverse code = entry code (clear_codes SkipReverse) (listed_codes SkipReverse) refl
not_listed SearchForward code = entry code (clear_codes SearchForward) (listed_codes SearchForward) refl
not_listed SearchReverse code = entry code (clear_codes SearchReverse) (listed_codes SearchReverse) refl
not_listed WriteMark code = entry code (clear_codes WriteMark) (listed_codes WriteMark) refl

-- ---- the mark flag

or_none : (b : Bool) → (b || false) ≡ b
or_none true = refl
or_none false = refl

searched : (mark zero : Bool) → ((mark && not zero) || (zero && not mark)) ≡ pick zero (not mark) mark
unfolding pick
searched true true = refl
searched true false = refl
searched false true = refl
searched false false = refl

unflagged : (mark : Bool) → ((mark && true) || false) ≡ mark
unflagged true = refl
unflagged false = refl

mark_wrong_lem : (operation : Operation) (code : ℕ) (mark : Bool)
    → mark_against operation code mark ≡ mark_wrong operation code mark
unfolding mark_against mark_wrong takes_mark is_search
mark_wrong_lem Read code mark = or_none (mark_needs_zero code mark)
mark_wrong_lem CheckBytes code mark = unflagged mark
mark_wrong_lem SuppliedCount code mark = unflagged mark
mark_wrong_lem Write code mark = unflagged mark
mark_wrong_lem Erase code mark = unflagged mark
mark_wrong_lem Rewind code mark = unflagged mark
mark_wrong_lem FastForward code mark = unflagged mark
mark_wrong_lem SkipForward code mark = or_none (mark_needs_zero code mark)
mark_wrong_lem SkipReverse code mark = or_none (mark_needs_zero code mark)
mark_wrong_lem SearchForward code mark = searched mark (eqb code 0)
mark_wrong_lem SearchReverse code mark = searched mark (eqb code 0)
mark_wrong_lem WriteMark code mark = unflagged mark

-- ---- image and marks

marks_unknown : (marks : List ℕ) → not (legal_marks marks) ≡ any_mark_unknown marks
unfolding legal_marks legal_mark any_mark_unknown
marks_unknown [] = refl
marks_unknown (m ∷ marks) =
    one_of (legal_mark m) (legal_marks marks) ∙ ap (λ (t : Bool). not (legal_mark m) || t) (marks_unknown marks)
  where
    one_of : (a b : Bool) → not (a && b) ≡ (not a || not b)
    one_of true b = refl
    one_of false b = refl

-- what 9 and 10 tell, where the lengths are wrong or not
abbrev told : Bool → List ℕ → ℕ
told wrong marks = pick wrong 9 (pick (any_mark_unknown marks) 10 0)

layout_by : (a b legal : Bool)
    → ◌≡◌ {A = ℕ} (pick a 9 (pick b 9 (pick legal 0 10))) (pick (a || b) 9 (pick (not legal) 10 0))
unfolding pick
layout_by true b legal = refl
layout_by false true legal = refl
layout_by false false true = refl
layout_by false false false = refl

laid_out : (r : Result) (c density : ℕ)
    → layout_refusal r.image r.marks c density
    ≡ told (lengths_differ r (image_bytes density c) (mark_bytes density c)) r.marks
unfolding layout_refusal
laid_out r c density =
    ap₂ (λ (i m : ℕ). pick (not (eqb (length r.image) i)) 9
    (pick (not (eqb (length r.marks) m)) 9 (pick (legal_marks r.marks) 0 10)))
    (image_bytes_lem density c) (mark_bytes_lem density c)
    ∙ layout_by (not (eqb (length r.image) (image_bytes density c)))
    (not (eqb (length r.marks) (mark_bytes density c))) (legal_marks r.marks)
    ∙ ap (λ (t : Bool). pick (lengths_differ r (image_bytes density c) (mark_bytes density c)) 9 (pick t 10 0))
    (marks_unknown r.marks)

not_empty : (empty : Bool) (rest : ℕ) → empty ≡ false → pick empty 0 9 ≡ pick (not empty) 9 rest
unfolding pick
not_empty true rest is = absurd (false≢true (sym is))
not_empty false rest is = refl

by_marks : (a : Bool) (marks : List ℕ)
    → pick a 9 (pick (eqb (length marks) 0) 0 9) ≡ told (a || not (eqb (length marks) 0)) marks
unfolding pick any_mark_unknown
by_marks true marks = refl
by_marks false [] = refl
by_marks false (m ∷ marks) =
    not_empty (eqb (length (m ∷ marks)) 0) (pick (any_mark_unknown (m ∷ marks)) 10 0)
    (ne_eqb (length (m ∷ marks)) 0 (λ empty. omega arith))

unmarked : (r : Result) (n : ℕ)
    → unmarked_refusal r.image r.marks n ≡ told (lengths_differ r n 0) r.marks
unfolding unmarked_refusal
unmarked r n = by_marks (not (eqb (length r.image) n)) r.marks

-- by a test of what is expected
by_expected :
    (r : Result) (t : Bool) (x y : Expected) (p q : Bool)
    → image_refusal r.image r.marks x ≡ told p r.marks
    → image_refusal r.image r.marks y ≡ told q r.marks
    → image_refusal r.image r.marks (pick t x y) ≡ told (pick t p q) r.marks
unfolding pick
by_expected r true x y p q one two = one
by_expected r false x y p q one two = two

nothing : (r : Result) → image_refusal r.image r.marks Nothing ≡ told (lengths_differ r 0 0) r.marks
unfolding image_refusal
nothing r = unmarked r 0

whole_codes : (code : ℕ) → whole_code code ≡ among code (0x0 ∷ 0x10 ∷ 0x11 ∷ 0x12 ∷ [])
unfolding whole_code among
whole_codes code =
    ap (λ (t : Bool). eqb code 0 || (eqb code 0x10 || (eqb code 0x11 || t))) (sym (or_none (eqb code 0x12)))

short : (t wrong : Bool) (rest : ℕ) → pick t 9 (pick wrong 9 rest) ≡ pick (t || wrong) 9 rest
unfolding pick
short true wrong rest = refl
short false wrong rest = refl

by_own_count : (r : Result) (density : ℕ)
    → image_refusal r.image r.marks (Whole density)
    ≡ told (ltb (length r.image) 2
    || lengths_differ r (image_bytes density (count_said r.image)) (mark_bytes density (count_said r.image)))
    r.marks
unfolding image_refusal whole_refusal count_of unrotated count_said
by_own_count r density =
    ap (pick (ltb (length r.image) 2) 9) (laid_out r (count_said r.image) density)
    ∙ short (ltb (length r.image) 2) _ _

whole_image : (r : Result) (density : ℕ)
    → image_refusal r.image r.marks (expected_whole density r.code r.mark)
    ≡ told (whole_differs density r) r.marks
unfolding expected_whole whole_differs
whole_image r density =
    ap (λ (t : Bool). image_refusal r.image r.marks (pick (t && not r.mark) (Whole density) Nothing))
    (whole_codes r.code)
    ∙ by_expected r (among r.code (0x0 ∷ 0x10 ∷ 0x11 ∷ 0x12 ∷ []) && not r.mark) (Whole density) Nothing _ _
    (by_own_count r density) (nothing r)

by_supplied_count : (r : Result) (count : ℕ)
    → image_refusal r.image r.marks (Supplied count)
    ≡ told (lengths_differ r (image_bytes 1 count) (mark_bytes 1 count)) r.marks
unfolding image_refusal
by_supplied_count r count = laid_out r count 1

supplied_image : (r : Result) (count : ℕ)
    → image_refusal r.image r.marks (expected_supplied count r.code) ≡ told (supplied_differs count r) r.marks
unfolding expected_supplied supplied_differs
supplied_image r count =
    by_expected r (eqb r.code 0 && not (eqb count 0)) (Supplied count) Nothing _ _ (by_supplied_count r count)
    (nothing r)

two : (r : Result) → image_refusal r.image r.marks Count ≡ told (lengths_differ r 2 0) r.marks
unfolding image_refusal
two r = unmarked r 2

skipped_image : (r : Result) (density : ℕ)
    → image_refusal r.image r.marks
    (pick (not (eqb density 0) && (eqb r.code 0 && not r.mark)) Count Nothing)
    ≡ told (skipped_differs density r) r.marks
unfolding skipped_differs
skipped_image r density =
    by_expected r (not (eqb density 0) && (eqb r.code 0 && not r.mark)) Count Nothing _ _ (two r) (nothing r)

lengths : (r : Result) (density : ℕ) (store : Store) (operation : Operation)
    → image_refusal r.image r.marks (expected_of operation store density r.code r.mark)
    ≡ told (lengths_wrong density (count_asked store) r operation) r.marks
unfolding expected_of lengths_wrong pick held_count
lengths r density store Read = whole_image r density
lengths r density store CheckBytes = nothing r
lengths r density store SuppliedCount = supplied_image r (count_asked store)
lengths r density store Write = nothing r
lengths r density store Erase = nothing r
lengths r density store Rewind = nothing r
lengths r density store FastForward = nothing r
lengths r density store SkipForward = whole_image r density
lengths r density store SkipReverse = skipped_image r density
lengths r density store SearchForward = nothing r
lengths r density store SearchReverse = nothing r
lengths r density store WriteMark = nothing r

-- ---- the two calls that are lent space

-- an answer that is refused by a number that is not 0
kept : (number : ℕ) (done left : Answer) → done.reply.refusal ≡ 0 → left.reply.refusal ≡ number
    → (pick (eqb number 0) done left).reply.refusal ≡ number
kept number done left zero same =
    pick_by (λ (a : Answer). a.reply.refusal ≡ number) (eqb number 0) (λ none. zero ∙ sym (eqb-true number 0 none))
    (λ some. same)

module _ (c : Controller) (b : Body) (host : Host) (space check : List ℕ) where
  data_refusal_lem : (store : Store)
      → data_refusal (current_drive b) store (length host.bytes) host.place (length space) (length check)
      ≡ first_of (data_conditions b host (length space) (length check) (DataAwaited store))
  unfolding data_refusal held_count is_place first_of data_conditions
  data_refusal_lem store =
      ap (λ (n : ℕ). pick (not (eqb (length check) 512)) 6 (pick (ltb (length space) n) 11
      (pick (not (ltb host.place (length host.bytes) || eqb host.place 65791)) 15 0)))
      (image_bytes_lem (current_drive b).density (count_asked store)
      ∙ ap (λ (d : ℕ). image_bytes d (count_asked store)) (density_now_lem b))

  data_awaited_lem : (store : Store)
      → (data_for c b (current_drive b) store host space check).reply.refusal
      ≡ first_of (data_conditions b host (length space) (length check) (DataAwaited store))
  unfolding data_for data_done
  data_awaited_lem store =
      kept (data_refusal (current_drive b) store (length host.bytes) host.place (length space) (length check)) _ _
      refl refl
      ∙ data_refusal_lem store

  data_tells : (phase : Phase)
      → Tells (data_conditions b host (length space) (length check) phase)
      (data_in c b host space check phase).reply.refusal
  unfolding data_in data_conditions rising first_of pick
  data_tells =
      each_phase
      (λ (phase : Phase). Tells (data_conditions b host (length space) (length check) phase)
      (data_in c b host space check phase).reply.refusal)
      (λ s. (refl, refl)) (λ s. (refl, refl)) (λ send. (refl, refl)) (λ store. (refl, refl))
      (λ store. (refl, data_awaited_lem store)) (λ operation store. (refl, refl)) (λ interrupt. (refl, refl))

module _ (c : Controller) (b : Body) (r : Result) (space check : List ℕ) where
  result_refusal_lem : (operation : Operation) (store : Store)
      → result_refusal (current_drive b) operation store r (length check)
      ≡ first_of (result_conditions b r (length check) (ResultAwaited operation store))
  unfolding result_refusal first_of result_conditions
  result_refusal_lem operation store =
      ap₂ (λ (t u : Bool). pick (not (eqb (length check) 512)) 6 (pick t 7 (pick (u || leb 4 r.late) 8
      (image_refusal r.image r.marks
      (expected_of operation store (current_drive b).density r.code r.mark)))))
      (not_listed operation r.code) (mark_wrong_lem operation r.code r.mark)
      ∙ ap (λ (n : ℕ). pick (not (eqb (length check) 512)) 6
      (pick (not (among r.code (codes_reported operation))) 7
      (pick (mark_wrong operation r.code r.mark || leb 4 r.late) 8 n)))
      (lengths r (current_drive b).density store operation
      ∙ ap (λ (d : ℕ). told (lengths_wrong d (count_asked store) r operation) r.marks) (density_now_lem b))

  result_awaited_lem : (operation : Operation) (store : Store)
      → (result_for c b (current_drive b) operation store r space check).reply.refusal
      ≡ first_of (result_conditions b r (length check) (ResultAwaited operation store))
  unfolding result_for result_done
  result_awaited_lem operation store =
      kept (result_refusal (current_drive b) operation store r (length check)) _ _ refl refl
      ∙ result_refusal_lem operation store

  result_tells : (phase : Phase)
      → Tells (result_conditions b r (length check) phase) (result_in c b r space check phase).reply.refusal
  unfolding result_in result_conditions rising first_of pick
  result_tells =
      each_phase
      (λ (phase : Phase). Tells (result_conditions b r (length check) phase)
      (result_in c b r space check phase).reply.refusal)
      (λ s. (refl, refl)) (λ s. (refl, refl)) (λ send. (refl, refl)) (λ store. (refl, refl)) (λ store. (refl, refl))
      (λ operation store. (refl, result_awaited_lem operation store)) (λ interrupt. (refl, refl))

-- ---- the link's calls

byte_tells : (c : Controller) (b : Body) (value : ℕ) (phase : Phase)
    → Tells ((2, awaits_transfer phase) ∷ []) (byte_in c b value phase).refusal
unfolding byte_in awaits_transfer rising first_of pick
byte_tells c b value =
    each_phase (λ (phase : Phase). Tells ((2, awaits_transfer phase) ∷ []) (byte_in c b value phase).refusal)
    (λ s. (refl, refl)) (λ s. (refl, refl)) (λ send. (refl, refl)) (λ store. (refl, refl)) (λ store. (refl, refl))
    (λ operation store. (refl, refl)) (λ interrupt. (refl, refl))

broken_tells : (c : Controller) (b : Body) (phase : Phase)
    → Tells ((2, awaits_transfer phase) ∷ []) (broken_in c b phase).refusal
unfolding broken_in awaits_transfer rising first_of pick
broken_tells c b =
    each_phase (λ (phase : Phase). Tells ((2, awaits_transfer phase) ∷ []) (broken_in c b phase).refusal)
    (λ s. (refl, refl)) (λ s. (refl, refl)) (λ send. (refl, refl)) (λ store. (refl, refl)) (λ store. (refl, refl))
    (λ operation store. (refl, refl)) (λ interrupt. (refl, refl))

taken_tells : (c : Controller) (b : Body) (phase : Phase)
    → Tells ((2, not (offers_ack phase)) ∷ []) (taken_in c b phase).refusal
unfolding taken_in offers_ack rising first_of pick
taken_tells c b =
    each_phase (λ (phase : Phase). Tells ((2, not (offers_ack phase)) ∷ []) (taken_in c b phase).refusal)
    (λ s. (refl, refl)) (λ s. (refl, refl)) (λ send. (refl, refl)) (λ store. (refl, refl)) (λ store. (refl, refl))
    (λ operation store. (refl, refl)) (λ interrupt. (refl, refl))

-- a reply that a test gives, and a refusal otherwise
or_refused : (t : Bool) (r : Reply) (number : ℕ) (c : Controller) → r.refusal ≡ 0
    → (pick t r (refused number c)).refusal ≡ pick (not t) number 0
unfolding pick
or_refused true r number c done = done
or_refused false r number c done = refl

tick_tells : (c : Controller) (b : Body) (phase : Phase)
    → Tells ((4, not (idle_phase phase)) ∷ []) (tick_in c b phase).refusal
unfolding tick_in idle_phase rising first_of pick
tick_tells c b =
    each_phase (λ (phase : Phase). Tells ((4, not (idle_phase phase)) ∷ []) (tick_in c b phase).refusal)
    (λ s. (refl, or_refused (eqb s.length 0) _ 4 c refl)) (λ s. (refl, refl)) (λ send. (refl, refl))
    (λ store. (refl, refl)) (λ store. (refl, refl)) (λ operation store. (refl, refl)) (λ interrupt. (refl, refl))

hand_tells : (c : Controller) (b : Body) (store : Store) (phase : Phase)
    → Tells ((4, not (idle_phase phase)) ∷ []) (hand_in c b store phase).refusal
unfolding hand_in idle_phase rising first_of pick
hand_tells c b store =
    each_phase (λ (phase : Phase). Tells ((4, not (idle_phase phase)) ∷ []) (hand_in c b store phase).refusal)
    (λ s. (refl, or_refused (eqb s.length 0) _ 4 c refl)) (λ s. (refl, refl)) (λ send. (refl, refl))
    (λ held. (refl, refl)) (λ held. (refl, refl)) (λ operation held. (refl, refl)) (λ interrupt. (refl, refl))

by_number : (t : Bool) (c : Controller) (drive bits : ℕ)
    → (pick t (refused 5 c) (carried (report_noted c drive bits))).refusal ≡ pick t 5 0
unfolding pick
by_number true c drive bits = refl
by_number false c drive bits = refl

report_tells : (c : Controller) (drive bits : ℕ)
    → Tells ((5, leb 4 drive) ∷ []) (pick (leb 4 drive) (refused 5 c) (carried (report_noted c drive bits))).refusal
unfolding rising first_of
report_tells c drive bits = (refl, by_number (leb 4 drive) c drive bits)

-- ---- every call

-- nothing refuses a reset of a sound state
none_refuses : Tells [] 0
unfolding rising first_of
none_refuses = (refl, refl)

sound_or_1 : (t : Bool) (n : ℕ) → pick t n 1 ≡ pick (not t) 1 n
unfolding pick
sound_or_1 true n = refl
sound_or_1 false n = refl

-- a table, with the first condition before it
damage_first : (c : Controller) (own : List (ℕ × Bool)) (refusal sound : ℕ) → Tells own sound
    → refusal ≡ pick (is_sound c.body c.phase) sound 1
    → IsLowest refusal ((1, not (in_range c)) ∷ own)
unfolding rising first_of
damage_first c own refusal sound tells is =
    subst (λ (n : ℕ). IsLowest n ((1, not (in_range c)) ∷ own))
    (sym
    (is
    ∙ ap₂ (λ (t : Bool) (n : ℕ). pick t n 1) (sound_in_range c) tells.1
    ∙ sound_or_1 (in_range c) (first_of own)))
    (first_is_lowest 0 ((1, not (in_range c)) ∷ own) tells.0)

reply_or_1 : (t : Bool) (r : Reply) (c : Controller) → (pick t r (refused 1 c)).refusal ≡ pick t r.refusal 1
unfolding pick
reply_or_1 true r c = refl
reply_or_1 false r c = refl

answer_or_1 : (t : Bool) (a : Answer) (c : Controller) (space check : List ℕ)
    → (pick t a (unchanged 1 c space check)).reply.refusal ≡ pick t a.reply.refusal 1
unfolding pick
answer_or_1 true a c space check = refl
answer_or_1 false a c space check = refl

module _ (c : Controller) where
  pub steps_refused_by_lowest : (call : Call) → RefusedByLowest c call (step c call)
  unfolding step conditions_of own_conditions byte_call taken_call broken_call report_call data_call result_call
      tick_call reset_call hand_call
  steps_refused_by_lowest (byte value) =
      damage_first c _ _ _ (byte_tells c c.body value c.phase) (reply_or_1 _ _ c)
  steps_refused_by_lowest taken = damage_first c _ _ _ (taken_tells c c.body c.phase) (reply_or_1 _ _ c)
  steps_refused_by_lowest broken = damage_first c _ _ _ (broken_tells c c.body c.phase) (reply_or_1 _ _ c)
  steps_refused_by_lowest (report drive bits) = damage_first c _ _ _ (report_tells c drive bits) (reply_or_1 _ _ c)
  steps_refused_by_lowest (host_data host space check) =
      damage_first c _ _ _ (data_tells c c.body host space check c.phase) (answer_or_1 _ _ c space check)
  steps_refused_by_lowest (result r space check) =
      damage_first c _ _ _ (result_tells c c.body r space check c.phase) (answer_or_1 _ _ c space check)
  steps_refused_by_lowest tick = damage_first c _ _ _ (tick_tells c c.body c.phase) (reply_or_1 _ _ c)
  steps_refused_by_lowest reset = damage_first c [] _ 0 none_refuses (reply_or_1 _ _ c)
  steps_refused_by_lowest (hand store) =
      damage_first c _ _ _ (hand_tells c c.body store c.phase) (reply_or_1 _ _ c)
