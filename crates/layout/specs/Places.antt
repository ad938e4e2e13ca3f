-- Where each field of a state stands among its bytes: the table of the layout. `src/places.rt` has the same names, and
-- the header for C the same table.
-- Assumes nothing.
use Rattle.std.specs.Prelude.{ℕ}

-- the number of this layout; it is not 0, so that zeroed memory is no state
abbrev pub layout : ℕ
layout = 1

-- how many bytes a state has
abbrev pub state_length : ℕ
state_length = 224

-- ---- the fields, in order

-- the number of the layout
abbrev pub layout_place : ℕ
layout_place = 0

-- drives 0 to 3, six bytes each: report, its reviewed copy, track, density, gap, guard
abbrev pub drives_place : ℕ
drives_place = 1

abbrev pub selected_place : ℕ
selected_place = 25

abbrev pub changed_place : ℕ
changed_place = 26

abbrev pub enable_place : ℕ
enable_place = 27

abbrev pub retry_place : ℕ
retry_place = 28

abbrev pub mark_place : ℕ
mark_place = 29

abbrev pub code_place : ℕ
code_place = 30

abbrev pub motion_place : ℕ
motion_place = 31

-- two bytes, the high one first
abbrev pub count_place : ℕ
count_place = 32

abbrev pub parity_place : ℕ
parity_place = 34

abbrev pub overflow_place : ℕ
overflow_place = 35

abbrev pub underflow_place : ℕ
underflow_place = 36

abbrev pub wdl_place : ℕ
wdl_place = 37

abbrev pub rdl_place : ℕ
rdl_place = 38

abbrev pub supplied_place : ℕ
supplied_place = 39

abbrev pub counted_place : ℕ
counted_place = 40

-- four bytes each
abbrev pub tertiary_place : ℕ
tertiary_place = 41

abbrev pub quintary_place : ℕ
quintary_place = 45

-- the phase's number
abbrev pub phase_place : ℕ
phase_place = 49

-- what the phase holds, and zeros behind it: nine bytes
abbrev pub held_place : ℕ
held_place = 50

-- the queues of jobs 0 to 3, 41 bytes each: the length, then eight stores of five bytes
abbrev pub queues_place : ℕ
queues_place = 59

-- the job served last
abbrev pub last_place : ℕ
last_place = 223

-- ---- the parts of them

-- how many bytes a drive has, and where its guard stands in them
abbrev pub drive_length : ℕ
drive_length = 6

abbrev pub guard_place : ℕ
guard_place = 5

-- how many bytes a queue has, and a store
abbrev pub queue_length : ℕ
queue_length = 41

abbrev pub store_length : ℕ
store_length = 5

-- how many bytes the layout's number and the body have, and the phase with what it holds
abbrev pub head_length : ℕ
head_length = 49

abbrev pub phase_length : ℕ
phase_length = 10

-- ---- numbers of what has no number of its own

abbrev pub collecting : ℕ
collecting = 0

abbrev pub ack_offered : ℕ
ack_offered = 1

abbrev pub sending : ℕ
sending = 2

abbrev pub go_offered : ℕ
go_offered = 3

abbrev pub data_awaited : ℕ
data_awaited = 4

abbrev pub result_awaited : ℕ
result_awaited = 5

abbrev pub end_offered : ℕ
end_offered = 6

-- the last kind of string that is sent, and the last operation
abbrev pub last_kind : ℕ
last_kind = 3

abbrev pub last_operation : ℕ
last_operation = 11

-- ---- an answer: the kind of action, its six bytes, whether a store's code is settled, its code, motion and count, and
-- how many bytes of the lent space are given

abbrev pub answer_length : ℕ
answer_length = 16

abbrev pub action_place : ℕ
action_place = 0

abbrev pub settled_place : ℕ
settled_place = 7

abbrev pub given_place : ℕ
given_place = 12
