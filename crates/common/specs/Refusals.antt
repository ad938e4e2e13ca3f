-- The refusals of the calls: the papers' numbers and words (document 01, Turned back; document 02).
-- "Lowest number first".
-- Assumes nothing.
use Rattle.std.specs.Prelude.{ℕ}

-- not refused
abbrev pub done : ℕ
done = 0

-- ---- "From the state"

-- "1 a field out of range"
abbrev pub state_damaged : ℕ
state_damaged = 1

-- "2 link call while data or result is awaited, or taken with no ACK offered"
abbrev pub link_not_awaited : ℕ
link_not_awaited = 2

-- "3 data or result not awaited"
abbrev pub transfer_not_awaited : ℕ
transfer_not_awaited = 3

-- "4 tick when not idle"
abbrev pub not_idle : ℕ
not_idle = 4

-- ---- "From the input"

-- "5 drive above 3"
abbrev pub no_such_drive : ℕ
no_such_drive = 5

-- "6 check store not 512"
abbrev pub check_store_length : ℕ
check_store_length = 6

-- "7 code not listed"
abbrev pub code_not_listed : ℕ
code_not_listed = 7

-- "8 mark flag against its rule, or late flags above 3"
abbrev pub flags_against_rule : ℕ
flags_against_rule = 8

-- "9 .. wrong length of image or marks"; "Wrong lengths, and host bytes too many for the builder, keep refusal 9."
-- (document 02, request 10)
abbrev pub wrong_length : ℕ
wrong_length = 9

-- "10 mark value"
abbrev pub mark_value : ℕ
mark_value = 10

-- "11 the data call's or builder's image space, or the restorer's output space, short"
abbrev pub space_short : ℕ
space_short = 11

-- "12 restorer: two bad of one parity"
abbrev pub unrestorable : ℕ
unrestorable = 12

-- "13 the counts differ", of two passes (document 02, request 5)
abbrev pub counts_differ : ℕ
counts_differ = 13

-- "14 a blockette is good in both and unlike"
abbrev pub blockettes_unlike : ℕ
blockettes_unlike = 14

-- "15 a place that is neither in the host bytes nor the value for none" (document 02, request 6)
abbrev pub no_such_place : ℕ
no_such_place = 15

-- "16 a job above 3, a store naming no drive or a reset store" (document 02, request 8)
abbrev pub store_not_taken : ℕ
store_not_taken = 16

-- "17 that job's queue holds eight"
abbrev pub queue_full : ℕ
queue_full = 17

-- "18 a width outside 1 to 64" (document 02, request 11)
abbrev pub width_out_of_range : ℕ
width_out_of_range = 18

-- "19 a run above 65,535"
abbrev pub run_too_long : ℕ
run_too_long = 19

-- "20 a number above its limit" (document 02, request 12)
abbrev pub above_limit : ℕ
above_limit = 20
