-- The definition of a script computed on examples: whole outputs and statuses.
use Rattle.std.proofs.Common.{◌≡◌, ℕ, List, [], ◌∷◌, ◌++◌, refl}
use Rattle.std.specs.Prelude.{codes}
use Rattle.std.specs.Fmt.{digits}
use Rattle.st_doors.specs.Doors.{least_from}
use Rattle.st_doors.specs.Settling.{run_until_idle}
use Rattle.st_doors.specs.Lines.{line_feed}
use Rattle.st_door.specs.declared.mode.Mode.TheVariants.{Run, Trace}
use Rattle.st_door.specs.Script.{output_of, status_of_script}

-- lines, each with its line feed
abbrev text_of_lines : List (List ℕ) → List ℕ
text_of_lines [] = []
text_of_lines (line ∷ lines) = line ++ line_feed ∷ text_of_lines lines

empty_input : output_of Run [] ≡ []
unfolding run_until_idle digits
empty_input = refl

abbrev opening : List ℕ
opening = text_of_lines (codes "new front 12" ∷ codes "button front 1" ∷ codes "button front 2" ∷ [])

a_code_opens : output_of Run opening
    ≡ text_of_lines (
    codes "front locked buttons 0 waiting 0"
    ∷ codes "front locked buttons 1 waiting 0"
    ∷ codes "front open buttons 0 waiting 0" ∷ [])
unfolding run_until_idle digits
a_code_opens = refl

opening_status : status_of_script Run opening ≡ 0
unfolding run_until_idle
opening_status = refl

-- the buttons are as many as the code has digits, the last ones
abbrev last_buttons : List ℕ
last_buttons = text_of_lines (codes "new a 12" ∷ codes "button a 3" ∷ codes "button a 1" ∷ codes "button a 2" ∷ [])

the_last_buttons_count : output_of Run last_buttons
    ≡ text_of_lines (
    codes "a locked buttons 0 waiting 0"
    ∷ codes "a locked buttons 1 waiting 0"
    ∷ codes "a locked buttons 2 waiting 0"
    ∷ codes "a open buttons 0 waiting 0" ∷ [])
unfolding run_until_idle digits
the_last_buttons_count = refl

-- lines that are refused or malformed, and a last line without a line feed
abbrev faults : List ℕ
faults = text_of_lines (codes "button back 1" ∷ codes "new front 12" ∷ codes "new front 34" ∷ []) ++ codes "press front 1"

faults_are_reported : output_of Run faults
    ≡ text_of_lines (
    codes "line 1 refused 8"
    ∷ codes "front locked buttons 0 waiting 0"
    ∷ codes "line 3 refused 7"
    ∷ codes "line 4 malformed" ∷ [])
unfolding run_until_idle digits
faults_are_reported = refl

faults_status : status_of_script Run faults ≡ 1
unfolding run_until_idle
faults_status = refl

-- names stand in order of registration; blank lines and comments print nothing; carriage returns go
abbrev two_doors : List ℕ
two_doors = codes "new b 1" ++ 13 ∷ 10 ∷ codes "  # doors" ++ 10 ∷ 10 ∷ codes "new a 2" ++ 10 ∷ codes " names  " ++ 10 ∷ codes "show b" ++ 13 ∷ []

names_in_order : output_of Run two_doors
    ≡ text_of_lines (
    codes "b locked buttons 0 waiting 0"
    ∷ codes "a locked buttons 0 waiting 0"
    ∷ codes "names b a"
    ∷ codes "b locked buttons 0 waiting 0" ∷ [])
unfolding run_until_idle digits
names_in_order = refl

-- a button of an open door waits, and what waits is dropped at a stop; then the door takes no button
abbrev stopping : List ℕ
stopping =
    text_of_lines (
    codes "new a 1" ∷ codes "button a 1" ∷ codes "button a 1" ∷ codes "stop a 7" ∷ codes "show a" ∷ codes "button a 1" ∷ [])

a_stop_ends_the_door : output_of Run stopping
    ≡ text_of_lines (
    codes "a locked buttons 0 waiting 0"
    ∷ codes "a open buttons 0 waiting 0"
    ∷ codes "a open buttons 0 waiting 1"
    ∷ codes "a stopped 7 word 0"
    ∷ codes "a stopped 7 word 0"
    ∷ codes "line 6 refused 2" ∷ [])
unfolding run_until_idle digits
a_stop_ends_the_door = refl

stopping_status : status_of_script Run stopping ≡ 1
unfolding run_until_idle
stopping_status = refl

-- the last word is the number of buttons
abbrev last_word : List ℕ
last_word = text_of_lines (codes "new a 12" ∷ codes "button a 1" ∷ codes "stop a 7" ∷ [])

the_last_word_counts_the_buttons : output_of Run last_word
    ≡ text_of_lines (
    codes "a locked buttons 0 waiting 0"
    ∷ codes "a locked buttons 1 waiting 0"
    ∷ codes "a stopped 7 word 1" ∷ [])
unfolding run_until_idle digits
the_last_word_counts_the_buttons = refl

last_word_status : status_of_script Run last_word ≡ 0
unfolding run_until_idle
last_word_status = refl

-- a button of an open door waits for the door to be locked
abbrev postponing : List ℕ
postponing = text_of_lines (codes "new front 12" ∷ codes "button front 1" ∷ codes "button front 2" ∷ codes "button front 1" ∷ [])

an_open_door_postpones : output_of Run postponing
    ≡ text_of_lines (
    codes "front locked buttons 0 waiting 0"
    ∷ codes "front locked buttons 1 waiting 0"
    ∷ codes "front open buttons 0 waiting 0"
    ∷ codes "front open buttons 0 waiting 1" ∷ [])
unfolding run_until_idle digits
an_open_door_postpones = refl

postponing_status : status_of_script Run postponing ≡ 0
unfolding run_until_idle
postponing_status = refl

-- the button waits until the door is locked again, and then counts
abbrev pub retrying : List ℕ
retrying =
    text_of_lines (
    codes "new front 12"
    ∷ codes "button front 1"
    ∷ codes "button front 2"
    ∷ codes "button front 1"
    ∷ codes "at 10000"
    ∷ codes "show front"
    ∷ codes "button front 2" ∷ [])

a_postponed_button_counts_later : output_of Run retrying
    ≡ text_of_lines (
    codes "front locked buttons 0 waiting 0"
    ∷ codes "front locked buttons 1 waiting 0"
    ∷ codes "front open buttons 0 waiting 0"
    ∷ codes "front open buttons 0 waiting 1"
    ∷ codes "at 10000 expired 1"
    ∷ codes "front locked buttons 1 waiting 0"
    ∷ codes "front open buttons 0 waiting 0" ∷ [])
unfolding run_until_idle digits
a_postponed_button_counts_later = refl

retrying_status : status_of_script Run retrying ≡ 0
unfolding run_until_idle
retrying_status = refl

-- the buttons of a locked door are forgotten 30,000 milliseconds after the last one, and not before
abbrev pub forgetting : List ℕ
forgetting = text_of_lines (codes "new a 12" ∷ codes "button a 1" ∷ codes "at 29999" ∷ codes "at 30000" ∷ codes "show a" ∷ [])

buttons_are_forgotten : output_of Run forgetting
    ≡ text_of_lines (
    codes "a locked buttons 0 waiting 0"
    ∷ codes "a locked buttons 1 waiting 0"
    ∷ codes "at 29999 expired 0"
    ∷ codes "at 30000 expired 1"
    ∷ codes "a locked buttons 0 waiting 0" ∷ [])
unfolding run_until_idle digits
buttons_are_forgotten = refl

forgetting_status : status_of_script Run forgetting ≡ 0
unfolding run_until_idle
forgetting_status = refl

-- what a moment may be; no moment goes back, and what is refused changes nothing
abbrev pub moments : List ℕ
moments =
    text_of_lines (
    codes "at 9223372036854775808"
    ∷ codes "at 10"
    ∷ codes "at 5"
    ∷ codes "at 18446744073709551615"
    ∷ codes "at 18446744073709551616"
    ∷ codes "at 00000000000000000011"
    ∷ codes "at 000000000000000000012"
    ∷ codes "at"
    ∷ codes "at 9223372036854775807" ∷ [])

moments_go_on : output_of Run moments
    ≡ text_of_lines (
    codes "line 1 refused 4"
    ∷ codes "at 10 expired 0"
    ∷ codes "at 10 expired 0"
    ∷ codes "line 4 refused 4"
    ∷ codes "line 5 malformed"
    ∷ codes "at 11 expired 0"
    ∷ codes "line 7 malformed"
    ∷ codes "line 8 malformed"
    ∷ codes "at 9223372036854775807 expired 0" ∷ [])
unfolding run_until_idle digits
moments_go_on = refl

moments_status : status_of_script Run moments ≡ 1
unfolding run_until_idle
moments_status = refl

-- each door that has not ended is ticked
abbrev pub three_doors : List ℕ
three_doors =
    text_of_lines (
    codes "new a 12"
    ∷ codes "new b 12"
    ∷ codes "new c 12"
    ∷ codes "button a 1"
    ∷ codes "button b 1"
    ∷ codes "button c 1"
    ∷ codes "stop c 7"
    ∷ codes "at 30000"
    ∷ codes "show b"
    ∷ codes "show c" ∷ [])

every_door_is_ticked : output_of Run three_doors
    ≡ text_of_lines (
    codes "a locked buttons 0 waiting 0"
    ∷ codes "b locked buttons 0 waiting 0"
    ∷ codes "c locked buttons 0 waiting 0"
    ∷ codes "a locked buttons 1 waiting 0"
    ∷ codes "b locked buttons 1 waiting 0"
    ∷ codes "c locked buttons 1 waiting 0"
    ∷ codes "c stopped 7 word 1"
    ∷ codes "at 30000 expired 2"
    ∷ codes "b locked buttons 0 waiting 0"
    ∷ codes "c stopped 7 word 1" ∷ [])
unfolding run_until_idle digits
every_door_is_ticked = refl

-- a door says how long its code is; a call is an event, and so the buttons are not forgotten
abbrev asking : List ℕ
asking = text_of_lines (codes "new a 12" ∷ codes "button a 1" ∷ codes "length a" ∷ codes "at 30000" ∷ codes "show a" ∷ [])

a_call_is_an_event : output_of Run asking
    ≡ text_of_lines (
    codes "a locked buttons 0 waiting 0"
    ∷ codes "a locked buttons 1 waiting 0"
    ∷ codes "a length 2"
    ∷ codes "at 30000 expired 0"
    ∷ codes "a locked buttons 1 waiting 0" ∷ [])
unfolding run_until_idle digits
a_call_is_an_event = refl

asking_status : status_of_script Run asking ≡ 0
unfolding run_until_idle
asking_status = refl

-- how long codes are, also of open doors, and which lengths are refused or malformed
abbrev lengths : List ℕ
lengths =
    text_of_lines (
    codes "length a"
    ∷ codes "new a 1"
    ∷ codes "new b 1234567890123456"
    ∷ codes "length b"
    ∷ codes "length a"
    ∷ codes "button a 1"
    ∷ codes "length a"
    ∷ codes "length"
    ∷ codes "length a b"
    ∷ codes "stop b 7"
    ∷ codes "length b"
    ∷ codes "at 10000"
    ∷ codes "length a" ∷ [])

each_door_says_its_length : output_of Run lengths
    ≡ text_of_lines (
    codes "line 1 refused 8"
    ∷ codes "a locked buttons 0 waiting 0"
    ∷ codes "b locked buttons 0 waiting 0"
    ∷ codes "b length 16"
    ∷ codes "a length 1"
    ∷ codes "a open buttons 0 waiting 0"
    ∷ codes "a length 1"
    ∷ codes "line 8 malformed"
    ∷ codes "line 9 malformed"
    ∷ codes "b stopped 7 word 0"
    ∷ codes "line 11 refused 2"
    ∷ codes "at 10000 expired 1"
    ∷ codes "a length 1" ∷ [])
unfolding run_until_idle digits
each_door_says_its_length = refl

lengths_status : status_of_script Run lengths ≡ 1
unfolding run_until_idle
lengths_status = refl

-- what a reason may be, and what is refused of a name that is not there and of a door that has ended
abbrev reasons : List ℕ
reasons =
    text_of_lines (
    codes "new a 1"
    ∷ codes "stop a 4294967296"
    ∷ codes "stop a 00000000007"
    ∷ codes "stop a +7"
    ∷ codes "stop a"
    ∷ codes "stop a 7 7"
    ∷ codes "stop b 7"
    ∷ codes "stop a 0000000007"
    ∷ codes "stop a 7"
    ∷ codes "new a 1"
    ∷ codes "names"
    ∷ codes "new b 1"
    ∷ codes "stop b 4294967295" ∷ [])

reasons_are_numbers : output_of Run reasons
    ≡ text_of_lines (
    codes "a locked buttons 0 waiting 0"
    ∷ codes "line 2 malformed"
    ∷ codes "line 3 malformed"
    ∷ codes "line 4 malformed"
    ∷ codes "line 5 malformed"
    ∷ codes "line 6 malformed"
    ∷ codes "line 7 refused 8"
    ∷ codes "a stopped 7 word 0"
    ∷ codes "line 9 refused 2"
    ∷ codes "line 10 refused 7"
    ∷ codes "names a"
    ∷ codes "b locked buttons 0 waiting 0"
    ∷ codes "b stopped 4294967295 word 0" ∷ [])
unfolding run_until_idle digits
reasons_are_numbers = refl

reasons_status : status_of_script Run reasons ≡ 1
unfolding run_until_idle
reasons_status = refl

-- a door that has ended is removed, and its name is free; the numbers of the refusals
abbrev refusals : List ℕ
refusals = text_of_lines (
    codes "button back 1"
    ∷ codes "new front 12"
    ∷ codes "new front 34"
    ∷ codes "at 9223372036854775808"
    ∷ codes "press front 1"
    ∷ codes "remove front"
    ∷ codes "stop front 7"
    ∷ codes "button front 1"
    ∷ codes "new front 34"
    ∷ codes "remove front"
    ∷ codes "names"
    ∷ codes "new front 34" ∷ [])

a_door_is_removed : output_of Run refusals
    ≡ text_of_lines (
    codes "line 1 refused 8"
    ∷ codes "front locked buttons 0 waiting 0"
    ∷ codes "line 3 refused 7"
    ∷ codes "line 4 refused 4"
    ∷ codes "line 5 malformed"
    ∷ codes "line 6 refused 10"
    ∷ codes "front stopped 7 word 0"
    ∷ codes "line 8 refused 2"
    ∷ codes "line 9 refused 7"
    ∷ codes "front removed"
    ∷ codes "names"
    ∷ codes "front locked buttons 0 waiting 0" ∷ [])
unfolding run_until_idle digits
a_door_is_removed = refl

-- a door whose code is entered, and which is told the moment 10,000 milliseconds later: its trace
abbrev locking : List ℕ
locking = opening ++ text_of_lines (codes "at 10000" ∷ [])

a_trace_is_printed : output_of Trace locking
    ≡ text_of_lines (
    codes "machine 0 1 front"
    ∷ codes "         1      1 post                      -          1 cast"
    ∷ codes "         2      - turn                      0          1 cast locked locked finished 0 0 1"
    ∷ codes "         3      1 post                      -          3 cast"
    ∷ codes "         4      - turn                      0          3 cast locked open finished 0 0 1"
    ∷ codes "         5      - tick                  10000          1 -"
    ∷ codes "         6      - turn                  10000          4 state_timeout open locked finished 0 0 0"
    ∷ codes "summary posts 2 turns 3 finished 3 put_off 0" ∷ [])
unfolding run_until_idle digits
a_trace_is_printed = refl

-- a door that was removed prints none
a_removed_door_has_no_trace : output_of Trace (text_of_lines (codes "new a 1" ∷ codes "stop a 5" ∷ codes "remove a" ∷ [])) ≡ []
unfolding run_until_idle digits
a_removed_door_has_no_trace = refl

-- a new door gets the least place that no door has, and a serial that none had
the_least_place_is_taken : least_from 3 0 (2 ∷ 0 ∷ 3 ∷ []) ≡ 1
the_least_place_is_taken = refl

a_door_after_all_places : least_from 2 0 (1 ∷ 0 ∷ []) ≡ 2
a_door_after_all_places = refl
