-- A script that keeps no histories does the same.
use Rattle.std.proofs.Common.{◌≡◌, ℕ, zero, suc, ◌+◌, ◌||◌, Bool, true, false, List, [], ◌∷◌, ◌++◌, length, map, nat_lt, max, ◌^◌, codes, Option, Some, None, Result, Ok, Err, refl, ap, sym, ◌∙◌, inl, inr, if◌then◌else◌}
use Rattle.std.specs.List.{find, flat_map, list_any}
use Rattle.std.specs.Option.{option_map, option_map_or}
use Rattle.std.proofs.lemmas.Bool.{cases_Bool}
use Rattle.std.proofs.lemmas.List.{length-map, map-append}
use Rattle.std.proofs.lemmas.List.Sums.{sum_by-cons}
use Rattle.st_events.specs.declared.message.Message.{Message}
use Rattle.st_events.specs.declared.refusal.Refusal.{Refusal}
use Rattle.st_events.specs.declared.refusal.Refusal.TheVariants.{Full}
use Rattle.st_events.specs.declared.tag.Tag.{Tag}
use Rattle.st_answers.specs.declared.command.Command.{Command}
use Rattle.st_answers.specs.declared.command.Command.TheVariants as command
use Rattle.st_answers.specs.declared.entry.Entry.TheVariants.{Info}
use Rattle.st_journal.specs.declared.source.Source.{Source}
use Rattle.st_journal.specs.declared.source.Source.TheVariants as source
use Rattle.st_core.specs.declared.start.Start.TheVariants.{Running, Ignored, Stopped}
use Rattle.st_core.specs.Start.{start_of}
use Rattle.st_doors.specs.declared.door_content.DoorContent.{DoorContent}
use Rattle.st_door.specs.declared.effect.Effect.{Effect}
use Rattle.st_door.specs.declared.line.Line.{Line}
use Rattle.st_door.specs.declared.line.Line.TheVariants as line
use Rattle.st_doors.specs.Door.{init_of}
use Rattle.st_doors.specs.Doors.{NamedDoor, all_expired_of, asks, change_first, door_callbacks, door_limit, door_of, door_told_by, expired_of, free_slot_of, has_name, is_over, is_ready_door, least_from, length_in, presses, relays, slots_of, source_of, ticked_doors, told_door, told_of, without_door}
use Rattle.st_doors.specs.Settling.{delivered, gone_on, gone_on_by, has_id, message_at, run_until_idle, turn_limit}
use Rattle.st_door.specs.Grammar.{line_of}
use Rattle.st_doors.specs.Lines.{line_feed, space}
use Rattle.st_doors.specs.Printing.{expired_text, length_text, status_of}
use Rattle.st_door.specs.Script.{DoorStart, ScriptState, acted_of, door_start_of, effect_of, faulty_from, finished_of, is_fault, length_collected, length_finished, new_door, passed_to, printing, relayed_by, removed_by, removed_door, rested_of, shown_door, status_finished, step_of, the_door, told_by, told_script, with_start, with_told}

-- the door without its history
abbrev pub forget_door : NamedDoor → NamedDoor
forget_door door = record door { history = None }

-- the script without the histories of its doors
abbrev pub forget : ScriptState → ScriptState
forget script = record script { traced = false; doors = map forget_door script.doors }

-- what comes of an action, without the histories
abbrev forget_acted : Result ScriptState Refusal → Result ScriptState Refusal
forget_acted (Ok script) = Ok (forget script)
forget_acted (Err refusal) = Err refusal

-- what a line comes to, without the histories
abbrev forget_after : {A : Type 0} → A × ScriptState → A × ScriptState
forget_after done = (done.0, forget done.1)

-- ---- doors
found : (name : List ℕ) (doors : List NamedDoor) → door_of name (map forget_door doors) ≡ option_map forget_door (door_of name doors)
found name [] = refl
found name (door ∷ doors) = elim (cases_Bool (has_name name door)) [
  | inl passes ↦ rw passes refl
  | inr fails ↦ rw fails (found name doors)
]

changed : (test : NamedDoor → Bool) (source : Source) (command : Command DoorContent) (doors : List NamedDoor) → ((door : NamedDoor) → test (forget_door door) ≡ test door)
    → change_first test (door_told_by source command) (map forget_door doors) ≡ map forget_door (change_first test (door_told_by source command) doors)
changed test source command [] same = refl
changed test source command (door ∷ doors) same = elim (cases_Bool (test door)) [
  | inl passes ↦ rw (same door, passes) refl
  | inr fails ↦ rw (same door, fails) (ap (λ t. forget_door door ∷ t) (changed test source command doors same))
]

any_ready : (doors : List NamedDoor) → list_any is_ready_door (map forget_door doors) ≡ list_any is_ready_door doors
any_ready [] = refl
any_ready (door ∷ doors) = elim (cases_Bool (is_ready_door door)) [
  | inl ready ↦ rw ready refl
  | inr rests ↦ rw rests (any_ready doors)
]

-- the first ready door has the same message
first_ready : (doors : List NamedDoor) → find is_ready_door (map forget_door doors) ≡ option_map forget_door (find is_ready_door doors)
first_ready [] = refl
first_ready (door ∷ doors) = elim (cases_Bool (is_ready_door door)) [
  | inl ready ↦ rw ready refl
  | inr rests ↦ rw rests (first_ready doors)
]

message_same : (door : Option NamedDoor) → message_at (option_map forget_door door) ≡ message_at door
message_same None = refl
message_same (Some door) = refl

going_by : (message : Option (Message DoorContent)) (moment : ℕ) (doors : List NamedDoor) → gone_on_by message moment (map forget_door doors) ≡ map forget_door (gone_on_by message moment doors)
going_by None moment doors = changed is_ready_door source.Caller (command.Turn moment) doors (λ door. refl)
going_by (Some message) moment doors =
    ap (delivered message) (changed is_ready_door source.Caller command.TakeOut doors (λ door. refl))
    ∙ changed (has_id message.target) (source.Message message.sender message.number) (command.Post Info message.content) (change_first is_ready_door (door_told_by source.Caller command.TakeOut) doors) (λ door. refl)

going : (moment : ℕ) (doors : List NamedDoor) → gone_on moment (map forget_door doors) ≡ map forget_door (gone_on moment doors)
going moment doors =
    ap (λ (message : Option (Message DoorContent)). gone_on_by message moment (map forget_door doors)) (ap message_at (first_ready doors) ∙ message_same (find is_ready_door doors))
    ∙ going_by (message_at (find is_ready_door doors)) moment doors

idle : (steps moment : ℕ) (doors : List NamedDoor) → run_until_idle steps moment (map forget_door doors) ≡ map forget_door (run_until_idle steps moment doors)
unfolding run_until_idle
idle zero moment doors = refl
idle (suc steps) moment doors = elim (cases_Bool (list_any is_ready_door doors)) [
  | inl ready ↦ rw (any_ready doors, ready, run_until_idle) (ap (run_until_idle steps moment) (going moment doors) ∙ idle steps moment (gone_on moment doors))
  | inr rests ↦ rw (any_ready doors, rests, run_until_idle) refl
]

ticked : (moment : ℕ) (doors : List NamedDoor) → ticked_doors moment (map forget_door doors) ≡ map forget_door (ticked_doors moment doors)
ticked moment [] = refl
ticked moment (door ∷ doors) = ap (λ t. forget_door (told_door (command.Tick moment) door) ∷ t) (ticked moment doors)

expired : (moment : ℕ) (doors : List NamedDoor) → all_expired_of moment (map forget_door doors) ≡ all_expired_of moment doors
expired moment [] = refl
expired moment (door ∷ doors) =
    sum_by-cons (expired_of moment) (forget_door door) (map forget_door doors)
    ∙ (ap (λ (n : ℕ). expired_of moment door + n) (expired moment doors) ∙ sym (sum_by-cons (expired_of moment) door doors))

slots : (doors : List NamedDoor) → slots_of (map forget_door doors) ≡ slots_of doors
slots [] = refl
slots (door ∷ doors) = ap (λ t. door.machine.id.slot ∷ t) (slots doors)

without : (name : List ℕ) (doors : List NamedDoor) → without_door name (map forget_door doors) ≡ map forget_door (without_door name doors)
without name [] = refl
without name (door ∷ doors) = elim (cases_Bool (has_name name door)) [
  | inl passes ↦ rw passes refl
  | inr fails ↦ rw fails (ap (λ t. forget_door door ∷ t) (without name doors))
]

named : (doors : List NamedDoor) → flat_map (λ (door : NamedDoor). space ∷ door.name) (map forget_door doors) ≡ flat_map (λ (door : NamedDoor). space ∷ door.name) doors
named [] = refl
named (door ∷ doors) = ap (λ t. (space ∷ door.name) ++ t) (named doors)

-- ---- actions
told_changed : (script : ScriptState) (name : List ℕ) (command : Command DoorContent) → with_told (forget script) name command ≡ forget (with_told script name command)
told_changed script name command =
    ap (λ (doors : List NamedDoor). record script { traced = false; doors = doors }) (changed (has_name name) (source_of command) command script.doors (λ door. refl))

told_or_not : (script : ScriptState) (name : List ℕ) (command : Command DoorContent) (refusal : Option Refusal)
    → told_by (forget script) name command refusal ≡ forget_acted (told_by script name command refusal)
told_or_not script name command None = ap Ok (told_changed script name command)
told_or_not script name command (Some refusal) = refl

told_at : (script : ScriptState) (name : List ℕ) (command : Command DoorContent) (door : Option NamedDoor)
    → told_script (forget script) name command (option_map forget_door door) ≡ forget_acted (told_script script name command door)
told_at script name command None = refl
told_at script name command (Some door) = told_or_not script name command _

told : (script : ScriptState) (name : List ℕ) (command : Command DoorContent)
    → told_script (forget script) name command (door_of name (map forget_door script.doors)) ≡ forget_acted (told_script script name command (door_of name script.doors))
told script name command = rw (found name script.doors) (told_at script name command (door_of name script.doors))

relayed : (script : ScriptState) (name : List ℕ) (digit : ℕ) (door target : Option NamedDoor)
    → relayed_by (forget script) name digit (option_map forget_door door) (option_map forget_door target) ≡ forget_acted (relayed_by script name digit door target)
relayed script name digit None target = refl
relayed script name digit (Some door) None = refl
relayed script name digit (Some door) (Some target) = told_at script name (relays target.machine.id digit) (Some door)

free : (doors : List NamedDoor) → free_slot_of (map forget_door doors) ≡ free_slot_of doors
free doors =
    ap (λ (n : ℕ). least_from n 0 (slots_of (map forget_door doors))) (length-map doors forget_door)
    ∙ ap (λ (taken : List ℕ). least_from (length doors) 0 taken) (slots doors)

start_same : (script : ScriptState) (code : List ℕ) → door_start_of (forget script) code ≡ door_start_of script code
start_same script code =
    ap (λ (slot : ℕ). start_of door_callbacks the_door (record { slot = slot; serial = script.started + 1 }) (init_of code) script.moment 1) (free script.doors)

started : (script : ScriptState) (name : List ℕ) (start : DoorStart) → with_start (forget script) name start ≡ forget_acted (with_start script name start)
started script name (Ok (Running core report)) =
    ap (λ (doors : List NamedDoor). Ok (record script { traced = false; doors = doors; started = script.started + 1 })) (sym (map-append forget_door script.doors _))
started script name (Ok Ignored) = refl
started script name (Ok (Stopped reason)) = refl
started script name (Err refused) = refl

new_if : (script : ScriptState) (name code : List ℕ) (reserved : Bool)
    → (if reserved then with_start (forget script) name (door_start_of (forget script) code) else Err Full)
    ≡ forget_acted (if reserved then with_start script name (door_start_of script code) else Err Full)
new_if script name code true = ap (with_start (forget script) name) (start_same script code) ∙ started script name (door_start_of script code)
new_if script name code false = refl

new_or_not : (script : ScriptState) (name code : List ℕ) (taken : Option NamedDoor)
    → new_door (forget script) name code (option_map forget_door taken) ≡ forget_acted (new_door script name code taken)
new_or_not script name code (Some taken) = refl
new_or_not script name code None =
    ap (λ (n : ℕ). if nat_lt n door_limit then with_start (forget script) name (door_start_of (forget script) code) else Err Full) (length-map script.doors forget_door)
    ∙ new_if script name code (nat_lt (length script.doors) door_limit)

shown : (script : ScriptState) (door : Option NamedDoor) → shown_door (forget script) (option_map forget_door door) ≡ forget_acted (shown_door script door)
shown script None = refl
shown script (Some door) = refl

removed_if : (script : ScriptState) (name : List ℕ) (over : Bool) → removed_by (forget script) name over ≡ forget_acted (removed_by script name over)
removed_if script name false = refl
removed_if script name true = ap (λ (doors : List NamedDoor). Ok (record script { traced = false; doors = doors })) (without name script.doors)

removed : (script : ScriptState) (name : List ℕ) (door : Option NamedDoor) → removed_door (forget script) name (option_map forget_door door) ≡ forget_acted (removed_door script name door)
removed script name None = refl
removed script name (Some door) = removed_if script name (is_over door.machine)

passed : (script : ScriptState) (moment : ℕ) → passed_to (forget script) moment ≡ forget_acted (passed_to script moment)
passed script moment = elim (cases_Bool (nat_lt moment (2 ^ 63))) [
  | inl early ↦ rw early (ap (λ (doors : List NamedDoor). Ok (record script { traced = false; doors = doors; moment = max script.moment moment })) (ticked (max script.moment moment) script.doors))
  | inr late ↦ rw late refl
]

acted : (script : ScriptState) (line : Line) → acted_of (forget script) line ≡ forget_acted (acted_of script line)
acted script line.Blank = refl
acted script line.Malformed = refl
acted script (line.New name code) = rw (found name script.doors) (new_or_not script name code (door_of name script.doors))
acted script (line.Button name digit) = told script name (presses digit)
acted script (line.Show name) = rw (found name script.doors) (shown script (door_of name script.doors))
acted script (line.At moment) = passed script moment
acted script (line.Stop name reason) = told script name (command.Stop reason)
acted script (line.Remove name) = rw (found name script.doors) (removed script name (door_of name script.doors))
acted script (line.Length name) = told script name asks
acted script (line.Relay name target digit) =
    rw (found name script.doors, found target script.doors) (relayed script name digit (door_of name script.doors) (door_of target script.doors))
acted script line.Names = refl

-- ---- what is printed
status_or_not : (door : Option NamedDoor) → option_map_or status_of (option_map forget_door door) [] ≡ option_map_or status_of door []
status_or_not None = refl
status_or_not (Some door) = refl

status : (name : List ℕ) (script : ScriptState) → status_finished name (forget script) ≡ forget_after (status_finished name script)
status name script = ap (λ (text : List ℕ). (text, forget script)) (rw (found name script.doors) (status_or_not (door_of name script.doors)))

collected : (script : ScriptState) (name : List ℕ) (tag : Tag) (door : Option NamedDoor)
    → length_collected (forget script) name tag (option_map forget_door door) ≡ forget_after (length_collected script name tag door)
collected script name tag None = refl
collected script name tag (Some door) = ap (λ (after : ScriptState). (length_text name (length_in (told_of (command.Collect tag) door).0), after)) (told_changed script name (command.Collect tag))

length_said : (name : List ℕ) (asked : Option NamedDoor) (script : ScriptState)
    → length_finished name (option_map forget_door asked) (forget script) ≡ forget_after (length_finished name asked script)
length_said name None script = refl
length_said name (Some asked) script = rw (found name script.doors) (collected script name _ (door_of name script.doors))

finished : (before : ScriptState) (line : Line) (script : ScriptState) → finished_of (forget before) line (forget script) ≡ forget_after (finished_of before line script)
finished before line.Blank script = refl
finished before line.Malformed script = refl
finished before (line.New name code) script = status name script
finished before (line.Button name digit) script = status name script
finished before (line.Show name) script = status name script
finished before (line.At moment) script = ap (λ (n : ℕ). (expired_text script.moment n, forget script)) (expired script.moment before.doors)
finished before (line.Stop name reason) script = status name script
finished before (line.Remove name) script = refl
finished before (line.Length name) script = rw (found name before.doors) (length_said name (door_of name before.doors) script)
finished before (line.Relay name target digit) script = status target script
finished before line.Names script = ap (λ (names : List ℕ). ((codes "names" ++ names) ++ line_feed ∷ [], forget script)) (named script.doors)

-- ---- lines
rested : (script : ScriptState) → rested_of (forget script) ≡ forget (rested_of script)
rested script = ap (λ (doors : List NamedDoor). record script { traced = false; doors = doors }) (idle turn_limit script.moment script.doors)

by_acted : (script : ScriptState) (line : Line) (done : Result ScriptState Refusal)
    → effect_of (forget script) (finished_of (forget script) line) (forget_acted done) ≡ forget_after (effect_of script (finished_of script line) done)
by_acted script line (Err refusal) = refl
by_acted script line (Ok done) =
    ap (λ (s : ScriptState). printing (finished_of (forget script) line s)) (rested done)
    ∙ ap printing (finished script line (rested_of done))

by_line : (script : ScriptState) (line : Line)
    → effect_of (forget script) (finished_of (forget script) line) (acted_of (forget script) line) ≡ forget_after (effect_of script (finished_of script line) (acted_of script line))
by_line script line =
    ap (effect_of (forget script) (finished_of (forget script) line)) (acted script line) ∙ by_acted script line (acted_of script line)

-- a line comes to the same
stepped : (script : ScriptState) (line : Line) → step_of (forget script) line ≡ forget_after (step_of script line)
stepped script line.Blank = refl
stepped script line.Malformed = refl
stepped script (line.New name code) = by_line script (line.New name code)
stepped script (line.Button name digit) = by_line script (line.Button name digit)
stepped script (line.Show name) = by_line script (line.Show name)
stepped script (line.At moment) = by_line script (line.At moment)
stepped script (line.Stop name reason) = by_line script (line.Stop name reason)
stepped script (line.Remove name) = by_line script (line.Remove name)
stepped script (line.Length name) = by_line script (line.Length name)
stepped script (line.Relay name target digit) = by_line script (line.Relay name target digit)
stepped script line.Names = by_line script line.Names

-- and so lines are refused or malformed alike
pub faulty : (script : ScriptState) (lines : List (List ℕ)) → faulty_from (forget script) lines ≡ faulty_from script lines
faulty script [] = refl
faulty script (bytes ∷ more) =
    ap (λ (done : Effect × ScriptState). is_fault done.0 || faulty_from done.1 more) (stepped script (line_of bytes))
    ∙ ap (λ (rest : Bool). is_fault (step_of script (line_of bytes)).0 || rest) (faulty (step_of script (line_of bytes)).1 more)
