-- Doors that are ticked late: what is seen of them, and that it stays so.
use Rattle.std.proofs.Common.{◌≡◌, ℕ, zero, suc, ◌+◌, ◌^◌, ◌<◌, ◌≤◌, nat_lt, Bool, true, false, ◌&&◌, List, [], ◌∷◌, ◌++◌, length, get_or, set, map, Option, Some, None, is_none, is_some, IfSome, IfNone, Ok, Err, refl, ap, sym, ◌∙◌, arith, inl, inr}
use Rattle.std.specs.Global.{Box}
use Rattle.std.specs.List.{find, flat_map}
use Rattle.std.proofs.lemmas.Bool.{cases_Bool}
use Rattle.std.proofs.lemmas.List.{length-set}
use Rattle.std.proofs.lemmas.List.Sums.{sum_by-cons}
use Rattle.st_core.specs.Choice.{has_message_of, is_ready_of, next_due_of}
use Rattle.st_core.specs.Run.{step_of}
use Rattle.st_core.specs.Tick.{expiring_of}
use Rattle.st_core.specs.Transition.{with_moment}
use Rattle.st_answers.specs.declared.answer.Answer.TheVariants as answer
use Rattle.st_answers.specs.declared.command.Command.{Command}
use Rattle.st_answers.specs.declared.command.Command.TheVariants as command
use Rattle.st_events.specs.declared.machine_id.MachineId.{MachineId}
use Rattle.st_events.specs.declared.refusal.Refusal.TheVariants.{Stopped}
use Rattle.st_outbox.specs.declared.outbox.Outbox.{Outbox}
use Rattle.st_outbox.specs.Outbox.{has_messages}
use Rattle.st_scheduled.specs.ScheduledMachine.{same_id}
use Rattle.st_journal.specs.declared.source.Source.{Source}
use Rattle.st_journal.specs.declared.source.Source.TheVariants as source
use Rattle.st_doors.specs.declared.door_content.DoorContent.{DoorContent}
use Rattle.st_doors.specs.Doors.{DoorAnswer, DoorMachine, History, IsFirst, IsKept, KeptDoor, NamedDoor, SameLabels, all_expired_of, count_in, door_callbacks, door_named, door_of, door_told_by, expired_of, has_name, history_told, is_over, is_ready_door, kept_of, kept_told_by, names_of, slots_of, ticked_doors, told_door, told_kept, without_door}
use Rattle.st_doors.specs.Entries.{DoorCellState, door_in, machine_in, past_in}
use Rattle.st_doors.specs.Late.{IsInTime, IsQuietAt, IsQuietUntil, caught_by, caught_kept, caught_up, is_late, later, later_by}
use Rattle.st_doors.specs.Lines.{space}
use Rattle.st_doors.specs.Settling.{has_id}
use Rattle.st_doors.specs.Printing.{names_text, status_of}
use Rattle.st_doors.specs.Traces.{trace_of_door}
use Rattle.st_doors.proofs.IdleLemmas.{no_door}
use Rattle.st_doors.proofs.ToldLemmas.{id-told}
use Rattle.st_doors.proofs.LateLemmas.{cases_ended, later-seen, later-ended, later-saw, later-told, later-twice, tick-later, tick-nothing, nothing-expires, nothing-ever}

-- ---- one door
-- the later moment of two is what counts
caught_by-twice : (history : Option History) (first second : ℕ) (machine : DoorMachine) → first ≤ second → caught_by history second (caught_by history first machine) ≡ caught_by history second machine
caught_by-twice None first second machine order = later-twice first second machine order
caught_by-twice (Some history) first second machine order = refl

pub caught-twice : (first second : ℕ) (door : KeptDoor) → first ≤ second → caught_kept second (caught_kept first door) ≡ caught_kept second door
caught-twice first second door order =
    ap (λ (machine : DoorMachine). record door { machine = machine }) (caught_by-twice door.history first second door.machine order)

-- a door that is not late stays
not_late-by : (history : Option History) (moment : ℕ) (machine : DoorMachine) → (is_none history && (is_none machine.ended && nat_lt machine.latest moment)) ≡ false
    → caught_by history moment machine ≡ machine
not_late-by None moment machine is = elim (cases_ended machine.ended) [
  | inl runs ↦ let late = rw runs at is in later-seen moment machine (grind (arith, late))
  | inr ended ↦ later-ended moment machine ended.0 ended.1
]
not_late-by (Some history) moment machine is = refl

pub caught-not_late : (moment : ℕ) (door : KeptDoor) → is_late moment door ≡ false → caught_kept moment door ≡ door
caught-not_late moment door is = ap (λ (machine : DoorMachine). record door { machine = machine }) (not_late-by door.history moment door.machine is)

-- and one that is late is not as it would be
late-differs : (history : Option History) (moment : ℕ) (machine : DoorMachine) → (is_none history && (is_none machine.ended && nat_lt machine.latest moment)) ≡ true
    → caught_by history moment machine ≡ machine → ⊥
late-differs None moment machine is same = elim (cases_ended machine.ended) [
  | inl runs ↦ let late = rw runs at is in let seen : moment ≤ machine.latest = later-saw moment machine runs same in grind (arith, late, seen)
  | inr ended ↦ let never = rw ended.1 at is in cc
]
late-differs (Some history) moment machine is same = cc

-- a late door is made up for by a tick
pub late-ticked : (moment due : ℕ) (door : KeptDoor) → is_late moment door ≡ true → IsInTime moment due door → told_kept (command.Tick moment) door ≡ caught_kept moment door
late-ticked moment due door is it = elim it.caught [
  | inl same ↦ absurd (late-differs door.history moment door.machine is (ap (λ (d : KeptDoor). d.machine) same))
  | inr told ↦ told
]

-- a command leaves a door that has seen a moment so
told-caught-by : (history : Option History) (moment : ℕ) (machine : DoorMachine) (source : Source) (command : Command DoorContent) (said : DoorAnswer) → caught_by history moment machine ≡ machine
    → caught_by (history_told source command said history) moment (step_of door_callbacks machine command).1 ≡ (step_of door_callbacks machine command).1
told-caught-by None moment machine source command said same = later-told door_callbacks machine command moment same
told-caught-by (Some history) moment machine source command said same = refl

pub told-caught : (moment : ℕ) (door : KeptDoor) (source : Source) (command : Command DoorContent) → caught_kept moment door ≡ door
    → caught_kept moment (kept_told_by source command door) ≡ kept_told_by source command door
told-caught moment door source command same =
    let told : KeptDoor = kept_told_by source command door in
    ap (λ (machine : DoorMachine). record told { machine = machine })
    (told-caught-by door.history moment door.machine source command (step_of door_callbacks door.machine command).0 (ap (λ (d : KeptDoor). d.machine) same))

-- a tick makes up for an earlier one
tick-caught-by : (history : Option History) (first second : ℕ) (machine : DoorMachine) → first ≤ second → second < 2 ^ 63
    → step_of door_callbacks (caught_by history first machine) (command.Tick second) ≡ step_of door_callbacks machine (command.Tick second)
tick-caught-by None first second machine order below = tick-later door_callbacks machine first second order below
tick-caught-by (Some history) first second machine order below = refl

pub tick-caught : (first second : ℕ) (door : KeptDoor) → first ≤ second → second < 2 ^ 63 → told_kept (command.Tick second) (caught_kept first door) ≡ told_kept (command.Tick second) door
tick-caught first second door order below =
    ap (λ (told : DoorAnswer × DoorMachine). record { machine = told.1; history = history_told source.Caller (command.Tick second) told.0 door.history })
    (tick-caught-by door.history first second door.machine order below)

pub count-caught : (first second : ℕ) (door : KeptDoor) → first ≤ second → second < 2 ^ 63
    → count_in (step_of door_callbacks (caught_kept first door).machine (command.Tick second)).0 ≡ count_in (step_of door_callbacks door.machine (command.Tick second)).0
count-caught first second door order below =
    ap (λ (told : DoorAnswer × DoorMachine). count_in told.0) (tick-caught-by door.history first second door.machine order below)

-- ---- a door in time
-- once it was made up for
pub in_time-caught : (late due : ℕ) (door : KeptDoor) → due ≤ 2 ^ 63 → IsInTime late due door → IsInTime late due (caught_kept late door)
in_time-caught late due door bounded it = record {
  caught = inl (caught-twice late late door (omega arith));
  quiet = λ moment low less.
      let below : moment < 2 ^ 63 = omega (arith, less, bounded) in
      let here = it.quiet moment low less in
      record {
        told = tick-caught late moment door low below ∙ (here.told ∙ sym (caught-twice late moment door low));
        none = count-caught late moment door low below ∙ here.none;
      };
}

-- at first
pub in_time-quiet : (late due : ℕ) (door : KeptDoor) → caught_kept late door ≡ door → IsQuietUntil due door → IsInTime late due door
in_time-quiet late due door same until = record { caught = inl same; quiet = λ moment low less. until moment less }

-- ---- before what moment nothing is due
pub quiet-said : (machine : DoorMachine) (moment : ℕ) (said : DoorAnswer) → step_of door_callbacks machine (command.Tick moment) ≡ (said, later moment machine) → count_in said ≡ 0
    → IsQuietAt moment (record { machine = machine; history = None })
quiet-said machine moment said is zero_said = record {
  told = ap (λ (told : DoorAnswer × DoorMachine). record { machine = told.1; history = history_told source.Caller (command.Tick moment) told.0 None }) is;
  none = ap (λ (told : DoorAnswer × DoorMachine). count_in told.0) is ∙ zero_said;
}

-- a door that has ended
pub quiet-ended : (machine : DoorMachine) (due : ℕ) (end : ℕ × ℕ) → machine.ended ≡ Some end → IsQuietUntil due (record { machine = machine; history = None })
quiet-ended machine due end is = λ moment less. quiet-said machine moment (answer.Tick (Err (Stopped end.0))) (rw is refl) refl

-- one with no time-out that is to come
pub quiet-ever : (machine : DoorMachine) (due : ℕ) → due ≤ 2 ^ 63 → machine.ended ≡ None → next_due_of machine ≡ None → IsQuietUntil due (record { machine = machine; history = None })
quiet-ever machine due bounded runs next = λ moment less.
    quiet-said machine moment (answer.Tick (Ok 0))
    (tick-nothing door_callbacks machine moment runs (omega (arith, less, bounded)) (nothing-ever (with_moment machine moment).latest machine.schedule.pending machine.schedule.running next)) refl

-- and one with such a time-out
pub quiet-before : (machine : DoorMachine) (due next : ℕ) → due ≤ 2 ^ 63 → due ≤ next → machine.latest < next → machine.ended ≡ None → next_due_of machine ≡ Some next
    → IsQuietUntil due (record { machine = machine; history = None })
quiet-before machine due next bounded first seen runs is = λ moment less.
    let now : (with_moment machine moment).latest < next = grind (arith, less, first, seen) in
    quiet-said machine moment (answer.Tick (Ok 0))
    (tick-nothing door_callbacks machine moment runs (omega (arith, less, bounded)) (nothing-expires (with_moment machine moment).latest next machine.schedule.pending machine.schedule.running is now)) refl

-- ---- what is read off a door
ready-by : (end : Option (ℕ × ℕ)) (moment : ℕ) (machine : DoorMachine) → is_ready_of (later_by end moment machine) ≡ is_ready_of machine
ready-by None moment machine = refl
ready-by (Some end) moment machine = refl

outbox-by : (end : Option (ℕ × ℕ)) (moment : ℕ) (machine : DoorMachine) → (later_by end moment machine).outbox ≡ machine.outbox
outbox-by None moment machine = refl
outbox-by (Some end) moment machine = refl

id-by : (end : Option (ℕ × ℕ)) (moment : ℕ) (machine : DoorMachine) → (later_by end moment machine).id ≡ machine.id
id-by None moment machine = refl
id-by (Some end) moment machine = refl

status-by : (end : Option (ℕ × ℕ)) (moment : ℕ) (door : NamedDoor) → status_of (record door { machine = later_by end moment door.machine }) ≡ status_of door
status-by None moment door = refl
status-by (Some end) moment door = refl

by_history : {X : Type 0} (f : DoorMachine → X) (history : Option History) (moment : ℕ) (machine : DoorMachine) → f (later moment machine) ≡ f machine
    → f (caught_by history moment machine) ≡ f machine
by_history f None moment machine same = same
by_history f (Some history) moment machine same = refl

pub ready-caught : (moment : ℕ) (door : NamedDoor) → is_ready_door (caught_up moment door) ≡ is_ready_door door
ready-caught moment door = by_history (λ (machine : DoorMachine). is_ready_of machine) door.history moment door.machine (ready-by door.machine.ended moment door.machine)

pub id-caught : (moment : ℕ) (door : NamedDoor) → (caught_up moment door).machine.id ≡ door.machine.id
id-caught moment door = by_history (λ (machine : DoorMachine). machine.id) door.history moment door.machine (id-by door.machine.ended moment door.machine)

pub message-caught : (moment : ℕ) (door : NamedDoor) → has_message_of (caught_up moment door).machine ≡ has_message_of door.machine
message-caught moment door =
    by_history (λ (machine : DoorMachine). has_message_of machine) door.history moment door.machine
    (ap (λ (outbox : Outbox DoorContent). has_messages outbox.messages) (outbox-by door.machine.ended moment door.machine))

over-by : (end : Option (ℕ × ℕ)) (moment : ℕ) (machine : DoorMachine) → is_over (later_by end moment machine) ≡ is_over machine
over-by None moment machine = refl
over-by (Some end) moment machine = refl

pub over-caught : (moment : ℕ) (door : NamedDoor) → is_over (caught_up moment door).machine ≡ is_over door.machine
over-caught moment door = by_history (λ (machine : DoorMachine). is_over machine) door.history moment door.machine (over-by door.machine.ended moment door.machine)

pub status-caught : (moment : ℕ) (door : NamedDoor) → status_of (caught_up moment door) ≡ status_of door
status-caught moment door =
    by_history (λ (machine : DoorMachine). status_of (record door { machine = machine })) door.history moment door.machine (status-by door.machine.ended moment door)

trace-by : (history : Option History) (moment : ℕ) (name : List ℕ) (machine : DoorMachine)
    → trace_of_door (record { name = name; machine = caught_by history moment machine; history = history }) ≡ trace_of_door (record { name = name; machine = machine; history = history })
trace-by None moment name machine = refl
trace-by (Some history) moment name machine = refl

pub trace-caught : (moment : ℕ) (door : NamedDoor) → trace_of_door (caught_up moment door) ≡ trace_of_door door
trace-caught moment door = trace-by door.history moment door.name door.machine

-- ---- the doors
pub at-caught : (late place : ℕ) (doors : List NamedDoor) (d : NamedDoor) → place < length doors → get_or (map (caught_up late) doors) place d ≡ caught_up late (get_or doors place no_door)
at-caught late place [] d less = absurd (omega arith)
at-caught late zero (door ∷ doors) d less = refl
at-caught late (suc place) (door ∷ doors) d less = at-caught late place doors d (omega arith)

pub length-caught : (late : ℕ) (doors : List NamedDoor) → length (map (caught_up late) doors) ≡ length doors
length-caught late [] = refl
length-caught late (door ∷ doors) = ap suc (length-caught late doors)

pub names-caught : (late : ℕ) (doors : List NamedDoor) → names_text (map (caught_up late) doors) ≡ names_text doors
names-caught late doors = rw (flat_map-caught doors) refl
  where
    flat_map-caught : (doors : List NamedDoor) → flat_map (λ (door : NamedDoor). space ∷ door.name) (map (caught_up late) doors) ≡ flat_map (λ (door : NamedDoor). space ∷ door.name) doors
    flat_map-caught [] = refl
    flat_map-caught (door ∷ doors) = ap (λ t. (space ∷ door.name) ++ t) (flat_map-caught doors)

pub labels-caught : (first second : ℕ) (doors : List NamedDoor) → SameLabels (map (caught_up first) doors) (map (caught_up second) doors)
labels-caught first second doors = record { names = names doors; slots = slots doors }
  where
    names : (doors : List NamedDoor) → names_of (map (caught_up second) doors) ≡ names_of (map (caught_up first) doors)
    names [] = refl
    names (door ∷ doors) = ap (λ t. door.name ∷ t) (names doors)

    slots : (doors : List NamedDoor) → slots_of (map (caught_up second) doors) ≡ slots_of (map (caught_up first) doors)
    slots [] = refl
    slots (door ∷ doors) = rw (id-caught first door, id-caught second door, slots doors) refl

-- no door of a name is there, whether the ticks were made up for or not
pub free-caught : (late : ℕ) (name : List ℕ) (doors : List NamedDoor) → door_of name (map (caught_up late) doors) ≡ None → door_of name doors ≡ None
free-caught late name [] none = refl
free-caught late name (door ∷ doors) none = elim (cases_Bool (has_name name door)) [
  | inl same ↦ let some = rw same at none in cc
  | inr other ↦ rw other (free-caught late name doors (rw other at none))
]

pub without-caught : (late : ℕ) (name : List ℕ) (doors : List NamedDoor) → map (caught_up late) (without_door name doors) ≡ without_door name (map (caught_up late) doors)
without-caught late name [] = refl
without-caught late name (door ∷ doors) = elim (cases_Bool (has_name name door)) [
  | inl same ↦ rw same refl
  | inr other ↦ rw other (ap (λ t. caught_up late door ∷ t) (without-caught late name doors))
]

-- a door at which a tick was made up for is seen as before
pub caught-set : (late place : ℕ) (doors : List NamedDoor) → map (caught_up late) (set doors place (caught_up late (get_or doors place no_door))) ≡ map (caught_up late) doors
caught-set late place [] = refl
caught-set late zero (door ∷ doors) = ap (λ (kept : KeptDoor). door_named door.name kept ∷ map (caught_up late) doors) (caught-twice late late (kept_of door) (omega arith))
caught-set late (suc place) (door ∷ doors) = ap (λ t. caught_up late door ∷ t) (caught-set late place doors)

-- a tick is made up for at one place, and its door is told a command
abbrev pub caught_at : ℕ → ℕ → List NamedDoor → List NamedDoor
caught_at late place doors = set doors place (caught_up late (get_or doors place no_door))

abbrev pub told_at : Source → Command DoorContent → ℕ → List NamedDoor → List NamedDoor
told_at source command place doors = set doors place (door_told_by source command (get_or doors place no_door))

pub caught-told : (late place : ℕ) (source : Source) (command : Command DoorContent) (doors : List NamedDoor) (d : NamedDoor) → place < length doors
    → map (caught_up late) (told_at source command place (caught_at late place doors)) ≡ set (map (caught_up late) doors) place (door_told_by source command (get_or (map (caught_up late) doors) place d))
caught-told late place source command [] d less = absurd (omega arith)
caught-told late zero source command (door ∷ doors) d less =
    ap (λ (kept : KeptDoor). door_named door.name kept ∷ map (caught_up late) doors)
    (told-caught late (caught_kept late (kept_of door)) source command (caught-twice late late (kept_of door) (omega arith)))
caught-told late (suc place) source command (door ∷ doors) d less = ap (λ t. caught_up late door ∷ t) (caught-told late place source command doors d (omega arith))

-- the door at the place is the one that is seen there
pub at-caught_at : (late place : ℕ) (doors : List NamedDoor) (d e : NamedDoor) → place < length doors → get_or (caught_at late place doors) place e ≡ get_or (map (caught_up late) doors) place d
at-caught_at late place [] d e less = absurd (omega arith)
at-caught_at late zero (door ∷ doors) d e less = refl
at-caught_at late (suc place) (door ∷ doors) d e less = at-caught_at late place doors d e (omega arith)

-- ---- doors of which no time-out expires
ready-none : (machine : DoorMachine) (moment : ℕ) → count_in (step_of door_callbacks machine (command.Tick moment)).0 ≡ 0
    → is_ready_of (step_of door_callbacks machine (command.Tick moment)).1 ≡ is_ready_of machine
ready-none machine moment none = elim (cases_ended machine.ended) [
  | inl runs ↦ elim (cases_Bool (nat_lt moment (2 ^ 63))) [
    | inl early ↦
        let count = rw (runs, early) at none in
        let nothing : expiring_of (with_moment machine moment) ≡ [] = length_zero (expiring_of (with_moment machine moment)) count in
        let same = tick-nothing door_callbacks machine moment runs (grind (arith, early)) nothing in
        ap (λ (told : DoorAnswer × DoorMachine). is_ready_of told.1) same ∙ ready-by machine.ended moment machine
    | inr late ↦ rw (runs, late) refl
  ]
  | inr ended ↦ rw ended.1 refl
]
  where
    length_zero : {X : Type 0} (xs : List X) → length xs ≡ 0 → xs ≡ []
    length_zero [] is = refl
    length_zero (x ∷ xs) is = cc

none-at : (moment place : ℕ) (doors : List NamedDoor) (d : NamedDoor) → all_expired_of moment doors ≡ 0 → place < length doors → expired_of moment (get_or doors place d) ≡ 0
none-at moment place [] d none less = absurd (omega arith)
none-at moment zero (door ∷ doors) d none less =
    let sum : expired_of moment door + all_expired_of moment doors ≡ 0 = sym (sum_by-cons (expired_of moment) door doors) ∙ none in
    omega (arith, sum)
none-at moment (suc place) (door ∷ doors) d none less =
    let sum : expired_of moment door + all_expired_of moment doors ≡ 0 = sym (sum_by-cons (expired_of moment) door doors) ∙ none in
    none-at moment place doors d (omega (arith, sum)) (omega arith)

at-ticked : (moment place : ℕ) (doors : List NamedDoor) (d : NamedDoor) → place < length doors
    → get_or (ticked_doors moment doors) place d ≡ told_door (command.Tick moment) (get_or doors place no_door)
at-ticked moment place [] d less = absurd (omega arith)
at-ticked moment zero (door ∷ doors) d less = refl
at-ticked moment (suc place) (door ∷ doors) d less = at-ticked moment place doors d (omega arith)

length-ticked : (moment : ℕ) (doors : List NamedDoor) → length (ticked_doors moment doors) ≡ length doors
length-ticked moment [] = refl
length-ticked moment (door ∷ doors) = ap suc (length-ticked moment doors)

slots-ticked : (moment : ℕ) (doors : List NamedDoor) → slots_of (ticked_doors moment doors) ≡ slots_of doors
slots-ticked moment [] = refl
slots-ticked moment (door ∷ doors) = rw (id-told door.machine (command.Tick moment), slots-ticked moment doors) refl

-- those that rest do so after the tick
pub kept-quiet : (moment : ℕ) (doors : List NamedDoor) (marks : List Bool) (from until : ℕ) → IsKept doors marks from until → all_expired_of moment doors ≡ 0
    → IsKept (ticked_doors moment doors) marks from until
kept-quiet moment doors marks from until kept none = record {
  ordered = kept.ordered;
  within = rw (length-ticked moment doors) kept.within;
  few = rw (length-ticked moment doors) kept.few;
  marked = rw (slots-ticked moment doors) kept.marked;
  resting = λ k d less outside.
      let there : k < length doors = rw (length-ticked moment doors) at less in
      rw (at-ticked moment k doors d there)
      (ready-none (get_or doors k no_door).machine moment (none-at moment k doors no_door none there) ∙ kept.resting k no_door there outside);
}

-- ---- what is seen at a place
pub some_more : {T : Type 0} (P Q : T → Type 0) (o : Option T) → ((x : T) → P x → Q x) → IfSome o P → IfSome o Q
some_more P Q (Some x) f h = f x h
some_more P Q None f h = h

pub none_more : {T : Type 0} (P Q : Type 0) (o : Option T) → (P → Q) → IfNone o P → IfNone o Q
none_more P Q (Some x) f h = h
none_more P Q None f h = f h

pub within-caught : (late place : ℕ) (doors seen : List NamedDoor) → map (caught_up late) doors ≡ seen → place < length seen → place < length doors
within-caught late place doors seen is less =
    let there : place < length (map (caught_up late) doors) = rw is less in
    rw (length-caught late doors) at there

-- the place of the first door that passes a test is the same, and so is it that none does
pub first-caught : (late : ℕ) (test : NamedDoor → Bool) (doors : List NamedDoor) (place : ℕ) → ((door : NamedDoor) → test (caught_up late door) ≡ test door)
    → IsFirst test doors place → IsFirst test (map (caught_up late) doors) place
first-caught late test [] place same first = first
first-caught late test (door ∷ doors) zero same first = same door ∙ first
first-caught late test (door ∷ doors) (suc place) same first = (same door ∙ first.0, first-caught late test doors place same first.1)

pub missing-caught : (late : ℕ) (test : NamedDoor → Bool) (doors : List NamedDoor) → ((door : NamedDoor) → test (caught_up late door) ≡ test door)
    → find test doors ≡ None → find test (map (caught_up late) doors) ≡ None
missing-caught late test [] same none = refl
missing-caught late test (door ∷ doors) same none = elim (cases_Bool (test door)) [
  | inl passes ↦ let some = rw passes at none in cc
  | inr fails ↦ rw (same door, fails) (missing-caught late test doors same (rw fails at none))
]

pub has_id-caught : (late : ℕ) (id : MachineId) (door : NamedDoor) → has_id id (caught_up late door) ≡ has_id id door
has_id-caught late id door = ap (same_id id) (id-caught late door)

pub read-caught : {X : Type 0} (f : NamedDoor → X) (late place : ℕ) (doors seen : List NamedDoor) (d : NamedDoor) (a : X) → ((door : NamedDoor) → f (caught_up late door) ≡ f door)
    → map (caught_up late) doors ≡ seen → place < length seen → a ≡ f (get_or doors place no_door) → a ≡ f (get_or seen place d)
read-caught f late place doors seen d a same is less found =
    let there : get_or (map (caught_up late) doors) place d ≡ caught_up late (get_or doors place no_door) = at-caught late place doors d (within-caught late place doors seen is less) in
    found ∙ (sym (same (get_or doors place no_door)) ∙ (ap f (sym there) ∙ ap (λ (all : List NamedDoor). f (get_or all place d)) is))

pub pushed-seen : (late : ℕ) (doors : List NamedDoor) (name : List ℕ) (door : KeptDoor) → is_late late door ≡ false
    → map (caught_up late) (doors ++ door_named name door ∷ []) ≡ map (caught_up late) doors ++ door_named name door ∷ []
pushed-seen late [] name door early = ap (λ (kept : KeptDoor). door_named name kept ∷ []) (caught-not_late late door early)
pushed-seen late (one ∷ doors) name door early = ap (λ t. caught_up late one ∷ t) (pushed-seen late doors name door early)

-- ---- doors, one of which was told a command once a tick was made up for
module _ (late place : ℕ) (one two : List NamedDoor) (caught : two ≡ caught_at late place one) where
  pub caught-seen : map (caught_up late) two ≡ map (caught_up late) one
  caught-seen = rw caught (caught-set late place one)

  module _ (seen : List NamedDoor) (view : map (caught_up late) one ≡ seen) (less : place < length seen) where
    pub caught-within : place < length two
    caught-within =
        let there : map (caught_up late) two ≡ seen = caught-seen ∙ view in
        within-caught late place two seen there less

    -- the door at the place is the one that is seen
    pub caught-here : (d e : NamedDoor) → get_or two place e ≡ get_or seen place d
    caught-here d e = ap (λ (all : List NamedDoor). get_or all place e) caught
        ∙ (at-caught_at late place one d e (within-caught late place one seen view less) ∙ ap (λ (all : List NamedDoor). get_or all place d) view)

    pub told-seen : (source : Source) (command : Command DoorContent) (three : List NamedDoor) (d : NamedDoor) → three ≡ told_at source command place two
        → map (caught_up late) three ≡ set seen place (door_told_by source command (get_or seen place d))
    told-seen source command three d told =
        ap (map (caught_up late)) told
        ∙ (ap (λ (all : List NamedDoor). map (caught_up late) (told_at source command place all)) caught
        ∙ (caught-told late place source command one d (within-caught late place one seen view less)
        ∙ ap (λ (all : List NamedDoor). set all place (door_told_by source command (get_or all place d))) view))

    pub told-within : (source : Source) (command : Command DoorContent) (three : List NamedDoor) → three ≡ told_at source command place two → place < length three
    told-within source command three told = rw (told, length-set) caught-within

-- ---- a door whose history is not kept
pub quiet-cell : (past : Option History) (due : ℕ) (cell : DoorCellState) → past ≡ None → IsQuietUntil due (record { machine = machine_in cell; history = None }) → IsQuietUntil due (door_in past cell)
quiet-cell past due cell not until = rw not until

pub none-when : {X : Type 0} (o : Option X) → is_some o ≡ false → o ≡ None
none-when None is = refl
none-when (Some x) is = cc

pub not-kept : (past : Option (Box History)) → is_some past ≡ false → past_in past ≡ None
not-kept None is = refl
not-kept (Some past) is = cc
