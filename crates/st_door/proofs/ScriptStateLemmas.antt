-- What a script keeps of its doors, and what a line makes of them.
use Rattle.std.proofs.Common.{◌≡◌, ℕ, zero, suc, ◌+◌, ◌<◌, ◌≤◌, ◌^◌, ◌-◌, min, ◌≢◌, ◌⊎◌, nat_eq, Bool, true, false, nat_lt, List, [], ◌∷◌, ◌++◌, length, get_or, set, Option, Some, None, Result, Ok, Err, refl, ap, sym, ◌∙◌, arith, inl, inr, bytes_eq, length-append, lt-ltb, if◌then◌else◌}
use Rattle.std.specs.List.{find}
use Rattle.std.proofs.lemmas.Bool.{cases_Bool, cases_lt}
use Rattle.std.proofs.lemmas.List.{length-map, set-get_or, length-set, map-append, get_or-set_other, get_or_append_left}
use Rattle.std.proofs.Math.Seq.{get_or-append_seam}
use Rattle.std.proofs.lemmas.Slice.Eq.{bytes_eq-Decides}
use Rattle.st_events.specs.declared.machine_id.MachineId.{MachineId}
use Rattle.st_events.specs.declared.refusal.Refusal.{Refusal}
use Rattle.st_events.specs.declared.refusal.Refusal.TheVariants.{AlreadyStarted, NoSuchName, NotStopped}
use Rattle.st_events.specs.declared.tag.Tag.{Tag}
use Rattle.st_answers.specs.declared.answer.Answer.TheVariants as answer
use Rattle.st_answers.specs.declared.command.Command.{Command}
use Rattle.st_answers.specs.declared.command.Command.TheVariants as command
use Rattle.st_core.specs.Start.{first_state, start_of}
use Rattle.st_core.specs.Choice.{is_ready_of}
use Rattle.st_answers.specs.declared.report.Report.{Report}
use Rattle.st_core.specs.declared.start.Start.TheVariants.{Running}
use Rattle.st_doors.specs.Door.{init_of}
use Rattle.st_doors.specs.Entries.{DoorCore}
use Rattle.st_doors.specs.declared.door_content.DoorContent.{DoorContent}
use Rattle.st_doors.specs.declared.door_state.DoorState.{DoorState}
use Rattle.st_doors.specs.declared.door_state.DoorState.TheVariants.{Locked}
use Rattle.st_door.specs.declared.line.Line.TheVariants as line
use Rattle.st_door.specs.declared.effect.Effect.{Effect}
use Rattle.st_door.specs.declared.effect.Effect.TheVariants.{Printed, Refuses}
use Rattle.st_doors.specs.Doors.{NamedDoor, KeptDoor, DoorMachine, IsFirst, IsKept, SameLabels, asks, door_callbacks, door_limit, door_at_first, door_named, door_of, free_slot_of, has_name, is_over, is_ready_door, least_from, length_in, next_tag_of, refusal_in, relays, slots_of, source_of, kept_of, told_door, told_of, without_door}
use Rattle.st_doors.specs.Printing.{length_text, removed_text, status_of}
use Rattle.st_doors.specs.Slots.{occurrences, AreMarked, HaveSameMarks, IsLeastFree}
use Rattle.st_door.specs.Script.{ScriptState, door_start_of, effect_of, length_collected, length_finished, named_status_of, next_id_of, printing, relayed_by, removed_by, removed_door, rested_of, status_finished, step_of, the_door, told_script, with_start, without_named}
use Rattle.st_doors.proofs.DoorLemmas.{IsFirst-within, IsFirst-changed, IsFirst-found, IsFirst-map, IsFirst-of_map}
use Rattle.st_doors.proofs.IdleLemmas.{no_door, labels-set, labels-told, labels-more}
use Rattle.st_doors.proofs.SlotLemmas.{least-free, marked-taken, marked-same, marked-freed, freed-within}
use Rattle.st_doors.proofs.ToldLemmas.{kept-refused, tagged-next}

-- ---- what is kept of the doors
-- a door that rests goes to the end, and takes its place in the table
pub kept-pushed : (doors : List NamedDoor) (marks : List Bool) (from until : ℕ) (door : NamedDoor) (slot : ℕ) → IsKept doors marks from until
    → length doors < door_limit → IsLeastFree marks slot → door.machine.id.slot ≡ slot → is_ready_door door ≡ false
    → IsKept (doors ++ door ∷ []) (set marks slot true) from until
kept-pushed doors marks from until door slot kept reserved least same rests = record {
  ordered = kept.ordered;
  within = rw length-append (omega (arith, kept.within));
  few = rw length-append (omega arith);
  marked = rw (map-append (λ (d : NamedDoor). d.machine.id.slot) doors (door ∷ []), same)
      (marked-taken marks (slots_of doors) slot kept.marked least.within least.free);
  resting = λ k d less outside. elim (cases_lt k (length doors)) [
    | inl before ↦ rw get_or_append_left (kept.resting k d before outside)
    | inr after ↦
        let here : k ≡ length doors = omega (arith, less, length-append doors (door ∷ [])) in
        rw (here, get_or-append_seam) rests
  ];
}

-- the same places are marked
pub kept-marked : (doors : List NamedDoor) (old new : List Bool) (from until : ℕ) → HaveSameMarks old new → IsKept doors old from until → IsKept doors new from until
kept-marked doors old new from until same kept = record {
  ordered = kept.ordered;
  within = kept.within;
  few = kept.few;
  marked = marked-same old new (slots_of doors) same kept.marked;
  resting = kept.resting;
}

-- another door of the same id is at a place under the same name, and may be ready
pub kept-set : (doors : List NamedDoor) (marks : List Bool) (from until place low high : ℕ) (door : KeptDoor) → IsKept doors marks from until → place < length doors
    → door.machine.id ≡ (get_or doors place no_door).machine.id
    → low ≤ place → place < high → high ≤ length doors → (from < until → (low ≤ from) × (until ≤ high))
    → IsKept (set doors place (door_named (get_or doors place no_door).name door)) marks low high
kept-set doors marks from until place low high door kept within same below above bounded wider = record {
  ordered = omega arith;
  within = rw length-set bounded;
  few = rw length-set kept.few;
  marked = rw (labels-set doors place no_door door within same).slots kept.marked;
  resting = λ k d less outside.
      let other : k ≢ place = elim outside [ inl before ↦ omega arith | inr after ↦ omega arith ] in
      let there : k < length doors = omega (arith, less, length-set {A = NamedDoor}) in
      rw get_or-set_other (kept.resting k d there (elim (cases_lt from until) [
        | inl some ↦ let w : (low ≤ from) × (until ≤ high) = wider some in elim outside [ inl before ↦ inl (omega arith) | inr after ↦ inr (omega arith) ]
        | inr none ↦ elim (cases_lt k from) [ inl before ↦ inl before | inr after ↦ inr (omega arith) ]
      ]));
}

-- ---- a door less
-- the place of a door that is gone occurs once less
occurrences-without : (name : List ℕ) (doors : List NamedDoor) (place : ℕ) (d : NamedDoor) → IsFirst (has_name name) doors place
    → (slot : ℕ) → occurrences slot (slots_of doors)
    ≡ occurrences slot (slots_of (without_door name doors)) + (if nat_eq (get_or doors place d).machine.id.slot slot then 1 else 0)
occurrences-without name [] place d first slot = absurd first
occurrences-without name (door ∷ doors) zero d first slot = rw first (omega arith)
occurrences-without name (door ∷ doors) (suc place) d first slot =
    let rest = occurrences-without name doors place d first.1 slot in
    rw first.0 (omega (arith, rest))

length-without : (name : List ℕ) (doors : List NamedDoor) (place : ℕ) → IsFirst (has_name name) doors place
    → length doors ≡ length (without_door name doors) + 1
length-without name [] place first = absurd first
length-without name (door ∷ doors) zero first = rw first (omega arith)
length-without name (door ∷ doors) (suc place) first =
    let rest : length doors ≡ length (without_door name doors) + 1 = length-without name doors place first.1 in
    rw first.0 (omega (arith, rest))

length-slots : (doors : List NamedDoor) → length (slots_of doors) ≡ length doors
length-slots doors = length-map doors (λ (door : NamedDoor). door.machine.id.slot)

-- the place of a door has a mark
pub slot-marked : (doors : List NamedDoor) (marks : List Bool) (name : List ℕ) (place : ℕ) (d : NamedDoor) → AreMarked marks (slots_of doors) → IsFirst (has_name name) doors place
    → (get_or doors place d).machine.id.slot < length marks
slot-marked doors marks name place d marked first =
    freed-within marks (slots_of doors) (slots_of (without_door name doors)) (get_or doors place d).machine.id.slot marked (occurrences-without name doors place d first)

-- what is below the end is not below the least of both
at_most : (until end k : ℕ) → min until end ≤ k → k < end → until ≤ k
at_most until end k after less = grind (arith, after, less)

-- a door that is left was at the same place before, or one place further
get_or-without : (name : List ℕ) (doors : List NamedDoor) (place k : ℕ) (d : NamedDoor) → IsFirst (has_name name) doors place
    → (get_or (without_door name doors) k d ≡ get_or doors k d) ⊎ (get_or (without_door name doors) k d ≡ get_or doors (suc k) d)
get_or-without name [] place k d first = absurd first
get_or-without name (door ∷ doors) zero k d first = rw first (inr refl)
get_or-without name (door ∷ doors) (suc place) zero d first = rw first.0 (inl refl)
get_or-without name (door ∷ doors) (suc place) (suc k) d first = rw first.0 (get_or-without name doors place k d first.1)

-- a door is gone, and its place in the table is free; those that are left rest as before, at the same place or one further up
pub kept-without : (doors : List NamedDoor) (marks : List Bool) (from until : ℕ) (name : List ℕ) (place : ℕ) → IsKept doors marks from until → IsFirst (has_name name) doors place
    → IsKept (without_door name doors) (set marks (get_or doors place no_door).machine.id.slot false) (from - 1) (min until (length (without_door name doors)))
kept-without doors marks from until name place kept first =
    let fewer : length doors ≡ length (without_door name doors) + 1 = length-without name doors place first in
    record {
      ordered = grind (arith, fewer, kept.ordered, kept.within);
      within = grind arith;
      few = omega (arith, fewer, kept.few);
      marked = marked-freed marks (slots_of doors) (slots_of (without_door name doors)) (get_or doors place no_door).machine.id.slot kept.marked
          (occurrences-without name doors place no_door first) (length-slots doors ∙ (fewer ∙ ap (λ (n : ℕ). n + 1) (sym (length-slots (without_door name doors)))));
      resting = λ k d less outside.
          let there : (k + 1 < from) ⊎ (until ≤ k) = elim outside [ inl before ↦ inl (omega arith) | inr after ↦ inr (at_most until (length (without_door name doors)) k after less) ] in
          elim (get_or-without name doors place k d first) [
            | inl same ↦ rw same (kept.resting k d (omega (arith, fewer)) (elim there [ inl before ↦ inl (omega arith) | inr after ↦ inr after ]))
            | inr same ↦ rw same (kept.resting (suc k) d (omega (arith, fewer)) (elim there [ inl before ↦ inl (omega arith) | inr after ↦ inr (omega arith) ]))
          ];
    }

-- ---- the place of a name
-- the place is found by the names alone
pub IsFirst-labels : (name : List ℕ) (old new : List NamedDoor) (place : ℕ) → SameLabels old new → IsFirst (has_name name) old place → IsFirst (has_name name) new place
IsFirst-labels name old new place same first =
    let name_of : NamedDoor → List ℕ = λ (door : NamedDoor). door.name in
    IsFirst-of_map (λ (door : NamedDoor). door.name) (bytes_eq name) new place
    (rw same.names (IsFirst-map (λ (door : NamedDoor). door.name) (bytes_eq name) old place first))

pub IsFirst-last : {X : Type 0} (test : X → Bool) (xs : List X) (x : X) → find test xs ≡ None → test x ≡ true → IsFirst test (xs ++ x ∷ []) (length xs)
IsFirst-last test [] x none passes = passes
IsFirst-last test (y ∷ ys) x none passes = elim (cases_Bool (test y)) [
  | inl found ↦ let some = rw found at none in cc
  | inr fails ↦ let rest = rw fails at none in (fails, IsFirst-last test ys x rest passes)
]

-- the status of a name is that of the door at its place
pub named-status : (name : List ℕ) (script : ScriptState) (place : ℕ) (d : NamedDoor) → IsFirst (has_name name) script.doors place
    → named_status_of script name ≡ status_of (get_or script.doors place d)
named-status name script place d first = rw (IsFirst-found (has_name name) script.doors place d first) refl

-- ---- commands
-- the script with the door at a place told a command
abbrev pub told_at : ScriptState → Command DoorContent → ℕ → ScriptState
told_at script command place = record script { doors = set script.doors place (told_door command (get_or script.doors place no_door)) }

-- a command that is refused
pub told_script-refused : (script : ScriptState) (name : List ℕ) (command : Command DoorContent) (place : ℕ) (refusal : Refusal) → IsFirst (has_name name) script.doors place
    → Some refusal ≡ refusal_in (told_of command (get_or script.doors place no_door)).0
    → told_script script name command (door_of name script.doors) ≡ Err refusal
told_script-refused script name command place refusal first refused =
    rw (IsFirst-found (has_name name) script.doors place no_door first, ← refused) refl

-- it leaves the script as it was
pub told_at-refused : (script : ScriptState) (command : Command DoorContent) (place : ℕ) (refusal : Refusal)
    → Some refusal ≡ refusal_in (told_of command (get_or script.doors place no_door)).0
    → told_at script command place ≡ script
told_at-refused script command place refusal refused =
    let door : NamedDoor = get_or script.doors place no_door in
    ap (λ (kept : KeptDoor). record script { doors = set script.doors place (door_named door.name kept) }) (kept-refused command (kept_of door) refusal (sym refused))
    ∙ ap (λ (doors : List NamedDoor). record script { doors = doors }) (set-get_or script.doors place no_door)

-- a command that is accepted is done at its door
pub told_script-accepted : (script : ScriptState) (name : List ℕ) (command : Command DoorContent) (place : ℕ) → IsFirst (has_name name) script.doors place
    → None ≡ refusal_in (told_of command (get_or script.doors place no_door)).0
    → told_script script name command (door_of name script.doors) ≡ Ok (told_at script command place)
told_script-accepted script name command place first accepted =
    rw (
      IsFirst-found (has_name name) script.doors place no_door first,
      ← accepted,
      IsFirst-changed (has_name name) (told_door command) script.doors place no_door first,
    ) refl

-- a name has its place still, once a door was told a command and the doors rest
pub first-still : (script told idle : ScriptState) (name : List ℕ) (command : Command DoorContent) (place other : ℕ) → place < length script.doors
    → IsFirst (has_name name) script.doors other → told ≡ told_at script command place → SameLabels told.doors idle.doors → IsFirst (has_name name) idle.doors other
first-still script told idle name command place other within first is_told rests =
    let labels : SameLabels script.doors told.doors = rw is_told (labels-told script.doors place no_door (source_of command) command within) in
    IsFirst-labels name script.doors idle.doors other (labels-more script.doors told.doors idle.doors labels rests) first

-- and each place is one still
pub still-within : (script told idle : ScriptState) (command : Command DoorContent) (place other : ℕ) → place < length script.doors → other < length script.doors
    → told ≡ told_at script command place → SameLabels told.doors idle.doors → other < length idle.doors
still-within script told idle command place other within less is_told rests =
    let labels : SameLabels script.doors told.doors = rw is_told (labels-told script.doors place no_door (source_of command) command within) in
    let whole = labels-more script.doors told.doors idle.doors labels rests in
    let same : length idle.doors ≡ length script.doors =
    sym (length-slots idle.doors) ∙ (ap (λ (slots : List ℕ). length slots) whole.slots ∙ length-slots script.doors) in
    rw same less

-- and so has the name of that door
pub first-told : (script told idle : ScriptState) (name : List ℕ) (command : Command DoorContent) (place : ℕ) → IsFirst (has_name name) script.doors place
    → told ≡ told_at script command place → SameLabels told.doors idle.doors → IsFirst (has_name name) idle.doors place
first-told script told idle name command place first is_told rests =
    first-still script told idle name command place place (IsFirst-within (has_name name) script.doors place first) first is_told rests

-- what a command comes to that is refused
pub command-refused : (script : ScriptState) (name : List ℕ) (command : Command DoorContent) (place : ℕ) (refusal : Refusal) → IsFirst (has_name name) script.doors place
    → Some refusal ≡ refusal_in (told_of command (get_or script.doors place no_door)).0
    → (finish : ScriptState → List ℕ × ScriptState)
    → effect_of script finish (told_script script name command (door_of name script.doors)) ≡ (Refuses refusal, script)
command-refused script name command place refusal first refused finish =
    ap (effect_of script finish) (told_script-refused script name command place refusal first refused)

-- and one that is accepted
pub command-done : (script : ScriptState) (name target : List ℕ) (command : Command DoorContent) (place : ℕ) → IsFirst (has_name name) script.doors place
    → None ≡ refusal_in (told_of command (get_or script.doors place no_door)).0
    → effect_of script (status_finished target) (told_script script name command (door_of name script.doors))
    ≡ (Printed (named_status_of (rested_of (told_at script command place)) target), rested_of (told_at script command place))
command-done script name target command place first accepted =
    ap (effect_of script (status_finished target)) (told_script-accepted script name command place first accepted)

-- ---- lengths
-- what is printed of the reply to the call of a tag, and the script after it, with the door at a place
abbrev pub length_at : ScriptState → List ℕ → ℕ → Tag → List ℕ × ScriptState
length_at script name place tag = (length_text name (length_in (told_of (command.Collect tag) (get_or script.doors place no_door)).0), told_at script (command.Collect tag) place)

-- the door of a name stands at its place
collected-there : (script : ScriptState) (name : List ℕ) (place : ℕ) (tag : Tag) → IsFirst (has_name name) script.doors place
    → length_collected script name tag (door_of name script.doors) ≡ length_at script name place tag
collected-there script name place tag first =
    rw (
      IsFirst-found (has_name name) script.doors place no_door first,
      IsFirst-changed (has_name name) (told_door (command.Collect tag)) script.doors place no_door first,
    ) refl

-- what a line comes to that asks for a length
pub length-done : (script idle : ScriptState) (name : List ℕ) (place : ℕ) (tag : Tag) → IsFirst (has_name name) script.doors place
    → answer.Post (Ok tag.request) ≡ (told_of asks (get_or script.doors place no_door)).0
    → tag.machine ≡ (get_or script.doors place no_door).machine.id
    → idle ≡ rested_of (told_at script asks place) → IsFirst (has_name name) idle.doors place
    → step_of script (line.Length name) ≡ printing (length_at idle name place tag)
length-done script idle name place tag first accepted asked rested there =
    let door : NamedDoor = get_or script.doors place no_door in
    let next : next_tag_of door ≡ tag = tagged-next door.machine tag accepted asked in
    ap (λ (acted : Result ScriptState Refusal). effect_of script (length_finished name (door_of name script.doors)) acted)
    (told_script-accepted script name asks place first (ap refusal_in accepted))
    ∙ (ap (λ (found : Option NamedDoor). printing (length_finished name found (rested_of (told_at script asks place)))) (IsFirst-found (has_name name) script.doors place no_door first)
    ∙ (ap (λ (s : ScriptState). printing (length_collected s name (next_tag_of door) (door_of name s.doors))) (sym rested)
    ∙ (ap (λ (t : Tag). printing (length_collected idle name t (door_of name idle.doors))) next
    ∙ ap printing (collected-there idle name place tag there))))

-- ---- shows
pub show-done : (script : ScriptState) (name : List ℕ) (place : ℕ) → IsFirst (has_name name) script.doors place
    → step_of script (line.Show name) ≡ (Printed (named_status_of (rested_of script) name), rested_of script)
show-done script name place first = rw (IsFirst-found (has_name name) script.doors place no_door first) refl

-- ---- starts
pub new-taken : (script : ScriptState) (name code : List ℕ) (place : ℕ) → IsFirst (has_name name) script.doors place
    → step_of script (line.New name code) ≡ (Refuses (AlreadyStarted (get_or script.doors place no_door).machine.id), script)
new-taken script name code place first = rw (IsFirst-found (has_name name) script.doors place no_door first) refl

pub new-done : (script acted : ScriptState) (name code : List ℕ) → door_of name script.doors ≡ None → length script.doors < door_limit
    → with_start script name (door_start_of script code) ≡ Ok acted
    → step_of script (line.New name code) ≡ (Printed (named_status_of (rested_of acted) name), rested_of acted)
new-done script acted name code free reserved started = rw (free, lt-ltb _ _ reserved, started) refl

-- a door that has started stands behind the others, under its name, and rests
pub new-place : (script acted : ScriptState) (name code : List ℕ) → door_of name script.doors ≡ None
    → with_start script name (door_start_of script code) ≡ Ok acted → IsFirst (has_name name) acted.doors (length script.doors)
new-place script acted name code free started = elim (cases_Bool (nat_lt script.moment (2 ^ 63))) [
  | inl early ↦
      let went = rw early at started in
      let door : NamedDoor = door_named name (door_at_first script.traced (first_state (next_id_of script) Locked (record { code = code; buttons = [] }) script.moment 1)) in
      let acts : record script { doors = script.doors ++ door ∷ []; started = script.started + 1 } ≡ acted = cc in
      rw (← acts) (IsFirst-last (has_name name) script.doors door free ((bytes_eq-Decides name name).1 refl))
  | inr late ↦ let went = rw late at started in cc
]

-- a door that starts: its id is the next one, and it is at rest
pub started-state : (script : ScriptState) (code : List ℕ) (core : DoorCore) (report : Report DoorState)
    → Ok (Running core report) ≡ door_start_of script code
    → (core.machine.id ≡ next_id_of script) × (is_ready_of core.machine ≡ false)
started-state script code core report started = elim (cases_Bool (nat_lt script.moment (2 ^ 63))) [
  | inl early ↦
      let went = rw early at started in
      let same : core.machine ≡ first_state (next_id_of script) Locked (record { code = code; buttons = [] }) script.moment 1 = cc in
      (ap (λ (machine : DoorMachine). machine.id) same, ap (λ (machine : DoorMachine). is_ready_of machine) same)
  | inr late ↦ let went = rw late at started in cc
]

-- the place that a start is given is the next one
pub next-slot : (doors : List NamedDoor) (marks : List Bool) (slot : ℕ) → AreMarked marks (slots_of doors) → IsLeastFree marks slot → free_slot_of doors ≡ slot
next-slot doors marks slot marked least =
    ap (λ (n : ℕ). least_from n 0 (slots_of doors)) (sym (length-slots doors)) ∙ least-free marks (slots_of doors) slot marked least

-- and so is the id
pub given-id : (script : ScriptState) (code : List ℕ) (slot serial : ℕ) → free_slot_of script.doors ≡ slot → serial ≡ script.started + 1
    → start_of door_callbacks the_door (record { slot = slot; serial = serial }) (init_of code) script.moment 1 ≡ door_start_of script code
given-id script code slot serial free counted =
    let next : record { slot = slot; serial = serial } ≡ next_id_of script = rw (free, counted) refl in
    ap (λ (id : MachineId). start_of door_callbacks the_door id (init_of code) script.moment 1) next

-- a door that starts has the place that it was given
pub started-slot : (script : ScriptState) (code : List ℕ) (core : DoorCore) (report : Report DoorState) (slot : ℕ) → free_slot_of script.doors ≡ slot
    → Ok (Running core report) ≡ door_start_of script code → core.machine.id.slot ≡ slot
started-slot script code core report slot free started =
    ap (λ (id : MachineId). id.slot) (started-state script code core report started).0 ∙ free

-- the script with a door that runs
pub started-script : (script : ScriptState) (name code : List ℕ) (core : DoorCore) (report : Report DoorState) (after : List NamedDoor) (serial : ℕ)
    → Ok (Running core report) ≡ door_start_of script code → serial ≡ script.started + 1
    → after ≡ script.doors ++ door_named name (door_at_first script.traced core.machine) ∷ []
    → with_start script name (door_start_of script code) ≡ Ok (record { traced = script.traced; doors = after; moment = script.moment; started = serial })
started-script script name code core report after serial started counted pushed = rw (← started, counted, pushed) refl

-- ---- removals
-- a door that is not over stays
pub remove-refused : (script : ScriptState) (name : List ℕ) (place : ℕ) → IsFirst (has_name name) script.doors place
    → is_over (get_or script.doors place no_door).machine ≡ false
    → step_of script (line.Remove name) ≡ (Refuses NotStopped, script)
remove-refused script name place first runs =
    ap (λ (found : Option NamedDoor). effect_of script (λ s. (removed_text name, s)) (removed_door script name found)) (IsFirst-found (has_name name) script.doors place no_door first)
    ∙ ap (λ (over : Bool). effect_of script (λ s. (removed_text name, s)) (removed_by script name over)) runs

-- and one that is goes
pub remove-done : (script : ScriptState) (name : List ℕ) (place : ℕ) → IsFirst (has_name name) script.doors place
    → is_over (get_or script.doors place no_door).machine ≡ true
    → step_of script (line.Remove name) ≡ (Printed (removed_text name), rested_of (without_named script name))
remove-done script name place first ends =
    ap (λ (found : Option NamedDoor). effect_of script (λ s. (removed_text name, s)) (removed_door script name found)) (IsFirst-found (has_name name) script.doors place no_door first)
    ∙ ap (λ (over : Bool). effect_of script (λ s. (removed_text name, s)) (removed_by script name over)) ends

-- ---- relays
relay-lost : (script : ScriptState) (name : List ℕ) (digit : ℕ) (door : Option NamedDoor) → relayed_by script name digit door None ≡ Err NoSuchName
relay-lost script name digit None = refl
relay-lost script name digit (Some door) = refl

-- neither name may be missing
pub relay-nameless : (script : ScriptState) (name target : List ℕ) (digit : ℕ) → door_of name script.doors ≡ None
    → step_of script (line.Relay name target digit) ≡ (Refuses NoSuchName, script)
relay-nameless script name target digit none = rw none refl

pub relay-aimless : (script : ScriptState) (name target : List ℕ) (digit : ℕ) → door_of target script.doors ≡ None
    → step_of script (line.Relay name target digit) ≡ (Refuses NoSuchName, script)
relay-aimless script name target digit none =
    ap (λ (found : Option NamedDoor). effect_of script (status_finished target) (relayed_by script name digit (door_of name script.doors) found)) none
    ∙ ap (effect_of script (status_finished target)) (relay-lost script name digit (door_of name script.doors))

-- a door is told to send a button to the one at another place, whose id this is
module _ (script : ScriptState) (name target : List ℕ) (digit place aim : ℕ) (id : MachineId) (first : IsFirst (has_name name) script.doors place)
    (second : IsFirst (has_name target) script.doors aim) (same : id ≡ (get_or script.doors aim no_door).machine.id) where
  pub relay-acted : relayed_by script name digit (door_of name script.doors) (door_of target script.doors) ≡ told_script script name (relays id digit) (door_of name script.doors)
  relay-acted =
      rw (IsFirst-found (has_name name) script.doors place no_door first, IsFirst-found (has_name target) script.doors aim no_door second, same) refl

-- ---- the reply once the doors rest
pub idle-effect : (script idle : ScriptState) (name : List ℕ) (place : ℕ) (said : Effect × ScriptState) (effect : Effect)
    → idle ≡ rested_of script → said ≡ (Printed (named_status_of (rested_of script) name), rested_of script)
    → IsFirst (has_name name) idle.doors place → effect ≡ Printed (status_of (get_or idle.doors place no_door))
    → effect ≡ said.0
idle-effect script idle name place said effect rested done first says =
    says
    ∙ (ap (λ (text : List ℕ). Printed text) (sym (named-status name idle place no_door first))
    ∙ (ap (λ (s : ScriptState). Printed (named_status_of s name)) rested ∙ sym (ap (λ (s : Effect × ScriptState). s.0) done)))

pub idle-script : (script idle : ScriptState) (name : List ℕ) (said : Effect × ScriptState)
    → idle ≡ rested_of script → said ≡ (Printed (named_status_of (rested_of script) name), rested_of script) → idle ≡ said.1
idle-script script idle name said rested done = rested ∙ sym (ap (λ (s : Effect × ScriptState). s.1) done)
