-- A door is told a command: what it answers, and what stays as it was.
use Rattle.std.proofs.Common.{◌≡◌, ℕ, ◌^◌, nat_lt, false, List, Option, Some, None, refl, ap, ◌∙◌, inl, inr, ◌⊎◌, append-nil}
use Rattle.std.specs.Prelude.{Result, Ok, Err, OnOk, OnErr}
use Rattle.std.proofs.Math.Path.{fun_ext}
use Rattle.std.proofs.lemmas.Bool.{cases_Bool}
use Rattle.st_core.specs.Choice.{next_event_of}
use Rattle.st_core.specs.Callbacks.{Called, callbacks_of, called_of}
use Rattle.st_answers.specs.declared.answer.Answer.TheVariants as answer
use Rattle.st_answers.specs.declared.command.Command.{Command}
use Rattle.st_answers.specs.declared.command.Command.TheVariants as command
use Rattle.st_answers.specs.declared.entry.Entry.{Entry}
use Rattle.st_core.specs.Post.{next_tag, post_running}
use Rattle.st_core.specs.Run.{step_of}
use Rattle.st_core.specs.Stop.{stop_running, unless_ended}
use Rattle.st_core.specs.Tick.{tick_running}
use Rattle.st_core.specs.Transition.{turn_running, transition_of, with_moment, concluded, left_by, went_on, has_numbers}
use Rattle.st_events.specs.declared.event.Event.{Event}
use Rattle.st_events.specs.declared.machine_id.MachineId.{MachineId}
use Rattle.st_events.specs.declared.refusal.Refusal.{Refusal}
use Rattle.st_events.specs.declared.tag.Tag.{Tag}
use Rattle.st_journal.specs.declared.source.Source.{Source}
use Rattle.st_doors.specs.contracts.door.DoorModule.TheImpl.{ghosts}
use Rattle.st_doors.specs.contracts.door_state.DoorStatePartialEq.TheImpl.{eq-value}
use Rattle.st_doors.specs.declared.door.Door.{Door}
use Rattle.st_doors.specs.declared.door_content.DoorContent.{DoorContent}
use Rattle.st_doors.specs.declared.door_data.DoorData.{DoorData}
use Rattle.st_doors.specs.declared.door_state.DoorState.{DoorState}
use Rattle.st_doors.specs.declared.door_state.DoorState.TheVariants.{Locked, Open}
use Rattle.st_doors.specs.Door.{is_same_state}
use Rattle.st_doors.specs.Doors.{DoorAnswer, DoorEntry, DoorMachine, History, KeptDoor, asks, door_callbacks, history_told, is_recorded, kept_told_by, refusal_in, refusal_by, post_refusal_by, source_of, told_kept}
use Rattle.st_answers.specs.declared.turned.Turned.TheVariants.{Reported, Idle}

-- ---- a door's callbacks are those of the definition
-- states are compared as the definition compares them
same-states : (one other : DoorState) → eq-value.it one other ≡ is_same_state one other
same-states Locked Locked = refl
same-states Locked Open = refl
same-states Open Locked = refl
same-states Open Open = refl

-- the callbacks that the bound gives for a door are those of the definition
pub given-callbacks : (door : Door) → callbacks_of ghosts eq-value.it door ≡ door_callbacks
given-callbacks door = ap (λ same_state. record door_callbacks { same_state = same_state }) (fun_ext (λ one. fun_ext (λ other. same-states one other)))

-- ---- what a call keeps
-- a machine runs, or it has ended
cases_ended : (ended : Option (ℕ × ℕ)) → (ended ≡ None) ⊎ ((end : ℕ × ℕ) × (ended ≡ Some end))
cases_ended None = inl refl
cases_ended (Some end) = inr (end, refl)

-- once a machine has ended its id stays, and else it does where a call keeps it
id-unless : {A : Type 0} (end : Option (ℕ × ℕ)) (refused : Refusal → A) (machine : DoorMachine) (done : A × DoorMachine)
    → done.1.id ≡ machine.id → (unless_ended end refused machine done).1.id ≡ machine.id
id-unless None refused machine done kept = kept
id-unless (Some end) refused machine done kept = refl

-- what the callbacks of a door come to
abbrev DoorCalled : Type 0
DoorCalled = Called DoorState DoorData DoorContent

-- a turn keeps the machine's id, whether it goes on, ends or is refused
id-went_on : (machine : DoorMachine) (number : ℕ) (called : DoorCalled) → (went_on machine number called).1.id ≡ machine.id
id-went_on machine number called = elim (cases_Bool (has_numbers machine called)) [
  | inl enough ↦ rw enough refl
  | inr none ↦ rw none refl
]

id-concluded : (machine : DoorMachine) (number : ℕ) (called : DoorCalled) (reason : Option ℕ)
    → (concluded door_callbacks machine number called reason).1.id ≡ machine.id
id-concluded machine number called None = id-went_on machine number called
id-concluded machine number called (Some reason) = refl

id-transition : (machine : DoorMachine) (next : Option (Event DoorContent)) → (transition_of door_callbacks machine next).1.id ≡ machine.id
id-transition machine None = refl
id-transition machine (Some event) =
    let called = called_of door_callbacks machine event in
    id-concluded machine event.number called called.reason

id-left : {A : Type 0} (answer : Result A Refusal) (old new : DoorMachine) → new.id ≡ old.id → (left_by answer old new).id ≡ old.id
id-left (Ok answer) old new same = same
id-left (Err refusal) old new same = refl

id-turn : (machine : DoorMachine) (moment : ℕ) → (turn_running door_callbacks machine moment).1.id ≡ machine.id
id-turn machine moment =
    let at : DoorMachine = with_moment machine moment in
    let done = transition_of door_callbacks at (next_event_of at) in
    elim (cases_Bool (nat_lt moment (2 ^ 63))) [
      | inl early ↦ rw early (id-left done.0 machine done.1 (id-transition at (next_event_of at)))
      | inr late ↦ rw late refl
    ]

id-tick : (machine : DoorMachine) (moment : ℕ) → (tick_running machine moment).1.id ≡ machine.id
id-tick machine moment = elim (cases_Bool (nat_lt moment (2 ^ 63))) [
  | inl early ↦ rw early refl
  | inr late ↦ rw late refl
]

id-post : (machine : DoorMachine) (entry : Entry) (content : DoorContent) → (post_running machine entry content).1.id ≡ machine.id
id-post machine entry content = elim (cases_Bool (nat_lt machine.schedule.next_number (2 ^ 63))) [
  | inl reserved ↦ rw reserved refl
  | inr full ↦ rw full refl
]

-- a command keeps the machine's id
pub id-told : (machine : DoorMachine) (command : Command DoorContent) → (step_of door_callbacks machine command).1.id ≡ machine.id
id-told machine (command.Post entry content) = id-unless machine.ended _ machine (post_running machine entry content) (id-post machine entry content)
id-told machine (command.Tick moment) = id-unless machine.ended _ machine (tick_running machine moment) (id-tick machine moment)
id-told machine (command.Turn moment) = id-unless machine.ended _ machine (turn_running door_callbacks machine moment) (id-turn machine moment)
id-told machine (command.Reply tag content) = refl
id-told machine (command.Collect tag) = refl
id-told machine (command.Stop reason) = id-unless machine.ended _ machine (stop_running door_callbacks machine reason) refl
id-told machine command.TakeOut = refl

-- and so does a door that is told one, or is as it was
pub id-after : {A E : Type 0} (result : Result A E) (new old : KeptDoor) (source : Source) (command : Command DoorContent)
    → OnOk result (new ≡ kept_told_by source command old) → OnErr result (new ≡ old) → new.machine.id ≡ old.machine.id
id-after (Ok done) new old source command told unchanged = ap (λ (door : KeptDoor). door.machine.id) told ∙ id-told old.machine command
id-after (Err error) new old source command told unchanged = ap (λ (door : KeptDoor). door.machine.id) unchanged

-- ---- what a refusal leaves
-- a machine that has ended stays, and one that runs does where a refused call leaves it
stays-unless : {A : Type 0} (end : Option (ℕ × ℕ)) (refused : Refusal → A) (refusal_in : A → Option Refusal) (machine : DoorMachine) (done : A × DoorMachine) (refusal : Refusal)
    → (refusal_in done.0 ≡ Some refusal → done.1 ≡ machine)
    → refusal_in (unless_ended end refused machine done).0 ≡ Some refusal → (unless_ended end refused machine done).1 ≡ machine
stays-unless None refused refusal_in machine done refusal stays is = stays is
stays-unless (Some end) refused refusal_in machine done refusal stays is = refl

stays-left : {A : Type 0} (answer : Result A Refusal) (old new : DoorMachine) (refusal : Refusal) → refusal_by answer ≡ Some refusal → left_by answer old new ≡ old
stays-left (Ok answer) old new refusal refused = cc
stays-left (Err why) old new refusal refused = refl

stays-turn : (machine : DoorMachine) (moment : ℕ) (refusal : Refusal) → refusal_by (turn_running door_callbacks machine moment).0 ≡ Some refusal
    → (turn_running door_callbacks machine moment).1 ≡ machine
stays-turn machine moment refusal refused =
    let at : DoorMachine = with_moment machine moment in
    let done = transition_of door_callbacks at (next_event_of at) in
    elim (cases_Bool (nat_lt moment (2 ^ 63))) [
      | inl early ↦ rw early (stays-left done.0 machine done.1 refusal (rw early at refused))
      | inr late ↦ rw late refl
    ]

stays-tick : (machine : DoorMachine) (moment : ℕ) (refusal : Refusal) → refusal_by (tick_running machine moment).0 ≡ Some refusal
    → (tick_running machine moment).1 ≡ machine
stays-tick machine moment refusal refused = elim (cases_Bool (nat_lt moment (2 ^ 63))) [
  | inl early ↦ let none = rw early at refused in cc
  | inr late ↦ rw late refl
]

stays-post : (machine : DoorMachine) (entry : Entry) (content : DoorContent) (refusal : Refusal)
    → post_refusal_by (post_running machine entry content).0 ≡ Some refusal → (post_running machine entry content).1 ≡ machine
stays-post machine entry content refusal refused = elim (cases_Bool (nat_lt machine.schedule.next_number (2 ^ 63))) [
  | inl reserved ↦ let none = rw reserved at refused in cc
  | inr full ↦ rw full refl
]

-- a command that is refused leaves the machine as it was
pub told-refused : (machine : DoorMachine) (command : Command DoorContent) (refusal : Refusal)
    → refusal_in (step_of door_callbacks machine command).0 ≡ Some refusal → (step_of door_callbacks machine command).1 ≡ machine
told-refused machine (command.Post entry content) refusal refused =
    stays-unless machine.ended _ post_refusal_by machine (post_running machine entry content) refusal (stays-post machine entry content refusal) refused
told-refused machine (command.Tick moment) refusal refused =
    stays-unless machine.ended _ refusal_by machine (tick_running machine moment) refusal (stays-tick machine moment refusal) refused
told-refused machine (command.Turn moment) refusal refused =
    stays-unless machine.ended _ refusal_by machine (turn_running door_callbacks machine moment) refusal (stays-turn machine moment refusal) refused
told-refused machine (command.Reply tag content) refusal refused = cc
told-refused machine (command.Collect tag) refusal refused = cc
told-refused machine (command.Stop reason) refusal refused =
    stays-unless machine.ended _ refusal_by machine (stop_running door_callbacks machine reason) refusal (λ none. cc) refused
told-refused machine command.TakeOut refusal refused = cc

-- nor is it recorded
pub refused-not-recorded : (said : DoorAnswer) (refusal : Refusal) → refusal_in said ≡ Some refusal → is_recorded said ≡ false
refused-not-recorded (answer.Post (Ok number)) refusal refused = cc
refused-not-recorded (answer.Post (Err why)) refusal refused = refl
refused-not-recorded (answer.Tick (Ok expired)) refusal refused = cc
refused-not-recorded (answer.Tick (Err why)) refusal refused = refl
refused-not-recorded (answer.Turn (Ok (Reported report))) refusal refused = cc
refused-not-recorded (answer.Turn (Ok Idle)) refusal refused = refl
refused-not-recorded (answer.Turn (Err why)) refusal refused = refl
refused-not-recorded (answer.Reply taken) refusal refused = cc
refused-not-recorded (answer.Collect shown) refusal refused = cc
refused-not-recorded (answer.Stop (Ok word)) refusal refused = cc
refused-not-recorded (answer.Stop (Err why)) refusal refused = refl
refused-not-recorded (answer.TakeOut message) refusal refused = cc

-- a history stays where nothing is recorded
history-same : (source : Source) (command : Command DoorContent) (said : DoorAnswer) (history : Option History) → is_recorded said ≡ false → history_told source command said history ≡ history
history-same source command said None none = refl
history-same source command said (Some history) none =
    rw none (ap (λ (entries : List DoorEntry). Some (record { from = history.from; entries = entries })) (append-nil history.entries))

-- so a command that is refused leaves the door as it was
pub kept-refused : (command : Command DoorContent) (door : KeptDoor) (refusal : Refusal)
    → refusal_in (step_of door_callbacks door.machine command).0 ≡ Some refusal → told_kept command door ≡ door
kept-refused command door refusal refused =
    let said = (step_of door_callbacks door.machine command).0 in
    ap (λ (machine : DoorMachine). record { machine = machine; history = history_told (source_of command) command said door.history }) (told-refused door.machine command refusal refused)
    ∙ ap (λ (history : Option History). record { machine = door.machine; history = history }) (history-same (source_of command) command said door.history (refused-not-recorded said refusal refused))

-- ---- the tag of a call
same-tag : (id : MachineId) (number : ℕ) (tag : Tag) → tag.machine ≡ id → tag.request ≡ number → record { machine = id; request = number } ≡ tag
same-tag id number tag one other = rw (← one, ← other) refl

-- it is the one that the machine gives next, if the call is accepted
pub tagged-next : (machine : DoorMachine) (tag : Tag) → answer.Post (Ok tag.request) ≡ (step_of door_callbacks machine asks).0
    → tag.machine ≡ machine.id → next_tag machine ≡ tag
tagged-next machine tag accepted same = elim (cases_ended machine.ended) [
  | inl runs ↦ elim (cases_Bool (nat_lt machine.schedule.next_number (2 ^ 63))) [
    | inl reserved ↦
        let number = rw (runs, reserved) at accepted in
        let next : tag.request ≡ machine.schedule.next_number = cc in
        same-tag machine.id machine.schedule.next_number tag same next
    | inr full ↦ let never = rw (runs, full) at accepted in cc
  ]
  | inr end ↦ let never = rw end.1 at accepted in cc
]
