-- What turns and starts answer, and when they take memory.
use Rattle.std.proofs.Common.{◌≡◌, ℕ, zero, suc, ◌+◌, ◌<◌, ◌≤◌, ◌^◌, Bool, true, false, ◌&&◌, ◌||◌, Option, Some, None, List, [], ◌∷◌, ◌++◌, length, refl, ap, sym, ◌∙◌, arith, ◌⊎◌, inl, inr, if◌then◌else◌}
use Rattle.std.specs.Prelude.{Result, Ok, Err, OnOk, nat_le}
use Rattle.std.specs.Result.{is_err}
use Rattle.std.specs.Option.{option_or}
use Rattle.std.specs.List.{range_with_len}
use Rattle.std.proofs.lemmas.Bool.{lt-ltb}
use Rattle.st_events.specs.declared.event.Event.{Event}
use Rattle.st_events.specs.declared.machine_id.MachineId.{MachineId}
use Rattle.st_events.specs.declared.insert.Insert.{Insert}
use Rattle.st_events.specs.declared.refusal.Refusal.{Refusal}
use Rattle.st_events.specs.declared.refusal.Refusal.TheVariants.{Exhausted, NoMemory}
use Rattle.st_events.specs.declared.setting.Setting.{Setting}
use Rattle.st_events.specs.declared.decision.Decision.{Decision}
use Rattle.st_events.specs.declared.tag.Tag.{Tag}
use Rattle.st_events.specs.declared.timer.Timer.{Timer}
use Rattle.st_outbox.specs.declared.outbox.Outbox.{Outbox}
use Rattle.st_requests.specs.declared.request.Request.{Request}
use Rattle.st_agenda.specs.declared.schedule.Schedule.{Schedule}
use Rattle.st_agenda.specs.Agenda.{settled_in}
use Rattle.st_agenda.specs.Items.{numbered, numbers_of}
use Rattle.st_events.specs.declared.outcome.Outcome.{Outcome}
use Rattle.st_answers.specs.declared.call.Call.{Call}
use Rattle.st_core.specs.declared.course.Course.{Course}
use Rattle.st_answers.specs.declared.report.Report.{Report}
use Rattle.st_answers.specs.declared.turned.Turned.{Turned}
use Rattle.st_answers.specs.declared.turned.Turned.TheVariants.{Reported}
use Rattle.st_core.specs.declared.machine_state.MachineState.{MachineState}
use Rattle.st_core.specs.MachineState.{Machine}
use Rattle.st_core.specs.Callbacks.{Callbacks, Called, or_old, differs, asked_by, called_of, called_with, entered_by, is_entered}
use Rattle.st_core.specs.Gathering.{ComesTo, TurnsTo, turned_with}
use Rattle.st_answers.specs.declared.done.Done.{Done}
use Rattle.st_core.specs.declared.gathered.Gathered.{Gathered}
use Rattle.st_core.specs.Choice.{next_event_of}
use Rattle.st_core.specs.Stop.{unless_ended}
use Rattle.st_core.specs.Transition.{with_moment, with_called, with_settled, has_numbers, report_of, left_by, unless_refused, went_on, stopped, concluded, transition_of, turn_running, turn_of}
use Rattle.st_answers.specs.declared.entry.Entry.{Entry}
use Rattle.st_core.specs.Post.{post_of, post_running, post_refused}
use Rattle.st_answers.specs.declared.answer.Answer.TheVariants as answer
use Rattle.st_answers.specs.declared.command.Command.TheVariants as command
use Rattle.st_core.specs.Run.{Meets, Does, turn_takes_memory, turn_without_memory, post_takes_memory}

-- ---- numbers
range_with_len_more : (first count : ℕ) → range_with_len first (count + 1) ≡ range_with_len first count ++ (first + count) ∷ []
range_with_len_more first zero = let same : first + 0 ≡ first = omega arith in rw same refl
range_with_len_more first (suc count) =
    let same : first + suc count ≡ first + 1 + count = omega arith in
    let one : suc count + 1 ≡ suc (count + 1) = omega arith in
    rw (same, one) (ap (λ numbers. first ∷ numbers) (range_with_len_more (first + 1) count))

-- one more number at the end
pub one_number_more : (first count number : ℕ) {numbers after : List ℕ} → numbers ≡ range_with_len first count → number ≡ first + count
    → after ≡ numbers ++ number ∷ [] → after ≡ range_with_len first (count + 1)
one_number_more first count number same is_number change = rw (change, same, is_number) (sym (range_with_len_more first count))

module _ {C : Type 0} where
  -- inserted events have the numbers from the first one on
  pub numbers-numbered : (first : ℕ) (inserts : List (Insert C)) → numbers_of (numbered first inserts) ≡ range_with_len first (length inserts)
  numbers-numbered first [] = refl
  numbers-numbered first (insert ∷ inserts) = ap (λ numbers. first ∷ numbers) (numbers-numbered (first + 1) inserts)

-- ---- memory
module _ {S D C : Type 0} where
  abbrev takes : Result (Turned S) Refusal × MachineState S D C → Bool
  takes done = turn_takes_memory done.0

  of_both : (enough : Bool) (a b : Result (Turned S) Refusal × MachineState S D C) → takes a ≡ true → takes b ≡ true
      → takes (if enough then a else b) ≡ true
  of_both true a b h k = h
  of_both false a b h k = k

  pub went_on_takes_memory : (machine : MachineState S D C) (number : ℕ) (called : Called S D C) → turn_takes_memory (went_on machine number called).0 ≡ true
  went_on_takes_memory machine number called = of_both (has_numbers machine called) _ _ refl refl

  -- what comes of a callback takes memory
  pub concluded_takes_memory : (callbacks : Callbacks S D C) (machine : MachineState S D C) (number : ℕ) (called : Called S D C) (reason : Option ℕ)
      → turn_takes_memory (concluded callbacks machine number called reason).0 ≡ true
  concluded_takes_memory callbacks machine number called None = went_on_takes_memory machine number called
  concluded_takes_memory callbacks machine number called (Some reason) = refl

-- ---- answers
module _ {S D C : Type 0} (callbacks : Callbacks S D C) (old machine : MachineState S D C) (number : ℕ) (called : Called S D C) where
  -- the callbacks give no reason to stop
  pub goes_on : called.reason ≡ None
      → unless_refused old (concluded callbacks machine number called called.reason) ≡ unless_refused old (went_on machine number called)
  goes_on none = ap (λ (reason : Option ℕ). unless_refused old (concluded callbacks machine number called reason)) none

  -- they give one
  pub stops : (reason : ℕ) → called.reason ≡ Some reason
      → unless_refused old (concluded callbacks machine number called called.reason) ≡ stopped callbacks machine number called reason
  stops reason some = ap (λ (reason : Option ℕ). unless_refused old (concluded callbacks machine number called reason)) some

module _ {S D C : Type 0} (old machine after : MachineState S D C) (number : ℕ) (called : Called S D C) where
  -- too few numbers are left
  pub went_on_exhausted : has_numbers machine called ≡ false
      → Meets turn_takes_memory turn_without_memory (Err Exhausted) old old (unless_refused old (went_on machine number called))
  went_on_exhausted h = rw h (inl (refl, refl))

  -- it was refused, for want of memory or of numbers
  pub went_on_refused : (refusal : Refusal) → after ≡ old
      → ((refusal ≡ NoMemory) ⊎ ((refusal ≡ Exhausted) × (has_numbers machine called ≡ false)))
      → Meets turn_takes_memory turn_without_memory (Err refusal) old after (unless_refused old (went_on machine number called))
  went_on_refused refusal same (inl memory) = inr (went_on_takes_memory machine number called, ap Err memory, same)
  went_on_refused refusal same (inr numbers) = rw (numbers.0, same) (went_on_exhausted numbers.1)

  -- the machine went on
  pub went_on_is : has_numbers machine called ≡ true → {report : Report S} → report ≡ report_of machine number called
      → after ≡ with_settled (with_called machine called) number called
      → Meets turn_takes_memory turn_without_memory (Ok (Reported report)) old after (unless_refused old (went_on machine number called))
  went_on_is h same_report same_after = rw (h, same_report, same_after) (inl (refl, refl))

-- a machine is its module and its machine state
machine_same : {M S D C : Type 0} (new : Machine M S D C) (module_ : M) (machine : MachineState S D C) → new.module_ ≡ module_ → new.machine ≡ machine
    → new ≡ record { module_ = module_; machine = machine }
machine_same {M} {S} {D} {C} new module_ machine same_module same_machine =
    ap (λ (m : M). ofparts m new.machine) same_module ∙ ap (λ (s : MachineState S D C). ofparts module_ s) same_machine
  where
    ofparts : M → MachineState S D C → Machine M S D C
    ofparts m s = record { module_ = m; machine = s }

-- a call meets a definition that is the same
pub meets_same : {A T : Type 0} (takes : A → Bool) (without answer : A) (old new : T) {definition other : A × T} → other ≡ definition
    → Meets takes without answer old new definition → Meets takes without answer old new other
meets_same takes without answer old new same meets = rw same meets

-- what a turn on an event came to, where that is known
pub told_as : {M S D C : Type 0} (number : ℕ) (old new : Machine M S D C) (gathered : Gathered S) (result known : Result Done Refusal) (definition : Result (Turned S) Refusal × MachineState S D C)
    → result ≡ known → TurnsTo number old new gathered result definition
    → Meets turn_takes_memory turn_without_memory (turned_with number old.machine.state new.machine.state gathered known) old.machine new.machine definition
told_as number old new gathered result known definition same turns = rw (← same) turns.1

-- where two definitions are the same, a turn that comes to one comes to the other
pub turns_same : {M S D C : Type 0} (number : ℕ) (old new : Machine M S D C) (gathered : Gathered S) (result : Result Done Refusal) {definition other : Result (Turned S) Refusal × MachineState S D C}
    → other ≡ definition → TurnsTo number old new gathered result definition → TurnsTo number old new gathered result other
turns_same number old new gathered result same turns = rw same turns

-- a turn that meets its definition, of a machine whose module stays, is what the command does
pub turn_does : {M S D C : Type 0} (callbacks : M → Callbacks S D C) (old new : Machine M S D C) (now : ℕ) (result : Result (Turned S) Refusal)
    → new.module_ ≡ old.module_ → Meets turn_takes_memory turn_without_memory result old.machine new.machine (turn_of (callbacks old.module_) old.machine now)
    → Does callbacks old (command.Turn now) (answer.Turn result) new
turn_does {M} {S} {D} {C} callbacks old new now result same (inl met) =
    inl (ap answer.Turn met.0, machine_same new old.module_ (turn_of (callbacks old.module_) old.machine now).1 same met.1)
turn_does {M} {S} {D} {C} callbacks old new now result same (inr none) =
    inr (none.0, ap answer.Turn none.1, machine_same new old.module_ old.machine same none.2)

-- a turn that is refused leaves all
pub turn_keeps : {M S D C : Type 0} (old new : Machine M S D C) (number : ℕ) (gathered : Gathered S) (result : Result Done Refusal) (refusal : Refusal) (done : Result (Turned S) Refusal × MachineState S D C)
    → result ≡ Err refusal → TurnsTo number old new gathered result (unless_refused old.machine done) → new ≡ old
turn_keeps {M} {S} {D} {C} old new number gathered result refusal done is_refused turns =
    machine_same new old.module_ old.machine turns.0 (left (told_as number old new gathered result (Err refusal) (unless_refused old.machine done) is_refused turns))
  where
    left : Meets turn_takes_memory turn_without_memory (turned_with number old.machine.state new.machine.state gathered (Err refusal)) old.machine new.machine (unless_refused old.machine done)
        → new.machine ≡ old.machine
    left (inl met) = met.1 ∙ ap (λ (answer : Result (Turned S) Refusal). left_by answer old.machine done.1) (sym met.0)
    left (inr none) = none.2

-- new data stand in the place of data that stand in the place of others
pub or_old_twice : {D : Type 0} (held : D) (new before : Option D) → or_old held (option_or new before) ≡ or_old (or_old held before) new
or_old_twice held None before = refl
or_old_twice held (Some new) before = refl

module _ {S D C : Type 0} (callbacks : Callbacks S D C) (machine : MachineState S D C) (now : ℕ) where
  -- a turn of a machine that runs is what comes of the callbacks
  pub turn_is : (event : Event C) → machine.ended ≡ None → now < 2 ^ 63 → next_event_of machine ≡ Some event
      → turn_of callbacks machine now ≡ unless_refused machine (concluded callbacks (with_moment machine now) event.number
      (called_of callbacks machine event) (called_of callbacks machine event).reason)
  turn_is event ended early next =
      let running : turn_running callbacks machine now ≡ unless_refused machine (transition_of callbacks (with_moment machine now) (next_event_of machine)) =
      rw (lt-ltb now (2 ^ 63) early) refl in
      ap (λ (end : Option (ℕ × ℕ)). unless_ended end (λ refusal. Err refusal) machine (turn_running callbacks machine now)) ended
      ∙ running ∙ ap (λ (e : Option (Event C)). unless_refused machine (transition_of callbacks (with_moment machine now) e)) next

  -- and takes memory
  pub turn_wants_memory : (event : Event C) → machine.ended ≡ None → now < 2 ^ 63 → next_event_of machine ≡ Some event
      → turn_takes_memory (turn_of callbacks machine now).0 ≡ true
  turn_wants_memory event ended early next =
      ap (λ (done : Result (Turned S) Refusal × MachineState S D C). turn_takes_memory done.0) (turn_is event ended early next)
      ∙ concluded_takes_memory callbacks (with_moment machine now) event.number (called_of callbacks machine event) (called_of callbacks machine event).reason

module _ {S D C : Type 0} (machine : MachineState S D C) (entry : Entry) (content : C) where
  -- a post to a machine that runs takes memory where a number is left
  pub post_wants_memory : machine.ended ≡ None → machine.schedule.next_number < 2 ^ 63 → post_takes_memory (post_of machine entry content).0 ≡ true
  post_wants_memory running free =
      let posted : post_takes_memory (post_running machine entry content).0 ≡ true = rw (lt-ltb machine.schedule.next_number (2 ^ 63) free) refl in
      ap (λ (end : Option (ℕ × ℕ)). post_takes_memory (unless_ended end (post_refused content) machine (post_running machine entry content)).0) running ∙ posted

-- ---- the course of a transition
module _ {S D C : Type 0} (callbacks : Callbacks S D C) (machine : MachineState S D C) (calls : List (Call S)) (outcome : Outcome S D C) (course : Course S) (handled called : Called S D C) where
  -- what `handle` answers leads there
  pub comes_of : handled ≡ called_with callbacks.same_state calls machine.state machine.data outcome → or_old machine.state (asked_by outcome).state ≡ course.after
      → differs callbacks.same_state machine.state (asked_by outcome).state ≡ course.changed
      → ComesTo course machine.data calls (asked_by outcome).data (asked_by outcome).actions handled
  comes_of handled_is same_state same_change = record {
    calls = rw handled_is refl;
    state = rw handled_is same_state;
    «data» = rw handled_is refl;
    changed = rw handled_is same_change;
    actions = rw handled_is refl;
  }

  -- and there is an enter call where the course says so
  pub enters_by : differs callbacks.same_state machine.state (asked_by outcome).state ≡ course.changed → (asked_by outcome).repeats ≡ course.repeats
      → called ≡ (if is_entered callbacks machine.state outcome then entered_by callbacks machine.state handled else handled)
      → called ≡ (if callbacks.enters_is && (course.changed || course.repeats) then entered_by callbacks machine.state handled else handled)
  enters_by same_change same_repeat called_is =
      called_is
      ∙ ap (λ (changed : Bool). if callbacks.enters_is && (changed || (asked_by outcome).repeats) then entered_by callbacks machine.state handled else handled) same_change
      ∙ ap (λ (repeats : Bool). if callbacks.enters_is && (course.changed || repeats) then entered_by callbacks machine.state handled else handled) same_repeat

module _ {S D C : Type 0} (callbacks : Callbacks S D C) (machine : MachineState S D C) (outcome : Outcome S D C) (handled called : Called S D C) where
  never : (enters : Bool) → (enters && (false || false)) ≡ false
  never true = refl
  never false = refl

  -- one that stops the machine is entered by none
  pub enters_not : differs callbacks.same_state machine.state (asked_by outcome).state ≡ false → (asked_by outcome).repeats ≡ false
      → called ≡ (if is_entered callbacks machine.state outcome then entered_by callbacks machine.state handled else handled)
      → called ≡ handled
  enters_not same_change same_repeat called_is =
      called_is
      ∙ ap (λ (changed : Bool). if callbacks.enters_is && (changed || (asked_by outcome).repeats) then entered_by callbacks machine.state handled else handled) same_change
      ∙ ap (λ (repeats : Bool). if callbacks.enters_is && (false || repeats) then entered_by callbacks machine.state handled else handled) same_repeat
      ∙ ap (λ (enters : Bool). if enters then entered_by callbacks machine.state handled else handled) (never callbacks.enters_is)

-- ---- what is left, by its parts
module _ {S D C : Type 0} where
  abbrev pub machine_of : MachineId → S → D → Schedule C → List (Request C) → Outbox C → ℕ → Option (ℕ × ℕ) → MachineState S D C
  machine_of id state held schedule requests outbox latest ended =
      record { id = id; state = state; «data» = held; schedule = schedule; requests = requests; outbox = outbox; latest = latest; ended = ended }

  pub machine_is : {id id2 : MachineId} {state state2 : S} {held held2 : D} {schedule schedule2 : Schedule C} {requests requests2 : List (Request C)} {outbox outbox2 : Outbox C} {latest latest2 : ℕ} {ended ended2 : Option (ℕ × ℕ)}
      → id ≡ id2 → state ≡ state2 → held ≡ held2 → schedule ≡ schedule2 → requests ≡ requests2 → outbox ≡ outbox2 → latest ≡ latest2 → ended ≡ ended2
      → machine_of id state held schedule requests outbox latest ended ≡ machine_of id2 state2 held2 schedule2 requests2 outbox2 latest2 ended2
  machine_is same_id same_state same_data same_schedule same_requests same_outbox same_latest same_end =
      rw (same_id, same_state, same_data, same_schedule, same_requests, same_outbox, same_latest, same_end) refl

module _ {C : Type 0} (number : ℕ) where
  pub settled_is : {latest latest2 : ℕ} {schedule schedule2 : Schedule C} {postpone postpone2 changed changed2 : Bool} {inserts inserts2 : List (Insert C)} {settings settings2 : List (Setting C)}
      → latest ≡ latest2 → schedule ≡ schedule2 → postpone ≡ postpone2 → changed ≡ changed2 → inserts ≡ inserts2 → settings ≡ settings2
      → settled_in latest schedule number postpone changed inserts settings ≡ settled_in latest2 schedule2 number postpone2 changed2 inserts2 settings2
  settled_is {latest2 = latest2} {schedule = schedule} {schedule2 = schedule2} {postpone = postpone} {postpone2 = postpone2} {changed = changed} {changed2 = changed2} {inserts = inserts} {inserts2 = inserts2} {settings = settings} same_latest same_schedule same_postpone same_change same_inserts same_settings =
      ap (λ (l : ℕ). settled_in l schedule number postpone changed inserts settings) same_latest
      ∙ ap (λ (s : Schedule C). settled_in latest2 s number postpone changed inserts settings) same_schedule
      ∙ ap (λ (p : Bool). settled_in latest2 schedule2 number p changed inserts settings) same_postpone
      ∙ ap (λ (d : Bool). settled_in latest2 schedule2 number postpone2 d inserts settings) same_change
      ∙ ap (λ (i : List (Insert C)). settled_in latest2 schedule2 number postpone2 changed2 i settings) same_inserts
      ∙ ap (λ (r : List (Setting C)). settled_in latest2 schedule2 number postpone2 changed2 inserts2 r) same_settings

-- ---- what is reported, by its parts
module _ {S : Type 0} (event : Option ℕ) (before : S) where
  abbrev pub told_of : Done → List (Call S) → S → List Tag → List ℕ → List (Timer × Decision) → List ℕ → Report S
  told_of done calls after replied inserted set sent =
      record { event = event; done = done; calls = calls; before = before; after = after; replied = replied; inserted = inserted; set = set; sent = sent }

  pub told_is : {done done2 : Done} {calls calls2 : List (Call S)} {after after2 : S} {replied replied2 : List Tag} {inserted inserted2 : List ℕ} {set set2 : List (Timer × Decision)} {sent sent2 : List ℕ}
      → done ≡ done2 → calls ≡ calls2 → after ≡ after2 → replied ≡ replied2 → inserted ≡ inserted2 → set ≡ set2 → sent ≡ sent2
      → told_of done calls after replied inserted set sent ≡ told_of done2 calls2 after2 replied2 inserted2 set2 sent2
  told_is same_end same_calls same_state same_replies same_inserts same_timers same_sends =
      rw (same_end, same_calls, same_state, same_replies, same_inserts, same_timers, same_sends) refl

-- ---- numbers
-- there are enough for the events alone
pub enough_for_inserts : (next inserts timers : ℕ) → nat_le (next + (inserts + timers)) (2 ^ 63) ≡ true → next + inserts ≤ 2 ^ 63
enough_for_inserts next inserts timers h = grind (arith, h)

pub enough_for_all : (next inserts timers : ℕ) → nat_le (next + (inserts + timers)) (2 ^ 63) ≡ true → next + (inserts + timers) ≤ 2 ^ 63
enough_for_all next inserts timers h = grind (arith, h)

pub fewer_inserts : (next inserts timers : ℕ) → nat_le (next + (inserts + timers)) (2 ^ 63) ≡ true → inserts ≤ 2 ^ 63
fewer_inserts next inserts timers h = grind (arith, h)

-- where nothing is asked for, there are enough
pub none_wanted : (next : ℕ) → next ≤ 2 ^ 63 → nat_le (next + (0 + 0)) (2 ^ 63) ≡ true
none_wanted next bounded = grind (arith, bounded)

pub no_message_wanted : (next : ℕ) → next ≤ 2 ^ 63 → nat_le (next + 0) (2 ^ 63) ≡ true
no_message_wanted next bounded = grind (arith, bounded)

-- both are enough
pub both_true : {one other : Bool} → one ≡ true → other ≡ true → (one && other) ≡ true
both_true one_is other_is = rw (one_is, other_is) refl

-- one of both is not
pub first_false : (one other : Bool) → one ≡ false → (one && other) ≡ false
first_false one other is = rw is refl

pub second_false : (one other : Bool) → other ≡ false → (one && other) ≡ false
second_false true other is = is
second_false false other is = refl

-- ---- answers that are no errors
-- what holds of an answer that is no error
pub there : {T E P : Type 0} (result : Result T E) → is_err result ≡ false → OnOk result P → P
there (Ok value) fine holds = holds
there (Err error) fine holds = cc
