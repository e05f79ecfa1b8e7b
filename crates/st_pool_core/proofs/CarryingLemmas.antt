-- What steps do to the messages of a machine: its outbox after a command or a turn; and that each worker that carries a
-- message has the token of its sender, before and after each step.
use Rattle.std.proofs.Common.{◌≡◌, ℕ, inl, inr, Bool, true, false, ◌&&◌, if◌then◌else◌, Option, Some, None, Result, Ok, Err, List, [], ◌∷◌, ◌++◌, length, drop, refl, sym, ap, ◌∙◌, append-nil}
use Rattle.std.proofs.Math.Seq.{drop-append_seam}
use Rattle.st_events.specs.declared.machine_id.MachineId.{MachineId}
use Rattle.st_events.specs.declared.message.Message.{Message}
use Rattle.st_events.specs.declared.refusal.Refusal.{Refusal}
use Rattle.st_events.specs.declared.refusal.Refusal.TheVariants.{Exhausted}
use Rattle.st_outbox.specs.declared.outbox.Outbox.{Outbox}
use Rattle.st_outbox.specs.Outbox.{message_numbers, first_message, without_message, has_messages, AreFrom}
use Rattle.st_answers.specs.declared.answer.Answer.TheVariants as answer
use Rattle.st_answers.specs.declared.command.Command.{Command}
use Rattle.st_answers.specs.declared.command.Command.TheVariants as command
use Rattle.st_answers.specs.declared.report.Report.{Report}
use Rattle.st_answers.specs.declared.turned.Turned.{Turned}
use Rattle.st_answers.specs.declared.turned.Turned.TheVariants.{Reported, Idle}
use Rattle.st_core.specs.Callbacks.{Callbacks}
use Rattle.st_core.specs.MachineState.{Machine}
use Rattle.st_core.specs.Run.{step_on}
use Rattle.st_core.specs.Transition.{turn_of}
use Rattle.st_core.proofs.OutboxLemmas.{is_quiet, quiet_keeps, Adds, turn_adds}
use Rattle.st_scheduled.specs.declared.step_answer.StepAnswer.{StepAnswer}
use Rattle.st_scheduled.specs.declared.step_answer.StepAnswer.TheVariants as said
use Rattle.st_scheduled.specs.Answered.{answered_by}
use Rattle.st_scheduled.specs.ScheduledMachine.{ScheduledMachine, id_of, same_id, has_event, has_message}
use Rattle.st_scheduled.specs.Serving.{is_turn, needs_count, is_full, retired, refused_with, served_idle, told_as, told_on, served_on}
use Rattle.st_scheduled.proofs.TokensCompared.{ids_same, some_is}
use Rattle.st_scheduled.proofs.ToldLemmas.{IsTaken, taken_id, only_turns, told_on_taken, served_on_taken}
use Rattle.st_pool_core.specs.PoolState.{machine_of, changed_for}
use Rattle.st_pool_core.specs.Deliveries.{outbox_at, sent_at}
use Rattle.st_pool_core.proofs.IdLemmas.{changed_found, changed_other}
use Rattle.st_pool_core.proofs.MachineLookups.{found_id}

module _ {C : Type 0} where
  -- ---- messages
  -- one that is first is of the sender
  pub own_first : (sender : MachineId) (messages : List (Message C)) (message : Message C) → first_message messages ≡ Some message → AreFrom sender messages
      → message.sender ≡ sender
  own_first sender [] message h own = cc
  own_first sender (one ∷ others) message h own = let same : one ≡ message = some_is one message h in rw (← same) own.0

  -- so are the others
  pub own_rest : (sender : MachineId) (messages : List (Message C)) → AreFrom sender messages → AreFrom sender (without_message messages)
  own_rest sender [] own = tt
  own_rest sender (one ∷ others) own = own.1

  pub own-append : (sender : MachineId) (messages more : List (Message C)) → AreFrom sender messages → AreFrom sender more → AreFrom sender (messages ++ more)
  own-append sender [] more own also = also
  own-append sender (one ∷ others) more own also = (own.0, own-append sender others more own.1 also)

  -- there is a first one and the others
  pub first_split : (messages : List (Message C)) (message : Message C) → first_message messages ≡ Some message → messages ≡ message ∷ without_message messages
  first_split [] message h = cc
  first_split (one ∷ others) message h = ap (λ (first : Message C). first ∷ others) (some_is one message h)

  pub first_there : (messages : List (Message C)) → has_messages messages ≡ true → (message : Message C) × (first_message messages ≡ Some message)
  first_there [] h = cc
  first_there (one ∷ others) h = (one, refl)

  -- whichever a test chooses
  either_kept : (own : Bool) (one other before : List (Message C)) → (own ≡ true → one ≡ before) → other ≡ before → (if own then one else other) ≡ before
  either_kept true one other before h k = h refl
  either_kept false one other before h k = k

module _ {M S D C : Type 0} where
  -- the messages of a machine
  abbrev pub messages_of : ScheduledMachine M S D C → List (Message C)
  messages_of scheduled = scheduled.core.machine.outbox.messages

  module _ (callbacks : M → Callbacks S D C) where
    -- ---- commands
    -- a command that is no turn and no take-out leaves the messages
    quiet_is_no_turn : (command : Command C) → is_quiet command ≡ true → is_turn command ≡ false
    quiet_is_no_turn (command.Post entry content) h = refl
    quiet_is_no_turn (command.Tick now) h = refl
    quiet_is_no_turn (command.Turn now) h = cc
    quiet_is_no_turn (command.Reply tag content) h = refl
    quiet_is_no_turn (command.Collect tag) h = refl
    quiet_is_no_turn (command.Stop reason) h = refl
    quiet_is_no_turn command.TakeOut h = cc

    taken_keeps : (old : ScheduledMachine M S D C) (command : Command C) (told : StepAnswer S C × ScheduledMachine M S D C) → is_quiet command ≡ true
        → IsTaken old.core (step_on callbacks old.core command) told → messages_of told.1 ≡ messages_of old
    taken_keeps old command told quiet (inl taken) =
        ap (λ (core : Machine M S D C). core.machine.outbox.messages) taken.1
        ∙ ap (λ (outbox : Outbox C). outbox.messages) (quiet_keeps (callbacks old.core.module_) old.core.machine command quiet)
    taken_keeps old command told quiet (inr none) = ap (λ (core : Machine M S D C). core.machine.outbox.messages) none.1

    pub told_keeps : (old : ScheduledMachine M S D C) (command : Command C) → is_quiet command ≡ true → messages_of (told_on callbacks old command).1 ≡ messages_of old
    told_keeps old command quiet =
        taken_keeps old command (told_on callbacks old command) quiet (told_on_taken callbacks old command (only_turns callbacks old.core command (quiet_is_no_turn command quiet)))

    pub told_keeps_id : (old : ScheduledMachine M S D C) (command : Command C) → is_turn command ≡ false → id_of (told_on callbacks old command).1 ≡ id_of old
    told_keeps_id old command no_turn =
        taken_id callbacks old command (told_on callbacks old command) (told_on_taken callbacks old command (only_turns callbacks old.core command no_turn))

    -- a take-out that gives a message leaves the others
    out_keeps : (old : ScheduledMachine M S D C) (told : StepAnswer S C × ScheduledMachine M S D C) (message : Option (Message C)) → told.0 ≡ said.TakenOut message
        → IsTaken old.core (step_on callbacks old.core command.TakeOut) told → messages_of told.1 ≡ without_message (messages_of old)
    out_keeps old told message out (inl taken) = ap (λ (core : Machine M S D C). core.machine.outbox.messages) taken.1
    out_keeps old told message out (inr none) = let answers : answered_by told.0 ≡ Some (answer.TakeOut message) = ap answered_by out in cc

    pub told_out_keeps : (old : ScheduledMachine M S D C) (message : Option (Message C)) → (told_on callbacks old command.TakeOut).0 ≡ said.TakenOut message
        → messages_of (told_on callbacks old command.TakeOut).1 ≡ without_message (messages_of old)
    told_out_keeps old message out =
        out_keeps old (told_on callbacks old command.TakeOut) message out
        (told_on_taken callbacks old command.TakeOut (only_turns callbacks old.core command.TakeOut refl))

    -- ---- turns
    -- a machine that was served leaves its messages, and behind them those that its turn sent, as that reports them
    pub record Sends (old : ScheduledMachine M S D C) (now : ℕ) (answer : StepAnswer S C) (new : ScheduledMachine M S D C) : Type 0 where
      pub sent : List (Message C)
      pub messages : messages_of new ≡ messages_of old ++ sent
      pub own : AreFrom (id_of old) sent
      pub named : (report : Report S) → answer ≡ said.Turned report → sent ≡ sent_at callbacks now (Some old)
      pub reported : (report : Report S) → answer ≡ said.Turned report → message_numbers sent ≡ report.sent
      pub quiet : ((report : Report S) → answer ≡ said.Turned report → ⊥) → sent ≡ []

    sends_nothing : (old : ScheduledMachine M S D C) (now : ℕ) (answer : StepAnswer S C) → ((report : Report S) → answer ≡ said.Turned report → ⊥) → Sends old now answer old
    sends_nothing old now answer none = record {
      sent = [];
      messages = sym (append-nil (messages_of old));
      own = tt;
      named = λ report is. absurd (none report is);
      reported = λ report is. absurd (none report is);
      quiet = λ unreported. refl;
    }

    -- a machine without an event sends nothing
    idle_by : (sending : Bool) (old : ScheduledMachine M S D C) (now : ℕ)
        → Sends old now (if◌then◌else◌ {A = StepAnswer S C × ScheduledMachine M S D C} sending (said.Moved, old) (said.Rested, retired old)).0
        (if◌then◌else◌ {A = StepAnswer S C × ScheduledMachine M S D C} sending (said.Moved, old) (said.Rested, retired old)).1
    idle_by true old now = sends_nothing old now said.Moved (λ report is. cc)
    idle_by false old now = record {
      sent = [];
      messages = sym (append-nil (messages_of old));
      own = tt;
      named = λ report is. cc;
      reported = λ report is. cc;
      quiet = λ unreported. refl;
    }

    -- an idle turn leaves the messages of the core
    idle_keeps : (sending : Bool) (old other : ScheduledMachine M S D C) (now : ℕ) → messages_of other ≡ messages_of old
        → Sends old now (if◌then◌else◌ {A = StepAnswer S C × ScheduledMachine M S D C} sending (said.Moved, other) (said.Rested, retired other)).0
        (if◌then◌else◌ {A = StepAnswer S C × ScheduledMachine M S D C} sending (said.Moved, other) (said.Rested, retired other)).1
    idle_keeps true old other now same = record {
      sent = [];
      messages = same ∙ sym (append-nil (messages_of old));
      own = tt;
      named = λ report is. cc;
      reported = λ report is. cc;
      quiet = λ unreported. refl;
    }
    idle_keeps false old other now same = record {
      sent = [];
      messages = same ∙ sym (append-nil (messages_of old));
      own = tt;
      named = λ report is. cc;
      reported = λ report is. cc;
      quiet = λ unreported. refl;
    }

    -- a turn, by what it answers
    turned_sends : (old : ScheduledMachine M S D C) (now : ℕ) (result : Result (Turned S) Refusal) (core : Machine M S D C)
        → (adds : Adds old.core.machine (result, core.machine)) → adds.sent ≡ sent_at callbacks now (Some old)
        → Sends old now (told_as old (answer.Turn result) core).0 (told_as old (answer.Turn result) core).1
    turned_sends old now (Ok (Reported report)) core adds is = record {
      sent = adds.sent;
      messages = adds.messages;
      own = adds.own;
      named = λ one same. is;
      reported = λ one same. adds.reported one (let reports : report ≡ one = cc in rw reports refl);
      quiet = λ unreported. absurd (unreported report refl);
    }
    turned_sends old now (Ok Idle) core adds is =
        let none : adds.sent ≡ [] = adds.quiet (λ report same. cc) in
        idle_keeps (has_message core) old (record old { core = core }) now
        (adds.messages ∙ (ap (λ (sent : List (Message C)). messages_of old ++ sent) none ∙ append-nil (messages_of old)))
    turned_sends old now (Err refusal) core adds is = sends_nothing old now (refused_with refusal None) (λ report same. cc)

    full_sends : (full : Bool) (old : ScheduledMachine M S D C) (now : ℕ) (told : StepAnswer S C × ScheduledMachine M S D C) → Sends old now told.0 told.1
        → Sends old now (if◌then◌else◌ {A = StepAnswer S C × ScheduledMachine M S D C} full (refused_with Exhausted None, old) told).0
        (if◌then◌else◌ {A = StepAnswer S C × ScheduledMachine M S D C} full (refused_with Exhausted None, old) told).1
    full_sends true old now told h = sends_nothing old now (refused_with Exhausted None) (λ report same. cc)
    full_sends false old now told h = h

    told_sends : (old : ScheduledMachine M S D C) (now : ℕ) → Sends old now (told_on callbacks old (command.Turn now)).0 (told_on callbacks old (command.Turn now)).1
    told_sends old now =
        let machine = old.core.machine in
        let turned = turn_of (callbacks old.core.module_) machine now in
        let core : Machine M S D C = record { module_ = old.core.module_; machine = turned.1 } in
        let adds : Adds machine (turned.0, turned.1) = turn_adds (callbacks old.core.module_) machine now in
        let is : sent_at callbacks now (Some old) ≡ adds.sent =
        ap (λ (messages : List (Message C)). drop (length machine.outbox.messages) messages) adds.messages ∙ drop-append_seam machine.outbox.messages adds.sent in
        full_sends (is_full old && needs_count {C = C} (answer.Turn turned.0)) old now (told_as old (answer.Turn turned.0) core)
        (turned_sends old now turned.0 core adds (sym is))

    served_by : (event : Bool) (old : ScheduledMachine M S D C) (now : ℕ)
        → Sends old now (if event then told_on callbacks old (command.Turn now) else served_idle old).0 (if event then told_on callbacks old (command.Turn now) else served_idle old).1
    served_by true old now = told_sends old now
    served_by false old now = idle_by (has_message old.core) old now

    pub served_sends : (old : ScheduledMachine M S D C) (now : ℕ) → Sends old now (served_on callbacks old now).0 (served_on callbacks old now).1
    served_sends old now = served_by (has_event old.core) old now

    pub served_keeps_id : (old : ScheduledMachine M S D C) (now : ℕ) → id_of (served_on callbacks old now).1 ≡ id_of old
    served_keeps_id old now = taken_id callbacks old (command.Turn now) (served_on callbacks old now) (served_on_taken callbacks old now)

  -- ---- the machines of a pool
  -- the messages of the machine of an id, after one machine became another of the same id
  pub messages_changed : (own : Bool) (machines : List (ScheduledMachine M S D C)) (id target : MachineId) (old new : ScheduledMachine M S D C)
      → same_id id target ≡ own → machine_of target machines ≡ Some old → id_of new ≡ id_of old
      → outbox_at (machine_of id (changed_for target (λ (one : ScheduledMachine M S D C). new) machines))
      ≡ (if own then messages_of new else outbox_at (machine_of id machines))
  messages_changed true machines id target old new same found keeps =
      let ids : id ≡ target = ids_same id target same in
      let stays = λ (other : ScheduledMachine M S D C) (is_it : same_id target (id_of other) ≡ true). keeps ∙ (found_id target machines old found ∙ ids_same target (id_of other) is_it) in
      ap (λ (one : MachineId). outbox_at (machine_of one (changed_for target (λ (other : ScheduledMachine M S D C). new) machines))) ids
      ∙ ap outbox_at (changed_found target (λ (other : ScheduledMachine M S D C). new) machines old stays found)
  messages_changed false machines id target old new same found keeps =
      let stays = λ (other : ScheduledMachine M S D C) (is_it : same_id target (id_of other) ≡ true). keeps ∙ (found_id target machines old found ∙ ids_same target (id_of other) is_it) in
      ap outbox_at (changed_other id target (λ (other : ScheduledMachine M S D C). new) machines same stays)

  -- and before
  pub messages_found : (machines : List (ScheduledMachine M S D C)) (id target : MachineId) (old : ScheduledMachine M S D C)
      → same_id id target ≡ true → machine_of target machines ≡ Some old → outbox_at (machine_of id machines) ≡ messages_of old
  messages_found machines id target old same found =
      ap (λ (one : MachineId). outbox_at (machine_of one machines)) (ids_same id target same) ∙ ap outbox_at found

  -- where the machine kept its messages, so did each
  pub messages_kept : (machines : List (ScheduledMachine M S D C)) (id target : MachineId) (old new : ScheduledMachine M S D C)
      → machine_of target machines ≡ Some old → id_of new ≡ id_of old → messages_of new ≡ messages_of old
      → outbox_at (machine_of id (changed_for target (λ (one : ScheduledMachine M S D C). new) machines)) ≡ outbox_at (machine_of id machines)
  messages_kept machines id target old new found keeps same =
      messages_changed (same_id id target) machines id target old new refl found keeps
      ∙ either_kept (same_id id target) (messages_of new) (outbox_at (machine_of id machines)) (outbox_at (machine_of id machines))
      (λ own. same ∙ sym (messages_found machines id target old own found)) refl
