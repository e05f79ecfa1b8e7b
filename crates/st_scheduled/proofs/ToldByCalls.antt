-- What each call of a machine tells it, by how the call ends.
use Rattle.std.proofs.Common.{◌≡◌, ℕ, ◌+◌, ◌^◌, ◌<◌, nat_lt, Bool, true, false, List, [], ◌∷◌, is_some, if◌then◌else◌, inl, inr, Option, Some, None, Result, Ok, Err, refl, sym, ap, ◌∙◌}
use Rattle.std.specs.Prelude.{not, ◌&&◌}
use Rattle.st_events.specs.declared.message.Message.{Message}
use Rattle.st_events.specs.declared.refusal.Refusal.{Refusal}
use Rattle.st_events.specs.declared.refusal.Refusal.TheVariants.{NoMemory, Exhausted}
use Rattle.st_events.specs.declared.refused.Refused.{Refused}
use Rattle.st_events.specs.declared.tag.Tag.{Tag}
use Rattle.st_requests.specs.declared.collected.Collected.{Collected}
use Rattle.st_answers.specs.declared.answer.Answer.{Answer}
use Rattle.st_answers.specs.declared.answer.Answer.TheVariants as answer
use Rattle.st_answers.specs.declared.command.Command.{Command}
use Rattle.st_answers.specs.declared.command.Command.TheVariants as command
use Rattle.st_answers.specs.declared.entry.Entry.{Entry}
use Rattle.st_answers.specs.declared.turned.Turned.{Turned}
use Rattle.st_answers.specs.declared.turned.Turned.TheVariants.{Reported, Idle}
use Rattle.st_outbox.specs.Outbox.{first_message, has_messages}
use Rattle.st_core.specs.Callbacks.{Callbacks}
use Rattle.st_core.specs.MachineState.{Machine}
use Rattle.st_core.specs.Run.{Does, is_refusal, step_on, takes_memory, post_takes_memory, turn_takes_memory, without_memory}
use Rattle.st_core.specs.Tick.{tick_of, tick_takes_memory}
use Rattle.st_scheduled.specs.declared.step_answer.StepAnswer.{StepAnswer}
use Rattle.st_scheduled.specs.declared.step_answer.StepAnswer.TheVariants.{Collected as HandedOut, TakenOut}
use Rattle.st_scheduled.specs.ScheduledMachine.{ScheduledMachine, has_message}
use Rattle.st_scheduled.specs.Serving.{content_of, counted, hands_out, is_full, is_turn, needs_count, refused_with, takes_memory_as, told_as, told_on, Tells}
use Rattle.st_scheduled.proofs.ServingLemmas.{not_both, below_limit}

-- no test both holds and does not
pub never : false ≡ true → ⊥
never same = cc

-- what a test chooses
pub first_of : {A : Type 0} (test : Bool) (one other : A) → test ≡ true → one ≡ (if test then one else other)
first_of true one other is = refl
first_of false one other is = let same : false ≡ true = is in cc

pub second_of : {A : Type 0} (test : Bool) (one other : A) → test ≡ false → other ≡ (if test then one else other)
second_of true one other is = let same : true ≡ false = is in cc
second_of false one other is = refl

-- both hold
both : (one other : Bool) → one ≡ true → other ≡ true → one && other ≡ true
both true other first second = second
both false other first second = first

-- there is a first message where there are any
is_there : {C : Type 0} (messages : List (Message C)) → is_some (first_message messages) ≡ has_messages messages
is_there [] = refl
is_there (message ∷ messages) = refl

-- a count that is not full
pub below : (count : ℕ) → not (nat_lt (count + 1) (2 ^ 63)) ≡ false → count + 1 < 2 ^ 63
below count is = below_limit count false true is refl refl

module _ {M S D C : Type 0} where
  -- a post, a tick or a turn that may want memory wants it as a step
  post_memory : (old : ScheduledMachine M S D C) (posted : Result ℕ (Refused C)) (core : Machine M S D C)
      → post_takes_memory posted ≡ true → takes_memory_as false false (told_as old (answer.Post posted) core).0 ≡ true
  post_memory old (Ok number) core takes = refl
  post_memory old (Err refused) core takes = absurd (never takes)

  tick_memory : (old : ScheduledMachine M S D C) (ticked : Result ℕ Refusal) (core : Machine M S D C)
      → tick_takes_memory ticked ≡ true → takes_memory_as false false (told_as old (answer.Tick ticked) core).0 ≡ true
  tick_memory old (Ok expired) core takes = takes
  tick_memory old (Err refusal) core takes = absurd (never takes)

  turn_memory : (old : ScheduledMachine M S D C) (turned : Result (Turned S) Refusal) (core : Machine M S D C)
      → turn_takes_memory turned ≡ true → takes_memory_as true false (told_as old (answer.Turn turned) core).0 ≡ true
  turn_memory old (Ok (Reported report)) core takes = refl
  turn_memory old (Ok Idle) core takes = absurd (never takes)
  turn_memory old (Err refusal) core takes = takes

  module _ (callbacks : M → Callbacks S D C) (old : ScheduledMachine M S D C) (command : Command C) where
    -- there is a number of the count for it, or it needs none
    abbrev pub HasRoom : Type 0
    HasRoom = is_full old && needs_count (step_on callbacks old.core command).0 ≡ false

    pub unless_full : is_full old ≡ false → HasRoom
    unless_full room = ap (λ (full : Bool). full && needs_count (step_on callbacks old.core command).0) room

    pub unless_needed : needs_count (step_on callbacks old.core command).0 ≡ false → HasRoom
    unless_needed room = not_both (is_full old) _ room

    -- where there is none, it is refused
    pub full_tells : is_full old ≡ true → needs_count (step_on callbacks old.core command).0 ≡ true
        → Tells callbacks old command (refused_with Exhausted (content_of command)) old
    full_tells full needed =
        let step = step_on callbacks old.core command in
        let same = first_of _ (refused_with {S = S} Exhausted (content_of command), old) (told_as old step.0 step.1) (both (is_full old) (needs_count step.0) full needed) in
        inl (ap (λ (pair : StepAnswer S C × ScheduledMachine M S D C). pair.0) same, ap (λ (pair : StepAnswer S C × ScheduledMachine M S D C). pair.1) same)

    -- and else it is answered as the machine itself answers
    told_with : (answer : Answer S C) (core : Machine M S D C) → answer ≡ (step_on callbacks old.core command).0 → core ≡ (step_on callbacks old.core command).1 → HasRoom
        → told_as old answer core ≡ told_on callbacks old command
    told_with answer core said left room =
        let step = step_on callbacks old.core command in
        ap (λ (one : Answer S C). told_as old one core) said ∙ ap (λ (one : Machine M S D C). told_as old step.0 one) left
        ∙ second_of _ (refused_with {S = S} Exhausted (content_of command), old) (told_as old step.0 step.1) room

    -- where it found memory
    taken_tells : (answer : Answer S C) (core : Machine M S D C) → Does callbacks old.core command answer core → HasRoom
        → (takes_memory (step_on callbacks old.core command).0 ≡ true → answer ≡ without_memory command → ⊥)
        → Tells callbacks old command (told_as old answer core).0 (told_as old answer core).1
    taken_tells answer core (inl done) room found =
        let same = told_with answer core done.0 done.1 room in
        inl (ap (λ (pair : StepAnswer S C × ScheduledMachine M S D C). pair.0) same, ap (λ (pair : StepAnswer S C × ScheduledMachine M S D C). pair.1) same)
    taken_tells answer core (inr none) room found = absurd (found none.0 none.1)

    -- and where it may have found none
    refused_tells : (answer : Answer S C) (core : Machine M S D C) (told : StepAnswer S C) → Does callbacks old.core command answer core → HasRoom
        → told_as old answer core ≡ (told, old)
        → (takes_memory (step_on callbacks old.core command).0 ≡ true
        → takes_memory_as (is_turn command) false (told_as old (step_on callbacks old.core command).0 (step_on callbacks old.core command).1).0 ≡ true)
        → (answer ≡ without_memory command → told ≡ refused_with NoMemory (content_of command))
        → Tells callbacks old command told old
    refused_tells answer core told (inl done) room is takes none =
        let same = sym is ∙ told_with answer core done.0 done.1 room in
        inl (ap (λ (pair : StepAnswer S C × ScheduledMachine M S D C). pair.0) same, ap (λ (pair : StepAnswer S C × ScheduledMachine M S D C). pair.1) same)
    refused_tells answer core told (inr wanted) room is takes none =
        let step = step_on callbacks old.core command in
        let same = second_of _ (refused_with {S = S} Exhausted (content_of command), old) (told_as old step.0 step.1) room in
        inr (ap (λ (pair : StepAnswer S C × ScheduledMachine M S D C). takes_memory_as (is_turn command) false pair.0) (sym same) ∙ takes wanted.0, none wanted.1, refl)

  module _ (callbacks : M → Callbacks S D C) where
    -- the same, where machines and answer are said otherwise
    pub tells_at : (old inside : ScheduledMachine M S D C) (command : Command C) (told said : StepAnswer S C) (new left : ScheduledMachine M S D C)
        → inside ≡ old → told ≡ said → new ≡ left → Tells callbacks inside command said left → Tells callbacks old command told new
    tells_at old inside command told said new left view is same tells = rw (← view, is, same) tells

  module _ (callbacks : M → Callbacks S D C) (old : ScheduledMachine M S D C) (core : Machine M S D C) where
    -- a post
    pub post_tells : (entry : Entry) (content : C) (number : ℕ) → Does callbacks old.core (command.Post entry content) (answer.Post (Ok number)) core
        → HasRoom callbacks old (command.Post entry content)
        → Tells callbacks old (command.Post entry content) (told_as old (answer.Post (Ok number)) core).0 (told_as old (answer.Post (Ok number)) core).1
    post_tells entry content number does room = taken_tells callbacks old (command.Post entry content) (answer.Post (Ok number)) core does room (λ takes none. never (ap is_refusal none))

    pub refused_post_tells : (entry : Entry) (content : C) (refused : Refused C) → Does callbacks old.core (command.Post entry content) (answer.Post (Err refused)) core
        → HasRoom callbacks old (command.Post entry content) → Tells callbacks old (command.Post entry content) (refused_with refused.refusal (Some refused.value)) old
    refused_post_tells entry content refused does room =
        let step = step_on callbacks old.core (command.Post entry content) in
        refused_tells callbacks old (command.Post entry content) (answer.Post (Err refused)) core (refused_with refused.refusal (Some refused.value)) does room refl
        (λ takes. post_memory old _ step.1 takes)
        (λ none. ap (λ (one : Answer S C). (told_as old one core).0) none)

    -- a tick
    pub tick_tells : (now expired : ℕ) → Does callbacks old.core (command.Tick now) (answer.Tick (Ok expired)) core → HasRoom callbacks old (command.Tick now)
        → Tells callbacks old (command.Tick now) (told_as old (answer.Tick (Ok expired)) core).0 (told_as old (answer.Tick (Ok expired)) core).1
    tick_tells now expired does room = taken_tells callbacks old (command.Tick now) (answer.Tick (Ok expired)) core does room (λ takes none. never (ap is_refusal none))

    pub refused_tick_tells : (now : ℕ) (refusal : Refusal) → Does callbacks old.core (command.Tick now) (answer.Tick (Err refusal)) core
        → HasRoom callbacks old (command.Tick now) → Tells callbacks old (command.Tick now) (refused_with refusal None) old
    refused_tick_tells now refusal does room =
        let step = step_on callbacks old.core (command.Tick now) in
        refused_tells callbacks old (command.Tick now) (answer.Tick (Err refusal)) core (refused_with refusal None) does room refl
        (λ takes. tick_memory old (tick_of old.core.machine now).0 step.1 takes)
        (λ none. ap (λ (one : Answer S C). (told_as old one core).0) none)

    -- a turn
    pub turn_tells : (now : ℕ) (answered turned : Turned S) → answered ≡ turned → Does callbacks old.core (command.Turn now) (answer.Turn (Ok answered)) core
        → HasRoom callbacks old (command.Turn now)
        → Tells callbacks old (command.Turn now) (told_as old (answer.Turn (Ok turned)) core).0 (told_as old (answer.Turn (Ok turned)) core).1
    turn_tells now answered turned is does room =
        taken_tells callbacks old (command.Turn now) (answer.Turn (Ok turned)) core (rw is at does) room (λ takes none. never (ap is_refusal none))

    pub refused_turn_tells : (now : ℕ) (refusal : Refusal) → Does callbacks old.core (command.Turn now) (answer.Turn (Err refusal)) core
        → HasRoom callbacks old (command.Turn now) → Tells callbacks old (command.Turn now) (refused_with refusal None) old
    refused_turn_tells now refusal does room =
        let step = step_on callbacks old.core (command.Turn now) in
        refused_tells callbacks old (command.Turn now) (answer.Turn (Err refusal)) core (refused_with refusal None) does room refl
        (λ takes. turn_memory old _ step.1 takes)
        (λ none. ap (λ (one : Answer S C). (told_as old one core).0) none)

    -- a reply
    pub reply_tells : (tag : Tag) (content : C) (taken : Bool) → Does callbacks old.core (command.Reply tag content) (answer.Reply taken) core
        → HasRoom callbacks old (command.Reply tag content)
        → Tells callbacks old (command.Reply tag content) (told_as old (answer.Reply taken) core).0 (told_as old (answer.Reply taken) core).1
    reply_tells tag content taken does room =
        taken_tells callbacks old (command.Reply tag content) (answer.Reply taken) core does room (λ takes none. never takes)

    -- a collect, which is counted where it hands something out
    collected_needs : (tag : Tag) (shown : Collected C) → Does callbacks old.core (command.Collect tag) (answer.Collect shown) core
        → needs_count (step_on callbacks old.core (command.Collect tag)).0 ≡ hands_out shown
    collected_needs tag shown (inl done) = sym (ap (λ (one : Answer S C). needs_count one) done.0)
    collected_needs tag shown (inr none) = absurd (never none.0)

    pub collect_tells : (tag : Tag) (shown : Collected C) (out : Bool) → out ≡ needs_count (step_on callbacks old.core (command.Collect tag)).0
        → Does callbacks old.core (command.Collect tag) (answer.Collect shown) core → HasRoom callbacks old (command.Collect tag)
        → Tells callbacks old (command.Collect tag) (HandedOut shown) (if out then counted old core else record old { core = core })
    collect_tells tag shown out is does room =
        let counts : out ≡ hands_out shown = is ∙ collected_needs tag shown does in
        rw counts
        (taken_tells callbacks old (command.Collect tag) (answer.Collect shown) core does room (λ takes none. never takes))

    -- a stop
    pub stop_tells : (reason : ℕ) (stopped : Result ℕ Refusal) → Does callbacks old.core (command.Stop reason) (answer.Stop stopped) core
        → HasRoom callbacks old (command.Stop reason)
        → Tells callbacks old (command.Stop reason) (told_as old (answer.Stop stopped) core).0 (told_as old (answer.Stop stopped) core).1
    stop_tells reason stopped does room =
        taken_tells callbacks old (command.Stop reason) (answer.Stop stopped) core does room (λ takes none. never takes)

    -- a take-out, which is counted where there is a message
    pub take_out_needs : needs_count (step_on callbacks old.core command.TakeOut).0 ≡ has_message old.core
    take_out_needs = is_there old.core.machine.outbox.messages

    taken_out_needs : (message : Option (Message C)) → Does callbacks old.core command.TakeOut (answer.TakeOut message) core
        → needs_count (step_on callbacks old.core command.TakeOut).0 ≡ is_some message
    taken_out_needs message (inl done) = sym (ap (λ (one : Answer S C). needs_count one) done.0)
    taken_out_needs message (inr none) = absurd (never none.0)

    pub take_out_tells : (message : Option (Message C)) (out : Bool) → out ≡ has_message old.core
        → Does callbacks old.core command.TakeOut (answer.TakeOut message) core → HasRoom callbacks old command.TakeOut
        → Tells callbacks old command.TakeOut (TakenOut message) (if out then counted old core else record old { core = core })
    take_out_tells message out is does room =
        let counts : out ≡ is_some message = is ∙ sym take_out_needs ∙ taken_out_needs message does in
        rw counts
        (taken_tells callbacks old command.TakeOut (answer.TakeOut message) core does room (λ takes none. never takes))
