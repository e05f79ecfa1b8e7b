-- One of the machines of a pool is told a command, served, or gives a message, or is posted one; or it is not there.
use Rattle.std.specs.Prelude.{◌≡◌, ◌⊎◌, ℕ, Bool, true, false, Option, Some, None, is_some, Result, Err, IfErr, List}
use Rattle.st_events.specs.declared.machine_id.MachineId.{MachineId}
use Rattle.st_events.specs.declared.message.Message.{Message}
use Rattle.st_events.specs.declared.refusal.Refusal.{Refusal}
use Rattle.st_events.specs.declared.refusal.Refusal.TheVariants.{NotPossible, NoSuchMachine}
use Rattle.st_events.specs.declared.refused.Refused.{Refused}
use Rattle.st_answers.specs.declared.command.Command.{Command}
use Rattle.st_answers.specs.declared.command.Command.TheVariants as command
use Rattle.st_answers.specs.declared.entry.Entry.{Entry}
use Rattle.st_core.specs.Callbacks.{Callbacks}
use Rattle.st_scheduled.specs.declared.posted.Posted.{Posted}
use Rattle.st_scheduled.specs.declared.step_answer.StepAnswer.{StepAnswer}
use Rattle.st_scheduled.specs.Answered.{posted_as, taken_out_as}
use Rattle.st_scheduled.specs.ScheduledMachine.{ScheduledMachine}
use Rattle.st_scheduled.specs.Serving.{refused_with, Tells, Serves}
use Rattle.st_pool_core.specs.PoolState.{machine_of, changed_for, has_messages}

module _ {M S D C : Type 0} (callbacks : M → Callbacks S D C) where
  -- of these machines the one of an id was told a command, and the others stay
  pub record TellsOne (machines : List (ScheduledMachine M S D C)) (id : MachineId) (command : Command C) (answer : StepAnswer S C) (new : List (ScheduledMachine M S D C)) : Type 0 where
    pub old : ScheduledMachine M S D C
    pub after : ScheduledMachine M S D C
    pub found : machine_of id machines ≡ Some old
    pub tells : Tells callbacks old command answer after
    pub others : new ≡ changed_for id (λ (one : ScheduledMachine M S D C). after) machines

  -- of these machines the one of an id was served, and the others stay; its token is retired, or it is not
  pub record ServesOne (machines : List (ScheduledMachine M S D C)) (id : MachineId) (now : ℕ) (answer : StepAnswer S C) (keeps : Bool) (new : List (ScheduledMachine M S D C)) : Type 0 where
    pub old : ScheduledMachine M S D C
    pub after : ScheduledMachine M S D C
    pub found : machine_of id machines ≡ Some old
    pub serves : Serves callbacks old now answer after
    pub token : keeps ≡ is_some after.token
    pub others : new ≡ changed_for id (λ (one : ScheduledMachine M S D C). after) machines

  -- of these machines the one of an id was served; or it is not there
  pub record ServesAt (machines : List (ScheduledMachine M S D C)) (id : MachineId) (now : ℕ) (answer : StepAnswer S C) (keeps : Bool) (new : List (ScheduledMachine M S D C)) : Type 0 where
    pub serves :
        ((answer ≡ refused_with NotPossible None) × (keeps ≡ true) × (machine_of id machines ≡ None) × (new ≡ machines))
        ⊎ ServesOne machines id now answer keeps new

  -- of these machines the one of an id gave its first message, or refused to; or none gives one, since it is not there or
  -- has none
  pub record GivesOne (machines : List (ScheduledMachine M S D C)) (id : MachineId) (given : Result (Option (Message C)) Refusal) (new : List (ScheduledMachine M S D C)) : Type 0 where
    pub gives :
        ((given ≡ Err NotPossible) × (has_messages machines id ≡ false) × (new ≡ machines))
        ⊎ ((has_messages machines id ≡ true) × TellsOne machines id command.TakeOut (taken_out_as given) new)

  -- of these machines the one of an id was posted an event; or it is not there. Where it is refused, the content comes back
  pub record PostsOne (machines : List (ScheduledMachine M S D C)) (id : MachineId) (entry : Entry) (content : C) (posted : Result Posted (Refused C)) (new : List (ScheduledMachine M S D C)) : Type 0 where
    pub posts :
        ((posted ≡ Err (record { refusal = NoSuchMachine; value = content })) × (machine_of id machines ≡ None) × (new ≡ machines))
        ⊎ TellsOne machines id (command.Post entry content) (posted_as posted) new
    pub returned : IfErr posted (λ refused. refused.value ≡ content)
