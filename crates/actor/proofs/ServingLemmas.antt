-- How what is done with a machine is put together.
use Rattle.std.proofs.Common.{◌≡◌, false, List, [], ◌∷◌, ◌++◌, refl, inl, inr}
use Rattle.std.specs.Prelude.{Ok, Err}
use Rattle.st_events.specs.declared.message.Message.{Message}
use Rattle.st_answers.specs.declared.answer.Answer.{Answer}
use Rattle.st_answers.specs.declared.answer.Answer.TheVariants as answer
use Rattle.st_answers.specs.declared.command.Command.{Command}
use Rattle.st_answers.specs.declared.report.Report.{Report}
use Rattle.st_core.specs.Callbacks.{Callbacks}
use Rattle.st_core.specs.MachineState.{Machine}
use Rattle.st_core.specs.Run.{is_refusal, Runs}
use Rattle.actor.specs.Serving.{IsSilent, Tells, ServesOne, Serves, IsServed, ServesSilentlyOrNot}

-- what no observer is told of is no refusal
accepted_silently : {S C : Type 0} (answer : Answer S C) → IsSilent answer → is_refusal answer ≡ false
accepted_silently (answer.Post (Ok number)) silent = refl
accepted_silently (answer.Post (Err refused)) silent = absurd silent
accepted_silently (answer.Tick (Ok count)) silent = refl
accepted_silently (answer.Tick (Err refusal)) silent = absurd silent
accepted_silently (answer.Turn turned) silent = absurd silent
accepted_silently (answer.Reply taken) silent = absurd silent
accepted_silently (answer.Collect collected) silent = absurd silent
accepted_silently (answer.Stop stopped) silent = absurd silent
accepted_silently (answer.TakeOut message) silent = absurd silent

module _ {M S D C O : Type 0} (callbacks : M → Callbacks S D C) (hears : O → Report S → Machine M S D C → O → Type 0) (takes : O → Message C → O → Type 0) where
  -- no observer is told of it
  told_silently : (answer : Answer S C) (machine : Machine M S D C) (observer : O) → IsSilent answer → Tells hears takes observer answer machine observer
  told_silently (answer.Post posted) machine observer silent = refl
  told_silently (answer.Tick ticked) machine observer silent = refl
  told_silently (answer.Turn turned) machine observer silent = absurd silent
  told_silently (answer.Reply taken) machine observer silent = absurd silent
  told_silently (answer.Collect collected) machine observer silent = absurd silent
  told_silently (answer.Stop stopped) machine observer silent = absurd silent
  told_silently (answer.TakeOut message) machine observer silent = absurd silent

  -- nothing was done
  pub served_none : (machine : Machine M S D C) (observer : O) → IsServed callbacks hears takes machine observer machine observer
  served_none machine observer = record { commands = []; answers = []; serves = (refl, refl) }

  -- one command was done
  pub served_one : (old : Machine M S D C) (from : O) (command : Command C) (answer : Answer S C) (new : Machine M S D C) (to : O)
      → ServesOne callbacks hears takes old from command answer new to → IsServed callbacks hears takes old from new to
  served_one old from command answer new to one =
      record { commands = command ∷ []; answers = answer ∷ []; serves = (new, to, one, (refl, refl)) }

  -- one command was done, of which no observer is told, or none
  pub served_silently : (old new : Machine M S D C) (observer : O) → ServesSilentlyOrNot callbacks old new
      → IsServed callbacks hears takes old observer new observer
  served_silently old new observer (inl one) = served_one old observer one.command one.answer new observer (record {
    is_next = one.is_next;
    accepted = accepted_silently one.answer one.silent;
    does = one.does;
    tells = told_silently one.answer new observer one.silent;
  })
  served_silently old new observer (inr same) = rw same (served_none old observer)

  serves_on : (old : Machine M S D C) (from : O) (commands : List (Command C)) (answers : List (Answer S C)) (mid : Machine M S D C) (told : O)
      (more : List (Command C)) (more_answers : List (Answer S C)) (new : Machine M S D C) (to : O)
      → Serves callbacks hears takes old from commands answers mid told → Serves callbacks hears takes mid told more more_answers new to
      → Serves callbacks hears takes old from (commands ++ more) (answers ++ more_answers) new to
  serves_on old from [] [] mid told more more_answers new to one other = rw (← one.0, ← one.1) other
  serves_on old from [] (a ∷ answers) mid told more more_answers new to one other = absurd one
  serves_on old from (c ∷ commands) [] mid told more more_answers new to one other = absurd one
  serves_on old from (c ∷ commands) (a ∷ answers) mid told more more_answers new to one other =
      (one.0, one.1, one.2, serves_on one.0 one.1 commands answers mid told more more_answers new to one.3 other)

  -- a machine was served, and was served on
  pub served_on : (old : Machine M S D C) (from : O) (mid : Machine M S D C) (told : O) (new : Machine M S D C) (to : O)
      → IsServed callbacks hears takes old from mid told → IsServed callbacks hears takes mid told new to
      → IsServed callbacks hears takes old from new to
  served_on old from mid told new to one other = record {
    commands = one.commands ++ other.commands;
    answers = one.answers ++ other.answers;
    serves = serves_on old from one.commands one.answers mid told other.commands other.answers new to one.serves other.serves;
  }

  serves_is_run : (old : Machine M S D C) (from : O) (commands : List (Command C)) (answers : List (Answer S C)) (new : Machine M S D C) (to : O)
      → Serves callbacks hears takes old from commands answers new to → Runs callbacks old commands answers new
  serves_is_run old from [] [] new to serves = serves.0
  serves_is_run old from [] (a ∷ answers) new to serves = absurd serves
  serves_is_run old from (c ∷ commands) [] new to serves = absurd serves
  serves_is_run old from (c ∷ commands) (a ∷ answers) new to serves =
      (serves.0, serves.2.does, serves_is_run serves.0 serves.1 commands answers new to serves.3)

  -- what was done is a run
  pub served_is_run : (old : Machine M S D C) (from : O) (new : Machine M S D C) (to : O) → IsServed callbacks hears takes old from new to
      → (commands : List (Command C)) × (answers : List (Answer S C)) × Runs callbacks old commands answers new
  served_is_run old from new to served =
      (served.commands, served.answers, serves_is_run old from served.commands served.answers new to served.serves)
