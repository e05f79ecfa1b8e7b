-- A list of commands, each with the answers that the host handed in for it, from the machine before it to the machine
-- after it.
use Rattle.std.specs.Prelude.{◌≡◌, List, [], ◌∷◌}
use Rattle.st_answers.specs.declared.answer.Answer.{Answer}
use Rattle.st_answers.specs.declared.command.Command.{Command}
use Rattle.st_core.specs.declared.machine_state.MachineState.{MachineState}
use Rattle.st_core.specs.MachineState.{Machine}
use Rattle.st_core.specs.Callbacks.{Callbacks}
use Rattle.st_core.specs.Run.{Does}

-- a machine whose module has these answers
abbrev pub told : {M S D C : Type 0} → M → MachineState S D C → Machine M S D C
told answers machine = record { module_ = answers; machine = machine }

module _ {M S D C : Type 0} (callbacks : M → Callbacks S D C) where
  -- these are what is answered to commands, one after another, each of which is done with the answers that stand beside
  -- it as the machine's module; and this is the machine in the end
  abbrev pub HostedRuns : MachineState S D C → List (M × Command C) → List (Answer S C) → MachineState S D C → Type 0
  HostedRuns old [] [] new = new ≡ old
  HostedRuns old (step ∷ steps) (answer ∷ answers) new =
      (next : MachineState S D C) × Does callbacks (told step.0 old) step.1 answer (told step.0 next) × HostedRuns next steps answers new
  HostedRuns old [] (answer ∷ answers) new = ⊥
  HostedRuns old (step ∷ steps) [] new = ⊥
