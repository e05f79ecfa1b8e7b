-- Hosted machines, as their callers see them.
use Rattle.std.specs.Prelude.{◌≡◌, ◌⊎◌, ◌-◌, ◌^◌, ℕ, false, nat_eq, None, [], Ok, Err}
use Rattle.st_answers.specs.declared.report.Report.{Report}
use Rattle.st_core.specs.Callbacks.{Callbacks, callbacks_of}
use Rattle.st_core.specs.MachineState.{Machine}
use Rattle.st_core.specs.Start.{Starts, start_of}
use Rattle.st_core.specs.declared.start.Start.TheVariants.{Running}
use Rattle.st_events.specs.declared.refusal.Refusal.{Refusal}
use Rattle.st_events.specs.declared.refusal.Refusal.TheVariants.{Full, NoMemory}
use Rattle.st_hosted.specs.declared.begin.Begin.{Begin}
use Rattle.st_hosted.specs.declared.host_answer.HostAnswer.{HostAnswer}
use Rattle.st_hosted.specs.declared.host_outcome.HostOutcome.TheVariants.{KeepStateAndData}
use Rattle.st_hosted.specs.declared.payload.Payload.{Payload}
use Rattle.st_hosted.specs.contracts.host_answer.HostAnswerModule.TheImpl.{ghosts}

-- a machine that a host answers for
abbrev pub Hosted : Type 0
Hosted = Machine HostAnswer ℕ ℕ Payload

-- what a host's answers are as callbacks
abbrev pub hosted_callbacks : HostAnswer → Callbacks ℕ ℕ Payload
hosted_callbacks = callbacks_of ghosts nat_eq

-- the machine whose module has these answers; whether it has enter calls stays
abbrev pub answered_by : HostAnswer → Hosted → Hosted
answered_by answers before = record before { module_ = record answers { enters = before.module_.enters } }

-- answers that are a last word alone
abbrev pub last_word : ℕ → HostAnswer
last_word word = record { enters = false; outcome = KeepStateAndData []; entered = None; word = word }

-- a start with these answers, of the machine of a number at a moment, leads to this machine and reports this
abbrev pub IsStarted : HostAnswer → Begin → ℕ → ℕ → Report ℕ → Hosted → Type 0
IsStarted answers begin number now report after =
    Starts {A = Begin} answers (Ok (Running after report))
    (start_of (hosted_callbacks answers) answers (record { slot = 0; serial = number }) (ghosts.init_is answers begin) now 1)

-- why there is no such start: no number is left, there is no memory, or the start itself is refused
abbrev pub WhyNotStarted : HostAnswer → Begin → ℕ → ℕ → Refusal → Type 0
WhyNotStarted answers begin number now refusal =
    ((refusal ≡ Full) × (number ≡ 2 ^ 64 - 1)) ⊎ (refusal ≡ NoMemory)
    ⊎ ((given_back : HostAnswer)
    × Starts {A = Begin} answers (Err (record { refusal = refusal; value = given_back }))
    (start_of (hosted_callbacks answers) answers (record { slot = 0; serial = number }) (ghosts.init_is answers begin) now 1))
