-- What a host answers, as a callback module answers it.
use Rattle.std.specs.Prelude.{ℕ, Option, Some, None, []}
use Rattle.st_events.specs.declared.outcome.Outcome.{Outcome}
use Rattle.st_events.specs.declared.outcome.Outcome.TheVariants as outcome
use Rattle.st_events.specs.declared.enter_outcome.EnterOutcome.{EnterOutcome}
use Rattle.st_events.specs.declared.enter_outcome.EnterOutcome.TheVariants as enter
use Rattle.st_hosted.specs.declared.payload.Payload.{Payload}
use Rattle.st_hosted.specs.declared.host_outcome.HostOutcome.{HostOutcome}
use Rattle.st_hosted.specs.declared.host_outcome.HostOutcome.TheVariants.{NextState, KeepState, KeepStateAndData, RepeatState, RepeatStateAndData, Stop, StopAndReply}
use Rattle.st_hosted.specs.declared.host_entered.HostEntered.{HostEntered}
use Rattle.st_hosted.specs.declared.host_entered.HostEntered.TheVariants as entered

-- what `handle` answers: the same, with the same lists
abbrev pub outcome_in : HostOutcome → Outcome ℕ ℕ Payload
outcome_in (NextState state held actions) = outcome.NextState state held actions
outcome_in (KeepState held actions) = outcome.KeepState held actions
outcome_in (KeepStateAndData actions) = outcome.KeepStateAndData actions
outcome_in (RepeatState held actions) = outcome.RepeatState held actions
outcome_in (RepeatStateAndData actions) = outcome.RepeatStateAndData actions
outcome_in (Stop reason held) = outcome.Stop reason held
outcome_in (StopAndReply reason replies held) = outcome.StopAndReply reason replies held

-- what `enter` answers: the same, with the same lists
abbrev pub entered_by : HostEntered → EnterOutcome ℕ Payload
entered_by (entered.KeepState held actions) = enter.KeepState held actions
entered_by (entered.KeepStateAndData actions) = enter.KeepStateAndData actions
entered_by (entered.Stop reason held) = enter.Stop reason held
entered_by (entered.StopAndReply reason replies held) = enter.StopAndReply reason replies held

-- where nothing was told, `enter` keeps state and data, and asks for nothing
abbrev pub entered_in : Option HostEntered → EnterOutcome ℕ Payload
entered_in None = enter.KeepStateAndData []
entered_in (Some told) = entered_by told
