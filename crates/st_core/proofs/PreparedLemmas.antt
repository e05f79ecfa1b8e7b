-- What stays while a transition gets ready.
use Rattle.std.proofs.Common.{◌≡◌, List}
use Rattle.st_events.specs.declared.action.Action.{Action}
use Rattle.st_actions.specs.Plan.{replies_of, inserts_of, sends_of}
use Rattle.st_agenda.specs.Agenda.{Agenda}
use Rattle.st_outbox.specs.Outbox.{OutgoingState}
use Rattle.st_core.specs.declared.gathered.Gathered.{Gathered}
use Rattle.st_core.specs.Prepared.{KeepsAll}

pub keeps_all : {S C : Type 0} {actions left : List (Action C)} {agenda after : Agenda C} {outgoing beside : OutgoingState C} {gathered noted : Gathered S}
    → replies_of left ≡ replies_of actions → inserts_of left ≡ inserts_of actions → sends_of left ≡ sends_of actions
    → noted.calls ≡ gathered.calls → beside.outbox ≡ outgoing.outbox → after.schedule ≡ agenda.schedule
    → KeepsAll actions left agenda after outgoing beside gathered noted
keeps_all same_replies same_inserts same_sends same_calls same_outbox same_schedule = record {
  replies = same_replies;
  inserts = same_inserts;
  sends = same_sends;
  calls = same_calls;
  outbox = same_outbox;
  schedule = same_schedule;
}
