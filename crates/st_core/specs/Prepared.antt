-- What a transition has got ready, before anything that waits, runs or was sent changes.
use Rattle.std.specs.Prelude.{◌≡◌, ◌+◌, ◌≤◌, ◌&&◌, ◌⊎◌, Bool, true, false, [], List, length, vec_capacity, Result, Ok, Err}
use Rattle.std.specs.List.{range_with_len}
use Rattle.std.specs.Option.{unwrap_or}
use Rattle.st_events.specs.declared.action.Action.{Action}
use Rattle.st_events.specs.declared.refusal.Refusal.{Refusal}
use Rattle.st_events.specs.declared.refusal.Refusal.TheVariants.{NoMemory, Exhausted}
use Rattle.st_actions.specs.declared.counts.Counts.{Counts}
use Rattle.st_actions.specs.Counted.{IsCountOf}
use Rattle.st_actions.specs.Plan.{replies_of, inserts_of, postpone_of, settings_of, sends_of}
use Rattle.st_actions.specs.Taking.{all_settings_of}
use Rattle.st_agenda.specs.Items.{numbered, numbers_of}
use Rattle.st_agenda.specs.Agenda.{Agenda, running_on}
use Rattle.st_agenda.specs.Timing.{has_numbers}
use Rattle.st_outbox.specs.Outbox.{OutgoingState, has_message_numbers}
use Rattle.st_core.specs.declared.gathered.Gathered.{Gathered}
use Rattle.st_core.specs.Transition.{decisions_of}

module _ {C : Type 0} where
  -- there are numbers for events and time-outs, where the state changes or not
  abbrev pub has_event_numbers : Bool → Agenda C → List (Action C) → Bool
  has_event_numbers changed agenda actions =
      has_numbers agenda.schedule.next_number (running_on changed agenda.schedule) (inserts_of actions) (settings_of actions)

  -- memory is wanting, or numbers are
  abbrev pub Lacks : Bool → List (Action C) → Agenda C → OutgoingState C → Refusal → Type 0
  Lacks changed actions agenda outgoing refusal =
      (refusal ≡ NoMemory)
      ⊎ ((refusal ≡ Exhausted) × ((has_event_numbers changed agenda actions && has_message_numbers outgoing.outbox (sends_of actions)) ≡ false))

module _ {S C : Type 0} where
  -- the same replies, inserts and messages are asked for; what waits, runs or was sent, and the calls made, are as before
  pub record KeepsAll (actions left : List (Action C)) (agenda after : Agenda C) (outgoing beside : OutgoingState C) (gathered noted : Gathered S) : Type 0 where
    pub replies : replies_of left ≡ replies_of actions
    pub inserts : inserts_of left ≡ inserts_of actions
    pub sends : sends_of left ≡ sends_of actions
    pub calls : noted.calls ≡ gathered.calls
    pub outbox : beside.outbox ≡ outgoing.outbox
    pub schedule : after.schedule ≡ agenda.schedule

  -- there are numbers and places for all that actions ask for: what is left of the actions was counted, and is of each
  -- timer the last that was asked; the report's lists are noted, but for the tags of replies, which have their places
  pub record HasAll (changed : Bool) (actions left : List (Action C)) (agenda after : Agenda C) (outgoing beside : OutgoingState C) (noted : Gathered S) (counts : Counts) : Type 0 where
    pub counted : IsCountOf counts left
    pub postpone : unwrap_or counts.postpone false ≡ postpone_of actions
    pub last : all_settings_of left ≡ settings_of actions
    pub numbers : has_event_numbers changed agenda actions ≡ true
    pub message_numbers : has_message_numbers outgoing.outbox (sends_of actions) ≡ true
    pub replied : noted.replied.items ≡ []
    pub replies : length (replies_of actions) ≤ vec_capacity noted.replied
    pub inserted : noted.inserted ≡ numbers_of (numbered agenda.schedule.next_number (inserts_of actions))
    pub set : noted.set ≡ decisions_of (settings_of actions)
    pub sent : noted.sent ≡ range_with_len outgoing.outbox.next_number (length (sends_of actions))
    pub staged : length (inserts_of actions) + 1 ≤ after.staged
    pub reserved : length (settings_of actions) ≤ after.reserved
    pub places : length (sends_of actions) ≤ beside.reserved

  -- all is ready, or something is wanting
  abbrev pub Prepares : Bool → List (Action C) → List (Action C) → Agenda C → Agenda C → OutgoingState C → OutgoingState C → Gathered S → Result Counts Refusal → Type 0
  Prepares changed actions left agenda after outgoing beside noted (Ok counts) = HasAll changed actions left agenda after outgoing beside noted counts
  Prepares changed actions left agenda after outgoing beside noted (Err refusal) = Lacks changed actions agenda outgoing refusal
