-- Doors go on until they rest.
use Rattle.std.proofs.Common.{◌≡◌, ℕ, zero, suc, ◌<◌, ◌≤◌, Bool, true, false, List, [], ◌∷◌, length, get_or, set, map, Option, Some, None, refl, ap, sym, ◌∙◌, arith, inl, inr}
use Rattle.std.specs.List.{find, list_any}
use Rattle.std.proofs.lemmas.Bool.{cases_Bool, cases_lt}
use Rattle.st_answers.specs.declared.command.Command.{Command}
use Rattle.st_core.specs.Choice.{has_event_of, has_message_of, is_ready_of}
use Rattle.st_core.specs.Start.{first_state}
use Rattle.st_events.specs.declared.machine_id.MachineId.{MachineId}
use Rattle.st_events.specs.declared.message.Message.{Message}
use Rattle.st_outbox.specs.Outbox.{first_message, has_messages}
use Rattle.st_scheduled.proofs.TokensCompared.{ids_same}
use Rattle.st_journal.specs.declared.source.Source.{Source}
use Rattle.st_doors.specs.declared.door_content.DoorContent.{DoorContent}
use Rattle.st_doors.specs.declared.door_state.DoorState.TheVariants.{Locked}
use Rattle.st_doors.specs.declared.service.Service.{Service}
use Rattle.st_doors.specs.declared.service.Service.TheVariants.{Turn, TakeOut, Deliver}
use Rattle.st_doors.specs.Doors.{DoorMachine, NamedDoor, KeptDoor, IsFirst, RestsOutside, change_first, door_named, door_told_by, is_ready_door, kept_of, kept_told_by, SameLabels}
use Rattle.st_doors.specs.Settling.{command_for, delivered, gone_on, gone_on_by, has_id, message_at, run_until_idle, served_door, source_for}
use Rattle.st_doors.proofs.DoorLemmas.{IsFirst-changed, IsFirst-found}
use Rattle.st_doors.proofs.ToldLemmas.{id-told}

-- a door to speak of where there is none
abbrev pub no_door : NamedDoor
no_door = record { name = []; machine = first_state (record { slot = 0; serial = 0 }) Locked (record { code = []; buttons = [] }) 0 0; history = None }

-- ---- the first element that passes
pub IsFirst-after : {X : Type 0} (test : X → Bool) (xs : List X) (place : ℕ) (d : X) → place < length xs
    → ((k : ℕ) → k < place → test (get_or xs k d) ≡ false) → test (get_or xs place d) ≡ true → IsFirst test xs place
IsFirst-after test [] place d h before here = absurd (omega arith)
IsFirst-after test (x ∷ xs) zero d h before here = here
IsFirst-after test (x ∷ xs) (suc place) d h before here = (
  before zero (omega arith),
  IsFirst-after test xs place d (omega arith) (λ k less. before (suc k) (omega arith)) here,
)

pub first-passes : {X : Type 0} (test : X → Bool) (xs : List X) (place : ℕ) (d : X) → IsFirst test xs place → test (get_or xs place d) ≡ true
first-passes test [] place d h = absurd h
first-passes test (x ∷ xs) zero d h = h
first-passes test (x ∷ xs) (suc place) d h = first-passes test xs place d h.1

pub list_any-first : {X : Type 0} (test : X → Bool) (xs : List X) (place : ℕ) → IsFirst test xs place → list_any test xs ≡ true
list_any-first test [] place h = absurd h
list_any-first test (x ∷ xs) zero h = rw h refl
list_any-first test (x ∷ xs) (suc place) h = rw h.0 (list_any-first test xs place h.1)

pub list_any-none : {X : Type 0} (test : X → Bool) (xs : List X) (d : X) → ((k : ℕ) → k < length xs → test (get_or xs k d) ≡ false) → list_any test xs ≡ false
list_any-none test [] d none = refl
list_any-none test (x ∷ xs) d none = rw (none zero (omega arith)) (list_any-none test xs d (λ k less. none (suc k) (omega arith)))

-- ---- labels
pub map-set_same : {X Y : Type 0} (f : X → Y) (xs : List X) (place : ℕ) (x d : X) → place < length xs → f x ≡ f (get_or xs place d) → map f (set xs place x) ≡ map f xs
map-set_same f [] place x d h same = refl
map-set_same f (y ∷ ys) zero x d h same = ap (λ t. t ∷ map f ys) same
map-set_same f (y ∷ ys) (suc place) x d h same = ap (λ t. f y ∷ t) (map-set_same f ys place x d (omega arith) same)

pub labels-more : (a b c : List NamedDoor) → SameLabels a b → SameLabels b c → SameLabels a c
labels-more a b c one two = record { names = two.names ∙ one.names; slots = two.slots ∙ one.slots }

-- another door of the same id and name keeps the labels
pub labels-set : (doors : List NamedDoor) (place : ℕ) (d : NamedDoor) (door : KeptDoor) → place < length doors
    → door.machine.id ≡ (get_or doors place d).machine.id → SameLabels doors (set doors place (door_named (get_or doors place d).name door))
labels-set doors place d door less same = record {
  names = map-set_same (λ (door : NamedDoor). door.name) doors place _ d less refl;
  slots = map-set_same (λ (door : NamedDoor). door.machine.id.slot) doors place _ d less (ap (λ (id : MachineId). id.slot) same);
}

-- and so does one that was told a command
pub labels-told : (doors : List NamedDoor) (place : ℕ) (d : NamedDoor) (source : Source) (command : Command DoorContent) → place < length doors
    → SameLabels doors (set doors place (door_told_by source command (get_or doors place d)))
labels-told doors place d source command less =
    labels-set doors place d (kept_told_by source command (kept_of (get_or doors place d))) less (id-told (get_or doors place d).machine command)

pub labels-same : (doors : List NamedDoor) → SameLabels doors doors
labels-same doors = record { names = refl; slots = refl }

-- doors that are served one after another keep them as well
pub labels-served : (old doors new : List NamedDoor) (place : ℕ) (service : Service) → SameLabels old doors → place < length doors
    → new ≡ set doors place (served_door service (get_or doors place no_door)) → SameLabels old new
labels-served old doors new place service same less served =
    rw served (labels-more old doors _ same (labels-told doors place no_door (source_for service) (command_for service) less))

-- ---- one step, and none
pub some-message : (messages : List (Message DoorContent)) → has_messages messages ≡ true → first_message messages ≡ None → ⊥
some-message [] some none = cc
some-message (message ∷ messages) some none = cc

-- the door of an id has it
pub has-id : (id : MachineId) (doors : List NamedDoor) (place : ℕ) (d : NamedDoor) → IsFirst (has_id id) doors place → id ≡ (get_or doors place d).machine.id
has-id id [] place d first = absurd first
has-id id (door ∷ doors) zero d first = ids_same id door.machine.id first
has-id id (door ∷ doors) (suc place) d first = has-id id doors place d first.1

-- where it has a message, that is what goes on
pub goes-on : (moment : ℕ) (doors : List NamedDoor) (first : ℕ) (message : Option (Message DoorContent)) → IsFirst is_ready_door doors first
    → message ≡ first_message (get_or doors first no_door).machine.outbox.messages → gone_on moment doors ≡ gone_on_by message moment doors
goes-on moment doors first message here is =
    ap (λ (found : Option NamedDoor). gone_on_by (message_at found) moment doors) (IsFirst-found is_ready_door doors first no_door here)
    ∙ ap (λ (m : Option (Message DoorContent)). gone_on_by m moment doors) (sym is)

no-message : (messages : List (Message DoorContent)) → has_messages messages ≡ false → None ≡ first_message messages
no-message [] none = refl
no-message (message ∷ messages) none = cc

-- the first ready door had a turn
pub gone-turned : (moment : ℕ) (doors new : List NamedDoor) (first : ℕ) → IsFirst is_ready_door doors first
    → has_message_of (get_or doors first no_door).machine ≡ false
    → new ≡ set doors first (served_door (Turn moment) (get_or doors first no_door)) → new ≡ gone_on moment doors
gone-turned moment doors new first here none turned =
    turned ∙ (sym (IsFirst-changed is_ready_door (served_door (Turn moment)) doors first no_door here)
    ∙ sym (goes-on moment doors first None here (no-message (get_or doors first no_door).machine.outbox.messages none)))

-- a ready door without a message has an event
pub event-ready : (machine : DoorMachine) → is_ready_of machine ≡ true → has_message_of machine ≡ false → has_event_of machine ≡ true
event-ready machine ready none = elim (cases_Bool (has_event_of machine)) [
  | inl event ↦ event
  | inr without ↦ let never = rw (without, none) at ready in cc
]

-- a message was taken out of it
pub taken-out : (doors mid : List NamedDoor) (first : ℕ) → IsFirst is_ready_door doors first
    → mid ≡ set doors first (served_door TakeOut (get_or doors first no_door)) → mid ≡ change_first is_ready_door (served_door TakeOut) doors
taken-out doors mid first here taken = taken ∙ sym (IsFirst-changed is_ready_door (served_door TakeOut) doors first no_door here)

-- and was delivered
pub gone-delivered : (moment : ℕ) (doors mid new : List NamedDoor) (first place : ℕ) (message : Message DoorContent) → IsFirst is_ready_door doors first
    → Some message ≡ first_message (get_or doors first no_door).machine.outbox.messages
    → mid ≡ set doors first (served_door TakeOut (get_or doors first no_door))
    → IsFirst (has_id message.target) mid place → new ≡ set mid place (served_door (Deliver message) (get_or mid place no_door))
    → new ≡ gone_on moment doors
gone-delivered moment doors mid new first place message here is taken there posted =
    posted ∙ (sym (IsFirst-changed (has_id message.target) (served_door (Deliver message)) mid place no_door there)
    ∙ (ap (delivered message) (taken-out doors mid first here taken) ∙ sym (goes-on moment doors first (Some message) here is)))

-- or lost
unchanged-none : {X : Type 0} (test : X → Bool) (change : X → X) (xs : List X) → find test xs ≡ None → change_first test change xs ≡ xs
unchanged-none test change [] none = refl
unchanged-none test change (x ∷ xs) none = elim (cases_Bool (test x)) [
  | inl passes ↦ let some = rw passes at none in cc
  | inr fails ↦ rw fails (ap (λ t. x ∷ t) (unchanged-none test change xs (rw fails at none)))
]

pub gone-lost : (moment : ℕ) (doors mid : List NamedDoor) (first : ℕ) (message : Message DoorContent) → IsFirst is_ready_door doors first
    → Some message ≡ first_message (get_or doors first no_door).machine.outbox.messages
    → mid ≡ set doors first (served_door TakeOut (get_or doors first no_door)) → find (has_id message.target) mid ≡ None
    → mid ≡ gone_on moment doors
gone-lost moment doors mid first message here is taken missing =
    sym (unchanged-none (has_id message.target) (served_door (Deliver message)) mid missing)
    ∙ (ap (delivered message) (taken-out doors mid first here taken) ∙ sym (goes-on moment doors first (Some message) here is))

pub run-gone_on : (steps moment : ℕ) (doors : List NamedDoor) (first : ℕ) → IsFirst is_ready_door doors first
    → run_until_idle (suc steps) moment doors ≡ run_until_idle steps moment (gone_on moment doors)
unfolding run_until_idle
run-gone_on steps moment doors first here = rw (list_any-first is_ready_door doors first here, run_until_idle) refl

pub run-rested : (steps moment : ℕ) (doors : List NamedDoor) → list_any is_ready_door doors ≡ false → run_until_idle steps moment doors ≡ doors
unfolding run_until_idle
run-rested zero moment doors none = refl
run-rested (suc steps) moment doors none = rw (none, run_until_idle) refl

pub run-none : (moment : ℕ) (doors : List NamedDoor) → run_until_idle 0 moment doors ≡ doors
unfolding run_until_idle
run-none moment doors = refl

-- all rest, where none may be ready
pub rests-all : (doors : List NamedDoor) (from until : ℕ) → until ≤ from → RestsOutside from until doors → list_any is_ready_door doors ≡ false
rests-all doors from until none rests =
    list_any-none is_ready_door doors no_door
    (λ k less. rests k no_door less (elim (cases_lt k from) [ inl before ↦ inl before | inr after ↦ inr (omega (arith, none, after)) ]))
