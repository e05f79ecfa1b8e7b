use Rattle.std.proofs.Common.{rules, ◌≡◌, ◌∙◌, sym, false, true, get_or}
use Rattle.st_doors.specs.declared.service.Service.TheVariants.{Turn, TakeOut, Deliver}
use Rattle.st_doors.specs.Doors.{SameLabels, is_ready_door}
use Rattle.st_doors.specs.Settling.{has_id}
use Rattle.st_doors.proofs.DoorLemmas.{IsFirst-within}
use Rattle.st_doors.proofs.IdleLemmas.{no_door, event-ready, first-passes, gone-turned, gone-lost, gone-delivered, has-id, labels-same, labels-served, some-message}
use Rattle.st_doors.proofs.until_idle.go_on.Goals as goal

-- it is one of the doors
pub has_message_at-requires : goal.has_message_at-requires
has_message_at-requires c = IsFirst-within is_ready_door c.args.doors.now c.args.place c.requires

pub serve_at-requires-clause-place : goal.serve_at-requires-clause-place
serve_at-requires-clause-place c = IsFirst-within is_ready_door c.args.doors.now c.args.place c.requires

pub serve_at-requires-2-clause-place : goal.serve_at-requires-2-clause-place
serve_at-requires-2-clause-place c = IsFirst-within is_ready_door c.args.doors.now c.args.place c.requires

-- ---- a turn
-- the door has an event, since it is ready and has no message
pub serve_at-requires-clause-can : goal.serve_at-requires-clause-can
serve_at-requires-clause-can c = λ d.
    let none : c.has_message_at.result ≡ false = search rules in
    event-ready (get_or c.args.doors.now c.args.place d).machine (first-passes is_ready_door c.args.doors.now c.args.place d c.requires) (sym (c.has_message_at.ensures d) ∙ none)

pub returns-then-not-has_message_at-clause-gone_on : goal.returns-then-not-has_message_at-clause-gone_on
returns-then-not-has_message_at-clause-gone_on c =
    let none : c.has_message_at.result ≡ false = search rules in
    gone-turned c.args.moment c.args.doors.now c.serve_at.new.self c.args.place c.requires (sym (c.has_message_at.ensures no_door) ∙ none) (c.in_ok-serve_at.ensures.served no_door)

pub returns-then-not-has_message_at-clause-same_labels : goal.returns-then-not-has_message_at-clause-same_labels
returns-then-not-has_message_at-clause-same_labels c =
    labels-served c.args.doors.now c.args.doors.now c.serve_at.new.self c.args.place (Turn c.args.moment) (labels-same c.args.doors.now)
    (IsFirst-within is_ready_door c.args.doors.now c.args.place c.requires) (c.in_ok-serve_at.ensures.served no_door)

-- ---- a message
-- the door has one
pub unreachable-requires : goal.unreachable-requires
unreachable-requires c =
    let some : c.has_message_at.result ≡ true = search rules in
    some-message (get_or c.args.doors.now c.args.place no_door).machine.outbox.messages (sym (c.has_message_at.ensures no_door) ∙ some)
    (sym (c.in_ok-message.ensures.message no_door) ∙ c.in_default.is)

-- it is lost
pub returns-in_default-place_of_id-clause-gone_on : goal.returns-in_default-place_of_id-clause-gone_on
returns-in_default-place_of_id-clause-gone_on c =
    gone-lost c.args.moment c.args.doors.now c.serve_at-2.new.self c.args.place c.in-Some.message c.requires (sym c.in-Some.is ∙ c.in_ok-message.ensures.message no_door)
    (c.in_ok-message.ensures.served no_door) c.in_default-place_of_id.ensures.missing

pub returns-in_default-place_of_id-clause-same_labels : goal.returns-in_default-place_of_id-clause-same_labels
returns-in_default-place_of_id-clause-same_labels c =
    labels-served c.args.doors.now c.args.doors.now c.serve_at-2.new.self c.args.place TakeOut (labels-same c.args.doors.now)
    (IsFirst-within is_ready_door c.args.doors.now c.args.place c.requires) (c.in_ok-message.ensures.served no_door)

-- it is delivered
pub serve_at-requires-3-clause-place : goal.serve_at-requires-3-clause-place
serve_at-requires-3-clause-place c = IsFirst-within (has_id c.in-Some.message.target) c.serve_at-2.new.self c.in-Some-place_of_id.target c.in-Some-place_of_id.ensures.place

pub serve_at-requires-3-clause-can : goal.serve_at-requires-3-clause-can
serve_at-requires-3-clause-can c = λ d. has-id c.in-Some.message.target c.serve_at-2.new.self c.in-Some-place_of_id.target d c.in-Some-place_of_id.ensures.place

-- where memory is wanted the message was taken out, and no more
pub returns-in_err-serve_at-2-clause-same_labels : goal.returns-in_err-serve_at-2-clause-same_labels
returns-in_err-serve_at-2-clause-same_labels c = rw c.in_err-serve_at-2.ensures.unchanged
    (labels-served c.args.doors.now c.args.doors.now c.serve_at-2.new.self c.args.place TakeOut (labels-same c.args.doors.now)
    (IsFirst-within is_ready_door c.args.doors.now c.args.place c.requires) (c.in_ok-message.ensures.served no_door))

pub returns-clause-gone_on : goal.returns-clause-gone_on
returns-clause-gone_on c =
    gone-delivered c.args.moment c.args.doors.now c.serve_at-2.new.self c.serve_at-3.new.self c.args.place c.in-Some-place_of_id.target c.in-Some.message c.requires
    (sym c.in-Some.is ∙ c.in_ok-message.ensures.message no_door) (c.in_ok-message.ensures.served no_door) c.in-Some-place_of_id.ensures.place (c.in_ok-serve_at-2.ensures.served no_door)

pub returns-clause-same_labels : goal.returns-clause-same_labels
returns-clause-same_labels c =
    let mid : SameLabels c.args.doors.now c.serve_at-2.new.self =
    labels-served c.args.doors.now c.args.doors.now c.serve_at-2.new.self c.args.place TakeOut (labels-same c.args.doors.now)
    (IsFirst-within is_ready_door c.args.doors.now c.args.place c.requires) (c.in_ok-message.ensures.served no_door) in
    labels-served c.args.doors.now c.serve_at-2.new.self c.serve_at-3.new.self c.in-Some-place_of_id.target (Deliver c.in-Some.message) mid
    (IsFirst-within (has_id c.in-Some.message.target) c.serve_at-2.new.self c.in-Some-place_of_id.target c.in-Some-place_of_id.ensures.place) (c.in_ok-serve_at-2.ensures.served no_door)
