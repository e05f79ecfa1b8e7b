use Rattle.std.proofs.Common.{◌≡◌, ◌<◌, ◌^◌, None, Some, Ok, Err, if◌then◌else◌, refl, ap, sym, ◌∙◌, inr, arith}
use Rattle.std.specs.Option.{option_map}
use Rattle.st_events.specs.declared.event.Event.{Event}
use Rattle.st_core.specs.Callbacks.{callbacks_of, called_with, called_of, outcome_of, handled_with, entered_by, is_entered}
use Rattle.st_core.specs.Choice.{next_event_of}
use Rattle.st_core.specs.Gathering.{report_with}
use Rattle.st_core.specs.Transition.{with_moment, unless_refused, concluded}
use Rattle.st_core.specs.Run.{turn_takes_memory, turn_without_memory}
use Rattle.st_core.proofs.LawfulLemmas.{lawful_moment}
use Rattle.st_core.proofs.TransitionLemmas.{machine_of, turn_wants_memory, turn_is, turn_does, turn_keeps, told_as, meets_same}
use Rattle.st_core.proofs.engine.Core.turn.Goals as goal

pub conclude-requires : goal.conclude-requires
conclude-requires g c =
    let early : c.args.now < 2 ^ 63 = omega (arith, c.if-now-ge-MOMENT_LIMIT.false) in
    let event : Event _ = record { number = c.in-Some-next.number; kind = c.in-Some-next.kind; content = c.in-Some-next.content.now } in
    let seen : next_event_of c.args.self.now.machine ≡ Some event = rw (← c.self.view_is) (sym c.next.ensures ∙ rw c.in-Some-next.is refl) in
    (g.met.M.Module.lawful.outcome_fits, (early, (ap (λ next. option_map (λ (event : Event _). event.number) next) seen, c.new-gathered.ensures.empty)))

-- `handle` finds no memory
pub returns-in-Err-clause-does : goal.returns-in-Err-clause-does
returns-in-Err-clause-does g c =
    let callbacks = callbacks_of g.M.Module g.M.State.PartialEq.eq c.args.self.now.module_ in
    let machine = c.args.self.now.machine in
    let event : Event _ = record { number = c.in-Some-next.number; kind = c.in-Some-next.kind; content = c.in-Some-next.content.now } in
    let ended : machine.ended ≡ None = rw (← c.self.view_is) c.in_default.is in
    let early : c.args.now < 2 ^ 63 = omega (arith, c.if-now-ge-MOMENT_LIMIT.false) in
    let seen : next_event_of machine ≡ Some event = rw (← c.self.view_is) (sym c.next.ensures ∙ rw c.in-Some-next.is refl) in
    inr (turn_wants_memory callbacks machine c.args.now event ended early seen, refl, refl)

-- an idle turn
pub invariant_of-self : goal.invariant_of-self
invariant_of-self g c =
    let old = c.self.inside in
    let early : c.args.now < 2 ^ 63 = omega (arith, c.if-now-ge-MOMENT_LIMIT.false) in
    rw c.max-self-inside.ensures
    (lawful_moment (machine_of old.id old.state old.data old.agenda.schedule old.requests old.outgoing.outbox old.latest old.ended) c.args.now early c.self.invariant)

-- what the callbacks come to is refused
pub returns-in-Err-conclude-clause-does : goal.returns-in-Err-conclude-clause-does
returns-in-Err-conclude-clause-does g c =
    let callbacks = callbacks_of g.M.Module g.M.State.PartialEq.eq c.args.self.now.module_ in
    let machine = c.args.self.now.machine in
    let event : Event _ = record { number = c.in-Some-next.number; kind = c.in-Some-next.kind; content = c.in-Some-next.content.now } in
    let ended : machine.ended ≡ None = rw (← c.self.view_is) c.in_default.is in
    let early : c.args.now < 2 ^ 63 = omega (arith, c.if-now-ge-MOMENT_LIMIT.false) in
    let seen : next_event_of machine ≡ Some event = rw (← c.self.view_is) (sym c.next.ensures ∙ rw c.in-Some-next.is refl) in
    let answered : c.in-Ok.outcome ≡ outcome_of callbacks machine event = rw (c.in-Ok.ensures, ← c.self.view_is) refl in
    let handled = handled_with callbacks.same_state event.number event.kind machine.state machine.data (outcome_of callbacks machine event) in
    let called = called_of callbacks machine event in
    let given : handled ≡ called_with callbacks.same_state c.new-gathered.result.calls machine.state machine.data c.in-Ok.outcome =
    rw (answered, c.new-gathered.ensures.calls, c.handle_alone-calls.ensures, ← c.self.view_is) refl in
    let entered : called ≡ (if is_entered callbacks machine.state c.in-Ok.outcome then entered_by callbacks machine.state handled else handled) = rw answered refl in
    let definition = unless_refused machine (concluded callbacks (with_moment machine c.args.now) event.number called called.reason) in
    let turns = c.conclude.ensures handled called (record { handled_is = given; called_is = entered }) in
    turn_does (callbacks_of g.M.Module g.M.State.PartialEq.eq) c.args.self.now c.conclude.new.self c.args.now (Err c.in-Err-conclude.refused) turns.0
    (meets_same turn_takes_memory turn_without_memory _ _ _ (turn_is callbacks machine c.args.now event ended early seen)
    (told_as event.number c.args.self.now c.conclude.new.self c.conclude.new.gathered c.conclude.result (Err c.in-Err-conclude.refused) definition c.in-Err-conclude.is turns))

pub returns-in-Err-conclude-clause-unchanged : goal.returns-in-Err-conclude-clause-unchanged
returns-in-Err-conclude-clause-unchanged g c =
    let callbacks = callbacks_of g.M.Module g.M.State.PartialEq.eq c.args.self.now.module_ in
    let machine = c.args.self.now.machine in
    let event : Event _ = record { number = c.in-Some-next.number; kind = c.in-Some-next.kind; content = c.in-Some-next.content.now } in
    let answered : c.in-Ok.outcome ≡ outcome_of callbacks machine event = rw (c.in-Ok.ensures, ← c.self.view_is) refl in
    let handled = handled_with callbacks.same_state event.number event.kind machine.state machine.data (outcome_of callbacks machine event) in
    let called = called_of callbacks machine event in
    let given : handled ≡ called_with callbacks.same_state c.new-gathered.result.calls machine.state machine.data c.in-Ok.outcome =
    rw (answered, c.new-gathered.ensures.calls, c.handle_alone-calls.ensures, ← c.self.view_is) refl in
    let entered : called ≡ (if is_entered callbacks machine.state c.in-Ok.outcome then entered_by callbacks machine.state handled else handled) = rw answered refl in
    turn_keeps c.args.self.now c.conclude.new.self event.number c.conclude.new.gathered c.conclude.result c.in-Err-conclude.refused
    (concluded callbacks (with_moment machine c.args.now) event.number called called.reason) c.in-Err-conclude.is
    (c.conclude.ensures handled called (record { handled_is = given; called_is = entered }))

-- it is done, and reported
pub returns-clause-does : goal.returns-clause-does
returns-clause-does g c =
    let callbacks = callbacks_of g.M.Module g.M.State.PartialEq.eq c.args.self.now.module_ in
    let machine = c.args.self.now.machine in
    let event : Event _ = record { number = c.in-Some-next.number; kind = c.in-Some-next.kind; content = c.in-Some-next.content.now } in
    let ended : machine.ended ≡ None = rw (← c.self.view_is) c.in_default.is in
    let early : c.args.now < 2 ^ 63 = omega (arith, c.if-now-ge-MOMENT_LIMIT.false) in
    let seen : next_event_of machine ≡ Some event = rw (← c.self.view_is) (sym c.next.ensures ∙ rw c.in-Some-next.is refl) in
    let answered : c.in-Ok.outcome ≡ outcome_of callbacks machine event = rw (c.in-Ok.ensures, ← c.self.view_is) refl in
    let handled = handled_with callbacks.same_state event.number event.kind machine.state machine.data (outcome_of callbacks machine event) in
    let called = called_of callbacks machine event in
    let given : handled ≡ called_with callbacks.same_state c.new-gathered.result.calls machine.state machine.data c.in-Ok.outcome =
    rw (answered, c.new-gathered.ensures.calls, c.handle_alone-calls.ensures, ← c.self.view_is) refl in
    let entered : called ≡ (if is_entered callbacks machine.state c.in-Ok.outcome then entered_by callbacks machine.state handled else handled) = rw answered refl in
    let definition = unless_refused machine (concluded callbacks (with_moment machine c.args.now) event.number called called.reason) in
    let report_is : c.into_report-report.result ≡ report_with (Some event.number) c.in-Ok-conclude.done machine.state c.conclude.new.self.machine.state c.conclude.new.gathered =
    rw (c.into_report-report.ensures, ← c.self.view_is, ← c.self-2.view_is) refl in
    let turns = c.conclude.ensures handled called (record { handled_is = given; called_is = entered }) in
    rw report_is
    (turn_does (callbacks_of g.M.Module g.M.State.PartialEq.eq) c.args.self.now c.conclude.new.self c.args.now _ turns.0
    (meets_same turn_takes_memory turn_without_memory _ _ _ (turn_is callbacks machine c.args.now event ended early seen)
    (told_as event.number c.args.self.now c.conclude.new.self c.conclude.new.gathered c.conclude.result (Ok c.in-Ok-conclude.done) definition c.in-Ok-conclude.is turns)))
