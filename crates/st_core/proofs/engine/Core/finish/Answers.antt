use Rattle.std.proofs.Common.{◌≡◌, true, false, Some, [], max, refl, ap, sym, ◌∙◌, arith}
use Rattle.std.specs.Option.{option_map}
use Rattle.st_events.specs.declared.event.Event.{Event}
use Rattle.st_agenda.specs.declared.schedule.Schedule.{Schedule}
use Rattle.st_agenda.specs.Agenda.{next_in, settled_in}
use Rattle.st_agenda.proofs.NothingLemmas.{settled_nothing}
use Rattle.st_outbox.specs.Outbox.{with_sent}
use Rattle.st_outbox.proofs.OutboxLemmas.{with_sent-nothing}
use Rattle.st_core.specs.Transition.{with_moment, has_numbers}
use Rattle.st_core.proofs.StateLemmas.{settled_keeps}
use Rattle.st_core.proofs.TransitionLemmas.{went_on_is, machine_is, both_true, none_wanted, no_message_wanted}
use Rattle.st_core.proofs.engine.Core.finish.Goals as goal

pub settle-requires : goal.settle-requires
settle-requires g c =
    let same : c.stage.new.self.schedule ≡ c.args.self.now.machine.schedule = rw (c.in_ok-stage.ensures.staged, ← c.self.view_is) refl in
    record {
      number_is = ap (λ (s : Schedule _). option_map (λ (event : Event _). event.number) (next_in s)) same ∙ c.requires.number_is;
      staged = rw c.in_ok-stage.ensures.staged (omega arith);
    }

-- the answer and what is left are the definition's
pub returns : goal.returns
returns g c gathered empty called comes =
    let machine = c.args.self.now.machine in
    let old = c.self.inside in
    let enough : has_numbers (with_moment machine c.args.course.now) called ≡ true =
    rw (comes.actions, ← c.self.view_is)
    (both_true (none_wanted old.agenda.schedule.next_number c.self.invariant.scheduled.bounded) (no_message_wanted old.outgoing.outbox.next_number c.self.invariant.sent.bounded)) in
    let latest : c.max-self-inside.result ≡ max machine.latest c.args.course.now = rw (c.max-self-inside.ensures, ← c.self.view_is) refl in
    let same : c.stage.new.self.schedule ≡ machine.schedule = rw (c.in_ok-stage.ensures.staged, ← c.self.view_is) refl in
    let settled : c.settle.new.self.schedule ≡ settled_in (max machine.latest c.args.course.now) machine.schedule c.args.course.number false called.changed [] [] =
    rw (c.settle.ensures.schedule, same, comes.changed) (sym (settled_nothing (max machine.latest c.args.course.now) machine.schedule c.args.course.number false c.args.course.changed)) in
    let sent : old.outgoing.outbox ≡ with_sent machine.id machine.outbox [] = rw (← c.self.view_is) (sym (with_sent-nothing old.id old.outgoing.outbox)) in (
      rw (← c.self.view_is) refl,
      went_on_is machine (with_moment machine c.args.course.now) _ c.args.course.number called enough
          (rw (empty.replied, empty.inserted, empty.set, empty.sent, comes.calls, comes.state, comes.actions, ← c.self.view_is) refl)
          (rw comes.actions
          (machine_is (rw (← c.self.view_is) refl) (sym comes.state)
          (rw (c.replace.ensures, comes.data, ← c.self.view_is) refl)
          settled (rw (← c.self.view_is) refl) sent latest (rw (← c.self.view_is) refl))),
    )

-- what is left can come about
pub invariant_of-self-2 : goal.invariant_of-self-2
invariant_of-self-2 g c =
    let old = c.self.inside in
    let next : option_map (λ (event : Event _). event.number) (next_in old.agenda.schedule) ≡ Some c.args.course.number = rw (← c.self.view_is) at c.requires.number_is in
    let kept = settled_keeps old.id old.agenda.schedule old.requests old.outgoing.outbox old.latest c.args.course.now old.ended c.args.course.number false c.args.course.changed [] [] []
    [] c.requires.moment next tt (omega (arith, c.self.invariant.scheduled.bounded)) (omega (arith, c.self.invariant.sent.bounded)) c.self.invariant in
    rw (c.settle.ensures.schedule, c.in_ok-stage.ensures.staged, c.max-self-inside.ensures)
    (rw (settled_nothing (max old.latest c.args.course.now) old.agenda.schedule c.args.course.number false c.args.course.changed, with_sent-nothing old.id old.outgoing.outbox) at kept)
