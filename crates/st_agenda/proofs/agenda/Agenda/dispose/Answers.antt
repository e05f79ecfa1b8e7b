use Rattle.std.proofs.Common.{◌≡◌, true, false}
use Rattle.st_agenda.specs.Waiting.{IsOrdered}
use Rattle.st_agenda.specs.Agenda.{items_in}
use Rattle.st_agenda.proofs.SweepLemmas.{number_is_next, postpone_disposes, finish_disposes, agrees_disposed, disposed_is}
use Rattle.st_agenda.proofs.agenda.Agenda.dispose.Goals.{then-postpone, else-postpone}
use Rattle.st_agenda.proofs.agenda.Agenda.dispose.Goals as goal

pub postpone-requires : goal.postpone-requires
postpone-requires g c =
    let inside = c.self.inside in
    let number_is = rw (← c.self.view_is) at c.requires in
    number_is_next inside.pending inside.timeouts.listed inside.expiries c.args.number c.self.invariant.agrees number_is

pub finish-requires : goal.finish-requires
finish-requires g c =
    let inside = c.self.inside in
    let number_is = rw (← c.self.view_is) at c.requires in
    number_is_next inside.pending inside.timeouts.listed inside.expiries c.args.number c.self.invariant.agrees number_is

pub pass_dead-self-inside-requires : goal.pass_dead-self-inside-requires
pass_dead-self-inside-requires g c =
    let inside = c.self.inside in
    let number_is = rw (← c.self.view_is) at c.requires in
    elim c.if-postpone.branch [
      | then-postpone w ↦
          let ordered : IsOrdered w.postpone.new.self = rw w.self-inside-is at c.in_order.ensures in
          rw w.self-inside-is
          (agrees_disposed inside.pending inside.timeouts.listed inside.expiries c.args.number c.self.invariant.agrees number_is w.postpone.new.self true ordered
          (postpone_disposes inside.pending inside.timeouts.listed inside.expiries c.args.number c.self.invariant.agrees number_is w.postpone.new.self w.postpone.ensures))
      | else-postpone w ↦
          let ordered : IsOrdered w.finish.new.self = rw w.self-inside-is at c.in_order.ensures in
          rw w.self-inside-is
          (agrees_disposed inside.pending inside.timeouts.listed inside.expiries c.args.number c.self.invariant.agrees number_is w.finish.new.self false ordered
          (finish_disposes inside.pending inside.timeouts.listed inside.expiries c.args.number c.self.invariant.agrees number_is w.finish.new.self w.finish.ensures))
    ]

pub returns : goal.returns
returns g c =
    let inside = c.self.inside in
    let passed = c.pass_dead-self-inside in
    let number_is = rw (← c.self.view_is) at c.requires in
    elim c.if-postpone.branch [
      | then-postpone w ↦
          let same : items_in inside.timeouts.listed passed.new.pending.items ≡ items_in inside.timeouts.listed w.postpone.new.self.items =
          rw w.self-inside-is at passed.ensures.same_items in
          let rest : passed.new.pending ≡ record w.postpone.new.self { items = passed.new.pending.items } = rw w.self-inside-is at passed.ensures.rest in
          rw (← c.self.view_is, w.self-inside-is, w.if-postpone.true)
          (disposed_is inside.pending inside.timeouts.listed inside.expiries c.args.number c.self.invariant.agrees number_is w.postpone.new.self passed.new.pending inside.timeouts.reserved true
          (postpone_disposes inside.pending inside.timeouts.listed inside.expiries c.args.number c.self.invariant.agrees number_is w.postpone.new.self w.postpone.ensures)
          same rest)
      | else-postpone w ↦
          let same : items_in inside.timeouts.listed passed.new.pending.items ≡ items_in inside.timeouts.listed w.finish.new.self.items =
          rw w.self-inside-is at passed.ensures.same_items in
          let rest : passed.new.pending ≡ record w.finish.new.self { items = passed.new.pending.items } = rw w.self-inside-is at passed.ensures.rest in
          rw (← c.self.view_is, w.self-inside-is, w.if-postpone.false)
          (disposed_is inside.pending inside.timeouts.listed inside.expiries c.args.number c.self.invariant.agrees number_is w.finish.new.self passed.new.pending inside.timeouts.reserved false
          (finish_disposes inside.pending inside.timeouts.listed inside.expiries c.args.number c.self.invariant.agrees number_is w.finish.new.self w.finish.ensures)
          same rest)
    ]
