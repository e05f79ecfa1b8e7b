use Rattle.std.proofs.Common.{refl}
use Rattle.std.proofs.lemmas.Result.{on_ok_weaker}
use Rattle.st_agenda.proofs.SweepLemmas.{kept_pushed, pushed_is}
use Rattle.st_agenda.proofs.agenda.Agenda.push.Goals as goal

pub invariant_of-self : goal.invariant_of-self
invariant_of-self g c =
    let inside = c.self.inside in
    kept_pushed inside.pending c.push-pushed.new.self inside.timeouts.listed inside.expiries c.self.invariant
    (record { number = inside.pending.next_number; kind = c.args.kind; content = c.args.content }) refl
    c.push-pushed.result c.push-pushed.ensures.pushed c.push-pushed.ensures.unchanged c.in_order.ensures

pub returns-clause-pushed : goal.returns-clause-pushed
returns-clause-pushed g c =
    let inside = c.self.inside in
    rw (← c.self.view_is)
    (on_ok_weaker c.push-pushed.result
    (pushed_is inside.pending c.push-pushed.new.self inside.timeouts.listed inside.expiries c.self.invariant
    (record { number = inside.pending.next_number; kind = c.args.kind; content = c.args.content }) refl)
    c.push-pushed.ensures.pushed)
