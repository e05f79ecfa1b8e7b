use Rattle.std.proofs.Common.{refl, ap, ◌∙◌}
use Rattle.st_timeouts.specs.Timeouts.{Timeouts, begun}
use Rattle.st_agenda.proofs.ExpireLemmas.{begun_agrees, begun_is}
use Rattle.st_agenda.proofs.agenda.Agenda.begin.Goals as goal

pub pass_dead-self-inside-requires : goal.pass_dead-self-inside-requires
pass_dead-self-inside-requires g c =
    let inside = c.self.inside in
    let one = begun c.args.timer c.args.time c.args.content c.take_number-number.result c.args.now in
    let listed = ap (λ (t : Timeouts _). t.listed) c.set-old.ensures.set in
    rw listed (begun_agrees inside.pending c.take_number-number.new.self inside.timeouts.listed inside.expiries c.self.invariant.agrees c.in_order.ensures one c.take_number-number.ensures.taken
    c.take_number-number.ensures.number refl)

pub returns-clause-schedule : goal.returns-clause-schedule
returns-clause-schedule g c =
    let inside = c.self.inside in
    let passed = c.pass_dead-self-inside in
    let one = begun c.args.timer c.args.time c.args.content c.take_number-number.result c.args.now in
    let listed = ap (λ (t : Timeouts _). t.listed) c.set-old.ensures.set in
    let same_items = rw listed at passed.ensures.same_items in
    rw (← c.self.view_is, listed) (begun_is inside.pending c.take_number-number.new.self inside.timeouts.listed inside.expiries c.self.invariant.agrees c.in_order.ensures one c.take_number-number.ensures.taken
    c.take_number-number.ensures.number refl passed.new.pending same_items passed.ensures.rest ∙ (rw c.take_number-number.ensures.number refl))
