use Rattle.std.proofs.Common.{sym, arith}
use Rattle.st_agenda.proofs.SweepLemmas.{swept_left, swept_more}
use Rattle.st_agenda.proofs.agenda.pass_each_dead.Goals as goal

pub overflow_sub-left : goal.overflow_sub-left
overflow_sub-left g c =
    swept_left c.args.timeouts.now.listed c.args.pending.now c.loop-number.pending c.loop-number.left c.in-Some.number c.loop-number.invariant (sym c.in-Some.ensures)

pub loop-number-smaller : goal.loop-number-smaller
loop-number-smaller g c =
    let counted = swept_left c.args.timeouts.now.listed c.args.pending.now c.loop-number.pending c.loop-number.left c.in-Some.number c.loop-number.invariant (sym c.in-Some.ensures) in
    omega (arith, counted)

pub loop-number-preserved : goal.loop-number-preserved
loop-number-preserved g c =
    swept_more c.args.timeouts.now.listed c.args.pending.now c.loop-number.pending c.loop-number.left c.in-Some.number c.loop-number.invariant (sym c.in-Some.ensures)
    c.finish.new.self c.in_order.ensures c.finish.ensures
