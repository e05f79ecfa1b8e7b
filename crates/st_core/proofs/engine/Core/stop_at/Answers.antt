use Rattle.std.proofs.Common.{length, refl, ap, inr, arith}
use Rattle.std.proofs.lemmas.Result.{err_from_is_err_and}
use Rattle.st_actions.specs.Plan.{replies_of}
use Rattle.st_core.proofs.AnsweringLemmas.{replies_within}
use Rattle.st_core.proofs.StateLemmas.{answered_keeps}
use Rattle.st_core.proofs.engine.Core.stop_at.Goals as goal

-- there is a place for the tag of each reply
pub answer_all-requires : goal.answer_all-requires
answer_all-requires g c =
    let few = replies_within c.args.actions.now in
    let none = ap length c.requires.empty.replied in
    (g.met.M.Module.lawful.actions_fit, omega (arith, few, none, c.len.ensures.length, c.in_ok-reserve_exact.ensures.ok, c.in_ok-reserve_exact.ensures.len, ap length c.in_ok-reserve_exact.ensures.items))

-- it can come about before it ends
pub invariant_of-self : goal.invariant_of-self
invariant_of-self g c =
    let old = c.self.inside in
    rw (c.answer_all.ensures.answered, c.max-self-inside.ensures)
    (answered_keeps old.id old.agenda.schedule old.requests old.outgoing.outbox old.latest c.args.course.now old.ended (replies_of c.args.actions.now) c.requires.moment c.self.invariant)

-- the list of tags finds no memory before anything changes
pub returns-in_err-reserve_exact : goal.returns-in_err-reserve_exact
returns-in_err-reserve_exact g c called comes =
    let told = err_from_is_err_and c.from_residual-in_err-reserve_exact.result c.from_residual-in_err-reserve_exact.ensures.1 in
    (refl, inr (refl, rw (told.1, told.2) refl, refl))
