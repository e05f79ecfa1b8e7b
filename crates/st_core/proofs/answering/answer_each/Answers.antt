use Rattle.std.proofs.Common.{◌≡◌, [], append-nil, arith, refl, sym}
use Rattle.std.proofs.lemmas.List.{nil_from_length}
use Rattle.st_actions.specs.Plan.{replies_of}
use Rattle.st_core.proofs.answering.answer_each.Goals as goal

-- where there are none, all is as it was
pub returns-else-count-gt0-clause-answered : goal.returns-else-count-gt0-clause-answered
returns-else-count-gt0-clause-answered g c =
    let none : replies_of c.args.actions.now ≡ [] = nil_from_length (replies_of c.args.actions.now) (omega (arith, c.requires.count, c.if-count-gt0.false)) in
    rw none refl

pub returns-else-count-gt0-clause-taken : goal.returns-else-count-gt0-clause-taken
returns-else-count-gt0-clause-taken g c =
    let none : replies_of c.args.actions.now ≡ [] = nil_from_length (replies_of c.args.actions.now) (omega (arith, c.requires.count, c.if-count-gt0.false)) in
    rw none (sym (append-nil c.args.taken.now.items))
