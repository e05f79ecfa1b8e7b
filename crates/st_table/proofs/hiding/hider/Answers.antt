use Rattle.std.proofs.Common.{◌≡◌, Some, arith}
use Rattle.std.specs.Prelude.{slice_get}
use Rattle.std.proofs.lemmas.Grind.{common_steps}
use Rattle.std.proofs.lemmas.Option.{gets}
use Rattle.st_table.proofs.CoversLemmas.{never_taken_at, never_entered_at}
use Rattle.st_table.proofs.hiding.hider.Goals as goal

pub returns-in-Some-clause-never_taken : goal.returns-in-Some-clause-never_taken
returns-in-Some-clause-never_taken c =
    let at : slice_get c.args.rules.now c.args.place ≡ Some c.in-Some.later.now = grind (arith, common_steps, gets) in
    never_taken_at c.args.rules.now c.args.place c.in-Some.later.now c.first_cover.result at c.first_cover.ensures

pub returns-in-Some-clause-never_entered : goal.returns-in-Some-clause-never_entered
returns-in-Some-clause-never_entered c =
    let at : slice_get c.args.rules.now c.args.place ≡ Some c.in-Some.later.now = grind (arith, common_steps, gets) in
    never_entered_at c.args.rules.now c.args.place c.in-Some.later.now c.first_cover.result at c.first_cover.ensures
