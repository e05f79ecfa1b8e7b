use Rattle.std.proofs.Common.{ap, ◌∙◌, arith}
use Rattle.std.specs.Prelude.{is_some}
use Rattle.st_timeouts.proofs.FallingLemmas.{is_some_within, on_some, shorter}
use Rattle.st_timeouts.proofs.zeros.Zeros.forget.Goals as goal

pub returns-in-Some-clause-items : goal.returns-in-Some-clause-items
returns-in-Some-clause-items c =
    let there = is_some_within c.self.inside.list.items c.in-Some.place c.in-Some.ensures.within in
    let new = on_some c.remove.result _ (ap is_some c.remove.ensures.value ∙ there) c.remove.ensures.removed in
    rw (new, ← c.self.view_is) c.in-Some.ensures.found

pub returns-in-Some-clause-places : goal.returns-in-Some-clause-places
returns-in-Some-clause-places c =
    let zeros = c.self.inside.list.items in
    let there = is_some_within zeros c.in-Some.place c.in-Some.ensures.within in
    let new = on_some c.remove.result _ (ap is_some c.remove.ensures.value ∙ there) c.remove.ensures.removed in
    let fewer = shorter zeros c.in-Some.place c.in-Some.ensures.within in
    rw (new, ← c.self.view_is) (omega (arith, fewer))
