use Rattle.std.proofs.Common.{sym, ◌∙◌}
use Rattle.st_pool_core.proofs.MachineLemmas.{place_is, machine_at, no_place}
use Rattle.st_pool_core.proofs.machines.Machines.get.Goals as goal

pub returns-in_err-place : goal.returns-in_err-place
returns-in_err-place g c = rw (c.from_residual.ensures) (sym (no_place c.args.id c.args.self.now (sym c.place_of.ensures.place ∙ c.in_err-place.was)))

pub returns : goal.returns
returns g c = rw (← c.self.view_is) (sym (machine_at c.args.id c.self.inside.all.items c.in_ok-place.place c.index.result.now
    (place_is c.args.id c.self.inside.all.items c.in_ok-place.place (rw (← c.self.view_is) at (sym c.place_of.ensures.place ∙ c.in_ok-place.was))) c.index.ensures))
