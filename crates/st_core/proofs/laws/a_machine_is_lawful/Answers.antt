use Rattle.st_core.proofs.laws.a_machine_is_lawful.Goals as goal

pub returns : goal.returns
returns g c = rw (← c.core.view_is) c.core.invariant
