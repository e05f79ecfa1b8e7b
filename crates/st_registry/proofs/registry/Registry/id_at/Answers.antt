use Rattle.st_registry.proofs.registry.Registry.id_at.Goals as goal

-- no machine stands at a slot where the directory has none
pub returns-clause-vacant : goal.returns-clause-vacant
returns-clause-vacant g c = rw (← c.self.view_is) c.id_at.ensures.vacant
