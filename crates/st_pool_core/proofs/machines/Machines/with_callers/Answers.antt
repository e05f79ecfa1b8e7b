use Rattle.st_pool_core.proofs.machines.Machines.with_callers.Goals as goal

pub tokens_with_callers-requires : goal.tokens_with_callers-requires
tokens_with_callers-requires g c κs = λ within. within

-- the machines are those of the list
pub returns : goal.returns
returns g c = rw (← c.self.view_is, ← c.deref.ensures.value) c.tokens_with_callers.ensures
