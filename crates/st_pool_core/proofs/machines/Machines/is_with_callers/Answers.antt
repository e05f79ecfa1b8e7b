use Rattle.std.proofs.Common.{sym, ap, ◌∙◌}
use Rattle.std.specs.Prelude.{option_copied}
use Rattle.st_pool_core.proofs.MachineLemmas.{callers_found}
use Rattle.st_pool_core.proofs.machines.Machines.is_with_callers.Goals as goal

pub returns-in-Some : goal.returns-in-Some
returns-in-Some g c = c.is_callers.ensures ∙ callers_found c.args.token c.args.self.now c.in-Some.machine.now (sym c.get.ensures ∙ ap option_copied c.in-Some.is)
