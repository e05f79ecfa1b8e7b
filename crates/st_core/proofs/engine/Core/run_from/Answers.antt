use Rattle.std.proofs.Common.{◌∙◌}
use Rattle.st_core.proofs.engine.Core.run_from.Goals as goal

-- where nothing is asked for, the list of actions is empty
pub returns-then-is_empty : goal.returns-then-is_empty
returns-then-is_empty g c =
    record { start = λ called same_calls same_actions. c.run_idle.ensures.start called same_calls (same_actions ∙ c.is_empty.ensures.empty.0 c.if-is_empty.true) }
