use Rattle.std.proofs.Common.{length, ap, ◌∙◌}
use Rattle.st_core.specs.Choice.{waiting_of}
use Rattle.st_core.specs.MachineState.{Machine}
use Rattle.st_lock_inner.specs.Inner.{InnerState}
use Rattle.st_lock_inner.proofs.BoundedLemmas.{long_enough, short_enough}
use Rattle.st_lock_inner.proofs.inner.Inner.is_long.Goals as goal

-- there are more entries than the limit
pub returns-then-entries-limit : goal.returns-then-entries-limit
returns-then-entries-limit g c =
    long_enough c.args.self.now.cell c.args.limit c.waiting.result c.entries-entries.result
    (c.entries-entries.ensures ∙ ap (λ (inner : InnerState _ _ _ _). length inner.cell.journal) c.self.view_is)
    (c.waiting.ensures ∙ ap (λ (core : Machine _ _ _ _). waiting_of core.machine) c.core.ensures)
    c.if-entries-limit.true

-- there are not
pub returns-else-entries-limit : goal.returns-else-entries-limit
returns-else-entries-limit g c =
    short_enough c.args.self.now.cell c.args.limit c.entries-entries.result
    (c.entries-entries.ensures ∙ ap (λ (inner : InnerState _ _ _ _). length inner.cell.journal) c.self.view_is)
    c.if-entries-limit.false
