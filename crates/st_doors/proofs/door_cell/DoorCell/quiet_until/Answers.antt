use Rattle.std.proofs.Common.{rules, ◌≡◌, ◌≤◌, ◌<◌, ◌^◌, min, is_some, false, None, Some, arith}
use Rattle.st_core.specs.Choice.{next_due_of}
use Rattle.st_doors.specs.Entries.{machine_in, past_in}
use Rattle.st_doors.proofs.LateDoorsLemmas.{quiet-ever, quiet-before, quiet-cell, none-when, not-kept}
use Rattle.st_doors.proofs.door_cell.DoorCell.quiet_until.Goals as goal

-- no time-out is to come
pub returns-in-None-clause-quiet : goal.returns-in-None-clause-quiet
returns-in-None-clause-quiet c =
    let cell = c.self.inside.cell.value in
    let kept : past_in c.self.inside.past ≡ None = not-kept c.self.inside.past (search rules) in
    let ended : is_some (machine_in cell).ended ≡ false = search rules in
    let next : next_due_of (machine_in cell) ≡ None = search rules in
    rw (← c.self.view_is) (quiet-cell (past_in c.self.inside.past) (2 ^ 63) cell kept (quiet-ever (machine_in cell) (2 ^ 63) (omega arith) (none-when (machine_in cell).ended ended) next))

-- the first one is still to come
pub returns-then-latest-due-clause-quiet : goal.returns-then-latest-due-clause-quiet
returns-then-latest-due-clause-quiet c =
    let cell = c.self.inside.cell.value in
    let kept : past_in c.self.inside.past ≡ None = not-kept c.self.inside.past (search rules) in
    let ended : is_some (machine_in cell).ended ≡ false = search rules in
    let next : next_due_of (machine_in cell) ≡ Some c.in-Some.due = search rules in
    let seen : (machine_in cell).latest < c.in-Some.due = search rules in
    let least : c.min.result ≡ min c.in-Some.due (2 ^ 63) = search rules in
    let bounded : c.min.result ≤ 2 ^ 63 = rw least (grind arith) in
    let first : c.min.result ≤ c.in-Some.due = rw least (grind arith) in
    rw (← c.self.view_is) (quiet-cell (past_in c.self.inside.past) c.min.result cell kept
    (quiet-before (machine_in cell) c.min.result c.in-Some.due bounded first seen (none-when (machine_in cell).ended ended) next))
