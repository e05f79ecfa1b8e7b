use Rattle.std.proofs.Common.{◌≤◌, arith}
use Rattle.st_cell.specs.Cell.{count_for}
use Rattle.st_cell.proofs.laws.a_port_has_no_more_posts_than_its_count.Goals as goal

-- a cell's posts are counted, and no count is above that of the commands
pub returns : goal.returns
returns g c =
    let counted = c.cell.invariant.journaled.counted in
    let limited = c.cell.invariant.journaled.limited in
    rw (← c.cell.view_is) (record {
      fewer = counted.fewer;
      limited = λ port is_open. let bounded : count_for port c.cell.inside.journaled.cell ≤ c.cell.inside.journaled.cell.scheduled.count = counted.bounded port is_open in
          omega (arith, bounded, limited);
    })
