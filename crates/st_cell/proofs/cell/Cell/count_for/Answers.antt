use Rattle.st_cell.proofs.cell.Cell.count_for.Goals as goal

-- the port is open in what is inside
pub count_for-requires : goal.count_for-requires
count_for-requires g c = rw c.self.view_is c.requires

-- it is its count there
pub returns : goal.returns
returns g c = rw (← c.self.view_is) c.count_for.ensures
