use Rattle.st_cell.proofs.cell.Cell.look.Goals as goal

-- the port is open in what is inside
pub look-requires : goal.look-requires
look-requires g c = rw c.self.view_is c.requires

-- it is what is seen of what is inside
pub returns-clause-look : goal.returns-clause-look
returns-clause-look g c = rw (← c.self.view_is) c.look.ensures.look

pub returns-clause-refusals : goal.returns-clause-refusals
returns-clause-refusals g c = c.look.ensures.refusals
