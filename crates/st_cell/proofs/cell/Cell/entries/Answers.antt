use Rattle.st_cell.proofs.cell.Cell.entries.Goals as goal

-- they are the entries of what is inside
pub returns : goal.returns
returns g c = rw (← c.self.view_is, ← c.self-inside.view_is) c.as_slice.ensures.value
