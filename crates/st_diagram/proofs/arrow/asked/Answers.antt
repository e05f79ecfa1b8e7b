use Rattle.st_events.proofs.Given.{given}
use Rattle.st_diagram.proofs.arrow.asked.Goals as goal

-- the layout is a hypothesis
pub is_empty-requires : goal.is_empty-requires
is_empty-requires g c = search given

pub leads-requires : goal.leads-requires
leads-requires g c = search given
