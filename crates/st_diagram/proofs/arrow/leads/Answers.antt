use Rattle.st_events.proofs.Given.{given}
use Rattle.st_diagram.proofs.arrow.leads.Goals as goal

-- the layout is a hypothesis
pub marks-requires : goal.marks-requires
marks-requires g c = search given
