use Rattle.std.proofs.Common.{rules}
use Rattle.st_service.proofs.service_port.ServicePort.send.Goals.{in-Ok, in-Err}
use Rattle.st_service.proofs.service_port.ServicePort.send.Goals as goal

-- the post answers so, by its number
pub returns-clause-does : goal.returns-clause-does
returns-clause-does g c = (
  c.post.result,
  c.post.ensures.does,
  elim c.match-post.branch [
    | in-Ok w ↦ search rules
    | in-Err w ↦ search rules
  ],
)
