use Rattle.std.proofs.Common.{inr, length, subst}
use Rattle.st_core.specs.Callbacks.{callbacks_of}
use Rattle.st_lock.specs.Bounded.{PostsWithin}
use Rattle.st_service.specs.Ports.{ServicePortState}
use Rattle.st_service.proofs.service_port.ServicePort.post.Goals as goal

-- the port's post answers so
pub returns-clause-does : goal.returns-clause-does
returns-clause-does g c = inr (subst (λ (own : ServicePortState _). PostsWithin (callbacks_of g.M.Module g.M.State.PartialEq.eq) own.port.machine (length own.port.posts) own.limit c.args.entry c.args.content c.post_within.result) c.self.view_is
    c.post_within.ensures.does)
