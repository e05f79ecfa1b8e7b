use Rattle.std.proofs.Common.{◌≡◌, Err, Ok, inr, refl, rules, subst}
use Rattle.st_core.specs.Callbacks.{callbacks_of}
use Rattle.st_events.specs.declared.tag.Tag.{Tag}
use Rattle.st_client.specs.Called.{IsReceived}
use Rattle.st_service.proofs.service_port.ServicePort.call.Goals.{in-Err-post, in-Ok-post}
use Rattle.st_service.proofs.service_port.ServicePort.call.Goals as goal

-- what was posted is waited for, or it was refused
pub returns-clause-does : goal.returns-clause-does
returns-clause-does g c = elim c.match-post.branch [
  | in-Ok-post w ↦
      let own : Tag = record { machine = c.args.self.now.port.machine; request = w.in-Ok-post.posted.number } in
      let is : w.new-id.result ≡ own = search rules in
      rw w.result-is (
        w.in-Ok-post.posted.number,
        (Ok w.in-Ok-post.posted, w.in-Ok-post.ensures.does, refl),
        subst (λ (tag : Tag). IsReceived (callbacks_of g.M.Module g.M.State.PartialEq.eq) tag w.receive.result) is w.receive.ensures.received,
      )
  | in-Err-post w ↦ rw w.result-is (inr (Err w.in-Err-post.unposted, w.in-Err-post.ensures.does, refl))
]
