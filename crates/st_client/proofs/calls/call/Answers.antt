use Rattle.std.proofs.Common.{None, subst}
use Rattle.st_core.specs.Callbacks.{callbacks_of}
use Rattle.st_events.specs.declared.machine_id.MachineId.{MachineId}
use Rattle.st_client.specs.Called.{IsReceived}
use Rattle.st_client.proofs.calls.call.Goals as goal

-- no token is left, so it waits for the request that was sent
pub returns-clause-does : goal.returns-clause-does
returns-clause-does g c =
    let sent = c.in_ok-id.ensures.does in
    record {
      number = c.in_ok-id.id.request;
      left = None;
      sent = record { answer = sent.answer; taken = sent.taken; numbered = sent.numbered; issued = tt };
      heard = subst (λ (machine : MachineId). IsReceived (callbacks_of g.M.Module g.M.State.PartialEq.eq) (record { machine = machine; request = c.in_ok-id.id.request }) c.receive.result)
          c.in_ok-id.ensures.id c.receive.ensures.received;
    }
