use Rattle.std.proofs.Common.{◌≡◌, ap, ◌∙◌, subst}
use Rattle.st_answers.specs.declared.command.Command.TheVariants as command
use Rattle.st_core.specs.Callbacks.{callbacks_of}
use Rattle.st_events.specs.declared.machine_id.MachineId.{MachineId}
use Rattle.st_events.specs.declared.tag.Tag.{Tag}
use Rattle.st_scheduled.specs.Answered.{collected_as}
use Rattle.st_lock.specs.Machines.{id_of, IsToldSomewhere}
use Rattle.st_client.proofs.calls.check.Goals as goal

-- the machine that is asked is the request's
pub returns : goal.returns
returns g c =
    let callbacks = callbacks_of g.M.Module g.M.State.PartialEq.eq in
    let same : id_of c.deref.result.now ≡ c.args.id.now.machine = ap id_of c.deref.ensures ∙ c.machine.ensures in
    subst (λ (tag : Tag). IsToldSomewhere callbacks c.args.id.now.machine (command.Collect tag) (collected_as c.collect.result)) c.tag.ensures
    (subst (λ (id : MachineId). IsToldSomewhere callbacks id (command.Collect c.tag.result) (collected_as c.collect.result)) same c.collect.ensures)
