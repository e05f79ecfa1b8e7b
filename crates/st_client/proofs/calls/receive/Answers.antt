use Rattle.std.proofs.Common.{◌≡◌, Ok, Err, refl, ap, ◌∙◌, subst}
use Rattle.st_answers.specs.declared.command.Command.TheVariants as command
use Rattle.st_core.specs.Callbacks.{callbacks_of}
use Rattle.st_events.specs.declared.machine_id.MachineId.{MachineId}
use Rattle.st_events.specs.declared.tag.Tag.{Tag}
use Rattle.st_requests.specs.declared.collected.Collected.TheVariants as collected
use Rattle.st_scheduled.specs.Answered.{collected_as}
use Rattle.st_lock.specs.Machines.{id_of, IsToldSomewhere}
use Rattle.st_client.proofs.calls.receive.Goals as goal

-- the machine that is asked is the request's, and so is the tag
pub returns-in-Ok-Reply-clause-received : goal.returns-in-Ok-Reply-clause-received
returns-in-Ok-Reply-clause-received g c =
    let callbacks = callbacks_of g.M.Module g.M.State.PartialEq.eq in
    let same : id_of c.deref.result.now ≡ c.args.id.machine = ap id_of c.deref.ensures ∙ c.machine.ensures in
    let answered = collected_as (Ok (collected.Reply c.in-Ok-Reply.content)) in
    subst (λ (tag : Tag). IsToldSomewhere callbacks c.args.id.machine (command.Collect tag) answered) c.tag.ensures
    (subst (λ (id : MachineId). IsToldSomewhere callbacks id (command.Collect c.tag.result) answered) same (rw c.in-Ok-Reply.field-0-is at c.in-Ok-Reply.ensures.does))

pub returns-in-Ok-Stopped-clause-received : goal.returns-in-Ok-Stopped-clause-received
returns-in-Ok-Stopped-clause-received g c =
    let callbacks = callbacks_of g.M.Module g.M.State.PartialEq.eq in
    let same : id_of c.deref.result.now ≡ c.args.id.machine = ap id_of c.deref.ensures ∙ c.machine.ensures in
    let answered = collected_as (Ok (collected.Stopped c.in-Ok-Stopped.reason)) in
    subst (λ (tag : Tag). IsToldSomewhere callbacks c.args.id.machine (command.Collect tag) answered) c.tag.ensures
    (subst (λ (id : MachineId). IsToldSomewhere callbacks id (command.Collect c.tag.result) answered) same (rw c.in-Ok-Stopped.field-0-is at c.in-Ok-Stopped.ensures.does))

pub returns-in-Ok-Gone-clause-received : goal.returns-in-Ok-Gone-clause-received
returns-in-Ok-Gone-clause-received g c =
    let callbacks = callbacks_of g.M.Module g.M.State.PartialEq.eq in
    let same : id_of c.deref.result.now ≡ c.args.id.machine = ap id_of c.deref.ensures ∙ c.machine.ensures in
    let answered = collected_as (Ok collected.Gone) in
    subst (λ (tag : Tag). IsToldSomewhere callbacks c.args.id.machine (command.Collect tag) answered) c.tag.ensures
    (subst (λ (id : MachineId). IsToldSomewhere callbacks id (command.Collect c.tag.result) answered) same (rw c.in-Ok-Gone.field-0-is at c.in-Ok-Gone.ensures.does))

pub returns-clause-received : goal.returns-clause-received
returns-clause-received g c =
    let callbacks = callbacks_of g.M.Module g.M.State.PartialEq.eq in
    let same : id_of c.deref.result.now ≡ c.args.id.machine = ap id_of c.deref.ensures ∙ c.machine.ensures in
    let answered = collected_as (Err c.in-Err.refusal) in (
      refl,
      subst (λ (tag : Tag). IsToldSomewhere callbacks c.args.id.machine (command.Collect tag) answered) c.tag.ensures
          (subst (λ (id : MachineId). IsToldSomewhere callbacks id (command.Collect c.tag.result) answered) same c.in-Err.ensures.does),
    )
