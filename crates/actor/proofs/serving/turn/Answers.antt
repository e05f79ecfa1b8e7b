use Rattle.std.proofs.Common.{refl}
use Rattle.std.specs.Prelude.{Ok}
use Rattle.st_answers.specs.declared.command.Command.TheVariants as command
use Rattle.st_answers.specs.declared.answer.Answer.TheVariants as answer
use Rattle.st_answers.specs.declared.turned.Turned.TheVariants.{Reported, Idle}
use Rattle.st_core.specs.Callbacks.{callbacks_of}
use Rattle.actor.proofs.RefusalLemmas.{turn_unserved}
use Rattle.actor.proofs.ServingLemmas.{served_none, served_one}
use Rattle.actor.proofs.serving.turn.Goals as goal

-- it reported
pub returns-in-Ok-Reported-clause-served : goal.returns-in-Ok-Reported-clause-served
returns-in-Ok-Reported-clause-served g c =
    served_one (callbacks_of g.M.Module g.M.State.PartialEq.eq) g.O.Observer.hears g.O.Observer.takes c.args.core.now c.args.observer.now
    (command.Turn c.args.now) (answer.Turn (Ok (Reported c.in-Ok-Reported.report))) c.turn.new.self c.turned.new.self
    (record { is_next = c.requires.next; accepted = refl; does = rw c.in-Ok-Reported.field-0-is at c.in-Ok-Reported.ensures.does; tells = c.turned.ensures })

-- there was no event after all
pub returns-in-Ok-Idle-clause-served : goal.returns-in-Ok-Idle-clause-served
returns-in-Ok-Idle-clause-served g c =
    served_one (callbacks_of g.M.Module g.M.State.PartialEq.eq) g.O.Observer.hears g.O.Observer.takes c.args.core.now c.args.observer.now
    (command.Turn c.args.now) (answer.Turn (Ok Idle)) c.turn.new.self c.args.observer.now
    (record { is_next = c.requires.next; accepted = refl; does = rw c.in-Ok-Idle.field-0-is at (rw c.in-Ok-Idle.is at c.turn.ensures.does); tells = refl })

-- it was refused
pub returns-in-Err-clause-served : goal.returns-in-Err-clause-served
returns-in-Err-clause-served g c =
    rw c.in-Err.ensures.unchanged (served_none (callbacks_of g.M.Module g.M.State.PartialEq.eq) g.O.Observer.hears g.O.Observer.takes c.args.core.now c.args.observer.now)

pub returns-in-Err-clause-unserved : goal.returns-in-Err-clause-unserved
returns-in-Err-clause-unserved g c =
    rw c.unserved.ensures (turn_unserved (callbacks_of g.M.Module g.M.State.PartialEq.eq) c.args.core.now c.turn.new.self c.args.now c.in-Err.refusal
    c.requires.next c.in-Err.ensures.does c.in-Err.ensures.unchanged)
