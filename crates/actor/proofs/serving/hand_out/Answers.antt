use Rattle.std.proofs.Common.{Some, refl}
use Rattle.st_answers.specs.declared.command.Command.TheVariants as command
use Rattle.st_answers.specs.declared.answer.Answer.TheVariants as answer
use Rattle.st_core.specs.Callbacks.{callbacks_of}
use Rattle.actor.proofs.ServingLemmas.{served_one}
use Rattle.actor.proofs.serving.hand_out.Goals as goal

-- it is handed to the observer
pub returns-in-Some : goal.returns-in-Some
returns-in-Some g c =
    record {
      served = served_one (callbacks_of g.M.Module g.M.State.PartialEq.eq) g.O.Observer.hears g.O.Observer.takes c.args.core.now c.args.observer.now
          command.TakeOut (answer.TakeOut (Some c.in-Some.message)) c.take_out.new.self c.sent.new.self
          (record { is_next = c.requires.next; accepted = refl; does = c.in-Some.ensures; tells = c.sent.ensures });
    }

-- there was none after all
pub returns-in_default : goal.returns-in_default
returns-in_default g c =
    record {
      served = served_one (callbacks_of g.M.Module g.M.State.PartialEq.eq) g.O.Observer.hears g.O.Observer.takes c.args.core.now c.args.observer.now
          command.TakeOut (answer.TakeOut c.take_out.result) c.take_out.new.self c.args.observer.now
          (record { is_next = c.requires.next; accepted = refl; does = c.take_out.ensures; tells = rw c.in_default.is refl });
    }
