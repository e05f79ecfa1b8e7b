use Rattle.std.proofs.Common.{inl}
use Rattle.std.specs.Prelude.{Ok}
use Rattle.st_answers.specs.declared.command.Command.TheVariants as command
use Rattle.st_answers.specs.declared.answer.Answer.TheVariants as answer
use Rattle.st_core.specs.Callbacks.{callbacks_of}
use Rattle.actor.proofs.RefusalLemmas.{tick_unserved}
use Rattle.actor.proofs.serving.tick.Goals as goal

-- it was not refused
pub returns-in-Ok-clause-served : goal.returns-in-Ok-clause-served
returns-in-Ok-clause-served g c = inl (record {
  command = command.Tick c.args.now;
  answer = answer.Tick (Ok c.in-Ok.field-0);
  is_next = c.requires.next;
  silent = tt;
  does = c.in-Ok.ensures.does;
})

-- it was refused
pub returns-in-Err-clause-unserved : goal.returns-in-Err-clause-unserved
returns-in-Err-clause-unserved g c =
    rw c.unserved.ensures (tick_unserved (callbacks_of g.M.Module g.M.State.PartialEq.eq) c.args.core.now c.tick_to.new.self c.args.now c.in-Err.refusal
    c.requires.next c.in-Err.ensures.does c.in-Err.ensures.unchanged)
