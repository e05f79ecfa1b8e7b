use Rattle.std.proofs.Common.{inl}
use Rattle.std.specs.Prelude.{Ok}
use Rattle.st_answers.specs.declared.command.Command.TheVariants as command
use Rattle.st_answers.specs.declared.answer.Answer.TheVariants as answer
use Rattle.st_core.specs.Callbacks.{callbacks_of}
use Rattle.actor.proofs.RefusalLemmas.{post_unserved}
use Rattle.actor.proofs.serving.post.Goals as goal

-- it was not refused
pub returns-in-Ok-clause-served : goal.returns-in-Ok-clause-served
returns-in-Ok-clause-served g c = inl (record {
  command = command.Post c.args.event.entry c.args.event.content;
  answer = answer.Post (Ok c.in-Ok.field-0);
  is_next = c.requires.next;
  silent = tt;
  does = c.in-Ok.ensures.does;
})

-- it was refused
pub returns-in-Err-clause-unserved : goal.returns-in-Err-clause-unserved
returns-in-Err-clause-unserved g c =
    rw (c.new.ensures, c.in-Err.ensures.returned) (post_unserved (callbacks_of g.M.Module g.M.State.PartialEq.eq) c.args.core.now c.post.new.self c.args.event c.in-Err.refused
    c.requires.next c.in-Err.ensures.does c.in-Err.ensures.unchanged c.in-Err.ensures.returned)
