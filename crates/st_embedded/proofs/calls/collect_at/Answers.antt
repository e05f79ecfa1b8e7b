-- The machine that was lent is told, and written back.
use Rattle.std.proofs.Common.{sym, subst}
use Rattle.st_answers.specs.declared.answer.Answer.TheVariants as answer
use Rattle.st_answers.specs.declared.command.Command.TheVariants as command
use Rattle.st_core.specs.Callbacks.{callbacks_of}
use Rattle.st_core.specs.Run.{Does}
use Rattle.st_events.specs.declared.tag.Tag.{Tag}
use Rattle.st_embedded.proofs.TableLemmas.{wrote}
use Rattle.st_embedded.proofs.calls.collect_at.Goals as goal

pub returns-clause-does : goal.returns-clause-does
returns-clause-does g c = (
  c.in_ok-core.core.now,
  c.collect.new.self,
  sym c.in_ok-core.ensures.value,
  subst (λ (t : Tag). Does (callbacks_of g.M.Module g.M.State.PartialEq.eq) c.in_ok-core.core.now (command.Collect t) (answer.Collect c.collect.result) c.collect.new.self) c.tag-tag.ensures c.collect.ensures.does,
  wrote c.args.machines.now (c.get_mut.follows.lender c.collect.new.self) c.args.number c.in_ok-core.core.now c.collect.new.self c.in_ok-core.ensures.value
      (c.get_mut.follows.holds c.collect.new.self),
)
