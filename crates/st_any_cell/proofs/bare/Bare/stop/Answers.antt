use Rattle.st_answers.specs.declared.command.Command.TheVariants as command
use Rattle.st_core.specs.Callbacks.{callbacks_of}
use Rattle.st_scheduled.specs.Answered.{stopped_as}
use Rattle.st_journal.specs.declared.source.Source.TheVariants as source
use Rattle.st_any_cell.proofs.BareLemmas.{bare_told, stop_free}
use Rattle.st_any_cell.proofs.bare.Bare.stop.Goals as goal

-- it does what a cell does, and keeps nothing of it
pub returns : goal.returns
returns g c = record {
  does = bare_told (callbacks_of g.M.Module g.M.State.PartialEq.eq) c.args.self.now.scheduled c.args.self.now.ports.items source.Caller (command.Stop c.args.reason) (stopped_as c.stop.result) c.stop.new.self
      (stop_free (callbacks_of g.M.Module g.M.State.PartialEq.eq) c.args.self.now.scheduled c.args.reason) c.stop.ensures.told;
}
