use Rattle.st_core.specs.Callbacks.{callbacks_of}
use Rattle.st_scheduled.specs.Answered.{served_as}
use Rattle.st_any_cell.proofs.BareLemmas.{bare_served}
use Rattle.st_any_cell.proofs.bare.Bare.serve.Goals as goal

-- it is served as a cell is, and nothing is kept of it
pub returns : goal.returns
returns g c = record {
  served = (
    served_as c.serve-served.result,
    bare_served (callbacks_of g.M.Module g.M.State.PartialEq.eq) c.args.self.now.scheduled c.args.self.now.ports.items c.args.now (served_as c.serve-served.result) c.serve-served.new.self c.serve-served.ensures.served,
    c.done.ensures,
  );
}
