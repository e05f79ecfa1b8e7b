use Rattle.std.proofs.Common.{refl}
use Rattle.st_core.specs.Callbacks.{callbacks_of, begun_by}
use Rattle.st_core.proofs.engine.Core.open.Goals as goal

pub returns-in-Ok : goal.returns-in-Ok
returns-in-Ok g c =
    let callbacks = callbacks_of g.M.Module g.M.State.PartialEq.eq c.args.opening.module in
    record {
      start = rw c.in-Ok.is (c.begin.ensures.start (begun_by callbacks c.in-Ok.state c.in-Ok.data c.in-Ok.actions) (record { called_is = refl }));
    }
