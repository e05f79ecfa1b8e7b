use Rattle.std.proofs.Common.{refl}
use Rattle.st_core.specs.Callbacks.{callbacks_of}
use Rattle.st_registry.proofs.KeptLemmas.{kept_starts}
use Rattle.st_registry.proofs.StartLemmas.{started_at, refused_at}
use Rattle.st_registry.proofs.starts.start_at.Goals as goal

-- the machine has the id of its vacancy
pub keep-requires-clause-core : goal.keep-requires-clause-core
keep-requires-clause-core g c =
    (started_at (callbacks_of g.M.Module g.M.State.PartialEq.eq c.args.module) c.args.module c.id-2.result c.args.vacancy.id (g.M.Module.init_is c.args.module c.args.arg.now)
    c.args.now 1 c.in-Ok-Running.field-0 c.in-Ok-Running.core c.in-Ok-Running.report c.id-2.ensures c.in-Ok-Running.field-0-is c.in-Ok-Running.ensures.start).1.of_id

-- it is kept, or its module comes back
pub returns-in-Ok-Running : goal.returns-in-Ok-Running
returns-in-Ok-Running g c =
    let started = started_at (callbacks_of g.M.Module g.M.State.PartialEq.eq c.args.module) c.args.module c.id-2.result c.args.vacancy.id
    (g.M.Module.init_is c.args.module c.args.arg.now) c.args.now 1 c.in-Ok-Running.field-0 c.in-Ok-Running.core c.in-Ok-Running.report c.id-2.ensures c.in-Ok-Running.field-0-is c.in-Ok-Running.ensures.start in
    record {
      starts = kept_starts c.args.module _ c.args.vacancy c.args.directory.now c.keep.new.directory c.in-Ok-Running.core c.in-Ok-Running.report c.keep.result started.0
          started.1.of_module c.keep.ensures.keeps c.keep.ensures.refusals c.keep.ensures.unchanged;
    }

-- a start that is refused gives the module back
pub returns-in-Err-start : goal.returns-in-Err-start
returns-in-Err-start g c =
    let refused = refused_at (callbacks_of g.M.Module g.M.State.PartialEq.eq c.args.module) c.args.module c.id-2.result c.args.vacancy.id
    (g.M.Module.init_is c.args.module c.args.arg.now) c.args.now 1 c.in-Err-start.refused c.id-2.ensures c.in-Err-start.ensures.start in
    record { starts = (refused.0, refused.1, refl) }
