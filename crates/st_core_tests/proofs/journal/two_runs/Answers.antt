use Rattle.st_core.specs.Callbacks.{callbacks_of}
use Rattle.st_core.proofs.RunLemmas.{run_on}
use Rattle.st_core_tests.proofs.journal.two_runs.Goals as goal

pub returns : goal.returns
returns g c = record {
  runs = run_on (callbacks_of g.M.Module g.M.State.PartialEq.eq) c.args.core.now c.args.first.items c.in_ok-one.one.items c.run.new.self
      c.args.second.items c.in_ok-other.other.items c.run-2.new.self c.in_ok-one.ensures.run c.in_ok-other.ensures.run;
}
