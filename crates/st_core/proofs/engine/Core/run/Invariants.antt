use Rattle.std.proofs.Common.{◌≡◌, ◌++◌, length, vec_len, vec_capacity}
use Rattle.std.specs.Vec.Iter.{into_iter_items}
use Rattle.st_core.specs.Callbacks.{callbacks_of}
use Rattle.st_core.specs.Run.{Runs}
use Rattle.st_core.proofs.engine.Core.run.Given as goal

abbrev pub invariant-loop-command : goal.invariant-loop-command
invariant-loop-command g l =
    record {
      can_next : (goal.iterator-loop-command g).can_next l.command-iterator;
      is_finite : (goal.iterator-loop-command g).is_finite l.command-iterator;
      split : l.yielded ++ into_iter_items l.command-iterator ≡ l.fn.commands.items;
      reserved : vec_capacity l.answers ≡ length l.fn.commands.items;
      count : vec_len l.answers ≡ length l.yielded;
      run : Runs (callbacks_of g.M.Module g.M.State.PartialEq.eq) l.fn.self l.yielded l.answers.items l.self;
    }
