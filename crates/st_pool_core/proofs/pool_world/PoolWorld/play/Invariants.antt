use Rattle.std.proofs.Common.{◌≡◌, ◌++◌, length, vec_len, vec_capacity}
use Rattle.std.specs.Vec.Iter.{into_iter_items}
use Rattle.st_core.specs.Callbacks.{callbacks_of}
use Rattle.st_pool_core.specs.Play.{Plays}
use Rattle.st_pool_core.proofs.pool_world.PoolWorld.play.Given as goal

abbrev pub invariant-loop-step : goal.invariant-loop-step
invariant-loop-step g l =
    record {
      can_next : (goal.iterator-loop-step g).can_next l.step-iterator;
      is_finite : (goal.iterator-loop-step g).is_finite l.step-iterator;
      split : l.yielded ++ into_iter_items l.step-iterator ≡ l.fn.steps.items;
      reserved : vec_capacity l.answers ≡ length l.fn.steps.items;
      count : vec_len l.answers ≡ length l.yielded;
      played : Plays (callbacks_of g.M.Module g.M.State.PartialEq.eq) l.fn.self l.yielded l.answers.items l.self;
    }
