use Rattle.std.proofs.Common.{Some, Ok, Err, refl}
use Rattle.st_core.specs.Callbacks.{callbacks_of}
use Rattle.st_cell.specs.Calls.{TakesOut, Turns}
use Rattle.st_cell.proofs.PostLemmas.{takes_nothing, turns_nothing}
use Rattle.st_lock_inner.proofs.LeftLemmas.{inner_called, is_left, serves_turned}
use Rattle.st_lock_inner.proofs.inner.Inner.serve.Goals as goal

-- nothing was posted by the take-out, nor by the turn after it
pub invariant_of-self : goal.invariant_of-self
invariant_of-self g c =
    inner_called (TakesOut (callbacks_of g.M.Module g.M.State.PartialEq.eq) c.self.inside.cell.cell c.args.token c.take_out.result) c.self.inside.cell c.take_out.new.self c.self.inside.ends.items
    (λ after does. takes_nothing (callbacks_of g.M.Module g.M.State.PartialEq.eq) c.self.inside.cell.cell after c.args.token c.take_out.result does) c.take_out.ensures.does c.self.invariant

pub invariant_of-self-in-Ok-None : goal.invariant_of-self-in-Ok-None
invariant_of-self-in-Ok-None g c =
    inner_called (Turns (callbacks_of g.M.Module g.M.State.PartialEq.eq) c.take_out.new.self.cell c.args.token c.args.now c.turn.result) c.take_out.new.self c.turn.new.self c.self.inside.ends.items
    (λ after does. turns_nothing (callbacks_of g.M.Module g.M.State.PartialEq.eq) c.take_out.new.self.cell after c.args.token c.args.now c.turn.result does) c.turn.ensures.does
    (inner_called (TakesOut (callbacks_of g.M.Module g.M.State.PartialEq.eq) c.self.inside.cell.cell c.args.token c.take_out.result) c.self.inside.cell c.take_out.new.self c.self.inside.ends.items
    (λ after does. takes_nothing (callbacks_of g.M.Module g.M.State.PartialEq.eq) c.self.inside.cell.cell after c.args.token c.take_out.result does) c.take_out.ensures.does c.self.invariant)

-- a message was taken out
pub returns-in-Ok-Some-clause-does : goal.returns-in-Ok-Some-clause-does
returns-in-Ok-Some-clause-does g c =
    let took = rw c.in-Ok-Some.field-0-is at c.in-Ok-Some.ensures.does in
    rw (← c.self.view_is) (took.0, (Ok (Some c.in-Ok-Some.message), took.0, took.1, (refl, refl)), is_left c.self.inside.cell c.take_out.new.self took.0 took.2)

-- none was, and a turn was made
pub returns-in-Ok-None-clause-does : goal.returns-in-Ok-None-clause-does
returns-in-Ok-None-clause-does g c =
    rw (← c.self.view_is) (serves_turned (callbacks_of g.M.Module g.M.State.PartialEq.eq) c.self.inside.cell c.take_out.new.self c.turn.new.self c.args.token c.args.now c.turn.result _
    (rw c.in-Ok-None.field-0-is at c.in-Ok-None.ensures.does) c.turn.ensures.does c.turned.ensures)

-- the take-out was refused
pub returns-in-Err-clause-does : goal.returns-in-Err-clause-does
returns-in-Err-clause-does g c =
    let took = c.in-Err.ensures.does in
    rw (← c.self.view_is) (took.0, (Err c.in-Err.refused, took.0, took.1, (refl, refl)), is_left c.self.inside.cell c.take_out.new.self took.0 took.2)
