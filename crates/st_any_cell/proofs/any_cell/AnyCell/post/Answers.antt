use Rattle.std.proofs.Common.{subst}
use Rattle.st_core.specs.Callbacks.{callbacks_of}
use Rattle.st_scheduled.specs.Answered.{posted_as}
use Rattle.st_cell.specs.Calls.{Posts}
use Rattle.st_cell.specs.Cell.{IsOpen}
use Rattle.st_cell.proofs.CellLemmas.{posts_kept, posts_open, posts_unchanged}
use Rattle.st_any_cell.specs.AnyCell.{AnyCellState, bare_cell, IsAnyCell, Leaves, state_of}
use Rattle.st_any_cell.proofs.FormLemmas.{any_kept, any_open, any_unchanged, far_below, in_journaled, in_unjournaled, journaled_called, unjournaled_called, was_unjournaled}
use Rattle.st_any_cell.proofs.any_cell.AnyCell.post.Goals as goal
use Rattle.st_any_cell.proofs.any_cell.AnyCell.post.Goals.{in-Journaled, in-Unjournaled}

-- the port is open in the form at hand
pub post-requires : goal.post-requires
post-requires g c =
    in_journaled (λ cell. IsOpen c.args.port cell) c.self.inside.form c.in-Journaled.cell c.deref_mut.result.now c.args.self.now
    c.in-Journaled.is c.deref_mut.ensures.value c.self.view_is c.requires

pub post-requires-in-Unjournaled-clause-open : goal.post-requires-in-Unjournaled-clause-open
post-requires-in-Unjournaled-clause-open g c =
    in_unjournaled (λ cell. IsOpen c.args.port cell) c.self.inside.form c.in-Unjournaled.bare c.args.self.now c.in-Unjournaled.is c.self.view_is c.requires

-- and has posted fewer events than 2^63
pub post-requires-in-Unjournaled-clause-bounded : goal.post-requires-in-Unjournaled-clause-bounded
post-requires-in-Unjournaled-clause-bounded g c =
    far_below (callbacks_of g.M.Module g.M.State.PartialEq.eq) c.args.port (bare_cell c.in-Unjournaled.bare)
    (was_unjournaled (callbacks_of g.M.Module g.M.State.PartialEq.eq) c.self.inside.form c.in-Unjournaled.bare c.in-Unjournaled.is c.self.invariant)
    (in_unjournaled (λ cell. IsOpen c.args.port cell) c.self.inside.form c.in-Unjournaled.bare c.args.self.now c.in-Unjournaled.is c.self.view_is c.requires)

-- it stays a cell
pub invariant_of-self : goal.invariant_of-self
invariant_of-self g c =
    any_kept (callbacks_of g.M.Module g.M.State.PartialEq.eq) (Posts (callbacks_of g.M.Module g.M.State.PartialEq.eq) (state_of c.self.inside.form).cell c.args.port c.args.entry c.args.content (posted_as c.match-self.result)) (state_of c.self.inside.form) (state_of c.match-self.self-inside.form)
    (λ after does. posts_kept (callbacks_of g.M.Module g.M.State.PartialEq.eq) (state_of c.self.inside.form).cell after c.args.port c.args.entry c.args.content (posted_as c.match-self.result) (rw c.self.view_is c.requires) does c.self.invariant.journaled)
    (elim c.match-self.branch [
      | in-Journaled w ↦ journaled_called (λ old result after. Posts (callbacks_of g.M.Module g.M.State.PartialEq.eq) old c.args.port c.args.entry c.args.content (posted_as result) after) c.self.inside.form c.match-self.self-inside w.in-Journaled.cell w.deref_mut.result.now w.post.new.self w.post.result c.match-self.result
          w.in-Journaled.is w.deref_mut.ensures.value w.self-inside-is w.result-is w.post.ensures.does
      | in-Unjournaled w ↦ unjournaled_called (λ old result after. Posts (callbacks_of g.M.Module g.M.State.PartialEq.eq) old c.args.port c.args.entry c.args.content (posted_as result) after) c.self.inside.form c.match-self.self-inside w.in-Unjournaled.bare w.post-in-Unjournaled.new.self w.post-in-Unjournaled.result c.match-self.result
          w.in-Unjournaled.is w.self-inside-is w.result-is w.post-in-Unjournaled.ensures.does
    ])

-- it does what a cell does
pub returns-clause-does : goal.returns-clause-does
returns-clause-does g c =
    subst (λ (state : AnyCellState _ _ _ _). Leaves state (Posts (callbacks_of g.M.Module g.M.State.PartialEq.eq) state.cell c.args.port c.args.entry c.args.content (posted_as c.match-self.result)) (state_of c.match-self.self-inside.form)) c.self.view_is
    (elim c.match-self.branch [
      | in-Journaled w ↦ journaled_called (λ old result after. Posts (callbacks_of g.M.Module g.M.State.PartialEq.eq) old c.args.port c.args.entry c.args.content (posted_as result) after) c.self.inside.form c.match-self.self-inside w.in-Journaled.cell w.deref_mut.result.now w.post.new.self w.post.result c.match-self.result
          w.in-Journaled.is w.deref_mut.ensures.value w.self-inside-is w.result-is w.post.ensures.does
      | in-Unjournaled w ↦ unjournaled_called (λ old result after. Posts (callbacks_of g.M.Module g.M.State.PartialEq.eq) old c.args.port c.args.entry c.args.content (posted_as result) after) c.self.inside.form c.match-self.self-inside w.in-Unjournaled.bare w.post-in-Unjournaled.new.self w.post-in-Unjournaled.result c.match-self.result
          w.in-Unjournaled.is w.self-inside-is w.result-is w.post-in-Unjournaled.ensures.does
    ])

-- and the open ports stay open
pub returns-clause-ports : goal.returns-clause-ports
returns-clause-ports g c =
    any_open (Posts (callbacks_of g.M.Module g.M.State.PartialEq.eq) c.args.self.now.cell c.args.port c.args.entry c.args.content (posted_as c.match-self.result)) c.args.self.now (state_of c.match-self.self-inside.form)
    (λ after does. posts_open (callbacks_of g.M.Module g.M.State.PartialEq.eq) c.args.self.now.cell after c.args.port c.args.entry c.args.content (posted_as c.match-self.result) does) (returns-clause-does g c)

-- a refused post changes nothing
pub returns-clause-unchanged : goal.returns-clause-unchanged
returns-clause-unchanged g c =
    any_unchanged (callbacks_of g.M.Module g.M.State.PartialEq.eq) (Posts (callbacks_of g.M.Module g.M.State.PartialEq.eq) c.args.self.now.cell c.args.port c.args.entry c.args.content (posted_as c.match-self.result)) c.args.self.now (state_of c.match-self.self-inside.form) c.match-self.result
    (λ after does. posts_unchanged (callbacks_of g.M.Module g.M.State.PartialEq.eq) c.args.self.now.cell after c.args.port c.args.entry c.args.content c.match-self.result does)
    (subst (λ (state : AnyCellState _ _ _ _). IsAnyCell (callbacks_of g.M.Module g.M.State.PartialEq.eq) state) c.self.view_is c.self.invariant) (returns-clause-does g c)

-- and gives the content back
pub returns-clause-returned : goal.returns-clause-returned
returns-clause-returned g c = elim c.match-self.branch [
  | in-Journaled w ↦ rw w.result-is w.post.ensures.returned
  | in-Unjournaled w ↦ rw w.result-is w.post-in-Unjournaled.ensures.returned
]
