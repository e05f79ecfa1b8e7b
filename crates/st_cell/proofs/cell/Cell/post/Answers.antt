use Rattle.std.proofs.Common.{◌≤◌, ◌<◌, ◌^◌, subst, arith}
use Rattle.st_core.specs.Callbacks.{callbacks_of}
use Rattle.st_scheduled.specs.Answered.{posted_as}
use Rattle.st_cell.specs.Calls.{Posts}
use Rattle.st_cell.specs.Cell.{count_for}
use Rattle.st_cell.proofs.CellLemmas.{posts_kept, posts_unchanged, posts_open}
use Rattle.st_cell.proofs.PostLemmas.{posts_one}
use Rattle.st_cell.proofs.cell.Cell.post.Goals as goal

-- the port is open in what is inside
pub post-requires-clause-open : goal.post-requires-clause-open
post-requires-clause-open g c = rw c.self.view_is c.requires

-- a port has posted no more events than there were commands
pub post-requires-clause-bounded : goal.post-requires-clause-bounded
post-requires-clause-bounded g c =
    let bounded : count_for c.args.port c.self.inside.journaled.cell ≤ c.self.inside.journaled.cell.scheduled.count =
    c.self.invariant.journaled.counted.bounded c.args.port (rw c.self.view_is c.requires) in
    let limited : c.self.inside.journaled.cell.scheduled.count < 2 ^ 63 = c.self.invariant.journaled.limited in
    omega (arith, bounded, limited)

-- it stays a cell
pub invariant_of-self : goal.invariant_of-self
invariant_of-self g c = record {
  journaled = posts_kept (callbacks_of g.M.Module g.M.State.PartialEq.eq) c.self.inside.journaled.cell c.post.new.self.cell c.args.port c.args.entry c.args.content
      (posted_as c.post.result) (rw c.self.view_is c.requires) c.post.ensures.does c.self.invariant.journaled;
  room = c.post.ensures.room c.self.invariant.room;
}

-- it is what the machine with its journal did
pub returns-clause-does : goal.returns-clause-does
returns-clause-does g c =
    subst (λ cell. Posts (callbacks_of g.M.Module g.M.State.PartialEq.eq) cell c.args.port c.args.entry c.args.content (posted_as c.post.result) c.post.new.self.cell) c.self.view_is c.post.ensures.does

-- a refused post changes nothing, and gives the content back
pub returns-clause-unchanged : goal.returns-clause-unchanged
returns-clause-unchanged g c =
    rw (← c.self.view_is) (posts_unchanged (callbacks_of g.M.Module g.M.State.PartialEq.eq) c.self.inside.journaled.cell c.post.new.self.cell c.args.port c.args.entry c.args.content c.post.result c.post.ensures.does)

pub returns-clause-returned : goal.returns-clause-returned
returns-clause-returned g c = c.post.ensures.returned

-- the open ports stay open
pub returns-clause-ports : goal.returns-clause-ports
returns-clause-ports g c =
    rw (← c.self.view_is) (posts_open (callbacks_of g.M.Module g.M.State.PartialEq.eq) c.self.inside.journaled.cell c.post.new.self.cell c.args.port c.args.entry c.args.content (posted_as c.post.result) c.post.ensures.does)

-- a post that was taken is one more of its port
pub returns-clause-posted : goal.returns-clause-posted
returns-clause-posted g c =
    rw (← c.self.view_is) (posts_one (callbacks_of g.M.Module g.M.State.PartialEq.eq) c.self.inside.journaled.cell c.post.new.self.cell c.args.port c.args.entry c.args.content c.post.result c.post.ensures.does)
