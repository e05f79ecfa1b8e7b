use Rattle.std.proofs.Common.{sym, subst}
use Rattle.std.specs.Prelude.{Ok, Err}
use Rattle.st_core.specs.Callbacks.{callbacks_of}
use Rattle.st_scheduled.specs.Answered.{posted_as}
use Rattle.st_cell.specs.Calls.{Posts}
use Rattle.st_cell.specs.Cell.{CellState}
use Rattle.st_any_cell.specs.AnyCell.{bare_cell, IsCutBehind}
use Rattle.st_any_cell.proofs.BareLemmas.{bare_posted}
use Rattle.st_any_cell.proofs.bare.Bare.post.Goals as goal

-- the ports are as they were, until this post is counted
pub count_post-requires-clause-open : goal.count_post-requires-clause-open
count_post-requires-clause-open g c = c.requires.open

pub count_post-requires-clause-bounded : goal.count_post-requires-clause-bounded
count_post-requires-clause-bounded g c = c.requires.bounded

-- it was taken
pub returns-in-Ok-clause-does : goal.returns-in-Ok-clause-does
returns-in-Ok-clause-does g c =
    subst (λ (cell : CellState _ _ _ _). IsCutBehind (Posts (callbacks_of g.M.Module g.M.State.PartialEq.eq) (bare_cell c.args.self.now) c.args.port c.args.entry c.args.content (posted_as (Ok c.in-Ok.posted))) cell) (sym c.count_post.ensures.counted)
    (bare_posted (callbacks_of g.M.Module g.M.State.PartialEq.eq) c.args.self.now.scheduled c.args.self.now.ports.items c.args.port c.args.entry c.args.content (posted_as (Ok c.in-Ok.posted)) c.post.new.self c.in-Ok.ensures.told)

-- it was refused
pub returns-in-Err-clause-does : goal.returns-in-Err-clause-does
returns-in-Err-clause-does g c =
    bare_posted (callbacks_of g.M.Module g.M.State.PartialEq.eq) c.args.self.now.scheduled c.args.self.now.ports.items c.args.port c.args.entry c.args.content (posted_as (Err c.in-Err.refused)) c.post.new.self c.in-Err.ensures.told

-- and the content comes back
pub returns-in-Ok-clause-returned : goal.returns-in-Ok-clause-returned
returns-in-Ok-clause-returned g c = tt

pub returns-in-Err-clause-returned : goal.returns-in-Err-clause-returned
returns-in-Err-clause-returned g c = c.in-Err.ensures.returned
