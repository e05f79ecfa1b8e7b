use Rattle.st_core.specs.Callbacks.{callbacks_of}
use Rattle.st_cell.proofs.TellingLemmas.{port_posted, port_refused, room_counted}
use Rattle.st_cell.proofs.journaled.Journaled.post.Goals as goal

-- the ports are as they were, until this post is counted
pub count_post-requires-clause-open : goal.count_post-requires-clause-open
count_post-requires-clause-open g c = rw c.post_from.ensures.ports c.requires.open

pub count_post-requires-clause-bounded : goal.count_post-requires-clause-bounded
count_post-requires-clause-bounded g c = rw c.post_from.ensures.ports c.requires.bounded

-- the post was taken, and is counted
pub returns-in-Ok-clause-does : goal.returns-in-Ok-clause-does
returns-in-Ok-clause-does g c =
    port_posted (callbacks_of g.M.Module g.M.State.PartialEq.eq) c.args.self.now.cell c.post_from.new.self.cell c.count_post.new.self.cell c.args.port c.args.entry c.args.content
    c.in-Ok.posted.number c.in-Ok.posted.wake c.in-Ok.ensures.does c.post_from.ensures.ports c.count_post.ensures.counted

pub returns-in-Ok-clause-room : goal.returns-in-Ok-clause-room
returns-in-Ok-clause-room g c room =
    room_counted c.post_from.new.self c.count_post.new.self _ c.count_post.ensures.counted c.count_post.ensures.places (c.post_from.ensures.room room)

pub returns-in-Ok-clause-returned : goal.returns-in-Ok-clause-returned
returns-in-Ok-clause-returned g c = tt

-- the post was refused
pub returns-in-Err-clause-does : goal.returns-in-Err-clause-does
returns-in-Err-clause-does g c =
    port_refused (callbacks_of g.M.Module g.M.State.PartialEq.eq) c.args.self.now.cell c.post_from.new.self.cell c.args.port c.args.entry c.args.content _ c.in-Err.ensures.does

pub returns-in-Err-clause-room : goal.returns-in-Err-clause-room
returns-in-Err-clause-room g c = c.post_from.ensures.room

pub returns-in-Err-clause-returned : goal.returns-in-Err-clause-returned
returns-in-Err-clause-returned g c = c.in-Err.ensures.returned
