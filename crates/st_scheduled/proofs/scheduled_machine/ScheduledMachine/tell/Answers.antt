use Rattle.st_answers.specs.declared.command.Command.TheVariants as command
use Rattle.st_core.specs.Callbacks.{callbacks_of}
use Rattle.st_scheduled.specs.Answered.{posted_as, ticked_as, served_as, replied_as, collected_as, stopped_as, taken_out_as}
use Rattle.st_scheduled.proofs.ServingLemmas.{tells_id}
use Rattle.st_scheduled.proofs.scheduled_machine.ScheduledMachine.tell.Goals as goal

-- each command is its own call, and leaves the id
pub returns-in-Post-clause-told : goal.returns-in-Post-clause-told
returns-in-Post-clause-told g c = rw (c.in-Post.is, c.posted.ensures) c.post.ensures.told

pub returns-in-Post-clause-same_id : goal.returns-in-Post-clause-same_id
returns-in-Post-clause-same_id g c =
    tells_id (callbacks_of g.M.Module g.M.State.PartialEq.eq) c.args.self.now (command.Post c.in-Post.entry c.in-Post.content) (posted_as c.post.result) c.post.new.self c.post.ensures.told

pub returns-in-Tick-clause-told : goal.returns-in-Tick-clause-told
returns-in-Tick-clause-told g c = rw (c.in-Tick.is, c.ticked.ensures) c.tick.ensures.told

pub returns-in-Tick-clause-same_id : goal.returns-in-Tick-clause-same_id
returns-in-Tick-clause-same_id g c =
    tells_id (callbacks_of g.M.Module g.M.State.PartialEq.eq) c.args.self.now (command.Tick c.in-Tick.now) (ticked_as c.tick.result) c.tick.new.self c.tick.ensures.told

pub returns-in-Turn-clause-told : goal.returns-in-Turn-clause-told
returns-in-Turn-clause-told g c = rw (c.in-Turn.is, c.served.ensures) c.turn.ensures.told

pub returns-in-Turn-clause-same_id : goal.returns-in-Turn-clause-same_id
returns-in-Turn-clause-same_id g c =
    tells_id (callbacks_of g.M.Module g.M.State.PartialEq.eq) c.args.self.now (command.Turn c.in-Turn.now) (served_as c.turn.result) c.turn.new.self c.turn.ensures.told

pub returns-in-Reply-clause-told : goal.returns-in-Reply-clause-told
returns-in-Reply-clause-told g c = rw (c.in-Reply.is, c.replied.ensures) c.reply.ensures.told

pub returns-in-Reply-clause-same_id : goal.returns-in-Reply-clause-same_id
returns-in-Reply-clause-same_id g c =
    tells_id (callbacks_of g.M.Module g.M.State.PartialEq.eq) c.args.self.now (command.Reply c.in-Reply.tag c.in-Reply.content) (replied_as c.reply.result) c.reply.new.self c.reply.ensures.told

pub returns-in-Collect-clause-told : goal.returns-in-Collect-clause-told
returns-in-Collect-clause-told g c = rw (c.in-Collect.is, c.collected.ensures) c.collect.ensures.told

pub returns-in-Collect-clause-same_id : goal.returns-in-Collect-clause-same_id
returns-in-Collect-clause-same_id g c =
    tells_id (callbacks_of g.M.Module g.M.State.PartialEq.eq) c.args.self.now (command.Collect c.in-Collect.tag) (collected_as c.collect.result) c.collect.new.self c.collect.ensures.told

pub returns-in-Stop-clause-told : goal.returns-in-Stop-clause-told
returns-in-Stop-clause-told g c = rw (c.in-Stop.is, c.stopped.ensures) c.stop.ensures.told

pub returns-in-Stop-clause-same_id : goal.returns-in-Stop-clause-same_id
returns-in-Stop-clause-same_id g c =
    tells_id (callbacks_of g.M.Module g.M.State.PartialEq.eq) c.args.self.now (command.Stop c.in-Stop.reason) (stopped_as c.stop.result) c.stop.new.self c.stop.ensures.told

pub returns-in-TakeOut-clause-told : goal.returns-in-TakeOut-clause-told
returns-in-TakeOut-clause-told g c = rw (c.in-TakeOut.is, c.taken_out.ensures) c.take_out.ensures.told

pub returns-in-TakeOut-clause-same_id : goal.returns-in-TakeOut-clause-same_id
returns-in-TakeOut-clause-same_id g c =
    tells_id (callbacks_of g.M.Module g.M.State.PartialEq.eq) c.args.self.now command.TakeOut (taken_out_as c.take_out.result) c.take_out.new.self c.take_out.ensures.told
