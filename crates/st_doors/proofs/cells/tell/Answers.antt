use Rattle.st_doors.proofs.cells.tell.Goals as goal

-- each command is told as it is
pub returns-in-Post-clause-answer : goal.returns-in-Post-clause-answer
returns-in-Post-clause-answer c = rw c.in-Post.is c.post.ensures.answer

pub returns-in-Post-clause-told : goal.returns-in-Post-clause-told
returns-in-Post-clause-told c = rw c.in-Post.is c.post.ensures.told

pub returns-in-Tick-clause-answer : goal.returns-in-Tick-clause-answer
returns-in-Tick-clause-answer c = rw c.in-Tick.is c.tick.ensures.answer

pub returns-in-Tick-clause-told : goal.returns-in-Tick-clause-told
returns-in-Tick-clause-told c = rw c.in-Tick.is c.tick.ensures.told

pub returns-in-Reply-clause-answer : goal.returns-in-Reply-clause-answer
returns-in-Reply-clause-answer c = rw c.in-Reply.is c.reply.ensures.answer

pub returns-in-Reply-clause-told : goal.returns-in-Reply-clause-told
returns-in-Reply-clause-told c = rw c.in-Reply.is c.reply.ensures.told

pub returns-in-Collect-clause-answer : goal.returns-in-Collect-clause-answer
returns-in-Collect-clause-answer c = rw c.in-Collect.is c.collect.ensures.answer

pub returns-in-Collect-clause-told : goal.returns-in-Collect-clause-told
returns-in-Collect-clause-told c = rw c.in-Collect.is c.collect.ensures.told

pub returns-in-Stop-clause-answer : goal.returns-in-Stop-clause-answer
returns-in-Stop-clause-answer c = rw c.in-Stop.is c.stop.ensures.answer

pub returns-in-Stop-clause-told : goal.returns-in-Stop-clause-told
returns-in-Stop-clause-told c = rw c.in-Stop.is c.stop.ensures.told
