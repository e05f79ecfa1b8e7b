use Rattle.std.proofs.Common.{refl, sym}
use Rattle.st_cell.proofs.copying.copied_command.Goals as goal

-- each kind of command is a copy
pub returns-in-Tick : goal.returns-in-Tick
returns-in-Tick g c = sym c.in-Tick.is

pub returns-in-Turn : goal.returns-in-Turn
returns-in-Turn g c = sym c.in-Turn.is

pub returns-in-Collect : goal.returns-in-Collect
returns-in-Collect g c = sym c.in-Collect.is

pub returns-in-Stop : goal.returns-in-Stop
returns-in-Stop g c = sym c.in-Stop.is

pub returns-in-TakeOut : goal.returns-in-TakeOut
returns-in-TakeOut g c = sym c.in-TakeOut.is

pub returns-in_ok-copy_of-in-Post : goal.returns-in_ok-copy_of-in-Post
returns-in_ok-copy_of-in-Post g c = rw (c.in_ok-copy_of-in-Post.ensures, c.in-Post.is) refl

pub returns-in_ok-copy_of-in-Reply : goal.returns-in_ok-copy_of-in-Reply
returns-in_ok-copy_of-in-Reply g c = rw (c.in_ok-copy_of-in-Reply.ensures, c.in-Reply.is) refl
