use Rattle.std.proofs.Common.{refl, sym}
use Rattle.st_cell.proofs.copying.copied_answer.Goals as goal

-- each kind of answer but that of a turn is a copy
pub returns-in-Tick : goal.returns-in-Tick
returns-in-Tick g c = sym c.in-Tick.is

pub returns-in-Reply : goal.returns-in-Reply
returns-in-Reply g c = sym c.in-Reply.is

pub returns-in-Stop : goal.returns-in-Stop
returns-in-Stop g c = sym c.in-Stop.is

pub returns-in_ok-copied_posted-in-Post : goal.returns-in_ok-copied_posted-in-Post
returns-in_ok-copied_posted-in-Post g c = rw (c.in_ok-copied_posted-in-Post.ensures, c.in-Post.is) refl

pub returns-in_ok-copied_collected-in-Collect : goal.returns-in_ok-copied_collected-in-Collect
returns-in_ok-copied_collected-in-Collect g c = rw (c.in_ok-copied_collected-in-Collect.ensures, c.in-Collect.is) refl

pub returns-in_ok-copied_taken-in-TakeOut : goal.returns-in_ok-copied_taken-in-TakeOut
returns-in_ok-copied_taken-in-TakeOut g c = rw (c.in_ok-copied_taken-in-TakeOut.ensures, c.in-TakeOut.is) refl
