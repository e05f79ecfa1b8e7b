use Rattle.std.proofs.Common.{◌≡◌, ◌-◌, ◌≤◌, ◌++◌, length}
use Rattle.std.specs.Vec.{vec_capacity}
use Rattle.st_agenda.specs.Agenda.{items_in}
use Rattle.st_agenda.specs.Waiting.{places_of}
use Rattle.st_agenda.proofs.CopyingLemmas.{unread}
use Rattle.st_agenda.proofs.copying.copy_items.Given as goal

-- what was read and what is still to be read is all; there is room for all; the queue's slots stay
abbrev pub invariant-loop-slot : goal.invariant-loop-slot
invariant-loop-slot g l = record {
  items : l.items.items ++ unread l.fn.timeouts.listed l.fn.received l.queue.cursor l.queue.items ≡ items_in l.fn.timeouts.listed (places_of l.fn.received l.queue.items);
  listed : length l.items.items ≤ l.queue.cursor;
  room : length l.queue.items ≤ vec_capacity l.items;
  slots : l.queue.items ≡ l.fn.queue.items;
  staged : l.queue.staged ≡ l.fn.queue.staged;
  within : l.queue.cursor ≤ length l.queue.items;
}

abbrev pub decreases-loop-slot : goal.decreases-loop-slot
decreases-loop-slot g l = length l.queue.items - l.queue.cursor
