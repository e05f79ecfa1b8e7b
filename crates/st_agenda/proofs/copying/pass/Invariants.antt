use Rattle.std.proofs.Common.{◌≡◌, ◌+◌, ◌≤◌, ◌++◌, length, take}
use Rattle.std.specs.Vec.{vec_capacity}
use Rattle.st_agenda.specs.Waiting.{slot_numbers}
use Rattle.st_agenda.proofs.copying.pass.Given as goal

-- so many slots are passed, and their numbers listed
abbrev pub invariant-loop-place : goal.invariant-loop-place
invariant-loop-place g l = record {
  passed : l.queue ≡ record l.fn.queue { cursor = l._place };
  numbers : l.numbers.items ≡ l.fn.numbers.items ++ slot_numbers (take l._place l.fn.queue.items);
  room : length l.numbers.items + l.fn.count ≤ vec_capacity l.numbers + l._place;
}
