use Rattle.std.proofs.Common.{◌≡◌, ◌+◌, ◌≤◌, ◌++◌, length}
use Rattle.std.specs.Vec.{vec_len, vec_capacity}
use Rattle.std.specs.VecDeque.Iter.{deque_iter_rest}
use Rattle.st_outbox.proofs.outgoing.copy_messages.Given as goal

-- the messages so far are copied, and there is room for the others
abbrev pub invariant-loop-message : goal.invariant-loop-message
invariant-loop-message g l = record {
  items : l.messages.items ≡ l.copies.items ++ deque_iter_rest l.message-iterator;
  room : vec_len l.copies + length (deque_iter_rest l.message-iterator) ≤ vec_capacity l.copies;
}
