use Rattle.std.proofs.Common.{◌≡◌, ◌+◌, ◌^◌, ◌<◌, ◌≤◌, length, ◌-◌}
use Rattle.st_queue.proofs.event_queue.EventQueue.fill.Given as goal

abbrev pub invariant-loop-made : goal.invariant-loop-made
invariant-loop-made g l =
    (l.steps ≡ l.initial.steps) × (length l.made.items ≤ l.initial.count) × (length l.self.items + l.self.staged + length l.made.items < 2 ^ 63)

abbrev pub decreases-loop-made : goal.decreases-loop-made
decreases-loop-made g l = l.initial.count - length l.made.items
