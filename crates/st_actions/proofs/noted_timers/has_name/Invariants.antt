use Rattle.std.proofs.Common.{◌≡◌, ◌==◌, ℕ, false, take}
use Rattle.std.specs.List.{list_any}
use Rattle.st_actions.proofs.noted_timers.has_name.Given as goal

-- none of the names so far is the one
abbrev pub invariant-loop-index : goal.invariant-loop-index
invariant-loop-index l = record { none : list_any (λ (other : ℕ). l.name == other) (take l.index l.names) ≡ false }
