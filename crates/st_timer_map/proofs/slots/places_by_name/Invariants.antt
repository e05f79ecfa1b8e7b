use Rattle.std.proofs.Common.{◌≡◌, ℕ, nat_eq, take}
use Rattle.std.specs.HashMap.{get}
use Rattle.st_events.specs.declared.timer.Timer.TheVariants.{Named}
use Rattle.st_timer_map.specs.Slots.{place_of}
use Rattle.st_timer_map.proofs.slots.places_by_name.Given as goal

-- the map has the places of the names so far
abbrev pub invariant-loop-place : goal.invariant-loop-place
invariant-loop-place g l = (name : ℕ) → get nat_eq l.named name ≡ place_of (Named name) (take l.place l.slots)
