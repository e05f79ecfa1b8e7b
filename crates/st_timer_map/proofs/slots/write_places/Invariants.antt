use Rattle.std.proofs.Common.{◌≡◌, ℕ, true, take}
use Rattle.std.specs.Option.{option_or}
use Rattle.st_events.specs.declared.timer.Timer.{Timer}
use Rattle.st_timer_map.specs.Slots.{place_of}
use Rattle.st_timer_map.specs.Index.{knows, place_in, HasRoom}
use Rattle.st_timer_map.proofs.slots.write_places.Given as goal

-- of the timers so far the index tells the place, and of the others what it told
abbrev pub invariant-loop-place : goal.invariant-loop-place
invariant-loop-place g l = record {
  same : (timer : Timer) → knows l.index timer ≡ knows l.fn.index timer;
  places : (timer : Timer) → knows l.fn.index timer ≡ true → place_in l.index timer ≡ option_or (place_of timer (take l.place l.slots)) (place_in l.fn.index timer);
  room : (count : ℕ) → HasRoom l.fn.index count → HasRoom l.index count;
}
