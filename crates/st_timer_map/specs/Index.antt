-- The index from timers to places.
use Rattle.std.specs.Prelude.{◌≡◌, ℕ, ◌≤◌, Bool, true, nat_eq, Option, Some, None, is_some, IfSome, List}
use Rattle.std.specs.Global.{Box}
use Rattle.std.specs.HashMap.{HashMap, get, spare}
use Rattle.st_events.specs.declared.timer.Timer.{Timer}
use Rattle.st_events.specs.declared.timer.Timer.TheVariants as timer
use Rattle.st_timer_map.specs.declared.index.Index.{Index}
use Rattle.st_timer_map.specs.declared.bucket.Bucket.{Bucket}
use Rattle.st_timer_map.specs.Slots.{place_of}

-- whether it tells the place of this timer; of those with a name it tells none where it has no map
abbrev pub knows : Index → Timer → Bool
knows index timer.Event = true
knows index timer.State = true
knows index (timer.Named name) = is_some index.named

-- the place of a name
abbrev pub name_place_in : {S : Type 0} → Option (Box (HashMap ℕ ℕ S)) → ℕ → Option ℕ
name_place_in None name = None
name_place_in (Some map) name = get nat_eq map.value name

-- the place that it tells of a timer
abbrev pub place_in : Index → Timer → Option ℕ
place_in index timer.Event = index.event
place_in index timer.State = index.state
place_in index (timer.Named name) = name_place_in index.named name

-- so many timers more can be written that it does not tell of, without memory
abbrev pub HasRoom : Index → ℕ → Type 0
HasRoom index count = IfSome index.named (λ map. count ≤ spare map.value)

-- where a timer's place is written anew it takes no room
abbrev pub HasPlace : Index → Timer → Type 0
HasPlace index timer = knows index timer ≡ true → is_some (place_in index timer) ≡ true

module _ {V : Type 0} where
  -- what ties it to the slots: the place that it tells of a timer is that of the timer's slot
  abbrev pub IsTied : Index → List (Option (Bucket V)) → Type 0
  IsTied index slots = (timer : Timer) → knows index timer ≡ true → place_in index timer ≡ place_of timer slots
