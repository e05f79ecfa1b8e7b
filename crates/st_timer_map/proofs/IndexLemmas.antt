-- What the index tells, and its room.
use Rattle.std.proofs.Common.{◌≡◌, ℕ, ◌≤◌, nat_eq, true, List, refl, ap, ◌∙◌, arith}
use Rattle.std.specs.Prelude.{Option, Some, None, is_some, IfSome}
use Rattle.std.specs.Global.{Box}
use Rattle.std.specs.HashMap.{HashMap, get, spare}
use Rattle.st_events.specs.declared.timer.Timer.{Timer}
use Rattle.st_events.specs.declared.timer.Timer.TheVariants as timer
use Rattle.st_timer_map.specs.declared.index.Index.{Index}
use Rattle.st_timer_map.specs.declared.bucket.Bucket.{Bucket}
use Rattle.st_timer_map.specs.Rows.{value_of}
use Rattle.st_timer_map.specs.Slots.{rows_of, place_of}
use Rattle.st_timer_map.specs.Index.{name_place_in, HasRoom, IsTied, HasPlace}
use Rattle.st_timer_map.proofs.SlotLemmas.{known}

-- of a timer that has a value it tells the place
pub tells : {V : Type 0} (index : Index) (slots : List (Option (Bucket V))) (timer : Timer) → IsTied index slots
    → is_some (value_of timer (rows_of slots)) ≡ true → HasPlace index timer
tells index slots timer tied h = λ knows. ap is_some (tied timer knows) ∙ (known timer slots ∙ h)

less_by : {S : Type 0} (named : Option (Box (HashMap ℕ ℕ S))) (n m : ℕ) → n ≤ m → IfSome named (λ map. m ≤ spare map.value) → IfSome named (λ map. n ≤ spare map.value)
less_by None n m less h = tt
less_by (Some map) n m less h = omega arith

-- room for more is room for fewer
pub room_less : (index : Index) (n m : ℕ) → n ≤ m → HasRoom index m → HasRoom index n
room_less index n m less h = less_by index.named n m less h

-- with a map for the names that tells their places it tells all places
pub tied_with_names : {V : Type 0} (old new : Index) (names : _) (slots : List (Option (Bucket V))) → new ≡ record old { named = Some names }
    → ((name : ℕ) → get nat_eq names.value name ≡ place_of (timer.Named name) slots) → IsTied old slots → IsTied new slots
tied_with_names old new names slots is told tied timer.Event knows = ap (λ index. index.event) is ∙ tied timer.Event refl
tied_with_names old new names slots is told tied timer.State knows = ap (λ index. index.state) is ∙ tied timer.State refl
tied_with_names old new names slots is told tied (timer.Named name) knows = ap (λ index. name_place_in index.named name) is ∙ told name
