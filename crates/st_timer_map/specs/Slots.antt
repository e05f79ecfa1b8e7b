-- The slots in which values are kept, read as rows.
use Rattle.std.specs.Prelude.{ℕ, suc, Bool, false, if◌then◌else◌, Option, Some, None, List, [], ◌∷◌}
use Rattle.std.specs.List.{slice_set, slice_index_or}
use Rattle.std.specs.Option.{option_map}
use Rattle.st_events.specs.declared.timer.Timer.{Timer}
use Rattle.st_events.specs.Timers.{same_timer}
use Rattle.st_timer_map.specs.declared.bucket.Bucket.{Bucket}

module _ {V : Type 0} where
  -- a slot's row
  abbrev pub row_of : Bucket V → Timer × V
  row_of slot = (slot.timer, slot.value)

  -- whether it is the slot of this timer; a hole is of none
  abbrev pub is_for : Timer → Option (Bucket V) → Bool
  is_for timer None = false
  is_for timer (Some slot) = same_timer timer slot.timer

  -- the rows, without the holes
  abbrev pub rows_of : List (Option (Bucket V)) → List (Timer × V)
  rows_of [] = []
  rows_of (None ∷ slots) = rows_of slots
  rows_of (Some slot ∷ slots) = row_of slot ∷ rows_of slots

  -- the place of a timer's slot
  abbrev pub place_of : Timer → List (Option (Bucket V)) → Option ℕ
  place_of timer [] = None
  place_of timer (slot ∷ slots) = if is_for timer slot then Some 0 else option_map suc (place_of timer slots)

  -- with a hole at a place
  abbrev pub with_hole : List (Option (Bucket V)) → Option ℕ → List (Option (Bucket V))
  with_hole slots None = slots
  with_hole slots (Some place) = slice_set slots place None

  -- the slot at a place
  abbrev pub slot_at : List (Option (Bucket V)) → Option ℕ → Option (Bucket V)
  slot_at slots None = None
  slot_at slots (Some place) = slice_index_or slots place None

  -- the value in a slot
  abbrev pub value_in : Option (Bucket V) → Option V
  value_in slot = option_map (λ (one : Bucket V). one.value) slot

  -- with the value in a slot marked
  abbrev pub marked_slot : (V → V) → Option (Bucket V) → Option (Bucket V)
  marked_slot marked slot = option_map (λ (one : Bucket V). record one { value = marked one.value }) slot

  -- with the value at a place marked
  abbrev pub marked_at : (V → V) → List (Option (Bucket V)) → Option ℕ → List (Option (Bucket V))
  marked_at marked slots None = slots
  marked_at marked slots (Some place) = slice_set slots place (marked_slot marked (slice_index_or slots place None))
