-- What holds of the slots, the index and the numbers beside them.
use Rattle.std.specs.Prelude.{◌≡◌, ℕ, ◌+◌, ◌*◌, ◌≤◌, Option, List, length}
use Rattle.st_timer_map.specs.declared.index.Index.{Index}
use Rattle.st_timer_map.specs.declared.bucket.Bucket.{Bucket}
use Rattle.st_timer_map.specs.Rows.{OnceEach}
use Rattle.st_timer_map.specs.Slots.{rows_of}
use Rattle.st_timer_map.specs.Index.{HasRoom, IsTied}

-- each timer once, where the index says; and there is twice as
-- much memory as the timers need that are there and those that are reserved for
pub record IsSound {V : Type 0} (slots : List (Option (Bucket V))) (index : Index) (live reserved capacity : ℕ) : Type 0 where
  pub once_each : OnceEach (rows_of slots)
  pub tied : IsTied index slots
  pub counted : live ≡ length (rows_of slots)
  pub fits : 2 * (live + reserved) ≤ capacity
  pub room : HasRoom index reserved
