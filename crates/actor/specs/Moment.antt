-- The moment, by what the clock gives.
use Rattle.std.specs.Prelude.{ℕ, ◌^◌, Option, Some, None, max, nat_lt, if◌then◌else◌}

-- the moment where so many milliseconds have passed since the start, and this is the latest: the later of the two; where nothing
-- is known, or so many are too far for a moment, the latest
abbrev pub moment_of : Option ℕ → ℕ → ℕ
moment_of None latest = latest
moment_of (Some passed) latest = if nat_lt passed (2 ^ 63) then max passed latest else latest
