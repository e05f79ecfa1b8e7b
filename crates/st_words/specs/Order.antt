-- What the subcommand that clap has met asks for.
use Rattle.std.specs.Prelude.{ℕ, ◌≤◌, max, min, List, Option, Some, None, if◌then◌else◌, bytes_eq, codes}
use Rattle.clap.specs.Words.{Row, Text, first_of}
use Rattle.clap.specs.Walk.{byte_or_zero}
use Rattle.st_words.specs.declared.order.Order.{Order}
use Rattle.st_words.specs.declared.order.Order.TheVariants.{Run, Trace, Pool}

-- the number of workers that a text says, kept within 1 to 16: clap refuses each other number before this is asked
abbrev pub workers_of : Option Text → ℕ
workers_of None = 2
workers_of (Some text) = max 1 (min (byte_or_zero text) 16)

-- what a subcommand's name and the rows of its options ask for; clap refuses words with no subcommand, and with one of
-- another name, before this is asked
abbrev pub order_of : Option (Text × List Row) → Order
order_of None = Run
order_of (Some found) =
    if bytes_eq found.0 (codes "pool") then Pool (workers_of (first_of (codes "workers") found.1))
    else (if bytes_eq found.0 (codes "trace") then Trace else Run)

-- a pool has 1 to 16 workers
abbrev pub HasWorkers : Order → Type 0
HasWorkers Run = Unit {0}
HasWorkers Trace = Unit {0}
HasWorkers (Pool number) = (1 ≤ number) × (number ≤ 16)
