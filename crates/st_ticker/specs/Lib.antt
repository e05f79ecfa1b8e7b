-- What a ticker notes, what its thread does next, what is known of a tick, and when a pool with a ticker has ended.
pub mod Alarms
pub mod Ticks
pub mod Ended
