-- The rule of a run queue, and what contracts see of its ends.
pub mod Ends
pub mod RunQueue
pub mod Seats
