-- What lists are to contracts, the numbers of refusals, what has to fit in memory, what a module owes, and
-- when two timers are one.
pub mod Building
pub mod Laws
pub mod Places
pub mod Refusal
pub mod Rows
pub mod Timers
