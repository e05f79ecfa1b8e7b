-- What the running time-outs of a machine are.
pub mod Entries
pub mod Keys
pub mod Order
pub mod Running
pub mod Timeouts
pub mod Waiting
pub mod Zeros
