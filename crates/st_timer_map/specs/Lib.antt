-- What values kept by timer are.
pub mod Index
pub mod Rows
pub mod Slots
pub mod Sound
