-- The definitions computed on an example.
pub mod WorkedAlarms
