-- What the measured modules do.
pub mod Latched
pub mod Loaded
