-- What a worker does.
pub mod Round
