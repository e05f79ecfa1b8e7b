-- What a connection answers, by its table.
pub mod Pooling
