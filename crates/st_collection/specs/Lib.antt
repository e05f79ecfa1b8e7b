-- What a collection of requests is.
pub mod Collection
