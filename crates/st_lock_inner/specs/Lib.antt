-- What lies under a machine's lock, and how it is served.
pub mod Inner
pub mod Service
