-- What a start under a registry comes to.
pub mod Registry
