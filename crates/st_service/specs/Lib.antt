-- What an observer is told, what is posted through a service's port, and what it is that a service starts.
pub mod Reports
pub mod Ports
pub mod Spawning
