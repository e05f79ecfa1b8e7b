-- What a port claims of what lies under a machine's lock, what a machine is, what a port is, and how much a machine may keep.
pub mod Claims
pub mod Machines
pub mod Ports
pub mod Bounded
