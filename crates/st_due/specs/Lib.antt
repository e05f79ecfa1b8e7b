-- What the machines that are due some time are.
pub mod Machines
pub mod Places
pub mod Tournament
