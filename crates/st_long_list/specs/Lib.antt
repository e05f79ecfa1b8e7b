-- What contracts see of a long list, and how its tiers are read as it.
pub mod Places
pub mod Tiers
