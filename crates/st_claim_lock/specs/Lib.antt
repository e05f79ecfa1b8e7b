-- The rule of a lock with claims, and what contracts see of it and of its holders.
pub mod Holders
pub mod Rule
