-- What a table's expressions, rules and calls mean.
pub mod Values
pub mod Lent
pub mod Equality
pub mod Matching
pub mod Rules
pub mod Calls
pub mod Covers
