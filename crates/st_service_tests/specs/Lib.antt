-- What a clerk does, and what a courier does.
pub mod Clerk
pub mod Courier
