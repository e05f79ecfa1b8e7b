pub mod Described
pub mod Hosted
pub mod Table
