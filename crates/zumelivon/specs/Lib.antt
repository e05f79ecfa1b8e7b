pub mod Calls
pub mod Exports
pub mod Handed
pub mod Reading
pub mod Showing
pub mod Signals
